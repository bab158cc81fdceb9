use Rattle.decimal_json.proofs.Walks.{walk_at, walk_is_ascii, walk_takes, walk_is_number, walk_fails}
use Rattle.decimal_json.proofs.number_token.read_number.Goals as goal

pub ascii_text-requires : goal.ascii_text-requires
ascii_text-requires c =
    let front = c.take_front-taken in
    walk_is_ascii front.result.now _ _ (walk_at c.walk_over-walk.result.count c.walk_over-walk.ensures.walks c.rest.ensures front.ensures.front front.ensures.back)

pub returns-in-None-clause-gives : goal.returns-in-None-clause-gives
returns-in-None-clause-gives c =
    let front = c.take_front-taken in
    let walk = walk_at c.walk_over-walk.result.count c.walk_over-walk.ensures.walks c.rest.ensures front.ensures.front front.ensures.back in
    (front.result.now, front.ensures.split, walk_takes front.result.now front.new.self c.ascii_text.result.now _ walk c.in-None.is c.ascii_text.ensures)

pub returns-in-None-clause-number : goal.returns-in-None-clause-number
returns-in-None-clause-number c =
    let front = c.take_front-taken in
    let walk = walk_at c.walk_over-walk.result.count c.walk_over-walk.ensures.walks c.rest.ensures front.ensures.front front.ensures.back in
    walk_is_number front.result.now _ c.ascii_text.result.now _ walk c.in-None.is c.ascii_text.ensures

pub returns-in-Some-clause-gives : goal.returns-in-Some-clause-gives
returns-in-Some-clause-gives c =
    let front = c.take_front-taken in
    let walk = walk_at c.walk_over-walk.result.count c.walk_over-walk.ensures.walks c.rest.ensures front.ensures.front front.ensures.back in
    (front.result.now, front.ensures.split, walk_fails front.result.now front.new.self c.in-Some.kind _ walk c.in-Some.is)
