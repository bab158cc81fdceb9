use Rattle.std.proofs.Common.{sym}
use Rattle.decimal_json.proofs.Found.{found_none, found_one, found_two, found_cut_two, found_three, found_cut_three, found_four}
use Rattle.decimal_json.proofs.chars.find_char.Goals as goal

pub returns-then-not-begins_char : goal.returns-then-not-begins_char
returns-then-not-begins_char c = found_none c.args.bytes.now c.requires.beyond (sym c.if-not-begins_char.ensures)

pub returns-then-not-has_second : goal.returns-then-not-has_second
returns-then-not-has_second c = found_one c.args.bytes.now c.requires.some (sym c.if-not-begins_char.ensures) (sym c.if-not-has_second.ensures)

pub returns-then-first-lt224 : goal.returns-then-first-lt224
returns-then-first-lt224 c = found_two c.args.bytes.now (sym c.if-not-begins_char.ensures) (sym c.if-not-has_second.ensures) c.if-first-lt224.true

pub returns-then-not-has_tail : goal.returns-then-not-has_tail
returns-then-not-has_tail c = found_cut_two c.args.bytes.now (sym c.if-not-begins_char.ensures) (sym c.if-not-has_second.ensures) c.if-first-lt224.false (sym c.if-not-has_tail.ensures)

pub returns-then-first-lt240 : goal.returns-then-first-lt240
returns-then-first-lt240 c = found_three c.args.bytes.now (sym c.if-not-begins_char.ensures) (sym c.if-not-has_second.ensures) c.if-first-lt224.false (sym c.if-not-has_tail.ensures) c.if-first-lt240.true

pub returns-then-not-has_tail-2 : goal.returns-then-not-has_tail-2
returns-then-not-has_tail-2 c = found_cut_three c.args.bytes.now (sym c.if-not-begins_char.ensures) (sym c.if-not-has_second.ensures) (sym c.if-not-has_tail.ensures) c.if-first-lt240.false (sym c.if-not-has_tail-2.ensures)

pub returns : goal.returns
returns c = found_four c.args.bytes.now (sym c.if-not-begins_char.ensures) (sym c.if-not-has_second.ensures) (sym c.if-not-has_tail.ensures) c.if-first-lt240.false (sym c.if-not-has_tail-2.ensures)
