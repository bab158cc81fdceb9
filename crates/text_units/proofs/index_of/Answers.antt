use Rattle.std.proofs.Common.{◌≤◌, length, arith}
use Rattle.std.specs.Prelude.{Some, None}
use Rattle.std.specs.Str.{chars}
use Rattle.text_units.proofs.Places.{first_place_later}
use Rattle.text_units.proofs.index_of.Goals as goal

pub returns-in-Some-clause-first : goal.returns-in-Some-clause-first
returns-in-Some-clause-first c =
    let within : c.args.from ≤ length (chars c.args.text.now) = omega (arith, c.length.ensures.values) in
    first_place_later (chars c.args.text.now) (chars c.args.part.now) _ c.args.from (Some c.in-Some.place) within c.split.ensures.back c.in-Some.ensures.place

pub returns-in-None-clause-first : goal.returns-in-None-clause-first
returns-in-None-clause-first c =
    let within : c.args.from ≤ length (chars c.args.text.now) = omega (arith, c.length.ensures.values) in
    first_place_later (chars c.args.text.now) (chars c.args.part.now) _ c.args.from None within c.split.ensures.back c.in-None.ensures.place
