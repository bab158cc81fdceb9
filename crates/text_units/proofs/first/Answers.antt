use Rattle.std.proofs.Common.{◌≡◌, ap, ◌∙◌, length, take}
use Rattle.std.specs.Prelude.{Some, None}
use Rattle.std.specs.Str.{chars}
use Rattle.text_units.proofs.Places.{first_place_is, first_place_only}
use Rattle.text_units.proofs.Bytes.{found_at, found_nowhere, values_within}
use Rattle.text_units.proofs.first.Goals as goal

pub returns-in-None-clause-place : goal.returns-in-None-clause-place
returns-in-None-clause-place c =
    first_place_only _ _ 0 None _ (found_nowhere c.args.text.now c.args.part.now c.utf8.text c.utf8.part c.in-None.ensures.cases) (first_place_is (chars c.args.text.now) (chars c.args.part.now))

pub returns-in-Some-clause-place : goal.returns-in-Some-clause-place
returns-in-Some-clause-place c =
    let (end, found, order, boundary, after) = c.in-Some.ensures.cases in
    let place : c.length.result ≡ length (chars (take c.in-Some.at c.args.text.now)) = c.length.ensures.values ∙ ap (λ x. length (chars x)) c.split_at.ensures.front in
    ap Some place
    ∙ first_place_only _ _ 0 (Some (length (chars (take c.in-Some.at c.args.text.now)))) _ (found_at c.args.text.now c.args.part.now c.in-Some.at end c.utf8.text c.utf8.part found boundary) (first_place_is (chars c.args.text.now) (chars c.args.part.now))

pub returns-in-Some-clause-within : goal.returns-in-Some-clause-within
returns-in-Some-clause-within c =
    let (end, found, order, boundary, after) = c.in-Some.ensures.cases in
    rw (c.length.ensures.values, c.split_at.ensures.front) (values_within c.args.text.now c.in-Some.at c.utf8.text boundary)
