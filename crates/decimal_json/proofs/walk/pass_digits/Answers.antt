use Rattle.std.proofs.Common.{◌≤◌, ◌-◌, take, drop, subst, arith}
use Rattle.std.specs.Prelude.{IsTrue}
use Rattle.std.specs.Char.{is_ascii_digit}
use Rattle.std.specs.List.{list_all}
use Rattle.std.proofs.lemmas.List.{take-take, length-take-le, length-drop}
use Rattle.decimal_json.proofs.Repeats.{leads_by_digits}
use Rattle.decimal_json.proofs.walk.pass_digits.Goals as goal

pub slice_bounds-run_length-count : goal.slice_bounds-run_length-count
slice_bounds-run_length-count c =
    let short = length-take-le c.args.from c.args.bytes.now c.requires.start in
    c.furthest.ensures.greatest c.args.from c.requires.start (omega (arith, short, c.requires.leads.fits))

pub slice_bounds-run_length-start : goal.slice_bounds-run_length-start
slice_bounds-run_length-start c =
    let short = length-take-le c.args.from c.args.bytes.now c.requires.start in
    c.furthest.ensures.greatest c.args.from c.requires.start (omega (arith, short, c.requires.leads.fits))

pub returns-clause-leads : goal.returns-clause-leads
returns-clause-leads c =
    let b = c.args.bytes.now in
    let at = c.args.from in
    let n = c.run_length.result in
    let m = c.furthest.result - at in
    let short = length-take-le at b c.requires.start in
    let reach : at ≤ c.furthest.result = c.furthest.ensures.greatest at c.requires.start (omega (arith, short, c.requires.leads.fits)) in
    let counted : n ≤ m = omega (arith, c.run_length.ensures.within, length-take-le m (drop at b) (omega (arith, length-drop at b))) in
    let digits : IsTrue (list_all is_ascii_digit (take n (drop at b))) = subst (λ w. IsTrue (list_all is_ascii_digit w)) (take-take n m (drop at b) counted) c.run_length.ensures.front in
    leads_by_digits b at n c.args.phase (omega arith) c.requires.leads (cc) digits (omega arith)
