use Rattle.std.proofs.Common.{◌≡◌, ◌∙◌, ◌<◌, ◌++◌, ap, sym, subst, arith, List, ℕ}
use Rattle.std.specs.Prelude.{OnOk, Some, None, slice_get}
use Rattle.decimal_json.specs.TreeSize.{nodes}
use Rattle.decimal_json.specs.View.{tree_of}
use Rattle.text_places.specs.Starts.{first_part, paths_seen, placed_seen, step_at}
use Rattle.text_places.proofs.PathLaws.{first_is, run_ends_here, run_goes, step_smaller}
use Rattle.text_places.proofs.finding.+finding.Goals as goal

pub find_run-find_places-requires : goal.find_run-find_places-requires
find_run-find_places-requires t c =
    let smaller : nodes (tree_of c.in-Some.next.json.now) < nodes (tree_of c.args.placed.now.json.now) =
    step_smaller (slice_get c.index-run-0.result.now c.args.depth) (placed_seen c.args.placed.now) (placed_seen c.in-Some.next) (sym c.in-Some.ensures.step) in
    omega (arith, smaller)

pub find_run-returns-in-Some : goal.find_run-returns-in-Some
find_run-returns-in-Some t c =
    let depth = c.args.depth in
    let ps = paths_seen c.args.run.now in
    let first : first_part depth ps ≡ slice_get c.index-run-0.result.now depth = first_is depth c.args.run.now c.index-run-0.result c.requires.some c.index-run-0.is in
    let step : step_at (first_part depth ps) (placed_seen c.args.placed.now) ≡ Some (placed_seen c.in-Some.next) =
    ap (λ part. step_at part (placed_seen c.args.placed.now)) first ∙ sym c.in-Some.ensures.step in
    subst (λ (xs : List ℕ). OnOk c.find_places.result (c.find_places.new.found.items ≡ c.args.found.now.items ++ xs))
    (sym (run_goes depth (placed_seen c.args.placed.now) (placed_seen c.in-Some.next) (first_part depth ps) ps c.requires.alike step))
    c.find_places.ensures

pub find_run-returns-in-None : goal.find_run-returns-in-None
find_run-returns-in-None t c =
    let depth = c.args.depth in
    let ps = paths_seen c.args.run.now in
    let first : first_part depth ps ≡ slice_get c.index-run-0.result.now depth = first_is depth c.args.run.now c.index-run-0.result c.requires.some c.index-run-0.is in
    let step : step_at (first_part depth ps) (placed_seen c.args.placed.now) ≡ None =
    ap (λ part. step_at part (placed_seen c.args.placed.now)) first ∙ sym c.in-None.ensures.step in
    subst (λ (xs : List ℕ). OnOk c.find_here.result (c.find_here.new.found.items ≡ c.args.found.now.items ++ xs))
    (sym (run_ends_here depth (placed_seen c.args.placed.now) (first_part depth ps) c.args.run.now c.requires.alike step))
    c.find_here.ensures
