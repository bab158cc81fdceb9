use Rattle.std.proofs.Common.{rules, ◌≡◌, [], drop, take, subst, map}
use Rattle.std.proofs.lemmas.List.{drop_all}
use Rattle.program_runs.specs.Progress.{Halts, HaltsAt, ComesTo}
use Rattle.program_runs.proofs.Going.{at_residual, halts_on}
use Rattle.style_layout.specs.CodeView.{tile_seen}
use Rattle.style_program.specs.ShownRun.{tiles_after, tiles_part}
use Rattle.style_program.specs.TileRunView.{tiles_from}
use Rattle.style_program.specs.WordsView.{tile_word}
use Rattle.style_program.proofs.loading.read_tiles.Goals as goal

pub returns-in_err-left-clause-halt : goal.returns-in_err-left-clause-halt
returns-in_err-left-clause-halt g c =
    let files = g.F.Files.told c.args.files.now in
    let part = tiles_part (map tile_word c.args.words.now) in
    let rest = tiles_from c.loop-i.i c.args.words.now (map tile_seen c.loop-i.tiles.items) c.loop-i.left in
    let mid = g.F.Files.faults c.loop-i.files in
    let new = g.F.Files.faults c.read_next.new.files in
    let failed_mid = g.F.Files.failed c.loop-i.files in
    let failed_new = g.F.Files.failed c.read_next.new.files in
    let asked_mid = g.F.Files.asked c.loop-i.files in
    let asked_new = g.F.Files.asked c.read_next.new.files in
    at_residual (λ h. Halts files part _ _ _ _ _ _ h) c.in_err-left.field-0.0 c.from_residual.result c.from_residual.ensures.1
    (λ k. halts_on files (part k) (rest k) (g.F.Files.faults c.args.files.now) mid new (g.F.Files.failed c.args.files.now) failed_mid failed_new
    (g.F.Files.asked c.args.files.now) asked_mid asked_new c.in_err-left.field-0.0 (c.loop-i.invariant.leads k) c.loop-i.invariant.failed
    (subst (λ f. HaltsAt f (rest k) mid new failed_mid failed_new asked_mid asked_new c.in_err-left.field-0.0) c.loop-i.invariant.told (c.in_err-left.ensures.halt k)))

pub returns-clause-on : goal.returns-clause-on
returns-clause-on g c =
    let files = g.F.Files.told c.args.files.now in
    let words = c.args.words.now in
    let part = tiles_part (map tile_word words) in
    let got = map tile_seen c.loop-i.tiles.items in
    let before = map tile_word (take c.loop-i.i words) in
    let all : drop c.loop-i.i words ≡ [] = drop_all c.loop-i.i words (search rules) in
    λ k. subst (λ ys. ComesTo files (part k) (tiles_after before got c.loop-i.left (map tile_word ys) k)
    (g.F.Files.asked c.args.files.now) (g.F.Files.asked c.loop-i.files)) all (c.loop-i.invariant.leads k)
