use Rattle.std.proofs.Common.{[], ◌∙◌, ap, map}
use Rattle.std.proofs.lemmas.List.{map-append}
use Rattle.program_runs.specs.declared.halt.RunHalt.TheVariants.{Stopped}
use Rattle.program_runs.specs.declared.halt.RunStop.TheVariants.{NoMemory}
use Rattle.program_runs.proofs.Asked.{none_asked}
use Rattle.program_runs.specs.Progress.{Halts}
use Rattle.program_runs.proofs.Going.{at_residual}
use Rattle.style_layout.specs.CodeView.{tile_seen}
use Rattle.style_program.specs.TileRunView.{tiles_from}
use Rattle.style_program.specs.declared.words.TileWord.{TileWord}
use Rattle.style_program.proofs.TileRuns.{leads_turn, halts_turn}
use Rattle.style_program.proofs.loading.read_next.Goals as goal

-- what is past the end of words
abbrev past : TileWord
past = record { source = record { ref_ptr = (0, 0); now = [] }; tile = record { ref_ptr = (0, 0); now = [] } }

pub returns-in_err-size-clause-halt : goal.returns-in_err-size-clause-halt
returns-in_err-size-clause-halt g c =
    let files = g.F.Files.told c.args.files.now in
    let got = map tile_seen c.args.tiles.now.items in
    at_residual (λ h. Halts files (tiles_from c.args.i c.args.words.now got c.args.left) _ _ _ _ _ _ h) c.in_err-size.field-0.0
    c.from_residual.result c.from_residual.ensures.1
    (halts_turn c.args.words.now c.args.i past c.requires got c.args.left c.count_of-number.result c.min-limit.result
    c.count_of-number.ensures.count c.min-limit.ensures files _ _ _ _ _ _ c.in_err-size.field-0.0 c.in_err-size.ensures.halt)

pub returns-clause-on : goal.returns-clause-on
returns-clause-on g c =
    let files = g.F.Files.told c.args.files.now in
    let got = map tile_seen c.args.tiles.now.items in
    leads_turn c.args.words.now c.args.i past c.requires got c.args.left c.count_of-number.result c.min-limit.result
    c.count_of-number.ensures.count c.min-limit.ensures
    files _ _ (c.in_ok-size.size, c.in_ok-size.tile) (map tile_seen c.push.new.self.items) c.saturating_sub.result c.in_ok-size.ensures.on
    (ap (map tile_seen) c.in-Ok.ensures.items ∙ map-append tile_seen c.args.tiles.now.items _) c.saturating_sub.ensures

pub returns-in_default-clause-halt : goal.returns-in_default-clause-halt
returns-in_default-clause-halt g c =
    let files = g.F.Files.told c.args.files.now in
    let got = map tile_seen c.args.tiles.now.items in
    halts_turn c.args.words.now c.args.i past c.requires got c.args.left c.count_of-number.result c.min-limit.result
    c.count_of-number.ensures.count c.min-limit.ensures files _ _ _ _ _ _ (Stopped NoMemory)
    (λ k. (c.in_ok-size.ensures.failed, (c.in_ok-size.ensures.on k).reads _ (none_asked files (k (c.in_ok-size.size, c.in_ok-size.tile)) _)))
