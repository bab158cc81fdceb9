use Rattle.std.proofs.Common.{map, subst}
use Rattle.decimal_json.specs.View.{tree_of}
use Rattle.program_runs.specs.Progress.{GoesOn, Halts}
use Rattle.program_runs.proofs.Going.{at_residual}
use Rattle.style_layout.specs.CodeView.{tile_seen}
use Rattle.style_program.specs.ShownRun.{load_part, tiles_part}
use Rattle.style_program.specs.WordsView.{eval_words, tile_word}
use Rattle.style_program.proofs.ShownRuns.{behind_style, broken_halts, shown_goes, tiles_halt}
use Rattle.style_program.proofs.loading.read_shown.Goals as goal

pub returns-clause-on : goal.returns-clause-on
returns-clause-on g c =
    shown_goes (g.F.Files.told c.args.files.now) (eval_words c.args.request.now) (tree_of c.in_ok-style.style) _ _ c.in_ok-style.ensures.on c.in_ok-refuse_broken.ensures.sound
    (g.F.Files.told c.read_json.new.files) c.read_json.ensures.told _ (map tile_seen c.in_ok-tiles.tiles.items)
    (subst (λ ws. GoesOn (g.F.Files.told c.read_json.new.files) (tiles_part (map tile_word ws)) (g.F.Files.asked c.read_json.new.files) (g.F.Files.asked c.read_tiles.new.files)
    (map tile_seen c.in_ok-tiles.tiles.items))
    c.as_slice.ensures.value c.in_ok-tiles.ensures.on)

pub returns-in_err-style-clause-halt : goal.returns-in_err-style-clause-halt
returns-in_err-style-clause-halt g c =
    let w = eval_words c.args.request.now in
    at_residual (λ h. Halts (g.F.Files.told c.args.files.now) (load_part w) _ _ _ _ _ _ h) c.in_err-style.field-0.0
    c.from_residual.result c.from_residual.ensures.1 (λ k. c.in_err-style.ensures.halt (behind_style w k))

pub returns-in_err-refuse_broken-clause-halt : goal.returns-in_err-refuse_broken-clause-halt
returns-in_err-refuse_broken-clause-halt g c =
    let w = eval_words c.args.request.now in
    at_residual (λ h. Halts (g.F.Files.told c.args.files.now) (load_part w) _ _ _ _ _ _ h) c.in_err-refuse_broken.field-0.0
    c.from_residual-in_err-refuse_broken.result c.from_residual-in_err-refuse_broken.ensures.1
    (broken_halts (g.F.Files.told c.args.files.now) w (tree_of c.in_ok-style.style) _ _ c.in_ok-style.ensures.on _ _ _ _ c.in_err-refuse_broken.field-0.0
    c.in_ok-style.ensures.failed (c.in_err-refuse_broken.ensures.halt (g.F.Files.told c.args.files.now) _ _ _))

pub returns-in_err-tiles-clause-halt : goal.returns-in_err-tiles-clause-halt
returns-in_err-tiles-clause-halt g c =
    let w = eval_words c.args.request.now in
    at_residual (λ h. Halts (g.F.Files.told c.args.files.now) (load_part w) _ _ _ _ _ _ h) c.in_err-tiles.field-0.0
    c.from_residual-in_err-tiles.result c.from_residual-in_err-tiles.ensures.1
    (tiles_halt (g.F.Files.told c.args.files.now) w (tree_of c.in_ok-style.style) _ _ c.in_ok-style.ensures.on c.in_ok-refuse_broken.ensures.sound
    (g.F.Files.told c.read_json.new.files) c.read_json.ensures.told _ _ _ _ _ _ _ c.in_err-tiles.field-0.0 c.in_ok-style.ensures.failed
    (subst (λ ws. Halts (g.F.Files.told c.read_json.new.files) (tiles_part (map tile_word ws)) (g.F.Files.faults c.read_json.new.files)
    (g.F.Files.faults c.read_tiles.new.files) (g.F.Files.failed c.read_json.new.files) (g.F.Files.failed c.read_tiles.new.files)
    (g.F.Files.asked c.read_json.new.files) (g.F.Files.asked c.read_tiles.new.files) c.in_err-tiles.field-0.0)
    c.as_slice.ensures.value c.in_err-tiles.ensures.halt))
