-- The part of a run that reads a style and its tiles.
use Rattle.std.proofs.Common.{◌≡◌, ℕ, List, [], subst}
use Rattle.std.specs.Prelude.{Option}
use Rattle.decimal_json.specs.Tree.{Tree}
use Rattle.program_runs.specs.FailedReads.{NoneFailed}
use Rattle.program_runs.specs.Progress.{ComesTo, HaltsAt, GoesOn, Halts}
use Rattle.program_runs.specs.Runs.{Run}
use Rattle.program_runs.specs.declared.halt.RunHalt.{RunHalt}
use Rattle.program_runs.proofs.Going.{leads_on, halts_on}
use Rattle.style_layout.specs.Shown.{SourceTile}
use Rattle.style_program.specs.ShownRun.{LoadedStyle, load_part, sound_or_broken, tiles_part}
use Rattle.style_program.specs.StyleFile.{style_part}
use Rattle.style_program.specs.Words.{EvalWords}
use Rattle.style_rules.specs.Findings.{findings}

-- what comes after the style
abbrev pub behind_style : EvalWords → (LoadedStyle → Run) → Tree → Run
behind_style w k document = sound_or_broken (findings document) (tiles_part w.tiles (λ tiles. k (document, tiles)))

module _ (files : List ℕ → Option (List ℕ)) (w : EvalWords) (document : Tree) (asked_old asked_mid : List (List ℕ)) (goes : GoesOn files (style_part w.style) asked_old asked_mid document) where
  pub broken_halts : (old mid : ℕ) (failed_old failed_mid : Option (List ℕ)) (h : RunHalt) → NoneFailed old mid failed_old failed_mid
      → ((next : Run) → HaltsAt files (sound_or_broken (findings document) next) mid mid failed_mid failed_mid asked_mid asked_mid h)
      → Halts files (load_part w) old mid failed_old failed_mid asked_old asked_mid h
  broken_halts old mid failed_old failed_mid h before halts =
      λ k. halts_on files (load_part w k) (behind_style w k document) old mid mid failed_old failed_mid failed_mid asked_old asked_mid asked_mid h (goes (behind_style w k)) before
      (halts (tiles_part w.tiles (λ tiles. k (document, tiles))))

  module _ (sound : findings document ≡ []) (then_files : List ℕ → Option (List ℕ)) (same : then_files ≡ files) where
    tiles_next : (k : LoadedStyle → Run) → ComesTo files (load_part w k) (tiles_part w.tiles (λ tiles. k (document, tiles))) asked_old asked_mid
    tiles_next k =
        subst (λ f. ComesTo files (load_part w k) (sound_or_broken f (tiles_part w.tiles (λ tiles. k (document, tiles)))) asked_old asked_mid) sound (goes (behind_style w k))

    pub shown_goes : (asked_new : List (List ℕ)) (tiles : List SourceTile) → GoesOn then_files (tiles_part w.tiles) asked_mid asked_new tiles
        → GoesOn files (load_part w) asked_old asked_new (document, tiles)
    shown_goes asked_new tiles read =
        λ k. leads_on files (load_part w k) (tiles_part w.tiles (λ ts. k (document, ts))) (k (document, tiles)) asked_old asked_mid asked_new (tiles_next k)
        (subst (λ f. ComesTo f (tiles_part w.tiles (λ ts. k (document, ts))) (k (document, tiles)) asked_mid asked_new) same (read (λ ts. k (document, ts))))

    pub tiles_halt : (old mid new : ℕ) (failed_old failed_mid failed_new : Option (List ℕ)) (asked_new : List (List ℕ)) (h : RunHalt) → NoneFailed old mid failed_old failed_mid
        → Halts then_files (tiles_part w.tiles) mid new failed_mid failed_new asked_mid asked_new h → Halts files (load_part w) old new failed_old failed_new asked_old asked_new h
    tiles_halt old mid new failed_old failed_mid failed_new asked_new h before halts =
        λ k. halts_on files (load_part w k) (tiles_part w.tiles (λ ts. k (document, ts))) old mid new failed_old failed_mid failed_new asked_old asked_mid asked_new h (tiles_next k) before
        (subst (λ f. HaltsAt f (tiles_part w.tiles (λ ts. k (document, ts))) mid new failed_mid failed_new asked_mid asked_new h) same (halts (λ ts. k (document, ts))))
