-- The run over the tiles of words, word by word.
use Rattle.std.proofs.Common.{◌≡◌, ◌∙◌, ℕ, ◌+◌, ◌-◌, ◌<◌, List, [], ◌∷◌, ◌++◌, length, get_or, take, drop, map, min, sym, ap, subst}
use Rattle.std.specs.Prelude.{Option}
use Rattle.std.proofs.lemmas.List.{drop_more}
use Rattle.program_runs.specs.declared.halt.RunHalt.{RunHalt}
use Rattle.program_runs.specs.Progress.{ComesTo, HaltsAt, GoesOn, Halts}
use Rattle.program_runs.specs.Runs.{Run}
use Rattle.style_layout.specs.Shown.{SourceTile}
use Rattle.tile_reader.specs.declared.tile.TileLayer.{TileLayer}
use Rattle.style_program.specs.ShownRun.{tile_limit, tile_part, tiles_after}
use Rattle.style_program.specs.TileRunView.{tiles_from}
use Rattle.style_program.specs.Words as words
use Rattle.style_program.specs.Words.{count_of}
use Rattle.style_program.specs.WordsView.{tile_word}
use Rattle.style_program.specs.declared.words.TileWord.{TileWord}
use Rattle.style_program.proofs.TileWords.{is_next}

module _ (ws : List TileWord) (i : ℕ) (other : TileWord) (below : i < length ws) (got : List SourceTile) (left : ℕ)
    (number limit : ℕ) (numbered : number ≡ count_of (get_or ws i other).source.now (map tile_word (take i ws))) (limited : limit ≡ min left tile_limit) where
  abbrev before : List words.TileWord
  before = map tile_word (take i ws)

  abbrev later : List words.TileWord
  later = map tile_word (drop (i + 1) ws)

  abbrev pub t : words.TileWord
  t = tile_word (get_or ws i other)

  abbrev after : (List SourceTile → Run) → ℕ × List TileLayer → Run
  after k read = tiles_after (map tile_word (take (i + 1) ws)) (got ++ (t.0, read.1) ∷ []) (left - read.0) later k

  turn : (k : List SourceTile → Run) → tiles_from i ws got left k ≡ tile_part number limit t (after k)
  turn k =
      ap (λ ys. tiles_after before got left (map tile_word ys) k) (drop_more ws i other below)
      ∙ (ap (λ b. tile_part (count_of t.0 before) (min left tile_limit) t (λ read. tiles_after b (got ++ (t.0, read.1) ∷ []) (left - read.0) later k))
      (sym (is_next tile_word ws i other below))
      ∙ (ap (λ n. tile_part n (min left tile_limit) t (after k)) (sym numbered) ∙ ap (λ m. tile_part number m t (after k)) (sym limited)))

  pub leads_turn : (files : List ℕ → Option (List ℕ)) (asked_old asked_new : List (List ℕ)) (read : ℕ × List TileLayer) (new : List SourceTile) (rest : ℕ)
      → GoesOn files (tile_part number limit t) asked_old asked_new read → new ≡ got ++ (t.0, read.1) ∷ [] → rest ≡ left - read.0 → (k : List SourceTile → Run)
      → ComesTo files (tiles_from i ws got left k) (tiles_from (i + 1) ws new rest k) asked_old asked_new
  leads_turn files asked_old asked_new read new rest goes pushed counted k =
      let at : tiles_from (i + 1) ws new rest k ≡ after k read =
      (ap (λ ts. tiles_from (i + 1) ws ts rest k) pushed ∙ ap (λ n. tiles_from (i + 1) ws (got ++ (t.0, read.1) ∷ []) n k) counted) in
      subst (λ r. ComesTo files r (tiles_from (i + 1) ws new rest k) asked_old asked_new) (sym (turn k))
      (subst (λ r. ComesTo files (tile_part number limit t (after k)) r asked_old asked_new) (sym at) (goes (after k)))

  pub halts_turn : (files : List ℕ → Option (List ℕ)) (old new : ℕ) (failed_old failed_new : Option (List ℕ)) (asked_old asked_new : List (List ℕ)) (h : RunHalt)
      → Halts files (tile_part number limit t) old new failed_old failed_new asked_old asked_new h → Halts files (tiles_from i ws got left) old new failed_old failed_new asked_old asked_new h
  halts_turn files old new failed_old failed_new asked_old asked_new h halts k =
      subst (λ r. HaltsAt files r old new failed_old failed_new asked_old asked_new h) (sym (turn k)) (halts (after k))
