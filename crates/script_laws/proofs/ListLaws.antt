-- `eval` is `replay` of the script `["list"]`.
use Rattle.std.proofs.Common.{◌≡◌, ◌∙◌, ℕ, zero, suc, ◌-◌, ◌<◌, List, [], ◌∷◌, ◌++◌, length, refl, sym, ap, subst, arith, Bool, false, Option, Some, None, Result, Ok, Err, inl, inr}
use Rattle.std.proofs.lemmas.Str.{IsUtf8-from_ascii}
use Rattle.std.proofs.lemmas.List.{append-nil}
use Rattle.std.specs.Prelude.{codes, slice_index, ◌||◌}
use Rattle.std.specs.Str.{IsUtf8}
use Rattle.outside_io.specs.Reading.{IsContent, IsLongerIfTold}
use Rattle.json_tokens.specs.Rules.{all_rules}
use Rattle.decimal_json.specs.Grammar.{Spells}
use Rattle.decimal_json.specs.Tree.{Tree, text, list, no_trees, tree}
use Rattle.decimal_json.specs.declared.paths.PathPart.{PathPart}
use Rattle.decimal_json.proofs.OneTree.{one_tree}
use Rattle.decimal_json.proofs.WrittenTrees.{tree_written}
use Rattle.tile_reader.specs.Tile.{tile_of}
use Rattle.tile_reader.specs.declared.fault.TileFault.{TileFault}
use Rattle.tile_reader.specs.declared.tile.TileLayer.{TileLayer}
use Rattle.edit_session.specs.Applied.{listing_of}
use Rattle.edit_session.specs.Opening.{cell_limit, Fault, tiles_fault}
use Rattle.edit_session.specs.SessionState.{SessionState}
use Rattle.style_layout.specs.Shown.{SourceTile}
use Rattle.style_rules.specs.Findings.{findings}
use Rattle.program_runs.specs.Outcome.{RunOutcome, said}
use Rattle.program_runs.specs.declared.status.Ending.TheVariants.{Fine}
use Rattle.program_runs.specs.Runs.{Run, HasOutcome, ends, counts, reads, parses, after_counts, after_text}
use Rattle.script_runs.specs.ScriptRun.{script_run, line_out, line_command, line_least, line_most, ending_by}
use Rattle.style_program.specs.EvalRun.{opened_or_refused, shown_at_first, listed_least, listed_most, listed_outcome, listed_run}
use Rattle.style_program.specs.ReplayRun.{answered_by, edited_run, script_part, script_limit}
use Rattle.program_runs.specs.Refusals.{too_long}
use Rattle.style_program.specs.ShownRun.{LoadedStyle, load_part, sound_or_broken, tiles_after, tiles_part, tiles_limit, tile_or}
use Rattle.style_program.specs.StyleFile.{style_limit}
use Rattle.style_program.specs.Words.{EvalWords, ScriptWords, TileWord, count_of}
use Rattle.style_program.specs.declared.words.ScriptKind.TheVariants.{Replay}
use Rattle.script_laws.specs.EvalLaw.{list_script, PerhapsMore, EvalIsReplayOfList}

-- ---- the line

abbrev list_tree : Tree
list_tree = list (tree (text (codes "list")) no_trees)

is_ascii : (i : ℕ) → slice_index (codes "list") i < 128
is_ascii zero = omega arith
is_ascii (suc zero) = omega arith
is_ascii (suc (suc zero)) = omega arith
is_ascii (suc (suc (suc zero))) = omega arith
is_ascii (suc (suc (suc (suc i)))) = omega arith

is_utf8 : IsUtf8 (codes "list")
is_utf8 = IsUtf8-from_ascii (codes "list") is_ascii

list_spelled : Spells all_rules list_script list_tree
list_spelled = tree_written all_rules list_tree (omega arith, (is_utf8, tt))

-- ---- parts of runs that go on alike; the names of the files that were read differ as the relation says

abbrev Names : Type 0
Names = List (List ℕ)

module _ (files : List ℕ → Option (List ℕ)) (o : RunOutcome) (Alike : Names → Names → Type 0) (same : (names : Names) → Alike names names) where
  -- each outcome of one run is one of another
  abbrev GoesOn : Run → Run → Type 0
  GoesOn one other =
      (asked all : Names) → HasOutcome files one asked all o → (names : Names) × HasOutcome files other asked names o × Alike all names

  stays : (run : Run) → GoesOn run run
  stays run asked all h = (all, h, same all)

  reads_on : (longer : RunOutcome) (name : List ℕ) (limit : ℕ) (one other : List ℕ → Run) →
      ((bytes : List ℕ) → GoesOn (one bytes) (other bytes)) → GoesOn (reads longer name limit one) (reads longer name limit other)
  reads_on longer name limit one other each asked all (inl h) = (all, inl h, same all)
  reads_on longer name limit one other each asked all (inr (bytes, is, h)) =
      let (names, k, r) = each bytes (asked ++ name ∷ []) all h in (names, inr (bytes, is, k), r)

  parses_on : (what bytes : List ℕ) (one other : Tree → Run) → ((t : Tree) → GoesOn (one t) (other t)) →
      GoesOn (parses what bytes one) (parses what bytes other)
  parses_on what bytes one other each asked all (inl (t, spelled, h)) =
      let (names, k, r) = each t asked all h in (names, inl (t, spelled, k), r)
  parses_on what bytes one other each asked all (inr h) = (all, inr h, same all)

  tile_on : (source : List ℕ) (number : ℕ) (one other : List TileLayer → Run) (r : Result (List TileLayer) TileFault) →
      ((t : List TileLayer) → GoesOn (one t) (other t)) → GoesOn (tile_or source number one r) (tile_or source number other r)
  tile_on source number one other (Ok t) each = each t
  tile_on source number one other (Err fault) each = stays (tile_or source number one (Err fault))

  tiles_on : (one other : List SourceTile → Run) → ((ts : List SourceTile) → GoesOn (one ts) (other ts)) →
      (before : List TileWord) (got : List SourceTile) (left : ℕ) (ws : List TileWord) →
      GoesOn (tiles_after before got left ws one) (tiles_after before got left ws other)
  tiles_on one other each before got left [] = each got
  tiles_on one other each before got left (w ∷ ws) =
      reads_on _ w.1 _ _ _ (λ bytes. tile_on w.0 (count_of w.0 before) _ _ (tile_of bytes) (λ t.
      tiles_on one other each (before ++ w ∷ []) (got ++ (w.0, t) ∷ []) (left - length bytes) ws))

  sound_on : (fs : List (List PathPart × ℕ)) (one other : Run) → GoesOn one other →
      GoesOn (sound_or_broken fs one) (sound_or_broken fs other)
  sound_on [] one other on = on
  sound_on (f ∷ fs) one other on = stays (sound_or_broken (f ∷ fs) one)

  -- a document that was read, and its tiles
  abbrev opened : EvalWords → (LoadedStyle → Run) → Tree → Run
  opened w after document = sound_or_broken (findings document) (tiles_part w.tiles (λ tiles. after (document, tiles)))

  load_on : (w : EvalWords) (one other : LoadedStyle → Run) → ((s : LoadedStyle) → GoesOn (one s) (other s)) →
      GoesOn (load_part w one) (load_part w other)
  load_on w one other each =
      reads_on (too_long (codes "style") []) w.style style_limit
      (λ bytes. parses (codes "style") bytes (opened w one)) (λ bytes. parses (codes "style") bytes (opened w other))
      (λ bytes. parses_on (codes "style") bytes (opened w one) (opened w other) (λ document.
      sound_on (findings document) (tiles_part w.tiles (λ tiles. one (document, tiles))) (tiles_part w.tiles (λ tiles. other (document, tiles)))
      (tiles_on (λ tiles. one (document, tiles)) (λ tiles. other (document, tiles)) (λ tiles. each (document, tiles)) [] [] tiles_limit w.tiles)))

-- ---- the script

-- known bytes that are the line are not longer than the limit
too_short : (contents : Option (List ℕ)) → contents ≡ Some list_script → IsLongerIfTold contents script_limit → ⊥
too_short None e k = absurd (cc)
too_short (Some bytes) e k =
    let is : bytes ≡ list_script = cc in
    let short : script_limit < length list_script = subst (λ b. script_limit < length b) is k in
    absurd (omega (arith, short))

module _ (files : List ℕ → Option (List ℕ)) (o : RunOutcome) (w : ScriptWords) (images scripts : List ℕ → Bool) (can_change : Bool) (shown : LoadedStyle)
    (is : files w.script ≡ Some list_script) where
  -- what is shown at first
  abbrev start : SessionState
  start = shown_at_first w.shown images scripts shown

  abbrev script : List ℕ → Run
  script bytes = script_run shown.1 scripts can_change start bytes

  abbrev least : ℕ
  least = listed_least w.shown images scripts shown

  abbrev most : ℕ
  most = listed_most w.shown images scripts shown

  abbrev listed : RunOutcome
  listed = listed_outcome w.shown images scripts shown

  abbrev listing : Run
  listing = counts least most (ends listed)

  -- what a line is answered that spells a tree
  abbrev answered : Tree → RunOutcome
  answered t =
      let out = line_out shown.1 scripts can_change 1 start (line_command (Some t)) in
      after_text out.text (said [] (ending_by (false || out.is_refused)))

  abbrev written : Tree → RunOutcome
  written t =
      let read = line_command (Some t) in
      after_counts (line_least shown.1 scripts start read) (line_most shown.1 scripts start read) (answered t)

  written_lists : written list_tree ≡ after_counts least most listed
  written_lists = ap (λ (text : List ℕ). after_counts least most (said text Fine)) (append-nil (listing_of shown.1 scripts start))

  -- the script reads no file
  script_lists : (asked all : Names) → HasOutcome files (script list_script) asked all o → (o ≡ after_counts least most listed) × (all ≡ asked)
  script_lists asked all (inl (t, spelled, (answer, (rest, h, made), is_counted))) =
      let read = line_command (Some t) in
      let out = line_out shown.1 scripts can_change 1 start read in (
        is_counted
            ∙ (ap (after_counts (line_least shown.1 scripts start read) (line_most shown.1 scripts start read)) (made ∙ ap (after_text out.text) h.0)
            ∙ (ap written (one_tree all_rules list_script t list_tree spelled list_spelled) ∙ written_lists)),
        h.1,
      )
  script_lists asked all (inr (none, h)) = absurd (none (list_tree, list_spelled))

  opened_lists : (fault : Option Fault) (asked all : Names) → HasOutcome files (opened_or_refused fault (script list_script)) asked all o →
      HasOutcome files (opened_or_refused fault listing) asked all o
  opened_lists None asked all h = let (made, names) = script_lists asked all h in (listed, (refl, names), made)
  opened_lists (Some fault) asked all h = h

  listed_opens : (fault : Option Fault) (asked all : Names) → HasOutcome files (opened_or_refused fault listing) asked all o →
      HasOutcome files (opened_or_refused fault (script list_script)) asked all o
  listed_opens None asked all (answer, h, is_counted) =
      inl (
        list_tree,
        list_spelled,
        (answered list_tree, (said [] Fine, (refl, h.1), refl), is_counted ∙ (ap (after_counts least most) h.0 ∙ sym written_lists)),
      )
  listed_opens (Some fault) asked all h = h

  -- what is listed ends where it began, so other files may have been read before
  listed_from : (fault : Option Fault) (asked all before : Names) → HasOutcome files (opened_or_refused fault listing) asked all o →
      (all ≡ asked) × HasOutcome files (opened_or_refused fault listing) before before o
  listed_from None asked all before (answer, h, is_counted) = (h.1, (answer, (h.0, refl), is_counted))
  listed_from (Some fault) asked all before h = (h.1, (h.0, refl))

  abbrev fault : Option Fault
  fault = tiles_fault cell_limit shown.0 shown.1 w.shown.zoom

  read_script : (asked all : Names) → HasOutcome files (script_part w.script (edited_run cell_limit w images (answered_by Replay scripts can_change) shown)) asked all o →
      (names : Names) × HasOutcome files (listed_run w.shown images scripts shown) asked names o × PerhapsMore w.script names all
  read_script asked all (inl (longer, h, names)) = absurd (too_short (files w.script) is longer)
  read_script asked all (inr (bytes, (content, within), h)) =
      let line : bytes ≡ list_script = subst (λ c. IsContent c bytes) is content in
      let k = opened_lists fault (asked ++ w.script ∷ []) all
      (subst (λ b. HasOutcome files (edited_run cell_limit w images (answered_by Replay scripts can_change) shown b) (asked ++ w.script ∷ []) all o) line h) in
      let (names, listed) = listed_from fault (asked ++ w.script ∷ []) all asked k in
      (asked, listed, inr names)

  list_read : (asked all : Names) → HasOutcome files (listed_run w.shown images scripts shown) asked all o →
      (more : Names) × HasOutcome files (script_part w.script (edited_run cell_limit w images (answered_by Replay scripts can_change) shown)) asked more o × PerhapsMore w.script all more
  list_read asked all h =
      let longer = asked ++ w.script ∷ [] in
      let (names, listed) = listed_from fault asked all longer h in (
        longer,
        inr (list_script, (subst (λ c. IsContent c list_script) (sym is) refl, omega arith), listed_opens fault longer longer listed),
        inr (ap (λ ns. ns ++ w.script ∷ []) (sym names)),
      )

pub eval_is_replay_of_list : EvalIsReplayOfList
eval_is_replay_of_list files w images scripts can_change o is = (
  (λ more h. load_on files o (λ all names. PerhapsMore w.script names all) (λ names. inl refl) w.shown
      (λ shown. script_part w.script (edited_run cell_limit w images (answered_by Replay scripts can_change) shown)) (listed_run w.shown images scripts)
      (λ shown. read_script files o w images scripts can_change shown is) [] more h),
  (λ names h. load_on files o (λ all more. PerhapsMore w.script all more) (λ names. inl refl) w.shown
      (listed_run w.shown images scripts) (λ shown. script_part w.script (edited_run cell_limit w images (answered_by Replay scripts can_change) shown))
      (λ shown. list_read files o w images scripts can_change shown is) [] names h),
)
