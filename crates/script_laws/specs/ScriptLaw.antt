-- What holds of the lines of every script. Source: own.
use Rattle.std.specs.Prelude.{◌≡◌, ◌≢◌, ℕ, ◌+◌, ◌≤◌, List, [], ◌∷◌, flat_map, filter, Bool, true, false, not, Option}
use Rattle.std.specs.Prelude.{None, Result, Ok, Err, if◌then◌else◌, ◌⊎◌}
use Rattle.std.specs.List.{list_all, list_any}
use Rattle.json_tokens.specs.Rules.{all_rules}
use Rattle.decimal_json.specs.Grammar.{Spells}
use Rattle.decimal_json.specs.Parses.{IsAccepted}
use Rattle.decimal_json.specs.Tree.{Tree}
use Rattle.prop_values.specs.Data.{Data}
use Rattle.edit_script.specs.Command.{command_of}
use Rattle.edit_script.specs.Edit.{Edit, list, stats, style, set_global, set_range, remove_layer, move_layer}
use Rattle.edit_script.specs.declared.command.LineFault.{LineFault}
use Rattle.edit_script.specs.declared.command.LineFault.TheVariants.{Json}
use Rattle.style_edits.specs.Edited.{edited}
use Rattle.style_edits.specs.Faults.{edit_fault, lacks_layer, lacks_source, named_layer, named_before, named_source}
use Rattle.style_edits.specs.Faults.{named_zooms, is_zoom_or_none, unsets_nothing}
use Rattle.style_edits.specs.Layers.{layer_list}
use Rattle.style_layout.specs.Layers.{style_layers}
use Rattle.style_layout.specs.Shown.{SourceTile}
use Rattle.style_layout.specs.StyleLayout.{cell_count}
use Rattle.style_rules.specs.Findings.{findings}
use Rattle.style_rules.specs.Levels.{HasDistinctMembers}
use Rattle.style_rules.specs.declared.lists.Finding.{Finding as Found}
use Rattle.edit_findings.specs.FoundAfter.{AreKeyed}
use Rattle.edit_session.specs.Applied.{Reply, done, refused, applied, presented_after, images_refusal}
use Rattle.edit_session.specs.SessionState.{SessionState}
use Rattle.edit_session.specs.declared.answer.Refusal.TheVariants.{Finding, CellLimit}
use Rattle.program_runs.specs.Outcome.{RunOutcome}
use Rattle.program_runs.specs.Runs.{HasOutcome}
use Rattle.script_runs.specs.AnswerTexts.{reply_text}
use Rattle.script_runs.specs.ScriptLines.{script_lines}
use Rattle.script_runs.specs.ScriptRun.{LineOut, line_out, line_least, line_most, ending_by, script_run}

-- what a line says: a command, or its fault
abbrev pub Line : Type 0
Line = Result Edit LineFault

-- ---- sound states

-- No place of the document breaks a rule, and it has no more cells over the tiles than it may have. Nothing is said of
-- what is kept.
pub record IsSoundState (tiles : List SourceTile) (p : SessionState) : Type 0 where
  pub findings : findings p.document ≡ []
  pub cells : cell_count tiles (style_layers p.globals p.document) ≤ p.limit

-- ---- edits

-- What an edit names is there, its zooms are in range, and what it takes away is set.
pub record IsPossible (document : Tree) (edit : Edit) : Type 0 where
  pub layer : lacks_layer (layer_list document) (named_layer edit) ≡ false
  pub before : lacks_layer (layer_list document) (named_before edit) ≡ false
  pub source : lacks_source document (named_source edit) ≡ false
  pub zooms : list_all is_zoom_or_none (named_zooms edit) ≡ true
  pub property : unsets_nothing (layer_list document) edit ≡ false

-- No two members of the document have one name, nor of one of its layers. It is so in each JSON value.
pub record HasNamesOnce (document : Tree) : Type 0 where
  pub root : HasDistinctMembers document
  pub layers : AreKeyed (layer_list document)

-- ---- what is kept

-- The second state is shown as the first is: it represents the same but for which cells are kept, and for the number of
-- the last listing.
abbrev pub IsShownAlike : SessionState → SessionState → Type 0
IsShownAlike p q = q ≡ record p { kept = q.kept; last = q.last }

-- it asks for the number of evaluations of the last listing
abbrev pub asks_number : Line → Bool
asks_number (Ok stats) = true
asks_number l = false

-- ---- kinds of edits

-- one asks for a listing, for the number of its evaluations or for the style, and changes nothing of what is shown
abbrev pub asks : Edit → Bool
asks list = true
asks stats = true
asks style = true
asks edit = false

-- it removes or moves a layer, or sets its range
abbrev pub rearranges : Edit → Bool
rearranges (remove_layer id) = true
rearranges (move_layer id before) = true
rearranges (set_range layer min max) = true
rearranges edit = false

-- over tiles, with the test on texts that can be shown; `can_change` says whether the test of images can change
module _ (tiles : List SourceTile) (scripts : List ℕ → Bool) (can_change : Bool) where
  abbrev pub line : ℕ → SessionState → Line → LineOut
  line number p l = line_out tiles scripts can_change number p l

  -- ---- what lines give, from this number on

  abbrev pub outs : ℕ → SessionState → List Line → List LineOut
  outs number p [] = []
  outs number p (l ∷ ls) = line number p l ∷ outs (number + 1) (line number p l).after ls

  -- the steps that their evaluations count: at least so many, and at most so many
  abbrev pub least_of : ℕ → SessionState → List Line → ℕ
  least_of number p [] = 0
  least_of number p (l ∷ ls) = line_least tiles scripts p l + least_of (number + 1) (line number p l).after ls

  abbrev pub most_of : ℕ → SessionState → List Line → ℕ
  most_of number p [] = 0
  most_of number p (l ∷ ls) = line_most tiles scripts p l + most_of (number + 1) (line number p l).after ls

  -- what is shown after them
  abbrev pub shown_after : ℕ → SessionState → List Line → SessionState
  shown_after number p [] = p
  shown_after number p (l ∷ ls) = shown_after (number + 1) (line number p l).after ls

  -- those that are accepted
  abbrev pub accepted : ℕ → SessionState → List Line → List Line
  accepted number p [] = []
  accepted number p (l ∷ ls) =
      if (line number p l).is_refused then accepted (number + 1) (line number p l).after ls
      else l ∷ accepted (number + 1) (line number p l).after ls

-- the texts of what lines gave, and whether one of them was refused
abbrev pub texts : List LineOut → List ℕ
texts outs = flat_map (λ (o : LineOut). o.text) outs

abbrev pub some_refused : List LineOut → Bool
some_refused outs = list_any (λ (o : LineOut). o.is_refused) outs

abbrev pub those_accepted : List LineOut → List LineOut
those_accepted outs = filter (λ (o : LineOut). not o.is_refused) outs

-- the outcome of the lines of a script
abbrev pub outcome_of_lines : List SourceTile → (scripts : List ℕ → Bool) (can_change : Bool) → SessionState →
    List Line → RunOutcome
outcome_of_lines tiles scripts can_change p ls = record {
  out = texts (outs tiles scripts can_change 1 p ls);
  err = [];
  ending = ending_by (some_refused (outs tiles scripts can_change 1 p ls));
  least = least_of tiles scripts can_change 1 p ls;
  most = most_of tiles scripts can_change 1 p ls;
}

-- Two lines gave the same: the same is shown after them, and they were answered the same but for their numbers.
pub record GaveTheSame (a b : LineOut) : Type 0 where
  pub after : a.after ≡ b.after
  pub reply : Reply
  pub number : ℕ
  pub first : a.text ≡ reply_text number reply
  pub other : ℕ
  pub second : b.text ≡ reply_text other reply

abbrev pub AllGaveTheSame : List LineOut → List LineOut → Type 0
AllGaveTheSame [] [] = Unit {0}
AllGaveTheSame (a ∷ as_) (b ∷ bs) = GaveTheSame a b × AllGaveTheSame as_ bs
AllGaveTheSame as_ bs = ⊥

-- Lines were answered the same, each accepted or refused as before. Those that ask for the number of evaluations may
-- have another number.
abbrev pub AnsweredAlike : List Line → List LineOut → List LineOut → Type 0
AnsweredAlike [] [] [] = Unit {0}
AnsweredAlike (l ∷ ls) (a ∷ as_) (b ∷ bs) =
    (asks_number l ≡ false → b.text ≡ a.text) × (b.is_refused ≡ a.is_refused) × AnsweredAlike ls as_ bs
AnsweredAlike ls as_ bs = ⊥

-- what the bytes of a line say, by the tree that they spell, if they spell one
abbrev pub Says : List ℕ → Line → Type 0
Says bytes l = ((t : Tree) × Spells all_rules bytes t × (l ≡ command_of t))
    ⊎ ((IsAccepted all_rules bytes → ⊥) × (l ≡ Err Json))

abbrev pub Say : List (List ℕ) → List Line → Type 0
Say [] [] = Unit {0}
Say (b ∷ bs) (l ∷ ls) = Says b l × Say bs ls
Say bs ls = ⊥

-- ---- the laws

-- An outcome of a script is that of its lines, one after another: their texts, whether one was refused, and the steps
-- that they count. No file is read.
abbrev pub ScriptsGoByTheirLines : Type 0
ScriptsGoByTheirLines =
    (files : List ℕ → Option (List ℕ)) (tiles : List SourceTile) (scripts : List ℕ → Bool) (can_change : Bool)
    (p : SessionState) (script : List ℕ) (asked all : List (List ℕ)) (o : RunOutcome) →
    HasOutcome files (script_run tiles scripts can_change p script) asked all o →
    (ls : List Line) × Say (script_lines script) ls
    × (o ≡ outcome_of_lines tiles scripts can_change p ls) × (all ≡ asked)

-- A state that is sound is so after every line of every script.
abbrev pub ScriptsKeepStatesSound : Type 0
ScriptsKeepStatesSound =
    (tiles : List SourceTile) (scripts : List ℕ → Bool) (can_change : Bool) (number : ℕ) (p : SessionState)
    (ls : List Line) →
    IsSoundState tiles p → IsSoundState tiles (shown_after tiles scripts can_change number p ls)

-- A script without its refused lines leaves the same, with the same cells kept; its lines are answered as they were,
-- but for their numbers; and they count as many steps.
abbrev pub RefusedLinesCountForNothing : Type 0
RefusedLinesCountForNothing =
    (tiles : List SourceTile) (scripts : List ℕ → Bool) (can_change : Bool) (number other : ℕ) (p : SessionState)
    (ls : List Line) →
    (shown_after tiles scripts can_change other p (accepted tiles scripts can_change number p ls)
    ≡ shown_after tiles scripts can_change number p ls)
    × AllGaveTheSame (outs tiles scripts can_change other p (accepted tiles scripts can_change number p ls))
    (those_accepted (outs tiles scripts can_change number p ls))
    × (least_of tiles scripts can_change other p (accepted tiles scripts can_change number p ls)
    ≡ least_of tiles scripts can_change number p ls)
    × (most_of tiles scripts can_change other p (accepted tiles scripts can_change number p ls)
    ≡ most_of tiles scripts can_change number p ls)

-- What is kept changes no answer but that of `stats`: an edit is answered the same from a state that is shown alike,
-- and leaves states that are shown alike. How many evaluations a listing makes, and what is kept after it, is not
-- promised.
abbrev pub WhatIsKeptChangesNoAnswer : Type 0
WhatIsKeptChangesNoAnswer =
    (tiles : List SourceTile) (scripts : List ℕ → Bool) (can_change : Bool) (p q : SessionState) (edit : Edit) →
    IsShownAlike p q →
    (edit ≢ stats → (applied tiles scripts can_change q edit).1 ≡ (applied tiles scripts can_change p edit).1)
    × IsShownAlike (applied tiles scripts can_change p edit).0 (applied tiles scripts can_change q edit).0

-- So it is with every script: each of its lines but `stats` is answered the same.
abbrev pub WhatIsKeptChangesNoScript : Type 0
WhatIsKeptChangesNoScript =
    (tiles : List SourceTile) (scripts : List ℕ → Bool) (can_change : Bool) (number : ℕ) (p q : SessionState)
    (ls : List Line) → IsShownAlike p q →
    AnsweredAlike ls (outs tiles scripts can_change number p ls) (outs tiles scripts can_change number q ls)
    × IsShownAlike (shown_after tiles scripts can_change number p ls) (shown_after tiles scripts can_change number q ls)

-- An edit that is possible is accepted where the state that it makes is sound; one of images, where their test can
-- change.
abbrev pub PossibleEditsAreAccepted : Type 0
PossibleEditsAreAccepted =
    (tiles : List SourceTile) (scripts : List ℕ → Bool) (can_change : Bool) (p : SessionState) (edit : Edit) →
    asks edit ≡ false → IsPossible p.document edit → IsSoundState tiles (presented_after tiles p edit) →
    images_refusal can_change edit ≡ None →
    applied tiles scripts can_change p edit ≡ (presented_after tiles p edit, done)

-- A value of the global state is always set: `set-global` is never refused, whatever the state is.
abbrev pub GlobalsAreAlwaysSet : Type 0
GlobalsAreAlwaysSet =
    (tiles : List SourceTile) (scripts : List ℕ → Bool) (can_change : Bool) (p : SessionState)
    (name : List ℕ) (d : Data) →
    applied tiles scripts can_change p (set_global name d) ≡ (presented_after tiles p (set_global name d), done)

-- An edit that removes or moves a layer, or sets its range, is never refused for its cells: none comes.
abbrev pub RearrangingBringsNoCell : Type 0
RearrangingBringsNoCell =
    (tiles : List SourceTile) (scripts : List ℕ → Bool) (can_change : Bool) (p : SessionState) (edit : Edit) →
    rearranges edit ≡ true → IsSoundState tiles p →
    (cell_count tiles (style_layers p.globals (edited p.document edit)) ≤ p.limit)
    × ((applied tiles scripts can_change p edit).1 ≢ refused CellLimit)

-- An edit that removes or moves a layer, or sets its range, is never refused for a rule: where it has no fault, the
-- edited document has no findings.
abbrev pub RearrangingBreaksNoRule : Type 0
RearrangingBreaksNoRule =
    (tiles : List SourceTile) (scripts : List ℕ → Bool) (can_change : Bool) (p : SessionState) (edit : Edit) →
    rearranges edit ≡ true → HasNamesOnce p.document → IsSoundState tiles p →
    (edit_fault p.document edit ≡ None → findings (edited p.document edit) ≡ [])
    × ((found : Found) → (applied tiles scripts can_change p edit).1 ≢ refused (Finding found))

-- So it is accepted where it names what is there, with zooms in range.
abbrev pub PossibleRearrangingIsAccepted : Type 0
PossibleRearrangingIsAccepted =
    (tiles : List SourceTile) (scripts : List ℕ → Bool) (can_change : Bool) (p : SessionState) (edit : Edit) →
    rearranges edit ≡ true → HasNamesOnce p.document → IsSoundState tiles p → IsPossible p.document edit →
    applied tiles scripts can_change p edit ≡ (presented_after tiles p edit, done)
