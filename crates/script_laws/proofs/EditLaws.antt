-- A sound state stays sound after every line, and an edit that is possible is accepted.
use Rattle.std.proofs.Common.{◌≡◌, ◌∙◌, ℕ, ◌+◌, ◌≤◌, List, [], ◌∷◌, refl, sym, ap, subst, arith, Bool, true, false, Option, Some, None, Ok, Err}
use Rattle.std.proofs.lemmas.Bool.{le-leb, leb-true}
use Rattle.std.specs.Prelude.{not, option_map, if◌then◌else◌}
use Rattle.std.specs.Bool.{then_some}
use Rattle.std.specs.Option.{option_or}
use Rattle.decimal_json.specs.Tree.{Tree}
use Rattle.decimal_json.specs.declared.paths.PathPart.{PathPart}
use Rattle.edit_script.specs.Edit as edits
use Rattle.edit_script.specs.Edit.{Edit}
use Rattle.style_edits.specs.Causes.{first_cause}
use Rattle.style_edits.specs.Edited.{edited}
use Rattle.style_edits.specs.Faults.{edit_fault}
use Rattle.style_edits.specs.declared.faults.EditFault.{EditFault}
use Rattle.style_edits.specs.declared.faults.EditFault.TheVariants.{UnknownLayer, UnknownBefore, UnknownSource, ZoomRange, UnknownProperty}
use Rattle.style_layout.specs.Layers.{style_layers}
use Rattle.style_layout.specs.Shown.{SourceTile}
use Rattle.style_layout.specs.StyleLayout.{cell_count}
use Rattle.style_rules.specs.Findings.{findings}
use Rattle.edit_session.specs.Applied.{done, refused, presented_after, first_finding, limit_refusal, images_refusal, refusal_of, unless_refused, whole_refusal, document_refusal, refusal, applied, with_global}
use Rattle.edit_session.specs.Opening.{within_limit}
use Rattle.edit_session.specs.SessionState.{SessionState}
use Rattle.edit_session.specs.declared.answer.Refusal.{Refusal}
use Rattle.edit_session.specs.declared.answer.Refusal.TheVariants.{CellLimit}
use Rattle.edit_session.proofs.GlobalCells.{values_change_no_cell}
use Rattle.script_laws.specs.ScriptLaw.{Line, IsSoundState, IsPossible, asks, rearranges, line, shown_after, ScriptsKeepStatesSound, PossibleEditsAreAccepted, GlobalsAreAlwaysSet, RearrangingBringsNoCell}
use Rattle.script_laws.proofs.CellLaws.{no_cell_comes}

-- ---- causes

no_cause : {A : Type 0} (a b c : Option A) → a ≡ None → b ≡ None → c ≡ None → first_cause (a ∷ b ∷ c ∷ []) ≡ None
no_cause a b c h k l = λ i. option_or (h i) (option_or (k i) (option_or (l i) None))

no_second : {A : Type 0} (a b c : Option A) → first_cause (a ∷ b ∷ c ∷ []) ≡ None → b ≡ None
no_second (Some x) b c h = absurd (cc)
no_second None (Some y) c h = absurd (cc)
no_second None None c h = refl

pub possible : (document : Tree) (edit : Edit) → IsPossible document edit → edit_fault document edit ≡ None
possible document edit h = λ i. first_cause (
    then_some (h.layer i) UnknownLayer ∷
    then_some (h.before i) UnknownBefore ∷
    then_some (h.source i) UnknownSource ∷
    then_some (not (h.zooms i)) ZoomRange ∷
    then_some (h.property i) UnknownProperty ∷ [])

-- ---- whole documents

none_of_both : {A : Type 0} (a b : Option A) → option_or a b ≡ None → (a ≡ None) × (b ≡ None)
none_of_both (Some x) b h = absurd (cc)
none_of_both None b h = (refl, h)

no_finding : (fs : List (List PathPart × ℕ)) → first_finding fs ≡ None → fs ≡ []
no_finding [] h = refl
no_finding (f ∷ fs) h = absurd (cc)

few : (b : Bool) → (if b then None else Some CellLimit) ≡ None → b ≡ true
few true h = refl
few false h = absurd (cc)

accepted_keeps : (tiles : List SourceTile) (p : SessionState) → whole_refusal p.limit tiles p.globals p.document ≡ None → IsSoundState tiles p
accepted_keeps tiles p h =
    let count = cell_count tiles (style_layers p.globals p.document) in
    let both = none_of_both (first_finding (findings p.document)) (limit_refusal p.limit count) h in
    record {
      findings = no_finding (findings p.document) both.0;
      cells = leb-true count p.limit (few (within_limit p.limit count) both.1);
    }

keeping_accepted : (tiles : List SourceTile) (p : SessionState) → IsSoundState tiles p → whole_refusal p.limit tiles p.globals p.document ≡ None
keeping_accepted tiles p h =
    let count = cell_count tiles (style_layers p.globals p.document) in
    let within = le-leb count p.limit h.cells in
    λ i. option_or (first_finding (h.findings i)) (if within i then None else Some CellLimit)

-- the document that an edit makes, and its cells, by the edit
document_accepted : (tiles : List SourceTile) (p : SessionState) (e : Edit) → IsSoundState tiles (presented_after tiles p e) →
    document_refusal tiles p e ≡ None
document_accepted tiles p (edits.set_paint layer name value) h = keeping_accepted tiles (presented_after tiles p (edits.set_paint layer name value)) h
document_accepted tiles p (edits.set_layout layer name value) h = keeping_accepted tiles (presented_after tiles p (edits.set_layout layer name value)) h
document_accepted tiles p (edits.set_filter layer filter) h = keeping_accepted tiles (presented_after tiles p (edits.set_filter layer filter)) h
document_accepted tiles p (edits.set_range layer min max) h = keeping_accepted tiles (presented_after tiles p (edits.set_range layer min max)) h
document_accepted tiles p (edits.add_layer layer before) h = keeping_accepted tiles (presented_after tiles p (edits.add_layer layer before)) h
document_accepted tiles p (edits.remove_layer id) h = keeping_accepted tiles (presented_after tiles p (edits.remove_layer id)) h
document_accepted tiles p (edits.move_layer id before) h = keeping_accepted tiles (presented_after tiles p (edits.move_layer id before)) h
document_accepted tiles p _ h = refl

state_keeps : (tiles : List SourceTile) (p : SessionState) (e : Edit) → asks e ≡ false → IsSoundState tiles p →
    document_refusal tiles p e ≡ None → IsSoundState tiles (presented_after tiles p e)
state_keeps tiles p (edits.set_paint layer name value) asked h none = accepted_keeps tiles (presented_after tiles p (edits.set_paint layer name value)) none
state_keeps tiles p (edits.set_layout layer name value) asked h none = accepted_keeps tiles (presented_after tiles p (edits.set_layout layer name value)) none
state_keeps tiles p (edits.set_filter layer filter) asked h none = accepted_keeps tiles (presented_after tiles p (edits.set_filter layer filter)) none
state_keeps tiles p (edits.set_range layer min max) asked h none = accepted_keeps tiles (presented_after tiles p (edits.set_range layer min max)) none
state_keeps tiles p (edits.add_layer layer before) asked h none = accepted_keeps tiles (presented_after tiles p (edits.add_layer layer before)) none
state_keeps tiles p (edits.remove_layer id) asked h none = accepted_keeps tiles (presented_after tiles p (edits.remove_layer id)) none
state_keeps tiles p (edits.move_layer id before) asked h none = accepted_keeps tiles (presented_after tiles p (edits.move_layer id before)) none
state_keeps tiles p (edits.set_zoom zoom) asked h none = record { findings = h.findings; cells = h.cells }
state_keeps tiles p (edits.set_state source layer id members) asked h none = record { findings = h.findings; cells = h.cells }
state_keeps tiles p (edits.remove_state source layer id key) asked h none = record { findings = h.findings; cells = h.cells }
state_keeps tiles p (edits.add_image name) asked h none = record { findings = h.findings; cells = h.cells }
state_keeps tiles p (edits.remove_image name) asked h none = record { findings = h.findings; cells = h.cells }
state_keeps tiles p (edits.set_global name d) asked h none =
    let same = values_change_no_cell tiles p.document p.globals (with_global p.document name d p.globals) in
    record { findings = h.findings; cells = subst (λ n. n ≤ p.limit) same h.cells }
state_keeps tiles p edits.list asked h none = absurd (cc)
state_keeps tiles p edits.stats asked h none = absurd (cc)
state_keeps tiles p edits.style asked h none = absurd (cc)

module _ (tiles : List SourceTile) (scripts : List ℕ → Bool) (can_change : Bool) where
  -- ---- edits

  as_edit : (p : SessionState) (e : Edit) → asks e ≡ false →
      applied tiles scripts can_change p e ≡ unless_refused (refusal tiles scripts can_change p e) p (presented_after tiles p e)
  as_edit p edits.list h = absurd (cc)
  as_edit p edits.stats h = absurd (cc)
  as_edit p edits.style h = absurd (cc)
  as_edit p e h = refl

  pub is_accepted : (p : SessionState) (e : Edit) → asks e ≡ false → edit_fault p.document e ≡ None →
      IsSoundState tiles (presented_after tiles p e) → images_refusal can_change e ≡ None →
      applied tiles scripts can_change p e ≡ (presented_after tiles p e, done)
  is_accepted p e asked fault whole images =
      let after = presented_after tiles p e in
      let none = no_cause (option_map refusal_of (edit_fault p.document e)) (document_refusal tiles p e)
      (images_refusal can_change e) (ap (option_map refusal_of) fault) (document_accepted tiles p e whole) images in
      as_edit p e asked ∙ ap (λ r. unless_refused r p after) none

  -- ---- lines

  unless_keeps : (r : Option Refusal) (before after : SessionState) → IsSoundState tiles before →
      (r ≡ None → IsSoundState tiles after) → IsSoundState tiles (unless_refused r before after).0
  unless_keeps None before after h k = k refl
  unless_keeps (Some x) before after h k = h

  edit_keeps : (p : SessionState) (e : Edit) → asks e ≡ false → IsSoundState tiles p → IsSoundState tiles (applied tiles scripts can_change p e).0
  edit_keeps p e asked h =
      let after = presented_after tiles p e in
      subst (λ a. IsSoundState tiles a.0) (sym (as_edit p e asked))
      (unless_keeps (refusal tiles scripts can_change p e) p after h (λ none.
      state_keeps tiles p e asked h (no_second (option_map refusal_of (edit_fault p.document e))
      (document_refusal tiles p e) (images_refusal can_change e) none)))

  applied_keeps : (p : SessionState) (e : Edit) → IsSoundState tiles p → IsSoundState tiles (applied tiles scripts can_change p e).0
  applied_keeps p edits.list h = record { findings = h.findings; cells = h.cells }
  applied_keeps p edits.stats h = h
  applied_keeps p edits.style h = h
  applied_keeps p e h = edit_keeps p e refl h

  line_keeps : (number : ℕ) (p : SessionState) (l : Line) → IsSoundState tiles p →
      IsSoundState tiles (line tiles scripts can_change number p l).after
  line_keeps number p (Ok e) h = applied_keeps p e h
  line_keeps number p (Err fault) h = h

  lines_keep : (number : ℕ) (p : SessionState) (ls : List Line) → IsSoundState tiles p →
      IsSoundState tiles (shown_after tiles scripts can_change number p ls)
  lines_keep number p [] h = h
  lines_keep number p (l ∷ ls) h =
      lines_keep (number + 1) (line tiles scripts can_change number p l).after ls (line_keeps number p l h)

pub scripts_keep_states_sound : ScriptsKeepStatesSound
scripts_keep_states_sound tiles scripts can_change number p ls h = lines_keep tiles scripts can_change number p ls h

pub possible_edits_are_accepted : PossibleEditsAreAccepted
possible_edits_are_accepted tiles scripts can_change p e asked h whole images =
    is_accepted tiles scripts can_change p e asked (possible p.document e h) whole images

pub globals_are_always_set : GlobalsAreAlwaysSet
globals_are_always_set tiles scripts can_change p name d = refl

-- ---- the limit of cells

-- no cause but the limit itself is that of too many cells
not_cells : (fault : Option EditFault) (fs : List (List PathPart × ℕ)) (within : Bool) (images : Option Refusal) → within ≡ true →
    (images ≡ Some CellLimit → ⊥) →
    first_cause (option_map refusal_of fault ∷ option_or (first_finding fs) (if within then None else Some CellLimit) ∷ images ∷ []) ≡ Some CellLimit → ⊥
not_cells (Some UnknownLayer) fs within images few other h = absurd (cc)
not_cells (Some UnknownBefore) fs within images few other h = absurd (cc)
not_cells (Some UnknownSource) fs within images few other h = absurd (cc)
not_cells (Some ZoomRange) fs within images few other h = absurd (cc)
not_cells (Some UnknownProperty) fs within images few other h = absurd (cc)
not_cells None (f ∷ fs) within images few other h = absurd (cc)
not_cells None [] true (Some r) few other h = other h
not_cells None [] true None few other h = absurd (cc)
not_cells None [] false images few other h = absurd (cc)

pub refused_by : (r : Option Refusal) (cause : Refusal) (before after : SessionState) → (unless_refused r before after).1 ≡ refused cause → r ≡ Some cause
refused_by None cause before after h = absurd (cc)
refused_by (Some x) cause before after h = let same : x ≡ cause = cc in ap Some same

layers_cells : (tiles : List SourceTile) (scripts : List ℕ → Bool) (can_change : Bool) (p : SessionState) (e : Edit) → rearranges e ≡ true →
    cell_count tiles (style_layers p.globals (edited p.document e)) ≤ p.limit →
    (applied tiles scripts can_change p e).1 ≡ refused CellLimit → ⊥
layers_cells tiles scripts can_change p (edits.remove_layer id) is few h =
    not_cells (edit_fault p.document (edits.remove_layer id)) (findings (edited p.document (edits.remove_layer id))) _ None (le-leb _ p.limit few) (λ e. absurd (cc)) (refused_by _ CellLimit p _ h)
layers_cells tiles scripts can_change p (edits.move_layer id before) is few h =
    not_cells (edit_fault p.document (edits.move_layer id before)) (findings (edited p.document (edits.move_layer id before))) _ None (le-leb _ p.limit few) (λ e. absurd (cc)) (refused_by _ CellLimit p _ h)
layers_cells tiles scripts can_change p (edits.set_range layer min max) is few h =
    not_cells (edit_fault p.document (edits.set_range layer min max)) (findings (edited p.document (edits.set_range layer min max))) _ None (le-leb _ p.limit few) (λ e. absurd (cc)) (refused_by _ CellLimit p _ h)
layers_cells tiles scripts can_change p _ is few h = absurd (cc)

pub few_cells : (tiles : List SourceTile) (p : SessionState) (e : Edit) → rearranges e ≡ true → IsSoundState tiles p →
    cell_count tiles (style_layers p.globals (edited p.document e)) ≤ p.limit
few_cells tiles p e is h = omega (arith, no_cell_comes tiles p.globals p.document e is, h.cells)

pub rearranging_brings_no_cell : RearrangingBringsNoCell
rearranging_brings_no_cell tiles scripts can_change p e is h =
    let few = few_cells tiles p e is h in (few, layers_cells tiles scripts can_change p e is few)
