-- An edit that removes or moves a layer, or sets its range, breaks no rule.
use Rattle.std.proofs.Common.{◌≡◌, ◌∙◌, ℕ, ◌≤◌, List, [], ◌∷◌, refl, sym, Bool, true, false, Option, Some, None}
use Rattle.std.specs.Prelude.{option_map, if◌then◌else◌}
use Rattle.std.specs.Option.{option_or}
use Rattle.decimal_json.specs.Tree.{Tree}
use Rattle.decimal_json.specs.declared.paths.PathPart.{PathPart}
use Rattle.edit_script.specs.Edit as edits
use Rattle.edit_script.specs.Edit.{Edit}
use Rattle.style_edits.specs.Causes.{first_cause}
use Rattle.style_edits.specs.Edited.{edited}
use Rattle.style_edits.specs.Faults.{edit_fault}
use Rattle.style_edits.specs.Layers.{layer_list}
use Rattle.style_edits.specs.Places.{places_of}
use Rattle.style_edits.specs.declared.faults.EditFault.{EditFault}
use Rattle.style_edits.specs.declared.faults.EditFault.TheVariants.{UnknownLayer, UnknownBefore, UnknownSource, ZoomRange, UnknownProperty}
use Rattle.style_edits.specs.declared.places.EditPlaces.{EditPlaces}
use Rattle.style_layout.specs.Layers.{style_layers}
use Rattle.style_layout.specs.Shown.{SourceTile}
use Rattle.style_layout.specs.StyleLayout.{cell_count}
use Rattle.style_rules.specs.Findings.{findings}
use Rattle.style_rules.specs.declared.lists.Finding.{Finding as Found}
use Rattle.edit_findings.specs.FoundAfter.{found_by_edit}
use Rattle.edit_findings.proofs.AfterLaws.{after_edit, keys_for}
use Rattle.edit_session.specs.Applied.{done, refused, presented_after, first_finding, refusal_of, applied}
use Rattle.edit_session.specs.SessionState.{SessionState}
use Rattle.edit_session.specs.declared.answer.Refusal.TheVariants.{Finding, CellLimit}
use Rattle.script_laws.specs.ScriptLaw.{HasNamesOnce, rearranges, RearrangingBreaksNoRule, PossibleRearrangingIsAccepted}
use Rattle.script_laws.proofs.EditLaws.{possible, is_accepted, refused_by, few_cells}

finds_nothing : (d : Tree) (places : EditPlaces) (e : Edit) → rearranges e ≡ true → found_by_edit d places e ≡ []
finds_nothing d places (edits.remove_layer id) h = refl
finds_nothing d places (edits.move_layer id before) h = refl
finds_nothing d places (edits.set_range layer min max) h = refl
finds_nothing d places _ h = absurd (cc)

nothing_found : (d : Tree) (e : Edit) → rearranges e ≡ true → HasNamesOnce d → findings d ≡ [] → edit_fault d e ≡ None → findings (edited d e) ≡ []
nothing_found d e is once none fault =
    let places = places_of d e in
    sym (after_edit d e places once.root (keys_for e (layer_list d) once.layers) none fault refl) ∙ finds_nothing d places e is

-- no cause is a finding where nothing is found
not_finding : (fault : Option EditFault) (fs : List (List PathPart × ℕ)) (within : Bool) (found : Found) → (fault ≡ None → fs ≡ []) →
    first_cause (option_map refusal_of fault ∷ option_or (first_finding fs) (if within then None else Some CellLimit) ∷ None ∷ []) ≡ Some (Finding found) → ⊥
not_finding (Some UnknownLayer) fs within found none h = absurd (cc)
not_finding (Some UnknownBefore) fs within found none h = absurd (cc)
not_finding (Some UnknownSource) fs within found none h = absurd (cc)
not_finding (Some ZoomRange) fs within found none h = absurd (cc)
not_finding (Some UnknownProperty) fs within found none h = absurd (cc)
not_finding None (f ∷ fs) within found none h = let e : f ∷ fs ≡ [] = none refl in absurd (cc)
not_finding None [] true found none h = absurd (cc)
not_finding None [] false found none h = absurd (cc)

never_found : (tiles : List SourceTile) (scripts : List ℕ → Bool) (can_change : Bool) (p : SessionState) (e : Edit) → rearranges e ≡ true →
    (edit_fault p.document e ≡ None → findings (edited p.document e) ≡ []) → (found : Found) →
    (applied tiles scripts can_change p e).1 ≡ refused (Finding found) → ⊥
never_found tiles scripts can_change p (edits.remove_layer id) is none found h =
    not_finding (edit_fault p.document (edits.remove_layer id)) (findings (edited p.document (edits.remove_layer id))) _ found none (refused_by _ (Finding found) p _ h)
never_found tiles scripts can_change p (edits.move_layer id before) is none found h =
    not_finding (edit_fault p.document (edits.move_layer id before)) (findings (edited p.document (edits.move_layer id before))) _ found none (refused_by _ (Finding found) p _ h)
never_found tiles scripts can_change p (edits.set_range layer min max) is none found h =
    not_finding (edit_fault p.document (edits.set_range layer min max)) (findings (edited p.document (edits.set_range layer min max))) _ found none (refused_by _ (Finding found) p _ h)
never_found tiles scripts can_change p _ is none found h = absurd (cc)

pub rearranging_breaks_no_rule : RearrangingBreaksNoRule
rearranging_breaks_no_rule tiles scripts can_change p e is once sound =
    let none = nothing_found p.document e is once sound.findings in (none, never_found tiles scripts can_change p e is none)

accepted : (tiles : List SourceTile) (scripts : List ℕ → Bool) (can_change : Bool) (p : SessionState) (e : Edit) → rearranges e ≡ true →
    findings (edited p.document e) ≡ [] → cell_count tiles (style_layers p.globals (edited p.document e)) ≤ p.limit →
    edit_fault p.document e ≡ None → applied tiles scripts can_change p e ≡ (presented_after tiles p e, done)
accepted tiles scripts can_change p (edits.remove_layer id) is none few fault =
    is_accepted tiles scripts can_change p (edits.remove_layer id) refl fault (record { findings = none; cells = few }) refl
accepted tiles scripts can_change p (edits.move_layer id before) is none few fault =
    is_accepted tiles scripts can_change p (edits.move_layer id before) refl fault (record { findings = none; cells = few }) refl
accepted tiles scripts can_change p (edits.set_range layer min max) is none few fault =
    is_accepted tiles scripts can_change p (edits.set_range layer min max) refl fault (record { findings = none; cells = few }) refl
accepted tiles scripts can_change p _ is none few fault = absurd (cc)

pub possible_rearranging_is_accepted : PossibleRearrangingIsAccepted
possible_rearranging_is_accepted tiles scripts can_change p e is once sound given =
    let fault = possible p.document e given in
    accepted tiles scripts can_change p e is (nothing_found p.document e is once sound.findings fault) (few_cells tiles p e is sound) fault
