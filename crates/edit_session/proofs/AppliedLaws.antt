-- What an edit of layers or of states gives.
use Rattle.std.proofs.Common.{◌≡◌, ℕ, List, [], ◌∷◌, map, refl, ap, sym, ◌∙◌, Bool, true, false}
use Rattle.std.specs.Prelude.{slice_get, Option, Some, None, option_map, if◌then◌else◌}
use Rattle.std.specs.Option.{option_or}
use Rattle.decimal_json.specs.Tree.{Tree}
use Rattle.decimal_json.specs.declared.paths.PathPart.{PathPart}
use Rattle.edit_script.specs.Edit as edits
use Rattle.edit_script.specs.Edit.{Edit}
use Rattle.feature_states.specs.Features.{same_feature}
use Rattle.prop_values.specs.Changes.{merged}
use Rattle.prop_values.specs.Data.{Data, pairs_of}
use Rattle.prop_values.proofs.ViewLaws.{entries_of-pairs_of}
use Rattle.style_edits.specs.Edited.{edited}
use Rattle.style_edits.specs.Faults.{edit_fault}
use Rattle.style_edits.specs.Needs.{takes_memory}
use Rattle.style_edits.specs.declared.faults.EditFault.{EditFault}
use Rattle.style_layout.specs.Layers.{style_layers}
use Rattle.style_layout.specs.Shown.{SourceTile}
use Rattle.style_layout.specs.StyleLayout.{cell_count}
use Rattle.style_rules.specs.CodeView.{finding_seen}
use Rattle.style_rules.specs.Findings.{findings}
use Rattle.style_rules.specs.declared.lists.Finding.{Finding}
use Rattle.edit_session.proofs.GlobalCells.{values_change_no_cell}
use Rattle.edit_session.specs.Applied.{FeatureStates, first_finding, limit_refusal, done, refused, refusal_of, whole_refusal, edits_layers, unless_refused, tell_count_after}
use Rattle.edit_session.specs.Answering.{unfollowed, spares_memory}
use Rattle.edit_session.specs.SessionState.{SessionState}
use Rattle.edit_session.specs.declared.answer.Refusal.{Refusal}
use Rattle.edit_session.specs.declared.answer.Refusal.TheVariants.{Finding as Refused}

-- the refusal by the first finding
pub first_refused : (fs : List Finding) → first_finding (map finding_seen fs) ≡ option_map Refused (slice_get fs 0)
first_refused [] = refl
first_refused (f ∷ fs) = refl

-- a document that is accepted has no findings
no_finding : (fs : List (List PathPart × ℕ)) (limit : Option Refusal) → option_or (first_finding fs) limit ≡ None → fs ≡ []
no_finding [] limit h = refl
no_finding (f ∷ fs) limit h = absurd (cc)

pub accepted_is_sound : (limit : ℕ) (tiles : List SourceTile) (globals : List (List ℕ × Data)) (document : Tree)
    → whole_refusal limit tiles globals document ≡ None → findings document ≡ []
accepted_is_sound limit tiles globals document h =
    no_finding (findings document) (limit_refusal limit (cell_count tiles (style_layers globals document))) h

-- one without findings is refused by its cells alone
pub whole_by_cells : (limit : ℕ) (tiles : List SourceTile) (globals : List (List ℕ × Data)) (document : Tree) → findings document ≡ []
    → whole_refusal limit tiles globals document ≡ limit_refusal limit (cell_count tiles (style_layers globals document))
whole_by_cells limit tiles globals document h =
    λ i. option_or (first_finding (h i)) (limit_refusal limit (cell_count tiles (style_layers globals document)))

-- one with a finding by that
pub whole_by_finding : (limit : ℕ) (tiles : List SourceTile) (globals : List (List ℕ × Data)) (document : Tree) (r : Refusal)
    → Some r ≡ first_finding (findings document) → whole_refusal limit tiles globals document ≡ Some r
whole_by_finding limit tiles globals document r h =
    λ i. option_or (sym h i) (limit_refusal limit (cell_count tiles (style_layers globals document)))

pub found_nothing : (fs : List (List PathPart × ℕ)) → None ≡ first_finding fs → fs ≡ []
found_nothing [] h = refl
found_nothing (f ∷ fs) h = absurd (cc)

-- a whole document stays one with other values of the global state
pub whole_with : (limit : ℕ) (tiles : List SourceTile) (document : Tree) (new old : List (List ℕ × Data))
    → whole_refusal limit tiles old document ≡ None → whole_refusal limit tiles new document ≡ None
whole_with limit tiles document new old h =
    (λ i. option_or (first_finding (findings document)) (limit_refusal limit (values_change_no_cell tiles document new old i))) ∙ h

-- no cause holds
accepted : (fault : Option EditFault) (whole : Option Refusal) (before after : SessionState) → fault ≡ None → whole ≡ None
    → (after, done) ≡ unless_refused (option_or (option_map refusal_of fault) (option_or whole None)) before after
accepted fault whole before after h w =
    λ k. unless_refused (option_or (option_map refusal_of (sym h k)) (option_or (sym w k) None)) before after

-- the whole document is refused
refused_by : (fault : Option EditFault) (whole : Option Refusal) (r : Refusal) (before after : SessionState) → fault ≡ None → whole ≡ Some r
    → (before, refused r) ≡ unless_refused (option_or (option_map refusal_of fault) (option_or whole None)) before after
refused_by fault whole r before after h w =
    λ k. unless_refused (option_or (option_map refusal_of (sym h k)) (option_or (sym w k) None)) before after

-- an edit with a fault reports nothing to the test of images
pub fault_tells_nothing : (document : Tree) (e : Edit) (fault : EditFault) (can_change : Bool) (n : ℕ) → edit_fault document e ≡ Some fault
    → n ≡ tell_count_after can_change e n
fault_tells_nothing document (edits.set_paint layer name value) fault can_change n h = refl
fault_tells_nothing document (edits.set_layout layer name value) fault can_change n h = refl
fault_tells_nothing document (edits.set_filter layer filter) fault can_change n h = refl
fault_tells_nothing document (edits.set_range layer min max) fault can_change n h = refl
fault_tells_nothing document (edits.add_layer layer before) fault can_change n h = refl
fault_tells_nothing document (edits.remove_layer id) fault can_change n h = refl
fault_tells_nothing document (edits.move_layer id before) fault can_change n h = refl
fault_tells_nothing document (edits.set_zoom zoom) fault can_change n h = refl
fault_tells_nothing document (edits.set_state source layer id members) fault can_change n h = refl
fault_tells_nothing document (edits.remove_state source layer id key) fault can_change n h = refl
fault_tells_nothing document (edits.add_image name) fault can_change n h = absurd (cc)
fault_tells_nothing document (edits.remove_image name) fault can_change n h = absurd (cc)
fault_tells_nothing document (edits.set_global name d) fault can_change n h = refl
fault_tells_nothing document edits.list fault can_change n h = refl
fault_tells_nothing document edits.stats fault can_change n h = refl
fault_tells_nothing document edits.style fault can_change n h = refl

-- nor does an edit of layers
pub layers_tell_nothing : (e : Edit) (can_change : Bool) (n : ℕ) → edits_layers e ≡ true → n ≡ tell_count_after can_change e n
layers_tell_nothing (edits.set_paint layer name value) can_change n h = refl
layers_tell_nothing (edits.set_layout layer name value) can_change n h = refl
layers_tell_nothing (edits.set_filter layer filter) can_change n h = refl
layers_tell_nothing (edits.set_range layer min max) can_change n h = refl
layers_tell_nothing (edits.add_layer layer before) can_change n h = refl
layers_tell_nothing (edits.remove_layer id) can_change n h = refl
layers_tell_nothing (edits.move_layer id before) can_change n h = refl
layers_tell_nothing (edits.set_zoom zoom) can_change n h = refl
layers_tell_nothing (edits.set_state source layer id members) can_change n h = refl
layers_tell_nothing (edits.remove_state source layer id key) can_change n h = refl
layers_tell_nothing (edits.add_image name) can_change n h = absurd (cc)
layers_tell_nothing (edits.remove_image name) can_change n h = absurd (cc)
layers_tell_nothing (edits.set_global name d) can_change n h = refl
layers_tell_nothing edits.list can_change n h = refl
layers_tell_nothing edits.stats can_change n h = refl
layers_tell_nothing edits.style can_change n h = refl

module _ (tiles : List SourceTile) (scripts : List ℕ → Bool) (can_change : Bool) (p : SessionState) where
  layers_applied : (e : Edit) → edits_layers e ≡ true → unfollowed tiles scripts can_change p e ≡ unless_refused (
      option_or (option_map refusal_of (edit_fault p.document e)) (option_or (whole_refusal p.limit tiles p.globals (edited p.document e)) None))
      p (record p { document = edited p.document e })
  layers_applied (edits.set_paint layer name value) h = refl
  layers_applied (edits.set_layout layer name value) h = refl
  layers_applied (edits.set_filter layer filter) h = refl
  layers_applied (edits.set_range layer min max) h = refl
  layers_applied (edits.add_layer layer before) h = refl
  layers_applied (edits.remove_layer id) h = refl
  layers_applied (edits.move_layer id before) h = refl
  layers_applied (edits.set_zoom zoom) h = absurd (cc)
  layers_applied (edits.set_state source layer id members) h = absurd (cc)
  layers_applied (edits.remove_state source layer id key) h = absurd (cc)
  layers_applied (edits.add_image name) h = absurd (cc)
  layers_applied (edits.remove_image name) h = absurd (cc)
  layers_applied (edits.set_global name d) h = absurd (cc)
  layers_applied edits.list h = absurd (cc)
  layers_applied edits.stats h = absurd (cc)
  layers_applied edits.style h = absurd (cc)

  module _ (e : Edit) (of_layers : edits_layers e ≡ true) (possible : edit_fault p.document e ≡ None)
      (document : Tree) (made : document ≡ edited p.document e) where
    -- an edit of layers is accepted
    pub layers_accepted : whole_refusal p.limit tiles p.globals document ≡ None
        → (record p { document = document }, done) ≡ unfollowed tiles scripts can_change p e
    layers_accepted w =
        (λ k. (record p { document = made k }, done))
        ∙ (accepted _ _ p _ possible (ap (whole_refusal p.limit tiles p.globals) (sym made) ∙ w) ∙ sym (layers_applied e of_layers))

    -- it is refused, and taken back
    pub layers_refused : (r : Refusal) (left : Tree) → whole_refusal p.limit tiles p.globals document ≡ Some r → left ≡ p.document
        → (record p { document = left }, refused r) ≡ unfollowed tiles scripts can_change p e
    layers_refused r left w back =
        (λ k. (record p { document = back k }, refused r))
        ∙ (refused_by _ _ r p _ possible (ap (whole_refusal p.limit tiles p.globals) (sym made) ∙ w) ∙ sym (layers_applied e of_layers))

  -- members are set in the state of a feature
  pub state_set : (source layer s l : List ℕ) (id : ℕ) (members given : List (List ℕ × Data)) (states : FeatureStates)
      → edit_fault p.document (edits.set_state source layer id (pairs_of given)) ≡ None
      → s ≡ source → l ≡ layer → members ≡ given
      → ((a b : List ℕ) (i : ℕ) → states a b i ≡ (if same_feature s l id a b i then merged (p.states a b i) members else p.states a b i))
      → (record p { states = states }, done) ≡ unfollowed tiles scripts can_change p (edits.set_state source layer id (pairs_of given))
  state_set source layer s l id members given states h es el em made =
      let same = em ∙ sym (entries_of-pairs_of given) in
      (λ k. (record p { states = λ a b i. made a b i k }, done))
      ∙ ((λ k. (record p { states = λ a b i. if same_feature (es k) (el k) id a b i then merged (p.states a b i) (same k) else p.states a b i }, done))
      ∙ accepted _ None p _ h refl)

-- a command that takes no memory puts nothing into the document
pub none_taken : (e : Edit) → spares_memory e ≡ true → takes_memory e ≡ false
none_taken edits.stats h = refl
none_taken (edits.set_zoom zoom) h = refl
none_taken (edits.remove_state source layer id key) h = refl
none_taken (edits.remove_layer id) h = refl
none_taken (edits.move_layer id before) h = refl
none_taken edits.list h = refl
none_taken edits.style h = refl
none_taken (edits.set_state source layer id members) h = refl
none_taken (edits.add_image name) h = refl
none_taken (edits.remove_image name) h = refl
none_taken (edits.set_global name value) h = refl
none_taken (edits.set_paint layer name value) h = cc
none_taken (edits.set_layout layer name value) h = cc
none_taken (edits.set_filter layer filter) h = cc
none_taken (edits.set_range layer min max) h = cc
none_taken (edits.add_layer layer before) h = cc
