-- How a session is settled, slot by slot.
use Rattle.std.proofs.Common.{◌≡◌, ◌∙◌, ◌<◌, ◌+◌, ℕ, List, length, get_or, set, ap, sym, subst, Bool, Some, None}
use Rattle.std.proofs.lemmas.List.{length-set}
use Rattle.decimal_json.specs.View.{tree_of}
use Rattle.pending_ranges.specs.Pending.{AreBetween, Pending, ZoomRange}
use Rattle.pending_ranges.proofs.SetLaws.{taken_between}
use Rattle.style_edits.specs.Layers.{layer_list}
use Rattle.edit_session.specs.Setting.{HasSettled, NonePending, RepresentsSame, SettlesAt}
use Rattle.edit_session.specs.PlainView.{IsPlainSound, plain_state}
use Rattle.edit_session.specs.SessionState.{SessionState}
use Rattle.kept_layers.specs.declared.kept_layers.KeptLayers.{KeptLayers}
use Rattle.style_layout.specs.Shown.{SourceTile}
use Rattle.edit_session.proofs.RangedAnswers.{with_none}
use Rattle.style_edits.specs.Taking.{HasLayers}
use Rattle.edit_session.specs.View.{HasSlots, IsKept, IsReady, session_state, tiles_of}
use Rattle.edit_session.specs.declared.session.Session.{Session}
use Rattle.edit_session.proofs.RangedKept.{with_ranges}
use Rattle.edit_session.proofs.RangedLists.{set_itself}

-- so far it represents what it did, and all ranges that are still to be set are from a place on
pub record Settling (first : Session) (place end : ℕ) (s : Session) : Type 0 where
  pub ready : IsReady s
  pub state : (has_image : List ℕ → Bool) → session_state s has_image ≡ session_state first has_image
  pub tiles : tiles_of s ≡ tiles_of first
  pub kept : s.kept ≡ first.kept
  pub slots : HasSlots s
  pub count : length s.ranges ≡ length first.ranges
  pub between : AreBetween place end s.ranges

module _ (first s : Session) (place end : ℕ) (so : Settling first place end s) (within : place < length s.ranges)
    (taken : Pending) (is : taken ≡ set s.ranges place None) where
  abbrev t : Session
  t = record s { ranges = taken }

  count_taken : length taken ≡ length s.ranges
  count_taken = ap length is ∙ length-set s.ranges place None

  between_taken : AreBetween (place + 1) end taken
  between_taken = taken_between s.ranges place end taken is within so.between

  pub slots_taken : HasSlots t
  slots_taken = count_taken ∙ so.slots

  -- there was none in the slot
  pub none_settled : get_or s.ranges place None ≡ None → Settling first (place + 1) end t
  none_settled none =
      let same : taken ≡ s.ranges = is ∙ (ap (set s.ranges place) (sym none) ∙ set_itself s.ranges place None) in
      record {
        ready = so.ready;
        state = λ h. (λ k. session_state (record s { ranges = same k }) h) ∙ so.state h;
        tiles = so.tiles;
        kept = so.kept;
        slots = slots_taken;
        count = count_taken ∙ so.count;
        between = between_taken;
      }

  -- the range that was in it is set
  pub one_settled : (r : ZoomRange) → get_or s.ranges place None ≡ Some r → (u : Session) → HasSettled t u
      → SettlesAt place r (tree_of s.document) (tree_of u.document) → u.ranges ≡ taken → Settling first (place + 1) end u
  one_settled r range u settled settles kept = record {
    ready = settled.ready;
    state = λ h.
        (λ k. with_ranges ((kept ∙ is) k) (settled.state h k))
        ∙ ((λ k. record (session_state s h) { document = settles s.ranges range k }) ∙ so.state h);
    tiles = settled.tiles ∙ so.tiles;
    kept = settled.kept ∙ so.kept;
    slots = ap length kept ∙ (slots_taken ∙ sym settled.count);
    count = ap length kept ∙ (count_taken ∙ so.count);
    between = subst (AreBetween (place + 1) end) (sym kept) between_taken;
  }

-- one slot more, where no range is to be set
pub slot_added : (first s t : Session) → RepresentsSame first s → NonePending s.ranges → HasLayers (tree_of s.document) (layer_list (tree_of s.document))
    → t ≡ record s { ranges = t.ranges } → NonePending t.ranges → RepresentsSame first t
slot_added first s t same none there is none' = subst (RepresentsSame first) (sym is) (record {
  ready = same.ready;
  state = λ h. with_none t.ranges (plain_state s h) there none' ∙ (sym (with_none s.ranges (plain_state s h) there none) ∙ same.state h);
  tiles = same.tiles;
  kept = same.kept;
})

-- what a settled session represents by its document as it is
pub state_settled : (first s : Session) (has_image : List ℕ → Bool) → RepresentsSame first s → NonePending s.ranges
    → HasLayers (tree_of s.document) (layer_list (tree_of s.document)) → plain_state s has_image ≡ session_state first has_image
state_settled first s has_image same none there = sym (with_none s.ranges (plain_state s has_image) there none) ∙ same.state has_image

pub plain_settled : (first s : Session) (has_image scripts : List ℕ → Bool) → RepresentsSame first s → NonePending s.ranges
    → HasLayers (tree_of s.document) (layer_list (tree_of s.document)) → IsKept (tiles_of first) scripts (session_state first has_image) first.kept
    → IsPlainSound s has_image scripts
plain_settled first s has_image scripts same none there h = record {
  ready = λ off. same.ready;
  kept = λ off. subst (λ (k : KeptLayers). IsKept (tiles_of s) scripts (plain_state s has_image) k) (sym same.kept)
      (subst (λ (p : SessionState). IsKept (tiles_of s) scripts p first.kept) (sym (state_settled first s has_image same none there))
      (subst (λ (ts : List SourceTile). IsKept ts scripts (session_state first has_image) first.kept) (sym same.tiles) h));
}
