-- What a call answers by the document as it is is what it answers with the ranges that are still to be set in it.
use Rattle.std.proofs.Common.{◌≡◌, ◌∙◌, ◌<◌, ◌+◌, ℕ, ℤ, List, [], ◌∷◌, length, get_or, refl, ap, sym, subst, arith, Bool, true, false, Option, Some, None}
use Rattle.std.proofs.lemmas.Bool.{true≢false}
use Rattle.std.proofs.lemmas.List.{length-append, length-set}
use Rattle.std.proofs.lemmas.List.Edits.{length-insert, length-remove}
use Rattle.std.specs.Prelude.{remove, IfOk, IfSome, OnOk, Result, Ok, Err, if◌then◌else◌}
use Rattle.std.specs.Option.{option_and_then}
use Rattle.decimal_json.specs.Tree.{Tree, null}
use Rattle.decimal_json.specs.View.{moved_items, tree_of}
use Rattle.edit_script.specs.Edit as edits
use Rattle.edit_script.specs.Edit.{Edit}
use Rattle.pending_ranges.specs.Pending.{AreZoomRanges, Pending}
use Rattle.style_edits.specs.ByPlace.{changed_at, edited_at, inserted_at, is_own_place, moved_at, place_moved_to, removed_at}
use Rattle.style_edits.specs.Edited.{edited, edited_layers}
use Rattle.style_edits.specs.Layers.{layer_list}
use Rattle.style_edits.specs.Places.{layer_place, places_in, places_of}
use Rattle.style_edits.specs.Taking.{HasLayers}
use Rattle.style_edits.specs.declared.places.EditPlaces.{EditPlaces}
use Rattle.style_edits.proofs.EditLaws.{before_within, edited_by_place, layer_within}
use Rattle.style_edits.proofs.PlaceLaws.{placed_within}
use Rattle.style_layout.specs.Shown.{SourceTile}
use Rattle.style_rules.specs.Levels.{HasDistinctMembers}
use Rattle.kept_layers.specs.declared.kept_layers.KeptLayers.{KeptLayers}
use Rattle.edit_session.specs.Answering.{is_done}
use Rattle.edit_session.specs.Applied.{Reply, applied, is_of_view, least_steps, most_steps, presented_after, refusal, unless_refused}
use Rattle.edit_session.specs.OpenViews.{OpenView, after_edit, in_each, shown_in, view_left}
use Rattle.edit_session.specs.PlainView.{ArePlainSoundViews, IsPlainSound, IsPlainSoundView, plain_state, plain_state_in}
use Rattle.edit_session.specs.Ranges.{lets_ranges_be}
use Rattle.edit_session.specs.SessionState.{SessionState}
use Rattle.edit_session.specs.Setting.{IsBeforeRanges, NonePending, RepresentsSame, is_range, moved_slot, moved_slots, removed_slot, slots_after, slots_done, slots_for, slots_left}
use Rattle.edit_session.specs.View.{AreSoundViews, HasSlots, IsKept, IsReady, IsSoundSession, IsSoundView, lacks_memory, session_state, state_in, tiles_of, view_seen}
use Rattle.edit_session.specs.declared.answer.Refusal.{Refusal}
use Rattle.edit_session.specs.declared.ranges.BeforeRanges.{BeforeRanges}
use Rattle.edit_session.specs.declared.session.Session.{Session}
use Rattle.edit_session.specs.declared.view.View.{View}
use Rattle.edit_session.proofs.RangedAnswers.{IsRangeable, answered, known_in, known_of, view_answered, with_none}
use Rattle.edit_session.proofs.RangedDocuments.{changed_layers, moved_within}
use Rattle.edit_session.proofs.RangedKept.{kept_plain, kept_ranged, with_ranges}

-- ---- where the layers are that a command names

pub places_within : (d : Tree) (e : Edit) (before : BeforeRanges) → IsBeforeRanges d e before
    → IfSome before.places.layer (λ i. i < before.count) × IfSome before.places.before (λ i. i < before.count)
places_within d e before at =
    let count = sym at.count in (
      subst (λ n. IfSome before.places.layer (λ i. i < n)) count (layer_within d (layer_list d) e before.places at.places refl),
      subst (λ n. IfSome before.places.before (λ i. i < n)) count (before_within d (layer_list d) e before.places at.places refl),
    )

-- ---- steps are those of the document with the ranges

module _ (tiles : List SourceTile) (scripts : List ℕ → Bool) (p : SessionState) (rs : Pending) (there : HasLayers p.document (layer_list p.document))
    (e : Edit) (none : lets_ranges_be e ≡ false → NonePending rs) where
  steps_by : (f : SessionState → ℕ) → (lets_ranges_be e ≡ true → f p ≡ f (with_ranges rs p)) → f p ≡ f (with_ranges rs p)
  steps_by f lets = by (lets_ranges_be e) refl
    where
      by : (b : Bool) → lets_ranges_be e ≡ b → f p ≡ f (with_ranges rs p)
      by true is = lets is
      by false is = ap f (sym (with_none rs p there (none is)))

  none_counted : (e : Edit) → lets_ranges_be e ≡ true → (q : SessionState) → (most_steps tiles scripts q e ≡ 0) × (least_steps tiles scripts q e ≡ 0)
  none_counted edits.stats h q = (refl, refl)
  none_counted (edits.set_zoom zoom) h q = (refl, refl)
  none_counted (edits.remove_state source layer id key) h q = (refl, refl)
  none_counted (edits.add_image name) h q = (refl, refl)
  none_counted (edits.remove_image name) h q = (refl, refl)
  none_counted (edits.remove_layer id) h q = (refl, refl)
  none_counted (edits.move_layer id before) h q = (refl, refl)
  none_counted e h q = absurd (cc)

  pub most_same : most_steps tiles scripts p e ≡ most_steps tiles scripts (with_ranges rs p) e
  most_same = steps_by (λ q. most_steps tiles scripts q e) (λ h. (none_counted e h p).0 ∙ sym (none_counted e h (with_ranges rs p)).0)

  pub least_same : least_steps tiles scripts p e ≡ least_steps tiles scripts (with_ranges rs p) e
  least_same = steps_by (λ q. least_steps tiles scripts q e) (λ h. (none_counted e h p).1 ∙ sym (none_counted e h (with_ranges rs p)).1)

-- ---- as many slots as layers

module _ (rs : Pending) (ts : List Tree) where
  set_length : (o : Option ℕ) (f : Tree → Tree) → length (changed_at o f ts) ≡ length ts
  set_length None f = refl
  set_length (Some i) f = length-set ts i (f (get_or ts i null))

  inserted_length : (o : Option ℕ) (t : Tree) → IfSome o (λ i. i < length ts) → length (inserted_at o t ts) ≡ length ts + 1
  inserted_length None t within = length-append ts (t ∷ [])
  inserted_length (Some i) t within = length-insert ts i t (omega (arith, within))

  removed_lengths : (o : Option ℕ) → length rs ≡ length ts → IfSome o (λ i. i < length ts) → length (removed_slot o rs) ≡ length (removed_at o ts)
  removed_lengths None same within = same
  removed_lengths (Some i) same within =
      let a = length-remove rs i (omega (arith, same, within)) in
      let b = length-remove ts i within in omega (arith, a, b, same)

  moved_lengths : (o b : Option ℕ) → length rs ≡ length ts → IfSome o (λ i. i < length ts) → IfSome b (λ i. i < length ts)
      → length (moved_slot o b (length ts) rs) ≡ length (moved_at o b ts)
  moved_lengths None b same within there = same
  moved_lengths (Some from) b same within there = by (is_own_place from b)
    where
      to : ℕ
      to = place_moved_to from b (length ts)

      by : (own : Bool) → length (if own then rs else moved_slots from to rs) ≡ length (if own then ts else moved_items from to ts)
      by true = same
      by false =
          let a = length-remove rs from (omega (arith, same, within)) in
          let k = length-remove ts from within in
          let inside = moved_within (length ts) from b within there in
          let m = length-insert (remove rs from) to (get_or rs from None) (omega (arith, a, inside, same)) in
          let n = length-insert (remove ts from) to (get_or ts from null) (omega (arith, k, inside)) in
          omega (arith, a, k, m, n, same)

module _ (tiles : List SourceTile) (scripts : List ℕ → Bool) (can_change : Bool) (p : SessionState) (there : HasLayers p.document (layer_list p.document)) (rs : Pending) where
  abbrev ls : List Tree
  ls = layer_list p.document

  abbrev after : Edit → Reply → Pending
  after e r = slots_after (places_of p.document e) (length ls) e (is_done r) rs

  -- whether it is done or refused
  either : (e : Edit) (made : SessionState) → length (slots_done (places_of p.document e) (length ls) e rs) ≡ length (layer_list made.document)
      → length (slots_left (length ls) e rs) ≡ length ls → (o : Option Refusal)
      → length (after e (unless_refused o p made).1) ≡ length (layer_list (unless_refused o p made).0.document)
  either e made done left None = done
  either e made done left (Some x) = left

  list_after : (e : Edit) → layer_list (edited p.document e) ≡ edited_at e (places_in ls e) ls
  list_after e = changed_layers p.document ls there (edited_layers e) ∙ edited_by_place e ls

  pub slots_follow : (e : Edit) → length rs ≡ slots_for e (length ls)
      → length (after e (applied tiles scripts can_change p e).1) ≡ length (layer_list (applied tiles scripts can_change p e).0.document)
  slots_follow (edits.set_paint layer name value) h = let e = edits.set_paint layer name value in
      either e (presented_after tiles p e) (h ∙ sym (ap length (list_after e) ∙ set_length rs ls _ _)) h (refusal tiles scripts can_change p e)
  slots_follow (edits.set_layout layer name value) h = let e = edits.set_layout layer name value in
      either e (presented_after tiles p e) (h ∙ sym (ap length (list_after e) ∙ set_length rs ls _ _)) h (refusal tiles scripts can_change p e)
  slots_follow (edits.set_filter layer filter) h = let e = edits.set_filter layer filter in
      either e (presented_after tiles p e) (h ∙ sym (ap length (list_after e) ∙ set_length rs ls _ _)) h (refusal tiles scripts can_change p e)
  slots_follow (edits.set_range layer min max) h = let e = edits.set_range layer min max in
      either e (presented_after tiles p e) (h ∙ sym (ap length (list_after e) ∙ set_length rs ls _ _)) h (refusal tiles scripts can_change p e)
  slots_follow (edits.add_layer layer before) h = let e = edits.add_layer layer before in
      either e (presented_after tiles p e) (h ∙ sym (ap length (list_after e) ∙ inserted_length rs ls _ layer (placed_within ls before)))
      (let a = length-remove rs (length ls) (omega (arith, h)) in omega (arith, a, h)) (refusal tiles scripts can_change p e)
  slots_follow (edits.remove_layer id) h = let e = edits.remove_layer id in
      either e (presented_after tiles p e) (removed_lengths rs ls (layer_place ls id) h (placed_within ls (Some id)) ∙ sym (ap length (list_after e)))
      h (refusal tiles scripts can_change p e)
  slots_follow (edits.move_layer id before) h = let e = edits.move_layer id before in
      either e (presented_after tiles p e)
      (moved_lengths rs ls (layer_place ls id) (option_and_then (layer_place ls) before) h (placed_within ls (Some id)) (placed_within ls before) ∙ sym (ap length (list_after e)))
      h (refusal tiles scripts can_change p e)
  slots_follow (edits.set_zoom zoom) h = let e = edits.set_zoom zoom in either e (presented_after tiles p e) h h (refusal tiles scripts can_change p e)
  slots_follow (edits.set_state source layer id members) h = let e = edits.set_state source layer id members in
      either e (presented_after tiles p e) h h (refusal tiles scripts can_change p e)
  slots_follow (edits.remove_state source layer id key) h = let e = edits.remove_state source layer id key in
      either e (presented_after tiles p e) h h (refusal tiles scripts can_change p e)
  slots_follow (edits.add_image name) h = let e = edits.add_image name in either e (presented_after tiles p e) h h (refusal tiles scripts can_change p e)
  slots_follow (edits.remove_image name) h = let e = edits.remove_image name in either e (presented_after tiles p e) h h (refusal tiles scripts can_change p e)
  slots_follow (edits.set_global name d) h = let e = edits.set_global name d in either e (presented_after tiles p e) h h (refusal tiles scripts can_change p e)
  slots_follow edits.list h = h
  slots_follow edits.stats h = h
  slots_follow edits.style h = h

-- ---- a session before a command, with its ranges ready for it

pub record IsAhead (first s : Session) (e : Edit) (before : BeforeRanges) : Type 0 where
  pub same : RepresentsSame first s
  pub none : lets_ranges_be e ≡ false → NonePending s.ranges
  pub slots : length s.ranges ≡ slots_for e (length (layer_list (tree_of s.document)))
  pub at : IsBeforeRanges (tree_of s.document) e before
  pub distinct : HasDistinctMembers (tree_of s.document)
  pub zooms : AreZoomRanges s.ranges

module _ (first s : Session) (e : Edit) (before : BeforeRanges) (ahead : IsAhead first s e before) (images scripts : List ℕ → Bool) where
  abbrev plain : SessionState
  plain = plain_state s images

  known : IsRangeable (tiles_of s) plain
  known = known_of s images ahead.same.ready ahead.distinct

  pub plain_ahead : (lacks_memory first ≡ false → IsKept (tiles_of first) scripts (session_state first images) first.kept) → lacks_memory first ≡ false
      → IsPlainSound s images scripts
  plain_ahead h has = record {
    ready = λ off. ahead.same.ready;
    kept = λ off. kept_plain (tiles_of s) scripts plain s.ranges s.kept known.there
        (subst (λ (k : KeptLayers). IsKept (tiles_of s) scripts (session_state s images) k) (sym ahead.same.kept)
        (subst (λ (p : SessionState). IsKept (tiles_of s) scripts p first.kept) (sym (ahead.same.state images))
        (subst (λ (ts : List SourceTile). IsKept ts scripts (session_state first images) first.kept) (sym ahead.same.tiles) (h has))));
  }

  pub view_ahead : (v : View) → (lacks_memory first ≡ false → IsKept (tiles_of first) scripts (state_in first v images) v.kept) → lacks_memory first ≡ false
      → IsPlainSoundView s images scripts v
  view_ahead v h has = λ off. kept_plain (tiles_of s) scripts (plain_state_in s v images) s.ranges v.kept known.there
      (subst (λ (p : SessionState). IsKept (tiles_of s) scripts (shown_in p (view_seen v)) v.kept) (sym (ahead.same.state images))
      (subst (λ (ts : List SourceTile). IsKept ts scripts (state_in first v images) v.kept) (sym ahead.same.tiles) (h has)))

  pub views_ahead : (vs : List View) → AreSoundViews first images scripts vs → lacks_memory first ≡ false → ArePlainSoundViews s images scripts vs
  views_ahead [] h has = tt
  views_ahead (v ∷ vs) h has = (view_ahead v h.0 has, views_ahead vs h.1 has)

  pub most_ahead : most_steps (tiles_of s) scripts plain e ≡ most_steps (tiles_of first) scripts (session_state first images) e
  most_ahead = most_same (tiles_of s) scripts plain s.ranges known.there e ahead.none ∙ (λ k. most_steps (ahead.same.tiles k) scripts (ahead.same.state images k) e)

  pub least_ahead : least_steps (tiles_of s) scripts plain e ≡ least_steps (tiles_of first) scripts (session_state first images) e
  least_ahead = least_same (tiles_of s) scripts plain s.ranges known.there e ahead.none ∙ (λ k. least_steps (ahead.same.tiles k) scripts (ahead.same.state images k) e)

  -- ---- once the command is answered, and the ranges have followed it

  module _ (can_change : Bool) (images' : List ℕ → Bool) (t u : Session) (r : Reply)
      (given : (plain_state t images', r) ≡ applied (tiles_of s) scripts can_change plain e) (left : t.ranges ≡ s.ranges)
      (there : HasLayers (tree_of t.document) (layer_list (tree_of t.document)))
      (others : u ≡ record t { ranges = u.ranges }) (ranges : u.ranges ≡ slots_after before.places before.count e (is_done r) t.ranges) where
    made : u.ranges ≡ slots_after (places_of (tree_of s.document) e) (length (layer_list (tree_of s.document))) e (is_done r) s.ranges
    made = ranges ∙ (λ k. slots_after (ahead.at.places k) (ahead.at.count k) e (is_done r) (left k))

    pub state_after : session_state u images' ≡ with_ranges u.ranges (plain_state t images')
    state_after = ap (λ (x : Session). session_state x images') others

    pub answer_after : (session_state u images', r) ≡ applied (tiles_of first) scripts can_change (session_state first images) e
    answer_after =
        ap (λ (q : SessionState). (q, r)) state_after
        ∙ (answered (tiles_of s) scripts can_change plain known s.ranges e ahead.slots ahead.zooms ahead.none (plain_state t images') r given there u.ranges made
        ∙ (λ k. applied (ahead.same.tiles k) scripts can_change (ahead.same.state images k) e))

    slots_left_over : HasSlots u
    slots_left_over =
        ap length made
        ∙ ((λ k. length (slots_after (places_of (tree_of s.document) e) (length (layer_list (tree_of s.document))) e (is_done (given k).1) s.ranges))
        ∙ (slots_follow (tiles_of s) scripts can_change plain known.there s.ranges e ahead.slots
        ∙ (sym (ap (λ (a : SessionState × Reply). length (layer_list a.0.document)) given)
        ∙ sym (ap (λ (x : Session). length (layer_list (tree_of x.document))) others))))

    pub sound_after : IsPlainSound t images' scripts → IsSoundSession u images' scripts
    sound_after h =
        let off_t : lacks_memory u ≡ false → lacks_memory t ≡ false = λ off. sym (ap (λ (x : Session). lacks_memory x) others) ∙ off in
        record {
          ready = λ off. (subst IsReady (sym others) (h.ready (off_t off)), slots_left_over);
          kept = λ off. subst (λ (x : Session). IsKept (tiles_of x) scripts (session_state x images') x.kept) (sym others)
              (kept_ranged (tiles_of t) scripts (plain_state t images') u.ranges t.kept there (h.kept (off_t off)));
        }

    pub view_after : (v : View) → IsPlainSoundView t images' scripts v → IsSoundView u images' scripts v
    view_after v h = λ off.
        subst (λ (x : Session). IsKept (tiles_of x) scripts (state_in x v images') v.kept) (sym others)
        (kept_ranged (tiles_of t) scripts (plain_state_in t v images') u.ranges v.kept there (h (sym (ap (λ (x : Session). lacks_memory x) others) ∙ off)))

    pub views_after : (vs : List View) → ArePlainSoundViews t images' scripts vs → AreSoundViews u images' scripts vs
    views_after [] h = tt
    views_after (v ∷ vs) h = (view_after v h.0, views_after vs h.1)

  pub each_ahead : (can_change : Bool) (vs : List OpenView) → in_each (tiles_of s) scripts can_change plain e vs
      ≡ in_each (tiles_of first) scripts can_change (session_state first images) e vs
  each_ahead can_change [] = refl
  each_ahead can_change (v ∷ vs) = λ k.
      (sym (view_answered (tiles_of s) scripts can_change (shown_in plain v) (known_in (tiles_of s) plain v known) s.ranges e ahead.slots ahead.zooms ahead.none v)
      ∙ (λ j. after_edit (ahead.same.tiles j) scripts can_change (ahead.same.state images j) e v)) k ∷ each_ahead can_change vs k

-- ---- a range is to be set, and the document stays

module _ (s t : Session) (images scripts : List ℕ → Bool) (has : lacks_memory s ≡ false) (others : t ≡ record s { ranges = t.ranges })
    (there : HasLayers (tree_of s.document) (layer_list (tree_of s.document))) (slots : HasSlots t) where
  kept_after : (p : SessionState) (k : KeptLayers) → HasLayers p.document (layer_list p.document) → IsKept (tiles_of s) scripts (with_ranges s.ranges p) k
      → IsKept (tiles_of s) scripts (with_ranges t.ranges p) k
  kept_after p k there h = kept_ranged (tiles_of s) scripts p t.ranges k there (kept_plain (tiles_of s) scripts p s.ranges k there h)

  pub sound_ranged : IsSoundSession s images scripts → IsSoundSession t images scripts
  sound_ranged h = record {
    ready = λ off. (subst IsReady (sym others) (h.ready has).0, slots);
    kept = λ off. subst (λ (x : Session). IsKept (tiles_of x) scripts (session_state x images) x.kept) (sym others)
        (kept_after (plain_state s images) s.kept there (h.kept has));
  }

  pub view_ranged : (v : View) → IsSoundView s images scripts v → IsSoundView t images scripts v
  view_ranged v h = λ off. subst (λ (x : Session). IsKept (tiles_of x) scripts (state_in x v images) v.kept) (sym others)
      (kept_after (plain_state_in s v images) v.kept there (h has))

  pub views_ranged : (vs : List View) → AreSoundViews s images scripts vs → AreSoundViews t images scripts vs
  views_ranged [] h = tt
  views_ranged (v ∷ vs) h = (view_ranged v h.0, views_ranged vs h.1)

-- ---- a command of a view, after which the document and its slots are as before it

view_slots : (places : EditPlaces) (count : ℕ) (e : Edit) (b : Bool) (rs : Pending) → is_of_view e ≡ true → slots_after places count e b rs ≡ rs
view_slots places count (edits.set_zoom zoom) true rs h = refl
view_slots places count (edits.set_zoom zoom) false rs h = refl
view_slots places count (edits.set_state source layer id members) true rs h = refl
view_slots places count (edits.set_state source layer id members) false rs h = refl
view_slots places count (edits.remove_state source layer id key) true rs h = refl
view_slots places count (edits.remove_state source layer id key) false rs h = refl
view_slots places count edits.list true rs h = refl
view_slots places count edits.list false rs h = refl
view_slots places count edits.stats true rs h = refl
view_slots places count edits.stats false rs h = refl
view_slots places count e b rs h = absurd (cc)

view_count : (e : Edit) (n : ℕ) → is_of_view e ≡ true → slots_for e n ≡ n
view_count (edits.set_zoom zoom) n h = refl
view_count (edits.set_state source layer id members) n h = refl
view_count (edits.remove_state source layer id key) n h = refl
view_count edits.list n h = refl
view_count edits.stats n h = refl
view_count e n h = absurd (cc)

-- what holds of an answer, where another thing does
pub ok_with : {A E Q : Type 0} (r : Result A E) (P R : A → Type 0) → ((a : A) → P a → Q → R a) → IfOk r P → OnOk r Q → IfOk r R
ok_with (Ok a) P R f h k = f a h k
ok_with (Err e) P R f h k = h

module _ (first s : Session) (e : Edit) (before : BeforeRanges) (ahead : IsAhead first s e before) (images scripts images' : List ℕ → Bool)
    (of_view : is_of_view e ≡ true) (t : Session) (left : t.ranges ≡ s.ranges) where
  abbrev front : SessionState
  front = plain_state s images

  known_front : IsRangeable (tiles_of s) front
  known_front = known_of s images ahead.same.ready ahead.distinct

  abbrev Stays : Type 0
  Stays = plain_state t images' ≡ front

  there_still : Stays → HasLayers (tree_of t.document) (layer_list (tree_of t.document))
  there_still stays = subst (λ (q : SessionState). HasLayers q.document (layer_list q.document)) (sym stays) known_front.there

  slots_still : Stays → HasSlots t
  slots_still stays =
      ap length left ∙ (ahead.slots ∙ (view_count e (length (layer_list (tree_of s.document))) of_view
      ∙ sym (ap (λ (q : SessionState). length (layer_list q.document)) stays)))

  pub own_still : Stays → session_state t images' ≡ session_state first images
  own_still stays = (λ k. with_ranges (left k) (stays k)) ∙ ahead.same.state images

  pub session_still : (lacks_memory t ≡ false → Stays) → IsPlainSound t images' scripts → IsSoundSession t images' scripts
  session_still stays h = record {
    ready = λ off. (h.ready off, slots_still (stays off));
    kept = λ off. kept_ranged (tiles_of t) scripts (plain_state t images') t.ranges t.kept (there_still (stays off)) (h.kept off);
  }

  pub view_still : (lacks_memory t ≡ false → Stays) → (v : View) → IsPlainSoundView t images' scripts v → IsSoundView t images' scripts v
  view_still stays v h = λ off. kept_ranged (tiles_of t) scripts (plain_state_in t v images') t.ranges v.kept (there_still (stays off)) (h off)

  pub answer_in : (can_change : Bool) (v w : View) (r : Reply) → Stays
      → (plain_state_in t w images', r) ≡ applied (tiles_of s) scripts can_change (plain_state_in s v images) e
      → (state_in t w images', r) ≡ applied (tiles_of first) scripts can_change (state_in first v images) e
  answer_in can_change v w r stays given =
      let d = tree_of s.document in
      answered (tiles_of s) scripts can_change (plain_state_in s v images) (known_in (tiles_of s) front (view_seen v) known_front) s.ranges e ahead.slots ahead.zooms ahead.none
      (plain_state_in t w images') r given (there_still stays) t.ranges
      (left ∙ sym (view_slots (places_of d e) (length (layer_list d)) e (is_done r) s.ranges of_view))
      ∙ (λ k. applied (ahead.same.tiles k) scripts can_change (shown_in (ahead.same.state images k) (view_seen v)) e)

  pub most_in : (v : View) → most_steps (tiles_of s) scripts (plain_state_in s v images) e ≡ most_steps (tiles_of first) scripts (state_in first v images) e
  most_in v =
      most_same (tiles_of s) scripts (plain_state_in s v images) s.ranges known_front.there e ahead.none
      ∙ (λ k. most_steps (ahead.same.tiles k) scripts (shown_in (ahead.same.state images k) (view_seen v)) e)

  pub least_in : (v : View) → least_steps (tiles_of s) scripts (plain_state_in s v images) e ≡ least_steps (tiles_of first) scripts (state_in first v images) e
  least_in v =
      least_same (tiles_of s) scripts (plain_state_in s v images) s.ranges known_front.there e ahead.none
      ∙ (λ k. least_steps (ahead.same.tiles k) scripts (shown_in (ahead.same.state images k) (view_seen v)) e)

-- ---- several views

unmoved_by : (tiles : List SourceTile) (q : SessionState) (layer : List ℕ) (min max : Option ℤ) (v : OpenView) (o : Option Refusal)
    → v ≡ view_left v (unless_refused o (shown_in q v) (presented_after tiles (shown_in q v) (edits.set_range layer min max))).0
unmoved_by tiles q layer min max v None = refl
unmoved_by tiles q layer min max v (Some x) = refl

-- a range that is set changes none of them
pub each_ranged : (tiles : List SourceTile) (scripts : List ℕ → Bool) (can_change : Bool) (q : SessionState) (e : Edit) → is_range e ≡ true → (vs : List OpenView)
    → vs ≡ in_each tiles scripts can_change q e vs
each_ranged tiles scripts can_change q e is [] = refl
each_ranged tiles scripts can_change q e is (v ∷ vs) = λ k. one e is k ∷ each_ranged tiles scripts can_change q e is vs k
  where
    one : (e : Edit) → is_range e ≡ true → v ≡ after_edit tiles scripts can_change q e v
    one (edits.set_range layer min max) h = unmoved_by tiles q layer min max v (refusal tiles scripts can_change (shown_in q v) (edits.set_range layer min max))
    one e h = absurd (cc)

pub views_without : (s : Session) (images scripts : List ℕ → Bool) (vs : List View) → lacks_memory s ≡ true → AreSoundViews s images scripts vs
views_without s images scripts [] lacks = tt
views_without s images scripts (v ∷ vs) lacks = ((λ off. absurd (true≢false (sym lacks ∙ off))), views_without s images scripts vs lacks)
