-- The parts of a value by their places among its starts.
use Rattle.std.proofs.Common.{◌≡◌, ◌∙◌, refl, sym, ap, ap₂, ℕ, zero, suc, ◌+◌, ◌<◌, ◌≤◌, List, [], ◌∷◌, Bool, true, false, length, get_or, arith}
use Rattle.std.specs.Borrow.{Bor}
use Rattle.std.specs.Prelude.{Some, None, slice_index_or, if◌then◌else◌}
use Rattle.std.specs.Str.{bytes_eq}
use Rattle.std.proofs.lemmas.Bool.{cond-true, cond-false}
use Rattle.std.proofs.lemmas.List.{length-map}
use Rattle.key_index.specs.Keys as key
use Rattle.key_index.specs.Keys.{place_from}
use Rattle.key_index.proofs.Keys.{none_first}
use Rattle.decimal_json.specs.Sound.{HasDistinctKeys}
use Rattle.decimal_json.specs.View.{tree_of, trees, fields, members_view, member_keys}
use Rattle.decimal_json.specs.declared.tree.Json.{Json}
use Rattle.decimal_json.specs.declared.tree.Member.{Member}
use Rattle.decimal_json.proofs.Places.{distinct_member_keys}
use Rattle.text_places.specs.Skipping.{member_value, next_item, next_member}
use Rattle.text_places.specs.Starts.{item_starts, keys_of, member_starts, slices_seen}
use Rattle.text_places.specs.ValuePlace.{item_at, member_at}

pub keys_seen : (ms : List Member) → keys_of (fields ms) ≡ member_keys ms
keys_seen [] = refl
keys_seen (m ∷ ms) = ap (λ (ks : List (List ℕ)). m.key ∷ ks) (keys_seen ms)

pub distinct_keys : (ms : List Member) → HasDistinctKeys (members_view ms) → key.HasDistinctKeys (member_keys ms)
distinct_keys ms h = distinct_member_keys ms h

pub items_have_starts : (js : List Json) (b : List ℕ) → length (item_starts (trees js) b) ≡ length js
items_have_starts [] b = refl
items_have_starts (j ∷ js) b = ap suc (items_have_starts js (next_item (tree_of j) b))

pub members_have_starts : (ms : List Member) (b : List ℕ) → length (member_starts (fields ms) b) ≡ length ms
members_have_starts [] b = refl
members_have_starts (m ∷ ms) b = ap suc (members_have_starts ms (next_member (tree_of m.value) b))

-- the item at a place
pub item_there : (js : List Json) (i : ℕ) (b : List ℕ) (d : Json) (e : List ℕ) → i < length js
    → item_at i (trees js) b ≡ Some (record { value = tree_of (get_or js i d); name = get_or (item_starts (trees js) b) i e; at = get_or (item_starts (trees js) b) i e })
item_there [] i b d e h = absurd (omega arith)
item_there (j ∷ js) zero b d e h = refl
item_there (j ∷ js) (suc i) b d e h = item_there js i (next_item (tree_of j) b) d e (omega arith)

pub item_missing : (js : List Json) (i : ℕ) (b : List ℕ) → length js ≤ i → item_at i (trees js) b ≡ None
item_missing [] i b h = refl
item_missing (j ∷ js) zero b h = absurd (omega arith)
item_missing (j ∷ js) (suc i) b h = item_missing js i (next_item (tree_of j) b) (omega arith)

-- the member of a key that no member has
pub member_missing : (n : ℕ) (q : List ℕ) (ms : List Member) (b : List ℕ) → place_from n q (member_keys ms) ≡ None → member_at q (fields ms) b ≡ None
member_missing n q [] b e = refl
member_missing n q (m ∷ ms) b e =
    let parts = none_first n (place_from (n + 1) q (member_keys ms)) (bytes_eq m.key q) e in
    cond-false (bytes_eq m.key q) (Some (record { value = tree_of m.value; name = b; at = member_value b })) (member_at q (fields ms) (next_member (tree_of m.value) b)) parts.0
    ∙ member_missing (n + 1) q ms (next_member (tree_of m.value) b) parts.1

-- a member by the place of its key, where places are counted from n
pub record MemberThere (n : ℕ) (q : List ℕ) (ms : List Member) (b : List ℕ) (k : ℕ) : Type 0 where
  pub offset : ℕ
  pub place : k ≡ n + offset
  pub within : offset < length ms
  pub value : (d : Member) (e : List ℕ) → member_at q (fields ms) b
      ≡ Some (record { value = tree_of (get_or ms offset d).value; name = get_or (member_starts (fields ms) b) offset e; at = member_value (get_or (member_starts (fields ms) b) offset e) })

there_step : (n : ℕ) (q : List ℕ) (m : Member) (ms : List Member) (b : List ℕ) (k : ℕ) (same : Bool) → bytes_eq m.key q ≡ same
    → (if same then Some n else place_from (n + 1) q (member_keys ms)) ≡ Some k
    → (place_from (n + 1) q (member_keys ms) ≡ Some k → MemberThere (n + 1) q ms (next_member (tree_of m.value) b) k) → MemberThere n q (m ∷ ms) b k
there_step n q m ms b k true e f go =
    let here : n ≡ k = cc in
    record {
      offset = 0;
      place = omega (arith, here);
      within = omega arith;
      value = λ d x. cond-true (bytes_eq m.key q) (Some (record { value = tree_of m.value; name = b; at = member_value b })) (member_at q (fields ms) (next_member (tree_of m.value) b)) e;
    }
there_step n q m ms b k false e f go =
    let later = go f in
    record {
      offset = suc later.offset;
      place = omega (arith, later.place);
      within = omega (arith, later.within);
      value = λ d x. cond-false (bytes_eq m.key q) (Some (record { value = tree_of m.value; name = b; at = member_value b })) (member_at q (fields ms) (next_member (tree_of m.value) b)) e ∙ later.value d x;
    }

pub member_there : (n : ℕ) (q : List ℕ) (ms : List Member) (b : List ℕ) (k : ℕ) → place_from n q (member_keys ms) ≡ Some k → MemberThere n q ms b k
member_there n q [] b k e = absurd (cc)
member_there n q (m ∷ ms) b k e =
    there_step n q m ms b k (bytes_eq m.key q) refl e (λ f. member_there (n + 1) q ms (next_member (tree_of m.value) b) k f)

-- the same of places from 0
pub member_placed : (q : List ℕ) (ms : List Member) (b : List ℕ) (k : ℕ) (d : Member) (e : List ℕ) → place_from 0 q (member_keys ms) ≡ Some k
    → (k < length ms) × (member_at q (fields ms) b
    ≡ Some (record { value = tree_of (get_or ms k d).value; name = get_or (member_starts (fields ms) b) k e; at = member_value (get_or (member_starts (fields ms) b) k e) }))
member_placed q ms b k d e f =
    let found = member_there 0 q ms b k f in
    let at_k : found.offset ≡ k = omega (arith, found.place) in (
      omega (arith, found.place, found.within),
      found.value d e ∙ ap (λ (n : ℕ). Some (record { value = tree_of (get_or ms n d).value; name = get_or (member_starts (fields ms) b) n e; at = member_value (get_or (member_starts (fields ms) b) n e) })) at_k,
    )

-- ---- the same by the slices of the code

seen_at : (ss : List (Bor (List ℕ))) (i : ℕ) (d : Bor (List ℕ)) → get_or (slices_seen ss) i d.now ≡ (slice_index_or ss i d).now
seen_at [] zero d = refl
seen_at [] (suc i) d = refl
seen_at (s ∷ ss) zero d = refl
seen_at (s ∷ ss) (suc i) d = seen_at ss i d

pub starts_of_items : (ss : List (Bor (List ℕ))) (js : List Json) (b : List ℕ) → slices_seen ss ≡ item_starts (trees js) b → length ss ≡ length js
starts_of_items ss js b same = sym (length-map ss (λ (s : Bor (List ℕ)). s.now)) ∙ (ap length same ∙ items_have_starts js b)

pub starts_of_members : (ss : List (Bor (List ℕ))) (ms : List Member) (b : List ℕ) → slices_seen ss ≡ member_starts (fields ms) b → length ss ≡ length ms
starts_of_members ss ms b same = sym (length-map ss (λ (s : Bor (List ℕ)). s.now)) ∙ (ap length same ∙ members_have_starts ms b)

pub item_seen : (js : List Json) (ss : List (Bor (List ℕ))) (i : ℕ) (b : List ℕ) (j : Json) (d : Bor (List ℕ)) → slices_seen ss ≡ item_starts (trees js) b
    → i < length js → j ≡ get_or js i j
    → Some (record { value = tree_of j; name = (slice_index_or ss i d).now; at = (slice_index_or ss i d).now }) ≡ item_at i (trees js) b
item_seen js ss i b j d same within is =
    let start : (slice_index_or ss i d).now ≡ get_or (item_starts (trees js) b) i d.now = sym (seen_at ss i d) ∙ ap (λ (l : List (List ℕ)). get_or l i d.now) same in
    ap₂ (λ (x : Json) (n : List ℕ). Some (record { value = tree_of x; name = n; at = n })) is start ∙ sym (item_there js i b j d.now within)

pub member_seen : (ms : List Member) (ss : List (Bor (List ℕ))) (q : List ℕ) (i : ℕ) (b : List ℕ) (m : Member) (d : Bor (List ℕ)) → slices_seen ss ≡ member_starts (fields ms) b
    → place_from 0 q (member_keys ms) ≡ Some i
    → Some (record { value = tree_of (slice_index_or ms i m).value; name = (slice_index_or ss i d).now; at = member_value (slice_index_or ss i d).now }) ≡ member_at q (fields ms) b
member_seen ms ss q i b m d same found =
    let start : (slice_index_or ss i d).now ≡ get_or (member_starts (fields ms) b) i d.now = sym (seen_at ss i d) ∙ ap (λ (l : List (List ℕ)). get_or l i d.now) same in
    ap (λ (n : List ℕ). Some (record { value = tree_of (get_or ms i m).value; name = n; at = member_value n })) start ∙ sym (member_placed q ms b i m d.now found).1
