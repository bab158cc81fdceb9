-- What an index of keys says of members.
use Rattle.std.proofs.Common.{◌≡◌, ℕ, suc, ◌+◌, ◌<◌, List, [], ◌∷◌, length, get_or, refl, ap, sym, ◌∙◌, arith, Bool, true, false}
use Rattle.std.specs.Prelude.{Some, None, if◌then◌else◌}
use Rattle.std.specs.Str.{bytes_eq}
use Rattle.std.proofs.lemmas.Bool.{cond-true, cond-false}
use Rattle.key_index.specs.Keys as key
use Rattle.key_index.specs.Keys.{place_from}
use Rattle.key_index.proofs.Keys.{none_first}
use Rattle.decimal_json.specs.declared.tree.Member.{Member}
use Rattle.decimal_json.specs.Tree.{field_at}
use Rattle.decimal_json.specs.Sound.{LacksKey, HasDistinctKeys}
use Rattle.decimal_json.specs.View.{tree_of, members_view, member_keys, fields}

pub lacks_member_key : (k : List ℕ) (ms : List Member) → LacksKey k (members_view ms) → key.LacksKey k (member_keys ms)
lacks_member_key k [] h = tt
lacks_member_key k (m ∷ ms) h = (h.0, lacks_member_key k ms h.1)

pub distinct_member_keys : (ms : List Member) → HasDistinctKeys (members_view ms) → key.HasDistinctKeys (member_keys ms)
distinct_member_keys [] h = tt
distinct_member_keys (m ∷ ms) h = (lacks_member_key m.key ms h.0, distinct_member_keys ms h.1)

-- nothing is at a key with no place
pub no_value : (i : ℕ) (q : List ℕ) (ms : List Member) → place_from i q (member_keys ms) ≡ None → field_at q (fields ms) ≡ None
no_value i q [] e = refl
no_value i q (m ∷ ms) e =
    let parts = none_first i (place_from (i + 1) q (member_keys ms)) (bytes_eq m.key q) e in
    cond-false (bytes_eq m.key q) (Some (tree_of m.value)) (field_at q (fields ms)) parts.0 ∙ no_value (i + 1) q ms parts.1

-- the place of a key, and what is there
pub record StandsAt (i : ℕ) (q : List ℕ) (ms : List Member) (k : ℕ) : Type 0 where
  pub offset : ℕ
  pub place : k ≡ i + offset
  pub within : offset < length ms
  pub value : (d : Member) → field_at q (fields ms) ≡ Some (tree_of (get_or ms offset d).value)

stands_step : (i : ℕ) (q : List ℕ) (m : Member) (ms : List Member) (k : ℕ) (same : Bool) → bytes_eq m.key q ≡ same → (if same then Some i else place_from (i + 1) q (member_keys ms)) ≡ Some k → (place_from (i + 1) q (member_keys ms) ≡ Some k → StandsAt (i + 1) q ms k) → StandsAt i q (m ∷ ms) k
stands_step i q m ms k true e f go =
    let here : i ≡ k = cc in
    record { offset = 0; place = omega arith; within = omega arith; value = λ d. cond-true (bytes_eq m.key q) (Some (tree_of m.value)) (field_at q (fields ms)) e }
stands_step i q m ms k false e f go =
    let later = go f in
    record { offset = suc later.offset; place = omega (arith, later.place); within = omega (arith, later.within); value = λ d. cond-false (bytes_eq m.key q) (Some (tree_of m.value)) (field_at q (fields ms)) e ∙ later.value d }

stands : (i : ℕ) (q : List ℕ) (ms : List Member) (k : ℕ) → place_from i q (member_keys ms) ≡ Some k → StandsAt i q ms k
stands i q [] k e = absurd (cc)
stands i q (m ∷ ms) k e = stands_step i q m ms k (bytes_eq m.key q) refl e (λ f. stands (i + 1) q ms k f)

-- the place of a key is one of a member
pub found_within : (q : List ℕ) (ms : List Member) (k : ℕ) → place_from 0 q (member_keys ms) ≡ Some k → k < length ms
found_within q ms k e = let found = stands 0 q ms k e in omega (arith, found.place, found.within)

-- and what is there is the value of that member
pub value_placed : (q : List ℕ) (ms : List Member) (k : ℕ) (d : Member) → place_from 0 q (member_keys ms) ≡ Some k → field_at q (fields ms) ≡ Some (tree_of (get_or ms k d).value)
value_placed q ms k d f =
    let found = stands 0 q ms k f in
    let at_k : found.offset ≡ k = omega (arith, found.place) in
    found.value d ∙ ap (λ n. Some (tree_of (get_or ms n d).value)) at_k

pub found_value : (q : List ℕ) (ms : List Member) (k : ℕ) (m : Member) → place_from 0 q (member_keys ms) ≡ Some k → m ≡ get_or ms k m → field_at q (fields ms) ≡ Some (tree_of m.value)
found_value q ms k m f p = value_placed q ms k m f ∙ ap (λ (x : Member). Some (tree_of x.value)) (sym p)
