-- Members and items that are replaced one after the other.
use Rattle.std.proofs.Common.{◌≡◌, ℕ, ◌+◌, ◌<◌, List, [], ◌∷◌, ◌++◌, length, take, get_or, zero, suc, ap, sym, subst, refl, ◌∙◌, arith}
use Rattle.decimal_json.specs.Tree.{Tree, field, tree, fields_of, trees_of}
use Rattle.decimal_json.specs.Sound.{LacksKey, HasDistinctKeys}
use Rattle.decimal_json.specs.View.{tree_of, items_view, members_view}
use Rattle.decimal_json.specs.declared.tree.Json.{Json}
use Rattle.decimal_json.specs.declared.tree.Member.{Member}
use Rattle.decimal_json.proofs.Keys.{lacks_before}
use Rattle.style_migrate.specs.Mapped.{mapped_list, mapped_pairs}
use Rattle.style_migrate.specs.Migrated.{mapped_fields, mapped_items}

pub fields_mapped : (change : List ℕ → Tree → Tree) (ms : List (List ℕ × Tree)) → fields_of (mapped_pairs change ms) ≡ mapped_fields change (fields_of ms)
fields_mapped change [] = refl
fields_mapped change (m ∷ ms) = ap (field m.0 (change m.0 m.1)) (fields_mapped change ms)

pub items_mapped : (change : Tree → Tree) (ts : List Tree) → trees_of (mapped_list change ts) ≡ mapped_items change (trees_of ts)
items_mapped change [] = refl
items_mapped change (t ∷ ts) = ap (tree (change t)) (items_mapped change ts)

members_up_to : (change : List ℕ → Tree → Tree) (ms : List Member) (i : ℕ) (m : Member) → i < length ms → m ≡ get_or ms i m → mapped_pairs change (members_view (take (suc i) ms)) ≡ mapped_pairs change (members_view (take i ms)) ++ (m.key, change m.key (tree_of m.value)) ∷ []
members_up_to change [] i m h p = absurd (omega arith)
members_up_to change (x ∷ ms) zero m h p = ap (λ (y : Member). (y.key, change y.key (tree_of y.value)) ∷ []) (sym p)
members_up_to change (x ∷ ms) (suc i) m h p = ap (λ r. (x.key, change x.key (tree_of x.value)) ∷ r) (members_up_to change ms i m (omega arith) p)

-- one member more
pub members_grow : (change : List ℕ → Tree → Tree) (ms : List Member) (i : ℕ) (m : Member) → i < length ms → m ≡ get_or ms i m → mapped_pairs change (members_view (take (i + 1) ms)) ≡ mapped_pairs change (members_view (take i ms)) ++ (m.key, change m.key (tree_of m.value)) ∷ []
members_grow change ms i m h p =
    let e : suc i ≡ i + 1 = omega arith in
    subst (λ n. mapped_pairs change (members_view (take n ms)) ≡ mapped_pairs change (members_view (take i ms)) ++ (m.key, change m.key (tree_of m.value)) ∷ []) e (members_up_to change ms i m h p)

items_up_to : (change : Tree → Tree) (js : List Json) (i : ℕ) (j : Json) → i < length js → j ≡ get_or js i j → mapped_list change (items_view (take (suc i) js)) ≡ mapped_list change (items_view (take i js)) ++ change (tree_of j) ∷ []
items_up_to change [] i j h p = absurd (omega arith)
items_up_to change (x ∷ js) zero j h p = ap (λ y. change (tree_of y) ∷ []) (sym p)
items_up_to change (x ∷ js) (suc i) j h p = ap (λ r. change (tree_of x) ∷ r) (items_up_to change js i j (omega arith) p)

-- one item more
pub items_grow : (change : Tree → Tree) (js : List Json) (i : ℕ) (j : Json) → i < length js → j ≡ get_or js i j → mapped_list change (items_view (take (i + 1) js)) ≡ mapped_list change (items_view (take i js)) ++ change (tree_of j) ∷ []
items_grow change js i j h p =
    let e : suc i ≡ i + 1 = omega arith in
    subst (λ n. mapped_list change (items_view (take n js)) ≡ mapped_list change (items_view (take i js)) ++ change (tree_of j) ∷ []) e (items_up_to change js i j h p)

lacks_mapped : (change : List ℕ → Tree → Tree) (ms : List (List ℕ × Tree)) (key : List ℕ) → LacksKey key ms → LacksKey key (mapped_pairs change ms)
lacks_mapped change [] key h = tt
lacks_mapped change (m ∷ ms) key h = (h.0, lacks_mapped change ms key h.1)

-- The members that were replaced before a place lack the key there.
pub lacks_key : (change : List ℕ → Tree → Tree) (ms : List Member) (i : ℕ) (m : Member) → HasDistinctKeys (members_view ms) → i < length ms → m ≡ get_or ms i m → LacksKey m.key (mapped_pairs change (members_view (take i ms)))
lacks_key change ms i m d h p = lacks_mapped change (members_view (take i ms)) m.key (lacks_before ms i m d h p)

-- A member was replaced, and was put after those before it.
pub members_step : (change : List ℕ → Tree → Tree) (ms : List Member) (i : ℕ) (m : Member) (made new : List (List ℕ × Tree)) (key : List ℕ) (value : Tree) → i < length ms → m ≡ get_or ms i m → made ≡ mapped_pairs change (members_view (take i ms)) → key ≡ m.key → value ≡ change m.key (tree_of m.value) → new ≡ made ++ (key, value) ∷ [] → new ≡ mapped_pairs change (members_view (take (i + 1) ms))
members_step change ms i m made new key value h p before same changed put =
    put ∙ ((λ j. before j ++ (same j, changed j) ∷ []) ∙ sym (members_grow change ms i m h p))

-- An item was replaced, and was put after those before it.
pub items_step : (change : Tree → Tree) (js : List Json) (i : ℕ) (j : Json) (made new : List Tree) (value : Tree) → i < length js → j ≡ get_or js i j → made ≡ mapped_list change (items_view (take i js)) → value ≡ change (tree_of j) → new ≡ made ++ value ∷ [] → new ≡ mapped_list change (items_view (take (i + 1) js))
items_step change js i j made new value h p before changed put =
    put ∙ ((λ k. before k ++ changed k ∷ []) ∙ sym (items_grow change js i j h p))
