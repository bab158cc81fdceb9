-- The text at the place of a path.
use Rattle.std.proofs.Common.{◌≡◌, ◌∙◌, refl, sym, ap, subst, ℕ, zero, suc, List, [], ◌∷◌, ◌++◌, Bool, true, false}
use Rattle.std.specs.Prelude.{Option, Some, None, option_map, unwrap_or, if◌then◌else◌}
use Rattle.std.specs.Option.{option_and_then}
use Rattle.std.specs.Str.{bytes_eq}
use Rattle.json_tokens.specs.Rules.{all_rules}
use Rattle.key_index.proofs.Keys.{same_bytes}
use Rattle.decimal_json.specs.Grammar.{Pair, Spells, SpellsItems, SpellsMembers, SpellsMore, SpellsTail, SpellsValue}
use Rattle.decimal_json.specs.Tree.{Tree, null, boolean, number, text, list, object, Trees, no_trees, tree, Fields, no_fields, field, field_at}
use Rattle.decimal_json.specs.declared.paths.PathPart.{PathPart}
use Rattle.decimal_json.specs.declared.paths.PathPart.TheVariants.{Key, Index}
use Rattle.decimal_json.proofs.Values.{value_tight}
use Rattle.text_places.specs.PlaceLaw.{BeginsWith, BeginsWithPart, BeginsWithValue, PlacesSpellTheirValues, child, nth_tree, value_at}
use Rattle.text_places.specs.Skipping.{after_mark, after_spaces, member_value, next_item, next_member}
use Rattle.text_places.specs.ValuePlace.{PlacedValue, item_at, member_at, part_at, place_below, whole_value}
use Rattle.text_places.proofs.SpelledTexts.{spaces_end}
use Rattle.text_places.proofs.SpelledValues.{items_tight, mark_end, members_tight, more_tight, over_value, pair_tight, pair_value, tail_tight}

-- what a part leads to is found, and the text there begins with it
record Found (part : PathPart) (v : Tree) (found : Option PlacedValue) : Type 0 where
  there : PlacedValue
  is : found ≡ Some there
  value : there.value ≡ v
  name : BeginsWithPart part v there.name
  begins : BeginsWithValue v there.at

-- ---- items

item_here : (i : ℕ) (t v : Tree) (b x : List ℕ) → t ≡ v → b ≡ x → BeginsWithValue t x → Found (Index i) v (Some (record { value = t; name = b; at = b }))
item_here i t v b x same at begins =
    let there : BeginsWithValue v b = subst (λ (s : List ℕ). BeginsWithValue v s) (sym at) (subst (λ (w : Tree). BeginsWithValue w x) same begins) in
    record { there = record { value = t; name = b; at = b }; is = refl; value = same; name = there; begins = there }

-- the number of an item is no part of what is found
renumbered : (i j : ℕ) (v : Tree) (r s : Option PlacedValue) → r ≡ s → Found (Index i) v s → Found (Index j) v r
renumbered i j v r s e found = record { there = found.there; is = e ∙ found.is; value = found.value; name = found.name; begins = found.begins }

same_tree : (t v : Tree) → Some t ≡ Some v → t ≡ v
same_tree t v e = cc

tail_found : (i k : ℕ) (ts : Trees) (b q : List ℕ) (v : Tree) → SpellsTail k all_rules ts b q → nth_tree i ts ≡ Some v → Found (Index i) v (item_at i ts (after_mark b))
tail_found i k no_trees b q v h e = absurd (cc)
tail_found zero k (tree t ts) b q v (c, comma, (d, before, (f, value, (g, behind, tail)))) e =
    item_here 0 t v (after_mark b) d (same_tree t v e) (mark_end 44 b c d comma before (value_tight k all_rules t d f value)) (k, f, value)
tail_found (suc i) k (tree t ts) b q v (c, comma, (d, before, (f, value, (g, behind, tail)))) e =
    let start : after_mark b ≡ d = mark_end 44 b c d comma before (value_tight k all_rules t d f value) in
    let next : next_item t (after_mark b) ≡ after_mark g =
    ap (next_item t) start ∙ ap after_mark (over_value k all_rules t d f value ∙ spaces_end f g behind (tail_tight k all_rules ts g q tail)) in
    renumbered i (suc i) v (item_at i ts (next_item t (after_mark b))) (item_at i ts (after_mark g)) (ap (item_at i ts) next) (tail_found i k ts g q v tail e)

items_found : (i k : ℕ) (ts : Trees) (b q : List ℕ) (v : Tree) → SpellsItems k all_rules ts b q → nth_tree i ts ≡ Some v → Found (Index i) v (item_at i ts b)
items_found i k no_trees b q v h e = absurd (cc)
items_found zero k (tree t ts) b q v (c, value, (d, spaces, tail)) e = item_here 0 t v b b (same_tree t v e) refl (k, c, value)
items_found (suc i) k (tree t ts) b q v (c, value, (d, spaces, tail)) e =
    let next : next_item t b ≡ after_mark d = ap after_mark (over_value k all_rules t b c value ∙ spaces_end c d spaces (tail_tight k all_rules ts d q tail)) in
    renumbered i (suc i) v (item_at i ts (next_item t b)) (item_at i ts (after_mark d)) (ap (item_at i ts) next) (tail_found i k ts d q v tail e)

-- ---- members

member_here : (key : List ℕ) (k : ℕ) (taken : List (List ℕ)) (name : List ℕ) (t v : Tree) (b x q : List ℕ) → name ≡ key → t ≡ v → b ≡ x
    → Pair taken all_rules name (SpellsValue k all_rules t) x q → Found (Key key) v (Some (record { value = t; name = b; at = member_value b }))
member_here key k taken name t v b x q named same at pair =
    let whole : Pair taken all_rules key (SpellsValue k all_rules v) b q =
    subst (λ (s : List ℕ). Pair taken all_rules key (SpellsValue k all_rules v) s q) (sym at)
    (subst (λ (w : Tree). Pair taken all_rules key (SpellsValue k all_rules w) x q) same
    (subst (λ (n : List ℕ). Pair taken all_rules n (SpellsValue k all_rules t) x q) named pair)) in
    record {
      there = record { value = t; name = b; at = member_value b };
      is = refl;
      value = same;
      name = (k, taken, q, whole);
      begins = (k, q, pair_value k taken all_rules key v b q whole);
    }

-- the first member has the key, or it is looked for among the others
first_or_other : (same : Bool) (key : List ℕ) (k : ℕ) (taken : List (List ℕ)) (name : List ℕ) (t v : Tree) (b x q : List ℕ) (later : Option PlacedValue) (rest : Option Tree)
    → bytes_eq name key ≡ same → b ≡ x → Pair taken all_rules name (SpellsValue k all_rules t) x q
    → (if same then Some t else rest) ≡ Some v → (rest ≡ Some v → Found (Key key) v later)
    → Found (Key key) v (if same then Some (record { value = t; name = b; at = member_value b }) else later)
first_or_other true key k taken name t v b x q later rest is at pair e go = member_here key k taken name t v b x q (same_bytes name key is) (same_tree t v e) at pair
first_or_other false key k taken name t v b x q later rest is at pair e go = go e

elsewhere : (key : List ℕ) (v : Tree) (r s : Option PlacedValue) → r ≡ s → Found (Key key) v s → Found (Key key) v r
elsewhere key v r s e found = record { there = found.there; is = e ∙ found.is; value = found.value; name = found.name; begins = found.begins }

more_found : (key : List ℕ) (k : ℕ) (taken : List (List ℕ)) (fs : Fields) (b q : List ℕ) (v : Tree) → SpellsMore k taken all_rules fs b q → field_at key fs ≡ Some v
    → Found (Key key) v (member_at key fs (after_mark b))
more_found key k taken no_fields b q v h e = absurd (cc)
more_found key k taken (field name t fs) b q v (c, comma, (d, before, (f, pair, (g, behind, more)))) e =
    let start : after_mark b ≡ d = mark_end 44 b c d comma before (pair_tight k taken all_rules name t d f pair) in
    let next : next_member t (after_mark b) ≡ after_mark g =
    ap (next_member t) start
    ∙ ap after_mark (over_value k all_rules t (member_value d) f (pair_value k taken all_rules name t d f pair) ∙ spaces_end f g behind (more_tight k (taken ++ name ∷ []) all_rules fs g q more)) in
    first_or_other (bytes_eq name key) key k taken name t v (after_mark b) d f (member_at key fs (next_member t (after_mark b))) (field_at key fs) refl start pair e
    (λ later. elsewhere key v (member_at key fs (next_member t (after_mark b))) (member_at key fs (after_mark g)) (ap (member_at key fs) next)
    (more_found key k (taken ++ name ∷ []) fs g q v more later))

members_found : (key : List ℕ) (k : ℕ) (fs : Fields) (b q : List ℕ) (v : Tree) → SpellsMembers k all_rules fs b q → field_at key fs ≡ Some v
    → Found (Key key) v (member_at key fs b)
members_found key k no_fields b q v h e = absurd (cc)
members_found key k (field name t fs) b q v (c, pair, (d, spaces, more)) e =
    let next : next_member t b ≡ after_mark d =
    ap after_mark (over_value k all_rules t (member_value b) c (pair_value k [] all_rules name t b c pair) ∙ spaces_end c d spaces (more_tight k (name ∷ []) all_rules fs d q more)) in
    first_or_other (bytes_eq name key) key k [] name t v b b c (member_at key fs (next_member t b)) (field_at key fs) refl refl pair e
    (λ later. elsewhere key v (member_at key fs (next_member t b)) (member_at key fs (after_mark d)) (ap (member_at key fs) next)
    (more_found key k (name ∷ []) fs d q v more later))

-- ---- paths

part_found : (part : PathPart) (t : Tree) (b : List ℕ) (v : Tree) → BeginsWithValue t b → child part t ≡ Some v → Found part v (part_at part t b)
part_found (Index i) (list ts) b v (k, q, (may, (c, bracket, (d, spaces, items)))) e =
    let start : after_mark b ≡ d = mark_end 91 b c d bracket spaces (items_tight (suc k) all_rules ts d q items) in
    renumbered i i v (item_at i ts (after_mark b)) (item_at i ts d) (ap (item_at i ts) start) (items_found i (suc k) ts d q v items e)
part_found (Key key) (object fs) b v (k, q, (may, (c, brace, (d, spaces, members)))) e =
    let start : after_mark b ≡ d = mark_end 123 b c d brace spaces (members_tight (suc k) all_rules fs d q members) in
    elsewhere key v (member_at key fs (after_mark b)) (member_at key fs d) (ap (member_at key fs) start) (members_found key (suc k) fs d q v members e)
part_found (Index i) null b v h e = absurd (cc)
part_found (Index i) (boolean x) b v h e = absurd (cc)
part_found (Index i) (number n) b v h e = absurd (cc)
part_found (Index i) (text s) b v h e = absurd (cc)
part_found (Index i) (object fs) b v h e = absurd (cc)
part_found (Key key) null b v h e = absurd (cc)
part_found (Key key) (boolean x) b v h e = absurd (cc)
part_found (Key key) (number n) b v h e = absurd (cc)
part_found (Key key) (text s) b v h e = absurd (cc)
part_found (Key key) (list ts) b v h e = absurd (cc)

-- a path that leads to a value begins with a part that leads to one
first_child : (path : List PathPart) (r : Option Tree) (v : Tree) → option_and_then (value_at path) r ≡ Some v → (w : Tree) × (r ≡ Some w) × (value_at path w ≡ Some v)
first_child path (Some w) v e = (w, refl, e)
first_child path None v e = absurd (cc)

step_below : (part : PathPart) (path : List PathPart) (p c : PlacedValue) → part_at part p.value p.at ≡ Some c → place_below (part ∷ path) p ≡ place_below path c
step_below part path p c e = ap (λ (r : Option PlacedValue). unwrap_or (option_map (place_below path) r) p.name) e

below : (part : PathPart) (path : List PathPart) (p : PlacedValue) (v : Tree) → BeginsWithValue p.value p.at → value_at (part ∷ path) p.value ≡ Some v
    → BeginsWith (part ∷ path) v (place_below (part ∷ path) p)
below part [] p v begins e =
    let first = first_child [] (child part p.value) v e in
    let found = part_found part p.value p.at first.0 begins first.1 in
    let same : first.0 ≡ v = same_tree first.0 v first.2 in
    subst (λ (s : List ℕ). BeginsWithPart part v s) (sym (step_below part [] p found.there found.is))
    (subst (λ (w : Tree). BeginsWithPart part w found.there.name) same found.name)
below part (next ∷ path) p v begins e =
    let first = first_child (next ∷ path) (child part p.value) v e in
    let found = part_found part p.value p.at first.0 begins first.1 in
    let own : BeginsWithValue found.there.value found.there.at = subst (λ (w : Tree). BeginsWithValue w found.there.at) (sym found.value) found.begins in
    let leads : value_at (next ∷ path) found.there.value ≡ Some v = ap (value_at (next ∷ path)) found.value ∙ first.2 in
    subst (λ (s : List ℕ). BeginsWith (next ∷ path) v s) (sym (step_below part (next ∷ path) p found.there found.is))
    (below next path found.there v own leads)

whole_begins : (t : Tree) (b : List ℕ) → Spells all_rules b t → BeginsWithValue t (after_spaces b)
whole_begins t b (c, (d, spaces, value), behind) =
    subst (λ (s : List ℕ). BeginsWithValue t s) (sym (spaces_end b d spaces (value_tight 0 all_rules t d c value))) (0, c, value)

pub places_spell : PlacesSpellTheirValues
places_spell b t v [] h e = subst (λ (w : Tree). BeginsWithValue w (after_spaces b)) (same_tree t v e) (whole_begins t b h)
places_spell b t v (part ∷ path) h e = below part path (whole_value t b) v (whole_begins t b h) e
