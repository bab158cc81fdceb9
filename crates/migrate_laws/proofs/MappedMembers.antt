-- Members that are replaced keep their names: what is at a name, and the type of a layer.
use Rattle.std.proofs.Common.{◌≡◌, ◌∙◌, ℕ, List, refl, ap, true, false}
use Rattle.std.proofs.lemmas.Slice.Eq.{bytes_eq-Decides}
use Rattle.std.specs.Prelude.{Bool, codes, Option, Some, None, is_some, option_map, if◌then◌else◌}
use Rattle.std.specs.Str.{bytes_eq}
use Rattle.std.specs.Option.{option_and_then}
use Rattle.decimal_json.specs.Tree.{Tree, null, boolean, number, text, list, object, Trees, no_trees, tree, Fields, no_fields, field, field_at}
use Rattle.legacy_filters.specs.Migrated.{migrated_filter}
use Rattle.property_tables.specs.declared.layer_type.LayerType.{LayerType}
use Rattle.property_tables.specs.declared.property_row.Place.{Place}
use Rattle.value_forms.specs.LayerTypes.{layer_type, tested_type, type_in, place_named}
use Rattle.style_migrate.specs.Migrated.{mapped_fields, mapped_items, migrated_properties}
use Rattle.style_migrate.specs.Migrated.{migrated_member, migrated_layer}

-- ---- members and items

at_if : (change : List ℕ → Tree → Tree) (key k : List ℕ) (t : Tree) (later : Option Tree) (b : Bool)
    → bytes_eq k key ≡ b
    → (if b then Some (change k t) else option_map (change key) later)
    ≡ option_map (change key) (if b then Some t else later)
at_if change key k t later true is = ap (λ n. Some (change n t)) ((bytes_eq-Decides k key).0 is)
at_if change key k t later false is = refl

-- What is at a name is replaced.
pub mapped_at : (change : List ℕ → Tree → Tree) (key : List ℕ) (fs : Fields)
    → field_at key (mapped_fields change fs) ≡ option_map (change key) (field_at key fs)
mapped_at change key no_fields = refl
mapped_at change key (field k t fs) =
    ap (λ later. if bytes_eq k key then Some (change k t) else later) (mapped_at change key fs)
    ∙ at_if change key k t (field_at key fs) (bytes_eq k key) refl

pub map_kept : (f : Tree → Tree) (o : Option Tree) → ((t : Tree) → f t ≡ t) → option_map f o ≡ o
map_kept f (Some t) keeps = ap Some (keeps t)
map_kept f None keeps = refl

-- What is at a name whose values are kept.
pub kept_at : (change : List ℕ → Tree → Tree) (key : List ℕ) (fs : Fields)
    → ((t : Tree) → change key t ≡ t) → field_at key (mapped_fields change fs) ≡ field_at key fs
kept_at change key fs keeps = mapped_at change key fs ∙ map_kept (change key) (field_at key fs) keeps

-- Members are replaced twice.
pub fields_twice : (change : List ℕ → Tree → Tree)
    → ((k : List ℕ) (t : Tree) → change k (change k t) ≡ change k t)
    → (fs : Fields) → mapped_fields change (mapped_fields change fs) ≡ mapped_fields change fs
fields_twice change stays no_fields = refl
fields_twice change stays (field k t fs) =
    let one = stays k t in
    let rest = fields_twice change stays fs in
    λ i. field k (one i) (rest i)

pub items_twice : (change : Tree → Tree) → ((t : Tree) → change (change t) ≡ change t)
    → (ts : Trees) → mapped_items change (mapped_items change ts) ≡ mapped_items change ts
items_twice change stays no_trees = refl
items_twice change stays (tree t ts) =
    let one = stays t in
    let rest = items_twice change stays ts in
    λ i. tree (one i) (rest i)

-- ---- layers

placeless_kept : (type : Option LayerType) (place : Option Place) → place ≡ None → (t : Tree)
    → migrated_properties type place t ≡ t
placeless_kept (Some type) place is t = ap (λ p. migrated_properties (Some type) p t) is
placeless_kept None place is t = refl

-- A member of a layer that is neither its filter nor one of the two objects of properties.
pub member_kept : (type : Option LayerType) (key : List ℕ) → bytes_eq key (codes "filter") ≡ false
    → place_named key ≡ None → (t : Tree) → migrated_member type key t ≡ t
member_kept type key no_filter no_place t =
    ap (λ b. if b then migrated_filter t else migrated_properties type (place_named key) t) no_filter
    ∙ placeless_kept type (place_named key) no_place t

-- A migrated layer keeps its type.
pub type_kept : (layer : Tree) → layer_type (migrated_layer layer) ≡ layer_type layer
type_kept null = refl
type_kept (boolean b) = refl
type_kept (number n) = refl
type_kept (text s) = refl
type_kept (list ts) = refl
type_kept (object fs) =
    let tested = tested_type (layer_type (object fs)) in
    let change = migrated_member tested in
    let ref = kept_at change (codes "ref") fs (member_kept tested (codes "ref") refl refl) in
    let named = kept_at change (codes "type") fs (member_kept tested (codes "type") refl refl) in
    λ i. if is_some (ref i) then None else option_and_then type_in (named i)
