-- What is reported of the values and filters of the layers of a document without findings.
use Rattle.std.proofs.Common.{◌≡◌, ◌∙◌, ℕ, List, [], ◌∷◌, ◌++◌, refl, ap, subst, Bool, true, false, Option, Some, None}
use Rattle.std.specs.Prelude.{codes, not, ◌&&◌, is_some, if◌then◌else◌}
use Rattle.std.specs.Option.{option_and_then}
use Rattle.decimal_json.specs.Accessors.{member, has, trees_in}
use Rattle.decimal_json.specs.Tree.{Tree, null, boolean, number, text, list, object}
use Rattle.decimal_json.specs.declared.paths.PathPart.{PathPart}
use Rattle.decimal_json.specs.declared.paths.PathPart.TheVariants.{Key}
use Rattle.property_tables.specs.Rows.{RowData, row_of}
use Rattle.property_tables.specs.declared.layer_type.LayerType.{LayerType}
use Rattle.property_tables.specs.declared.property_row.Place.{Place}
use Rattle.property_tables.specs.declared.property_row.Place.TheVariants.{Layout, Paint}
use Rattle.style_parts.specs.Parts.{layers_of, layer_at}
use Rattle.value_forms.specs.LayerTypes.{layer_type, type_in, tested_type, is_unread_type, place_named}
use Rattle.style_layout.specs.Layers.{place_key, set_value}
use Rattle.style_rules.specs.Findings.{reports, reports_or, walk, findings}
use Rattle.style_rules.specs.Places.{mark_at, context_at, layer_context, properties_mark, property_mark, row_mark, least_broken}
use Rattle.style_rules.specs.Rules
use Rattle.style_rules.specs.Values.{value_mark, filter_mark}
use Rattle.style_laws.specs.StyleLaw.{layer_path, value_path, filter_path}
use Rattle.style_laws.proofs.PartsOfReports.{Mark, Reports, IsPart, whole_itself, AllHold, walk_below, rules_at, member_at, item_at}

some_of : {A : Type 0} (o : Option A) → is_some o ≡ true → (a : A) × (o ≡ Some a)
some_of (Some a) h = (a, refl)
some_of None h = absurd (cc)

two_steps : {A B : Type 0} (go : A → Option B) (o : Option A) (b : B) → option_and_then go o ≡ Some b →
    (a : A) × (o ≡ Some a) × (go a ≡ Some b)
two_steps go (Some a) b h = (a, refl, h)
two_steps go None b h = absurd (cc)

module _ (document : Tree) (none : findings document ≡ []) where
  abbrev marks : List PathPart → Tree → Mark
  marks = mark_at document

  -- what is reported of a tree at a path is a part of what is reported of the document
  abbrev IsReportedAt : List PathPart → Tree → Type 0
  IsReportedAt path t = IsPart (walk t marks path) (reports document)

  -- the rules of a place, which hold
  abbrev rules_of : (t : Tree) (path : List PathPart) (rs : List (ℕ × Bool)) → marks path t ≡ least_broken rs → IsReportedAt path t → AllHold rs
  rules_of t path rs is part = rules_at marks (reports document) none t path rs is part

  -- ---- layers

  item_reported : (t : Tree) (i : ℕ) (layer : Tree) → member (codes "layers") document ≡ Some t → layer_at i (trees_in (Some t)) ≡ Some layer →
      IsReportedAt (layer_path i) layer
  item_reported (list ts) i layer is found =
      item_at marks (reports document) none ts i layer (Key (codes "layers") ∷ []) ((5, Rules.are_layers (list ts)) ∷ []) refl found
      (member_at marks (reports document) none document (codes "layers") (list ts) []
      ((1, Rules.is_document document) ∷ (2, Rules.has_root_members document) ∷ []) refl is (whole_itself (reports document)))
  item_reported null i layer is found = absurd (cc)
  item_reported (boolean b) i layer is found = absurd (cc)
  item_reported (number n) i layer is found = absurd (cc)
  item_reported (text s) i layer is found = absurd (cc)
  item_reported (object fs) i layer is found = absurd (cc)

  reported_in : (o : Option Tree) → member (codes "layers") document ≡ o → (i : ℕ) (layer : Tree) → layer_at i (trees_in o) ≡ Some layer →
      IsReportedAt (layer_path i) layer
  reported_in (Some t) is i layer found = item_reported t i layer is found
  reported_in None is i layer found = absurd (cc)

  layer_reported : (i : ℕ) (layer : Tree) → layer_at i (layers_of document) ≡ Some layer → IsReportedAt (layer_path i) layer
  layer_reported i layer found = reported_in (member (codes "layers") document) refl i layer found

  module _ (i : ℕ) (layer : Tree) (found : layer_at i (layers_of document) ≡ Some layer) where
    abbrev layer_rules : List (ℕ × Bool)
    layer_rules =
        (6, Rules.is_layer layer) ∷
        (7, Rules.has_id layer) ∷
        (9, Rules.has_type layer) ∷
        (10, Rules.has_source (context_at document i) layer) ∷
        (12, Rules.has_source_layer (context_at document i) layer) ∷ []

    member_reported : (key : List ℕ) (v : Tree) → member key layer ≡ Some v → IsReportedAt (layer_path i ++ Key key ∷ []) v
    member_reported key v is =
        member_at marks (reports document) none layer key v (layer_path i) layer_rules refl is (layer_reported i layer found)

    -- a layer has a type
    type_by : (o : Option Tree) (b : Bool) → member (codes "type") layer ≡ o → has (codes "ref") layer ≡ b →
        (is_some o && not b) ≡ true → (type : LayerType) × ((if b then None else option_and_then type_in o) ≡ Some type)
    type_by (Some t) false is ref h =
        let held = rules_of t (layer_path i ++ Key (codes "type") ∷ []) ((9, Rules.is_type t) ∷ []) refl (member_reported (codes "type") t is) in
        some_of (type_in t) held.0
    type_by (Some t) true is ref h = absurd (cc)
    type_by None b is ref h = absurd (cc)

    pub typed : (type : LayerType) × (layer_type layer ≡ Some type)
    typed =
        let held = rules_of layer (layer_path i) layer_rules refl (layer_reported i layer found) in
        type_by (member (codes "type") layer) (has (codes "ref") layer) refl refl held.1.1.0

    -- ---- values

    module _ (type : LayerType) (is_type : layer_type layer ≡ Some type) (tested : is_unread_type type ≡ false) where
      tested_is : tested_type (context_at document i).type ≡ Some type
      tested_is =
          (λ j. tested_type (layer_context document (found j)).type)
          ∙ ap tested_type is_type ∙ (λ j. if tested j then None else Some type)

      properties_part : (place : Place) (t : Tree) → marks (layer_path i ++ Key (place_key place) ∷ []) t ≡ properties_mark (Some type) t
      properties_part Layout t = ap (λ o. properties_mark o t) tested_is
      properties_part Paint t = ap (λ o. properties_mark o t) tested_is

      place_is : (place : Place) → place_named (place_key place) ≡ Some place
      place_is Layout = refl
      place_is Paint = refl

      module _ (place : Place) (name : List ℕ) (row : RowData) (n : ℕ) (at_row : row_of type place name ≡ Some (n, row)) where
        value_marked : (v : Tree) → marks (value_path i place name) v ≡ value_mark row v
        value_marked v =
            (λ j. property_mark (tested_is j) (place_is place j) name v) ∙ ap (λ f. row_mark type place name f v) at_row

        -- what is reported of a value, with what is below it
        pub value_reported : (v : Tree) → set_value layer place name ≡ Some v →
            (below : Reports) × IsPart (reports_or (value_mark row v) (value_path i place name) below) (reports document)
        value_reported v is =
            let (t, there, here) = two_steps (member name) (member (place_key place) layer) v is in
            let part = member_at marks (reports document) none t name v (layer_path i ++ Key (place_key place) ∷ [])
            ((14, Rules.are_properties t) ∷ []) (properties_part place t) here (member_reported (place_key place) t there) in
            let (below, shape) = walk_below marks v (value_path i place name) in
            (below, subst (λ r. IsPart r (reports document)) (shape ∙ ap (λ m. reports_or m (value_path i place name) below) (value_marked v)) part)

    -- what is reported of the filter
    pub filter_reported : (v : Tree) → member (codes "filter") layer ≡ Some v →
        (below : Reports) × IsPart (reports_or (filter_mark v) (filter_path i) below) (reports document)
    filter_reported v is =
        let (below, shape) = walk_below marks v (filter_path i) in
        (below, subst (λ r. IsPart r (reports document)) shape (member_reported (codes "filter") v is))
