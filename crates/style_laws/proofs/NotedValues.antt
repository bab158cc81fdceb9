-- What is noted of a document without findings is shown as `?`.
use Rattle.std.proofs.Common.{◌≡◌, ◌∙◌, inl, inr, ℕ, zero, suc, ◌+◌, List, [], ◌∷◌, map, flat_map, refl, ap, sym, subst, arith, Bool, true, false, Option, Some, None}
use Rattle.std.specs.Prelude.{codes, not, ◌&&◌, filter, cond, option_map, if◌then◌else◌}
use Rattle.std.specs.List.{slice_get}
use Rattle.decimal_json.specs.Accessors.{member}
use Rattle.decimal_json.specs.Tree.{Tree, Trees, no_trees, tree}
use Rattle.decimal_json.specs.declared.paths.PathPart.{PathPart}
use Rattle.prop_values.specs.Data.{Data}
use Rattle.prop_values.proofs.KeyLaws.{same_texts}
use Rattle.prop_values.specs.Equality.{same_text}
use Rattle.prop_values.specs.declared.outcome.Outcome.TheVariants.{Outside}
use Rattle.property_tables.specs.Rows.{RowData, rows_of, row_named, is_at, at_place, row_of}
use Rattle.property_tables.specs.declared.layer_type.LayerType.{LayerType}
use Rattle.property_tables.specs.declared.property_row.Place.{Place}
use Rattle.property_tables.specs.declared.property_row.Place.TheVariants.{Layout, Paint}
use Rattle.style_parts.specs.Parts.{layers_of, layer_at}
use Rattle.eval_face.specs.World.{no_feature}
use Rattle.value_forms.specs.Forms.{takes_literals_alone}
use Rattle.value_forms.specs.LayerTypes.{layer_type, tested_type, is_unread_type}
use Rattle.listing_text.specs.Layout.{ListedValue, LayerOut}
use Rattle.listing_text.specs.declared.show.Show.{Show}
use Rattle.listing_text.specs.declared.show.Show.TheVariants.{Plain, Hidden, Unread, OutsideFilter}
use Rattle.style_layout.specs.Forms.{Scene, outside, Property, valued_property, property_value, layer_filter, is_outside}
use Rattle.style_layout.specs.Layers.{StyleLayer, set_value, property_if, set_property, properties_of, layer_properties, typed_layer, with_layer, layers_in, has_features, is_hidden, shown_plainly, show_of}
use Rattle.style_layout.specs.Shown.{SourceTile, listed_value, layer_values}
use Rattle.style_layout.specs.StyleLayout.{values_shown, layer_out, layout_of}
use Rattle.style_rules.specs.Findings.{findings}
use Rattle.style_rules.specs.Levels.{WalksByLevels}
use Rattle.global_laws.specs.GlobalLaw.{GlobalValuesChangeNoForm}
use Rattle.style_laws.specs.NoteLaw.{has_values, IsOutsideValue, IsOutsideFilter, NotedValuesAreOutside}
use Rattle.style_laws.proofs.NotedPlaces.{IsIn, in_left, in_right, in_contains, IsNotedValue, IsNotedFilter, noted}
use Rattle.style_laws.proofs.ReportedValues.{typed}

-- ---- what is in lists that are made of others

in_map : {A B : Type 0} (f : A → B) (x : A) (xs : List A) → IsIn x xs → IsIn (f x) (map f xs)
in_map f x [] is = absurd is
in_map f x (y ∷ ys) (inl same) = inl (ap f same)
in_map f x (y ∷ ys) (inr is) = inr (in_map f x ys is)

in_flat : {A B : Type 0} (f : A → List B) (x : A) (y : B) (xs : List A) → IsIn x xs → IsIn y (f x) → IsIn y (flat_map f xs)
in_flat f x y [] is h = absurd is
in_flat f x y (z ∷ zs) (inl same) h = in_left y (f z) (flat_map f zs) (subst (λ u. IsIn y (f u)) (sym same) h)
in_flat f x y (z ∷ zs) (inr is) h = in_right y (f z) (flat_map f zs) (in_flat f x y zs is h)

in_cond : {A : Type 0} (b : Bool) (x y : A) (ys zs : List A) → IsIn x ys → IsIn x (cond b (y ∷ ys) ys)
in_cond true x y ys zs is = inr is
in_cond false x y ys zs is = is

in_filter : {A : Type 0} (test : A → Bool) (x : A) (xs : List A) → test x ≡ true → IsIn x xs → IsIn x (filter test xs)
in_filter test x [] h is = absurd is
in_filter test x (y ∷ ys) h (inl same) =
    subst (λ b. IsIn x (cond b (y ∷ filter test ys) (filter test ys))) (sym (ap test same ∙ h)) (inl same)
in_filter test x (y ∷ ys) h (inr is) = in_cond (test y) x y (filter test ys) ys (in_filter test x ys h is)

-- ---- the row of a name

abbrev IsRowOf : List RowData → List ℕ → Option (ℕ × RowData) → Type 0
IsRowOf rows name (Some found) = IsIn found.1 rows × (found.1.name ≡ name)
IsRowOf rows name None = Unit {0}

row_if : (name : List ℕ) (r : RowData) (rs : List RowData) (n : ℕ) (later : Option (ℕ × RowData)) (b : Bool) → same_text name r.name ≡ b →
    IsRowOf rs name later → IsRowOf (r ∷ rs) name (if b then Some (n, r) else later)
row_if name r rs n later true same h = (inl refl, sym (same_texts name r.name same))
row_if name r rs n (Some found) false other h = (inr h.0, h.1)
row_if name r rs n None false other h = tt

row_in : (n : ℕ) (name : List ℕ) (rows : List RowData) → IsRowOf rows name (row_named n name rows)
row_in n name [] = tt
row_in n name (r ∷ rs) = row_if name r rs n (row_named (n + 1) name rs) (same_text name r.name) refl (row_in (n + 1) name rs)

at_is : (p q : Place) → is_at p q ≡ true → q ≡ p
at_is Layout Layout h = refl
at_is Paint Paint h = refl
at_is Layout Paint h = absurd (cc)
at_is Paint Layout h = absurd (cc)

placed_row : (place : Place) (rows : List RowData) (name : List ℕ) (o : Option (ℕ × RowData)) → IsRowOf rows name o → (n : ℕ) (row : RowData) →
    at_place place o ≡ Some (n, row) → IsIn row rows × (row.name ≡ name) × (row.place ≡ place)
placed_row place rows name None h n row is = absurd (cc)
placed_row place rows name (Some found) h n row is = by (is_at place found.1.place) refl is
  where
    by : (b : Bool) → is_at place found.1.place ≡ b → (if b then Some found else None) ≡ Some (n, row) → IsIn row rows × (row.name ≡ name) × (row.place ≡ place)
    by true at is =
        let same : found ≡ (n, row) = cc in
        let one : found.1 ≡ row = ap (λ (f : ℕ × RowData). f.1) same in
        subst (λ (r : RowData). IsIn r rows × (r.name ≡ name) × (r.place ≡ place)) one (h.0, h.1, at_is place found.1.place at)
    by false at is = absurd (cc)

found_row : (type : LayerType) (place : Place) (name : List ℕ) (n : ℕ) (row : RowData) → row_of type place name ≡ Some (n, row) →
    IsIn row (rows_of type) × (row.name ≡ name) × (row.place ≡ place)
found_row type place name n row is = placed_row place (rows_of type) name (row_named 0 name (rows_of type)) (row_in 0 name (rows_of type)) n row is

-- ---- a value

module _ (scene : Scene) (tiles : List SourceTile) (globals : List (List ℕ × Data)) (layer : Tree) (type : LayerType) where
  abbrev prepared : StyleLayer
  prepared = typed_layer globals layer type

  values_listed : (show : Show) (value : ListedValue) → has_values show ≡ true → IsIn value (layer_values scene prepared) → IsIn value (values_shown scene tiles show prepared)
  values_listed Plain value h is = is
  values_listed OutsideFilter value h is = is
  values_listed Hidden value h is = absurd (cc)
  values_listed Unread value h is = absurd (cc)

  value_in : (place : Place) (name : List ℕ) (n : ℕ) (row : RowData) (v : Tree) → row_of type place name ≡ Some (n, row) → set_value layer place name ≡ Some v →
      takes_literals_alone row ≡ false → property_value row globals v ≡ outside →
      IsIn (record { name = name; outcome = Outside }) (layer_values scene prepared)
  value_in place name n row v at_row set alone none =
      let (among, named, placed) = found_row type place name n row at_row in
      let p : Property = valued_property row globals outside in
      let set_here : set_value layer row.place row.name ≡ Some v = (λ i. set_value layer (placed i) (named i)) ∙ set in
      let made : set_property globals layer row ≡ p ∷ [] =
      ap (λ b. if b then [] else property_if row globals (set_value layer row.place row.name)) alone
      ∙ (ap (property_if row globals) set_here ∙ ap (λ value. valued_property row globals value ∷ []) none) in
      let one : IsIn p (set_property globals layer row) = subst (IsIn p) (sym made) (inl refl) in
      let all : IsIn p (properties_of globals type layer) = in_flat (set_property globals layer) row p (rows_of type) among one in
      let own : IsIn p (layer_properties (properties_of globals type layer)) = in_filter (λ (q : Property). not q.is_per_feature) p (properties_of globals type layer) refl all in
      let listed = in_map (listed_value scene no_feature []) p (layer_properties (properties_of globals type layer)) own in
      subst (λ x. IsIn (record { name = x; outcome = Outside }) (layer_values scene prepared)) named listed

-- ---- the filter

show_by : (hidden unread : Bool) (type : LayerType) (out : Bool) → has_values (if hidden then Hidden else if unread then Unread else shown_plainly type out) ≡ true →
    has_features type ≡ true → out ≡ true → (if hidden then Hidden else if unread then Unread else shown_plainly type out) ≡ OutsideFilter
show_by true unread type out h f o = absurd (cc)
show_by false true type out h f o = absurd (cc)
show_by false false type out h f o = λ i. if f i && o i then OutsideFilter else Plain

-- ---- layers

module _ (document : Tree) (none : findings document ≡ []) (scene : Scene) (tiles : List SourceTile) (globals : List (List ℕ × Data)) where
  abbrev outs : List StyleLayer → List LayerOut
  outs layers = map (layer_out scene tiles) layers

  abbrev out : Tree → LayerType → LayerOut
  out layer type = layer_out scene tiles (typed_layer globals layer type)

  abbrev IsRest : ℕ → Trees → Type 0
  IsRest k ts = (j : ℕ) (layer : Tree) → layer_at j ts ≡ Some layer → layer_at (k + j) (layers_of document) ≡ Some layer

  out_at : (ts : Trees) (k : ℕ) → IsRest k ts → (j : ℕ) (layer : Tree) (type : LayerType) → layer_at j ts ≡ Some layer → layer_type layer ≡ Some type →
      slice_get (outs (layers_in globals ts)) j ≡ Some (out layer type)
  out_at no_trees k rest j layer type at is = absurd (cc)
  out_at (tree t ts) k rest zero layer type at is =
      let same : t ≡ layer = cc in
      let here : layer_type t ≡ Some type = ap layer_type same ∙ is in
      ap (λ o. slice_get (outs (with_layer (option_map (typed_layer globals t) o) (layers_in globals ts))) zero) here
      ∙ ap (λ l. Some (out l type)) same
  out_at (tree t ts) k rest (suc j) layer type at is =
      let here : k + 0 ≡ k = omega arith in
      let found : layer_at k (layers_of document) ≡ Some t = subst (λ n. layer_at n (layers_of document) ≡ Some t) here (rest zero t refl) in
      let (first, first_is) = typed document none k t found in
      let later = λ (i : ℕ) (l : Tree) (h : layer_at i ts ≡ Some l).
      let there : k + suc i ≡ (k + 1) + i = omega arith in
      subst (λ n. layer_at n (layers_of document) ≡ Some l) there (rest (suc i) l h) in
      ap (λ o. slice_get (outs (with_layer (option_map (typed_layer globals t) o) (layers_in globals ts))) (suc j)) first_is
      ∙ out_at ts (k + 1) later j layer type at is

  layer_found : (i : ℕ) (layer : Tree) (type : LayerType) → layer_at i (layers_of document) ≡ Some layer → layer_type layer ≡ Some type →
      slice_get (layout_of scene tiles globals document).layers i ≡ Some (out layer type)
  layer_found i layer type at is =
      out_at (layers_of document) 0 (λ j l h. let here : j ≡ 0 + j = omega arith in subst (λ n. layer_at n (layers_of document) ≡ Some l) here h) i layer type at is

tested_is : (type other : LayerType) → tested_type (Some type) ≡ Some other → other ≡ type
tested_is type other h = by (is_unread_type type) h
  where
    by : (b : Bool) → (if b then None else Some type) ≡ Some other → other ≡ type
    by true h = absurd (cc)
    by false h = let same : type ≡ other = cc in sym same

module _ (alike : GlobalValuesChangeNoForm) (path : List PathPart) (i : ℕ) (layer : Tree) (type : LayerType) (is : layer_type layer ≡ Some type)
    (scene : Scene) (tiles : List SourceTile) (globals : List (List ℕ × Data)) where
  abbrev out_here : LayerOut
  out_here = layer_out scene tiles (typed_layer globals layer type)

  value_shown : IsNotedValue alike layer i path → IsOutsideValue path i out_here
  value_shown (other, place, name, n, row, v, at_path, tested, set, at_row, alone, never) =
      let same : other ≡ type = tested_is type other (ap tested_type (sym is) ∙ tested) in
      let here : row_of type place name ≡ Some (n, row) = subst (λ t. row_of t place name ≡ Some (n, row)) same at_row in (
        place,
        name,
        at_path,
        λ listed.
            in_contains (record { name = name; outcome = Outside }) out_here.values
            (values_listed scene tiles globals layer type (show_of scene.zoom (typed_layer globals layer type)) (record { name = name; outcome = Outside }) listed
            (value_in scene tiles globals layer type place name n row v here set alone (never globals))),
      )

  filter_shown : IsNotedFilter alike layer i path → IsOutsideFilter path i out_here
  filter_shown (v, at_path, filter_is, never) =
      let asked : is_outside (layer_filter globals (member (codes "filter") layer)) ≡ true = ap (λ o. is_outside (layer_filter globals o)) filter_is ∙ never globals in
      let prepared = typed_layer globals layer type in
      (at_path, λ listed features. show_by (is_hidden scene.zoom prepared) (is_unread_type type) type (is_outside prepared.filter) listed features asked)

pub noted_are_outside : GlobalValuesChangeNoForm → WalksByLevels → NotedValuesAreOutside
noted_are_outside alike levels document once none path is =
    let (i, layer, found, what) = noted alike levels document once path is in
    let (type, of_type) = typed document none i layer found in (
      i,
      λ scene tiles globals. (
        layer_out scene tiles (typed_layer globals layer type),
        layer_found document none scene tiles globals i layer type found of_type,
        elim what [
          | inl value ↦ inl (value_shown alike path i layer type of_type scene tiles globals value)
          | inr filter_is ↦ inr (filter_shown alike path i layer type of_type scene tiles globals filter_is)
        ],
      ),
    )
