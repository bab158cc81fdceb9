-- A document whose values and filters are changed breaks no rule where it broke none, level by level.
use Rattle.std.proofs.Common.{◌≡◌, ◌∙◌, ℕ, zero, suc, ◌+◌, List, [], ◌∷◌, ◌++◌, refl, ap, sym, subst, true, false, inl, inr}
use Rattle.std.proofs.lemmas.Bool.{cases_Bool}
use Rattle.std.proofs.lemmas.Slice.Eq.{bytes_eq-Decides}
use Rattle.std.specs.Prelude.{Bool, not, ◌&&◌, ◌||◌, if◌then◌else◌, codes, nat_le, Option, Some, None, is_some, option_map}
use Rattle.std.specs.Str.{bytes_eq}
use Rattle.std.specs.Option.{option_and_then}
use Rattle.decimal_json.specs.Accessors.{fields_in, has, is_object, member, text_in, trees_in}
use Rattle.decimal_json.specs.Sound.{HasDistinctKeys}
use Rattle.decimal_json.specs.Tree.{members_of, Tree, null, boolean, number, text, list, object, Trees, no_trees, tree, Fields, no_fields, field}
use Rattle.decimal_json.specs.declared.paths.PathPart.{PathPart}
use Rattle.decimal_json.specs.declared.paths.PathPart.TheVariants.{Key, Index}
use Rattle.property_tables.specs.declared.layer_type.LayerType.{LayerType}
use Rattle.property_tables.specs.declared.property_row.Place.{Place}
use Rattle.property_tables.specs.declared.property_row.Place.TheVariants.{Layout, Paint}
use Rattle.style_parts.specs.Parts.{equals_id, is_layers, layers_of, sources_of}
use Rattle.value_forms.specs.LayerTypes.{layer_type, place_named, tested_type, type_in}
use Rattle.style_rules.specs.Findings.{reports, reports_or}
use Rattle.style_rules.specs.LayerContext.{LayerContext, context_of, named_type, sources_for}
use Rattle.style_rules.specs.Levels.{WalksByLevels, context_reports, document_reports, fields_or_none, fields_reports, items_or_none, layer_reports, layers_reports, member_reports, named_reports, property_reports}
use Rattle.style_rules.specs.Places.{least_broken, properties_mark, property_mark, root_mark, root_member_mark, unless_broken, used_in}
use Rattle.style_rules.specs.Rules.{count_of, is_on_vector}
use Rattle.style_rules.specs.Values.{filter_mark}
use Rattle.style_migrate.specs.Migrated.{mapped_fields, mapped_items, with_items, with_values}
use Rattle.migrate_laws.proofs.MappedMembers.{kept_at, map_kept}
use Rattle.migrate_laws.proofs.MigratedParts.{values_at}
use Rattle.migrate_soundness.proofs.MemberLists.{distinct_kept, members_back}
use Rattle.migrate_soundness.proofs.ReportedAlike.{IsMarkedAlike, IsReportedAlike, ToldList, both_alike, reports_itself, reports_same, rules_alike}

is_key : (k key : List ℕ) → bytes_eq k key ≡ true → k ≡ key
is_key k key h = (bytes_eq-Decides k key).0 h

-- ---- objects whose values are replaced

some_kept : (f : Tree → Tree) (o : Option Tree) → is_some (option_map f o) ≡ is_some o
some_kept f (Some t) = refl
some_kept f None = refl

has_kept : (change : List ℕ → Tree → Tree) (key : List ℕ) (t : Tree) → has key (with_values change t) ≡ has key t
has_kept change key t = ap is_some (values_at change key t) ∙ some_kept (change key) (member key t)

object_kept : (change : List ℕ → Tree → Tree) (t : Tree) → is_object (with_values change t) ≡ is_object t
object_kept change null = refl
object_kept change (boolean b) = refl
object_kept change (number n) = refl
object_kept change (text s) = refl
object_kept change (list ts) = refl
object_kept change (object fs) = refl

count_kept : (change : Tree → Tree) (ts : Trees) → count_of (mapped_items change ts) ≡ count_of ts
count_kept change no_trees = refl
count_kept change (tree t ts) = ap suc (count_kept change ts)

-- ---- the rules at a layer and at the root, by which members there are

abbrev layer_rules : LayerContext → (form id type ref source source_layer : Bool) → List (ℕ × Bool)
layer_rules context form id type ref source source_layer =
    (6, form) ∷
    (7, id) ∷
    (9, type && not ref) ∷
    (10, not (is_some context.sources) || source) ∷
    (12, not (is_on_vector context) || source_layer) ∷ []

abbrev rules_of_layer : LayerContext → Tree → List (ℕ × Bool)
rules_of_layer context layer =
    layer_rules context (is_object layer) (has (codes "id") layer) (has (codes "type") layer) (has (codes "ref") layer) (has (codes "source") layer) (has (codes "source-layer") layer)

layer_rules_kept : (context : LayerContext) (change : List ℕ → Tree → Tree) (layer : Tree) → rules_of_layer context (with_values change layer) ≡ rules_of_layer context layer
layer_rules_kept context change layer =
    let form = object_kept change layer in
    let id = has_kept change (codes "id") layer in
    let type = has_kept change (codes "type") layer in
    let ref = has_kept change (codes "ref") layer in
    let source = has_kept change (codes "source") layer in
    let source_layer = has_kept change (codes "source-layer") layer in
    λ i. layer_rules context (form i) (id i) (type i) (ref i) (source i) (source_layer i)

abbrev root_rules : (form version sources layers : Bool) → List (ℕ × Bool)
root_rules form version sources layers = (1, form) ∷ (2, version && (sources && layers)) ∷ []

abbrev rules_of_root : Tree → List (ℕ × Bool)
rules_of_root document = root_rules (is_object document) (has (codes "version") document) (has (codes "sources") document) (has (codes "layers") document)

root_rules_kept : (change : List ℕ → Tree → Tree) (document : Tree) → rules_of_root (with_values change document) ≡ rules_of_root document
root_rules_kept change document =
    let form = object_kept change document in
    let version = has_kept change (codes "version") document in
    let sources = has_kept change (codes "sources") document in
    let layers = has_kept change (codes "layers") document in
    λ i. root_rules (form i) (version i) (sources i) (layers i)

-- ---- what is reported

abbrev context_with : Option Fields → Option LayerType → Option (List ℕ) → LayerContext
context_with sources type name = record { type = type; sources = sources_for sources type; source_type = named_type (sources_for sources type) name }

no_place_named : (m : List ℕ) → bytes_eq m (codes "layout") ≡ false → bytes_eq m (codes "paint") ≡ false → place_named m ≡ None
no_place_named m no_layout no_paint = rw (no_layout, no_paint) refl

abbrev properties_reports : Option LayerType → Place → List PathPart → Tree → ToldList
properties_reports type place path t = reports_or (properties_mark type t) path (fields_reports (property_reports type (Some place) path) (fields_or_none t))

-- by the sources of the document, and the ids that its layers use
abbrev part_reports : Option Fields → (ℕ → List ℕ → Bool) → List ℕ → Tree → ToldList
part_reports sources used k t =
    reports_or (root_member_mark k t) (Key k ∷ []) (
    if is_layers k then layers_reports sources used (Key k ∷ []) 0 (items_or_none t) else
    if bytes_eq k (codes "sources") || bytes_eq k (codes "state") then fields_reports (named_reports k (Key k ∷ [])) (fields_or_none t) else
    []
    )

-- the walk goes by levels where the names of the root differ
by_levels : WalksByLevels → (fs : Fields) → HasDistinctKeys (members_of fs) → reports (object fs) ≡ document_reports (object fs)
by_levels walks fs distinct = subst (λ gs. reports (object gs) ≡ document_reports (object gs)) (members_back fs) (walks (members_of fs) distinct)

-- ---- a fact on trees inside so many arrays and objects

abbrev pub TreeFact : Type 1
TreeFact = ℕ → Tree → Type 0

abbrev pub ItemsHave : TreeFact → ℕ → Trees → Type 0
ItemsHave fact k no_trees = Unit {0}
ItemsHave fact k (tree t ts) = fact k t × ItemsHave fact k ts

abbrev pub MembersHave : TreeFact → ℕ → Fields → Type 0
MembersHave fact k no_fields = Unit {0}
MembersHave fact k (field key t fs) = fact k t × MembersHave fact k fs

fields_alike : (fact : TreeFact) (k : ℕ) (tell later : List ℕ → Tree → ToldList) (change : List ℕ → Tree → Tree) → ((key : List ℕ) (t : Tree) → fact k t → IsReportedAlike (tell key t) (later key (change key t))) →
    (fs : Fields) → MembersHave fact k fs → IsReportedAlike (fields_reports tell fs) (fields_reports later (mapped_fields change fs))
fields_alike fact k tell later change each no_fields here = reports_itself []
fields_alike fact k tell later change each (field key t fs) here =
    both_alike (tell key t) (fields_reports tell fs) (later key (change key t)) (fields_reports later (mapped_fields change fs))
    (each key t here.0) (fields_alike fact k tell later change each fs here.1)

-- ---- documents

-- what becomes of a filter, and of the members of `layout` or `paint`
module _ (filter : Tree → Tree) (property : LayerType → Place → List ℕ → Tree → Tree) (properties : Option LayerType → Option Place → Tree → Tree) where
  abbrev pub changed_member : Option LayerType → List ℕ → Tree → Tree
  changed_member type key t = if bytes_eq key (codes "filter") then filter t else properties type (place_named key) t

  abbrev pub changed_layer : Tree → Tree
  changed_layer layer = with_values (changed_member (tested_type (layer_type layer))) layer

  abbrev pub changed_part : List ℕ → Tree → Tree
  changed_part key t = if is_layers key then with_items changed_layer t else t

  abbrev pub changed : Tree → Tree
  changed document = with_values changed_part document

  -- filters and properties of trees of which the fact holds are reported alike
  pub record IsSoundChange (fact : TreeFact) : Type 1 where
    pub items : (k : ℕ) (ts : Trees) → fact k (list ts) → ItemsHave fact (suc k) ts
    pub members : (k : ℕ) (fs : Fields) → fact k (object fs) → MembersHave fact (suc k) fs
    pub distinct : (fs : Fields) → fact 0 (object fs) → HasDistinctKeys (members_of fs)
    pub untested : (place : Option Place) (t : Tree) → properties None place t ≡ t
    pub placeless : (type : LayerType) (t : Tree) → properties (Some type) None t ≡ t
    pub placed : (type : LayerType) (place : Place) (t : Tree) → properties (Some type) (Some place) t ≡ with_values (property type place) t
    pub filters : (k : ℕ) (t : Tree) → fact k t → IsMarkedAlike (filter_mark t) (filter_mark (filter t))
    pub values : (type : LayerType) (place : Place) (name : List ℕ) (k : ℕ) (t : Tree) → fact k t → IsMarkedAlike (property_mark (Some type) (Some place) name t) (property_mark (Some type) (Some place) name (property type place name t))

  module _ (fact : TreeFact) (is : IsSoundChange fact) where
    values_alike : (k : ℕ) (tell later : List ℕ → Tree → ToldList) (change : List ℕ → Tree → Tree) → ((key : List ℕ) (t : Tree) → fact (suc k) t → IsReportedAlike (tell key t) (later key (change key t))) →
        (t : Tree) → fact k t → IsReportedAlike (fields_reports tell (fields_or_none t)) (fields_reports later (fields_or_none (with_values change t)))
    values_alike k tell later change each null here = reports_itself []
    values_alike k tell later change each (boolean b) here = reports_itself []
    values_alike k tell later change each (number n) here = reports_itself []
    values_alike k tell later change each (text s) here = reports_itself []
    values_alike k tell later change each (list ts) here = reports_itself []
    values_alike k tell later change each (object fs) here = fields_alike fact (suc k) tell later change each fs (is.members k fs here)

    -- ---- members that stay

    placeless_kept : (type : Option LayerType) (place : Option Place) → place ≡ None → (t : Tree) → properties type place t ≡ t
    placeless_kept (Some type) place none t = ap (λ p. properties (Some type) p t) none ∙ is.placeless type t
    placeless_kept None place none t = is.untested place t

    member_kept : (type : Option LayerType) (key : List ℕ) → bytes_eq key (codes "filter") ≡ false → place_named key ≡ None → (t : Tree) → changed_member type key t ≡ t
    member_kept type key no_filter no_place t =
        ap (λ b. if b then filter t else properties type (place_named key) t) no_filter ∙ placeless_kept type (place_named key) no_place t

    kept_member : (key : List ℕ) (layer : Tree) → bytes_eq key (codes "filter") ≡ false → place_named key ≡ None → member key (changed_layer layer) ≡ member key layer
    kept_member key layer no_filter no_place =
        let type = tested_type (layer_type layer) in
        values_at (changed_member type) key layer ∙ map_kept (changed_member type key) (member key layer) (member_kept type key no_filter no_place)

    type_kept : (layer : Tree) → layer_type (changed_layer layer) ≡ layer_type layer
    type_kept null = refl
    type_kept (boolean b) = refl
    type_kept (number n) = refl
    type_kept (text s) = refl
    type_kept (list ts) = refl
    type_kept (object fs) =
        let type = tested_type (layer_type (object fs)) in
        let change = changed_member type in
        let ref = kept_at change (codes "ref") fs (member_kept type (codes "ref") refl refl) in
        let named = kept_at change (codes "type") fs (member_kept type (codes "type") refl refl) in
        λ i. if is_some (ref i) then None else option_and_then type_in (named i)

    -- ---- properties

    properties_alike : (type : Option LayerType) (place : Place) (path : List PathPart) (k : ℕ) (t : Tree) → fact k t → IsReportedAlike (properties_reports type place path t) (properties_reports type place path (properties type (Some place) t))
    properties_alike None place path k t here = reports_same (properties_reports None place path t) (properties_reports None place path (properties None (Some place) t)) (ap (properties_reports None place path) (is.untested (Some place) t))
    properties_alike (Some type) place path k t here =
        let change = property type place in
        let tell = property_reports (Some type) (Some place) path in
        let below = fields_reports tell (fields_or_none t) in
        let later = fields_reports tell (fields_or_none (with_values change t)) in
        let each = values_alike k tell tell change (λ name u s. is.values type place name (suc k) u s (path ++ Key name ∷ [])) t here in
        let old = reports_or (unless_broken 14 (is_object t)) path below in
        subst (λ u. IsReportedAlike old (properties_reports (Some type) place path u)) (sym (is.placed type place t))
        (subst (λ b. IsReportedAlike old (reports_or (unless_broken 14 b) path later)) (sym (object_kept change t)) (rules_alike ((14, is_object t) ∷ []) path below later each))

    -- ---- members of a layer

    abbrev MemberIsAlike : LayerContext → (List ℕ → Bool) → List PathPart → List ℕ → Tree → Type 0
    MemberIsAlike context used path m t = IsReportedAlike (member_reports context used path m t) (member_reports context used path m (changed_member (tested_type context.type) m t))

    other_alike : (context : LayerContext) (used : List ℕ → Bool) (path : List PathPart) (m : List ℕ) (t : Tree) → bytes_eq m (codes "filter") ≡ false → place_named m ≡ None → MemberIsAlike context used path m t
    other_alike context used path m t no_filter no_place =
        let type = tested_type context.type in
        reports_same (member_reports context used path m t) (member_reports context used path m (changed_member type m t)) (ap (member_reports context used path m) (member_kept type m no_filter no_place t))

    member_alike : (context : LayerContext) (used : List ℕ → Bool) (path : List PathPart) (m : List ℕ) (k : ℕ) (t : Tree) → fact k t → MemberIsAlike context used path m t
    member_alike context used path m k t here =
        let type = tested_type context.type in
        elim (cases_Bool (bytes_eq m (codes "filter"))) [
          | inl named ↦
              subst (λ key. MemberIsAlike context used path key t) (sym (is_key m (codes "filter") named))
              (is.filters k t here (path ++ Key (codes "filter") ∷ []))
          | inr no_filter ↦ elim (cases_Bool (bytes_eq m (codes "layout"))) [
            | inl named ↦
                subst (λ key. MemberIsAlike context used path key t) (sym (is_key m (codes "layout") named))
                (properties_alike type Layout (path ++ Key (codes "layout") ∷ []) k t here)
            | inr no_layout ↦ elim (cases_Bool (bytes_eq m (codes "paint"))) [
              | inl named ↦
                  subst (λ key. MemberIsAlike context used path key t) (sym (is_key m (codes "paint") named))
                  (properties_alike type Paint (path ++ Key (codes "paint") ∷ []) k t here)
              | inr no_paint ↦
                  other_alike context used path m t no_filter (no_place_named m no_layout no_paint)
            ]
          ]
        ]

    -- ---- layers

    context_kept : (sources : Option Fields) (layer : Tree) → context_of sources (changed_layer layer) ≡ context_of sources layer
    context_kept sources layer =
        let type = type_kept layer in
        let source = kept_member (codes "source") layer refl refl in
        λ i. context_with sources (type i) (option_and_then text_in (source i))

    context_alike : (sources : Option Fields) (used : List ℕ → Bool) (path : List PathPart) (k : ℕ) (layer : Tree) → fact k layer →
        IsReportedAlike (layer_reports sources used path layer) (context_reports (context_of sources layer) used path (changed_layer layer))
    context_alike sources used path k layer here =
        let context = context_of sources layer in
        let change = changed_member (tested_type (layer_type layer)) in
        let tell = member_reports context used path in
        let below = fields_reports tell (fields_or_none layer) in
        let later = fields_reports tell (fields_or_none (with_values change layer)) in
        let members = values_alike k tell tell change (λ m t s. member_alike context used path m (suc k) t s) layer here in
        subst (λ rs. IsReportedAlike (layer_reports sources used path layer) (reports_or (least_broken rs) path later))
        (sym (layer_rules_kept context change layer)) (rules_alike (rules_of_layer context layer) path below later members)

    layer_alike : (sources : Option Fields) (used : List ℕ → Bool) (path : List PathPart) (k : ℕ) (layer : Tree) → fact k layer →
        IsReportedAlike (layer_reports sources used path layer) (layer_reports sources used path (changed_layer layer))
    layer_alike sources used path k layer here =
        let old = layer_reports sources used path layer in
        subst (λ context. IsReportedAlike old (context_reports context used path (changed_layer layer))) (sym (context_kept sources layer)) (context_alike sources used path k layer here)

    layers_alike : (sources : Option Fields) (used : ℕ → List ℕ → Bool) (path : List PathPart) (i k : ℕ) (ts : Trees) → ItemsHave fact k ts →
        IsReportedAlike (layers_reports sources used path i ts) (layers_reports sources used path i (mapped_items changed_layer ts))
    layers_alike sources used path i k no_trees here = reports_itself []
    layers_alike sources used path i k (tree t ts) here =
        both_alike (layer_reports sources (used i) (path ++ Index i ∷ []) t) (layers_reports sources used path (i + 1) ts)
        (layer_reports sources (used i) (path ++ Index i ∷ []) (changed_layer t)) (layers_reports sources used path (i + 1) (mapped_items changed_layer ts))
        (layer_alike sources (used i) (path ++ Index i ∷ []) k t here.0) (layers_alike sources used path (i + 1) k ts here.1)

    -- ---- members of the document

    abbrev PartIsAlike : Option Fields → (ℕ → List ℕ → Bool) → List ℕ → Tree → Type 0
    PartIsAlike sources used key t = IsReportedAlike (part_reports sources used key t) (part_reports sources used key (changed_part key t))

    layers_part : (sources : Option Fields) (used : ℕ → List ℕ → Bool) (k : ℕ) (t : Tree) → fact k t → PartIsAlike sources used (codes "layers") t
    layers_part sources used k null here = reports_itself (part_reports sources used (codes "layers") null)
    layers_part sources used k (boolean b) here = reports_itself (part_reports sources used (codes "layers") (boolean b))
    layers_part sources used k (number n) here = reports_itself (part_reports sources used (codes "layers") (number n))
    layers_part sources used k (text s) here = reports_itself (part_reports sources used (codes "layers") (text s))
    layers_part sources used k (object fs) here = reports_itself (part_reports sources used (codes "layers") (object fs))
    layers_part sources used k (list ts) here =
        let path = Key (codes "layers") ∷ [] in
        let below = layers_reports sources used path 0 ts in
        let later = layers_reports sources used path 0 (mapped_items changed_layer ts) in
        let old = part_reports sources used (codes "layers") (list ts) in
        let each = layers_alike sources used path 0 (suc k) ts (is.items k ts here) in
        subst (λ n. IsReportedAlike old (reports_or (unless_broken 5 (nat_le n 65536)) path later)) (sym (count_kept changed_layer ts))
        (rules_alike ((5, nat_le (count_of ts) 65536) ∷ []) path below later each)

    part_alike : (sources : Option Fields) (used : ℕ → List ℕ → Bool) (key : List ℕ) (k : ℕ) (t : Tree) → fact k t → PartIsAlike sources used key t
    part_alike sources used key k t here = elim (cases_Bool (is_layers key)) [
      | inl named ↦
          subst (λ name. PartIsAlike sources used name t) (sym (is_key key (codes "layers") named)) (layers_part sources used k t here)
      | inr other ↦
          reports_same (part_reports sources used key t) (part_reports sources used key (changed_part key t))
          (ap (λ b. part_reports sources used key (if b then with_items changed_layer t else t)) other)
    ]

    -- ---- the document

    layers_in_part : (o : Option Tree) → trees_in (option_map (changed_part (codes "layers")) o) ≡ mapped_items changed_layer (trees_in o)
    layers_in_part (Some null) = refl
    layers_in_part (Some (boolean b)) = refl
    layers_in_part (Some (number n)) = refl
    layers_in_part (Some (text s)) = refl
    layers_in_part (Some (list ts)) = refl
    layers_in_part (Some (object fs)) = refl
    layers_in_part None = refl

    layers_changed : (document : Tree) → layers_of (changed document) ≡ mapped_items changed_layer (layers_of document)
    layers_changed document = ap trees_in (values_at changed_part (codes "layers") document) ∙ layers_in_part (member (codes "layers") document)

    used_kept : (ts : Trees) (n : ℕ) (id : List ℕ) → used_in (mapped_items changed_layer ts) n id ≡ used_in ts n id
    used_kept no_trees n id = refl
    used_kept (tree t ts) zero id = refl
    used_kept (tree t ts) (suc n) id =
        let here = kept_member (codes "id") t refl refl in
        let before = used_kept ts n id in
        λ i. equals_id id (option_and_then text_in (here i)) || before i

    root_kept : (key : List ℕ) (document : Tree) → is_layers key ≡ false → member key (changed document) ≡ member key document
    root_kept key document other = values_at changed_part key document ∙ map_kept (changed_part key) (member key document) (λ t. ap (λ b. if b then with_items changed_layer t else t) other)

    reports_kept : (document : Tree) → part_reports (sources_of (changed document)) (used_in (layers_of (changed document))) ≡ part_reports (sources_of document) (used_in (layers_of document))
    reports_kept document =
        let sources = root_kept (codes "sources") document refl in
        let layers = layers_changed document in
        let used = used_kept (layers_of document) in
        let first : part_reports (sources_of (changed document)) (used_in (layers_of (changed document))) ≡ part_reports (sources_of document) (used_in (mapped_items changed_layer (layers_of document))) =
        λ i. part_reports (option_and_then fields_in (sources i)) (used_in (layers i)) in
        first ∙ (λ i. part_reports (sources_of document) (λ n id. used n id i))

    -- what is reported of a changed document, by what is reported of its members
    abbrev changed_reports : Tree → (List ℕ → Tree → ToldList) → ToldList
    changed_reports document tell = reports_or (root_mark (changed document)) [] (fields_reports tell (fields_or_none (changed document)))

    levels_alike : (document : Tree) → fact 0 document → IsReportedAlike (document_reports document) (document_reports (changed document))
    levels_alike document here =
        let old = document_reports document in
        let sources = sources_of document in
        let used = used_in (layers_of document) in
        let tell = part_reports sources used in
        let below = fields_reports tell (fields_or_none document) in
        let later = fields_reports tell (fields_or_none (changed document)) in
        let parts = values_alike 0 tell tell changed_part (λ key t s. part_alike sources used key (suc 0) t s) document here in
        let by_rules = rules_alike (rules_of_root document) [] below later parts in
        let at_root = subst (λ rs. IsReportedAlike old (reports_or (least_broken rs) [] later)) (sym (root_rules_kept changed_part document)) by_rules in
        subst (λ reports. IsReportedAlike old (changed_reports document reports)) (sym (reports_kept document)) at_root

    pub documents_alike : WalksByLevels → (document : Tree) → fact 0 document → IsReportedAlike (reports document) (reports (changed document))
    documents_alike walks null here = reports_itself (reports null)
    documents_alike walks (boolean b) here = reports_itself (reports (boolean b))
    documents_alike walks (number n) here = reports_itself (reports (number n))
    documents_alike walks (text s) here = reports_itself (reports (text s))
    documents_alike walks (list ts) here = reports_itself (reports (list ts))
    documents_alike walks (object fs) here =
        let distinct = is.distinct fs here in
        let old = by_levels walks fs distinct in
        let new = by_levels walks (mapped_fields changed_part fs) (distinct_kept changed_part fs distinct) in
        let levels = levels_alike (object fs) here in
        subst (λ ts. IsReportedAlike ts (reports (changed (object fs)))) (sym old)
        (subst (λ ts. IsReportedAlike (document_reports (object fs)) ts) (sym new) levels)
