-- What is reported of a document, level by level, as the code walks it. It is what `reports` of Findings gives.
use Rattle.std.specs.Prelude.{◌≡◌, ℕ, ◌+◌, List, [], ◌∷◌, ◌++◌, codes, Bool, ◌||◌, Option, Some, None, if◌then◌else◌}
use Rattle.std.specs.Str.{bytes_eq}
use Rattle.decimal_json.specs.Tree.{members_of, Tree, list, object, Trees, no_trees, tree, Fields, no_fields, field}
use Rattle.decimal_json.specs.Tree.{fields_of}
use Rattle.decimal_json.specs.Sound.{HasDistinctKeys}
use Rattle.decimal_json.specs.declared.paths.PathPart.{PathPart}
use Rattle.decimal_json.specs.declared.paths.PathPart.TheVariants.{Key, Index}
use Rattle.decimal_json.specs.Accessors.{member}
use Rattle.property_tables.specs.declared.layer_type.LayerType.{LayerType}
use Rattle.property_tables.specs.declared.property_row.Place.{Place}
use Rattle.style_parts.specs.Parts.{sources_of, layers_of, is_layers}
use Rattle.value_forms.specs.LayerTypes.{tested_type, place_named}
use Rattle.style_rules.specs.Findings.{reports_or, reports}
use Rattle.style_rules.specs.LayerContext.{LayerContext, context_of}
use Rattle.style_rules.specs.Places.{root_mark, root_member_mark, named_mark, layer_mark, member_mark, property_mark}
use Rattle.style_rules.specs.Places.{used_in}
use Rattle.style_rules.specs.declared.diagnostics.Diagnostic.{Diagnostic}

-- what is reported of each member of an object
abbrev pub fields_reports : (List ℕ → Tree → List Diagnostic) → Fields → List Diagnostic
fields_reports report no_fields = []
fields_reports report (field k t fs) = report k t ++ fields_reports report fs

-- the members of an object, and none of another tree
abbrev pub fields_or_none : Tree → Fields
fields_or_none (object fs) = fs
fields_or_none _ = no_fields

abbrev pub items_or_none : Tree → Trees
items_or_none (list ts) = ts
items_or_none _ = no_trees

abbrev pub property_reports : Option LayerType → Option Place → List PathPart → List ℕ → Tree → List Diagnostic
property_reports tested place path name t = reports_or (property_mark tested place name t) (path ++ Key name ∷ []) []

abbrev pub member_below : LayerContext → Option Place → List PathPart → Tree → List Diagnostic
member_below context (Some place) path t =
    fields_reports (property_reports (tested_type context.type) (Some place) path) (fields_or_none t)
member_below context None path t = []

abbrev pub member_reports : LayerContext → (List ℕ → Bool) → List PathPart → List ℕ → Tree → List Diagnostic
member_reports context used path m t =
    reports_or (member_mark context used m t) (path ++ Key m ∷ [])
    (member_below context (place_named m) (path ++ Key m ∷ []) t)

abbrev pub context_reports : LayerContext → (List ℕ → Bool) → List PathPart → Tree → List Diagnostic
context_reports context used path layer =
    reports_or (layer_mark context layer) path
    (fields_reports (member_reports context used path) (fields_or_none layer))

abbrev pub layer_reports : Option Fields → (List ℕ → Bool) → List PathPart → Tree → List Diagnostic
layer_reports sources used path layer = context_reports (context_of sources layer) used path layer

abbrev pub layers_reports : Option Fields → (ℕ → List ℕ → Bool) → List PathPart → ℕ → Trees → List Diagnostic
layers_reports sources used path i no_trees = []
layers_reports sources used path i (tree t ts) =
    layer_reports sources (used i) (path ++ Index i ∷ []) t ++ layers_reports sources used path (i + 1) ts

abbrev pub named_reports : List ℕ → List PathPart → List ℕ → Tree → List Diagnostic
named_reports key path name t = reports_or (named_mark key t) (path ++ Key name ∷ []) []

abbrev pub root_member_below : Tree → List ℕ → List PathPart → Tree → List Diagnostic
root_member_below document k path t =
    if is_layers k then layers_reports (sources_of document) (used_in (layers_of document)) path 0
    (items_or_none t) else
    if bytes_eq k (codes "sources") || bytes_eq k (codes "state")
    then fields_reports (named_reports k path) (fields_or_none t) else
    []

abbrev pub root_member_reports : Tree → List ℕ → Tree → List Diagnostic
root_member_reports document k t =
    reports_or (root_member_mark k t) (Key k ∷ []) (root_member_below document k (Key k ∷ []) t)

abbrev pub document_reports : Tree → List Diagnostic
document_reports document =
    reports_or (root_mark document) [] (fields_reports (root_member_reports document) (fields_or_none document))

-- each pair is a member of the tree
abbrev pub AreMembers : Tree → List (List ℕ × Tree) → Type 0
AreMembers t [] = Unit {0}
AreMembers t (m ∷ ms) = (member m.0 t ≡ Some m.1) × AreMembers t ms

-- No two members of a document have the same name, at its root. It is so in each JSON value, read or built
-- (`documents_have_distinct_members`).
abbrev pub HasDistinctMembers : Tree → Type 0
HasDistinctMembers (object fs) = HasDistinctKeys (members_of fs)
HasDistinctMembers _ = Unit {0}

-- The walk goes by these levels, where the keys of the root differ.
abbrev pub WalksByLevels : Type 0
WalksByLevels =
    (members : List (List ℕ × Tree)) → HasDistinctKeys members →
    reports (object (fields_of members)) ≡ document_reports (object (fields_of members))
