-- The walk over a document goes by its levels.
use Rattle.std.specs.Prelude.{◌≡◌, ℕ, suc, ◌+◌, List, [], ◌∷◌, ◌++◌, codes, Bool, true, false, Option, Some, None, if◌then◌else◌}
use Rattle.std.specs.Str.{bytes_eq}
use Rattle.std.proofs.Common.{refl, sym, ap, subst, ◌∙◌, inl, inr, arith}
use Rattle.std.proofs.lemmas.Bool.{cases_Bool}
use Rattle.std.proofs.Math.Nat.{zero-add, add-zero}
use Rattle.std.proofs.lemmas.List.{append_assoc}
use Rattle.std.proofs.lemmas.Slice.Eq.{bytes_eq-Decides}
use Rattle.decimal_json.specs.Tree.{members_of, Tree, null, boolean, number, text, list, object, Trees, no_trees, tree, Fields, no_fields, field, fields_of, field_at}
use Rattle.decimal_json.specs.Sound.{LacksKey, HasDistinctKeys}
use Rattle.decimal_json.specs.View.{fields, members_view}
use Rattle.decimal_json.specs.declared.paths.PathPart.{PathPart}
use Rattle.decimal_json.specs.declared.paths.PathPart.TheVariants.{Key, Index}
use Rattle.decimal_json.specs.declared.tree.Member.{Member}
use Rattle.decimal_json.specs.Accessors.{member, trees_in}
use Rattle.property_tables.specs.declared.layer_type.LayerType.{LayerType}
use Rattle.property_tables.specs.declared.property_row.Place.{Place}
use Rattle.style_parts.specs.Parts.{sources_of, layers_of, is_layers, layer_at}
use Rattle.value_forms.specs.LayerTypes.{tested_type, place_named}
use Rattle.style_rules.specs.Findings.{Marks, reports, reports_or, walk, walk_items, walk_fields}
use Rattle.style_rules.specs.LayerContext.{LayerContext}
use Rattle.style_rules.specs.Levels.{AreMembers, fields_reports, property_reports, member_below, member_reports, context_reports, layer_reports, layers_reports, named_reports, root_member_below, root_member_reports, document_reports, HasDistinctMembers, WalksByLevels}
use Rattle.style_rules.specs.Rules.{has_root_members}
use Rattle.style_rules.specs.Places.{mark_at, root_mark, root_member_mark, layer_mark, member_mark, property_mark, used_in, context_at, layer_context}
use Rattle.style_rules.proofs.PartLaws.{differs}
use Rattle.style_rules.specs.declared.diagnostics.Mark.TheVariants.{Nothing, Broken}
use Rattle.style_rules.specs.declared.diagnostics.Diagnostic.{Diagnostic}

-- ---- where nothing is reported below a place, the walk ends there

module _ (marks : Marks) where
  abbrev pub IsSilentBelow : List PathPart → Type 0
  IsSilentBelow p = (x : PathPart) (q : List PathPart) (t : Tree) → marks (p ++ x ∷ q) t ≡ Nothing

  deeper : (p : List PathPart) (x : PathPart) → IsSilentBelow p → IsSilentBelow (p ++ x ∷ [])
  deeper p x s y q t = subst (λ r. marks r t ≡ Nothing) (sym (append_assoc p (x ∷ []) (y ∷ q))) (s x (y ∷ q) t)

  -- below the items of a place
  abbrev pub HasSilentItems : List PathPart → Type 0
  HasSilentItems p = (j : ℕ) (q : List PathPart) (t : Tree) → marks (p ++ Index j ∷ q) t ≡ Nothing

  deeper_item : (p : List PathPart) (j : ℕ) → HasSilentItems p → IsSilentBelow (p ++ Index j ∷ [])
  deeper_item p j s y q t = subst (λ r. marks r t ≡ Nothing) (sym (append_assoc p (Index j ∷ []) (y ∷ q))) (s j (y ∷ q) t)

  mutual
    silent : (t : Tree) (p : List PathPart) → marks p t ≡ Nothing → IsSilentBelow p → walk t marks p ≡ []
    silent null p e s = ap (λ m. reports_or m p []) e
    silent (boolean b) p e s = ap (λ m. reports_or m p []) e
    silent (number n) p e s = ap (λ m. reports_or m p []) e
    silent (text c) p e s = ap (λ m. reports_or m p []) e
    silent (list ts) p e s = ap (λ m. reports_or m p (walk_items ts marks p 0)) e ∙ silent_items ts p 0 (λ j. s (Index j))
    silent (object fs) p e s = ap (λ m. reports_or m p (walk_fields fs marks p)) e ∙ silent_fields fs p s

    silent_items : (ts : Trees) (p : List PathPart) (i : ℕ) → HasSilentItems p → walk_items ts marks p i ≡ []
    silent_items no_trees p i s = refl
    silent_items (tree t ts) p i s =
        ap (λ w. w ++ walk_items ts marks p (i + 1)) (silent t (p ++ Index i ∷ []) (s i [] t) (deeper_item p i s)) ∙ silent_items ts p (i + 1) s

    silent_fields : (fs : Fields) (p : List PathPart) → IsSilentBelow p → walk_fields fs marks p ≡ []
    silent_fields no_fields p s = refl
    silent_fields (field k t fs) p s =
        ap (λ w. w ++ walk_fields fs marks p) (silent t (p ++ Key k ∷ []) (s (Key k) [] t) (deeper p (Key k) s)) ∙ silent_fields fs p s

  leaf : (t : Tree) (p : List PathPart) → IsSilentBelow p → walk t marks p ≡ reports_or (marks p t) p []
  leaf null p s = refl
  leaf (boolean b) p s = refl
  leaf (number n) p s = refl
  leaf (text c) p s = refl
  leaf (list ts) p s = ap (reports_or (marks p (list ts)) p) (silent_items ts p 0 (λ j. s (Index j)))
  leaf (object fs) p s = ap (reports_or (marks p (object fs)) p) (silent_fields fs p s)

  fields_walk : (fs : Fields) (p : List PathPart) (report : List ℕ → Tree → List Diagnostic) → ((k : List ℕ) (t : Tree) → walk t marks (p ++ Key k ∷ []) ≡ report k t) → walk_fields fs marks p ≡ fields_reports report fs
  fields_walk no_fields p report each = refl
  fields_walk (field k t fs) p report each =
      ap (λ w. w ++ walk_fields fs marks p) (each k t) ∙ ap (λ w. report k t ++ w) (fields_walk fs p report each)

-- ---- a property, and the members of a layer

module _ (document : Tree) where
  abbrev marks : Marks
  marks = mark_at document

  named_leaf : (k name : List ℕ) (t : Tree) → walk t marks (Key k ∷ Key name ∷ []) ≡ named_reports k (Key k ∷ []) name t
  named_leaf k name t = leaf marks t (Key k ∷ Key name ∷ []) (λ x q u. refl)

  abbrev layers_key : PathPart
  layers_key = Key (codes "layers")

  property_leaf : (i : ℕ) (m name : List ℕ) (t : Tree) → walk t marks (layers_key ∷ Index i ∷ Key m ∷ Key name ∷ []) ≡ property_reports (tested_type (context_at document i).type) (place_named m) (layers_key ∷ Index i ∷ Key m ∷ []) name t
  property_leaf i m name t = leaf marks t (layers_key ∷ Index i ∷ Key m ∷ Key name ∷ []) (λ x q u. refl)

  -- what has no place of properties has nothing below
  no_place : (type : Option LayerType) (name : List ℕ) (t : Tree) → property_mark type None name t ≡ Nothing
  no_place None name t = refl
  no_place (Some type) name t = refl

  below_none : (i : ℕ) (m : List ℕ) → place_named m ≡ None → IsSilentBelow marks (layers_key ∷ Index i ∷ Key m ∷ [])
  below_none i m e (Key name) [] t = ap (λ p. property_mark (tested_type (context_at document i).type) p name t) e ∙ no_place (tested_type (context_at document i).type) name t
  below_none i m e (Key name) (y ∷ q) t = refl
  below_none i m e (Index j) q t = refl

  abbrev member_path : ℕ → List ℕ → List PathPart
  member_path i m = layers_key ∷ Index i ∷ Key m ∷ []

  abbrev context : ℕ → LayerContext
  context i = context_at document i

  abbrev used : ℕ → List ℕ → Bool
  used i = used_in (layers_of document) i

  -- what `member_reports` says, by the place of properties that a member is
  abbrev MemberLevel : ℕ → List ℕ → Tree → Option Place → Type 0
  MemberLevel i m t place = walk t marks (member_path i m) ≡ reports_or (member_mark (context i) (used i) m t) (member_path i m) (member_below (context i) place (member_path i m) t)

  properties_level : (i : ℕ) (m : List ℕ) (t : Tree) (place : Place) → place_named m ≡ Some place → MemberLevel i m t (Some place)
  properties_level i m null place e = refl
  properties_level i m (boolean b) place e = refl
  properties_level i m (number n) place e = refl
  properties_level i m (text c) place e = refl
  properties_level i m (list ts) place e = ap (reports_or (member_mark (context i) (used i) m (list ts)) (member_path i m)) (silent_items marks ts (member_path i m) 0 (λ j q t. refl))
  properties_level i m (object fs) place e =
      ap (reports_or (member_mark (context i) (used i) m (object fs)) (member_path i m))
      (fields_walk marks fs (member_path i m) (property_reports (tested_type (context i).type) (Some place) (member_path i m))
      (λ name t. property_leaf i m name t ∙ ap (λ p. property_reports (tested_type (context i).type) p (member_path i m) name t) e))

  member_level : (i : ℕ) (m : List ℕ) (t : Tree) (place : Option Place) → place_named m ≡ place → MemberLevel i m t place
  member_level i m t None e = leaf marks t (member_path i m) (below_none i m e)
  member_level i m t (Some place) e = properties_level i m t place e

  -- ---- a layer

  layer_level : (i : ℕ) (t : Tree) → walk t marks (layers_key ∷ Index i ∷ []) ≡ context_reports (context i) (used i) (layers_key ∷ Index i ∷ []) t
  layer_level i null = refl
  layer_level i (boolean b) = refl
  layer_level i (number n) = refl
  layer_level i (text c) = refl
  layer_level i (list ts) = ap (reports_or (layer_mark (context i) (list ts)) (layers_key ∷ Index i ∷ [])) (silent_items marks ts (layers_key ∷ Index i ∷ []) 0 (λ j q t. refl))
  layer_level i (object fs) =
      ap (reports_or (layer_mark (context i) (object fs)) (layers_key ∷ Index i ∷ []))
      (fields_walk marks fs (layers_key ∷ Index i ∷ []) (member_reports (context i) (used i) (layers_key ∷ Index i ∷ [])) (λ m t. member_level i m t (place_named m) refl))

  -- the layers from the number i on
  abbrev AreFrom : ℕ → Trees → Type 0
  AreFrom i ts = (j : ℕ) → layer_at j ts ≡ layer_at (j + i) (layers_of document)

  layers_level : (ts : Trees) (i : ℕ) → AreFrom i ts → walk_items ts marks (layers_key ∷ []) i ≡ layers_reports (sources_of document) used (layers_key ∷ []) i ts
  layers_level no_trees i from = refl
  layers_level (tree t ts) i from =
      let here : layer_at i (layers_of document) ≡ Some t = ap (λ n. layer_at n (layers_of document)) (sym (zero-add i)) ∙ sym (from 0) in
      let path = layers_key ∷ Index i ∷ [] in
      let first : walk t marks path ≡ layer_reports (sources_of document) (used i) path t =
      layer_level i t ∙ ap (λ found. context_reports (layer_context document found) (used i) path t) here in
      let later : AreFrom (i + 1) ts = λ j. from (suc j) ∙ ap (λ n. layer_at n (layers_of document)) (grind arith) in
      ap (λ w. w ++ walk_items ts marks (layers_key ∷ []) (i + 1)) first ∙ ap (λ w. layer_reports (sources_of document) (used i) path t ++ w) (layers_level ts (i + 1) later)

  -- ---- a member of the root

  abbrev RootLevel : List ℕ → Tree → Type 0
  RootLevel k t = walk t marks (Key k ∷ []) ≡ root_member_reports document k t

  layers_member : (t : Tree) → member (codes "layers") document ≡ Some t → RootLevel (codes "layers") t
  layers_member null e = refl
  layers_member (boolean b) e = refl
  layers_member (number n) e = refl
  layers_member (text c) e = refl
  layers_member (object fs) e = refl
  layers_member (list ts) e =
      let same : ts ≡ layers_of document = sym (ap trees_in e) in
      ap (reports_or (root_member_mark (codes "layers") (list ts)) (layers_key ∷ [])) (layers_level ts 0 (λ j. ap (λ us. layer_at j us) same ∙ ap (λ n. layer_at n (layers_of document)) (sym (add-zero j))))

  sources_member : (t : Tree) → RootLevel (codes "sources") t
  sources_member null = refl
  sources_member (boolean b) = refl
  sources_member (number n) = refl
  sources_member (text c) = refl
  sources_member (list ts) = refl
  sources_member (object fs) =
      ap (reports_or (root_member_mark (codes "sources") (object fs)) (Key (codes "sources") ∷ []))
      (fields_walk marks fs (Key (codes "sources") ∷ []) (named_reports (codes "sources") (Key (codes "sources") ∷ [])) (λ name t. named_leaf (codes "sources") name t))

  state_member : (t : Tree) → RootLevel (codes "state") t
  state_member null = refl
  state_member (boolean b) = refl
  state_member (number n) = refl
  state_member (text c) = refl
  state_member (list ts) = refl
  state_member (object fs) =
      ap (reports_or (root_member_mark (codes "state") (object fs)) (Key (codes "state") ∷ []))
      (fields_walk marks fs (Key (codes "state") ∷ []) (named_reports (codes "state") (Key (codes "state") ∷ [])) (λ name t. named_leaf (codes "state") name t))

  -- another member has nothing below
  below_other : (k : List ℕ) → is_layers k ≡ false → bytes_eq k (codes "sources") ≡ false → bytes_eq k (codes "state") ≡ false → IsSilentBelow marks (Key k ∷ [])
  below_other k l s g (Key name) [] t = rw (s, g) refl
  below_other k l s g (Key name) (y ∷ q) t = refl
  below_other k l s g (Index i) [] t = rw l refl
  below_other k l s g (Index i) (Index j ∷ q) t = refl
  below_other k l s g (Index i) (Key m ∷ []) t = rw l refl
  below_other k l s g (Index i) (Key m ∷ Key name ∷ []) t = rw l refl
  below_other k l s g (Index i) (Key m ∷ Key name ∷ y ∷ q) t = refl
  below_other k l s g (Index i) (Key m ∷ Index j ∷ q) t = refl

  nothing_below : (k : List ℕ) (t : Tree) → is_layers k ≡ false → bytes_eq k (codes "sources") ≡ false → bytes_eq k (codes "state") ≡ false → root_member_below document k (Key k ∷ []) t ≡ []
  nothing_below k t l s g = rw (l, s, g) refl

  other_member : (k : List ℕ) (t : Tree) → is_layers k ≡ false → bytes_eq k (codes "sources") ≡ false → bytes_eq k (codes "state") ≡ false → RootLevel k t
  other_member k t l s g = leaf marks t (Key k ∷ []) (below_other k l s g) ∙ ap (reports_or (root_member_mark k t) (Key k ∷ [])) (sym (nothing_below k t l s g))

  is_key : (k key : List ℕ) → bytes_eq k key ≡ true → k ≡ key
  is_key k key h = (bytes_eq-Decides k key).0 h

  root_member_level : (k : List ℕ) (t : Tree) → member k document ≡ Some t → RootLevel k t
  root_member_level k t e = elim (cases_Bool (is_layers k)) [
    | inl l ↦ subst (λ q. member q document ≡ Some t → RootLevel q t) (sym (is_key k (codes "layers") l)) (layers_member t) e
    | inr l ↦ elim (cases_Bool (bytes_eq k (codes "sources"))) [
      | inl s ↦ subst (λ q. RootLevel q t) (sym (is_key k (codes "sources") s)) (sources_member t)
      | inr s ↦ elim (cases_Bool (bytes_eq k (codes "state"))) [
        | inl g ↦ subst (λ q. RootLevel q t) (sym (is_key k (codes "state") g)) (state_member t)
        | inr g ↦ other_member k t l s g
      ]
    ]
  ]

  root_walk : (ms : List (List ℕ × Tree)) → AreMembers document ms → walk_fields (fields_of ms) marks [] ≡ fields_reports (root_member_reports document) (fields_of ms)
  root_walk [] all = refl
  root_walk (m ∷ ms) all =
      ap (λ w. w ++ walk_fields (fields_of ms) marks []) (root_member_level m.0 m.1 all.0)
      ∙ ap (λ w. root_member_reports document m.0 m.1 ++ w) (root_walk ms all.1)

-- ---- each member is found at its key

found_behind : (m : List ℕ × Tree) (ms others : List (List ℕ × Tree)) → LacksKey m.0 others → AreMembers (object (fields_of ms)) others → AreMembers (object (fields_of (m ∷ ms))) others
found_behind m ms [] lacks all = tt
found_behind m ms (n ∷ others) lacks all =
    (ap (λ b. if b then Some m.1 else field_at n.0 (fields_of ms)) (differs m.0 n.0 (λ e. lacks.0 (sym e))) ∙ all.0, found_behind m ms others lacks.1 all.1)

pub each_is_found : (ms : List (List ℕ × Tree)) → HasDistinctKeys ms → AreMembers (object (fields_of ms)) ms
each_is_found [] distinct = tt
each_is_found (m ∷ ms) distinct =
    (ap (λ b. if b then Some m.1 else field_at m.0 (fields_of ms)) ((bytes_eq-Decides m.0 m.0).1 refl), found_behind m ms ms distinct.0 (each_is_found ms distinct.1))

fields_back : (ms : List (List ℕ × Tree)) → members_of (fields_of ms) ≡ ms
fields_back [] = refl
fields_back (m ∷ ms) = ap (λ rest. m ∷ rest) (fields_back ms)

-- the object of members whose keys differ
pub distinct_members : (ms : List (List ℕ × Tree)) → HasDistinctKeys ms → HasDistinctMembers (object (fields_of ms))
distinct_members ms distinct = subst HasDistinctKeys (sym (fields_back ms)) distinct

pub walks_by_levels : WalksByLevels
walks_by_levels ms distinct =
    let document = object (fields_of ms) in
    ap (reports_or (root_mark document) []) (root_walk document ms (each_is_found ms distinct))

-- the reports of the members of a document that has the members it needs are all that is reported of it
pub root_reports : (root : List (List ℕ × Tree)) (members : List Member) (old new : List Diagnostic) → members_view members ≡ root → HasDistinctKeys root →
    has_root_members (object (fields_of root)) ≡ true → old ≡ [] → new ≡ old ++ fields_reports (root_member_reports (object (fields_of root))) (fields members) →
    new ≡ reports (object (fields_of root))
root_reports root members old new seen distinct sound none is =
    let document = object (fields_of root) in
    let below : List Diagnostic = fields_reports (root_member_reports document) (fields_of root) in
    let at_root : new ≡ below = is ∙ (ap (λ ts. ts ++ fields_reports (root_member_reports document) (fields members)) none ∙ ap (λ ms. fields_reports (root_member_reports document) (fields_of ms)) seen) in
    let marked : below ≡ document_reports document = ap (λ b. reports_or (if b then Nothing else Broken [] 2) [] below) (sym sound) in
    at_root ∙ (marked ∙ sym (walks_by_levels root distinct))
