-- What is found of a layer of which one part was edited, where nothing was found before.
use Rattle.std.proofs.Common.{◌≡◌, ◌∙◌, ℕ, List, [], ◌∷◌, ◌++◌, refl, ap, sym, Bool, true, false, Option, Some, None}
use Rattle.std.proofs.lemmas.List.{append-nil}
use Rattle.std.specs.Prelude.{codes, is_some, not, ◌&&◌, ◌||◌, unwrap_or, if◌then◌else◌}
use Rattle.std.specs.Str.{bytes_eq}
use Rattle.decimal_json.specs.Editing.{members_with, replaced_members, members_without}
use Rattle.decimal_json.specs.Tree.{Tree, null, boolean, number, text, list, object, Fields, no_fields, field, fields_of, field_at, members_of}
use Rattle.decimal_json.specs.declared.paths.PathPart.{PathPart}
use Rattle.decimal_json.specs.declared.paths.PathPart.TheVariants.{Key}
use Rattle.property_tables.specs.declared.layer_type.LayerType.{LayerType}
use Rattle.property_tables.specs.declared.property_row.Place.{Place}
use Rattle.property_tables.specs.declared.property_row.Place.TheVariants.{Layout, Paint}
use Rattle.style_edits.specs.Layer.{is_null, properties_at, with_property, with_filter}
use Rattle.style_edits.specs.Objects.{object_with, object_replacing, object_without}
use Rattle.style_edits.proofs.ObjectLaws.{fields_members}
use Rattle.style_rules.specs.CodeView.{MemberTrees}
use Rattle.style_rules.specs.Findings.{findings_in, reports_or}
use Rattle.style_rules.specs.LayerContext.{LayerContext, context_of}
use Rattle.style_rules.specs.LayerParts.{parts_of, context_by_parts}
use Rattle.style_rules.specs.Levels.{fields_reports, fields_or_none, property_reports, member_reports, layer_reports}
use Rattle.style_rules.specs.Places.{least_broken, properties_mark}
use Rattle.style_rules.specs.Rules.{is_on_vector}
use Rattle.style_rules.specs.Values.{filter_mark}
use Rattle.style_rules.proofs.QuietLaws.{Reports, IsQuiet, rules_hold, rules_pass}
use Rattle.value_forms.specs.LayerTypes.{layer_type, tested_type}
use Rattle.edit_findings.proofs.FieldLaws.{member_quiet, put_found, replaced_quiet, without_quiet}
use Rattle.edit_findings.proofs.OtherMembers.{with_other, replaced_other, without_other}
use Rattle.edit_findings.specs.FoundAfter.{unless_null}

-- ---- the rules at a layer, by the members that they read

abbrev rules_by : LayerContext → MemberTrees → List (ℕ × Bool)
rules_by context p =
    (6, true) ∷
    (7, is_some p.id) ∷
    (9, is_some p.layer_type && not p.has_ref) ∷
    (10, not (is_some context.sources) || is_some p.source) ∷
    (12, not (is_on_vector context) || is_some p.source_layer) ∷ []

-- a key that they do not read
pub record IsUnread (key : List ℕ) : Type 0 where
  pub id : bytes_eq key (codes "id") ≡ false
  pub layer_type : bytes_eq key (codes "type") ≡ false
  pub source : bytes_eq key (codes "source") ≡ false
  pub source_layer : bytes_eq key (codes "source-layer") ≡ false
  pub ref : bytes_eq key (codes "ref") ≡ false

-- the same members at every other key
abbrev AreLeft : List ℕ → Fields → Fields → Type 0
AreLeft key gs fs = (other : List ℕ) → bytes_eq key other ≡ false → field_at other gs ≡ field_at other fs

parts_left : (key : List ℕ) → IsUnread key → (gs fs : Fields) → AreLeft key gs fs → parts_of (object gs) ≡ parts_of (object fs)
parts_left key unread gs fs left = λ i. record {
  id = left (codes "id") unread.id i;
  layer_type = left (codes "type") unread.layer_type i;
  source = left (codes "source") unread.source i;
  source_layer = left (codes "source-layer") unread.source_layer i;
  has_ref = is_some (left (codes "ref") unread.ref i);
}

put_left : (key : List ℕ) (t : Tree) (fs : Fields) → AreLeft key (fields_of (members_with key t (members_of fs))) fs
put_left key t fs other apart = with_other key other apart t (members_of fs) ∙ ap (field_at other) (fields_members fs)

replaced_left : (key : List ℕ) (t : Tree) (fs : Fields) → AreLeft key (fields_of (replaced_members key t (members_of fs))) fs
replaced_left key t fs other apart = replaced_other key other apart t (members_of fs) ∙ ap (field_at other) (fields_members fs)

without_left : (key : List ℕ) (fs : Fields) → AreLeft key (fields_of (members_without key (members_of fs))) fs
without_left key fs other apart = without_other key other apart (members_of fs) ∙ ap (field_at other) (fields_members fs)

-- ---- the properties of `layout` or `paint`

module _ (place : Place) (path : List PathPart) where
  abbrev of_properties : Option LayerType → Tree → Reports
  of_properties tested t =
      reports_or (properties_mark tested t) path (fields_reports (property_reports tested (Some place) path) (fields_or_none t))

  -- of those that may be there nothing is found
  abbrev AreQuiet : Option LayerType → Option Tree → Type 0
  AreQuiet tested o = (t : Tree) → o ≡ Some t → IsQuiet (of_properties tested t)

  untested_quiet : (fs : Fields) → IsQuiet (fields_reports (property_reports None (Some place) path) fs)
  untested_quiet no_fields = refl
  untested_quiet (field k t fs) = untested_quiet fs

  members_quiet : (type : LayerType) (fs : Fields) → IsQuiet (of_properties (Some type) (object fs)) →
      IsQuiet (fields_reports (property_reports (Some type) (Some place) path) (fields_of (members_of fs)))
  members_quiet type fs h =
      ap (λ x. findings_in (fields_reports (property_reports (Some type) (Some place) path) x)) (fields_members fs) ∙ h

  abbrev put_in : List ℕ → Tree → Option Tree → Tree
  put_in name value o = object_with name value (unwrap_or o null)

  property_put : (tested : Option LayerType) (name : List ℕ) (value : Tree) (o : Option Tree) → AreQuiet tested o →
      findings_in (of_properties tested (put_in name value o)) ≡ findings_in (property_reports tested (Some place) path name value)
  property_put None name value o quiet = untested_quiet (fields_or_none (put_in name value o))
  property_put (Some type) name value None quiet = ap findings_in (append-nil (property_reports (Some type) (Some place) path name value))
  property_put (Some type) name value (Some (object fs)) quiet =
      put_found (property_reports (Some type) (Some place) path) name value (members_of fs) (members_quiet type fs (quiet (object fs) refl))
  property_put (Some type) name value (Some null) quiet = absurd (let h = quiet null refl in cc)
  property_put (Some type) name value (Some (boolean b)) quiet = absurd (let h = quiet (boolean b) refl in cc)
  property_put (Some type) name value (Some (number n)) quiet = absurd (let h = quiet (number n) refl in cc)
  property_put (Some type) name value (Some (text s)) quiet = absurd (let h = quiet (text s) refl in cc)
  property_put (Some type) name value (Some (list ts)) quiet = absurd (let h = quiet (list ts) refl in cc)

  property_taken : (tested : Option LayerType) (name : List ℕ) (t : Tree) → IsQuiet (of_properties tested t) →
      IsQuiet (of_properties tested (object_without name t))
  property_taken None name t h = untested_quiet (fields_or_none (object_without name t))
  property_taken (Some type) name (object fs) h =
      without_quiet (property_reports (Some type) (Some place) path) name (members_of fs) (members_quiet type fs h)
  property_taken (Some type) name null h = h
  property_taken (Some type) name (boolean b) h = h
  property_taken (Some type) name (number n) h = h
  property_taken (Some type) name (text s) h = h
  property_taken (Some type) name (list ts) h = h

-- ---- a layer

module _ (sources : Option Fields) (used : List ℕ → Bool) (path : List PathPart) where
  abbrev of_layer : Tree → Reports
  of_layer layer = layer_reports sources used path layer

  -- what is reported of a member, in the context of a layer
  abbrev pub of_member : Tree → List ℕ → Tree → Reports
  of_member layer = member_reports (context_of sources layer) used path

  -- the members are reported in the context of the layer as it was
  layer_left : (key : List ℕ) → IsUnread key → (gs fs : Fields) → AreLeft key gs fs → IsQuiet (of_layer (object fs)) →
      of_layer (object gs) ≡ fields_reports (of_member (object fs)) gs
  layer_left key unread gs fs left h =
      let of_parts : MemberTrees → Reports = λ p.
      reports_or (least_broken (rules_by (context_by_parts sources p) p)) path (fields_reports (member_reports (context_by_parts sources p) used path) gs) in
      let p = parts_of (object fs) in
      let rules = rules_by (context_by_parts sources p) p in
      ap of_parts (parts_left key unread gs fs left)
      ∙ rules_pass rules (rules_hold rules path (fields_reports (of_member (object fs)) fs) h).0 path (fields_reports (of_member (object fs)) gs)

  members_of_layer : (fs : Fields) → IsQuiet (of_layer (object fs)) → IsQuiet (fields_reports (of_member (object fs)) (fields_of (members_of fs)))
  members_of_layer fs h =
      let p = parts_of (object fs) in
      let rules = rules_by (context_by_parts sources p) p in
      ap (λ x. findings_in (fields_reports (of_member (object fs)) x)) (fields_members fs)
      ∙ (rules_hold rules path (fields_reports (of_member (object fs)) fs) h).1

  -- ---- a member at a key that the rules at the layer do not read

  pub member_found : (key : List ℕ) (t : Tree) (fs : Fields) → IsQuiet (of_layer (object fs)) → field_at key fs ≡ Some t → IsQuiet (of_member (object fs) key t)
  member_found key t fs h is =
      member_quiet (of_member (object fs)) key t (members_of fs) (members_of_layer fs h) (ap (field_at key) (fields_members fs) ∙ is)

  pub member_put : (key : List ℕ) → IsUnread key → (t : Tree) (fs : Fields) → IsQuiet (of_layer (object fs)) →
      findings_in (of_layer (object_with key t (object fs))) ≡ findings_in (of_member (object fs) key t)
  member_put key unread t fs h =
      ap findings_in (layer_left key unread (fields_of (members_with key t (members_of fs))) fs (put_left key t fs) h)
      ∙ put_found (of_member (object fs)) key t (members_of fs) (members_of_layer fs h)

  pub member_replaced_quiet : (key : List ℕ) → IsUnread key → (t : Tree) (fs : Fields) → IsQuiet (of_layer (object fs)) →
      ((old : Tree) → field_at key fs ≡ Some old → IsQuiet (of_member (object fs) key t)) →
      IsQuiet (of_layer (object_replacing key t (object fs)))
  member_replaced_quiet key unread t fs h quiet =
      ap findings_in (layer_left key unread (fields_of (replaced_members key t (members_of fs))) fs (replaced_left key t fs) h)
      ∙ replaced_quiet (of_member (object fs)) key t (members_of fs) (members_of_layer fs h)
      (λ old is. quiet old (ap (field_at key) (sym (fields_members fs)) ∙ is))

  pub member_taken : (key : List ℕ) → IsUnread key → (fs : Fields) → IsQuiet (of_layer (object fs)) → IsQuiet (of_layer (object_without key (object fs)))
  member_taken key unread fs h =
      ap findings_in (layer_left key unread (fields_of (members_without key (members_of fs))) fs (without_left key fs) h)
      ∙ without_quiet (of_member (object fs)) key (members_of fs) (members_of_layer fs h)

  -- ---- a property

  module _ (key : List ℕ) (unread : IsUnread key) (place : Place)
      (as_placed : (layer t : Tree) → of_member layer key t ≡ of_properties place (path ++ Key key ∷ []) (tested_type (layer_type layer)) t) where
    abbrev there : List PathPart
    there = path ++ Key key ∷ []

    abbrev tested : Fields → Option LayerType
    tested fs = tested_type (layer_type (object fs))

    placed_quiet : (fs : Fields) → IsQuiet (of_layer (object fs)) → AreQuiet place there (tested fs) (field_at key fs)
    placed_quiet fs h t is = ap findings_in (sym (as_placed (object fs) t)) ∙ member_found key t fs h is

    taken_quiet : (name : List ℕ) (fs : Fields) → IsQuiet (of_layer (object fs)) → (old : Tree) → field_at key fs ≡ Some old →
        IsQuiet (of_member (object fs) key (object_without name (properties_at key (object fs))))
    taken_quiet name fs h old is =
        ap findings_in (as_placed (object fs) (object_without name (properties_at key (object fs))))
        ∙ (ap (λ o. findings_in (of_properties place there (tested fs) (object_without name (unwrap_or o null)))) is
        ∙ property_taken place there (tested fs) name old (placed_quiet fs h old is))

    property_of : (fs : Fields) → IsQuiet (of_layer (object fs)) → (name : List ℕ) (value : Tree) →
        findings_in (of_layer (with_property key name value (object fs)))
        ≡ unless_null value (findings_in (property_reports (tested fs) (Some place) there name value))
    property_of fs h name value = by (is_null value)
      where
        by : (b : Bool) → findings_in (of_layer (if b then object_replacing key (object_without name (properties_at key (object fs))) (object fs)
            else object_with key (object_with name value (properties_at key (object fs))) (object fs)))
            ≡ (if b then [] else findings_in (property_reports (tested fs) (Some place) there name value))
        by true = member_replaced_quiet key unread (object_without name (properties_at key (object fs))) fs h (taken_quiet name fs h)
        by false =
            member_put key unread (object_with name value (properties_at key (object fs))) fs h
            ∙ (ap findings_in (as_placed (object fs) (object_with name value (properties_at key (object fs))))
            ∙ property_put place there (tested fs) name value (field_at key fs) (placed_quiet fs h))

    pub property_found : (layer : Tree) → IsQuiet (of_layer layer) → (name : List ℕ) (value : Tree) →
        findings_in (of_layer (with_property key name value layer))
        ≡ unless_null value (findings_in (property_reports (tested_type (layer_type layer)) (Some place) there name value))
    property_found (object fs) h name value = property_of fs h name value
    property_found null h name value = absurd (cc)
    property_found (boolean b) h name value = absurd (cc)
    property_found (number n) h name value = absurd (cc)
    property_found (text s) h name value = absurd (cc)
    property_found (list ts) h name value = absurd (cc)

  pub paint_found : (layer : Tree) → IsQuiet (of_layer layer) → (name : List ℕ) (value : Tree) →
      findings_in (of_layer (with_property (codes "paint") name value layer))
      ≡ unless_null value (findings_in (property_reports (tested_type (layer_type layer)) (Some Paint) (path ++ Key (codes "paint") ∷ []) name value))
  paint_found = property_found (codes "paint") (record { id = refl; layer_type = refl; source = refl; source_layer = refl; ref = refl }) Paint (λ layer t. refl)

  pub layout_found : (layer : Tree) → IsQuiet (of_layer layer) → (name : List ℕ) (value : Tree) →
      findings_in (of_layer (with_property (codes "layout") name value layer))
      ≡ unless_null value (findings_in (property_reports (tested_type (layer_type layer)) (Some Layout) (path ++ Key (codes "layout") ∷ []) name value))
  layout_found = property_found (codes "layout") (record { id = refl; layer_type = refl; source = refl; source_layer = refl; ref = refl }) Layout (λ layer t. refl)

  -- ---- the filter

  abbrev filter_key : List ℕ
  filter_key = codes "filter"

  filter_of : (fs : Fields) → IsQuiet (of_layer (object fs)) → (t : Tree) →
      findings_in (of_layer (with_filter t (object fs))) ≡ unless_null t (findings_in (reports_or (filter_mark t) (path ++ Key filter_key ∷ []) []))
  filter_of fs h t = by (is_null t)
    where
      unread : IsUnread filter_key
      unread = record { id = refl; layer_type = refl; source = refl; source_layer = refl; ref = refl }

      by : (b : Bool) → findings_in (of_layer (if b then object_without filter_key (object fs) else object_with filter_key t (object fs)))
          ≡ (if b then [] else findings_in (reports_or (filter_mark t) (path ++ Key filter_key ∷ []) []))
      by true = member_taken filter_key unread fs h
      by false = member_put filter_key unread t fs h

  pub filter_found : (layer : Tree) → IsQuiet (of_layer layer) → (t : Tree) →
      findings_in (of_layer (with_filter t layer)) ≡ unless_null t (findings_in (reports_or (filter_mark t) (path ++ Key filter_key ∷ []) []))
  filter_found (object fs) h t = filter_of fs h t
  filter_found null h t = absurd (cc)
  filter_found (boolean b) h t = absurd (cc)
  filter_found (number n) h t = absurd (cc)
  filter_found (text s) h t = absurd (cc)
  filter_found (list ts) h t = absurd (cc)
