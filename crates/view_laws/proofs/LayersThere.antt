-- The layers of a document of which nothing is found are an array, also where members of it have the same name; and so
-- what an edit makes of the layers is in the document that it makes.
use Rattle.std.proofs.Common.{◌≡◌, ◌∙◌, ℕ, List, [], ◌∷◌, ◌++◌, refl, ap, sym, subst, Bool, true, false, Option, Some, None}
use Rattle.std.specs.Prelude.{codes, is_some, ◌&&◌}
use Rattle.decimal_json.specs.Accessors.{member, trees_in}
use Rattle.decimal_json.specs.Tree.{Tree, null, boolean, number, text, list, object, Trees, trees_of, Fields, no_fields, field, field_at, fields_of, members_of}
use Rattle.decimal_json.specs.declared.paths.PathPart.TheVariants.{Key}
use Rattle.edit_findings.proofs.DocumentLaws.{elements_back}
use Rattle.edit_findings.proofs.FieldLaws.{member_quiet}
use Rattle.edit_script.specs.Edit.{Edit}
use Rattle.edit_script.specs.Form.{elements_of}
use Rattle.edit_session.proofs.FollowLaws.{changed_list}
use Rattle.style_edits.proofs.ObjectLaws.{fields_members}
use Rattle.style_edits.specs.Edited.{edited, edited_layers}
use Rattle.style_edits.specs.Layers.{layer_list, with_changed, with_layers}
use Rattle.style_edits.specs.Taking.{HasLayers}
use Rattle.style_rules.specs.Findings.{findings, walk, walk_fields}
use Rattle.style_rules.specs.Levels.{fields_reports}
use Rattle.style_rules.specs.Places.{mark_at}
use Rattle.style_rules.specs.Rules.{has_root_members, is_document}
use Rattle.style_rules.proofs.QuietLaws.{Reports, IsQuiet, rules_hold}

-- ---- the layers are there

-- what is reported of a member of a document
abbrev member_walk : Tree → List ℕ → Tree → Reports
member_walk d key t = walk t (mark_at d) (Key key ∷ [])

members_walk : (d : Tree) (fs : Fields) → walk_fields fs (mark_at d) [] ≡ fields_reports (member_walk d) fs
members_walk d no_fields = refl
members_walk d (field key t fs) = ap (λ (rs : Reports). member_walk d key t ++ rs) (members_walk d fs)

module _ (fs : Fields) (none : findings (object fs) ≡ []) where
  abbrev layers_key : List ℕ
  layers_key = codes "layers"

  root_holds : (has_root_members (object fs) ≡ true) × IsQuiet (walk_fields fs (mark_at (object fs)) [])
  root_holds =
      let d : Tree = object fs in
      let held = rules_hold ((1, is_document d) ∷ (2, has_root_members d) ∷ []) [] (walk_fields fs (mark_at d) []) none in
      (held.0.1.0, held.1)

  layers_quiet : (t : Tree) → field_at layers_key fs ≡ Some t → IsQuiet (member_walk (object fs) layers_key t)
  layers_quiet t is =
      let d : Tree = object fs in
      let back = fields_members fs in
      member_quiet (member_walk d) layers_key t (members_of fs)
      (subst (λ (xs : Fields). IsQuiet (fields_reports (member_walk d) xs)) (sym back)
      (subst IsQuiet (members_walk d fs) root_holds.1))
      (ap (field_at layers_key) back ∙ is)

  has_layers : (version sources layers : Bool) → (version && (sources && layers)) ≡ true → layers ≡ true
  has_layers true true true h = refl
  has_layers true true false h = absurd (cc)
  has_layers true false layers h = absurd (cc)
  has_layers false sources layers h = absurd (cc)

  list_at : (o : Option Tree) → field_at layers_key fs ≡ o → is_some o ≡ true →
      (ts : Trees) × (field_at layers_key fs ≡ Some (list ts))
  list_at None is h = absurd (cc)
  list_at (Some (list ts)) is h = (ts, is)
  list_at (Some null) is h = absurd (let q = layers_quiet null is in cc)
  list_at (Some (boolean b)) is h = absurd (let q = layers_quiet (boolean b) is in cc)
  list_at (Some (number n)) is h = absurd (let q = layers_quiet (number n) is in cc)
  list_at (Some (text s)) is h = absurd (let q = layers_quiet (text s) is in cc)
  list_at (Some (object gs)) is h = absurd (let q = layers_quiet (object gs) is in cc)

  there : (ts : Trees) × (field_at layers_key fs ≡ Some (list ts))
  there =
      let version = is_some (field_at (codes "version") fs) in
      let sources = is_some (field_at (codes "sources") fs) in
      list_at (field_at layers_key fs) refl (has_layers version sources (is_some (field_at layers_key fs)) root_holds.0)

-- where `layers` is an array it has the layers
array_there : (d : Tree) (ts : Trees) → member (codes "layers") d ≡ Some (list ts) → HasLayers d (elements_of ts)
array_there d ts is = is ∙ ap (λ (us : Trees). Some (list us)) (sym (elements_back ts))

pub layers_there : (d : Tree) → findings d ≡ [] → (ts : Trees) × (member (codes "layers") d ≡ Some (list ts))
layers_there (object fs) none = there fs none
layers_there null none = absurd (cc)
layers_there (boolean b) none = absurd (cc)
layers_there (number n) none = absurd (cc)
layers_there (text s) none = absurd (cc)
layers_there (list ts) none = absurd (cc)

-- ---- an edit of them

changed_there : (d : Tree) (ts : Trees) (change : List Tree → List Tree) → member (codes "layers") d ≡ Some (list ts)
    → layer_list (with_layers change d) ≡ change (layer_list d)
changed_there d ts change is =
    let listed : layer_list d ≡ elements_of ts = ap (λ (o : Option Tree). elements_of (trees_in o)) is in
    changed_list d (elements_of ts) (array_there d ts is) change ∙ ap change (sym listed)

-- The layers of a document that an edit makes, where nothing is found of that, are what the edit makes of the layers.
pub layers_edited : (d : Tree) (edit : Edit) → findings (edited d edit) ≡ [] → layer_list (edited d edit) ≡ edited_layers edit (layer_list d)
layers_edited d edit none = by (member (codes "layers") d) refl where
  by : (o : Option Tree) → member (codes "layers") d ≡ o → layer_list (edited d edit) ≡ edited_layers edit (layer_list d)
  by (Some (list ts)) is = changed_there d ts (edited_layers edit) is
  by o is =
      let same : edited d edit ≡ d = ap (λ (q : Option Tree). with_changed (edited_layers edit) q d) is in
      let has = layers_there d (ap findings (sym same) ∙ none) in
      absurd (let q : o ≡ Some (list has.0) = sym is ∙ has.1 in cc)
