-- A simplified document breaks no rule where the document broke none.
use Rattle.std.proofs.Common.{ℕ, suc, refl}
use Rattle.std.specs.Prelude.{List, Option, Some, None}
use Rattle.decimal_json.specs.Sound.{AreSound, HasSoundMembers, IsSound}
use Rattle.decimal_json.specs.Tree.{Tree, Trees, no_trees, tree, Fields, no_fields, field}
use Rattle.property_tables.specs.Rows.{RowData, row_of}
use Rattle.property_tables.specs.declared.layer_type.LayerType.{LayerType}
use Rattle.property_tables.specs.declared.property_row.Place.{Place}
use Rattle.style_rules.specs.Levels.{WalksByLevels}
use Rattle.style_rules.specs.Places.{row_mark}
use Rattle.style_simplify.specs.SimplifiedStyle.{simplified_filter, simplified_properties, simplified_property, value_of_row}
use Rattle.migrate_soundness.proofs.ChangedDocuments.{ItemsHave, IsSoundChange, MembersHave, documents_alike}
use Rattle.migrate_soundness.proofs.ReportedAlike.{IsMarkedAlike, marked_same}
use Rattle.simplify_soundness.specs.NoFindingsLaw.{SimplifiedDocumentsHaveNoFinding, SimplifiedDocumentsKeepTheirNotes}
use Rattle.simplify_soundness.proofs.SimplifiedValues.{filter_alike, value_alike}

items_sound : (k : ℕ) (ts : Trees) → AreSound k ts → ItemsHave IsSound k ts
items_sound k no_trees sound = tt
items_sound k (tree t ts) sound = (sound.0, items_sound k ts sound.1)

members_sound : (k : ℕ) (fs : Fields) → HasSoundMembers k fs → MembersHave IsSound k fs
members_sound k no_fields sound = tt
members_sound k (field key t fs) sound = (sound.1, members_sound k fs sound.2)

row_alike : (type : LayerType) (place : Place) (name : List ℕ) (found : Option (ℕ × RowData)) (k : ℕ) (t : Tree) → IsSound k t → IsMarkedAlike (row_mark type place name found t) (row_mark type place name found (value_of_row found t))
row_alike type place name (Some (n, row)) k t sound = value_alike row k t sound
row_alike type place name None k t sound = marked_same (row_mark type place name None t) (row_mark type place name None t) refl

simplifies_soundly : IsSoundChange simplified_filter simplified_property simplified_properties IsSound
simplifies_soundly = record {
  items = λ k ts sound. items_sound (suc k) ts sound.1;
  members = λ k fs sound. members_sound (suc k) fs sound.2;
  distinct = λ fs sound. sound.1;
  untested = λ place t. refl;
  placeless = λ type t. refl;
  placed = λ type place t. refl;
  filters = λ k t sound. filter_alike k t sound;
  values = λ type place name k t sound. row_alike type place name (row_of type place name) k t sound;
}

pub have_no_finding : WalksByLevels → SimplifiedDocumentsHaveNoFinding
have_no_finding walks document sound none = (documents_alike simplified_filter simplified_property simplified_properties IsSound simplifies_soundly walks document sound none).findings

pub keep_notes : WalksByLevels → SimplifiedDocumentsKeepTheirNotes
keep_notes walks document sound none = (documents_alike simplified_filter simplified_property simplified_properties IsSound simplifies_soundly walks document sound none).notes
