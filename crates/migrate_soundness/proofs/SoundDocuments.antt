-- A migrated document breaks no rule where the document broke none.
use Rattle.std.proofs.Common.{◌≡◌, ℕ, zero, suc, refl}
use Rattle.std.specs.Prelude.{List, Option, Some, None}
use Rattle.decimal_json.specs.Tree.{Tree, Trees, no_trees, tree, Fields, no_fields, field}
use Rattle.property_tables.specs.Rows.{RowData, row_of}
use Rattle.property_tables.specs.declared.layer_type.LayerType.{LayerType}
use Rattle.property_tables.specs.declared.property_row.Place.{Place}
use Rattle.legacy_filters.specs.Migrated.{migrated_filter}
use Rattle.style_rules.specs.Levels.{HasDistinctMembers, WalksByLevels}
use Rattle.style_rules.specs.Places.{row_mark}
use Rattle.style_migrate.specs.Migrated.{migrated_properties, migrated_property, value_of_row}
use Rattle.migrate_soundness.specs.SoundnessLaw.{SoundDocumentsKeepTheirNotes, SoundDocumentsStaySound}
use Rattle.migrate_soundness.proofs.ChangedDocuments.{ItemsHave, IsSoundChange, MembersHave, documents_alike}
use Rattle.migrate_soundness.proofs.ReportedAlike.{IsMarkedAlike, marked_same}
use Rattle.migrate_soundness.proofs.SoundParts.{HaveSoundExpressions, filter_alike, value_alike}

-- No two names of the document are the same; of what is in it nothing is asked.
abbrev HasOwnNames : ℕ → Tree → Type 0
HasOwnNames zero t = HasDistinctMembers t
HasOwnNames (suc k) t = Unit {0}

items_have : (k : ℕ) (ts : Trees) → ItemsHave HasOwnNames (suc k) ts
items_have k no_trees = tt
items_have k (tree t ts) = (tt, items_have k ts)

members_have : (k : ℕ) (fs : Fields) → MembersHave HasOwnNames (suc k) fs
members_have k no_fields = tt
members_have k (field key t fs) = (tt, members_have k fs)

module _ (laws : HaveSoundExpressions) where
  row_alike : (type : LayerType) (place : Place) (name : List ℕ) (found : Option (ℕ × RowData)) → row_of type place name ≡ found → (t : Tree) →
      IsMarkedAlike (row_mark type place name found t) (row_mark type place name found (value_of_row found t))
  row_alike type place name (Some (n, row)) is t = value_alike laws row (type, place, name, n, is) t
  row_alike type place name None is t = marked_same (row_mark type place name None t) (row_mark type place name None t) refl

  migrates_soundly : IsSoundChange migrated_filter migrated_property migrated_properties HasOwnNames
  migrates_soundly = record {
    items = λ k ts here. items_have k ts;
    members = λ k fs here. members_have k fs;
    distinct = λ fs here. here;
    untested = λ place t. refl;
    placeless = λ type t. refl;
    placed = λ type place t. refl;
    filters = λ k t here. filter_alike laws t;
    values = λ type place name k t here. row_alike type place name (row_of type place name) refl t;
  }

  pub stay_sound : WalksByLevels → SoundDocumentsStaySound
  stay_sound walks document distinct none = (documents_alike migrated_filter migrated_property migrated_properties HasOwnNames migrates_soundly walks document distinct none).findings

  pub keep_notes : WalksByLevels → SoundDocumentsKeepTheirNotes
  keep_notes walks document distinct none = (documents_alike migrated_filter migrated_property migrated_properties HasOwnNames migrates_soundly walks document distinct none).notes
