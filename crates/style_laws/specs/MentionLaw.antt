-- What is mentioned is all that counts: of values and filters of each form, legacy ones too. Source: own.
use Rattle.std.specs.Prelude.{◌≡◌, ℕ, List, Option}
use Rattle.decimal_json.specs.Tree.{Tree}
use Rattle.prop_values.specs.Data.{Data}
use Rattle.property_tables.specs.Rows.{RowData}
use Rattle.eval_face.specs.Agreement.{AgreeOn}
use Rattle.eval_face.specs.World.{World}
use Rattle.legacy_laws.specs.LegacyFunctionLaw.{IsTableRow}
use Rattle.migrate_laws.specs.MigratedLaw.{filter_mentions}
use Rattle.style_layout.specs.Forms.{property_of, outcome_of, property_value, value_mentions, layer_filter, lets_pass}

-- Two worlds that agree on what a value mentions list its property alike: the zoom, the feature, its state and the test
-- of images count only where they are mentioned. So it is of an expression, a legacy function, a token text and a
-- literal, and of each tree that is none of these.
abbrev pub ValuesGoByTheirMentions : Type 0
ValuesGoByTheirMentions =
    (row : RowData) (globals : List (List ℕ × Data)) (t : Tree) (v w : World) → IsTableRow row →
    AgreeOn (value_mentions globals (property_value row globals t)) v w →
    outcome_of (property_of row globals t) v ≡ outcome_of (property_of row globals t) w

-- Two worlds that agree on what a filter mentions let the same pass.
abbrev pub FiltersGoByTheirMentions : Type 0
FiltersGoByTheirMentions =
    (globals : List (List ℕ × Data)) (t : Option Tree) (v w : World) →
    AgreeOn (filter_mentions globals (layer_filter globals t)) v w →
    lets_pass (layer_filter globals t) v ≡ lets_pass (layer_filter globals t) w
