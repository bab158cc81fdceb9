-- A simplified value or filter means what it meant. Source: own.
use Rattle.std.specs.Prelude.{◌≡◌, ◌≤◌, ℕ, List, true, Some, Ok}
use Rattle.decimal_json.specs.Sound.{IsSound}
use Rattle.decimal_json.specs.Tree.{Tree}
use Rattle.prop_values.specs.Data.{Data}
use Rattle.property_tables.specs.Rows.{RowData}
use Rattle.expr_syntax.specs.Reading.{reading}
use Rattle.expr_syntax.specs.Term.{Term}
use Rattle.expr_syntax.specs.TermSize.{nodes}
use Rattle.expr_syntax.specs.declared.world_parts.Mentions.{Mentions}
use Rattle.eval_face.specs.World.{World}
use Rattle.style_layout.specs.Forms.{is_outside, layer_filter, lets_pass, outcome_of, property_of, property_value}
use Rattle.style_layout.specs.Forms.{value_mentions}
use Rattle.migrate_laws.specs.MigratedLaw.{filter_mentions}
use Rattle.style_simplify.specs.SimplifiedStyle.{simplified_filter, simplified_value}

-- ---- the laws, at every zoom, of every feature and state, and whatever the two tests and the values of the global
-- state are

-- A simplified value of a row is listed as the value is: as the same value, as the same fault with the same value for
-- it, or as outside.
abbrev pub SimplifiedValuesMeanTheSame : Type 0
SimplifiedValuesMeanTheSame =
    (row : RowData) (globals : List (List ℕ × Data)) (k : ℕ) (t : Tree) → IsSound k t → (world : World) →
    outcome_of (property_of row globals (simplified_value row t)) world ≡ outcome_of (property_of row globals t) world

-- A simplified filter lets the same features pass.
abbrev pub SimplifiedFiltersPassTheSame : Type 0
SimplifiedFiltersPassTheSame =
    (globals : List (List ℕ × Data)) (k : ℕ) (t : Tree) → IsSound k t → (world : World) →
    lets_pass (layer_filter globals (Some (simplified_filter t))) world
    ≡ lets_pass (layer_filter globals (Some t)) world

-- And it is outside where the filter is.
abbrev pub SimplifiedFiltersAreOutsideAlike : Type 0
SimplifiedFiltersAreOutsideAlike =
    (globals : List (List ℕ × Data)) (k : ℕ) (t : Tree) → IsSound k t →
    is_outside (layer_filter globals (Some (simplified_filter t))) ≡ is_outside (layer_filter globals (Some t))

-- ---- and has no more nodes, literals counted

abbrev pub SimplifiedValuesHaveNoMoreNodes : Type 0
SimplifiedValuesHaveNoMoreNodes =
    (row : RowData) (k : ℕ) (t : Tree) (old new : Term) → IsSound k t → reading t ≡ Ok (Some old) →
    reading (simplified_value row t) ≡ Ok (Some new) → nodes new ≤ nodes old

abbrev pub SimplifiedFiltersHaveNoMoreNodes : Type 0
SimplifiedFiltersHaveNoMoreNodes =
    (k : ℕ) (t : Tree) (old new : Term) → IsSound k t → reading t ≡ Ok (Some old) →
    reading (simplified_filter t) ≡ Ok (Some new) → nodes new ≤ nodes old

-- ---- and reads no more of the world

-- Whatever is read after was read before: the zoom, the feature, its state, the test of images.
pub record ReadsNoMore (new old : Mentions) : Type 0 where
  pub zoom : new.zoom ≡ true → old.zoom ≡ true
  pub feature : new.feature ≡ true → old.feature ≡ true
  pub state : new.state ≡ true → old.state ≡ true
  pub image : new.image ≡ true → old.image ≡ true

abbrev pub SimplifiedValuesReadNoMore : Type 0
SimplifiedValuesReadNoMore =
    (row : RowData) (globals : List (List ℕ × Data)) (k : ℕ) (t : Tree) → IsSound k t →
    ReadsNoMore
    (value_mentions globals (property_value row globals (simplified_value row t)))
    (value_mentions globals (property_value row globals t))

abbrev pub SimplifiedFiltersReadNoMore : Type 0
SimplifiedFiltersReadNoMore =
    (globals : List (List ℕ × Data)) (k : ℕ) (t : Tree) → IsSound k t →
    ReadsNoMore
    (filter_mentions globals (layer_filter globals (Some (simplified_filter t))))
    (filter_mentions globals (layer_filter globals (Some t)))
