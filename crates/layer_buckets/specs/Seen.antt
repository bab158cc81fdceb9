-- What contracts see of kept cells.
use Rattle.std.specs.Prelude.{◌≤◌, ℕ, List, Bool, Option, Some, None, option_map}
use Rattle.std.specs.List.{slice_get}
use Rattle.operator_values.specs.Evaluated.{Evaluated}
use Rattle.eval_face.specs.World.{World}
use Rattle.expr_nodes.specs.Evaluators.{Sized}
use Rattle.layer_buckets.specs.Cells.{names}
use Rattle.layer_buckets.specs.LaidOut.{IsCellTable, feature_count, features_in_table, kept_in_table, row_of}
use Rattle.layer_buckets.specs.LaidOut.{source_in_table}
use Rattle.layer_buckets.specs.declared.buckets.Buckets.{Buckets}
use Rattle.layer_buckets.specs.declared.cell.Cell.{Cell}
use Rattle.layer_buckets.specs.declared.cell.CellItem.{CellItem}
use Rattle.layer_buckets.specs.declared.cell.Source.{Source}
use Rattle.layer_buckets.specs.declared.cell.Stale.{Stale}

module _ {E : Type 0} where
  abbrev pub evaluator_of : Buckets E → E
  evaluator_of b = b.evaluator

  -- the value or the fault that is kept for a cell
  abbrev pub kept_at : Buckets E → Cell → Option Evaluated
  kept_at b cell = kept_in_table b.table cell

  -- what gives the values of an item of a layer
  abbrev pub source_of : Buckets E → ℕ → CellItem → Option Source
  source_of b layer item = source_in_table b.table layer item

  -- how many features a layer has; none where it is not there
  abbrev pub features_of : Buckets E → ℕ → Option ℕ
  features_of b layer = features_in_table b.table layer

  -- whether a cause names a cell
  abbrev pub names_cell : Buckets E → Stale → Cell → Bool
  names_cell b stale cell = names stale cell (source_of b cell.layer cell.item)

  -- The lists that cells are dropped by have just the cells that are kept. A fact that each call asks and hands on.
  abbrev pub IsSound : Buckets E → Type 0
  IsSound b = IsCellTable b.table

-- what an evaluator gives for the expression of a number in a world
abbrev pub given_at : List Sized → ℕ → World → Option Evaluated
given_at slots slot world = option_map (λ (e : Sized). e.0 world) (slice_get slots slot)

-- a kept outcome stays; else the one that is given is kept
abbrev pub refreshed : Option Evaluated → Option Evaluated → Option Evaluated
refreshed (Some kept) given = Some kept
refreshed None given = given

abbrev pub slot_in_source : Option Source → ℕ
slot_in_source (Some s) = s.slot
slot_in_source None = 0

-- a layer of so many features has the feature of a cell
abbrev pub HasFeature : Option ℕ → Option ℕ → Type 0
HasFeature features feature = row_of feature ≤ feature_count features
