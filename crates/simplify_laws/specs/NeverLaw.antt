-- No feature passes a filter that simplification lists. Source: own.
use Rattle.std.specs.Prelude.{◌≡◌, ℕ, List, false, Some}
use Rattle.std.specs.List.{slice_get}
use Rattle.decimal_json.specs.Tree.{Tree}
use Rattle.decimal_json.specs.declared.paths.PathPart.{PathPart}
use Rattle.prop_values.specs.Data.{Data}
use Rattle.eval_face.specs.World.{World}
use Rattle.style_layout.specs.Forms.{layer_filter, lets_pass}
use Rattle.style_parts.specs.Parts.{layers_of}
use Rattle.style_simplify.specs.Simple.{listed}
use Rattle.style_simplify.specs.SimplifiedStyle.{filter_of, filter_path, never_passed, simplified}

-- A path is that of the filter of a layer of a document, and whatever the zoom, the feature, its state, the tests and
-- the values of the global state are, the filter lets no feature pass.
pub record IsNeverPassed (document : Tree) (path : List PathPart) : Type 0 where
  pub number : ℕ
  pub layer : Tree
  pub place : path ≡ filter_path number
  pub found : slice_get (listed (layers_of document)) number ≡ Some layer
  pub passes : (globals : List (List ℕ × Data)) (world : World) →
      lets_pass (layer_filter globals (filter_of layer)) world ≡ false

-- Each path that is listed for a document is one of its simplified form.
abbrev pub ListedFiltersPassNothing : Type 0
ListedFiltersPassNothing =
    (document : Tree) (k : ℕ) (path : List PathPart) →
    slice_get (never_passed document (simplified document)) k ≡ Some path → IsNeverPassed (simplified document) path
