-- Why a session over a document and tiles cannot be opened: the first cause that holds, in their order.
use Rattle.std.specs.Prelude.{ℕ, ℤ, ◌-◌, ◌^◌, min, List, [], ◌∷◌, codes, Bool, not, nat_le, Option, Some, None, is_some}
use Rattle.std.specs.Prelude.{option_map, if◌then◌else◌}
use Rattle.std.specs.Bool.{then_some}
use Rattle.std.specs.Option.{option_and_then, option_or}
use Rattle.decimal_json.specs.Tree.{Tree}
use Rattle.decimal_json.specs.declared.paths.PathPart.{PathPart}
use Rattle.decimal_json.specs.Accessors.{text_at}
use Rattle.style_edits.specs.Causes.{first_cause}
use Rattle.style_parts.specs.Numbers.{is_zoom}
use Rattle.style_parts.specs.Parts.{is_among, source_at}
use Rattle.style_layout.specs.Globals.{globals_of}
use Rattle.style_layout.specs.Layers.{style_layers}
use Rattle.style_layout.specs.Shown.{SourceTile}
use Rattle.style_layout.specs.StyleLayout.{cell_count}
use Rattle.style_rules.specs.Findings.{findings}

-- ---- the sources of a style

abbrev pub has_source : Tree → List ℕ → Bool
has_source document name = is_some (source_at document name)

abbrev pub is_vector : Tree → List ℕ → Bool
is_vector document name =
    is_among (codes "vector" ∷ []) (option_and_then (text_at (codes "type")) (source_at document name))

-- the source of the first tile whose source fails a test
abbrev pub first_failing : (List ℕ → Bool) → List SourceTile → Option (List ℕ)
first_failing test [] = None
first_failing test (t ∷ ts) = if test t.0 then first_failing test ts else Some t.0

-- ---- cells

-- The most cells that a style may have over the tiles of a session that is alone. Source: own.
abbrev pub cell_limit : ℕ
cell_limit = 8000000

abbrev pub within_limit : (limit count : ℕ) → Bool
within_limit limit count = nat_le count limit

-- ---- the fault

pub data Fault : Type 0 where
  has_findings : Fault
  -- the source of a tile is none of the document's
  unknown_source : List ℕ → Fault
  -- the source of a tile is not of type vector
  not_vector : List ℕ → Fault
  -- so many cells, or the greatest number of 128 bits where there are more
  too_many_cells : ℕ → Fault
  zoom_range : Fault

abbrev pub cells_fault : (limit count : ℕ) → Option Fault
cells_fault limit count = if within_limit limit count then None else Some (too_many_cells (min count (2 ^ 128 - 1)))

-- the fault of a document without findings, which may have so many cells
abbrev pub tiles_fault : (limit : ℕ) → Tree → List SourceTile → ℤ → Option Fault
tiles_fault limit document tiles zoom = first_cause (
    option_map unknown_source (first_failing (has_source document) tiles) ∷
    option_map not_vector (first_failing (is_vector document) tiles) ∷
    cells_fault limit (cell_count tiles (style_layers (globals_of document) document)) ∷
    then_some (not (is_zoom (Some zoom))) zoom_range ∷ [])

abbrev pub findings_fault : List (List PathPart × ℕ) → Option Fault
findings_fault [] = None
findings_fault (f ∷ fs) = Some has_findings

-- The fault of an opening, or none. Source: own.
abbrev pub open_fault : (limit : ℕ) → Tree → List SourceTile → ℤ → Option Fault
open_fault limit document tiles zoom =
    option_or (findings_fault (findings document)) (tiles_fault limit document tiles zoom)
