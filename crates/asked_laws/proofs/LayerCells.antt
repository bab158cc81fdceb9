-- The cells that a listing asks of a layer are different ones, so those that are not kept are what is counted.
use Rattle.std.proofs.Common.{◌≡◌, List, [], ◌∷◌, length, refl, arith}
use Rattle.std.specs.Prelude.{cond, count_by, not}
use Rattle.std.proofs.lemmas.List.Sums.{sum_by-cons}
use Rattle.asked_cells.specs.Asked.{AskedCell, layer_asked}
use Rattle.bare_listing.proofs.Counting.{counted, kept_itself}
use Rattle.bare_listing.proofs.LayerCells.{AreOthers, layer_pairs}
use Rattle.bare_listing.proofs.Pairs.{pairs_all}
use Rattle.bare_listing.proofs.RowNumbers.{properties_rise}
use Rattle.kept_layers.specs.KeptLayers.{layer_expressions, none_kept, prepared_layer, type_of}
use Rattle.asked_laws.specs.AskedLaw.{EvaluationsCountNewCells, LayersAskNoCellTwice}

pub layers_ask_once : LayersAskNoCellTwice
layers_ask_once scene tiles globals t =
    pairs_all AreOthers (layer_asked (layer_expressions globals t) scene tiles (prepared_layer globals t))
    (layer_pairs (layer_expressions globals t) scene (prepared_layer globals t) (properties_rise globals (type_of t) t) tiles)

pub evaluations_are_counted : EvaluationsCountNewCells
evaluations_are_counted scene tiles globals t kept =
    let asked = layer_asked (layer_expressions globals t) scene tiles (prepared_layer globals t) in
    counted kept kept asked (kept_itself kept asked)
    (layer_pairs (layer_expressions globals t) scene (prepared_layer globals t) (properties_rise globals (type_of t) t) tiles)

-- where nothing is kept all are counted
pub all_counted : (asked : List AskedCell) → count_by (λ a. not (none_kept a.cell)) asked ≡ length asked
all_counted [] = refl
all_counted (a ∷ asked) =
    let more = sum_by-cons (λ (b : AskedCell). cond (not (none_kept b.cell)) 1 0) a asked in
    let rest = all_counted asked in
    omega (arith, more, rest)
