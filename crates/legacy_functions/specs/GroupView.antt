-- Stops with their zooms, and groups of one zoom each, while they are read.
use Rattle.std.specs.Prelude.{List, [], ◌∷◌, ◌++◌, map, if◌then◌else◌}
use Rattle.std.specs.Ordering.{int_eq}
use Rattle.legacy_functions.specs.declared.zooms.ZoomedStop.{ZoomedStop}
use Rattle.legacy_functions.specs.declared.zooms.ZoomGroup.{ZoomGroup}
use Rattle.legacy_functions.specs.Function.{Spelled}
use Rattle.legacy_functions.specs.Form.{Stop}
use Rattle.legacy_functions.specs.Parts.{spelled_seen, category_seen}

abbrev pub Zoomed : Type 0
Zoomed = Spelled × Stop

abbrev pub StopGroup : Type 0
StopGroup = Spelled × List Stop

abbrev pub zoomed_stop_seen : ZoomedStop → Zoomed
zoomed_stop_seen s = (spelled_seen s.zoom, category_seen s.stop)

abbrev pub group_seen : ZoomGroup → StopGroup
group_seen g = (spelled_seen g.zoom, map category_seen g.stops.items)

abbrev pub new_group : Zoomed → StopGroup
new_group s = (s.0, s.1 ∷ [])

abbrev pub with_stop : StopGroup → Zoomed → StopGroup
with_stop g s = (g.0, g.1 ++ s.1 ∷ [])

-- a group before later ones, the first of which it takes in where that has its zoom
abbrev pub joined : StopGroup → List StopGroup → List StopGroup
joined g [] = g ∷ []
joined g (h ∷ hs) = if int_eq g.0.value h.0.value then (g.0, g.1 ++ h.1) ∷ hs else g ∷ h ∷ hs

-- groups before later ones
abbrev pub onto : List StopGroup → List StopGroup → List StopGroup
onto [] hs = hs
onto (g ∷ []) hs = joined g hs
onto (g ∷ h ∷ gs) hs = g ∷ onto (h ∷ gs) hs
