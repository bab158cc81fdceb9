-- The zooms of rules.
use Rattle.std.specs.Prelude.{ℤ, List, map}
use Rattle.legacy_functions.specs.declared.function.ZoomRule.{ZoomRule}

-- in millionths
abbrev pub zooms_seen : List ZoomRule → List ℤ
zooms_seen = map (λ (r : ZoomRule). r.zoom.value)
