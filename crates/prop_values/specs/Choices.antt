-- The sets of texts that a style property may be one of.
use Rattle.std.specs.Prelude.{ℕ, List, [], ◌∷◌, Bool, codes}
use Rattle.std.specs.List.{list_any}
use Rattle.prop_values.specs.Equality.{same_text}
use Rattle.prop_values.specs.declared.choice.Choice.{Choice}
use Rattle.prop_values.specs.declared.choice.Choice.TheVariants.{Visibility, Anchor, MapViewport, MapViewportAuto}
use Rattle.prop_values.specs.declared.choice.Choice.TheVariants.{Overlap, LineCap, LineJoin, SymbolPlacement}
use Rattle.prop_values.specs.declared.choice.Choice.TheVariants.{SymbolZOrder, IconTextFit, TextRotationAlignment}
use Rattle.prop_values.specs.declared.choice.Choice.TheVariants.{TextJustify, TextWritingMode, TextTransform}
use Rattle.prop_values.specs.declared.choice.Choice.TheVariants.{RasterResampling}

-- The texts of each set. Source: the enumerated values of the MapLibre style specification, version
-- 8, as this project takes them.
abbrev pub texts_of : Choice → List (List ℕ)
texts_of Visibility = codes "visible" ∷ codes "none" ∷ []
texts_of Anchor =
    codes "center" ∷ codes "left" ∷ codes "right" ∷ codes "top" ∷ codes "bottom" ∷ codes "top-left" ∷
    codes "top-right" ∷ codes "bottom-left" ∷ codes "bottom-right" ∷ []
texts_of MapViewport = codes "map" ∷ codes "viewport" ∷ []
texts_of MapViewportAuto = codes "map" ∷ codes "viewport" ∷ codes "auto" ∷ []
texts_of Overlap = codes "never" ∷ codes "always" ∷ codes "cooperative" ∷ []
texts_of LineCap = codes "butt" ∷ codes "round" ∷ codes "square" ∷ []
texts_of LineJoin = codes "bevel" ∷ codes "round" ∷ codes "miter" ∷ []
texts_of SymbolPlacement = codes "point" ∷ codes "line" ∷ codes "line-center" ∷ []
texts_of SymbolZOrder = codes "auto" ∷ codes "viewport-y" ∷ codes "source" ∷ []
texts_of IconTextFit = codes "none" ∷ codes "width" ∷ codes "height" ∷ codes "both" ∷ []
texts_of TextRotationAlignment = codes "map" ∷ codes "viewport" ∷ codes "viewport-glyph" ∷ codes "auto" ∷ []
texts_of TextJustify = codes "auto" ∷ codes "left" ∷ codes "center" ∷ codes "right" ∷ []
texts_of TextWritingMode = codes "horizontal" ∷ codes "vertical" ∷ []
texts_of TextTransform = codes "none" ∷ codes "uppercase" ∷ codes "lowercase" ∷ []
texts_of RasterResampling = codes "linear" ∷ codes "nearest" ∷ []

-- The text is one of the set.
abbrev pub choice_holds : Choice → List ℕ → Bool
choice_holds c s = list_any (same_text s) (texts_of c)
