-- Which parts of the world a legacy function asks for: the zoom and the feature. Source: own.
use Rattle.std.specs.Prelude.{ℕ, List, ◌∷◌, Bool, true, false, ◌||◌, Option, Some, None, is_some}
use Rattle.std.specs.List.{list_any}
use Rattle.property_tables.specs.Rows.{RowData}
use Rattle.legacy_functions.specs.Function.{Spelled, Output, literal, tokens, Way, even, curved, stepped}
use Rattle.legacy_functions.specs.Function.{PropertyRule, numeric, categorical, Body, plain, zoomed, identity, Function}
use Rattle.legacy_functions.specs.Meaning.{zoom_way}
use Rattle.legacy_functions.specs.Tokens.{has_tokens}

abbrev pub has_several : {A : Type 0} → List A → Bool
has_several (x ∷ y ∷ zs) = true
has_several xs = false

-- Whether stops ask for their input. Steps with one stop do not: its output is the result for each input.
abbrev pub asks_input : {A : Type 0} → Way → List A → Bool
asks_input even stops = true
asks_input (curved base) stops = true
asks_input stepped stops = has_several stops

-- one rule is over the zoom where there is no property
abbrev pub rule_asks_zoom : Option (List ℕ) → PropertyRule → Bool
rule_asks_zoom (Some name) rule = false
rule_asks_zoom None (numeric way stops) = asks_input way stops
rule_asks_zoom None (categorical stops) = false

abbrev pub body_asks_zoom : RowData → Option (List ℕ) → Body → Bool
body_asks_zoom row property (plain rule) = rule_asks_zoom property rule
body_asks_zoom row property (zoomed rules) = asks_input (zoom_way row) rules
body_asks_zoom row property identity = false

-- The stops of a function of a row ask for the zoom.
abbrev pub asks_zoom : RowData → Function → Bool
asks_zoom row f = body_asks_zoom row f.property f.body

-- an output asks for the feature where it is a text that has tokens
abbrev pub output_asks_feature : Output → Bool
output_asks_feature (literal t d) = false
output_asks_feature (tokens s) = has_tokens s

abbrev pub stops_ask_feature : List (Spelled × Output) → Bool
stops_ask_feature stops = list_any (λ (s : Spelled × Output). output_asks_feature s.1) stops

-- a function without a property has one rule over numbers, which gives what its outputs say, never the
-- default
abbrev pub outputs_ask_feature : Body → Bool
outputs_ask_feature (plain (numeric way stops)) = stops_ask_feature stops
outputs_ask_feature body = false

-- It has a property, or an output that asks for the feature.
abbrev pub asks_feature : Function → Bool
asks_feature f = is_some f.property || outputs_ask_feature f.body
