-- Operators that stop at the argument that decides. No argument after it is evaluated. Source: MapLibre style
-- specification, version 8, expressions.
use Rattle.std.specs.Prelude.{ℕ, ◌+◌, List, [], ◌∷◌, true, false, Option, Some, None, option_map, Ok}
use Rattle.prop_values.specs.Data.{Data, null, boolean, number, text, color, map}
use Rattle.prop_values.specs.declared.kinds.Want.{Want}
use Rattle.expr_syntax.specs.declared.expression.Operator.{Operator}
use Rattle.operator_values.specs.Evaluated.{Evaluated, then_value}
use Rattle.operator_values.specs.Conversions.{number_in, color_in}
use Rattle.eval_face.specs.Meanings.{Meaning, argument_of}
use Rattle.eval_face.specs.Names.{BoundOutcomes}
use Rattle.eval_face.specs.World.{World}

-- `boolean`, `number`, `string` and `object`: the first of the form
abbrev pub if_boolean : Data → Option Data
if_boolean (boolean b) = Some (boolean b)
if_boolean _ = None

abbrev pub if_number : Data → Option Data
if_number (number z) = Some (number z)
if_number _ = None

abbrev pub if_text : Data → Option Data
if_text (text s) = Some (text s)
if_text _ = None

abbrev pub if_object : Data → Option Data
if_object (map ps) = Some (map ps)
if_object _ = None

-- `to-color` and `to-number`: the first that is read as one
abbrev pub if_color : Data → Option Data
if_color d = option_map color (color_in d)

abbrev pub if_readable : Data → Option Data
if_readable d = option_map number (number_in d)

-- `all` and `any`: the first false, and the first true
abbrev pub if_false : Data → Option Data
if_false (boolean false) = Some (boolean false)
if_false _ = None

abbrev pub if_true : Data → Option Data
if_true (boolean true) = Some (boolean true)
if_true _ = None

-- `coalesce`: the first that is not null
abbrev pub if_there : Data → Option Data
if_there null = None
if_there d = Some d

abbrev pub or_later : Option Data → Evaluated → Evaluated
or_later (Some d) later = Ok d
or_later None later = later

-- what the first of the arguments from place k on decides, or the other value where none does
abbrev pub first_of : (Data → Option Data) → Evaluated → Operator → ℕ → ℕ → List Meaning → Want → BoundOutcomes →
    World → Evaluated
first_of decides none op m k [] want names world = none
first_of decides none op m k (meaning ∷ meanings) want names world =
    then_value (argument_of op m k meaning want names world)
    (λ d. or_later (decides d) (first_of decides none op m (k + 1) meanings want names world))
