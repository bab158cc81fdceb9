-- A value that an expression gives under a want is fitted to it.
use Rattle.std.specs.Prelude.{◌≡◌, Ok}
use Rattle.prop_values.specs.Data.{Data}
use Rattle.prop_values.specs.declared.kinds.Want.{Want}
use Rattle.property_tables.specs.Fitting.{fit}
use Rattle.expr_syntax.specs.Term.{Term}
use Rattle.eval_face.specs.Meaning.{mean}
use Rattle.eval_face.specs.Names.{BoundOutcomes}
use Rattle.eval_face.specs.World.{World}

-- Fitting it once more changes nothing. Source: own.
abbrev pub EachValueIsFitted : Type 0
EachValueIsFitted =
    (t : Term) (want : Want) (names : BoundOutcomes) (world : World) (d : Data) → mean t want names world ≡ Ok d →
    fit want d ≡ Ok d
