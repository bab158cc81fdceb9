-- The default of a property without a value of its own, as a value.
use Rattle.std.specs.Prelude.{pos, replicate, [], ◌∷◌, Option, Some, None, codes, Result, Ok, Err}
use Rattle.prop_values.specs.Data.{Data, boolean, number, text, list, items_of}
use Rattle.prop_values.specs.declared.fault.EvalFault.{EvalFault}
use Rattle.prop_values.specs.declared.kinds.Want.{Want}
use Rattle.property_tables.specs.Fitting.{fit}
use Rattle.property_tables.specs.Rows.{RowData, Default, absent, flag, amount, word, zeros, fonts}

-- the value that the table writes: a color is still a word
abbrev pub written_default : Default → Option Data
written_default absent = None
written_default (flag b) = Some (boolean b)
written_default (amount z) = Some (number z)
written_default (word s) = Some (text s)
written_default (zeros n) = Some (list (items_of (replicate n (number (pos 0)))))
written_default fonts =
    Some (list (items_of (text (codes "Open Sans Regular") ∷ text (codes "Arial Unicode MS Regular") ∷ [])))

-- what a fit gave, where it gave no fault
abbrev pub fitted : Result Data EvalFault → Option Data
fitted (Ok d) = Some d
fitted (Err fault) = None

-- a default as it is written, fitted to what is wanted
abbrev pub fitted_default : Want → Option Data → Option Data
fitted_default w None = None
fitted_default w (Some d) = fitted (fit w d)

-- the default of a row, fitted to what the row wants
abbrev pub default_of : RowData → Option Data
default_of r = fitted_default r.want (written_default r.fallback)
