-- The names of which expressions are made, one after another. Source: own.
use Rattle.std.specs.Prelude.{ℕ, List, codes}

abbrev pub all_names : List ℕ
all_names = codes "interpolatelinearzoomcase==typeofgetnumberstepliteralconcatstringarraybooleancoalesceexponential"
