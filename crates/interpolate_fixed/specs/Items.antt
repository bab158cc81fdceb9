-- An answer that holds a vector, seen as one that holds its items. Source: own.
use Rattle.std.specs.Prelude.{ℤ, List, Result, Ok, Err}
use Rattle.std.specs.declared.alloc.Global.{Global}
use Rattle.std.specs.declared.vec.Vec.{Vec}
use Rattle.fixed_num.specs.declared.fixed.Arith.{Arith}

abbrev pub items_of : Result (Vec ℤ Global) Arith → Result (List ℤ) Arith
items_of (Ok found) = Ok found.items
items_of (Err fault) = Err fault
