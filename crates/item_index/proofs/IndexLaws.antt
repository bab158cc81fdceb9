-- The index of items, and an item that is noted.
use Rattle.std.proofs.Common.{◌≡◌, refl, true, false}
use Rattle.std.specs.Prelude.{Bool, ◌||◌, cond}

pub cond_or : (b c : Bool) → cond b true c ≡ (b || c)
cond_or true c = refl
cond_or false c = refl

-- a value that is noted before the others come
pub or_moved : (old noted later : Bool) → ((noted || old) || later) ≡ (old || (noted || later))
or_moved true true later = refl
or_moved true false later = refl
or_moved false true later = refl
or_moved false false later = refl
