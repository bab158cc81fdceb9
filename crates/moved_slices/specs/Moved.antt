-- A list of which one element has moved. Source: own.
use Rattle.std.specs.Prelude.{◌≡◌, ℕ, List, insert, remove, slice_index_or}

-- the element at a place was taken out and put in again at another
abbrev pub IsMoved : {X : Type 0} → (from to : ℕ) → (old new : List X) → Type 0
IsMoved {X} from to old new = (other : X) → new ≡ insert (remove old from) to (slice_index_or old from other)
