-- An index of numbers by ids, and what it represents. Source: own.
use Rattle.std.specs.Prelude.{◌≡◌, ◌<◌, ℕ, List, [], ◌∷◌, length, nat_eq, slice_index_or, Bool, false, Option, Some}
use Rattle.std.specs.Prelude.{None, IfSome, if◌then◌else◌, ◌||◌}
use Rattle.std.proofs.Common.{zero, suc}
use Rattle.std.specs.BTreeMap.{get}
use Rattle.std.specs.Ordering.{nat_cmp}
use Rattle.feature_index.specs.declared.ids.IdIndex.{IdIndex}
use Rattle.feature_index.specs.declared.ids.NumbersWithId.{NumbersWithId}

-- an id, where there is one, is this one
abbrev pub is_id : ℕ → Option ℕ → Bool
is_id id (Some i) = nat_eq id i
is_id id None = false

-- ---- what is looked for

-- the numbers below a count whose id is this one, the last first
abbrev pub numbers_below : List (Option ℕ) → ℕ → ℕ → List ℕ
numbers_below ids id zero = []
numbers_below ids id (suc n) =
    if is_id id (slice_index_or ids n None) then n ∷ numbers_below ids id n else numbers_below ids id n

-- the numbers of a list of ids, from 0 on, that have this one
abbrev pub numbers_with : List (Option ℕ) → ℕ → List ℕ
numbers_with ids id = numbers_below ids id (length ids)

-- a number is in a list
abbrev pub is_among : ℕ → List ℕ → Bool
is_among m [] = false
is_among m (n ∷ ns) = nat_eq n m || is_among m ns

-- ---- how it is found

-- the numbers below a count that are reached from one by the numbers before, each before the one that names it
abbrev pub chain : List (Option ℕ) → Option ℕ → ℕ → List ℕ
chain before at zero = []
chain before at (suc n) =
    if is_id n at then n ∷ chain before (slice_index_or before n None) n else chain before at n

-- each number is after the one that it names
abbrev pub IsFalling : List (Option ℕ) → Type 0
IsFalling before = (n : ℕ) → n < length before → IfSome (slice_index_or before n None) (λ m. m < n)

-- The index represents a list of ids: by it the numbers of each are found.
pub record IsIndexed (index : IdIndex) (ids : List (Option ℕ)) : Type 0 where
  pub counted : length index.before.items ≡ length ids
  pub falling : IsFalling index.before.items
  pub below : (id : ℕ) → IfSome (get nat_cmp index.last id) (λ n. n < length ids)
  pub found : (id : ℕ) → chain index.before.items (get nat_cmp index.last id) (length ids) ≡ numbers_with ids id

-- the numbers that have an id, by the index
abbrev pub numbers_of : IdIndex → ℕ → List ℕ
numbers_of index id = chain index.before.items (get nat_cmp index.last id) (length index.before.items)

-- the numbers that are not taken yet
abbrev pub numbers_left : NumbersWithId → List ℕ
numbers_left walk = chain walk.before.now walk.at (length walk.before.now)

pub record IsIdWalk (walk : NumbersWithId) : Type 0 where
  pub falling : IsFalling walk.before.now
  pub within : IfSome walk.at (λ n. n < length walk.before.now)
