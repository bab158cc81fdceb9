-- How a reader holds the ids of features.
use Rattle.std.specs.Prelude.{ℕ, Bool, true, false, List, [], ◌∷◌, Option, Some, None}

-- an id where there is one
abbrev pub id_seen : ℕ → Bool → Option ℕ
id_seen id true = Some id
id_seen id false = None

-- the same as a list
abbrev pub own_ids : ℕ → Bool → List ℕ
own_ids id true = id ∷ []
own_ids id false = []

-- how many ids a feature has
abbrev pub count_of_id : Bool → ℕ
count_of_id true = 1
count_of_id false = 0

-- the id of a feature that has one, at the front of ids
abbrev pub front_id : Bool → List ℕ → Option ℕ
front_id true [] = None
front_id true (id ∷ ids) = Some id
front_id false ids = None

-- the ids of the features after it
abbrev pub after_id : Bool → List ℕ → List ℕ
after_id true [] = []
after_id true (id ∷ ids) = ids
after_id false ids = ids
