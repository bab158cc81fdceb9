-- What a legacy filter is to a clause: a finite tree of tests.
use Rattle.std.specs.Prelude.{List, [], ◌∷◌, Bool}
use Rattle.legacy_filters.specs.declared.filter.Group.{Group}
use Rattle.legacy_filters.specs.declared.filter.Key.{Key}
use Rattle.legacy_filters.specs.declared.filter.Test.{Test}

-- The forms of a filter: a boolean; a test of the value of a key; or an all, any or none of filters.
-- Source: own.
mutual
  pub data Filter : Type 0 where
    flag : Bool → Filter
    test : Key → Test → Filter
    group : Group → Filters → Filter

  -- the parts of a group, in order
  pub data Filters : Type 0 where
    no_filters : Filters
    filter : Filter → Filters → Filters

-- the parts of a group, from a list
abbrev pub filters_of : List Filter → Filters
filters_of [] = no_filters
filters_of (f ∷ fs) = filter f (filters_of fs)
