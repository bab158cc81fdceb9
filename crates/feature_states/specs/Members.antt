-- Which members each feature has.
use Rattle.std.specs.Prelude.{ℕ, List, [], nat_eq, unwrap_or, option_map}
use Rattle.indexmap.specs.IndexMap.{IndexMap, get, get_by_text}
use Rattle.std.specs.declared.string.String.{String}
use Rattle.std.specs.declared.alloc.Global.{Global}
use Rattle.prop_values.specs.Data.{Data}
use Rattle.feature_states.specs.declared.feature_members.FeatureMembers.{FeatureMembers}
use Rattle.feature_states.specs.declared.states.States.{States}

-- The members of an id: none where nothing is kept for it. S, T and U are how the maps hash.
abbrev pub members_of_id : {S : Type 0} → IndexMap ℕ FeatureMembers S → ℕ → List (List ℕ × Data)
members_of_id ids id = unwrap_or (get nat_eq ids id) []

abbrev pub members_in_layer : {S T : Type 0} → IndexMap (String Global) (IndexMap ℕ FeatureMembers S) T → List ℕ → ℕ →
    List (List ℕ × Data)
members_in_layer layers layer id = unwrap_or (option_map (λ ids. members_of_id ids id) (get_by_text layers layer)) []

abbrev pub members_in_source : {S T U : Type 0} →
    IndexMap (String Global) (IndexMap (String Global) (IndexMap ℕ FeatureMembers S) T) U → List ℕ → List ℕ → ℕ →
    List (List ℕ × Data)
members_in_source sources source layer id =
    unwrap_or (option_map (λ layers. members_in_layer layers layer id) (get_by_text sources source)) []

-- The members that a feature has, by its source, layer and id, as a list of pairs of a key and data. A
-- feature that no call has named has none. Source: own.
abbrev pub members_at : States → List ℕ → List ℕ → ℕ → List (List ℕ × Data)
members_at states = members_in_source states.sources
