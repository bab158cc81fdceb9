-- The features of a layer one after the other.
use Rattle.std.proofs.Common.{◌≡◌, ℕ, ◌+◌, ◌<◌, List, [], ◌∷◌, ◌++◌, sym, ap, ◌∙◌, length, take, drop, get_or}
use Rattle.std.specs.Prelude.{Result, Ok, Err}
use Rattle.prop_values.specs.Data.{Data}
use Rattle.tile_reader.specs.declared.fault.TileFault.{TileFault}
use Rattle.tile_reader.specs.declared.feature.TaggedFeature.{TaggedFeature}
use Rattle.tile_reader.specs.declared.tile.Feature.{Feature}
use Rattle.tile_reader.specs.Read.{◌then◌}
use Rattle.tile_reader.specs.Properties.{feature_of, features_of}
use Rattle.tile_reader.specs.View.{tagged_seen, tagged_all}
use Rattle.tile_reader.proofs.Tags.{left_from}

-- what is left from a place on begins with the element at that place
front_of : (keys : List (List ℕ)) (values : List Data) (done : List Feature) (all : List TaggedFeature) (i : ℕ) (tagged : TaggedFeature) (rest own others : List ℕ) → i < length all → tagged ≡ get_or all i tagged → own ≡ take tagged.count rest → others ≡ drop tagged.count rest → features_of keys values done (tagged_all (drop i all) rest) ≡ (feature_of keys values (tagged_seen tagged own) then λ f. features_of keys values (done ++ f ∷ []) (tagged_all (drop (i + 1) all) others))
front_of keys values done all i tagged rest own others below is owned left =
    ap (λ (fs : List TaggedFeature). features_of keys values done (tagged_all fs rest)) (left_from all i tagged below is)
    ∙ ap (λ (ts : List ℕ). feature_of keys values (tagged_seen tagged ts) then λ f. features_of keys values (done ++ f ∷ []) (tagged_all (drop (i + 1) all) (drop tagged.count rest))) (sym owned)
    ∙ ap (λ (ts : List ℕ). feature_of keys values (tagged_seen tagged own) then λ f. features_of keys values (done ++ f ∷ []) (tagged_all (drop (i + 1) all) ts)) (sym left)

-- One turn of the loop, where `whole` is what all features are: one more feature,
pub features_more : (keys : List (List ℕ)) (values : List Data) (done : List Feature) (all : List TaggedFeature) (i : ℕ) (tagged : TaggedFeature) (rest own others : List ℕ) (feature : Feature) (whole : Result (List Feature) TileFault) → i < length all → tagged ≡ get_or all i tagged → own ≡ take tagged.count rest → others ≡ drop tagged.count rest → feature_of keys values (tagged_seen tagged own) ≡ Ok feature → features_of keys values done (tagged_all (drop i all) rest) ≡ whole → features_of keys values (done ++ feature ∷ []) (tagged_all (drop (i + 1) all) others) ≡ whole
features_more keys values done all i tagged rest own others feature whole below is owned left e so_far =
    sym (front_of keys values done all i tagged rest own others below is owned left ∙ ap (λ (r : Result Feature TileFault). r then λ f. features_of keys values (done ++ f ∷ []) (tagged_all (drop (i + 1) all) others)) e) ∙ so_far

-- and a feature that is refused
pub features_refused : (keys : List (List ℕ)) (values : List Data) (done : List Feature) (all : List TaggedFeature) (i : ℕ) (tagged : TaggedFeature) (rest own others : List ℕ) (fault : TileFault) (whole : Result (List Feature) TileFault) → i < length all → tagged ≡ get_or all i tagged → own ≡ take tagged.count rest → others ≡ drop tagged.count rest → feature_of keys values (tagged_seen tagged own) ≡ Err fault → features_of keys values done (tagged_all (drop i all) rest) ≡ whole → whole ≡ Err fault
features_refused keys values done all i tagged rest own others fault whole below is owned left e so_far =
    sym so_far ∙ front_of keys values done all i tagged rest own others below is owned left ∙ ap (λ (r : Result Feature TileFault). r then λ f. features_of keys values (done ++ f ∷ []) (tagged_all (drop (i + 1) all) others)) e
