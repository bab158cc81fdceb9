-- The properties of a feature are made where its format has them.
use Rattle.std.proofs.Common.{◌≡◌, ℕ, zero, suc, ◌%◌, ◌≤◌, List, [], ◌∷◌, ◌++◌, refl, sym, ap, ◌∙◌, subst, append_assoc, arith, length, Bool, true, false}
use Rattle.std.specs.Prelude.{Option, Some, None, Ok, if◌then◌else◌, nat_eq, slice_get}
use Rattle.std.specs.Str.{bytes_eq}
use Rattle.std.proofs.lemmas.List.{append-nil}
use Rattle.std.proofs.lemmas.Slice.Eq.{bytes_eq-Decides}
use Rattle.std.proofs.lemmas.Bool.Decides.{Decides-eqb}
use Rattle.prop_values.specs.Data.{Data}
use Rattle.tile_reader.specs.declared.fault.TileKind.TheVariants.{OddTags}
use Rattle.tile_reader.specs.declared.tile.Shape as shape
use Rattle.tile_reader.specs.declared.tile.Feature.{Feature}
use Rattle.tile_reader.specs.Read.{refused, ◌then◌}
use Rattle.tile_reader.specs.Feature.{Tagged}
use Rattle.tile_reader.specs.Properties.{pair_before, named, put, put_all, with_pairs, feature_of, features_of}
use Rattle.tile_reader.specs.Format.{OneByOne, ArePairs, last_value, without_key, AreProperties}
use Rattle.tile_reader.proofs.Parts.{then_ok, then_is}

abbrev Pair : Type 0
Pair = List ℕ × Data

-- a pair at the front takes the last value of its key, and the others are put after it
abbrev front_pair : Pair → List Pair → Pair
front_pair pair pairs = (pair.0, last_value pair.0 pair.1 pairs)

put_front_at : (pair next : Pair) (earlier pairs : List Pair) (t : Bool) → bytes_eq next.0 pair.0 ≡ t → ((first : Pair) (others : List Pair) → put_all (first ∷ others) pairs ≡ front_pair first pairs ∷ put_all others (without_key first.0 pairs)) → put_all (if t then next ∷ earlier else pair ∷ put next earlier) pairs ≡ (pair.0, (if t then last_value pair.0 next.1 pairs else last_value pair.0 pair.1 pairs)) ∷ put_all earlier (if t then without_key pair.0 pairs else next ∷ without_key pair.0 pairs)
put_front_at pair next earlier pairs true is later =
    let same : next.0 ≡ pair.0 = (bytes_eq-Decides next.0 pair.0).0 is in
    later next earlier ∙ ap (λ (k : List ℕ). (k, last_value k next.1 pairs) ∷ put_all earlier (without_key k pairs)) same
put_front_at pair next earlier pairs false is later = later pair (put next earlier)

put_front : (pairs : List Pair) (pair : Pair) (earlier : List Pair) → put_all (pair ∷ earlier) pairs ≡ front_pair pair pairs ∷ put_all earlier (without_key pair.0 pairs)
put_front [] pair earlier = refl
put_front (next ∷ pairs) pair earlier = put_front_at pair next earlier pairs (bytes_eq next.0 pair.0) refl (λ first others. put_front pairs first others)

shorter_at : (key : List ℕ) (pair : Pair) (pairs : List Pair) (t : Bool) → length (without_key key pairs) ≤ length pairs → length (if t then without_key key pairs else pair ∷ without_key key pairs) ≤ suc (length pairs)
shorter_at key pair pairs true h = omega arith
shorter_at key pair pairs false h = omega arith

shorter : (key : List ℕ) (pairs : List Pair) → length (without_key key pairs) ≤ length pairs
shorter key [] = omega arith
shorter key (pair ∷ pairs) = shorter_at key pair pairs (bytes_eq pair.0 key) (shorter key pairs)

properties_within : (most : ℕ) (pairs : List Pair) → length pairs ≤ most → AreProperties pairs (put_all [] pairs)
properties_within most [] short = tt
properties_within zero (pair ∷ pairs) short = absurd (omega arith)
properties_within (suc most) (pair ∷ pairs) short =
    subst (AreProperties (pair ∷ pairs)) (sym (put_front pairs pair []))
    (refl, properties_within most (without_key pair.0 pairs) (let fewer = shorter pair.0 pairs in omega arith))

pub properties_are : (pairs : List Pair) → AreProperties pairs (put_all [] pairs)
properties_are pairs = properties_within (length pairs) pairs (omega arith)

pub properties_only : (properties pairs : List Pair) → AreProperties pairs properties → put_all [] pairs ≡ properties
properties_only [] [] are = refl
properties_only [] (pair ∷ pairs) are = absurd are
properties_only (property ∷ others) [] are = absurd are
properties_only (property ∷ others) (pair ∷ pairs) (first, are) =
    put_front pairs pair [] ∙ ap (λ (ps : List Pair). front_pair pair pairs ∷ ps) (properties_only others (without_key pair.0 pairs) are) ∙ ap (λ (p : Pair). p ∷ others) (sym first)

-- pairs of tags
before_ok : (key : Option (List ℕ)) (value : Option Data) (others : Option (List Pair)) (pairs : List Pair) → pair_before key value others ≡ Some pairs → (pair : Pair) × (left : List Pair) × (pairs ≡ pair ∷ left) × (key ≡ Some pair.0) × (value ≡ Some pair.1) × (others ≡ Some left)
before_ok None value others pairs e = absurd (cc)
before_ok (Some key) None others pairs e = absurd (cc)
before_ok (Some key) (Some value) None pairs e = absurd (cc)
before_ok (Some key) (Some value) (Some left) pairs e = let same : pairs ≡ (key, value) ∷ left = cc in ((key, value), left, same, refl, refl, refl)

pub named_ok : (keys : List (List ℕ)) (values : List Data) (tags : List ℕ) (pairs : List Pair) → (length tags % 2 ≡ 1 → ⊥) → named keys values tags ≡ Some pairs → ArePairs keys values tags pairs
named_ok keys values [] pairs even e = let none : [] ≡ pairs = cc in subst (ArePairs keys values []) none tt
named_ok keys values (key ∷ []) pairs even e = absurd (even refl)
named_ok keys values (key ∷ (value ∷ tags)) pairs even e =
    let (pair, left, are, key_is, value_is, others) = before_ok (slice_get keys key) (slice_get values value) (named keys values tags) pairs e in
    subst (ArePairs keys values (key ∷ (value ∷ tags))) (sym are) (key_is, value_is, named_ok keys values tags left (λ odd. even (omega arith)) others)

pub named_is : (keys : List (List ℕ)) (values : List Data) (tags : List ℕ) (pairs : List Pair) → ArePairs keys values tags pairs → (named keys values tags ≡ Some pairs) × (length tags % 2 ≡ 0)
named_is keys values [] [] are = (refl, refl)
named_is keys values [] (pair ∷ pairs) are = absurd are
named_is keys values (key ∷ []) [] are = absurd are
named_is keys values (key ∷ []) (pair ∷ pairs) are = absurd are
named_is keys values (key ∷ (value ∷ tags)) [] are = absurd are
named_is keys values (key ∷ (value ∷ tags)) (pair ∷ pairs) (key_is, value_is, are) =
    let (others, even) = named_is keys values tags pairs are in (
      ap (λ (k : Option (List ℕ)). pair_before k (slice_get values value) (named keys values tags)) key_is
          ∙ ap (λ (v : Option Data). pair_before (Some pair.0) v (named keys values tags)) value_is
          ∙ ap (pair_before (Some pair.0) (Some pair.1)) others,
      omega arith,
    )

-- a feature is made
pub record IsMade (keys : List (List ℕ)) (values : List Data) (tagged : Tagged) (feature : Feature) : Type 0 where
  pub pairs : List Pair
  pub are : ArePairs keys values tagged.tags pairs
  pub properties : AreProperties pairs feature.properties
  pub id : feature.id ≡ tagged.id
  pub shape : feature.shape ≡ tagged.shape

with_ok : (keys : List (List ℕ)) (values : List Data) (tagged : Tagged) (o : Option (List Pair)) (feature : Feature) → named keys values tagged.tags ≡ o → (length tagged.tags % 2 ≡ 1 → ⊥) → with_pairs tagged o ≡ Ok feature → IsMade keys values tagged feature
with_ok keys values tagged None feature is even e = absurd (cc)
with_ok keys values tagged (Some pairs) feature is even e =
    let same : ◌≡◌ {A = Feature} (record { id = tagged.id; shape = tagged.shape; properties = put_all [] pairs }) feature = cc in
    record {
      pairs = pairs;
      are = named_ok keys values tagged.tags pairs even is;
      properties = subst (AreProperties pairs) (ap (λ (f : Feature). f.properties) same) (properties_are pairs);
      id = ap (λ (f : Feature). f.id) (sym same);
      shape = ap (λ (f : Feature). f.shape) (sym same);
    }

made_at : (keys : List (List ℕ)) (values : List Data) (tagged : Tagged) (feature : Feature) (t : Bool) → nat_eq (length tagged.tags % 2) 1 ≡ t → (if t then refused OddTags tagged.at else with_pairs tagged (named keys values tagged.tags)) ≡ Ok feature → IsMade keys values tagged feature
made_at keys values tagged feature true is e = absurd (cc)
made_at keys values tagged feature false is e =
    with_ok keys values tagged (named keys values tagged.tags) feature refl (λ odd. let yes : nat_eq (length tagged.tags % 2) 1 ≡ true = (Decides-eqb (length tagged.tags % 2) 1).1 odd in cc) e

pub made_ok : (keys : List (List ℕ)) (values : List Data) (tagged : Tagged) (feature : Feature) → feature_of keys values tagged ≡ Ok feature → IsMade keys values tagged feature
made_ok keys values tagged feature e = made_at keys values tagged feature (nat_eq (length tagged.tags % 2) 1) refl e

pub made_is : (keys : List (List ℕ)) (values : List Data) (tagged : Tagged) (feature : Feature) → IsMade keys values tagged feature → feature_of keys values tagged ≡ Ok feature
made_is keys values tagged feature made =
    let (known, even) = named_is keys values tagged.tags made.pairs made.are in
    ap (λ (n : ℕ). if nat_eq n 1 then refused OddTags tagged.at else with_pairs tagged (named keys values tagged.tags)) even
    ∙ ap (with_pairs tagged) known
    ∙ ap (λ (ps : List Pair). Ok (record { id = tagged.id; shape = tagged.shape; properties = ps })) (properties_only feature.properties made.pairs made.properties)
    ∙ ap (λ (i : Option ℕ). Ok (record { id = i; shape = tagged.shape; properties = feature.properties })) (sym made.id)
    ∙ ap (λ (k : shape.Shape). Ok (record { id = feature.id; shape = k; properties = feature.properties })) (sym made.shape)

-- features one after the other
abbrev pub IsOf : List (List ℕ) → List Data → Tagged → Feature → Type 0
IsOf keys values tagged feature = feature_of keys values tagged ≡ Ok feature

pub features_ok : (keys : List (List ℕ)) (values : List Data) (tagged : List Tagged) (earlier q : List Feature) → features_of keys values earlier tagged ≡ Ok q → (features : List Feature) × OneByOne (IsOf keys values) tagged features × (q ≡ earlier ++ features)
features_ok keys values [] earlier q e = let same : q ≡ earlier = cc in ([], tt, same ∙ sym (append-nil earlier))
features_ok keys values (first ∷ tagged) earlier q e =
    let (feature, made, onward) = then_ok (feature_of keys values first) (λ (f : Feature). features_of keys values (earlier ++ f ∷ []) tagged) q e in
    let (features, are, is) = features_ok keys values tagged (earlier ++ feature ∷ []) q onward in
    (feature ∷ features, (made, are), is ∙ append_assoc earlier (feature ∷ []) features)

pub features_is : (keys : List (List ℕ)) (values : List Data) (tagged : List Tagged) (earlier features : List Feature) → OneByOne (IsOf keys values) tagged features → features_of keys values earlier tagged ≡ Ok (earlier ++ features)
features_is keys values [] earlier [] are = ap Ok (sym (append-nil earlier))
features_is keys values [] earlier (f ∷ features) are = absurd are
features_is keys values (first ∷ tagged) earlier [] are = absurd are
features_is keys values (first ∷ tagged) earlier (feature ∷ features) (made, are) =
    then_is (feature_of keys values first) (λ (f : Feature). features_of keys values (earlier ++ f ∷ []) tagged) feature (earlier ++ (feature ∷ features)) made
    (features_is keys values tagged (earlier ++ feature ∷ []) features are ∙ ap Ok (append_assoc earlier (feature ∷ []) features))
