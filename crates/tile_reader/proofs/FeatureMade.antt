-- What looked-up tags make of a feature.
use Rattle.std.proofs.Common.{◌≡◌, ℕ, zero, suc, ◌%◌, ◌<◌, List, [], ◌∷◌, refl, ap, ◌∙◌, subst, arith, length, Bool, true, false}
use Rattle.std.specs.Prelude.{Option, Some, None, option_map, Ok, Err, if◌then◌else◌, nat_eq, slice_index_or}
use Rattle.std.proofs.lemmas.Bool.Decides.{Decides-eqb}
use Rattle.prop_values.specs.Data.{Data}
use Rattle.prop_values.specs.Keys.{HasDistinctKeys}
use Rattle.tile_reader.specs.declared.fault.TileKind.TheVariants.{TagIndex, OddTags}
use Rattle.tile_reader.specs.Read.{refused}
use Rattle.tile_reader.specs.Feature.{Tagged}
use Rattle.tile_reader.specs.Properties.{named, put_all, with_pairs, feature_of}
use Rattle.tile_reader.specs.Lookup.{AreInside, IndicesWithin}
use Rattle.tile_reader.proofs.Pairs.{distinct_all}

pub within_each : (firsts : List ℕ) (keys n : ℕ) (pairs : List (ℕ × ℕ)) → length firsts ≡ keys → AreInside firsts n pairs → (i : ℕ) → i < length pairs → IndicesWithin keys n (slice_index_or pairs i (0, 0))
within_each firsts keys n [] long inside i below = absurd (omega arith)
within_each firsts keys n (pair ∷ pairs) long inside zero below = (omega (arith, inside.0), inside.2)
within_each firsts keys n (pair ∷ pairs) long inside (suc i) below = within_each firsts keys n pairs long inside.3 i (omega arith)

-- what a list was made into
some_of : (o : Option (List (List ℕ × Data))) (all : List (List ℕ × Data)) → option_map (put_all []) o ≡ Some all → HasDistinctKeys all
some_of None all e = absurd (cc)
some_of (Some pairs) all e = let same : put_all [] pairs ≡ all = cc in subst HasDistinctKeys same (distinct_all [] pairs tt)

pub distinct_chosen : (keys : List (List ℕ)) (values : List Data) (tags : List ℕ) (all : List (List ℕ × Data)) → option_map (put_all []) (named keys values tags) ≡ Some all → HasDistinctKeys all
distinct_chosen keys values tags all e = some_of (named keys values tags) all e

made_of : (tagged : Tagged) (o : Option (List (List ℕ × Data))) (all : List (List ℕ × Data)) → option_map (put_all []) o ≡ Some all → with_pairs tagged o ≡ Ok (record { id = tagged.id; shape = tagged.shape; properties = all })
made_of tagged None all e = absurd (cc)
made_of tagged (Some pairs) all e = let same : put_all [] pairs ≡ all = cc in ap (λ (ps : List (List ℕ × Data)). Ok (record { id = tagged.id; shape = tagged.shape; properties = ps })) same

none_of : (tagged : Tagged) (o : Option (List (List ℕ × Data))) → option_map (put_all []) o ≡ None → with_pairs tagged o ≡ Err (record { kind = TagIndex; at = tagged.at })
none_of tagged None e = refl
none_of tagged (Some pairs) e = absurd (cc)

is_even : (n : ℕ) (t : Bool) → nat_eq n 1 ≡ t → (n ≡ 1 → ⊥) → t ≡ false
is_even n true e even = absurd (even ((Decides-eqb n 1).0 e))
is_even n false e even = refl

-- an even number of tags goes by what they name
even_tags : (keys : List (List ℕ)) (values : List Data) (tagged : Tagged) → (length tagged.tags % 2 ≡ 1 → ⊥) → feature_of keys values tagged ≡ with_pairs tagged (named keys values tagged.tags)
even_tags keys values tagged even =
    ap (λ (t : Bool). if t then refused OddTags tagged.at else with_pairs tagged (named keys values tagged.tags)) (is_even (length tagged.tags % 2) (nat_eq (length tagged.tags % 2) 1) refl even)

pub feature_made : (keys : List (List ℕ)) (values : List Data) (tagged : Tagged) (all : List (List ℕ × Data)) → (length tagged.tags % 2 ≡ 1 → ⊥) → option_map (put_all []) (named keys values tagged.tags) ≡ Some all → feature_of keys values tagged ≡ Ok (record { id = tagged.id; shape = tagged.shape; properties = all })
feature_made keys values tagged all even e = even_tags keys values tagged even ∙ made_of tagged (named keys values tagged.tags) all e

pub feature_no_index : (keys : List (List ℕ)) (values : List Data) (tagged : Tagged) → (length tagged.tags % 2 ≡ 1 → ⊥) → option_map (put_all []) (named keys values tagged.tags) ≡ None → feature_of keys values tagged ≡ Err (record { kind = TagIndex; at = tagged.at })
feature_no_index keys values tagged even e = even_tags keys values tagged even ∙ none_of tagged (named keys values tagged.tags) e

pub feature_odd : (keys : List (List ℕ)) (values : List Data) (tagged : Tagged) → length tagged.tags % 2 ≡ 1 → feature_of keys values tagged ≡ Err (record { kind = OddTags; at = tagged.at })
feature_odd keys values tagged odd =
    ap (λ (t : Bool). if t then refused OddTags tagged.at else with_pairs tagged (named keys values tagged.tags)) ((Decides-eqb (length tagged.tags % 2) 1).1 odd)

-- what a test says of a choice
pub if_known : {Y : Type 0} (o : Option Y) (known : Bool) (y : Y) → o ≡ (if known then Some y else None) → known ≡ true → o ≡ Some y
if_known {Y} o known y e is = e ∙ ap (λ (t : Bool). if t then Some y else None) is

pub if_not_known : {Y : Type 0} (o : Option Y) (known : Bool) (y : Y) → o ≡ (if known then Some y else None) → known ≡ false → o ≡ None
if_not_known {Y} o known y e is = e ∙ ap (λ (t : Bool). if t then Some y else None) is
