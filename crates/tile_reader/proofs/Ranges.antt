-- Ranges of pairs, when more pairs follow.
use Rattle.std.proofs.Common.{◌≡◌, ℕ, ◌+◌, suc, Bool, true, false, ◌<◌, ◌≤◌, List, [], ◌∷◌, ◌++◌, refl, sym, ap, ◌∙◌, subst, arith, length, take, drop, get_or, drop-cons, add-one}
use Rattle.std.specs.Prelude.{slice_index_or, Result, Ok}
use Rattle.std.proofs.Math.Seq.{take-length}
use Rattle.std.proofs.lemmas.List.{take-append-le, drop-append-le, length-drop, take-append-drop, length-append, append_assoc, append-nil, drop_all}
use Rattle.prop_values.specs.Data.{Data}
use Rattle.prop_values.specs.Keys.{HasDistinctKeys}
use Rattle.tile_reader.specs.Lookup.{IndicesWithin, pairs_seen}
use Rattle.tile_reader.specs.Ranges.{range, IsRange, AreRanges, feature_in, features_in, count_of_pairs, count_of_ids}
use Rattle.tile_reader.specs.declared.properties.ChosenFeature.{ChosenFeature}
use Rattle.tile_reader.specs.declared.tile.Feature.{Feature}
use Rattle.tile_reader.specs.declared.fault.TileFault.{TileFault}
use Rattle.tile_reader.specs.declared.feature.TaggedFeature.{TaggedFeature}
use Rattle.tile_reader.specs.Ids.{id_seen, own_ids, count_of_id, front_id, after_id}
use Rattle.tile_reader.specs.Properties.{feature_of, features_of}
use Rattle.tile_reader.specs.View.{tagged_seen, tagged_all}
use Rattle.tile_reader.proofs.FeatureLists.{features_more}

-- the pairs that were there before
abbrev pub IsFront : List (ℕ × ℕ) → List (ℕ × ℕ) → Type 0
IsFront old new = take (length old) new ≡ old

front_whole : (old new : List (ℕ × ℕ)) → IsFront old new → old ++ drop (length old) new ≡ new
front_whole old new front = ap (λ (ps : List (ℕ × ℕ)). ps ++ drop (length old) new) (sym front) ∙ take-append-drop (length old) new

range_appended : (old more : List (ℕ × ℕ)) (first count : ℕ) → first + count ≤ length old → range (old ++ more) first count ≡ range old first count
range_appended old more first count within =
    let long = length-drop first old in
    ap (take count) (drop-append-le first old more (omega arith)) ∙ take-append-le count (drop first old) more (omega arith)

-- a range is the same when more pairs follow
pub range_stays : (old new : List (ℕ × ℕ)) (first count : ℕ) → IsFront old new → first + count ≤ length old → range new first count ≡ range old first count
range_stays old new first count front within =
    ap (λ (ps : List (ℕ × ℕ)). range ps first count) (sym (front_whole old new front)) ∙ range_appended old (drop (length old) new) first count within

front_long : (old new : List (ℕ × ℕ)) → IsFront old new → length old ≤ length new
front_long old new front = let whole = ap length (front_whole old new front) in let both = length-append old (drop (length old) new) in omega arith

pub is_range_still : (keys : List (List ℕ)) (values : List Data) (old new : List (ℕ × ℕ)) (first count : ℕ) → IsFront old new → IsRange keys values old first count → IsRange keys values new first count
is_range_still keys values old new first count front is =
    let same : range old first count ≡ range new first count = sym (range_stays old new first count front is.within) in
    let long = front_long old new front in
    let before = is.within in
    record {
      within = omega arith;
      inside = subst (λ (ps : List (ℕ × ℕ)). (i : ℕ) → i < length ps → IndicesWithin (length keys) (length values) (slice_index_or ps i (0, 0))) same is.inside;
      distinct = subst (λ (ps : List (ℕ × ℕ)). HasDistinctKeys (pairs_seen keys values ps)) same is.distinct;
    }

pub are_ranges_still : (keys : List (List ℕ)) (values : List Data) (old new : List (ℕ × ℕ)) (first : ℕ) (chosen : List ChosenFeature) → IsFront old new → AreRanges keys values old first chosen → AreRanges keys values new first chosen
are_ranges_still keys values old new first [] front are = tt
are_ranges_still keys values old new first (c ∷ cs) front are =
    (is_range_still keys values old new first c.count front are.0, are_ranges_still keys values old new (first + c.count) cs front are.1)

-- one more feature, whose pairs go after the others'
pub pairs_more : (chosen : List ChosenFeature) (c : ChosenFeature) → count_of_pairs (chosen ++ c ∷ []) ≡ count_of_pairs chosen + c.count
pairs_more [] c = omega arith
pairs_more (x ∷ chosen) c = let later = pairs_more chosen c in omega arith

pub one_more : (keys : List (List ℕ)) (values : List Data) (pairs : List (ℕ × ℕ)) (first : ℕ) (chosen : List ChosenFeature) (c : ChosenFeature) → AreRanges keys values pairs first chosen → IsRange keys values pairs (first + count_of_pairs chosen) c.count → AreRanges keys values pairs first (chosen ++ c ∷ [])
one_more keys values pairs first [] c are is =
    let at : first + 0 ≡ first = omega arith in
    (subst (λ (n : ℕ). IsRange keys values pairs n c.count) at is, tt)
one_more keys values pairs first (x ∷ chosen) c are is =
    let at : first + (x.count + count_of_pairs chosen) ≡ (first + x.count) + count_of_pairs chosen = omega arith in
    (are.0, one_more keys values pairs (first + x.count) chosen c are.1 (subst (λ (n : ℕ). IsRange keys values pairs n c.count) at is))

-- ids at the front when more ids follow
front_same : (has : Bool) (ids own : List ℕ) → count_of_id has ≤ length ids → front_id has (ids ++ own) ≡ front_id has ids
front_same true [] own there = absurd (omega arith)
front_same true (id ∷ ids) own there = refl
front_same false ids own there = refl

after_same : (has : Bool) (ids own : List ℕ) → count_of_id has ≤ length ids → after_id has (ids ++ own) ≡ after_id has ids ++ own
after_same true [] own there = absurd (omega arith)
after_same true (id ∷ ids) own there = refl
after_same false ids own there = refl

after_long : (has : Bool) (ids : List ℕ) → count_of_id has ≤ length ids → count_of_id has + length (after_id has ids) ≡ length ids
after_long true [] there = absurd (omega arith)
after_long true (id ∷ ids) there = omega arith
after_long false ids there = omega arith

no_ids : (ids : List ℕ) → length ids ≡ 0 → ids ≡ []
no_ids [] e = refl
no_ids (id ∷ ids) e = absurd (omega arith)

pub own_front : (id : ℕ) (has : Bool) → front_id has (own_ids id has) ≡ id_seen id has
own_front id true = refl
own_front id false = refl

pub own_long : (id : ℕ) (has : Bool) → length (own_ids id has) ≡ count_of_id has
own_long id true = refl
own_long id false = refl

pub added_one : (ids new : List ℕ) (id : ℕ) (has : Bool) → has ≡ true → new ≡ ids ++ id ∷ [] → new ≡ ids ++ own_ids id has
added_one ids new id true is added = added
added_one ids new id false is added = absurd (cc)

pub added_none : (ids : List ℕ) (id : ℕ) (has : Bool) → has ≡ false → ids ≡ ids ++ own_ids id has
added_none ids id true is = absurd (cc)
added_none ids id false is = sym (append-nil ids)

pub ids_more : (chosen : List ChosenFeature) (c : ChosenFeature) → count_of_ids (chosen ++ c ∷ []) ≡ count_of_ids chosen + count_of_id c.has_id
ids_more [] c = omega arith
ids_more (x ∷ chosen) c = let later = ids_more chosen c in omega arith

-- one more feature, and those before it keep their properties and ids
pub features_in_more : (keys : List (List ℕ)) (values : List Data) (old new : List (ℕ × ℕ)) (ids own : List ℕ) (first : ℕ) (chosen : List ChosenFeature) (c : ChosenFeature) → IsFront old new → count_of_ids chosen ≡ length ids → AreRanges keys values old first chosen → features_in keys values new (ids ++ own) first (chosen ++ c ∷ []) ≡ features_in keys values old ids first chosen ++ feature_in keys values new own (first + count_of_pairs chosen) c ∷ []
features_in_more keys values old new ids own first [] c front long are =
    let none : ids ≡ [] = no_ids ids (omega arith) in
    let at : first ≡ first + 0 = omega arith in
    ap (λ (is : List ℕ). feature_in keys values new (is ++ own) first c ∷ []) none
    ∙ ap (λ (n : ℕ). feature_in keys values new own n c ∷ []) at
features_in_more keys values old new ids own first (x ∷ chosen) c front long are =
    let there : count_of_id x.has_id ≤ length ids = omega arith in
    let left = after_long x.has_id ids there in
    let same = range_stays old new first x.count front are.0.within in
    let at : (first + x.count) + count_of_pairs chosen ≡ first + (x.count + count_of_pairs chosen) = omega arith in
    let tail : List ℕ → List Feature = λ is. features_in keys values new is (first + x.count) (chosen ++ c ∷ []) in
    (λ i. record { id = front_same x.has_id ids own there i; shape = x.shape; properties = pairs_seen keys values (same i) } ∷ tail (after_same x.has_id ids own there i))
    ∙ ap (λ (fs : List Feature). feature_in keys values old ids first x ∷ fs) (features_in_more keys values old new (after_id x.has_id ids) own (first + x.count) chosen c front (omega arith) are.1)
    ∙ ap (λ (n : ℕ). feature_in keys values old ids first x ∷ (features_in keys values old (after_id x.has_id ids) (first + x.count) chosen ++ feature_in keys values new own n c ∷ [])) at

-- what is left from a place on begins with the feature there
pub chosen_from : (chosen : List ChosenFeature) (i : ℕ) (c : ChosenFeature) → i < length chosen → c ≡ get_or chosen i c → drop i chosen ≡ c ∷ drop (i + 1) chosen
chosen_from chosen i c below is =
    drop-cons chosen i c below ∙ ap (λ (f : ChosenFeature). f ∷ drop (suc i) chosen) (sym is) ∙ ap (λ (n : ℕ). c ∷ drop n chosen) (sym (add-one i))

-- the ranges from a place on
pub ranges_from : (keys : List (List ℕ)) (values : List Data) (pairs : List (ℕ × ℕ)) (first : ℕ) (chosen : List ChosenFeature) (i : ℕ) (c : ChosenFeature) → i < length chosen → c ≡ get_or chosen i c → AreRanges keys values pairs first (drop i chosen) → IsRange keys values pairs first c.count × AreRanges keys values pairs (first + c.count) (drop (i + 1) chosen)
ranges_from keys values pairs first chosen i c below is are = subst (AreRanges keys values pairs first) (chosen_from chosen i c below is) are

-- ---- the pairs that come last

last_of_both : (old more : List (ℕ × ℕ)) → range (old ++ more) (length old) (length more) ≡ more
last_of_both [] more = take-length more
last_of_both (pair ∷ old) more = last_of_both old more

pub last_range : (old new more : List (ℕ × ℕ)) (first count : ℕ) → new ≡ old ++ more → first ≡ length old → count ≡ length more → range new first count ≡ more
last_range old new more first count is at long = (λ i. range (is i) (at i) (long i)) ∙ last_of_both old more

front_of_both : (old more : List (ℕ × ℕ)) → take (length old) (old ++ more) ≡ old
front_of_both [] more = refl
front_of_both (pair ∷ old) more = ap (λ (ps : List (ℕ × ℕ)). pair ∷ ps) (front_of_both old more)

pub is_front : (old new more : List (ℕ × ℕ)) → new ≡ old ++ more → IsFront old new
is_front old new more is = ap (take (length old)) is ∙ front_of_both old more

pub is_last_range : (keys : List (List ℕ)) (values : List Data) (old new more : List (ℕ × ℕ)) (first count n : ℕ) → new ≡ old ++ more → first ≡ length old → count ≡ length more → length values ≡ n → ((i : ℕ) → i < length more → IndicesWithin (length keys) n (slice_index_or more i (0, 0))) → HasDistinctKeys (pairs_seen keys values more) → IsRange keys values new first count
is_last_range keys values old new more first count n is at long many inside distinct =
    let same : more ≡ range new first count = sym (last_range old new more first count is at long) in
    let both = length-append old more in
    let whole = ap length is in
    record {
      within = omega arith;
      inside = subst (λ (ps : List (ℕ × ℕ)). (i : ℕ) → i < length ps → IndicesWithin (length keys) (length values) (slice_index_or ps i (0, 0))) same
          (subst (λ (m : ℕ). (i : ℕ) → i < length more → IndicesWithin (length keys) m (slice_index_or more i (0, 0))) (sym many) inside);
      distinct = subst (λ (ps : List (ℕ × ℕ)). HasDistinctKeys (pairs_seen keys values ps)) same distinct;
    }

-- One turn of the loop that chooses pairs, where `whole` is what all features are.
pub read_more : (keys : List (List ℕ)) (values : List Data) (old new : List (ℕ × ℕ)) (ids more own : List ℕ) (chosen : List ChosenFeature) (c : ChosenFeature) (all : List TaggedFeature) (i : ℕ) (tagged : TaggedFeature) (rest front others : List ℕ) (whole : Result (List Feature) TileFault) → IsFront old new → count_of_pairs chosen ≡ length old → count_of_ids chosen ≡ length ids → more ≡ ids ++ own → AreRanges keys values old 0 chosen → i < length all → tagged ≡ get_or all i tagged → front ≡ take tagged.count rest → others ≡ drop tagged.count rest → feature_of keys values (tagged_seen tagged front) ≡ Ok (feature_in keys values new own (length old) c) → features_of keys values (features_in keys values old ids 0 chosen) (tagged_all (drop i all) rest) ≡ whole → features_of keys values (features_in keys values new more 0 (chosen ++ c ∷ [])) (tagged_all (drop (i + 1) all) others) ≡ whole
read_more keys values old new ids more own chosen c all i tagged rest front others whole same long many added are below is owned left made so_far =
    let at : 0 + count_of_pairs chosen ≡ length old = omega arith in
    ap (λ (fs : List Feature). features_of keys values fs (tagged_all (drop (i + 1) all) others))
    (ap (λ (is : List ℕ). features_in keys values new is 0 (chosen ++ c ∷ [])) added
    ∙ features_in_more keys values old new ids own 0 chosen c same many are
    ∙ ap (λ (n : ℕ). features_in keys values old ids 0 chosen ++ feature_in keys values new own n c ∷ []) at)
    ∙ features_more keys values (features_in keys values old ids 0 chosen) all i tagged rest front others (feature_in keys values new own (length old) c) whole below is owned left made so_far

-- One more of the features whose pairs were chosen, where `whole` is all of them.
pub features_next : (keys : List (List ℕ)) (values : List Data) (pairs : List (ℕ × ℕ)) (ids : List ℕ) (first : ℕ) (chosen : List ChosenFeature) (i : ℕ) (c : ChosenFeature) (features new whole : List Feature) (f : Feature) → i < length chosen → c ≡ get_or chosen i c → new ≡ features ++ f ∷ [] → f ≡ feature_in keys values pairs ids first c → features ++ features_in keys values pairs ids first (drop i chosen) ≡ whole → new ++ features_in keys values pairs (after_id c.has_id ids) (first + c.count) (drop (i + 1) chosen) ≡ whole
features_next keys values pairs ids first chosen i c features new whole f below is more made so_far =
    let others : List Feature = features_in keys values pairs (after_id c.has_id ids) (first + c.count) (drop (i + 1) chosen) in
    ap (λ (fs : List Feature). fs ++ others) more
    ∙ append_assoc features (f ∷ []) others
    ∙ ap (λ (x : Feature). features ++ x ∷ others) made
    ∙ ap (λ (cs : List ChosenFeature). features ++ features_in keys values pairs ids first cs) (sym (chosen_from chosen i c below is))
    ∙ so_far

-- and the end
pub features_done : (keys : List (List ℕ)) (values : List Data) (pairs : List (ℕ × ℕ)) (ids : List ℕ) (first : ℕ) (chosen : List ChosenFeature) (i : ℕ) (features whole : List Feature) → length chosen ≤ i → features ++ features_in keys values pairs ids first (drop i chosen) ≡ whole → features ≡ whole
features_done keys values pairs ids first chosen i features whole past so_far =
    sym (append-nil features) ∙ ap (λ (cs : List ChosenFeature). features ++ features_in keys values pairs ids first cs) (sym (drop_all i chosen past)) ∙ so_far
