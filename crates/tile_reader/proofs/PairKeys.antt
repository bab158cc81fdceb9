-- The keys of pairs of indices, and what is at one of them.
use Rattle.std.proofs.Common.{◌≡◌, ℕ, zero, suc, ◌+◌, ◌<◌, List, [], ◌∷◌, refl, sym, ap, ◌∙◌, subst, arith, length, get_or, take}
use Rattle.std.specs.Prelude.{map, Option, Some, None, slice_index_or}
use Rattle.std.proofs.lemmas.List.{length-map, get_or-map, take-map, get_or_default}
use Rattle.key_index.specs.Keys as index
use Rattle.key_index.specs.Keys.{place_from}
use Rattle.key_index.proofs.Keys.{lacks_before}
use Rattle.prop_values.specs.Data.{Data, pairs_of}
use Rattle.prop_values.specs.Data as held
use Rattle.prop_values.specs.Equality.{at_key}
use Rattle.prop_values.specs.Keys.{LacksKey, HasDistinctKeys, keys}
use Rattle.prop_values.specs.View.{data_of}
use Rattle.prop_values.specs.declared.value.Value.{Value}
use Rattle.prop_values.proofs.IndexSteps.{stands, place_none}
use Rattle.prop_values.proofs.KeyLaws.{lacking_from_none, none_at_lacking}
use Rattle.tile_reader.specs.Lookup.{pair_seen, pairs_seen}
use Rattle.tile_reader.specs.Ranges.{pair_keys}

-- the keys of pairs are those of what they are
pub keys_seen : (names : List (List ℕ)) (values : List Data) (pairs : List (ℕ × ℕ)) → keys (pairs_seen names values pairs) ≡ pair_keys names pairs
keys_seen names values [] = refl
keys_seen names values (pair ∷ pairs) = ap (λ (ks : List (List ℕ)). slice_index_or names pair.0 [] ∷ ks) (keys_seen names values pairs)

lacks_key : (key : List ℕ) (ps : List (List ℕ × Data)) → LacksKey key ps → index.LacksKey key (keys ps)
lacks_key key [] h = tt
lacks_key key (p ∷ ps) h = (h.0, lacks_key key ps h.1)

pub distinct_keys : (ps : List (List ℕ × Data)) → HasDistinctKeys ps → index.HasDistinctKeys (keys ps)
distinct_keys [] h = tt
distinct_keys (p ∷ ps) h = (lacks_key p.0 ps h.0, distinct_keys ps h.1)

pair_at : (names : List (List ℕ)) (values : List Data) (pairs : List (ℕ × ℕ)) (k : ℕ) (d : ℕ × ℕ) → get_or (pairs_seen names values pairs) k (pair_seen names values d) ≡ pair_seen names values (get_or pairs k d)
pair_at names values [] k d = refl
pair_at names values (pair ∷ pairs) zero d = refl
pair_at names values (pair ∷ pairs) (suc k) d = pair_at names values pairs k d

-- what is at a key with a place
pub at_place : (names : List (List ℕ)) (values : List Value) (pairs : List (ℕ × ℕ)) (q : List ℕ) (k : ℕ) (v : Value) → place_from 0 q (pair_keys names pairs) ≡ Some k → (get_or pairs k (0, 0)).1 < length values → v ≡ get_or values (get_or pairs k (0, 0)).1 v → at_key q (pairs_of (pairs_seen names (map data_of values) pairs)) ≡ Some (data_of v)
at_place names values pairs q k v place below value =
    let ds : List Data = map data_of values in
    let found = stands 0 q (pairs_seen names ds pairs) k (ap (place_from 0 q) (keys_seen names ds pairs) ∙ place) in
    let at_k : found.offset ≡ k = omega (arith, found.place) in
    found.value (pair_seen names ds (0, 0))
    ∙ ap (λ (x : List ℕ × Data). Some x.1) (pair_at names ds pairs found.offset (0, 0))
    ∙ ap (λ n. Some (pair_seen names ds (get_or pairs n (0, 0))).1) at_k
    ∙ ap (λ (d : Data). Some d) (get_or-map data_of values (get_or pairs k (0, 0)).1 v held.null below)
    ∙ ap (λ (x : Value). Some (data_of x)) (sym value)

-- and the place is one of a pair
pub place_within : (names : List (List ℕ)) (pairs : List (ℕ × ℕ)) (q : List ℕ) (k : ℕ) → place_from 0 q (pair_keys names pairs) ≡ Some k → k < length pairs
place_within names pairs q k place =
    let found = stands 0 q (pairs_seen names [] pairs) k (ap (place_from 0 q) (keys_seen names [] pairs) ∙ place) in
    omega (arith, found.place, found.within, length-map pairs (pair_seen names []))

-- nothing is at a key without a place
pub lacks_without_place : (names : List (List ℕ)) (values : List Data) (pairs : List (ℕ × ℕ)) (q : List ℕ) → place_from 0 q (pair_keys names pairs) ≡ None → LacksKey q (pairs_seen names values pairs)
lacks_without_place names values pairs q none =
    lacking_from_none q (pairs_seen names values pairs) (place_none 0 q (pairs_seen names values pairs) (ap (place_from 0 q) (keys_seen names values pairs) ∙ none))

-- and a key with a place is there
pub there_at_place : (names : List (List ℕ)) (values : List Data) (pairs : List (ℕ × ℕ)) (q : List ℕ) (k : ℕ) → place_from 0 q (pair_keys names pairs) ≡ Some k → LacksKey q (pairs_seen names values pairs) → ⊥
there_at_place names values pairs q k place lacks =
    let found = stands 0 q (pairs_seen names values pairs) k (ap (place_from 0 q) (keys_seen names values pairs) ∙ place) in
    let some = found.value ([], held.null) in
    let none = none_at_lacking q (pairs_seen names values pairs) lacks in
    absurd (cc)

lacks_front : (key : List ℕ) (ks : List (List ℕ)) (i : ℕ) → index.LacksKey key ks → index.LacksKey key (take i ks)
lacks_front key ks zero h = tt
lacks_front key [] (suc i) h = tt
lacks_front key (k ∷ ks) (suc i) h = (h.0, lacks_front key ks i h.1)

pub distinct_front : (ks : List (List ℕ)) (i : ℕ) → index.HasDistinctKeys ks → index.HasDistinctKeys (take i ks)
distinct_front ks zero h = tt
distinct_front [] (suc i) h = tt
distinct_front (k ∷ ks) (suc i) h = (lacks_front k ks i h.0, distinct_front ks i h.1)

-- the key of a pair is not among the keys before it
pub key_lacks : (names : List (List ℕ)) (pairs : List (ℕ × ℕ)) (i : ℕ) (d : ℕ × ℕ) (e text : List ℕ) → index.HasDistinctKeys (pair_keys names pairs) → i < length pairs → (get_or pairs i d).0 < length names → text ≡ get_or names (get_or pairs i d).0 e → index.LacksKey text (pair_keys names (take i pairs))
key_lacks names pairs i d e text distinct below key_below is =
    let key_of : ℕ × ℕ → List ℕ = λ pair. slice_index_or names pair.0 [] in
    let long : length (pair_keys names pairs) ≡ length pairs = length-map pairs key_of in
    let lacks = lacks_before (pair_keys names pairs) i [] distinct (omega arith) in
    let same_text : get_or (pair_keys names pairs) i [] ≡ text = get_or-map key_of pairs i d [] below ∙ get_or_default names (get_or pairs i d).0 [] e key_below ∙ sym is in
    subst (λ (x : List ℕ). index.LacksKey x (pair_keys names (take i pairs))) same_text
    (subst (λ (ks : List (List ℕ)). index.LacksKey (get_or (pair_keys names pairs) i []) ks) (take-map key_of i pairs) lacks)

pub distinct_so_far : (names : List (List ℕ)) (pairs : List (ℕ × ℕ)) (i : ℕ) → index.HasDistinctKeys (pair_keys names pairs) → index.HasDistinctKeys (pair_keys names (take i pairs))
distinct_so_far names pairs i distinct =
    subst index.HasDistinctKeys (take-map (λ (pair : ℕ × ℕ). slice_index_or names pair.0 []) i pairs) (distinct_front (pair_keys names pairs) i distinct)

pub distinct_pairs : (names : List (List ℕ)) (values : List Data) (pairs : List (ℕ × ℕ)) → HasDistinctKeys (pairs_seen names values pairs) → index.HasDistinctKeys (pair_keys names pairs)
distinct_pairs names values pairs distinct = subst index.HasDistinctKeys (keys_seen names values pairs) (distinct_keys (pairs_seen names values pairs) distinct)

pub nothing_at : (names : List (List ℕ)) (values : List Data) (pairs : List (ℕ × ℕ)) (q : List ℕ) → place_from 0 q (pair_keys names pairs) ≡ None → at_key q (pairs_of (pairs_seen names values pairs)) ≡ None
nothing_at names values pairs q none = place_none 0 q (pairs_seen names values pairs) (ap (place_from 0 q) (keys_seen names values pairs) ∙ none)
