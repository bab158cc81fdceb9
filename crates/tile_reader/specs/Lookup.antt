-- How the keys of a layer are numbered so that the properties of a feature compare numbers and no texts.
use Rattle.std.specs.Prelude.{◌≡◌, ℕ, ◌<◌, ◌⊎◌, suc, List, [], ◌∷◌, length, map, Option, Some, None, option_map}
use Rattle.std.specs.Prelude.{if◌then◌else◌, cond, nat_eq, slice_index, slice_index_or}
use Rattle.std.specs.Str.{bytes_eq}
use Rattle.std.specs.Borrow.{Bor}
use Rattle.std.specs.BTreeMap.{BTreeMap, get_by}
use Rattle.std.specs.Ordering.{nat_cmp}
use Rattle.std.specs.Cmp.Lexicographic.{slice_cmp}
use Rattle.prop_values.specs.Data.{Data}
use Rattle.prop_values.specs.Data as held

-- the place of the first of these texts that is this one
abbrev pub text_place : List ℕ → List (List ℕ) → Option ℕ
text_place text [] = None
text_place text (first ∷ texts) = if bytes_eq text first then Some 0 else option_map suc (text_place text texts)

-- each text's number is the place of the first text that equals it
abbrev pub AreFirsts : List ℕ → List (List ℕ) → Type 0
AreFirsts firsts texts =
    (length firsts ≡ length texts)
    × ((i : ℕ) → i < length texts → text_place (slice_index_or texts i []) texts ≡ Some (slice_index firsts i))

-- the pair that two indices are
abbrev pub pair_seen : List (List ℕ) → List Data → ℕ × ℕ → List ℕ × Data
pair_seen keys values pair = (slice_index_or keys pair.0 [], slice_index_or values pair.1 held.null)

-- the pairs
abbrev pub pairs_seen : List (List ℕ) → List Data → List (ℕ × ℕ) → List (List ℕ × Data)
pairs_seen keys values = map (pair_seen keys values)

-- the place of the pair of this key
abbrev pub pair_place : ℕ → List (ℕ × ℕ) → Option ℕ
pair_place key [] = None
pair_place key (pair ∷ pairs) = if nat_eq key pair.0 then Some 0 else option_map suc (pair_place key pairs)

-- a pair in the place of its key, or at the end
abbrev pub put_pair : ℕ × ℕ → List (ℕ × ℕ) → List (ℕ × ℕ)
put_pair pair [] = pair ∷ []
put_pair pair (first ∷ pairs) = if nat_eq pair.0 first.0 then pair ∷ pairs else first ∷ put_pair pair pairs

-- each pair is an index of a key, the first of its text, and an index of a value
abbrev pub AreInside : List ℕ → ℕ → List (ℕ × ℕ) → Type 0
AreInside firsts values [] = Unit {0}
AreInside firsts values (pair ∷ pairs) =
    (pair.0 < length firsts) × (slice_index firsts pair.0 ≡ pair.0) × (pair.1 < values) × AreInside firsts values pairs

-- an index of a key and one of a value
abbrev pub IndicesWithin : ℕ → ℕ → ℕ × ℕ → Type 0
IndicesWithin keys values pair = (pair.0 < keys) × (pair.1 < values)

-- The key of each pair has the place of that pair. Of other keys the places say nothing.
abbrev pub ArePlaces : List ℕ → List (ℕ × ℕ) → Type 0
ArePlaces places pairs = (i : ℕ) → i < length pairs → slice_index places (slice_index_or pairs i (0, 0)).0 ≡ i

-- what such a map has for a text
abbrev pub find_text : {X : Type 0} → BTreeMap (Bor (List ℕ)) X → List ℕ → Option X
find_text places text = get_by (λ (k : Bor (List ℕ)). slice_cmp nat_cmp text k.now) places

-- a map from texts to the places where they are first
abbrev pub AreTextPlaces : BTreeMap (Bor (List ℕ)) ℕ → List (List ℕ) → Type 0
AreTextPlaces places texts = (text : List ℕ) → find_text places text ≡ text_place text texts

-- the place of a text that is known, or this place, which is noted
abbrev pub NotesFirst : BTreeMap (Bor (List ℕ)) ℕ → BTreeMap (Bor (List ℕ)) ℕ → List ℕ → ℕ → ℕ → Type 0
NotesFirst old new text place first =
    ((find_text old text ≡ Some first) × ((q : List ℕ) → find_text new q ≡ find_text old q))
    ⊎ ((find_text old text ≡ None) × (first ≡ place)
    × ((q : List ℕ) → find_text new q ≡ cond (bytes_eq text q) (Some place) (find_text old q)))
