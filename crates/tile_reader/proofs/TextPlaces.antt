-- Texts by the place of the first that equals them.
use Rattle.std.proofs.Common.{◌≡◌, ℕ, zero, suc, ◌<◌, List, [], ◌∷◌, ◌++◌, refl, sym, ap, ◌∙◌, arith, length, Bool, true, false}
use Rattle.std.specs.Prelude.{Some, None, option_map, if◌then◌else◌, nat_eq, slice_index, slice_index_or}
use Rattle.std.specs.Str.{bytes_eq}
use Rattle.std.proofs.lemmas.Slice.Eq.{bytes_eq-Decides}
use Rattle.std.proofs.lemmas.Bool.Decides.{Decides-eqb, same_from_decides}
use Rattle.tile_reader.specs.Lookup.{text_place, AreFirsts}
use Rattle.tile_reader.proofs.Places.{some_is, suc_some, suc_none, suc_zero}

-- the text at a place is the text that was looked for
holds_at : (text first : List ℕ) (texts : List (List ℕ)) (t : Bool) (i : ℕ) → bytes_eq text first ≡ t → ((j : ℕ) → text_place text texts ≡ Some j → (j < length texts) × (slice_index_or texts j [] ≡ text)) → (if t then Some 0 else option_map suc (text_place text texts)) ≡ Some i → (i < suc (length texts)) × (slice_index_or (first ∷ texts) i [] ≡ text)
holds_at text first texts true zero is later e = (omega arith, sym ((bytes_eq-Decides text first).0 is))
holds_at text first texts true (suc i) is later e = let q : zero ≡ suc i = some_is zero (suc i) e in absurd (omega arith)
holds_at text first texts false zero is later e = absurd (suc_zero (text_place text texts) e)
holds_at text first texts false (suc i) is later e = let (below, same) = later i (suc_some (text_place text texts) i e) in (omega arith, same)

pub place_holds : (text : List ℕ) (texts : List (List ℕ)) (i : ℕ) → text_place text texts ≡ Some i → (i < length texts) × (slice_index_or texts i [] ≡ text)
place_holds text [] i e = absurd (cc)
place_holds text (first ∷ texts) i e = holds_at text first texts (bytes_eq text first) i refl (place_holds text texts) e

-- a place among the first texts stays
stays_at : (text : List ℕ) (texts more : List (List ℕ)) (t : Bool) (i : ℕ) → ((j : ℕ) → text_place text texts ≡ Some j → text_place text (texts ++ more) ≡ Some j) → (if t then Some 0 else option_map suc (text_place text texts)) ≡ Some i → (if t then Some 0 else option_map suc (text_place text (texts ++ more))) ≡ Some i
stays_at text texts more true i later e = e
stays_at text texts more false zero later e = absurd (suc_zero (text_place text texts) e)
stays_at text texts more false (suc i) later e = ap (option_map suc) (later i (suc_some (text_place text texts) i e))

pub place_stays : (text : List ℕ) (texts more : List (List ℕ)) (i : ℕ) → text_place text texts ≡ Some i → text_place text (texts ++ more) ≡ Some i
place_stays text [] more i e = absurd (cc)
place_stays text (first ∷ texts) more i e = stays_at text texts more (bytes_eq text first) i (place_stays text texts more) e

none_after : (text : List ℕ) (texts : List (List ℕ)) (t : Bool) → (if t then Some 0 else option_map suc (text_place text texts)) ≡ None → (t ≡ false) × (text_place text texts ≡ None)
none_after text texts true e = absurd (cc)
none_after text texts false e = (refl, suc_none (text_place text texts) e)

pub place_new : (text last : List ℕ) (texts : List (List ℕ)) → text_place text texts ≡ None → text_place text (texts ++ last ∷ []) ≡ (if bytes_eq text last then Some (length texts) else None)
place_new text last [] none = refl
place_new text last (first ∷ texts) none =
    let (differs, later) = none_after text texts (bytes_eq text first) none in
    ap (λ (b : Bool). if b then Some 0 else option_map suc (text_place text (texts ++ last ∷ []))) differs ∙ ap (option_map suc) (place_new text last texts later) ∙ moved (bytes_eq text last)
  where
    moved : (b : Bool) → option_map suc (if b then Some (length texts) else None) ≡ (if b then Some (suc (length texts)) else None)
    moved true = refl
    moved false = refl

-- the number of a text is its own first place, and has that text
pub first_again : (firsts : List ℕ) (texts : List (List ℕ)) (i : ℕ) → AreFirsts firsts texts → i < length texts → (slice_index firsts i < length texts) × (slice_index_or texts (slice_index firsts i) [] ≡ slice_index_or texts i []) × (slice_index firsts (slice_index firsts i) ≡ slice_index firsts i)
first_again firsts texts i (long, are) below =
    let (inside, same) = place_holds (slice_index_or texts i []) texts (slice_index firsts i) (are i below) in
    let again = are (slice_index firsts i) inside in
    (inside, same, some_is (slice_index firsts (slice_index firsts i)) (slice_index firsts i) (sym again ∙ ap (λ (t : List ℕ). text_place t texts) same ∙ are i below))

-- two numbers that are their own first places are equal exactly where their texts are
pub same_texts : (firsts : List ℕ) (texts : List (List ℕ)) (i j : ℕ) → AreFirsts firsts texts → i < length texts → j < length texts → slice_index firsts i ≡ i → slice_index firsts j ≡ j → nat_eq i j ≡ bytes_eq (slice_index_or texts i []) (slice_index_or texts j [])
same_texts firsts texts i j (long, are) i_below j_below i_first j_first =
    let one : text_place (slice_index_or texts i []) texts ≡ Some i = are i i_below ∙ ap Some i_first in
    let other : text_place (slice_index_or texts j []) texts ≡ Some j = are j j_below ∙ ap Some j_first in
    let texts_equal = bytes_eq-Decides (slice_index_or texts i []) (slice_index_or texts j []) in
    same_from_decides {P = i ≡ j} (nat_eq i j) (bytes_eq (slice_index_or texts i []) (slice_index_or texts j [])) (Decides-eqb i j) (
      λ e. some_is i j (sym one ∙ ap (λ (t : List ℕ). text_place t texts) (texts_equal.0 e) ∙ other),
      λ e. texts_equal.1 (ap (λ (n : ℕ). slice_index_or texts n []) e),
    )
