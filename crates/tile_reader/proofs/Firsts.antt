-- One turn of the loop that numbers texts by their first places.
use Rattle.std.proofs.Common.{◌≡◌, ℕ, ◌+◌, ◌<◌, inl, inr, List, [], ◌∷◌, ◌++◌, refl, sym, ap, ◌∙◌, subst, arith, length, take, drop, Bool, true, false, cond, Bor, below_more, get_or}
use Rattle.std.specs.Prelude.{Option, Some, None, if◌then◌else◌, slice_index, slice_index_or}
use Rattle.std.specs.Str.{bytes_eq}
use Rattle.std.specs.BTreeMap.{BTreeMap}
use Rattle.std.proofs.lemmas.List.{take_more, take-append-drop, get_or-map}
use Rattle.std.proofs.lemmas.Slice.Eq.{bytes_eq-Decides}
use Rattle.std.proofs.Math.ListN.{get_or-append}
use Rattle.std.proofs.Math.Seq.{get_or-append_seam}
use Rattle.tile_reader.specs.Lookup.{text_place, NotesFirst, AreTextPlaces}
use Rattle.tile_reader.specs.View.{texts_seen}
use Rattle.tile_reader.proofs.TextPlaces.{place_stays, place_new}

same_text : (a b : List ℕ) → bytes_eq a b ≡ true → a ≡ b
same_text a b e = (bytes_eq-Decides a b).0 e

differs : (a b : List ℕ) (t : Bool) → bytes_eq a b ≡ false → bytes_eq b a ≡ t → t ≡ false
differs a b true e is = let yes : bytes_eq a b ≡ true = (bytes_eq-Decides a b).1 (sym (same_text b a is)) in absurd (cc)
differs a b false e is = refl

-- a text that occurred before moves no place
known_at : (text q : List ℕ) (front : List (List ℕ)) (first : ℕ) (o : Option ℕ) (t : Bool) → text_place text front ≡ Some first → text_place q front ≡ o → bytes_eq q text ≡ t → text_place q (front ++ text ∷ []) ≡ o
known_at text q front first (Some j) t there is test = place_stays q front (text ∷ []) j is
known_at text q front first None false there is test = place_new q text front is ∙ ap (λ (b : Bool). if b then Some (length front) else None) test
known_at text q front first None true there is test =
    let gone : text_place text front ≡ None = ap (λ (x : List ℕ). text_place x front) (sym (same_text q text test)) ∙ is in absurd (cc)

-- a new text is at the end
added_at : (text q : List ℕ) (front : List (List ℕ)) (o : Option ℕ) (t : Bool) → text_place text front ≡ None → text_place q front ≡ o → bytes_eq text q ≡ t → text_place q (front ++ text ∷ []) ≡ cond t (Some (length front)) o
added_at text q front o true none is test =
    let same : text ≡ q = same_text text q test in
    let q_none : text_place q front ≡ None = ap (λ (x : List ℕ). text_place x front) (sym same) ∙ none in
    place_new q text front q_none ∙ ap (λ (b : Bool). if b then Some (length front) else None) ((bytes_eq-Decides q text).1 (sym same))
added_at text q front (Some j) false none is test = place_stays q front (text ∷ []) j is
added_at text q front None false none is test = place_new q text front is ∙ ap (λ (b : Bool). if b then Some (length front) else None) (differs text q (bytes_eq q text) test refl)

-- what is found among the first texts is found among all
among_all : (text : List ℕ) (texts : List (List ℕ)) (n place : ℕ) → text_place text (take n texts) ≡ Some place → text_place text texts ≡ Some place
among_all text texts n place e =
    subst (λ (all : List (List ℕ)). text_place text all ≡ Some place) (take-append-drop n texts) (place_stays text (take n texts) (drop n texts) place e)

pub firsts_more : (old new : BTreeMap (Bor (List ℕ)) ℕ) (texts : List (List ℕ)) (i first : ℕ) → i < length texts → length (take i texts) ≡ i → AreTextPlaces old (take i texts) → NotesFirst old new (slice_index_or texts i []) i first → AreTextPlaces new (take (i + 1) texts) × (text_place (slice_index_or texts i []) texts ≡ Some first)
firsts_more old new texts i first below long are (inl (found, same)) =
    let text : List ℕ = slice_index_or texts i [] in
    let there : text_place text (take i texts) ≡ Some first = sym (are text) ∙ found in
    let more : take (i + 1) texts ≡ take i texts ++ text ∷ [] = take_more texts i [] below in
    (λ q. same q ∙ are q ∙ sym (known_at text q (take i texts) first (text_place q (take i texts)) (bytes_eq q text) there refl refl) ∙ ap (text_place q) (sym more), among_all text texts i first there)
firsts_more old new texts i first below long are (inr (none, is, updates)) =
    let text : List ℕ = slice_index_or texts i [] in
    let gone : text_place text (take i texts) ≡ None = sym (are text) ∙ none in
    let more : take (i + 1) texts ≡ take i texts ++ text ∷ [] = take_more texts i [] below in
    let at_end : (q : List ℕ) → text_place q (take (i + 1) texts) ≡ cond (bytes_eq text q) (Some i) (text_place q (take i texts)) =
    λ q. ap (text_place q) more ∙ added_at text q (take i texts) (text_place q (take i texts)) (bytes_eq text q) gone refl refl ∙ ap (λ (n : ℕ). cond (bytes_eq text q) (Some n) (text_place q (take i texts))) long in (
      λ q. updates q ∙ ap (cond (bytes_eq text q) (Some i)) (are q) ∙ sym (at_end q),
      among_all text texts (i + 1) first (at_end text ∙ ap (λ (b : Bool). cond b (Some i) (text_place text (take i texts))) ((bytes_eq-Decides text text).1 refl) ∙ ap Some (sym is)),
    )

-- and the numbers so far with one more
pub numbers_more : (numbers : List ℕ) (texts : List (List ℕ)) (i first : ℕ) → length numbers ≡ i → ((j : ℕ) → j < i → text_place (slice_index_or texts j []) texts ≡ Some (slice_index numbers j)) → text_place (slice_index_or texts i []) texts ≡ Some first → (j : ℕ) → j < i + 1 → text_place (slice_index_or texts j []) texts ≡ Some (slice_index (numbers ++ first ∷ []) j)
numbers_more numbers texts i first long before here =
    below_more (λ (j : ℕ). text_place (slice_index_or texts j []) texts ≡ Some (slice_index (numbers ++ first ∷ []) j)) i
    (λ j below. before j below ∙ ap Some (sym (get_or-append numbers (first ∷ []) 0 j (omega arith))))
    (here ∙ ap Some (sym (get_or-append_seam numbers first [] 0)) ∙ ap (λ (n : ℕ). Some (slice_index (numbers ++ first ∷ []) n)) long)

-- the text of a list's item is that item of the texts
pub noted_at : (old new : BTreeMap (Bor (List ℕ)) ℕ) (keys : List (Bor (List ℕ))) (i first : ℕ) (d : Bor (List ℕ)) → i < length keys → NotesFirst old new (get_or keys i d).now i first → NotesFirst old new (slice_index_or (texts_seen keys) i []) i first
noted_at old new keys i first d below noted =
    subst (λ (text : List ℕ). NotesFirst old new text i first) (sym (get_or-map (λ (s : Bor (List ℕ)). s.now) keys i d [] below)) noted
