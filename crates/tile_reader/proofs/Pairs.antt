-- Pairs of indices, and the pairs of texts and values that they are.
use Rattle.std.proofs.Common.{◌≡◌, ◌≢◌, ℕ, zero, suc, ◌<◌, List, [], ◌∷◌, refl, sym, ap, ◌∙◌, subst, arith, length, take, get_or, Bool, true, false}
use Rattle.std.specs.Prelude.{if◌then◌else◌, nat_eq, slice_index, slice_index_or}
use Rattle.std.specs.Str.{bytes_eq}
use Rattle.std.proofs.lemmas.Slice.Eq.{bytes_eq-Decides}
use Rattle.std.proofs.lemmas.List.{length-map, get_or-map, take-map, get_or_default}
use Rattle.prop_values.specs.Data.{Data}
use Rattle.prop_values.specs.Keys.{LacksKey, HasDistinctKeys}
use Rattle.tile_reader.specs.Lookup.{AreFirsts, AreInside, put_pair, pair_seen, pairs_seen}
use Rattle.tile_reader.specs.Properties.{put, put_all}
use Rattle.tile_reader.proofs.TextPlaces.{same_texts}

-- a pair is put among pairs of indices as it is among what they are
seen_at : (keys : List (List ℕ)) (values : List Data) (pair first : ℕ × ℕ) (pairs : List (ℕ × ℕ)) (t : Bool) → put (pair_seen keys values pair) (pairs_seen keys values pairs) ≡ pairs_seen keys values (put_pair pair pairs) → (if t then pair_seen keys values pair ∷ pairs_seen keys values pairs else pair_seen keys values first ∷ put (pair_seen keys values pair) (pairs_seen keys values pairs)) ≡ pairs_seen keys values (if t then pair ∷ pairs else first ∷ put_pair pair pairs)
seen_at keys values pair first pairs true later = refl
seen_at keys values pair first pairs false later = ap (λ (ps : List (List ℕ × Data)). pair_seen keys values first ∷ ps) later

pub put_seen : (firsts : List ℕ) (keys : List (List ℕ)) (values : List Data) (pair : ℕ × ℕ) (pairs : List (ℕ × ℕ)) (n : ℕ) → AreFirsts firsts keys → pair.0 < length keys → slice_index firsts pair.0 ≡ pair.0 → AreInside firsts n pairs → put (pair_seen keys values pair) (pairs_seen keys values pairs) ≡ pairs_seen keys values (put_pair pair pairs)
put_seen firsts keys values pair [] n are below first inside = refl
put_seen firsts keys values pair (other ∷ pairs) n are below first inside =
    let long = are.0 in
    let other_below : other.0 < length keys = omega (arith, inside.0) in
    let tests : nat_eq pair.0 other.0 ≡ bytes_eq (slice_index_or keys pair.0 []) (slice_index_or keys other.0 []) = same_texts firsts keys pair.0 other.0 are below other_below first inside.1 in
    ap (λ (b : Bool). if b then pair_seen keys values pair ∷ pairs_seen keys values pairs else pair_seen keys values other ∷ put (pair_seen keys values pair) (pairs_seen keys values pairs)) (sym tests)
    ∙ seen_at keys values pair other pairs (nat_eq pair.0 other.0) (put_seen firsts keys values pair pairs n are below first inside.3)

-- a pair that is put is inside, as the others
inside_at : (firsts : List ℕ) (n : ℕ) (pair first : ℕ × ℕ) (pairs : List (ℕ × ℕ)) (t : Bool) → AreInside firsts n (pair ∷ []) → AreInside firsts n (first ∷ pairs) → AreInside firsts n (put_pair pair pairs) → AreInside firsts n (if t then pair ∷ pairs else first ∷ put_pair pair pairs)
inside_at firsts n pair first pairs true one all later = (one.0, one.1, one.2, all.3)
inside_at firsts n pair first pairs false one all later = (all.0, all.1, all.2, later)

pub put_inside : (firsts : List ℕ) (n : ℕ) (pair : ℕ × ℕ) (pairs : List (ℕ × ℕ)) → AreInside firsts n (pair ∷ []) → AreInside firsts n pairs → AreInside firsts n (put_pair pair pairs)
put_inside firsts n pair [] one all = one
put_inside firsts n pair (first ∷ pairs) one all = inside_at firsts n pair first pairs (nat_eq pair.0 first.0) one all (put_inside firsts n pair pairs one all.3)

-- keys stay distinct
lacks_at : (key : List ℕ) (pair first : List ℕ × Data) (pairs : List (List ℕ × Data)) (t : Bool) → pair.0 ≢ key → first.0 ≢ key → LacksKey key pairs → LacksKey key (put pair pairs) → LacksKey key (if t then pair ∷ pairs else first ∷ put pair pairs)
lacks_at key pair first pairs true new other lacks later = (new, lacks)
lacks_at key pair first pairs false new other lacks later = (other, later)

lacks_put : (key : List ℕ) (pair : List ℕ × Data) (pairs : List (List ℕ × Data)) → pair.0 ≢ key → LacksKey key pairs → LacksKey key (put pair pairs)
lacks_put key pair [] new lacks = (new, tt)
lacks_put key pair (first ∷ pairs) new lacks = lacks_at key pair first pairs (bytes_eq pair.0 first.0) new lacks.0 lacks.1 (lacks_put key pair pairs new lacks.1)

distinct_at : (pair first : List ℕ × Data) (pairs : List (List ℕ × Data)) (t : Bool) → bytes_eq pair.0 first.0 ≡ t → LacksKey first.0 pairs → HasDistinctKeys pairs → HasDistinctKeys (put pair pairs) → HasDistinctKeys (if t then pair ∷ pairs else first ∷ put pair pairs)
distinct_at pair first pairs true is lacks distinct later = (subst (λ (key : List ℕ). LacksKey key pairs) (sym ((bytes_eq-Decides pair.0 first.0).0 is)) lacks, distinct)
distinct_at pair first pairs false is lacks distinct later =
    (lacks_put first.0 pair pairs (λ e. let yes : bytes_eq pair.0 first.0 ≡ true = (bytes_eq-Decides pair.0 first.0).1 e in cc) lacks, later)

distinct_put : (pair : List ℕ × Data) (pairs : List (List ℕ × Data)) → HasDistinctKeys pairs → HasDistinctKeys (put pair pairs)
distinct_put pair [] distinct = (tt, tt)
distinct_put pair (first ∷ pairs) distinct = distinct_at pair first pairs (bytes_eq pair.0 first.0) refl distinct.0 distinct.1 (distinct_put pair pairs distinct.1)

pub distinct_all : (earlier pairs : List (List ℕ × Data)) → HasDistinctKeys earlier → HasDistinctKeys (put_all earlier pairs)
distinct_all earlier [] distinct = distinct
distinct_all earlier (pair ∷ pairs) distinct = distinct_all (put pair earlier) pairs (distinct_put pair earlier distinct)

-- the pairs before a place lack the key there
absent_at : (key : List ℕ) (pairs : List (List ℕ × Data)) (i : ℕ) (d : List ℕ × Data) → LacksKey key pairs → i < length pairs → key ≢ (get_or pairs i d).0
absent_at key [] i d lacks below = absurd (omega arith)
absent_at key (first ∷ pairs) zero d lacks below = λ e. lacks.0 (sym e)
absent_at key (first ∷ pairs) (suc i) d lacks below = absent_at key pairs i d lacks.1 (omega arith)

pub lacks_before : (pairs : List (List ℕ × Data)) (i : ℕ) (d : List ℕ × Data) → HasDistinctKeys pairs → i < length pairs → LacksKey (get_or pairs i d).0 (take i pairs)
lacks_before [] i d distinct below = absurd (omega arith)
lacks_before (first ∷ pairs) zero d distinct below = tt
lacks_before (first ∷ pairs) (suc i) d distinct below = (absent_at first.0 pairs i d distinct.0 (omega arith), lacks_before pairs i d distinct.1 (omega arith))

-- the key of a pair is not among the entries before it
pub entries_lack : (keys : List (List ℕ)) (values : List Data) (chosen : List (ℕ × ℕ)) (i : ℕ) (d : ℕ × ℕ) (e : List ℕ) (entries : List (List ℕ × Data)) (text : List ℕ) → HasDistinctKeys (pairs_seen keys values chosen) → i < length chosen → (get_or chosen i d).0 < length keys → entries ≡ pairs_seen keys values (take i chosen) → text ≡ get_or keys (get_or chosen i d).0 e → LacksKey text entries
entries_lack keys values chosen i d e entries text distinct below key_below so_far is =
    let all : List (List ℕ × Data) = pairs_seen keys values chosen in
    let long : length all ≡ length chosen = length-map chosen (pair_seen keys values) in
    let lacks = lacks_before all i (pair_seen keys values d) distinct (omega arith) in
    let pair = get_or-map (pair_seen keys values) chosen i d (pair_seen keys values d) below in
    let key : slice_index_or keys (get_or chosen i d).0 [] ≡ get_or keys (get_or chosen i d).0 e = get_or_default keys (get_or chosen i d).0 [] e key_below in
    let same_text : (get_or all i (pair_seen keys values d)).0 ≡ text = ap (λ (p : List ℕ × Data). p.0) pair ∙ key ∙ sym is in
    let same_entries : take i all ≡ entries = take-map (pair_seen keys values) i chosen ∙ sym so_far in
    subst (λ (x : List ℕ). LacksKey x entries) same_text (subst (λ (es : List (List ℕ × Data)). LacksKey (get_or all i (pair_seen keys values d)).0 es) same_entries lacks)
