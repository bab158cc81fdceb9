-- Items of a list between two, from the first item on.
use Rattle.std.proofs.Common.{◌≡◌, ◌≢◌, ◌≤◌, ◌-◌, take, max, ◌∙◌, suc, pos, false, inl, inr, arith, Bool, ℕ, ◌+◌, ◌<◌, ℤ, true, List, [], ◌∷◌, ◌++◌, length, drop, get_or, refl, sym, ap, append_assoc, append-nil, drop-cons, add-one}
use Rattle.std.specs.Prelude.{Result, Ok, Err, Option, Some, None, nat_le, int_le, ◌≤ℤ◌}
use Rattle.std.specs.Result.{is_ok}
use Rattle.std.specs.List.{suffix_len}
use Rattle.std.proofs.lemmas.Bool.{le-leb, and_parts, cases_lt}
use Rattle.std.proofs.lemmas.Int.{ints, by_lt_z}
use Rattle.std.proofs.lemmas.List.{length-map, drop-map, take-map, drop_all}
use Rattle.std.specs.Str.{chars, encode_utf8_all, IsUtf8}
use Rattle.std.proofs.lemmas.Str.{encodes-chars}
use Rattle.std.proofs.lemmas.List.Sums.{suffix_len-le-length}
use Rattle.fixed_num.specs.ColorRange.{IsInRange}
use Rattle.fixed_num.specs.declared.color.Color.{Color}
use Rattle.fixed_num.specs.declared.fixed.Arith.{Arith}
use Rattle.interpolate_fixed.specs.Linear.{linear_of}
use Rattle.prop_values.specs.Data.{Data, null, boolean, number, text, color, list, map, Items, no_items, item, items_of, list_of}
use Rattle.prop_values.specs.declared.value.Value.{Value}
use Rattle.prop_values.specs.declared.fault.EvalFault.{EvalFault}
use Rattle.prop_values.specs.declared.fault.EvalFault.TheVariants.{WrongType}
use Rattle.prop_values.specs.View.{data_of}
use Rattle.prop_values.specs.ViewParts.{items, values_view}
use Rattle.operator_values.specs.Sequences.{first_equal, equal_from, stretch}
use Rattle.operator_values.specs.Evaluated.{Evaluated}
use Rattle.operator_values.specs.Conversions.{is_within, are_parts}
use Rattle.operator_values.specs.Arithmetic.{the_number}
use Rattle.operator_values.specs.Ramps.{and_pair, pairs_in, and_item, items_between, the_list, list_between, number_between}

-- the items that are made, and then those of a list
abbrev pub after : List Data → Evaluated → Evaluated
after done (Ok (list ds)) = Ok (list (items_of (done ++ list_of ds)))
after done (Ok d) = Ok d
after done (Err fault) = Err fault

item_done : (z : Result ℤ Arith) (ds : Result Items EvalFault) (done : List Data) (m : Data) → the_number z ≡ Ok m → after (done ++ m ∷ []) (the_list ds) ≡ after done (the_list (and_item z ds))
item_done (Ok n) (Ok ds) done m k = let same : number n ≡ m = cc in rw (← same) (ap (λ es. Ok (list (items_of es))) (append_assoc done (number n ∷ []) (list_of ds)))
item_done (Ok n) (Err fault) done m k = refl
item_done (Err fault) ds done m k = absurd (cc)

item_faulted : (z : Result ℤ Arith) (ds : Result Items EvalFault) (done : List Data) (fault : EvalFault) → the_number z ≡ Err fault → after done (the_list (and_item z ds)) ≡ Err fault
item_faulted (Ok n) ds done fault k = absurd (cc)
item_faulted (Err f) ds done fault k = cc

pair_done : (x x0 a x1 b : ℤ) (r : Result (List (ℤ × ℤ)) EvalFault) (done : List Data) (m : Data) → is_ok (and_pair a b r) ≡ true → the_number (linear_of x x0 a x1 b) ≡ Ok m
    → (is_ok r ≡ true) × (after (done ++ m ∷ []) (list_between x x0 x1 r) ≡ after done (list_between x x0 x1 (and_pair a b r)))
pair_done x x0 a x1 b (Ok ps) done m h k = (refl, item_done (linear_of x x0 a x1 b) (items_between x x0 x1 ps) done m k)
pair_done x x0 a x1 b (Err fault) done m h k = absurd (cc)

pair_faulted : (x x0 a x1 b : ℤ) (r : Result (List (ℤ × ℤ)) EvalFault) (done : List Data) (fault : EvalFault) → is_ok (and_pair a b r) ≡ true → the_number (linear_of x x0 a x1 b) ≡ Err fault
    → after done (list_between x x0 x1 (and_pair a b r)) ≡ Err fault
pair_faulted x x0 a x1 b (Ok ps) done fault h k = item_faulted (linear_of x x0 a x1 b) (items_between x x0 x1 ps) done fault k
pair_faulted x x0 a x1 b (Err f) done fault h k = absurd (cc)

next_done : (x x0 : ℤ) (d : Data) (x1 : ℤ) (e : Data) (ds es : Items) (done : List Data) (m : Data) → is_ok (pairs_in (item d ds) (item e es)) ≡ true → number_between x x0 d x1 e ≡ Ok m
    → (is_ok (pairs_in ds es) ≡ true) × (after (done ++ m ∷ []) (list_between x x0 x1 (pairs_in ds es)) ≡ after done (list_between x x0 x1 (pairs_in (item d ds) (item e es))))
next_done x x0 (number a) x1 (number b) ds es done m h k = pair_done x x0 a x1 b (pairs_in ds es) done m h k
next_done x x0 (number a) x1 _ ds es done m h k = absurd (cc)
next_done x x0 _ x1 e ds es done m h k = absurd (cc)

next_faulted : (x x0 : ℤ) (d : Data) (x1 : ℤ) (e : Data) (ds es : Items) (done : List Data) (fault : EvalFault) → is_ok (pairs_in (item d ds) (item e es)) ≡ true → number_between x x0 d x1 e ≡ Err fault
    → after done (list_between x x0 x1 (pairs_in (item d ds) (item e es))) ≡ Err fault
next_faulted x x0 (number a) x1 (number b) ds es done fault h k = pair_faulted x x0 a x1 b (pairs_in ds es) done fault h k
next_faulted x x0 (number a) x1 _ ds es done fault h k = absurd (cc)
next_faulted x x0 _ x1 e ds es done fault h k = absurd (cc)

-- lists of different lengths are no pairs
no_more : (a b : Data) (ds es : Items) → is_ok (pairs_in ds es) ≡ false → is_ok (pairs_in (item a ds) (item b es)) ≡ false
no_more (number a) (number b) ds es h = no_pair a b (pairs_in ds es) h
  where
    no_pair : (a b : ℤ) (r : Result (List (ℤ × ℤ)) EvalFault) → is_ok r ≡ false → is_ok (and_pair a b r) ≡ false
    no_pair a b (Ok ps) h = absurd (cc)
    no_pair a b (Err fault) h = refl
no_more (number a) _ ds es h = refl
no_more _ b ds es h = refl

no_list : (d : Data) (ds : Items) → is_ok (pairs_in (item d ds) no_items) ≡ false
no_list (number z) ds = refl
no_list _ ds = refl

pub unequal_lengths : (as_ bs : List Value) → length as_ ≢ length bs → is_ok (pairs_in (items as_) (items bs)) ≡ false
unequal_lengths [] [] h = absurd (h refl)
unequal_lengths [] (y ∷ bs) h = refl
unequal_lengths (x ∷ as_) [] h = no_list (data_of x) (items as_)
unequal_lengths (x ∷ as_) (y ∷ bs) h = no_more (data_of x) (data_of y) (items as_) (items bs) (unequal_lengths as_ bs (λ e. h (ap suc e)))

-- blanks are within their text
pub suffix_within : (p : ℕ → Bool) (bs : List ℕ) → suffix_len p bs ≤ length bs
suffix_within p bs = suffix_len-le-length p bs

is_at_most : (a b : ℤ) → int_le a b ≡ true → a ≤ℤ b
is_at_most a b h = by_lt_z b a (λ past. absurd (let f : int_le a b ≡ false = grind (arith, ints) in cc)) (λ up. up)

part_range : (most z : ℤ) → is_within most z ≡ true → (pos 0 ≤ℤ z) × (z ≤ℤ most)
part_range most z h =
    let (low, high) = and_parts (int_le (pos 0) z) (int_le z most) h in
    (is_at_most (pos 0) z low, is_at_most z most high)

pub parts_in_range : (r g b a : ℤ) → are_parts r g b a ≡ true → IsInRange (record { r = r; g = g; b = b; a = a })
parts_in_range r g b a h =
    let (r_in, rest) = and_parts (is_within (pos 255000000) r) _ h in
    let (g_in, later) = and_parts (is_within (pos 255000000) g) _ rest in
    let (b_in, a_in) = and_parts (is_within (pos 255000000) b) _ later in
    let (r0, r1) = part_range (pos 255000000) r r_in in
    let (g0, g1) = part_range (pos 255000000) g g_in in
    let (b0, b1) = part_range (pos 255000000) b b_in in
    let (a0, a1) = part_range (pos 1000000) a a_in in
    record { red_from = r0; red_to = r1; green_from = g0; green_to = g1; blue_from = b0; blue_to = b1; opacity_from = a0; opacity_to = a1 }

-- a list of items gives the list back
pub list_again : (ds : List Data) → list_of (items_of ds) ≡ ds
list_again [] = refl
list_again (d ∷ ds) = ap (λ es. d ∷ es) (list_again ds)

pub items_length : (vs : List Value) (ds : List Data) → values_view vs ≡ ds → length vs ≡ length (list_of (items_of ds))
items_length vs ds e = rw (← e, list_again (values_view vs), length-map vs data_of) refl

-- a search from a place on
pub equal_after : (needle : Data) (vs : List Value) (from place : ℕ) → from ≤ length vs → Some place ≡ first_equal needle (values_view (drop from vs)) → Some (from + place) ≡ equal_from needle (values_view vs) from
equal_after needle vs from place h e = rw (length-map vs data_of, le-leb from (length vs) h, drop-map data_of from vs, ← e) refl

pub none_after : (needle : Data) (vs : List Value) (from : ℕ) → from ≤ length vs → None ≡ first_equal needle (values_view (drop from vs)) → None ≡ equal_from needle (values_view vs) from
none_after needle vs from h e = rw (length-map vs data_of, le-leb from (length vs) h, drop-map data_of from vs, ← e) refl

-- a text is what its scalar values are written as
pub text_again : (bs cs : List ℕ) → IsUtf8 bs → chars bs ≡ cs → bs ≡ encode_utf8_all cs
text_again bs cs u e = sym (encodes-chars bs u) ∙ ap encode_utf8_all e

-- a stretch of values, viewed
pub stretch_viewed : (from to : ℕ) (vs : List Value) → values_view (take (max from to - from) (drop from vs)) ≡ stretch from to (values_view vs)
stretch_viewed from to vs =
    let same : max from to - from ≡ to - from = omega arith in
    rw same (sym (take-map data_of (to - from) (drop from vs)) ∙ ap (take (to - from)) (sym (drop-map data_of from vs)))

-- what are no pairs is of another form
and_wrong : (a b : ℤ) (r : Result (List (ℤ × ℤ)) EvalFault) → (is_ok r ≡ false → r ≡ Err WrongType) → is_ok (and_pair a b r) ≡ false → and_pair a b r ≡ Err WrongType
and_wrong a b (Ok ps) k h = absurd (cc)
and_wrong a b (Err fault) k h = let e = k refl in cc

no_pairs : (ds es : Items) → is_ok (pairs_in ds es) ≡ false → pairs_in ds es ≡ Err WrongType
no_pairs no_items no_items h = absurd (cc)
no_pairs no_items (item e es) h = refl
no_pairs (item (number a) ds) (item (number b) es) h = and_wrong a b (pairs_in ds es) (no_pairs ds es) h
no_pairs (item (number a) ds) (item _ es) h = refl
no_pairs (item (number a) ds) no_items h = refl
no_pairs (item _ ds) es h = refl

pub wrong_list : (x x0 x1 : ℤ) (ds es : Items) → is_ok (pairs_in ds es) ≡ false → list_between x x0 x1 (pairs_in ds es) ≡ Err WrongType
wrong_list x x0 x1 ds es h = ap (list_between x x0 x1) (no_pairs ds es h)

items_again : (ds : Items) → items_of (list_of ds) ≡ ds
items_again no_items = refl
items_again (item d ds) = ap (item d) (items_again ds)

-- before the first item
pub after_none : (e : Evaluated) → after [] e ≡ e
after_none (Ok (list ds)) = ap (λ es. Ok (list es)) (items_again ds)
after_none (Ok _) = refl
after_none (Err fault) = refl

rest_is : (vs : List Value) (i : ℕ) (v : Value) → i < length vs → v ≡ get_or vs i v → drop i vs ≡ v ∷ drop (i + 1) vs
rest_is vs i v h p = rw (add-one i) (drop-cons vs i v h ∙ ap (λ w. w ∷ drop (suc i) vs) (sym p))

-- one item more
pub goes_on : (x x0 x1 : ℤ) (as_ bs : List Value) (i : ℕ) (a b : Value) (done : List Data) (m : Data) → i < length as_ → i < length bs → a ≡ get_or as_ i a → b ≡ get_or bs i b
    → is_ok (pairs_in (items (drop i as_)) (items (drop i bs))) ≡ true → Ok m ≡ number_between x x0 (data_of a) x1 (data_of b)
    → (is_ok (pairs_in (items (drop (i + 1) as_)) (items (drop (i + 1) bs))) ≡ true) × (after (done ++ m ∷ []) (list_between x x0 x1 (pairs_in (items (drop (i + 1) as_)) (items (drop (i + 1) bs)))) ≡ after done (list_between x x0 x1 (pairs_in (items (drop i as_)) (items (drop i bs)))))
goes_on x x0 x1 as_ bs i a b done m h k p q ok e =
    let ok' = rw (rest_is as_ i a h p, rest_is bs i b k q) at ok in
    let next = next_done x x0 (data_of a) x1 (data_of b) (items (drop (i + 1) as_)) (items (drop (i + 1) bs)) done m ok' (sym e) in
    (next.0, next.1 ∙ ap (λ r. after done (list_between x x0 x1 r)) (sym (ap (λ vs. pairs_in (items vs) (items (drop i bs))) (rest_is as_ i a h p) ∙ ap (λ vs. pairs_in (items (a ∷ drop (i + 1) as_)) (items vs)) (rest_is bs i b k q))))

-- an item's fault
pub stops : (x x0 x1 : ℤ) (as_ bs : List Value) (i : ℕ) (a b : Value) (done : List Data) (fault : EvalFault) → i < length as_ → i < length bs → a ≡ get_or as_ i a → b ≡ get_or bs i b
    → is_ok (pairs_in (items (drop i as_)) (items (drop i bs))) ≡ true → Err fault ≡ number_between x x0 (data_of a) x1 (data_of b)
    → after done (list_between x x0 x1 (pairs_in (items (drop i as_)) (items (drop i bs)))) ≡ Err fault
stops x x0 x1 as_ bs i a b done fault h k p q ok e =
    let ok' = rw (rest_is as_ i a h p, rest_is bs i b k q) at ok in
    ap (λ r. after done (list_between x x0 x1 r)) (ap (λ vs. pairs_in (items vs) (items (drop i bs))) (rest_is as_ i a h p) ∙ ap (λ vs. pairs_in (items (a ∷ drop (i + 1) as_)) (items vs)) (rest_is bs i b k q))
    ∙ next_faulted x x0 (data_of a) x1 (data_of b) (items (drop (i + 1) as_)) (items (drop (i + 1) bs)) done fault ok' (sym e)

-- lists whose rests are pairs go equally far
pub in_second : (as_ bs : List Value) (i : ℕ) (a : Value) → i < length as_ → a ≡ get_or as_ i a → is_ok (pairs_in (items (drop i as_)) (items (drop i bs))) ≡ true → i < length bs
in_second as_ bs i a h p ok = elim (cases_lt i (length bs)) [
  | inl within ↦ within
  | inr past ↦ let ok' = rw (rest_is as_ i a h p, drop_all i bs past) at ok in let none = no_list (data_of a) (items (drop (i + 1) as_)) in absurd (cc)
]
