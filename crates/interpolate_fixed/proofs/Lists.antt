-- Lists between the ends of a line, from the first item on.
use Rattle.std.proofs.Common.{◌≡◌, ℕ, ◌+◌, ◌<◌, ℤ, pos, List, [], ◌∷◌, ◌++◌, length, drop, get_or, refl, sym, ap, ◌∙◌, append_assoc, append-nil, drop-cons, add-one}
use Rattle.std.specs.Prelude.{Result, Ok, Err}
use Rattle.fixed_num.specs.declared.fixed.Arith.{Arith}
use Rattle.interpolate_fixed.specs.Linear.{linear_of}
use Rattle.interpolate_fixed.specs.LinearLists.{with_first, list_of}

-- items before those of an answer
abbrev pub after_items : List ℤ → Result (List ℤ) Arith → Result (List ℤ) Arith
after_items done (Ok items) = Ok (done ++ items)
after_items done (Err fault) = Err fault

after_none : (r : Result (List ℤ) Arith) → after_items [] r ≡ r
after_none (Ok items) = refl
after_none (Err fault) = refl

-- before the first item
pub list_begins : (x x0 : ℤ) (as_ : List ℤ) (x1 : ℤ) (bs : List ℤ) → list_of x x0 as_ x1 bs ≡ after_items [] (list_of x x0 (drop 0 as_) x1 (drop 0 bs))
list_begins x x0 as_ x1 bs = sym (after_none (list_of x x0 as_ x1 bs))

first_done : (done : List ℤ) (item : ℤ) (rest : Result (List ℤ) Arith) → after_items done (with_first (Ok item) rest) ≡ after_items (done ++ item ∷ []) rest
first_done done item (Ok items) = ap Ok (sym (append_assoc done (item ∷ []) items))
first_done done item (Err fault) = refl

-- the answer for what is left, by the next item of each list
next_items : (x x0 : ℤ) (as_ : List ℤ) (x1 : ℤ) (bs : List ℤ) (i : ℕ) → i < length as_ → i < length bs → list_of x x0 (drop i as_) x1 (drop i bs) ≡ with_first (linear_of x x0 (get_or as_ i (pos 0)) x1 (get_or bs i (pos 0))) (list_of x x0 (drop (i + 1) as_) x1 (drop (i + 1) bs))
unfolding list_of
next_items x x0 as_ x1 bs i h k = rw (add-one i, drop-cons as_ i (pos 0) h, drop-cons bs i (pos 0) k) refl

-- one item more
pub list_goes_on : (x x0 : ℤ) (as_ : List ℤ) (x1 : ℤ) (bs : List ℤ) (i : ℕ) (done : List ℤ) (item : ℤ) → i < length as_ → i < length bs
    → linear_of x x0 (get_or as_ i (pos 0)) x1 (get_or bs i (pos 0)) ≡ Ok item
    → after_items done (list_of x x0 (drop i as_) x1 (drop i bs)) ≡ after_items (done ++ item ∷ []) (list_of x x0 (drop (i + 1) as_) x1 (drop (i + 1) bs))
list_goes_on x x0 as_ x1 bs i done item h k e =
    ap (after_items done) (next_items x x0 as_ x1 bs i h k ∙ ap (λ f. with_first f (list_of x x0 (drop (i + 1) as_) x1 (drop (i + 1) bs))) e)
    ∙ first_done done item (list_of x x0 (drop (i + 1) as_) x1 (drop (i + 1) bs))

-- an item's fault
pub list_stops : (x x0 : ℤ) (as_ : List ℤ) (x1 : ℤ) (bs : List ℤ) (i : ℕ) (done : List ℤ) (fault : Arith) → i < length as_ → i < length bs
    → linear_of x x0 (get_or as_ i (pos 0)) x1 (get_or bs i (pos 0)) ≡ Err fault
    → after_items done (list_of x x0 (drop i as_) x1 (drop i bs)) ≡ Err fault
list_stops x x0 as_ x1 bs i done fault h k e =
    ap (after_items done) (next_items x x0 as_ x1 bs i h k ∙ ap (λ f. with_first f (list_of x x0 (drop (i + 1) as_) x1 (drop (i + 1) bs))) e)

-- no item is left
pub list_ends : (x x0 x1 : ℤ) (bs done : List ℤ) → after_items done (list_of x x0 [] x1 bs) ≡ Ok done
unfolding list_of
list_ends x x0 x1 bs done = ap Ok (append-nil done)
