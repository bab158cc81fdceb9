-- What a refusal leaves of a text that is appended piece by piece.
use Rattle.std.proofs.Common.{refl, ◌≡◌, ℕ, ◌+◌, ◌<◌, suc, List, [], ◌∷◌, ◌++◌, length, take, drop, get_or, ap, sym, ◌∙◌, subst, append-nil, append_assoc, add-one, drop-cons}
use Rattle.std.specs.Prelude.{Result, Ok, Err, OnErr, is_ok, if◌then◌else◌, flat_map}
use Rattle.std.proofs.lemmas.Grind.{flat_map-append}
use Rattle.std.proofs.lemmas.List.{take-append-drop}
use Rattle.decimal_json.specs.Writing.{AppendsPrefix}

-- what holds after a refusal
pub on_err : {A E : Type 0} (P : Type 0) (r : Result A E) → P → OnErr r P
on_err P (Ok x) h = tt
on_err P (Err e) h = h

-- within the first of two pieces
prefix_first : (old new piece rest : List ℕ) → AppendsPrefix old new piece → AppendsPrefix old new (piece ++ rest)
prefix_first old new piece rest h = record {
  front = h.front;
  rest = h.rest ++ rest;
  cut = ap (λ x. x ++ rest) h.cut ∙ append_assoc h.front h.rest rest;
  appended = h.appended;
}

-- after a piece
prefix_behind : (old mid new piece rest : List ℕ) → mid ≡ old ++ piece → AppendsPrefix mid new rest → AppendsPrefix old new (piece ++ rest)
prefix_behind old mid new piece rest e h = record {
  front = piece ++ h.front;
  rest = h.rest;
  cut = ap (λ x. piece ++ x) h.cut ∙ sym (append_assoc piece h.front h.rest);
  appended = h.appended ∙ (ap (λ x. x ++ h.front) e ∙ append_assoc old piece h.front);
}

-- refused within the first piece of a text
pub err_first : {A E : Type 0} (r : Result A E) (old new piece rest whole : List ℕ) → AppendsPrefix old new piece → whole ≡ piece ++ rest → OnErr r (AppendsPrefix old new whole)
err_first r old new piece rest whole h cut =
    on_err (AppendsPrefix old new whole) r (subst (λ text. AppendsPrefix old new text) (sym cut) (prefix_first old new piece rest h))

-- refused within a piece after others
pub err_between : {A E : Type 0} (r : Result A E) (old mid new front piece rest whole : List ℕ) → mid ≡ old ++ front → AppendsPrefix mid new piece → whole ≡ front ++ (piece ++ rest) → OnErr r (AppendsPrefix old new whole)
err_between r old mid new front piece rest whole e h cut =
    on_err (AppendsPrefix old new whole) r (subst (λ text. AppendsPrefix old new text) (sym cut) (prefix_behind old mid new front (piece ++ rest) e (prefix_first mid new piece rest h)))

-- the last piece, refused or not
pub err_last : {A E : Type 0} (r : Result A E) (old mid new front piece whole : List ℕ) → mid ≡ old ++ front → OnErr r (AppendsPrefix mid new piece) → whole ≡ front ++ piece → OnErr r (AppendsPrefix old new whole)
err_last (Ok x) old mid new front piece whole e h cut = tt
err_last (Err x) old mid new front piece whole e h cut = subst (λ text. AppendsPrefix old new text) (sym cut) (prefix_behind old mid new front piece e h)

element_and_rest : {A : Type 0} (xs : List A) (i : ℕ) (x : A) → i < length xs → x ≡ get_or xs i x → drop i xs ≡ x ∷ drop (i + 1) xs
element_and_rest xs i x h p = rw add-one (drop-cons xs i x h ∙ ap (λ y. y ∷ drop (suc i) xs) (sym p))

-- the pieces of the first elements, that of the next one, and those of the others
pieces_at : {A : Type 0} (f : A → List ℕ) (xs : List A) (i : ℕ) (x : A) → i < length xs → x ≡ get_or xs i x → flat_map f xs ≡ flat_map f (take i xs) ++ (f x ++ flat_map f (drop (i + 1) xs))
pieces_at f xs i x h p =
    ap (flat_map f) (sym (take-append-drop i xs)) ∙ (flat_map-append f (take i xs) (drop i xs) ∙ ap (λ ys. flat_map f (take i xs) ++ flat_map f ys) (element_and_rest xs i x h p))

-- refused within the piece of an element
pub err_at : {A B E : Type 0} (r : Result B E) (f : A → List ℕ) (xs : List A) (i : ℕ) (x : A) (old now new whole : List ℕ) → i < length xs → x ≡ get_or xs i x → now ≡ old ++ flat_map f (take i xs) → AppendsPrefix now new (f x) → whole ≡ flat_map f xs → OnErr r (AppendsPrefix old new whole)
err_at r f xs i x old now new whole h p e part cut =
    err_between r old now new (flat_map f (take i xs)) (f x) (flat_map f (drop (i + 1) xs)) whole e part (cut ∙ pieces_at f xs i x h p)

-- refused before the piece of an element
pub err_before : {A B E : Type 0} (r : Result B E) (f : A → List ℕ) (xs : List A) (i : ℕ) (old now new : List ℕ) → now ≡ old ++ flat_map f (take i xs) → new ≡ now → OnErr r (AppendsPrefix old new (flat_map f xs))
err_before r f xs i old now new e stays =
    on_err (AppendsPrefix old new (flat_map f xs)) r (record {
      front = flat_map f (take i xs);
      rest = flat_map f (drop i xs);
      cut = ap (flat_map f) (sym (take-append-drop i xs)) ∙ flat_map-append f (take i xs) (drop i xs);
      appended = stays ∙ e;
    })

-- refused at the only piece
pub err_only : {A E : Type 0} (r : Result A E) (old new piece whole : List ℕ) → new ≡ (if is_ok r then old ++ piece else old) → OnErr r (AppendsPrefix old new whole)
err_only (Ok x) old new piece whole e = tt
err_only (Err x) old new piece whole e = record { front = []; rest = whole; cut = refl; appended = e ∙ sym (append-nil old) }
