-- What holds of all elements that are not noted still does after a change of the list.
use Rattle.std.proofs.Common.{◌≡◌, ◌≢◌, ◌<◌, ◌≤◌, ◌+◌, ◌-◌, ℕ, zero, suc, List, [], ◌∷◌, ◌++◌, length, map, get_or, Bool, true, false, ◌||◌, ◌&&◌, not, nat_eq, nat_lt, refl, ap, ◌∙◌, sym, subst, arith, if◌then◌else◌}
use Rattle.std.specs.Prelude.{insert, remove}
use Rattle.std.proofs.lemmas.Bool.Decides.{nat_tests}
use Rattle.std.proofs.lemmas.List.Folds.{list_any_at}
use Rattle.noted_places.specs.Places.{AreBelow, AreNoted, AreSamePlaces, NotesIf, after_insert, after_move, after_remove, is_noted, without_place}

-- ---- tests

both_ways : (b : Bool) → b ≡ true → b ≡ false → ⊥
both_ways true t f = cc
both_ways false t f = cc

by_test : {P : Type 0} (b : Bool) → (b ≡ true → P) → (b ≡ false → P) → P
by_test true on off = on refl
by_test false on off = off refl

none_from : (a b : Bool) → (b ≡ true → a ≡ true) → a ≡ false → b ≡ false
none_from a true h off = absurd (both_ways a (h refl) off)
none_from a false h off = refl

pub either : (a b : Bool) → b ≡ true → (a || b) ≡ true
either true b h = refl
either false b h = h

first : (a b : Bool) → a ≡ true → (a || b) ≡ true
first true b h = refl
first false b h = absurd (cc)

second : (a b : Bool) → a ≡ false → (a || b) ≡ true → b ≡ true
second true b f h = absurd (cc)
second false b f h = h

same : (a b : ℕ) → nat_eq a b ≡ true → a ≡ b
same a b t = grind (arith, nat_tests)

itself : (a : ℕ) → nat_eq a a ≡ true
itself a = grind (arith, nat_tests)

apart : (a b : ℕ) → a ≢ b → nat_eq a b ≡ false
apart a b e = by_test (nat_eq a b) (λ t. absurd (e (same a b t))) (λ f. f)

is_less : (a b : ℕ) → nat_lt a b ≡ true → a < b
is_less a b t = grind (arith, nat_tests)

not_less : (a b : ℕ) → nat_lt a b ≡ false → b ≤ a
not_less a b t = grind (arith, nat_tests)

less : (a b : ℕ) → a < b → nat_lt a b ≡ true
less a b h = grind (arith, nat_tests, h)

past : (a b : ℕ) → b ≤ a → nat_lt a b ≡ false
past a b h = grind (arith, nat_tests, h)

-- ---- where an element is

insert_before : (place at : ℕ) → at < place → after_insert place at ≡ at
insert_before place at h = ap (λ t. if t then at else at + 1) (less at place h)

insert_past : (place at : ℕ) → place ≤ at → after_insert place at ≡ at + 1
insert_past place at h = ap (λ t. if t then at else at + 1) (past at place h)

remove_past : (place at : ℕ) → place < at → after_remove place at ≡ at - 1
remove_past place at h = ap (λ t. if t then at - 1 else at) (less place at h)

remove_before : (place at : ℕ) → at ≤ place → after_remove place at ≡ at
remove_before place at h = ap (λ t. if t then at - 1 else at) (past place at h)

-- one is before a place, there, or past it
side : {P : Type 0} (place at : ℕ) → (at < place → P) → (at ≡ place → P) → (place < at → P) → P
side place at before there after = by_test (nat_lt at place)
    (λ t. before (is_less at place t))
    (λ f. by_test (nat_lt place at) (λ t. after (is_less place at t)) (λ g. there (omega (arith, not_less at place f, not_less place at g))))

-- ---- noted places

noted_map : (f : ℕ → ℕ) (ps : List ℕ) (q : ℕ) → is_noted ps q ≡ true → is_noted (map f ps) (f q) ≡ true
noted_map f [] q h = h
noted_map f (p ∷ ps) q h = by_test (nat_eq p q)
    (λ t. first (nat_eq (f p) (f q)) (is_noted (map f ps) (f q)) (ap (λ k. nat_eq (f p) (f k)) (sym (same p q t)) ∙ itself (f p)))
    (λ g. either (nat_eq (f p) (f q)) (is_noted (map f ps) (f q)) (noted_map f ps q (second (nat_eq p q) (is_noted ps q) g h)))

noted_without : (place : ℕ) (ps : List ℕ) (q : ℕ) → q ≢ place → is_noted ps q ≡ true → is_noted (without_place place ps) q ≡ true
noted_without place [] q other h = h
noted_without place (p ∷ ps) q other h = by_kept (nat_eq p place) refl (λ k. noted_without place ps q other k) where
  by_kept : (t : Bool) → nat_eq p place ≡ t → (is_noted ps q ≡ true → is_noted (without_place place ps) q ≡ true)
      → is_noted (if not t then p ∷ without_place place ps else without_place place ps) q ≡ true
  by_kept true is go = go (second (nat_eq p q) (is_noted ps q) (apart p q (λ e. other (sym e ∙ same p place is))) h)
  by_kept false is go = by_test (nat_eq p q)
      (λ t. first (nat_eq p q) (is_noted (without_place place ps) q) t)
      (λ g. either (nat_eq p q) (is_noted (without_place place ps) q) (go (second (nat_eq p q) (is_noted ps q) g h)))

map_noted : (f : ℕ → ℕ) (ps : List ℕ) (q : ℕ) → is_noted (map f ps) q ≡ true → (p : ℕ) × (is_noted ps p ≡ true) × (f p ≡ q)
map_noted f [] q h = absurd (cc)
map_noted f (p ∷ ps) q h = by_first (nat_eq (f p) q) refl (λ k. map_noted f ps q k) where
  by_first : (t : Bool) → nat_eq (f p) q ≡ t → (is_noted (map f ps) q ≡ true → (r : ℕ) × (is_noted ps r ≡ true) × (f r ≡ q))
      → (r : ℕ) × (is_noted (p ∷ ps) r ≡ true) × (f r ≡ q)
  by_first true t go = (p, first (nat_eq p p) (is_noted ps p) (itself p), same (f p) q t)
  by_first false g go =
      let later = go (second (nat_eq (f p) q) (is_noted (map f ps) q) g h) in
      (later.0, either (nat_eq p later.0) (is_noted ps later.0) later.1, later.2)

without_noted : (place : ℕ) (ps : List ℕ) (q : ℕ) → is_noted (without_place place ps) q ≡ true → (is_noted ps q ≡ true) × (nat_eq q place ≡ false)
without_noted place [] q h = absurd (cc)
without_noted place (p ∷ ps) q h = by_kept (nat_eq p place) refl h (λ k. without_noted place ps q k) where
  by_kept : (t : Bool) → nat_eq p place ≡ t → is_noted (if not t then p ∷ without_place place ps else without_place place ps) q ≡ true
      → (is_noted (without_place place ps) q ≡ true → (is_noted ps q ≡ true) × (nat_eq q place ≡ false))
      → (is_noted (p ∷ ps) q ≡ true) × (nat_eq q place ≡ false)
  by_kept true is h go =
      let later = go h in
      (either (nat_eq p q) (is_noted ps q) later.0, later.1)
  by_kept false is h go = by_test (nat_eq p q)
      (λ t. (first (nat_eq p q) (is_noted ps q) t, ap (λ k. nat_eq k place) (sym (same p q t)) ∙ is))
      (λ g.
      let later = go (second (nat_eq p q) (is_noted (without_place place ps) q) g h) in
      (either (nat_eq p q) (is_noted ps q) later.0, later.1))

below_map : (f : ℕ → ℕ) (n : ℕ) (ps : List ℕ) → ((p : ℕ) → is_noted ps p ≡ true → f p < n) → AreBelow n (map f ps)
below_map f n ps h q noted =
    let one = map_noted f ps q noted in
    subst (λ k. k < n) one.2 (h one.0 one.1)

pub noted_at : (ps : List ℕ) (i d : ℕ) → i < length ps → is_noted ps (get_or ps i d) ≡ true
noted_at ps i d h = list_any_at (λ one. nat_eq one (get_or ps i d)) ps i d h (itself (get_or ps i d))

pub below_get : (n : ℕ) (ps : List ℕ) (i d : ℕ) → i < length ps → AreBelow n ps → get_or ps i d < n
below_get n ps i d h below = below (get_or ps i d) (noted_at ps i d h)

-- where all places are before one, none moves for what comes there
pub none_moves : (n place : ℕ) (ps : List ℕ) → n ≤ place → AreBelow n ps → map (after_insert place) ps ≡ ps
none_moves n place [] h below = refl
none_moves n place (p ∷ ps) h below =
    let before : p < n = below p (first (nat_eq p p) (is_noted ps p) (itself p)) in
    (λ i. insert_before place p (omega (arith, h, before)) i
    ∷ none_moves n place ps h (λ q t. below q (either (nat_eq p q) (is_noted ps q) t)) i)

-- ---- one more is noted

either_way : (a b c : Bool) → (a || (b || c)) ≡ (b || (a || c))
either_way true true c = refl
either_way true false c = refl
either_way false true c = refl
either_way false false c = refl

pub noted_inserted : (ps : List ℕ) (i place q : ℕ) → is_noted (insert ps i place) q ≡ (nat_eq place q || is_noted ps q)
noted_inserted [] zero place q = refl
noted_inserted [] (suc i) place q = refl
noted_inserted (p ∷ ps) zero place q = refl
noted_inserted (p ∷ ps) (suc i) place q = ap (λ b. nat_eq p q || b) (noted_inserted ps i place q)
    ∙ either_way (nat_eq p q) (nat_eq place q) (is_noted ps q)

pub noted_removed : (ps : List ℕ) (i d q : ℕ) → i < length ps → is_noted ps q ≡ (nat_eq (get_or ps i d) q || is_noted (remove ps i) q)
noted_removed [] i d q h = absurd (omega (arith, h))
noted_removed (p ∷ ps) zero d q h = refl
noted_removed (p ∷ ps) (suc i) d q h = ap (λ b. nat_eq p q || b) (noted_removed ps i d q (omega (arith, h)))
    ∙ either_way (nat_eq p q) (nat_eq (get_or ps i d) q) (is_noted (remove ps i) q)

either_off : (a b : Bool) → (a || b) ≡ false → (a ≡ false) × (b ≡ false)
either_off true b h = absurd (cc)
either_off false b h = (refl, h)

none_of_both : (a b : Bool) → (a && b) ≡ false → b ≡ true → a ≡ false
none_of_both true b h t = absurd (both_ways b t h)
none_of_both false b h t = refl

which : (a b c : Bool) → ((a && b) || c) ≡ true → (c ≡ false) → b ≡ true
which true b true h off = absurd (both_ways true refl off)
which true true false h off = refl
which true false false h off = absurd (cc)
which false b c h off = absurd (both_ways c h off)

-- nothing holds
pub nothing_noted : (holds : Bool) (place : ℕ) (ps : List ℕ) → holds ≡ false → NotesIf holds place ps ps
nothing_noted holds place ps off other = sym (ap (λ b. (b && nat_eq place other) || is_noted ps other) off)

-- the place was noted
pub noted_before : (holds : Bool) (place : ℕ) (ps : List ℕ) → is_noted ps place ≡ true → NotesIf holds place ps ps
noted_before holds place ps t other = by holds (nat_eq place other) refl where
  by : (a b : Bool) → nat_eq place other ≡ b → is_noted ps other ≡ ((a && b) || is_noted ps other)
  by true true is = ap (is_noted ps) (sym (same place other is)) ∙ t
  by true false is = refl
  by false b is = refl

pub newly_noted : (holds : Bool) (place : ℕ) (ps : List ℕ) (i : ℕ) → holds ≡ true → NotesIf holds place ps (insert ps i place)
newly_noted holds place ps i on other = noted_inserted ps i place other ∙ sym (ap (λ b. (b && nat_eq place other) || is_noted ps other) on)

-- one was taken out and put in again
pub settled : (ps : List ℕ) (i k place : ℕ) → i < length ps → place ≡ get_or ps i place → AreSamePlaces (insert (remove ps i) k place) ps
settled ps i k place h is q = noted_inserted (remove ps i) k place q
    ∙ (ap (λ p. nat_eq p q || is_noted (remove ps i) q) is ∙ sym (noted_removed ps i place q h))

module _ (holds : Bool) (place : ℕ) (ps qs : List ℕ) (notes : NotesIf holds place ps qs) where
  -- those that were noted are
  pub not_yet : (q : ℕ) → is_noted qs q ≡ false → is_noted ps q ≡ false
  not_yet q off = (either_off (holds && nat_eq place q) (is_noted ps q) (sym (notes q) ∙ off)).1

  -- where a place is not noted then, nothing holds
  pub none_holds : is_noted qs place ≡ false → holds ≡ false
  none_holds off = none_of_both holds (nat_eq place place)
      (either_off (holds && nat_eq place place) (is_noted ps place) (sym (notes place) ∙ off)).0 (itself place)

  pub below_with : (n : ℕ) → place < n → AreBelow n ps → AreBelow n qs
  below_with n h below q noted = by_test (is_noted ps q)
      (λ t. below q t)
      (λ f. subst (λ k. k < n) (same place q (which holds (nat_eq place q) (is_noted ps q) (sym (notes q) ∙ noted) f)) h)

-- ---- elements by their places

module _ {X : Type 0} where
  get_before : (xs : List X) (i p : ℕ) (x d : X) → p < i → p < length xs → get_or (insert xs i x) p d ≡ get_or xs p d
  get_before [] i p x d h within = absurd (omega (arith, within))
  get_before (y ∷ ys) zero p x d h within = absurd (omega (arith, h))
  get_before (y ∷ ys) (suc i) zero x d h within = refl
  get_before (y ∷ ys) (suc i) (suc p) x d h within = get_before ys i p x d (omega (arith, h)) (omega (arith, within))

  get_there : (xs : List X) (i : ℕ) (x d : X) → i ≤ length xs → get_or (insert xs i x) i d ≡ x
  get_there [] zero x d h = refl
  get_there [] (suc i) x d h = absurd (omega (arith, h))
  get_there (y ∷ ys) zero x d h = refl
  get_there (y ∷ ys) (suc i) x d h = get_there ys i x d (omega (arith, h))

  get_past : (xs : List X) (i p : ℕ) (x d : X) → i ≤ p → i ≤ length xs → get_or (insert xs i x) (suc p) d ≡ get_or xs p d
  get_past [] zero p x d h within = refl
  get_past [] (suc i) p x d h within = absurd (omega (arith, within))
  get_past (y ∷ ys) zero p x d h within = refl
  get_past (y ∷ ys) (suc i) zero x d h within = absurd (omega (arith, h))
  get_past (y ∷ ys) (suc i) (suc p) x d h within = get_past ys i p x d (omega (arith, h)) (omega (arith, within))

  rest_before : (xs : List X) (i p : ℕ) (d : X) → p < i → get_or (remove xs i) p d ≡ get_or xs p d
  rest_before [] zero p d h = refl
  rest_before [] (suc i) p d h = refl
  rest_before (y ∷ ys) zero p d h = absurd (omega (arith, h))
  rest_before (y ∷ ys) (suc i) zero d h = refl
  rest_before (y ∷ ys) (suc i) (suc p) d h = rest_before ys i p d (omega (arith, h))

  rest_past : (xs : List X) (i p : ℕ) (d : X) → i ≤ p → get_or (remove xs i) p d ≡ get_or xs (suc p) d
  rest_past [] zero p d h = refl
  rest_past [] (suc i) p d h = refl
  rest_past (y ∷ ys) zero p d h = refl
  rest_past (y ∷ ys) (suc i) zero d h = absurd (omega (arith, h))
  rest_past (y ∷ ys) (suc i) (suc p) d h = rest_past ys i p d (omega (arith, h))

  length_more : (xs : List X) (i : ℕ) (x : X) → i ≤ length xs → length (insert xs i x) ≡ suc (length xs)
  length_more [] zero x h = refl
  length_more [] (suc i) x h = absurd (omega (arith, h))
  length_more (y ∷ ys) zero x h = refl
  length_more (y ∷ ys) (suc i) x h = ap suc (length_more ys i x (omega (arith, h)))

  length_less : (xs : List X) (i : ℕ) → i < length xs → suc (length (remove xs i)) ≡ length xs
  length_less [] i h = absurd (omega (arith, h))
  length_less (y ∷ ys) zero h = refl
  length_less (y ∷ ys) (suc i) h = ap suc (length_less ys i (omega (arith, h)))

module _ {X : Type 0} (P : X → Type 0) (xs : List X) (ps : List ℕ) (noted : AreNoted P xs ps) where
  -- ---- the places are in another order

  pub noted_alike : (qs : List ℕ) → AreSamePlaces qs ps → AreNoted P xs qs
  noted_alike qs alike = record {
    within = λ q t. noted.within q (sym (alike q) ∙ t);
    others = λ p d inside off. noted.others p d inside (sym (alike p) ∙ off);
  }

  -- ---- elements change

  pub noted_same : (Q : X → Type 0) → ((p : ℕ) (d : X) → p < length xs → P (get_or xs p d) → Q (get_or xs p d)) → AreNoted Q xs ps
  noted_same Q h = record {
    within = noted.within;
    others = λ p d inside off. h p d inside (noted.others p d inside off);
  }

  -- one does, and its place is noted where something holds of it
  pub noted_change : (Q : X → Type 0) (holds : Bool) (place : ℕ) (qs : List ℕ) → NotesIf holds place ps qs → place < length xs
      → ((p : ℕ) (d : X) → p < length xs → p ≢ place → P (get_or xs p d) → Q (get_or xs p d))
      → (holds ≡ false → (d : X) → P (get_or xs place d) → Q (get_or xs place d)) → AreNoted Q xs qs
  noted_change Q holds place qs notes here rest this = record {
    within = below_with holds place ps qs notes (length xs) here noted.within;
    others = λ p d inside off.
        let was = noted.others p d inside (not_yet holds place ps qs notes p off) in
        by_test (nat_eq p place)
        (λ t.
        let e : p ≡ place = same p place t in
        subst (λ k. Q (get_or xs k d)) (sym e)
        (this (none_holds holds place ps qs notes (ap (is_noted qs) (sym e) ∙ off)) d (subst (λ k. P (get_or xs k d)) e was)))
        (λ f. rest p d inside (λ e. both_ways (nat_eq p place) (ap (nat_eq p) (sym e) ∙ itself p) f) was);
  }

  -- ---- an element comes

  module _ (place : ℕ) (x : X) (inside : place ≤ length xs) where
    insert_others : (p : ℕ) (d : X) → p < length (insert xs place x) → is_noted (map (after_insert place) ps) p ≡ false → p ≢ place
        → P (get_or (insert xs place x) p d)
    insert_others p d within off other = side place p
        (λ h.
        let here : p < length xs = omega (arith, h, inside) in
        subst P (sym (get_before xs place p x d h here)) (noted.others p d here
        (none_from (is_noted (map (after_insert place) ps) p) (is_noted ps p)
        (λ t. ap (is_noted (map (after_insert place) ps)) (sym (insert_before place p h)) ∙ noted_map (after_insert place) ps p t) off)))
        (λ e. absurd (other e))
        (λ h. by_next p within off h)
      where
        by_next : (p : ℕ) → p < length (insert xs place x) → is_noted (map (after_insert place) ps) p ≡ false → place < p → P (get_or (insert xs place x) p d)
        by_next zero within off h = absurd (omega (arith, h))
        by_next (suc q) within off h =
            let back : place ≤ q = omega (arith, h) in
            let here : q < length xs = omega (arith, within, length_more xs place x inside) in
            let is : after_insert place q ≡ suc q = insert_past place q back ∙ omega arith in
            subst P (sym (get_past xs place q x d back inside)) (noted.others q d here
            (none_from (is_noted (map (after_insert place) ps) (suc q)) (is_noted ps q)
            (λ t. ap (is_noted (map (after_insert place) ps)) (sym is) ∙ noted_map (after_insert place) ps q t) off))

    pub insert_below : AreBelow (length (insert xs place x)) (map (after_insert place) ps)
    insert_below = below_map (after_insert place) (length (insert xs place x)) ps (λ p t. below p (noted.within p t)) where
      below : (p : ℕ) → p < length xs → after_insert place p < length (insert xs place x)
      below p h =
          let more = length_more xs place x inside in
          by_test (nat_lt p place)
          (λ t. omega (arith, h, more, ap (λ b. if b then p else p + 1) t))
          (λ f. omega (arith, h, more, ap (λ b. if b then p else p + 1) f))

    -- more places may be noted than before, and that of the new element is, or the element has the property
    pub noted_insert : (qs : List ℕ) → AreBelow (length (insert xs place x)) qs
        → ((q : ℕ) → is_noted qs q ≡ false → is_noted (map (after_insert place) ps) q ≡ false)
        → (is_noted qs place ≡ false → P x) → AreNoted P (insert xs place x) qs
    noted_insert qs below more this = record {
      within = below;
      others = λ p d within off. by_test (nat_eq p place)
          (λ t.
          let e : p ≡ place = same p place t in
          subst (λ k. P (get_or (insert xs place x) k d)) (sym e)
          (subst P (sym (get_there xs place x d inside)) (this (ap (is_noted qs) (sym e) ∙ off))))
          (λ f. insert_others p d within (more p off) (λ e. absurd (both_ways (nat_eq p place) (ap (nat_eq p) (sym e) ∙ itself p) f)));
    }

    -- where its place is noted if something holds of it
    pub noted_add : (holds : Bool) (qs : List ℕ) → NotesIf holds place (map (after_insert place) ps) qs → (holds ≡ false → P x)
        → AreNoted P (insert xs place x) qs
    noted_add holds qs notes this = noted_insert qs
        (below_with holds place (map (after_insert place) ps) qs notes (length (insert xs place x))
        (omega (arith, inside, length_more xs place x inside)) insert_below)
        (λ q off. not_yet holds place (map (after_insert place) ps) qs notes q off)
        (λ off. this (none_holds holds place (map (after_insert place) ps) qs notes off))

  -- ---- an element goes

  module _ (place : ℕ) (inside : place < length xs) where
    abbrev rest : List ℕ
    rest = map (after_remove place) (without_place place ps)

    noted_rest : (q : ℕ) → q ≢ place → is_noted ps q ≡ true → is_noted rest (after_remove place q) ≡ true
    noted_rest q other t = noted_map (after_remove place) (without_place place ps) q (noted_without place ps q other t)

    rest_others : (p : ℕ) (d : X) → p < length (remove xs place) → is_noted rest p ≡ false → P (get_or (remove xs place) p d)
    rest_others p d within off =
        let less = length_less xs place inside in
        by_test (nat_lt p place)
        (λ t.
        let h : p < place = is_less p place t in
        let here : p < length xs = omega (arith, h, inside) in
        subst P (sym (rest_before xs place p d h)) (noted.others p d here
        (none_from (is_noted rest p) (is_noted ps p)
        (λ t. ap (is_noted rest) (sym (remove_before place p (omega (arith, h)))) ∙ noted_rest p (λ e. absurd (omega (arith, h, e))) t) off)))
        (λ f.
        let h : place ≤ p = not_less p place f in
        let here : suc p < length xs = omega (arith, within, less) in
        let is : after_remove place (suc p) ≡ p = remove_past place (suc p) (omega (arith, h)) ∙ omega arith in
        subst P (sym (rest_past xs place p d h)) (noted.others (suc p) d here
        (none_from (is_noted rest p) (is_noted ps (suc p))
        (λ t. ap (is_noted rest) (sym is) ∙ noted_rest (suc p) (λ e. absurd (omega (arith, h, e))) t) off)))

    rest_below : AreBelow (length (remove xs place)) rest
    rest_below = below_map (after_remove place) (length (remove xs place)) (without_place place ps) (λ p t. under p (without_noted place ps p t)) where
      under : (p : ℕ) → (is_noted ps p ≡ true) × (nat_eq p place ≡ false) → after_remove place p < length (remove xs place)
      under p kept =
          let less = length_less xs place inside in
          let here = noted.within p kept.0 in
          side place p
          (λ h. omega (arith, inside, less, h, remove_before place p (omega (arith, h))))
          (λ e. absurd (both_ways (nat_eq p place) (ap (nat_eq p) (sym e) ∙ itself p) kept.1))
          (λ h. omega (arith, here, less, h, remove_past place p h))

    pub noted_remove : AreNoted P (remove xs place) rest
    noted_remove = record { within = rest_below; others = rest_others }

-- ---- an element moves

moved_there : (from to : ℕ) → after_move from to from ≡ to
moved_there from to = ap (λ t. if t then to else after_insert to (after_remove from from)) (itself from)

noted_by_move : (from to q : ℕ) (ps : List ℕ) → is_noted (map (after_insert to) (map (after_remove from) (without_place from ps))) q ≡ true
    → is_noted (map (after_move from to) ps) q ≡ true
noted_by_move from to q [] h = h
noted_by_move from to q (p ∷ ps) h = by_kept (nat_eq p from) refl h (λ k. noted_by_move from to q ps k) where
  by_kept : (t : Bool) → nat_eq p from ≡ t
      → is_noted (map (after_insert to) (map (after_remove from) (if not t then p ∷ without_place from ps else without_place from ps))) q ≡ true
      → (is_noted (map (after_insert to) (map (after_remove from) (without_place from ps))) q ≡ true → is_noted (map (after_move from to) ps) q ≡ true)
      → is_noted (map (after_move from to) (p ∷ ps)) q ≡ true
  by_kept true is h go = either (nat_eq (after_move from to p) q) (is_noted (map (after_move from to) ps) q) (go h)
  by_kept false is h go =
      let moved : after_move from to p ≡ after_insert to (after_remove from p) = ap (λ t. if t then to else after_insert to (after_remove from p)) is in
      by_test (nat_eq (after_insert to (after_remove from p)) q)
      (λ t. first (nat_eq (after_move from to p) q) (is_noted (map (after_move from to) ps) q) (ap (λ k. nat_eq k q) moved ∙ t))
      (λ f. either (nat_eq (after_move from to p) q) (is_noted (map (after_move from to) ps) q) (go
      (second (nat_eq (after_insert to (after_remove from p)) q)
      (is_noted (map (after_insert to) (map (after_remove from) (without_place from ps))) q) f h)))

moved_below : (from to n : ℕ) → to < n → (ps : List ℕ) → AreBelow n (map (after_insert to) (map (after_remove from) (without_place from ps)))
    → AreBelow n (map (after_move from to) ps)
moved_below from to n h ps below = below_map (after_move from to) n ps (λ p noted. by_test (nat_eq p from)
    (λ t. subst (λ k. k < n) (sym (ap (λ b. if b then to else after_insert to (after_remove from p)) t)) h)
    (λ f. subst (λ k. k < n) (sym (ap (λ b. if b then to else after_insert to (after_remove from p)) f))
    (below (after_insert to (after_remove from p)) (noted_map (after_insert to) (map (after_remove from) (without_place from ps)) (after_remove from p)
    (noted_map (after_remove from) (without_place from ps) p
    (noted_without from ps p (λ e. both_ways (nat_eq p from) (ap (nat_eq p) (sym e) ∙ itself p) f) noted))))))

module _ {X : Type 0} (P : X → Type 0) (xs : List X) (ps : List ℕ) (noted : AreNoted P xs ps) (from to : ℕ)
    (from_inside : from < length xs) (to_inside : to < length xs) (other : X) where
  pub noted_move : AreNoted P (insert (remove xs from) to (get_or xs from other)) (map (after_move from to) ps)
  noted_move =
      let less = length_less xs from from_inside in
      let fits : to ≤ length (remove xs from) = omega (arith, less, to_inside) in
      let more = length_more (remove xs from) to (get_or xs from other) fits in
      noted_insert P (remove xs from) (map (after_remove from) (without_place from ps)) (noted_remove P xs ps noted from from_inside)
      to (get_or xs from other) fits (map (after_move from to) ps)
      (moved_below from to (length (insert (remove xs from) to (get_or xs from other))) (omega (arith, fits, length_more (remove xs from) to (get_or xs from other) fits)) ps
      (insert_below P (remove xs from) (map (after_remove from) (without_place from ps)) (noted_remove P xs ps noted from from_inside)
      to (get_or xs from other) fits))
      (λ q off. none_from (is_noted (map (after_move from to) ps) q)
      (is_noted (map (after_insert to) (map (after_remove from) (without_place from ps))) q) (noted_by_move from to q ps) off)
      (λ off. noted.others from other from_inside (none_from (is_noted (map (after_move from to) ps) to) (is_noted ps from)
      (λ t. ap (is_noted (map (after_move from to) ps)) (sym (moved_there from to)) ∙ noted_map (after_move from to) ps from t) off))
