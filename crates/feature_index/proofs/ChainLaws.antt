-- Chains of numbers that have one id.
use Rattle.std.proofs.Common.{◌≡◌, ◌≢◌, ℕ, zero, suc, ◌<◌, ◌≤◌, List, [], ◌∷◌, ◌++◌, length, get_or, nat_eq, nat_lt, Bool, true, false, Option, Some, None, IfSome, refl, sym, ap, ◌∙◌, subst, arith, if◌then◌else◌}
use Rattle.std.specs.Prelude.{◌||◌}
use Rattle.std.proofs.lemmas.Bool.{false≢true}
use Rattle.std.proofs.lemmas.Bool.Decides.{nat_tests}
use Rattle.std.proofs.lemmas.List.{get_or_append_left, length-append}
use Rattle.std.specs.BTreeMap.{get}
use Rattle.std.specs.Ordering.{nat_cmp}
use Rattle.feature_index.specs.Ids.{IsIndexed, IsFalling, chain, is_among, is_id, numbers_below, numbers_of, numbers_with}
use Rattle.feature_index.specs.declared.ids.IdIndex.{IdIndex}

nat_same : (a b : ℕ) → nat_eq a b ≡ true → a ≡ b
nat_same a b t = grind (arith, nat_tests)

nat_other : (a b : ℕ) → a ≢ b → nat_eq a b ≡ false
nat_other a b d = grind (arith, nat_tests)

nat_self : (a : ℕ) → nat_eq a a ≡ true
nat_self a = grind (arith, nat_tests)

-- ---- what is reached

-- from no number none
pub chain_none : (before : List (Option ℕ)) (n : ℕ) → chain before None n ≡ []
chain_none before zero = refl
chain_none before (suc n) = chain_none before n

-- a number that is not there is passed
passed : (before : List (Option ℕ)) (m n : ℕ) → m < n → chain before (Some m) (suc n) ≡ chain before (Some m) n
passed before m n h =
    ap (λ b. if b then n ∷ chain before (get_or before n None) n else chain before (Some m) n) (nat_other n m (λ e. absurd (omega (arith, h, e))))

here : (before : List (Option ℕ)) (m : ℕ) → chain before (Some m) (suc m) ≡ m ∷ chain before (get_or before m None) m
here before m = ap (λ b. if b then m ∷ chain before (get_or before m None) m else chain before (Some m) m) (nat_self m)

-- a number, and what is reached from the one before it
reached : (b : Bool) (before : List (Option ℕ)) (m k : ℕ) → nat_eq k m ≡ b → m < suc k
    → (m < k → chain before (Some m) k ≡ m ∷ chain before (get_or before m None) m)
    → chain before (Some m) (suc k) ≡ m ∷ chain before (get_or before m None) m
reached true before m k e h further =
    subst (λ j. chain before (Some m) (suc j) ≡ m ∷ chain before (get_or before m None) m) (sym (nat_same k m e)) (here before m)
reached false before m k e h further =
    let apart : k ≢ m = λ is. false≢true (sym e ∙ (ap (nat_eq k) (sym is) ∙ nat_self k)) in
    let less : m < k = grind (arith, h, apart) in
    passed before m k less ∙ further less

pub chain_from : (before : List (Option ℕ)) (m k : ℕ) → m < k → chain before (Some m) k ≡ m ∷ chain before (get_or before m None) m
chain_from before m zero h = absurd (omega (arith, h))
chain_from before m (suc k) h = reached (nat_eq k m) before m k refl h (chain_from before m k)

-- numbers from which on there is none do not matter
pub chain_same : (before : List (Option ℕ)) (at : Option ℕ) (m n : ℕ) → IfSome at (λ i. i < m) → m ≤ n → chain before at n ≡ chain before at m
chain_same before None m n h w = chain_none before n ∙ sym (chain_none before m)
chain_same before (Some i) m n h w = chain_from before i n (omega (arith, h, w)) ∙ sym (chain_from before i m h)

-- ---- the next number

pub next_of : (before : List (Option ℕ)) (n count : ℕ) → IsFalling before → n < count → count ≡ length before
    → chain before (Some n) count ≡ n ∷ chain before (get_or before n None) count
next_of before n count falling h c =
    chain_from before n count h
    ∙ ap (λ ns. n ∷ ns) (sym (chain_same before (get_or before n None) n count (falling n (omega (arith, h, c))) (omega (arith, h))))

pub next_within : (before : List (Option ℕ)) (n : ℕ) → IsFalling before → n < length before → IfSome (get_or before n None) (λ m. m < length before)
next_within before n falling h = less (get_or before n None) (falling n h) where
  less : (o : Option ℕ) → IfSome o (λ m. m < n) → IfSome o (λ m. m < length before)
  less None l = tt
  less (Some m) l = omega (arith, l, h)

-- ---- one id more

chain_front : (before more : List (Option ℕ)) (at : Option ℕ) (n : ℕ) → n ≤ length before → chain (before ++ more) at n ≡ chain before at n
chain_front before more at zero h = refl
chain_front before more at (suc n) h =
    (λ i. if is_id n at then n ∷ chain (before ++ more) (get_or_append_left before more None n (omega (arith, h)) i) n
    else chain (before ++ more) at n)
    ∙ (λ i. if is_id n at then n ∷ chain_front before more (get_or before n None) n (omega (arith, h)) i
    else chain_front before more at n (omega (arith, h)) i)

below_front : (ids more : List (Option ℕ)) (id n : ℕ) → n ≤ length ids → numbers_below (ids ++ more) id n ≡ numbers_below ids id n
below_front ids more id zero h = refl
below_front ids more id (suc n) h =
    (λ i. if is_id id (get_or_append_left ids more None n (omega (arith, h)) i) then n ∷ numbers_below (ids ++ more) id n
    else numbers_below (ids ++ more) id n)
    ∙ (λ i. if is_id id (get_or ids n None) then n ∷ below_front ids more id n (omega (arith, h)) i
    else below_front ids more id n (omega (arith, h)) i)

last_one : (xs : List (Option ℕ)) (x : Option ℕ) → get_or (xs ++ x ∷ []) (length xs) None ≡ x
last_one [] x = refl
last_one (y ∷ xs) x = last_one xs x

pub one_more : (xs : List (Option ℕ)) (x : Option ℕ) → length (xs ++ x ∷ []) ≡ suc (length xs)
one_more xs x = let l = length-append xs (x ∷ []) in omega (arith, l)

-- the numbers that have an id, with one more
below_last : (ids : List (Option ℕ)) (new : Option ℕ) (id : ℕ) → numbers_with (ids ++ new ∷ []) id
    ≡ (if is_id id new then length ids ∷ numbers_with ids id else numbers_with ids id)
below_last ids new id =
    ap (numbers_below (ids ++ new ∷ []) id) (one_more ids new)
    ∙ ((λ i. if is_id id (last_one ids new i) then length ids ∷ numbers_below (ids ++ new ∷ []) id (length ids)
    else numbers_below (ids ++ new ∷ []) id (length ids))
    ∙ (λ i. if is_id id new then length ids ∷ below_front ids (new ∷ []) id (length ids) (omega arith) i
    else below_front ids (new ∷ []) id (length ids) (omega arith) i))

module _ (old new : IdIndex) (ids : List (Option ℕ)) (is : IsIndexed old ids) where
  module _ (id : Option ℕ) (before : Option ℕ) (items : new.before.items ≡ old.before.items ++ before ∷ [])
      (less : IfSome before (λ m. m < length ids)) where
    falls : (n : ℕ) → n < length new.before.items → IfSome (get_or new.before.items n None) (λ m. m < n)
    falls n h = by_place (nat_eq n (length old.before.items)) refl where
      count : length new.before.items ≡ suc (length old.before.items)
      count = ap length items ∙ one_more old.before.items before

      by_place : (b : Bool) → nat_eq n (length old.before.items) ≡ b → IfSome (get_or new.before.items n None) (λ m. m < n)
      by_place true e =
          let at : n ≡ length old.before.items = nat_same n (length old.before.items) e in
          let value : before ≡ get_or new.before.items n None =
          sym (last_one old.before.items before) ∙ ((λ i. get_or (sym items i) (sym at i) None)) in
          subst (λ o. IfSome o (λ m. m < n)) value (subst (λ k. IfSome before (λ m. m < k)) (sym is.counted ∙ sym at) less)
      by_place false e =
          let apart : n ≢ length old.before.items = λ same. false≢true (sym e ∙ (ap (nat_eq n) (sym same) ∙ nat_self n)) in
          let within : n < length old.before.items = grind (arith, h, count, apart) in
          let value : get_or old.before.items n None ≡ get_or new.before.items n None =
          sym (get_or_append_left old.before.items (before ∷ []) None n within) ∙ ap (λ xs. get_or xs n None) (sym items) in
          subst (λ o. IfSome o (λ m. m < n)) value (is.falling n within)

    -- what is reached below the new number is what was
    kept_chain : (at : Option ℕ) → chain new.before.items at (length ids) ≡ chain old.before.items at (length ids)
    kept_chain at =
        ap (λ xs. chain xs at (length ids)) items
        ∙ chain_front old.before.items (before ∷ []) at (length ids) (let c = is.counted in omega (arith, c))

    -- a chain that does not begin with it
    passes : (at : Option ℕ) → IfSome at (λ m. m < length ids) → chain new.before.items at (suc (length ids)) ≡ chain old.before.items at (length ids)
    passes at h = chain_same new.before.items at (length ids) (suc (length ids)) h (omega arith) ∙ kept_chain at

    -- the one that does
    begins : chain new.before.items (Some (length ids)) (suc (length ids)) ≡ length ids ∷ chain old.before.items before (length ids)
    begins =
        here new.before.items (length ids)
        ∙ ap (λ ns. length ids ∷ ns)
        (ap (λ o. chain new.before.items o (length ids))
        (ap (λ xs. get_or xs (length ids) None) items
        ∙ (ap (λ k. get_or (old.before.items ++ before ∷ []) k None) (sym is.counted) ∙ last_one old.before.items before))
        ∙ kept_chain before)

    counts : length new.before.items ≡ length (ids ++ id ∷ [])
    counts = ap length items ∙ (one_more old.before.items before ∙ (ap suc is.counted ∙ sym (one_more ids id)))

    wider : (o : Option ℕ) → IfSome o (λ n. n < length ids) → IfSome o (λ n. n < length (ids ++ id ∷ []))
    wider None h = tt
    wider (Some n) h = let l = one_more ids id in omega (arith, l, h)

  -- a number without an id
  pub pushed_none : new.before.items ≡ old.before.items ++ None ∷ [] → new.last ≡ old.last → IsIndexed new (ids ++ None ∷ [])
  pushed_none items last = record {
    counted = counts None None items tt;
    falling = falls None None items tt;
    below = λ i. wider None None items tt (get nat_cmp new.last i) (subst (λ m. IfSome (get nat_cmp m i) (λ n. n < length ids)) (sym last) (is.below i));
    found = λ i.
        ap (chain new.before.items (get nat_cmp new.last i)) (one_more ids None)
        ∙ (ap (λ m. chain new.before.items (get nat_cmp m i) (suc (length ids))) last
        ∙ (passes None None items tt (get nat_cmp old.last i) (is.below i)
        ∙ (is.found i ∙ sym (below_last ids None i))));
  }

  -- a number with one
  pub pushed : (id : ℕ) → new.before.items ≡ old.before.items ++ get nat_cmp old.last id ∷ []
      → ((i : ℕ) → get nat_cmp new.last i ≡ (if nat_eq id i then Some (length ids) else get nat_cmp old.last i))
      → IsIndexed new (ids ++ Some id ∷ [])
  pushed id items last = record {
    counted = counts (Some id) before items less;
    falling = falls (Some id) before items less;
    below = λ i. subst (λ o. IfSome o (λ n. n < length (ids ++ Some id ∷ []))) (sym (last i)) (bounded i (nat_eq id i));
    found = λ i.
        ap (chain new.before.items (get nat_cmp new.last i)) (one_more ids (Some id))
        ∙ (ap (λ o. chain new.before.items o (suc (length ids))) (last i)
        ∙ (by_id i (nat_eq id i) refl ∙ sym (below_last ids (Some id) i)));
  } where
    before : Option ℕ
    before = get nat_cmp old.last id

    less : IfSome before (λ m. m < length ids)
    less = is.below id

    bounded : (i : ℕ) (b : Bool) → IfSome (if b then Some (length ids) else get nat_cmp old.last i) (λ n. n < length (ids ++ Some id ∷ []))
    bounded i true = let l = one_more ids (Some id) in omega (arith, l)
    bounded i false = wider (Some id) before items less (get nat_cmp old.last i) (is.below i)

    by_id : (i : ℕ) (b : Bool) → nat_eq id i ≡ b
        → chain new.before.items (if b then Some (length ids) else get nat_cmp old.last i) (suc (length ids))
        ≡ (if nat_eq i id then length ids ∷ numbers_with ids i else numbers_with ids i)
    by_id i true e =
        let at : id ≡ i = nat_same id i e in
        begins (Some id) before items less
        ∙ (ap (λ ns. length ids ∷ ns) (ap (λ k. chain old.before.items (get nat_cmp old.last k) (length ids)) at ∙ is.found i)
        ∙ ap (λ b. if b then length ids ∷ numbers_with ids i else numbers_with ids i) (sym (ap (nat_eq i) at ∙ nat_self i)))
    by_id i false e =
        let apart : i ≢ id = λ same. false≢true (sym e ∙ (ap (nat_eq id) same ∙ nat_self id)) in
        passes (Some id) before items less (get nat_cmp old.last i) (is.below i)
        ∙ (is.found i
        ∙ ap (λ b. if b then length ids ∷ numbers_with ids i else numbers_with ids i) (sym (nat_other i id apart)))

-- ---- which numbers have an id

module _ (ids : List (Option ℕ)) (id m n : ℕ) where
  -- the last number below a count is another
  other_last : (b : Bool) → n ≢ m → is_among m (if b then n ∷ numbers_below ids id n else numbers_below ids id n) ≡ is_among m (numbers_below ids id n)
  other_last true apart = ap (λ c. c || is_among m (numbers_below ids id n)) (nat_other n m apart)
  other_last false apart = refl

  -- it is this one
  this_last : (b : Bool) → is_id id (get_or ids n None) ≡ b → nat_eq n m ≡ true → is_among m (numbers_below ids id n) ≡ false
      → is_among m (if b then n ∷ numbers_below ids id n else numbers_below ids id n) ≡ is_id id (get_or ids m None)
  this_last true f e none =
      ap (λ x. x || is_among m (numbers_below ids id n)) e ∙ (sym f ∙ ap (λ k. is_id id (get_or ids k None)) (nat_same n m e))
  this_last false f e none = none ∙ (sym f ∙ ap (λ k. is_id id (get_or ids k None)) (nat_same n m e))

among_below : (ids : List (Option ℕ)) (id m n : ℕ) → n ≤ m → is_among m (numbers_below ids id n) ≡ false
among_below ids id m zero h = refl
among_below ids id m (suc n) h =
    other_last ids id m n (is_id id (get_or ids n None)) (λ e. absurd (omega (arith, h, e))) ∙ among_below ids id m n (omega (arith, h))

by_place : (ids : List (Option ℕ)) (id m n : ℕ) (b : Bool) → nat_eq n m ≡ b → m < suc n
    → (m < n → is_among m (numbers_below ids id n) ≡ is_id id (get_or ids m None))
    → is_among m (numbers_below ids id (suc n)) ≡ is_id id (get_or ids m None)
by_place ids id m n true e h before =
    this_last ids id m n (is_id id (get_or ids n None)) refl e (among_below ids id m n (let s = nat_same n m e in omega (arith, s)))
by_place ids id m n false e h before =
    let apart : n ≢ m = λ same. false≢true (sym e ∙ (ap (nat_eq n) (sym same) ∙ nat_self n)) in
    other_last ids id m n (is_id id (get_or ids n None)) apart ∙ before (grind (arith, h, apart))

-- A number is among them where its id is this one.
pub among_with : (ids : List (Option ℕ)) (id m n : ℕ) → m < n → is_among m (numbers_below ids id n) ≡ is_id id (get_or ids m None)
among_with ids id m zero h = absurd (omega (arith, h))
among_with ids id m (suc n) h = by_place ids id m n (nat_eq n m) refl h (among_with ids id m n)

-- Those that the index gives are those that have the id.
pub numbers_found : (index : IdIndex) (ids : List (Option ℕ)) (id : ℕ) → IsIndexed index ids → numbers_of index id ≡ numbers_with ids id
numbers_found index ids id is = ap (chain index.before.items (get nat_cmp index.last id)) is.counted ∙ is.found id

none_beyond : (ids : List (Option ℕ)) (m : ℕ) → length ids ≤ m → get_or ids m None ≡ None
none_beyond [] zero h = refl
none_beyond [] (suc m) h = refl
none_beyond (i ∷ ids) zero h = absurd (omega (arith, h))
none_beyond (i ∷ ids) (suc m) h = none_beyond ids m (omega (arith, h))

pub among_all : (ids : List (Option ℕ)) (id m : ℕ) → is_among m (numbers_with ids id) ≡ is_id id (get_or ids m None)
among_all ids id m = by_side (nat_lt m (length ids)) refl where
  by_side : (b : Bool) → nat_lt m (length ids) ≡ b → is_among m (numbers_with ids id) ≡ is_id id (get_or ids m None)
  by_side true e = among_with ids id m (length ids) (grind (arith, nat_tests, e))
  by_side false e =
      let beyond : length ids ≤ m = grind (arith, nat_tests, e) in
      among_below ids id m (length ids) beyond ∙ sym (ap (is_id id) (none_beyond ids m beyond))
