-- Which argument an element is, by the layout of its node.
use Rattle.std.proofs.Common.{◌≡◌, ℕ, suc, ◌+◌, ◌-◌, ◌*◌, ◌<◌, ◌≤◌, refl, ap, sym, arith, Bool, true, false}
use Rattle.std.proofs.lemmas.Bool.{eqb-true, eqb-false, leb-true, leb-false, eq-eqb, ne_eqb}
use Rattle.std.specs.Prelude.{not, ◌&&◌, ◌||◌, ◌%◌, nat_eq, nat_le, if◌then◌else◌}
use Rattle.expr_syntax.specs.Reading.{is_part}
use Rattle.expr_syntax.specs.Rows.{element_place, place, is_last}
use Rattle.expr_syntax.specs.declared.rows.ElementLayout.{ElementLayout}
use Rattle.expr_syntax.specs.declared.rows.ElementLayout.TheVariants.{Arguments, Choices, Value, Items, Cases, Labels, Stops, Ramp, Bindings, Variable, Global, Sections}
use Rattle.expr_syntax.specs.declared.rows.ElementPlace.{ElementPlace}
use Rattle.expr_syntax.specs.declared.rows.ElementPlace.TheVariants.{Part, Argument, Output}
use Rattle.expr_types.specs.ArgumentPaths.{element_of}

-- the element of the argument k of m, of n elements
abbrev pub where_at : ElementLayout → ℕ → ℕ → ℕ → ℕ
where_at Items n m k = k + (n - 1)
where_at layout n m k = element_of layout m k

-- how many elements a node of a layout has
abbrev pub HasElements : ElementLayout → ℕ → Type 0
HasElements Items n = 2 ≤ n
HasElements Labels n = (n % 2 ≡ 1) × (5 ≤ n)
HasElements Bindings n = (n % 2 ≡ 0) × (4 ≤ n)
HasElements layout n = Unit {0}

-- k arguments are before element i
abbrev pub Counted : ElementLayout → ℕ → ℕ → ℕ → Type 0
Counted Items n i k = (i < n → k ≡ 0) × (i ≡ n → k ≡ 1)
Counted Labels n i k = (i < n → (2 * k ≤ i) × (i ≤ 2 * k + 1)) × (i ≡ n → 2 * k ≡ n + 1)
Counted Stops n i k = (i ≤ 1 → k ≡ 0) × (2 ≤ i → (2 * k ≤ i + 1) × (i ≤ 2 * k))
Counted Ramp n i k = (i ≡ 0 → k ≡ 0) × (1 ≤ i → (2 * k + 1 ≤ i) × (i ≤ 2 * k + 2))
Counted Bindings n i k = (i ≡ 0 → k ≡ 0) × (1 ≤ i → i < n → (2 * k + 1 ≤ i) × (i ≤ 2 * k + 2)) × (i ≡ n → 2 * k ≡ n)
Counted Value n i k = k ≡ 0
Counted Variable n i k = k ≡ 0
Counted Global n i k = k ≡ 0
Counted layout n i k = (i ≡ 0 → k ≡ 0) × (1 ≤ i → i ≡ k + 1)

-- an element more
abbrev pub more : Bool → ℕ → ℕ
more b k = if b then k else suc k

abbrev Steps : ElementLayout → ℕ → ℕ → ℕ → Type 0
Steps layout n i k = Counted layout n (i + 1) (more (is_part (element_place layout n i)) k)

items_step : (n i k : ℕ) → 2 ≤ n → Counted Items n i k → Steps Items n i k
items_step n i k some p = by (nat_eq i 0) (nat_eq (i + 1) n) refl refl
  where
    by : (first last : Bool) → nat_eq i 0 ≡ first → nat_eq (i + 1) n ≡ last →
        Counted Items n (i + 1) (more (is_part (if first then Part else if last then Argument else Part)) k)
    by true last f l = (λ less. p.0 (omega arith), λ end. absurd (omega (arith, eqb-true i 0 f)))
    by false true f l = (λ less. absurd (let e = eqb-true (i + 1) n l in omega arith), λ end. let e = p.0 (omega arith) in omega (arith, e))
    by false false f l = (λ less. p.0 (omega arith), λ end. absurd (eqb-false (i + 1) n l end))

not_one : (i : ℕ) → nat_eq i 1 ≡ false → i ≡ 1 → ⊥
not_one i f e = eqb-false i 1 f e

odd_where : (i : ℕ) → nat_eq (i % 2) 0 ≡ false → i % 2 ≡ 1
odd_where i f = let h = eqb-false (i % 2) 0 f in omega arith

labels_step : (n i k : ℕ) → HasElements Labels n → Counted Labels n i k → Steps Labels n i k
labels_step n i k fits p = by (nat_eq i 0) (nat_eq i 1) (nat_le 2 i) (nat_eq (i % 2) 0) (nat_eq (i + 1) n) refl refl refl refl refl
  where
    by : (first second past even last : Bool) → nat_eq i 0 ≡ first → nat_eq i 1 ≡ second → nat_le 2 i ≡ past → nat_eq (i % 2) 0 ≡ even →
        nat_eq (i + 1) n ≡ last →
        Counted Labels n (i + 1) (more (is_part (if first then Part else if second then Argument else if past && (even && not last) then Part else Output)) k)
    by true second past even last f s b e l = (
      λ less. let h = p.0 (omega arith) in let z = eqb-true i 0 f in (omega (arith, h, z), omega (arith, h, z)),
      λ end. absurd (omega (arith, fits, eqb-true i 0 f)),
    )
    by false true past even last f s b e l = (
      λ less. let h = p.0 (omega arith) in let z = eqb-true i 1 s in (omega (arith, h, z), omega (arith, h, z)),
      λ end. absurd (omega (arith, fits, eqb-true i 1 s)),
    )
    by false false false even last f s b e l = absurd (
        let one = leb-false 2 i b in omega (arith, one, eqb-false i 0 f, eqb-false i 1 s))
    by false false true true false f s b e l = (
      λ less. let h = p.0 (omega arith) in let z = eqb-true (i % 2) 0 e in (omega (arith, h, z), omega (arith, h, z)),
      λ end. absurd (eqb-false (i + 1) n l end),
    )
    by false false true true true f s b e l = (
      λ less. absurd (omega (arith, eqb-true (i + 1) n l)),
      λ end. let h = p.0 (omega arith) in let z = eqb-true (i % 2) 0 e in omega (arith, h, z, fits),
    )
    by false false true false last f s b e l = (
      λ less. let h = p.0 (omega arith) in let z = odd_where i e in (omega (arith, h, z), omega (arith, h, z)),
      λ end. absurd (let z = odd_where i e in omega (arith, z, fits)),
    )

stops_step : (n i k : ℕ) → Counted Stops n i k → Steps Stops n i k
stops_step n i k p = by (nat_eq i 0) (nat_eq i 1) (nat_le 3 i) (nat_eq (i % 2) 0) refl refl refl refl
  where
    by : (first second past even : Bool) → nat_eq i 0 ≡ first → nat_eq i 1 ≡ second → nat_le 3 i ≡ past → nat_eq (i % 2) 0 ≡ even →
        Counted Stops n (i + 1) (more (is_part (if first then Part else if second then Argument else if past && not even then Part else Output)) k)
    by true second past even f s b e = (λ less. p.0 (omega arith), λ more. absurd (omega (arith, eqb-true i 0 f)))
    by false true past even f s b e = (
      λ less. absurd (omega (arith, eqb-true i 1 s)),
      λ more. let z = eqb-true i 1 s in let h = p.0 (omega arith) in (omega (arith, h, z), omega (arith, h, z)),
    )
    by false false true true f s b e = (
      λ less. absurd (omega (arith, leb-true 3 i b)),
      λ more. let z = eqb-true (i % 2) 0 e in let q = leb-true 3 i b in let h = p.1 (omega arith) in (omega (arith, h, z), omega (arith, h, z)),
    )
    by false false true false f s b e = (
      λ less. absurd (omega (arith, leb-true 3 i b)),
      λ more. let z = odd_where i e in let q = leb-true 3 i b in let h = p.1 (omega arith) in (omega (arith, h, z), omega (arith, h, z)),
    )
    by false false false even f s b e =
        let two : i ≡ 2 = (let q = leb-false 3 i b in let z = eqb-false i 0 f in let o = eqb-false i 1 s in omega arith) in
        let h = p.1 (omega arith) in (
          λ less. absurd (omega arith),
          λ more. (omega (arith, h, two), omega (arith, h, two)),
        )

ramp_step : (n i k : ℕ) → Counted Ramp n i k → Steps Ramp n i k
ramp_step n i k p = by (nat_eq i 0) (nat_eq (i % 2) 0) refl refl
  where
    by : (first even : Bool) → nat_eq i 0 ≡ first → nat_eq (i % 2) 0 ≡ even →
        Counted Ramp n (i + 1) (more (is_part (if first then Part else if even then Argument else Part)) k)
    by true even f e =
        let z = eqb-true i 0 f in let h = p.0 z in
        (λ end. absurd (omega arith), λ more. (omega (arith, h, z), omega (arith, h, z)))
    by false true f e =
        let z = eqb-true (i % 2) 0 e in let o = eqb-false i 0 f in let h = p.1 (omega arith) in
        (λ end. absurd (omega arith), λ more. (omega (arith, h, z), omega (arith, h, z)))
    by false false f e =
        let z = odd_where i e in let h = p.1 (omega arith) in
        (λ end. absurd (omega arith), λ more. (omega (arith, h, z), omega (arith, h, z)))

bindings_step : (n i k : ℕ) → HasElements Bindings n → Counted Bindings n i k → Steps Bindings n i k
bindings_step n i k fits p = by (nat_eq i 0) (nat_eq (i + 1) n) (nat_eq (i % 2) 0) refl refl refl
  where
    by : (first last even : Bool) → nat_eq i 0 ≡ first → nat_eq (i + 1) n ≡ last → nat_eq (i % 2) 0 ≡ even →
        Counted Bindings n (i + 1) (more (is_part (if first then Part else if last then Output else if even then Argument else Part)) k)
    by true last even f l e =
        let z = eqb-true i 0 f in let h = p.0 z in
        (λ end. absurd (omega arith), λ some less. (omega (arith, h, z), omega (arith, h, z)), λ end. absurd (omega (arith, fits, z)))
    by false true even f l e =
        let o = eqb-false i 0 f in let z = eqb-true (i + 1) n l in let h = p.1 (omega arith) (omega arith) in
        (λ end. absurd (omega arith), λ some less. absurd (omega (arith, z)), λ end. omega (arith, h, z, fits))
    by false false true f l e =
        let o = eqb-false i 0 f in let z = eqb-true (i % 2) 0 e in
        (λ end. absurd (omega arith), λ some less. let h = p.1 (omega arith) (omega arith) in (omega (arith, h, z), omega (arith, h, z)), λ end. absurd (eqb-false (i + 1) n l end))
    by false false false f l e =
        let z = odd_where i e in let o = eqb-false i 0 f in
        (λ end. absurd (omega arith), λ some less. let h = p.1 (omega arith) (omega arith) in (omega (arith, h, z), omega (arith, h, z)), λ end. absurd (eqb-false (i + 1) n l end))

no_step : (i k : ℕ) → k ≡ 0 → more (is_part (if nat_eq i 0 then Part else Part)) k ≡ 0
no_step i k p = by (nat_eq i 0)
  where
    by : (first : Bool) → more (is_part (if first then Part else Part)) k ≡ 0
    by true = p
    by false = p

-- each element after the name is an argument
abbrev AllCounted : ℕ → ℕ → Type 0
AllCounted i k = (i ≡ 0 → k ≡ 0) × (1 ≤ i → i ≡ k + 1)

all_step : (i k : ℕ) (there : ElementPlace) → is_part there ≡ false → AllCounted i k →
    AllCounted (i + 1) (more (is_part (if nat_eq i 0 then Part else there)) k)
all_step i k there never p = by (nat_eq i 0) refl
  where
    by : (first : Bool) → nat_eq i 0 ≡ first → AllCounted (i + 1) (more (is_part (if first then Part else there)) k)
    by true f = let z = eqb-true i 0 f in let h = p.0 z in (λ end. absurd (omega arith), λ some. omega (arith, h, z))
    by false f =
        let o = eqb-false i 0 f in let h = p.1 (omega arith) in let q : more (is_part there) k ≡ suc k = ap (λ b. more b k) never in
        (λ end. absurd (omega arith), λ some. omega (arith, h, q))

case_place : (n i : ℕ) → is_part (place Cases n i) ≡ false
case_place n i = by (is_last n i) (nat_eq (i % 2) 0)
  where
    by : (last even : Bool) → is_part (if last || even then Output else Argument) ≡ false
    by true even = refl
    by false true = refl
    by false false = refl

pub counted_start : (layout : ElementLayout) (n : ℕ) → HasElements layout n → Counted layout n 0 0
counted_start Items n fits = (λ less. refl, λ end. absurd (omega (arith, fits)))
counted_start Labels n fits = (λ less. (omega arith, omega arith), λ end. absurd (omega (arith, fits)))
counted_start Stops n fits = (λ less. refl, λ some. absurd (omega arith))
counted_start Ramp n fits = (λ end. refl, λ some. absurd (omega arith))
counted_start Bindings n fits = (λ end. refl, λ some less. absurd (omega arith), λ end. absurd (omega (arith, fits)))
counted_start Value n fits = refl
counted_start Variable n fits = refl
counted_start Global n fits = refl
counted_start layout n fits = (λ end. refl, λ some. absurd (omega arith))

pub counted_step : (layout : ElementLayout) (n i k : ℕ) → HasElements layout n → Counted layout n i k → Steps layout n i k
counted_step Items n i k fits p = items_step n i k fits p
counted_step Labels n i k fits p = labels_step n i k fits p
counted_step Stops n i k fits p = stops_step n i k p
counted_step Ramp n i k fits p = ramp_step n i k p
counted_step Bindings n i k fits p = bindings_step n i k fits p
counted_step Value n i k fits p = no_step i k p
counted_step Variable n i k fits p = no_step i k p
counted_step Global n i k fits p = no_step i k p
counted_step Cases n i k fits p = all_step i k (place Cases n i) (case_place n i) p
counted_step Arguments n i k fits p = all_step i k Argument refl p
counted_step Choices n i k fits p = all_step i k Output refl p
counted_step Sections n i k fits p = all_step i k Argument refl p

-- ---- where the argument k of m is

labels_at : (n e : ℕ) → is_part (element_place Labels n e) ≡ false → (1 ≤ e) × (e % 2 ≡ 0 → e + 1 ≡ n)
labels_at n e h = by (nat_eq e 0) (nat_eq e 1) (nat_le 2 e) (nat_eq (e % 2) 0) (nat_eq (e + 1) n) refl refl refl refl refl h
  where
    by : (first second past even last : Bool) → nat_eq e 0 ≡ first → nat_eq e 1 ≡ second → nat_le 2 e ≡ past → nat_eq (e % 2) 0 ≡ even →
        nat_eq (e + 1) n ≡ last →
        is_part (if first then Part else if second then Argument else if past && (even && not last) then Part else Output) ≡ false →
        (1 ≤ e) × (e % 2 ≡ 0 → e + 1 ≡ n)
    by true second past even last f s b v l h = absurd (cc)
    by false true past even last f s b v l h = let z = eqb-true e 1 s in (omega arith, λ two. absurd (omega (arith, two, z)))
    by false false false even last f s b v l h = absurd (let q = leb-false 2 e b in omega (arith, eqb-false e 0 f, eqb-false e 1 s))
    by false false true true false f s b v l h = absurd (cc)
    by false false true true true f s b v l h = let o = eqb-false e 0 f in (omega arith, λ two. eqb-true (e + 1) n l)
    by false false true false last f s b v l h = let o = eqb-false e 0 f in (omega arith, λ two. absurd (eqb-false (e % 2) 0 v two))

labels_spot : (n m e k : ℕ) → HasElements Labels n → Counted Labels n n m → Counted Labels n e k → is_part (element_place Labels n e) ≡ false → e < n →
    e ≡ where_at Labels n m k
labels_spot n m e k fits all p h less = by (nat_eq k 0) (nat_eq (k + 1) m) (nat_eq (e % 2) 0) refl refl refl
  where
    by : (first last even : Bool) → nat_eq k 0 ≡ first → nat_eq (k + 1) m ≡ last → nat_eq (e % 2) 0 ≡ even →
        e ≡ (if first then 1 else if last then 2 * k else 2 * k + 1)
    by true last even f l v =
        let whole = all.1 refl in let here = p.0 less in let spot = labels_at n e h in let z = eqb-true k 0 f in
        omega (arith, here, spot.0, z)
    by false true true f l v =
        let whole = all.1 refl in let here = p.0 less in let z = eqb-true (k + 1) m l in let two = eqb-true (e % 2) 0 v in
        let end = (labels_at n e h).1 two in omega (arith, here, z, two, end, whole)
    by false true false f l v =
        let whole = all.1 refl in let here = p.0 less in let z = eqb-true (k + 1) m l in let one = odd_where e v in
        absurd (omega (arith, here, z, one, whole, less))
    by false false true f l v =
        let whole = all.1 refl in let here = p.0 less in let z = eqb-false (k + 1) m l in let two = eqb-true (e % 2) 0 v in
        let end = (labels_at n e h).1 two in absurd (z (omega (arith, here, two, end, whole)))
    by false false false f l v = let here = p.0 less in let one = odd_where e v in omega (arith, here, one)

stops_at : (n e : ℕ) → is_part (element_place Stops n e) ≡ false → (1 ≤ e) × (3 ≤ e → e % 2 ≡ 0)
stops_at n e h = by (nat_eq e 0) (nat_eq e 1) (nat_le 3 e) (nat_eq (e % 2) 0) refl refl refl refl h
  where
    by : (first second past even : Bool) → nat_eq e 0 ≡ first → nat_eq e 1 ≡ second → nat_le 3 e ≡ past → nat_eq (e % 2) 0 ≡ even →
        is_part (if first then Part else if second then Argument else if past && not even then Part else Output) ≡ false →
        (1 ≤ e) × (3 ≤ e → e % 2 ≡ 0)
    by true second past even f s b v h = absurd (cc)
    by false true past even f s b v h = let z = eqb-true e 1 s in (omega arith, λ three. absurd (omega (arith, three, z)))
    by false false true true f s b v h = let o = eqb-false e 0 f in (omega arith, λ three. eqb-true (e % 2) 0 v)
    by false false true false f s b v h = absurd (cc)
    by false false false even f s b v h = let o = eqb-false e 0 f in (omega arith, λ three. absurd (let q = leb-false 3 e b in omega arith))

stops_spot : (n m e k : ℕ) → Counted Stops n e k → is_part (element_place Stops n e) ≡ false → e ≡ where_at Stops n m k
stops_spot n m e k p h = by (nat_eq k 0) (nat_le 2 e) (nat_le 3 e) refl refl refl
  where
    by : (first past third : Bool) → nat_eq k 0 ≡ first → nat_le 2 e ≡ past → nat_le 3 e ≡ third → e ≡ (if first then 1 else 2 * k)
    by true true third f b c = let here = p.1 (leb-true 2 e b) in let z = eqb-true k 0 f in absurd (let q = leb-true 2 e b in omega (arith, here, z))
    by true false third f b c = let some = (stops_at n e h).0 in let q = leb-false 2 e b in omega (arith, some)
    by false true true f b c = let here = p.1 (leb-true 2 e b) in let two = (stops_at n e h).1 (leb-true 3 e c) in omega (arith, here, two)
    by false true false f b c = let here = p.1 (leb-true 2 e b) in let q = leb-true 2 e b in let r = leb-false 3 e c in omega (arith, here)
    by false false third f b c = let q = leb-false 2 e b in absurd (eqb-false k 0 f (p.0 (omega arith)))

ramp_at : (n e : ℕ) → is_part (element_place Ramp n e) ≡ false → (1 ≤ e) × (e % 2 ≡ 0)
ramp_at n e h = by (nat_eq e 0) (nat_eq (e % 2) 0) refl refl h
  where
    by : (first even : Bool) → nat_eq e 0 ≡ first → nat_eq (e % 2) 0 ≡ even → is_part (if first then Part else if even then Argument else Part) ≡ false →
        (1 ≤ e) × (e % 2 ≡ 0)
    by true even f v h = absurd (cc)
    by false true f v h = let o = eqb-false e 0 f in (omega arith, eqb-true (e % 2) 0 v)
    by false false f v h = absurd (cc)

bindings_at : (n e : ℕ) → is_part (element_place Bindings n e) ≡ false → (1 ≤ e) × (e % 2 ≡ 1 → e + 1 ≡ n)
bindings_at n e h = by (nat_eq e 0) (nat_eq (e + 1) n) (nat_eq (e % 2) 0) refl refl refl h
  where
    by : (first last even : Bool) → nat_eq e 0 ≡ first → nat_eq (e + 1) n ≡ last → nat_eq (e % 2) 0 ≡ even →
        is_part (if first then Part else if last then Output else if even then Argument else Part) ≡ false →
        (1 ≤ e) × (e % 2 ≡ 1 → e + 1 ≡ n)
    by true last even f l v h = absurd (cc)
    by false true even f l v h = let o = eqb-false e 0 f in (omega arith, λ one. eqb-true (e + 1) n l)
    by false false true f l v h = let o = eqb-false e 0 f in (omega arith, λ one. absurd (let z = eqb-true (e % 2) 0 v in omega (arith, one, z)))
    by false false false f l v h = absurd (cc)

-- the last element of a `let` is its last argument
pub last_spot : (n m e k : ℕ) → HasElements Bindings n → Counted Bindings n n m → Counted Bindings n e k →
    is_part (element_place Bindings n e) ≡ false → e < n → is_last n e ≡ is_last m k
last_spot n m e k fits all p h less = by (nat_eq (e + 1) n) refl
  where
    by : (last : Bool) → nat_eq (e + 1) n ≡ last → last ≡ nat_eq (k + 1) m
    by true l =
        let spot = bindings_at n e h in let here = p.1 spot.0 less in let whole = all.2 refl in let z = eqb-true (e + 1) n l in
        sym (eq-eqb (k + 1) m (omega (arith, here, whole, z, fits)))
    by false l =
        let spot = bindings_at n e h in let here = p.1 spot.0 less in let whole = all.2 refl in let z = eqb-false (e + 1) n l in
        sym (ne_eqb (k + 1) m (λ same. z (omega (arith, here, whole, fits, same, less))))

bindings_spot : (n m e k : ℕ) → HasElements Bindings n → Counted Bindings n n m → Counted Bindings n e k →
    is_part (element_place Bindings n e) ≡ false → e < n → e ≡ where_at Bindings n m k
bindings_spot n m e k fits all p h less = by (nat_eq (k + 1) m) (nat_eq (e % 2) 0) refl refl
  where
    by : (last even : Bool) → nat_eq (k + 1) m ≡ last → nat_eq (e % 2) 0 ≡ even → e ≡ (if last then 2 * k + 1 else 2 * k + 2)
    by true true l v =
        let spot = bindings_at n e h in let here = p.1 spot.0 less in let whole = all.2 refl in let z = eqb-true (k + 1) m l in
        let two = eqb-true (e % 2) 0 v in absurd (omega (arith, here, whole, z, two, less))
    by true false l v =
        let spot = bindings_at n e h in let here = p.1 spot.0 less in let one = odd_where e v in omega (arith, here, one)
    by false true l v = let spot = bindings_at n e h in let here = p.1 spot.0 less in let two = eqb-true (e % 2) 0 v in omega (arith, here, two)
    by false false l v =
        let spot = bindings_at n e h in let here = p.1 spot.0 less in let whole = all.2 refl in let z = eqb-false (k + 1) m l in
        let one = odd_where e v in let end = spot.1 one in absurd (z (omega (arith, here, whole, one, end)))

items_at : (n e : ℕ) → is_part (element_place Items n e) ≡ false → e + 1 ≡ n
items_at n e h = by (nat_eq e 0) (nat_eq (e + 1) n) refl h
  where
    by : (first last : Bool) → nat_eq (e + 1) n ≡ last → is_part (if first then Part else if last then Argument else Part) ≡ false → e + 1 ≡ n
    by true last l h = absurd (cc)
    by false true l h = eqb-true (e + 1) n l
    by false false l h = absurd (cc)

not_none : (e : ℕ) → is_part (if nat_eq e 0 then Part else Part) ≡ false → ⊥
not_none e h = by (nat_eq e 0) h
  where
    by : (first : Bool) → is_part (if first then Part else Part) ≡ false → ⊥
    by true h = absurd (cc)
    by false h = absurd (cc)

all_at : (e k : ℕ) (there : ElementPlace) → AllCounted e k → is_part (if nat_eq e 0 then Part else there) ≡ false → e ≡ k + 1
all_at e k there p h = by (nat_eq e 0) refl h
  where
    by : (first : Bool) → nat_eq e 0 ≡ first → is_part (if first then Part else there) ≡ false → e ≡ k + 1
    by true f h = absurd (cc)
    by false f h = let o = eqb-false e 0 f in p.1 (omega arith)

-- the element that is no part, before which k arguments are, is that of the argument k
pub spot : (layout : ElementLayout) (n m e k : ℕ) → HasElements layout n → Counted layout n n m → Counted layout n e k →
    is_part (element_place layout n e) ≡ false → e < n → e ≡ where_at layout n m k
spot Items n m e k fits all p h less = let end = items_at n e h in let none = p.0 less in omega (arith, end, none)
spot Labels n m e k fits all p h less = labels_spot n m e k fits all p h less
spot Stops n m e k fits all p h less = stops_spot n m e k p h
spot Ramp n m e k fits all p h less = let at = ramp_at n e h in let here = p.1 at.0 in omega (arith, here, at.1)
spot Bindings n m e k fits all p h less = bindings_spot n m e k fits all p h less
spot Value n m e k fits all p h less = absurd (not_none e h)
spot Variable n m e k fits all p h less = absurd (not_none e h)
spot Global n m e k fits all p h less = absurd (not_none e h)
spot Cases n m e k fits all p h less = all_at e k (place Cases n e) p h
spot Arguments n m e k fits all p h less = all_at e k Argument p h
spot Choices n m e k fits all p h less = all_at e k Output p h
spot Sections n m e k fits all p h less = all_at e k Argument p h
