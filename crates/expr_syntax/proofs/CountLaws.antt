-- How many of the elements of a node are arguments, and how many are parts.
use Rattle.std.proofs.Common.{◌≡◌, ℕ, zero, suc, ◌+◌, ◌-◌, ◌*◌, ◌<◌, ◌≤◌, List, [], ◌∷◌, length, refl, sym, ap, ◌∙◌, arith, true, false, inl, inr}
use Rattle.std.proofs.lemmas.Bool.{ne_eqb, eq-eqb, eqb-true, le-leb, lt-leb, cases_Bool, cases_order, false≢true}
use Rattle.std.specs.Prelude.{Bool, not, ◌&&◌, nat_eq, nat_le, ◌%◌, if◌then◌else◌}
use Rattle.decimal_json.specs.Tree.{Tree, Trees, no_trees, tree}
use Rattle.expr_syntax.specs.declared.rows.ElementLayout.{ElementLayout}
use Rattle.expr_syntax.specs.declared.rows.ElementLayout.TheVariants.{Labels, Stops, Ramp, Bindings, Variable}
use Rattle.expr_syntax.specs.declared.rows.ElementPlace.{ElementPlace}
use Rattle.expr_syntax.specs.declared.rows.ElementPlace.TheVariants.{Part, Argument, Output}
use Rattle.expr_syntax.specs.Elements.{taken}
use Rattle.expr_syntax.specs.Reading.{is_part}
use Rattle.expr_syntax.specs.Rows.{element_place, place, is_even, is_last, is_input, is_label, is_binder}

-- how many of the k elements from place i on, of n elements, are arguments
abbrev pub count_arguments : ElementLayout → ℕ → ℕ → ℕ → ℕ
count_arguments layout n i zero = 0
count_arguments layout n i (suc k) =
    if is_part (element_place layout n i) then count_arguments layout n (i + 1) k else suc (count_arguments layout n (i + 1) k)

abbrev pub count_trees : Trees → ℕ
count_trees no_trees = 0
count_trees (tree t ts) = suc (count_trees ts)

right_false : (b : Bool) → (b && false) ≡ false
right_false true = refl
right_false false = refl

-- ---- parity

not_zero : (i : ℕ) → 0 < i → nat_eq i 0 ≡ false
not_zero i h = ne_eqb i 0 (λ e. omega arith)

pub is_odd : (i : ℕ) → i % 2 ≡ 1 → is_even i ≡ false
is_odd i h = ne_eqb (i % 2) 0 (λ e. omega arith)

pub is_even_at : (i : ℕ) → i % 2 ≡ 0 → is_even i ≡ true
is_even_at i h = eq-eqb (i % 2) 0 h

pub even_next : (i : ℕ) → i % 2 ≡ 1 → (i + 1) % 2 ≡ 0
even_next i h = omega arith

pub odd_next : (i : ℕ) → i % 2 ≡ 0 → (i + 1) % 2 ≡ 1
odd_next i h = omega arith

last_at : (n i : ℕ) → i + 1 ≡ n → is_last n i ≡ true
last_at n i h = eq-eqb (i + 1) n h

not_last : (n i : ℕ) → i + 1 < n → is_last n i ≡ false
not_last n i h = ne_eqb (i + 1) n (λ e. omega arith)

-- ---- places after the name

-- an element after the name is what its layout says
pub behind : (layout : ElementLayout) (n i : ℕ) → 0 < i → element_place layout n i ≡ place layout n i
behind layout n i h = ap (λ b. if b then Part else place layout n i) (not_zero i h)

part_if : (b : Bool) → is_part (if b then Part else Output) ≡ b
part_if true = refl
part_if false = refl

part_unless : (b : Bool) → is_part (if b then Argument else Part) ≡ not b
part_unless true = refl
part_unless false = refl

-- ---- where each element is an argument, and where none is

counted : (b : Bool) (c d : ℕ) → b ≡ false → c ≡ d → (if b then c else suc c) ≡ suc d
counted true c d h e = absurd (cc)
counted false c d h e = ap suc e

skipped : (b : Bool) (c d : ℕ) → b ≡ true → c ≡ d → (if b then c else suc c) ≡ d
skipped true c d h e = e
skipped false c d h e = absurd (cc)

all_behind : (layout : ElementLayout) → ((n i : ℕ) → is_part (place layout n i) ≡ false) → (n i k : ℕ) → 0 < i → count_arguments layout n i k ≡ k
all_behind layout never n i zero h = refl
all_behind layout never n i (suc k) h =
    counted (is_part (element_place layout n i)) (count_arguments layout n (i + 1) k) k
    (ap is_part (behind layout n i h) ∙ never n i)
    (all_behind layout never n (i + 1) k (omega arith))

-- where no element is a part, all but the name are arguments
pub all_arguments : (layout : ElementLayout) → ((n i : ℕ) → is_part (place layout n i) ≡ false) → (n : ℕ) → count_arguments layout n 0 n ≡ n - 1
all_arguments layout never zero = refl
all_arguments layout never (suc k) =
    let e : count_arguments layout (suc k) 1 k ≡ k = all_behind layout never (suc k) 1 k (omega arith) in
    e ∙ omega arith

none_behind : (n i k : ℕ) → 0 < i → count_arguments Variable n i k ≡ 0
none_behind n i zero h = refl
none_behind n i (suc k) h =
    skipped (is_part (element_place Variable n i)) (count_arguments Variable n (i + 1) k) 0
    (ap is_part (behind Variable n i h))
    (none_behind n (i + 1) k (omega arith))

pub no_argument : (n : ℕ) → count_arguments Variable n 0 n ≡ 0
no_argument zero = refl
no_argument (suc k) = none_behind (suc k) 1 k (omega arith)

-- ---- arguments and parts are all elements

-- from a place on the elements that a test takes are the parts
abbrev pub TakesParts : (ℕ → ℕ → Bool) → ElementLayout → ℕ → ℕ → Type 0
TakesParts test layout n from = (i : ℕ) → from ≤ i → is_part (element_place layout n i) ≡ test n i

one_more : (b c : Bool) (t : Tree) (taken_later : List Tree) (later k : ℕ) → b ≡ c → later + length taken_later ≡ k → (if b then later else suc later) + length (if c then t ∷ taken_later else taken_later) ≡ suc k
one_more true true t taken_later later k e h = omega arith
one_more false false t taken_later later k e h = omega arith
one_more true false t taken_later later k e h = absurd (cc)
one_more false true t taken_later later k e h = absurd (cc)

pub arguments_and_parts : (test : ℕ → ℕ → Bool) (layout : ElementLayout) (n from : ℕ) → TakesParts test layout n from → (ts : Trees) (i : ℕ) → from ≤ i → count_arguments layout n i (count_trees ts) + length (taken test n i ts) ≡ count_trees ts
arguments_and_parts test layout n from same no_trees i h = refl
arguments_and_parts test layout n from same (tree t ts) i h =
    one_more (is_part (element_place layout n i)) (test n i) t (taken test n (i + 1) ts) (count_arguments layout n (i + 1) (count_trees ts)) (count_trees ts)
    (same i h) (arguments_and_parts test layout n from same ts (i + 1) (omega arith))

one_differs : (i : ℕ) (a b : ElementPlace) (c : Bool) → (nat_eq i 1 ≡ true → c ≡ false) → is_part b ≡ c → is_part a ≡ false → is_part (if nat_eq i 1 then a else b) ≡ c
one_differs i a b c first later none = elim (cases_Bool (nat_eq i 1)) [
  | inl e ↦ ap (λ x. is_part (if x then a else b)) e ∙ (none ∙ sym (first e))
  | inr e ↦ ap (λ x. is_part (if x then a else b)) e ∙ later
]

at_one : (i : ℕ) → nat_eq i 1 ≡ true → (k : ℕ) → 2 ≤ k → nat_le k i ≡ false
at_one i e k h = lt-leb k i (let one : i ≡ 1 = eqb-true i 1 e in omega arith)

pub stop_parts : (n : ℕ) → TakesParts (λ n i. is_input i) Stops n 1
stop_parts n i h =
    ap is_part (behind Stops n i h)
    ∙ one_differs i Argument (if is_input i then Part else Output) (is_input i)
    (λ e. ap (λ b. b && not (is_even i)) (at_one i e 3 (omega arith))) (part_if (is_input i)) refl

pub label_parts : (n : ℕ) → TakesParts is_label Labels n 1
label_parts n i h =
    ap is_part (behind Labels n i h)
    ∙ one_differs i Argument (if is_label n i then Part else Output) (is_label n i)
    (λ e. ap (λ b. b && (is_even i && not (is_last n i))) (at_one i e 2 (omega arith))) (part_if (is_label n i)) refl

three_at : (i : ℕ) → 2 ≤ i → (i ≡ 2 → ⊥) → 3 ≤ i
three_at i h other = elim (cases_order i 2) [
  | inl e ↦ absurd (other e)
  | inr less ↦ omega arith
]

even_two : (i : ℕ) → i ≡ 2 → is_even i ≡ false → ⊥
even_two i two e = false≢true (sym e ∙ is_even_at i (ap (λ k. k % 2) two))

odd_is_input : (i : ℕ) → 2 ≤ i → (b : Bool) → is_even i ≡ b → not b ≡ is_input i
odd_is_input i h true e = sym (ap (λ b. nat_le 3 i && not b) e ∙ right_false (nat_le 3 i))
odd_is_input i h false e =
    let three : 3 ≤ i = three_at i h (λ two. even_two i two e) in
    sym (ap (λ b. nat_le 3 i && not b) e ∙ ap (λ b. b && true) (le-leb 3 i three))

-- inputs are at odd places from 3 on, and nothing else is at an odd place from 2 on
pub ramp_parts : (n : ℕ) → TakesParts (λ n i. is_input i) Ramp n 2
ramp_parts n i h =
    ap is_part (behind Ramp n i (omega arith)) ∙ (part_unless (is_even i) ∙ odd_is_input i h (is_even i) refl)

by_last : (b c : Bool) → is_part (if b then Output else if c then Argument else Part) ≡ (not c && not b)
by_last true true = refl
by_last true false = refl
by_last false true = refl
by_last false false = refl

pub binder_parts : (n : ℕ) → TakesParts is_binder Bindings n 1
binder_parts n i h = ap is_part (behind Bindings n i h) ∙ by_last (is_last n i) (is_even i)

-- ---- how many parts there are

more : (b : Bool) (t : Tree) (ts : List Tree) → b ≡ true → length (if b then t ∷ ts else ts) ≡ suc (length ts)
more true t ts e = refl
more false t ts e = absurd (cc)

same : (b : Bool) (t : Tree) (ts : List Tree) → b ≡ false → length (if b then t ∷ ts else ts) ≡ length ts
same true t ts e = absurd (cc)
same false t ts e = refl

input_at : (i : ℕ) → i % 2 ≡ 1 → 3 ≤ i → is_input i ≡ true
input_at i odd three = ap (λ b. nat_le 3 i && not b) (is_odd i odd) ∙ ap (λ b. b && true) (le-leb 3 i three)

no_input : (i : ℕ) → i % 2 ≡ 0 → is_input i ≡ false
no_input i even = ap (λ b. nat_le 3 i && not b) (is_even_at i even) ∙ right_false (nat_le 3 i)

ends : (b c : Bool) → (b && (c && false)) ≡ false
ends true true = refl
ends true false = refl
ends false c = refl

-- inputs from an odd place on are half of the elements
pub half_inputs : (n : ℕ) (ts : Trees) (i : ℕ) → i % 2 ≡ 1 → 3 ≤ i → count_trees ts % 2 ≡ 0 → 2 * length (taken (λ n i. is_input i) n i ts) ≡ count_trees ts
half_inputs n no_trees i odd three even = refl
half_inputs n (tree a no_trees) i odd three even = absurd (omega arith)
half_inputs n (tree a (tree b ts)) i odd three even =
    let here : is_input i ≡ true = input_at i odd three in
    let next : is_input (i + 1) ≡ false = no_input (i + 1) (even_next i odd) in
    let rest : 2 * length (taken (λ n i. is_input i) n (i + 1 + 1) ts) ≡ count_trees ts = half_inputs n ts (i + 1 + 1) (odd_next (i + 1) (even_next i odd)) (omega arith) (omega arith) in
    let first : length (taken (λ n i. is_input i) n i (tree a (tree b ts))) ≡ suc (length (taken (λ n i. is_input i) n (i + 1) (tree b ts))) = more (is_input i) a (taken (λ n i. is_input i) n (i + 1) (tree b ts)) here in
    let second : length (taken (λ n i. is_input i) n (i + 1) (tree b ts)) ≡ length (taken (λ n i. is_input i) n (i + 1 + 1) ts) = same (is_input (i + 1)) b (taken (λ n i. is_input i) n (i + 1 + 1) ts) next in
    omega (arith, first, second, rest)

-- names of bindings from an odd place on are half of the elements but the last
pub half_binders : (n : ℕ) (ts : Trees) (i : ℕ) → i % 2 ≡ 1 → i + count_trees ts ≡ n → count_trees ts % 2 ≡ 1 → 2 * length (taken is_binder n i ts) + 1 ≡ count_trees ts
half_binders n no_trees i odd whole count = absurd (omega arith)
half_binders n (tree a no_trees) i odd whole count =
    let here : is_binder n i ≡ false = ap (λ b. not (is_even i) && not b) (last_at n i (omega arith)) ∙ right_false (not (is_even i)) in
    let none : length (taken is_binder n i (tree a no_trees)) ≡ 0 = same (is_binder n i) a [] here in
    omega (arith, none)
half_binders n (tree a (tree b ts)) i odd whole count =
    let here : is_binder n i ≡ true = ap (λ c. not c && not (is_last n i)) (is_odd i odd) ∙ ap not (not_last n i (omega arith)) in
    let next : is_binder n (i + 1) ≡ false = ap (λ c. not c && not (is_last n (i + 1))) (is_even_at (i + 1) (even_next i odd)) in
    let rest : 2 * length (taken is_binder n (i + 1 + 1) ts) + 1 ≡ count_trees ts = half_binders n ts (i + 1 + 1) (odd_next (i + 1) (even_next i odd)) (omega arith) (omega arith) in
    let first : length (taken is_binder n i (tree a (tree b ts))) ≡ suc (length (taken is_binder n (i + 1) (tree b ts))) = more (is_binder n i) a (taken is_binder n (i + 1) (tree b ts)) here in
    let second : length (taken is_binder n (i + 1) (tree b ts)) ≡ length (taken is_binder n (i + 1 + 1) ts) = same (is_binder n (i + 1)) b (taken is_binder n (i + 1 + 1) ts) next in
    omega (arith, first, second, rest)

-- labels from an even place on are half of the elements but the last
pub half_labels : (n : ℕ) (ts : Trees) (i : ℕ) → i % 2 ≡ 0 → 2 ≤ i → i + count_trees ts ≡ n → count_trees ts % 2 ≡ 1 → 2 * length (taken is_label n i ts) + 1 ≡ count_trees ts
half_labels n no_trees i even two whole count = absurd (omega arith)
half_labels n (tree a no_trees) i even two whole count =
    let here : is_label n i ≡ false = ap (λ b. nat_le 2 i && (is_even i && not b)) (last_at n i (omega arith)) ∙ ends (nat_le 2 i) (is_even i) in
    let none : length (taken is_label n i (tree a no_trees)) ≡ 0 = same (is_label n i) a [] here in
    omega (arith, none)
half_labels n (tree a (tree b ts)) i even two whole count =
    let here : is_label n i ≡ true =
    ap (λ c. nat_le 2 i && (c && not (is_last n i))) (is_even_at i even)
    ∙ (ap (λ c. c && not (is_last n i)) (le-leb 2 i two) ∙ ap not (not_last n i (omega arith))) in
    let next : is_label n (i + 1) ≡ false = ap (λ c. nat_le 2 (i + 1) && (c && not (is_last n (i + 1)))) (is_odd (i + 1) (odd_next i even)) ∙ right_false (nat_le 2 (i + 1)) in
    let rest : 2 * length (taken is_label n (i + 1 + 1) ts) + 1 ≡ count_trees ts = half_labels n ts (i + 1 + 1) (even_next (i + 1) (odd_next i even)) (omega arith) (omega arith) (omega arith) in
    let first : length (taken is_label n i (tree a (tree b ts))) ≡ suc (length (taken is_label n (i + 1) (tree b ts))) = more (is_label n i) a (taken is_label n (i + 1) (tree b ts)) here in
    let second : length (taken is_label n (i + 1) (tree b ts)) ≡ length (taken is_label n (i + 1 + 1) ts) = same (is_label n (i + 1)) b (taken is_label n (i + 1 + 1) ts) next in
    omega (arith, first, second, rest)
