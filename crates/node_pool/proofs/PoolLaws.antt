-- The node of a number, by those before it.
use Rattle.std.specs.Prelude.{Bool, true, false, ◌&&◌, nat_le}
use Rattle.std.proofs.Common.{◌≡◌, ℕ, ◌+◌, ◌-◌, ◌<◌, ◌≤◌, zero, suc, List, [], ◌∷◌, ◌++◌, length, take, drop, Some, unwrap_or, refl, arith, sym, ap, ◌∙◌, subst}
use Rattle.std.proofs.lemmas.Bool.Decides.{nat_tests}
use Rattle.std.proofs.lemmas.List.{append-nil, append_assoc, length_push, length-drop, length-take-le, take_at, take_all}
use Rattle.std.specs.List.{slice_get}
use Rattle.prop_values.specs.declared.kinds.Want.{Want}
use Rattle.expr_syntax.specs.declared.expression.Operator.{Operator}
use Rattle.expr_nodes.specs.Node.{Node, inner, children, children_of}
use Rattle.expr_nodes.proofs.NodeLaws.{listed_again}
use Rattle.node_pool.specs.Pooled.{nodes_from, argument_range, node_by, nodes_after, pooled_nodes, node_in, last_node, follows, are_ordered}
use Rattle.node_pool.specs.declared.pooled_node.PooledNode.{PooledNode}
use Rattle.node_pool.specs.declared.pooled_node.PooledNode.TheVariants.{Constant, Faulty, Asked, Property, Inner}

-- ---- truth values

pub and_first : (a b : Bool) → (a && b) ≡ true → a ≡ true
and_first true b e = refl
and_first false b e = absurd (cc)

pub and_second : (a b : Bool) → (a && b) ≡ true → b ≡ true
and_second true b e = e
and_second false b e = absurd (cc)

pub and_true : (a b : Bool) → a ≡ true → b ≡ true → (a && b) ≡ true
and_true true b d e = e
and_true false b d e = absurd (cc)

pub at_most : (x y : ℕ) → nat_le x y ≡ true → x ≤ y
at_most x y t = grind (arith, nat_tests)

pub at_most_true : (x y : ℕ) → x ≤ y → nat_le x y ≡ true
at_most_true x y t = grind (arith, nat_tests)

pub follows_later : (p : PooledNode) (k j : ℕ) → k ≤ j → follows p k ≡ true → follows p j ≡ true
follows_later p k j h f =
    let x = (argument_range p).0 + (argument_range p).1 in
    let b = at_most x k f in
    at_most_true x j (omega (arith, b, h))

-- ---- places of lists

pub get_take : {X : Type 0} (n i : ℕ) (xs : List X) → i < n → slice_get (take n xs) i ≡ slice_get xs i
get_take zero i xs h = absurd (omega (arith, h))
get_take (suc n) i [] h = refl
get_take (suc n) zero (x ∷ xs) h = refl
get_take (suc n) (suc i) (x ∷ xs) h = get_take n i xs (omega (arith, h))

pub get_drop : {X : Type 0} (n i : ℕ) (xs : List X) → slice_get (drop n xs) i ≡ slice_get xs (n + i)
get_drop zero i xs = let e : i ≡ 0 + i = omega arith in ap (slice_get xs) e
get_drop (suc n) i [] = refl
get_drop (suc n) i (x ∷ xs) = let e : suc (n + i) ≡ suc n + i = omega arith in get_drop n i xs ∙ ap (slice_get (x ∷ xs)) e

pub get_here : {X : Type 0} (xs : List X) (y : X) (ys : List X) (n : ℕ) → n ≡ length xs → slice_get (xs ++ y ∷ ys) n ≡ Some y
get_here [] y ys n e = ap (slice_get (y ∷ ys)) e
get_here (x ∷ xs) y ys n e = ap (slice_get (x ∷ (xs ++ y ∷ ys))) e ∙ get_here xs y ys (length xs) refl

pub there : {X : Type 0} (xs : List X) (i : ℕ) → i < length xs → (x : X) × (slice_get xs i ≡ Some x)
there [] i h = absurd (omega (arith, h))
there (x ∷ xs) zero h = (x, refl)
there (x ∷ xs) (suc i) h = there xs i (omega (arith, h))

-- ---- the nodes of a list

pub after_more : (ps : List PooledNode) (ns : List Node) → (us : List Node) × (nodes_after ns ps ≡ ns ++ us)
after_more [] ns = ([], sym (append-nil ns))
after_more (p ∷ ps) ns =
    let m = node_by p ns in
    let r = after_more ps (ns ++ m ∷ []) in
    (m ∷ r.0, r.1 ∙ append_assoc ns (m ∷ []) r.0)

pub after_length : (ps : List PooledNode) (ns : List Node) → length (nodes_after ns ps) ≡ length ns + length ps
after_length [] ns = omega arith
after_length (p ∷ ps) ns =
    let m = node_by p ns in
    let l = length_push ns m in
    let r = after_length ps (ns ++ m ∷ []) in
    omega (arith, l, r)

pub pooled_length : (ps : List PooledNode) → length (pooled_nodes ps) ≡ length ps
pooled_length ps = let r = after_length ps [] in omega (arith, r)

pub after_append : (ps qs : List PooledNode) (ns : List Node) → nodes_after ns (ps ++ qs) ≡ nodes_after (nodes_after ns ps) qs
after_append [] qs ns = refl
after_append (p ∷ ps) qs ns = after_append ps qs (ns ++ node_by p ns ∷ [])

after_take : (m : ℕ) (ps : List PooledNode) (ns : List Node) → nodes_after ns (take m ps) ≡ take (length ns + m) (nodes_after ns ps)
after_take zero ps ns =
    let r = after_more ps ns in
    let z : length ns ≡ length ns + 0 = omega arith in
    sym (ap (take (length ns + 0)) r.1 ∙ take_at ns r.0 (length ns + 0) z)
after_take (suc m) [] ns = sym (take_all (length ns + suc m) ns (omega arith))
after_take (suc m) (p ∷ ps) ns =
    let x = node_by p ns in
    let l = length_push ns x in
    let e : length (ns ++ x ∷ []) + m ≡ length ns + suc m = omega (arith, l) in
    after_take m ps (ns ++ x ∷ []) ∙ ap (λ k. take k (nodes_after (ns ++ x ∷ []) ps)) e

pub front_nodes : (m : ℕ) (ps : List PooledNode) → pooled_nodes (take m ps) ≡ take m (pooled_nodes ps)
front_nodes m ps =
    let e : 0 + m ≡ m = omega arith in
    after_take m ps [] ∙ ap (λ k. take k (pooled_nodes ps)) e

node_after : (ps : List PooledNode) (ns : List Node) (k : ℕ) (p : PooledNode) → slice_get ps k ≡ Some p →
    slice_get (nodes_after ns ps) (length ns + k) ≡ Some (node_by p (take (length ns + k) (nodes_after ns ps)))
node_after [] ns k p e = absurd (cc)
node_after (q ∷ ps) ns zero p e =
    let m = node_by q ns in
    let r = after_more ps (ns ++ m ∷ []) in
    let all = nodes_after (ns ++ m ∷ []) ps in
    let j = length ns + 0 in
    let z : length ns ≡ j = omega arith in
    let whole : all ≡ ns ++ m ∷ r.0 = r.1 ∙ append_assoc ns (m ∷ []) r.0 in
    let front : take j all ≡ ns = ap (take j) whole ∙ take_at ns (m ∷ r.0) j z in
    let same : q ≡ p = ap (λ o. unwrap_or o q) e in
    ap (λ xs. slice_get xs j) whole
    ∙ (get_here ns m r.0 j (sym z)
    ∙ (ap (λ xs. Some (node_by q xs)) (sym front)
    ∙ ap (λ y. Some (node_by y (take j all))) same))
node_after (q ∷ ps) ns (suc k) p e =
    let m = node_by q ns in
    let all = nodes_after (ns ++ m ∷ []) ps in
    let l = length_push ns m in
    let w : length (ns ++ m ∷ []) + k ≡ length ns + suc k = omega (arith, l) in
    let P : ℕ → Type 0 = λ j. slice_get all j ≡ Some (node_by p (take j all)) in
    subst P w (node_after ps (ns ++ m ∷ []) k p e)

pub node_at : (ps : List PooledNode) (k : ℕ) (p : PooledNode) → slice_get ps k ≡ Some p →
    slice_get (pooled_nodes ps) k ≡ Some (node_by p (take k (pooled_nodes ps)))
node_at ps k p e =
    let w : 0 + k ≡ k = omega arith in
    let P : ℕ → Type 0 = λ j. slice_get (pooled_nodes ps) j ≡ Some (node_by p (take j (pooled_nodes ps))) in
    subst P w (node_after ps [] k p e)

pub last_is : (ps : List PooledNode) (p : PooledNode) → slice_get ps (length ps - 1) ≡ Some p →
    last_node ps ≡ node_by p (take (length ps - 1) (pooled_nodes ps))
last_is ps p e = ap node_in (node_at ps (length ps - 1) p e)

-- The node of a number is the last of those up to it.
pub node_up_to : (ps : List PooledNode) (j : ℕ) → j < length ps → slice_get (pooled_nodes ps) j ≡ Some (last_node (take (j + 1) ps))
node_up_to ps j h =
    let ns = pooled_nodes ps in
    let front = take (j + 1) ps in
    let l = length-take-le (j + 1) ps (omega (arith, h)) in
    let k : length front - 1 ≡ j = omega (arith, l) in
    let c = pooled_length ps in
    let n = there ns j (omega (arith, c, h)) in
    let same : slice_get (pooled_nodes front) (length front - 1) ≡ slice_get ns j =
    ap (slice_get (pooled_nodes front)) k
    ∙ (ap (λ xs. slice_get xs j) (front_nodes (j + 1) ps) ∙ get_take (j + 1) j ns (omega arith)) in
    n.1 ∙ ap Some (sym (ap node_in (same ∙ n.1)))

-- ---- the order of the nodes

pub ordered_at : (j : ℕ) (ps : List PooledNode) (k : ℕ) (p : PooledNode) → are_ordered j ps ≡ true → slice_get ps k ≡ Some p →
    (argument_range p).0 + (argument_range p).1 ≤ j + k
ordered_at j [] k p h e = absurd (cc)
ordered_at j (q ∷ ps) zero p h e =
    let same : q ≡ p = ap (λ o. unwrap_or o q) e in
    let P : PooledNode → Type 0 = λ x. follows x j ≡ true in
    let f = subst P same (and_first (follows q j) (are_ordered (j + 1) ps) h) in
    let b = at_most ((argument_range p).0 + (argument_range p).1) j f in
    omega (arith, b)
ordered_at j (q ∷ ps) (suc k) p h e =
    let r = ordered_at (j + 1) ps k p (and_second (follows q j) (are_ordered (j + 1) ps) h) e in
    omega (arith, r)

ordered_front : (m j : ℕ) (ps : List PooledNode) → are_ordered j ps ≡ true → are_ordered j (take m ps) ≡ true
ordered_front zero j ps h = refl
ordered_front (suc m) j [] h = refl
ordered_front (suc m) j (p ∷ ps) h =
    and_true (follows p j) (are_ordered (j + 1) (take m ps))
    (and_first (follows p j) (are_ordered (j + 1) ps) h)
    (ordered_front m (j + 1) ps (and_second (follows p j) (are_ordered (j + 1) ps) h))

-- the nodes up to one of them
pub front_is : (ps : List PooledNode) (number : ℕ) → number < length ps → are_ordered 0 ps ≡ true →
    (are_ordered 0 (take (number + 1) ps) ≡ true) × (0 < length (take (number + 1) ps))
front_is ps number h o =
    let l = length-take-le (number + 1) ps (omega (arith, h)) in
    (ordered_front (number + 1) 0 ps o, omega (arith, l))

pub ordered_append : (j : ℕ) (ps qs : List PooledNode) → are_ordered j ps ≡ true → are_ordered (j + length ps) qs ≡ true →
    are_ordered j (ps ++ qs) ≡ true
ordered_append j [] qs h g = let e : j ≡ j + 0 = omega arith in ap (λ k. are_ordered k qs) e ∙ g
ordered_append j (p ∷ ps) qs h g =
    let e : j + 1 + length ps ≡ j + suc (length ps) = omega arith in
    and_true (follows p j) (are_ordered (j + 1) (ps ++ qs))
    (and_first (follows p j) (are_ordered (j + 1) ps) h)
    (ordered_append (j + 1) ps qs (and_second (follows p j) (are_ordered (j + 1) ps) h) (ap (λ k. are_ordered k qs) e ∙ g))

-- ---- the arguments of a node

pub children_by : (p : PooledNode) (ns : List Node) →
    children (node_by p ns) ≡ nodes_from ns (argument_range p).0 (argument_range p).1
children_by (Constant value) ns = refl
children_by (Faulty fault) ns = refl
children_by (Asked slot want) ns = refl
children_by (Property key want) ns = refl
children_by (Inner op want first count) ns = listed_again (nodes_from ns first count)

pub from_length : (ns : List Node) (first count : ℕ) → first + count ≤ length ns → length (nodes_from ns first count) ≡ count
from_length ns first count h =
    let d = length-drop first ns in
    length-take-le count (drop first ns) (omega (arith, d, h))

pub from_at : (ns : List Node) (first count place : ℕ) → place < count →
    slice_get (nodes_from ns first count) place ≡ slice_get ns (first + place)
from_at ns first count place h = get_take count place (drop first ns) h ∙ get_drop first place ns

-- of the last node of a list

last_children : (ps : List PooledNode) (p : PooledNode) → slice_get ps (length ps - 1) ≡ Some p →
    children (last_node ps)
    ≡ nodes_from (take (length ps - 1) (pooled_nodes ps)) (argument_range p).0 (argument_range p).1
last_children ps p e = ap children (last_is ps p e) ∙ children_by p (take (length ps - 1) (pooled_nodes ps))

pub arguments_before : (ps : List PooledNode) (p : PooledNode) → are_ordered 0 ps ≡ true → slice_get ps (length ps - 1) ≡ Some p →
    (argument_range p).0 + (argument_range p).1 ≤ length ps - 1
arguments_before ps p h e = let b = ordered_at 0 ps (length ps - 1) p h e in omega (arith, b)

pub last_count : (ps : List PooledNode) (p : PooledNode) → are_ordered 0 ps ≡ true → slice_get ps (length ps - 1) ≡ Some p →
    (argument_range p).1 ≡ length (children (last_node ps))
last_count ps p h e =
    let k = length ps - 1 in
    let ns = pooled_nodes ps in
    let b = arguments_before ps p h e in
    let c = pooled_length ps in
    let l = length-take-le k ns (omega (arith, c)) in
    sym (ap length (last_children ps p e) ∙ from_length (take k ns) (argument_range p).0 (argument_range p).1 (omega (arith, l, b)))

pub last_child : (ps : List PooledNode) (p : PooledNode) (place number : ℕ) → are_ordered 0 ps ≡ true →
    slice_get ps (length ps - 1) ≡ Some p → place < (argument_range p).1 → number ≡ (argument_range p).0 + place →
    slice_get (children (last_node ps)) place ≡ Some (last_node (take (number + 1) ps))
last_child ps p place number h e w n =
    let k = length ps - 1 in
    let ns = pooled_nodes ps in
    let first = (argument_range p).0 in
    let count = (argument_range p).1 in
    let b = arguments_before ps p h e in
    ap (λ xs. slice_get xs place) (last_children ps p e)
    ∙ (from_at (take k ns) first count place w
    ∙ (ap (slice_get (take k ns)) (sym n)
    ∙ (get_take k number ns (omega (arith, b, w, n))
    ∙ node_up_to ps number (omega (arith, b, w, n)))))

-- ---- the binding of a number

pub binding_is : (ps : List PooledNode) (first count slot number : ℕ) → first + count ≤ length ps → slot < count →
    number ≡ first + slot →
    slice_get (nodes_from (pooled_nodes ps) first count) slot ≡ Some (last_node (take (number + 1) ps))
binding_is ps first count slot number h w n =
    from_at (pooled_nodes ps) first count slot w
    ∙ (ap (slice_get (pooled_nodes ps)) (sym n) ∙ node_up_to ps number (omega (arith, h, w, n)))

pub bindings_count : (ps : List PooledNode) (first count : ℕ) → first + count ≤ length ps →
    length (nodes_from (pooled_nodes ps) first count) ≡ count
bindings_count ps first count h =
    let c = pooled_length ps in
    from_length (pooled_nodes ps) first count (omega (arith, c, h))

-- ---- a node as the evaluator reads it

pub inner_form : (p : PooledNode) (op : Operator) (want : Want) (first count : ℕ) (ns : List Node) → p ≡ Inner op want first count →
    node_by p ns ≡ inner op want (children_of (children (node_by p ns)))
inner_form p op want first count ns e =
    let P : PooledNode → Type 0 = λ x. node_by x ns ≡ inner op want (children_of (children (node_by x ns))) in
    subst P (sym e) (ap (λ xs. inner op want (children_of xs)) (sym (children_by (Inner op want first count) ns)))
