-- Nodes that are put side by side stay what they are.
use Rattle.std.specs.Prelude.{true}
use Rattle.std.proofs.Common.{◌≡◌, ℕ, ◌+◌, ◌≤◌, suc, List, [], ◌∷◌, ◌++◌, length, take, drop, Ok, Err, refl, arith, sym, ap, ◌∙◌, subst}
use Rattle.std.specs.Prelude.{Vec}
use Rattle.std.specs.declared.alloc.Global.{Global}
use Rattle.std.proofs.lemmas.List.{append-nil, append_assoc, length-append, length-drop, length_push, take-append-drop, take-append-le, drop-append-le, take-take, take_all, drop_at}
use Rattle.prop_values.specs.Data.{Data}
use Rattle.prop_values.specs.declared.fault.EvalFault.{EvalFault}
use Rattle.prop_values.specs.declared.kinds.Want.{Want}
use Rattle.expr_syntax.specs.declared.expression.Operator.{Operator}
use Rattle.expr_nodes.specs.Boxed.{boxed_step, boxed_node, boxed_nodes, boxed_inner}
use Rattle.expr_nodes.specs.Node.{Node, constant, asked, property, inner, children_of, size, total_size}
use Rattle.expr_nodes.specs.declared.boxed_node.BoxedNode.{BoxedNode}
use Rattle.expr_nodes.specs.declared.boxed_node.BoxedNode.TheFolds.{fold-roll-BoxedNode}
use Rattle.expr_nodes.specs.declared.boxed_node.BoxedNode.TheOpen.{BoxedNode-F}
use Rattle.expr_nodes.specs.declared.boxed_node.BoxedNode.TheVariants as boxed
use Rattle.expr_nodes.proofs.BoxedLaws.{boxed_children, boxed_form}
use Rattle.expr_nodes.proofs.NodeLaws.{inner_size}
use Rattle.node_pool.specs.Pooled.{nodes_from, argument_range, node_by, nodes_after, pooled_nodes, follows, are_ordered}
use Rattle.node_pool.specs.Flattened.{each_by, all_follow, IsFlattened, AreSideBySide, IsBlock}
use Rattle.node_pool.specs.declared.pooled_node.PooledNode.{PooledNode}
use Rattle.node_pool.specs.declared.pooled_node.PooledNode.TheVariants.{Constant, Faulty, Asked, Property, Inner}
use Rattle.node_pool.proofs.PoolLaws.{and_first, and_second, and_true, at_most, at_most_true, follows_later, after_more, after_append, pooled_length, ordered_append}

-- ---- a node by more nodes

from_front : (ns us : List Node) (first count : ℕ) → first + count ≤ length ns → nodes_from (ns ++ us) first count ≡ nodes_from ns first count
from_front ns us first count h =
    let d = length-drop first ns in
    ap (take count) (drop-append-le first ns us (omega (arith, h)))
    ∙ take-append-le count (drop first ns) us (omega (arith, d, h))

stays : (p : PooledNode) (ns us : List Node) → (argument_range p).0 + (argument_range p).1 ≤ length ns → node_by p (ns ++ us) ≡ node_by p ns
stays (Constant value) ns us h = refl
stays (Faulty fault) ns us h = refl
stays (Asked slot want) ns us h = refl
stays (Property key want) ns us h = refl
stays (Inner op want first count) ns us h = ap (λ xs. inner op want (children_of xs)) (from_front ns us first count h)

each_stays : (ps : List PooledNode) (ns us : List Node) (k : ℕ) → k ≤ length ns → all_follow ps k ≡ true → each_by ps (ns ++ us) ≡ each_by ps ns
each_stays [] ns us k h f = refl
each_stays (p ∷ ps) ns us k h f =
    let b = at_most ((argument_range p).0 + (argument_range p).1) k (and_first (follows p k) (all_follow ps k) f) in
    let one = stays p ns us (omega (arith, b, h)) in
    let rest = each_stays ps ns us k h (and_second (follows p k) (all_follow ps k) f) in
    λ i. one i ∷ rest i

each_last : (ps : List PooledNode) (p : PooledNode) (ns : List Node) → each_by (ps ++ p ∷ []) ns ≡ each_by ps ns ++ node_by p ns ∷ []
each_last [] p ns = refl
each_last (q ∷ ps) p ns = ap (λ xs. node_by q ns ∷ xs) (each_last ps p ns)

each_length : (ps : List PooledNode) (ns : List Node) → length (each_by ps ns) ≡ length ps
each_length [] ns = refl
each_length (p ∷ ps) ns = ap suc (each_length ps ns)

follow_later : (ps : List PooledNode) (k j : ℕ) → k ≤ j → all_follow ps k ≡ true → all_follow ps j ≡ true
follow_later [] k j h f = refl
follow_later (p ∷ ps) k j h f =
    and_true (follows p j) (all_follow ps j)
    (follows_later p k j h (and_first (follows p k) (all_follow ps k) f))
    (follow_later ps k j h (and_second (follows p k) (all_follow ps k) f))

follow_last : (ps : List PooledNode) (p : PooledNode) (k : ℕ) → all_follow ps k ≡ true → follows p k ≡ true → all_follow (ps ++ p ∷ []) k ≡ true
follow_last [] p k f g = and_true (follows p k) true g refl
follow_last (q ∷ ps) p k f g =
    and_true (follows q k) (all_follow (ps ++ p ∷ []) k)
    (and_first (follows q k) (all_follow ps k) f)
    (follow_last ps p k (and_second (follows q k) (all_follow ps k) f) g)

follow_ordered : (ps : List PooledNode) (k j : ℕ) → k ≤ j → all_follow ps k ≡ true → are_ordered j ps ≡ true
follow_ordered [] k j h f = refl
follow_ordered (p ∷ ps) k j h f =
    and_true (follows p j) (are_ordered (j + 1) ps)
    (follows_later p k j h (and_first (follows p k) (all_follow ps k) f))
    (follow_ordered ps k (j + 1) (omega (arith, h)) (and_second (follows p k) (all_follow ps k) f))

-- nodes whose arguments are all before them
put_nodes : (ps : List PooledNode) (ns : List Node) (k : ℕ) → k ≤ length ns → all_follow ps k ≡ true → nodes_after ns ps ≡ ns ++ each_by ps ns
put_nodes [] ns k h f = sym (append-nil ns)
put_nodes (p ∷ ps) ns k h f =
    let x = node_by p ns in
    let l = length_push ns x in
    let rest = and_second (follows p k) (all_follow ps k) f in
    put_nodes ps (ns ++ x ∷ []) k (omega (arith, l, h)) rest
    ∙ (ap (λ ys. (ns ++ x ∷ []) ++ ys) (each_stays ps ns (x ∷ []) k h rest) ∙ append_assoc ns (x ∷ []) (each_by ps ns))

-- ---- a list that others were added to

pub kept_length : {X : Type 0} (xs ys : List X) → take (length xs) ys ≡ xs → length xs ≤ length ys
kept_length [] ys e = omega arith
kept_length (x ∷ xs) [] e = absurd (let q = ap length e in omega (arith, q))
kept_length (x ∷ xs) (y ∷ ys) e = let r = kept_length xs ys (ap (drop 1) e) in omega (arith, r)

pub kept_again : {X : Type 0} (xs ys zs : List X) → take (length xs) ys ≡ xs → take (length ys) zs ≡ ys → take (length xs) zs ≡ xs
kept_again xs ys zs d e = sym (take-take (length xs) (length ys) zs (kept_length xs ys d)) ∙ (ap (take (length xs)) e ∙ d)

pub kept_split : {X : Type 0} (xs ys : List X) → take (length xs) ys ≡ xs → ys ≡ xs ++ drop (length xs) ys
kept_split xs ys e = sym (take-append-drop (length xs) ys) ∙ ap (λ zs. zs ++ drop (length xs) ys) e

pub kept_append : {X : Type 0} (xs ys zs : List X) → take (length xs) ys ≡ xs → take (length xs) (ys ++ zs) ≡ xs
kept_append xs ys zs e = take-append-le (length xs) ys zs (kept_length xs ys e) ∙ e

grown : (old new : List PooledNode) → take (length old) new ≡ old → (us : List Node) × (pooled_nodes new ≡ pooled_nodes old ++ us)
grown old new e =
    let rest = drop (length old) new in
    let r = after_more rest (pooled_nodes old) in
    (r.0, ap pooled_nodes (kept_split old new e) ∙ (after_append old rest [] ∙ r.1))

-- ---- nodes one after another

pub further : (last : List PooledNode) (p : PooledNode) (n : Node) (rest all : List Node) (old new : List PooledNode) →
    all_follow last (length old) ≡ true → each_by last (pooled_nodes old) ++ n ∷ rest ≡ all → IsFlattened p n old new →
    (all_follow (last ++ p ∷ []) (length new) ≡ true) × (each_by (last ++ p ∷ []) (pooled_nodes new) ++ rest ≡ all)
further last p n rest all old new f e made =
    let g = grown old new made.kept in
    let w = kept_length old new made.kept in
    let c = pooled_length old in
    let same : each_by last (pooled_nodes new) ≡ each_by last (pooled_nodes old) =
    ap (each_by last) g.1 ∙ each_stays last (pooled_nodes old) g.0 (length old) (omega (arith, c)) f in
    let here : each_by (last ++ p ∷ []) (pooled_nodes new) ≡ each_by last (pooled_nodes old) ++ n ∷ [] =
    each_last last p (pooled_nodes new) ∙ (λ i. same i ++ made.node i ∷ []) in (
      follow_last last p (length new) (follow_later last (length old) (length new) w f) made.after,
      ap (λ xs. xs ++ rest) here ∙ (append_assoc (each_by last (pooled_nodes old)) (n ∷ []) rest ∙ e),
    )

pub all_put : (last : List PooledNode) (all : List Node) (old ps new : List PooledNode) → are_ordered 0 ps ≡ true →
    take (length old) ps ≡ old → all_follow last (length ps) ≡ true → each_by last (pooled_nodes ps) ++ [] ≡ all →
    new ≡ ps ++ last → AreSideBySide (length ps) all old new
all_put last all old ps new o k f e s =
    let ns = pooled_nodes ps in
    let c = pooled_length ps in
    let each : each_by last ns ≡ all = sym (append-nil (each_by last ns)) ∙ e in
    let l = each_length last ns in
    let m = ap length each in
    let a = length-append ps last in
    let put : pooled_nodes (ps ++ last) ≡ ns ++ each_by last ns =
    after_append ps last [] ∙ put_nodes last ns (length ps) (omega (arith, c)) f in
    let P : List PooledNode → Type 0 = λ x. AreSideBySide (length ps) all old x in
    subst P (sym s) (record {
      ordered = ordered_append 0 ps last o (follow_ordered last (length ps) (0 + length ps) (omega arith) f);
      kept = kept_append old ps last k;
      counted = omega (arith, l, m, a);
      nodes = ap (drop (length ps)) put ∙ (drop_at ns (each_by last ns) (length ps) c ∙ each);
    })

-- ---- one node

pub leaf_constant : (v : Data) → constant (Ok v) ≡ boxed_node (boxed.Constant v)
leaf_constant v = sym (ap boxed_node (sym (boxed.rolls-Constant v)) ∙ fold-roll-BoxedNode Node boxed_step (BoxedNode-F.Constant v))

pub leaf_faulty : (fault : EvalFault) → constant (Err fault) ≡ boxed_node (boxed.Faulty fault)
leaf_faulty fault = sym (ap boxed_node (sym (boxed.rolls-Faulty fault)) ∙ fold-roll-BoxedNode Node boxed_step (BoxedNode-F.Faulty fault))

pub leaf_asked : (slot : ℕ) (want : Want) → asked slot want ≡ boxed_node (boxed.Asked slot want)
leaf_asked slot want = sym (ap boxed_node (sym (boxed.rolls-Asked slot want)) ∙ fold-roll-BoxedNode Node boxed_step (BoxedNode-F.Asked slot want))

pub leaf_property : (key : List ℕ) (want : Want) → property key want ≡ boxed_node (boxed.Property key want)
leaf_property key want = sym (ap boxed_node (sym (boxed.rolls-Property key want)) ∙ fold-roll-BoxedNode Node boxed_step (BoxedNode-F.Property key want))

pub flat_leaf : (p : PooledNode) (n : Node) (ps : List PooledNode) → are_ordered 0 ps ≡ true → argument_range p ≡ (0, 0) →
    ((ns : List Node) → node_by p ns ≡ n) → IsFlattened p n ps ps
flat_leaf p n ps o r e =
    let z = ap (λ x. x.0 + x.1) r in
    record {
      ordered = o;
      kept = take_all (length ps) ps (omega arith);
      after = at_most_true ((argument_range p).0 + (argument_range p).1) (length ps) (omega (arith, z));
      node = e (pooled_nodes ps);
    }

pub boxed_length : (xs : List BoxedNode) → length (boxed_nodes xs) ≡ length xs
boxed_length [] = refl
boxed_length (x ∷ xs) = ap suc (boxed_length xs)

pub flat_inner : (op : Operator) (want : Want) (arguments : Vec BoxedNode Global) (first count : ℕ) (old new : List PooledNode) →
    count ≡ length arguments.items → AreSideBySide first (boxed_nodes arguments.items) old new →
    IsFlattened (Inner op want first count) (boxed_node (boxed.Inner want op arguments)) old new
flat_inner op want arguments first count old new c put =
    let ns = boxed_nodes arguments.items in
    let l = boxed_length arguments.items in
    let all : nodes_from (pooled_nodes new) first count ≡ ns =
    ap (take count) put.nodes ∙ take_all count ns (omega (arith, l, c)) in
    record {
      ordered = put.ordered;
      kept = put.kept;
      after = at_most_true (first + count) (length new) (omega (arith, put.counted, l, c));
      node = ap (λ xs. inner op want (children_of xs)) all ∙ sym (boxed_inner op want arguments);
    }

pub inner_weight : (op : Operator) (want : Want) (arguments : Vec BoxedNode Global) →
    size (boxed_node (boxed.Inner want op arguments)) ≡ 1 + total_size (boxed_nodes arguments.items)
inner_weight op want arguments =
    inner_size (boxed_node (boxed.Inner want op arguments)) op want (boxed_form op want arguments)
    ∙ ap (λ xs. 1 + total_size xs) (boxed_children op want arguments)

-- ---- an expression

pub boxed_last : (xs : List BoxedNode) (x : BoxedNode) → boxed_nodes (xs ++ x ∷ []) ≡ boxed_nodes xs ++ boxed_node x ∷ []
boxed_last [] x = refl
boxed_last (y ∷ xs) x = ap (λ ns. boxed_node y ∷ ns) (boxed_last xs x)

pub block_made : (first : ℕ) (root : BoxedNode) (bindings all : List BoxedNode) (old new : List PooledNode) →
    all ≡ bindings ++ root ∷ [] → AreSideBySide first (boxed_nodes all) old new →
    IsBlock first (boxed_node root) (boxed_nodes bindings) new
block_made first root bindings all old new e put =
    let n : boxed_nodes all ≡ boxed_nodes bindings ++ boxed_node root ∷ [] = ap boxed_nodes e ∙ boxed_last bindings root in
    let l = ap length n ∙ length_push (boxed_nodes bindings) (boxed_node root) in
    record {
      ordered = put.ordered;
      counted = omega (arith, put.counted, l);
      nodes = put.nodes ∙ n;
    }
