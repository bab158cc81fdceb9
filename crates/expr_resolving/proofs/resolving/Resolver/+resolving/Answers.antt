use Rattle.std.proofs.Common.{rules, ◌≡◌, ◌+◌, ◌*◌, ◌<◌, ◌≤◌, ◌∙◌, [], ◌∷◌, ◌++◌, length, sym, ap, refl, arith, option_map}
use Rattle.std.specs.Vec.Iter.{into_iter_items}
use Rattle.prop_values.specs.View.{data_of}
use Rattle.property_tables.specs.Fitting.{fit}
use Rattle.expr_syntax.specs.Term.{node, terms_of}
use Rattle.expr_syntax.specs.TermSize.{nodes}
use Rattle.expr_syntax.specs.TermView.{term_of, terms, weight}
use Rattle.eval_face.specs.Rules.{bindings, variable}
use Rattle.expr_nodes.specs.Boxed.{boxed_node, boxed_nodes, boxed_inner}
use Rattle.expr_nodes.specs.Node.{Node, constant, property}
use Rattle.expr_nodes.specs.declared.boxed_node.BoxedNode.TheVariants.{Inner}
use Rattle.expr_nodes.specs.Resolving.{Numbered, resolve, resolve_let, argument_want, key_of}
use Rattle.expr_resolving.specs.NumberScopes.{numbered, numbered_scope}
use Rattle.expr_resolving.specs.ResolvedParts.{inner_of, resolved_node, inner_after, let_after}
use Rattle.expr_resolving.proofs.ResolvingLaws.{property_found, keyless, resolve_ruled, resolve_inner, inner_start, inner_next, inner_end, number_last, let_start, let_next, let_body, let_none, let_extra, faulty_misfit, with_bindings, as_resolved, none_left, some_left, rest_ended}
use Rattle.expr_resolving.proofs.resolving.Resolver.+resolving.Goals as goal

pub resolve-returns-in-Literal : goal.resolve-returns-in-Literal
resolve-returns-in-Literal t c =
    let so_far = boxed_nodes c.args.self.now.bindings.items in
    let scope = numbered_scope c.args.scope.now in
    let marks = c.args.marks.now in
    with_bindings c.fitted_constant.result (constant (fit c.args.want (data_of c.in-Literal.value))) so_far
    (resolve (term_of c.args.expression) c.args.want marks scope so_far)
    (ap (λ e. resolve (term_of e) c.args.want marks scope so_far) (sym c.in-Literal.is))
    c.fitted_constant.ensures

pub resolve-returns-in-Node : goal.resolve-returns-in-Node
resolve-returns-in-Node t c =
    let so_far = boxed_nodes c.args.self.now.bindings.items in
    let scope = numbered_scope c.args.scope.now in
    let marks = c.args.marks.now in
    let op = c.in-Node.op in
    let ts = terms c.into_vec.result.items in
    as_resolved c.resolve_node.result (boxed_nodes c.resolve_node.new.self.bindings.items)
    (resolved_node op ts c.own_want-own.result c.below.result.now scope so_far)
    (resolve (term_of c.args.expression) c.args.want marks scope so_far)
    ((λ i. resolved_node op ts (c.own_want-own.ensures i) (c.below.ensures i) scope so_far)
    ∙ (ap (λ xs. resolve (node op (terms_of xs)) c.args.want marks scope so_far) c.into_vec.ensures
    ∙ ap (λ e. resolve (term_of e) c.args.want marks scope so_far) (sym c.in-Node.is)))
    c.resolve_node.ensures

-- A node.

pub resolve_node-returns-in-Some : goal.resolve_node-returns-in-Some
resolve_node-returns-in-Some t c =
    property_found c.args.op (terms c.args.arguments.items) c.args.want (boxed_node c.in-Some.node)
    (ap (option_map boxed_node) (sym c.in-Some.is) ∙ c.in_ok-node.ensures
    ∙ ap (λ es. option_map (λ key. property key c.args.want) (key_of c.args.op (terms es))) c.as_slice.ensures.value)
    c.args.marks.now (numbered_scope c.args.scope.now) (boxed_nodes c.args.self.now.bindings.items)

pub resolve_node-returns-in-Binds : goal.resolve_node-returns-in-Binds
resolve_node-returns-in-Binds t c =
    let so_far = boxed_nodes c.args.self.now.bindings.items in
    let scope = numbered_scope c.args.scope.now in
    let left = c.args.marks.now in
    let ts = terms c.args.arguments.items in
    let none = keyless c.args.op c.args.arguments.items c.as_slice.result.now c.args.want c.in_ok-node.field-0 c.as_slice.ensures.value
    c.in_default.not-Some c.in_ok-node.ensures in
    as_resolved c.resolve_let.result (boxed_nodes c.resolve_let.new.self.bindings.items)
    (resolve_let ts c.in-Binds.names c.args.want left scope [] so_far)
    (resolved_node c.args.op ts c.args.want left scope so_far)
    (resolve_ruled c.args.op ts none (bindings c.in-Binds.names) c.in-Binds.ensures c.args.want left scope so_far)
    c.resolve_let.ensures

pub resolve_node-returns-in-Asks : goal.resolve_node-returns-in-Asks
resolve_node-returns-in-Asks t c =
    let so_far = boxed_nodes c.args.self.now.bindings.items in
    let scope = numbered_scope c.args.scope.now in
    let left = c.args.marks.now in
    let ts = terms c.args.arguments.items in
    let none = keyless c.args.op c.args.arguments.items c.as_slice.result.now c.args.want c.in_ok-node.field-0 c.as_slice.ensures.value
    c.in_default.not-Some c.in_ok-node.ensures in
    let with_so_far : Node → Numbered = λ n. (n, so_far) in
    ap with_so_far c.variable_of.ensures
    ∙ resolve_ruled c.args.op ts none (variable c.in-Asks.name) c.in-Asks.ensures c.args.want left scope so_far

pub resolve_node-returns-in-Neither : goal.resolve_node-returns-in-Neither
resolve_node-returns-in-Neither t c =
    let so_far = boxed_nodes c.args.self.now.bindings.items in
    let scope = numbered_scope c.args.scope.now in
    let left = c.args.marks.now in
    let ts = terms c.args.arguments.items in
    let none = keyless c.args.op c.args.arguments.items c.as_slice.result.now c.args.want c.in_ok-node.field-0 c.as_slice.ensures.value
    c.in_default.not-Some c.in_ok-node.ensures in
    as_resolved c.resolve_inner.result (boxed_nodes c.resolve_inner.new.self.bindings.items)
    (inner_of c.in-Neither.op c.args.want left ts scope so_far)
    (resolved_node c.args.op ts c.args.want left scope so_far)
    (ap (λ op. inner_of op c.args.want left ts scope so_far) c.in-Neither.ensures.0
    ∙ resolve_inner c.args.op ts none c.in-Neither.ensures.1 c.args.want left scope so_far)
    c.resolve_inner.ensures

-- Its arguments.

pub resolve_inner-loop-argument-init : goal.resolve_inner-loop-argument-init
resolve_inner-loop-argument-init t c =
    let so_far = boxed_nodes c.args.self.now.bindings.items in
    let scope = numbered_scope c.args.scope.now in
    let left = c.args.marks.now in
    let es = c.args.arguments.items in
    let rest = c.into_iter-argument-iterator.ensures.into_iter_gives.0 in
    let count = c.len-count.result in
    let w = ap weight rest in (
      ap (λ ns. inner_after c.args.op count c.args.want left scope (boxed_nodes ns) (terms (into_iter_items c.into_iter-argument-iterator.result)) so_far) c.in_ok-nodes.ensures.items
          ∙ (ap (λ xs. inner_after c.args.op count c.args.want left scope [] (terms xs) so_far) rest
          ∙ inner_start c.args.op count c.args.want left scope es so_far (c.len-count.ensures ∙ c.args.arguments.ok.0)),
      omega (arith, w),
      refl,
    )

pub resolve_inner-resolve-requires : goal.resolve_inner-resolve-requires
resolve_inner-resolve-requires t c =
    let d = c.decreases in
    let steps = ap weight c.in-Some.ensures.steps.0 in
    let w = c.loop-argument.invariant.1 in
    let smaller : 4 * nodes (term_of c.in-Some.argument) < t = omega arith in
    search (rules, smaller)

pub resolve_inner-loop-argument-preserved : goal.resolve_inner-loop-argument-preserved
resolve_inner-loop-argument-preserved t c =
    let before = c.loop-argument.invariant in
    let so_far = c.loop-argument.self.bindings.items in
    let scope = numbered_scope c.args.scope.now in
    let left = c.loop-argument.left.now in
    let later = c.after-later.result.now in
    let es = into_iter_items c.next.new.self in
    let count = c.len-count.result in
    let done = c.loop-argument.nodes.items in
    let all = c.resolve.new.self.bindings.items in
    let made = c.in_ok-searched.field-0 in
    let with_all : Node → Numbered = λ n. (n, boxed_nodes all) in
    let e = c.in-Some.argument in
    let w = ap weight c.in-Some.ensures.steps.0 in
    let want = c.argument_want-wanted.ensures
    ∙ ((λ i. argument_want (before.2 i) count c.len.result c.args.want)
    ∙ ap (λ k. argument_want c.args.op count k c.args.want) (c.len.ensures ∙ c.loop-argument.nodes.ok.0)) in (
      ap (λ ns. inner_after c.args.op count c.args.want later scope (boxed_nodes ns) (terms es) (boxed_nodes all)) c.in_ok-push.ensures.items
          ∙ (ap (λ ms. inner_after c.args.op count c.args.want ms scope (boxed_nodes (done ++ made ∷ [])) (terms es) (boxed_nodes all)) c.after-later.ensures
          ∙ (inner_next c.args.op count c.args.want left scope done e es so_far all made
          (ap with_all c.in_ok-searched.ensures ∙ (c.in_ok-node.ensures ∙ ap (λ x. resolve (term_of e) x left scope (boxed_nodes so_far)) want))
          ∙ (ap (λ xs. inner_after c.args.op count c.args.want left scope (boxed_nodes done) (terms xs) (boxed_nodes so_far)) (sym c.in-Some.ensures.steps.0)
          ∙ before.0))),
      omega (arith, w, before.1),
      before.2,
    )

pub resolve_inner-returns : goal.resolve_inner-returns
resolve_inner-returns t c =
    let before = c.loop-argument.invariant in
    let so_far = boxed_nodes c.loop-argument.self.bindings.items in
    let scope = numbered_scope c.args.scope.now in
    let left = c.loop-argument.left.now in
    let nodes = c.loop-argument.nodes in
    let done = boxed_nodes nodes.items in
    let with_so_far : Node → Numbered = λ n. (n, so_far) in
    (λ i. with_so_far (boxed_node (Inner c.args.want (before.2 i) nodes)))
    ∙ (ap with_so_far (boxed_inner c.args.op c.args.want nodes)
    ∙ (inner_end c.args.op c.len-count.result c.args.want left scope done so_far
    ∙ (ap (λ xs. inner_after c.args.op c.len-count.result c.args.want left scope done (terms xs) so_far)
    (sym (none_left c.loop-argument.argument-iterator c.in-None.ensures.steps.0))
    ∙ before.0)))

-- `let`.

pub resolve_let-loop-place-init : goal.resolve_let-loop-place-init
resolve_let-loop-place-init t c =
    let so_far = boxed_nodes c.args.self.now.bindings.items in
    let scope = numbered_scope c.args.scope.now in
    let left = c.args.marks.now in
    let rest = c.into_iter-rest.ensures.rest in
    let w = ap weight rest in (
      ap (λ ns. let_after c.args.names c.args.want left scope ns (terms (into_iter_items c.into_iter-rest.result)) so_far) c.new-numbers.ensures.items
          ∙ (ap (λ es. let_after c.args.names c.args.want left scope [] (terms es) so_far) rest
          ∙ let_start c.args.names c.args.want left scope (terms c.args.arguments.items) so_far),
      omega (arith, w),
      ap length c.new-numbers.ensures.items,
    )

pub resolve_let-resolve-requires : goal.resolve_let-resolve-requires
resolve_let-resolve-requires t c =
    let d = c.decreases in
    let steps = ap weight c.in-Some.ensures.items in
    let w = c.loop-place.invariant.1 in
    let smaller : 4 * nodes (term_of c.in-Some.argument) < t = omega arith in
    search (rules, smaller)

pub resolve_let-loop-place-preserved : goal.resolve_let-loop-place-preserved
resolve_let-loop-place-preserved t c =
    let before = c.loop-place.invariant in
    let so_far = c.loop-place.self.bindings.items in
    let scope = numbered_scope c.args.scope.now in
    let left = c.loop-place.left.now in
    let later = c.after-later.result.now in
    let numbers = c.loop-place.numbers.items in
    let es = into_iter_items c.next.new.self in
    let all = c.resolve.new.self.bindings.items in
    let w = ap weight c.in-Some.ensures.items in
    let some : length numbers < length c.args.names = omega (arith, before.2, c.loop-place-test.true, c.len-count.ensures.count) in
    let pushed : c.push.new.self.items ≡ numbers ++ length all ∷ [] =
    c.in_ok-push.ensures.items ∙ ap (λ k. numbers ++ k ∷ []) (c.len.ensures ∙ c.resolve.new.self.bindings.ok.0) in (
      ap (λ ns. let_after c.args.names c.args.want later scope ns (terms es) (boxed_nodes c.push-in-loop-place.new.self.items)) pushed
          ∙ (ap (λ bs. let_after c.args.names c.args.want later scope (numbers ++ length all ∷ []) (terms es) (boxed_nodes bs)) c.in_ok-push-2.ensures.items
          ∙ (ap (λ ms. let_after c.args.names c.args.want ms scope (numbers ++ length all ∷ []) (terms es) (boxed_nodes (all ++ c.in_ok-binding.binding ∷ []))) c.after-later.ensures
          ∙ (let_next c.args.names c.args.want left scope numbers c.in-Some.argument es so_far all c.in_ok-binding.binding some c.in_ok-binding.ensures
          ∙ (ap (λ xs. let_after c.args.names c.args.want left scope numbers (terms xs) (boxed_nodes so_far)) (sym c.in-Some.ensures.items)
          ∙ before.0)))),
      omega (arith, w, before.1),
      ap length pushed ∙ (number_last numbers (length all) ∙ ap (λ k. k + 1) before.2),
    )

pub resolve_let-returns-in_default : goal.resolve_let-returns-in_default
resolve_let-returns-in_default t c =
    let before = c.loop-place.invariant in
    let so_far = boxed_nodes c.loop-place.self.bindings.items in
    let scope = numbered_scope c.args.scope.now in
    let left = c.loop-place.left.now in
    let numbers = c.loop-place.numbers.items in
    faulty_misfit so_far
    ∙ (let_none c.args.names c.args.want left scope numbers so_far
    ∙ (ap (λ es. let_after c.args.names c.args.want left scope numbers (terms es) so_far)
    (sym (rest_ended c.loop-place.rest c.next.new.self c.next.result c.next.ensures.cases c.in_default.not-Some))
    ∙ before.0))

pub resolve_let-returns-then-len-gt0 : goal.resolve_let-returns-then-len-gt0
resolve_let-returns-then-len-gt0 t c =
    let before = c.loop-place.invariant in
    let so_far = boxed_nodes c.loop-place.self.bindings.items in
    let scope = numbered_scope c.args.scope.now in
    let left = c.loop-place.left.now in
    let numbers = c.loop-place.numbers.items in
    let all_named : length c.args.names ≤ length numbers = omega (arith, before.2, c.loop-place-test.false, c.len-count.ensures.count) in
    let more = some_left c.next-2.new.self (omega (arith, c.if-len-gt0.true, c.len-2.ensures)) in
    faulty_misfit so_far
    ∙ (let_extra c.args.names c.args.want left scope numbers c.in-Some-next.body (into_iter_items c.next-2.new.self) so_far all_named more
    ∙ (ap (λ es. let_after c.args.names c.args.want left scope numbers (terms es) so_far) (sym c.in-Some-next.ensures.items)
    ∙ before.0))

pub resolve_let-resolve_body-requires : goal.resolve_let-resolve_body-requires
resolve_let-resolve_body-requires t c =
    let d = c.decreases in
    let before = c.loop-place.invariant in
    let steps = ap weight c.in-Some-next.ensures.items in
    let w = before.1 in
    let smaller : 4 * nodes (term_of c.in-Some-next.body) + 1 < t = omega arith in
    let upper : c.loop-place._place ≤ c.len-count.result = c.loop-place.auto._place-end in
    let same : length c.args.names ≡ length c.as_slice.result.now =
    omega (arith, before.2, upper, c.loop-place-test.false, c.len-count.ensures.count, ap length c.as_slice.ensures.value) in
    (search (rules, smaller), (same, c.requires))

pub resolve_let-returns : goal.resolve_let-returns
resolve_let-returns t c =
    let before = c.loop-place.invariant in
    let so_far = boxed_nodes c.loop-place.self.bindings.items in
    let scope = numbered_scope c.args.scope.now in
    let left = c.loop-place.left.now in
    let numbers = c.loop-place.numbers.items in
    let body = c.in-Some-next.body in
    let all_named : length c.args.names ≤ length numbers = omega (arith, before.2, c.loop-place-test.false, c.len-count.ensures.count) in
    let alone = c.in-Some-next.ensures.items
    ∙ ap (λ es. body ∷ es) (none_left c.next-2.new.self (omega (arith, c.if-len-gt0.false, c.len-2.ensures))) in
    as_resolved c.resolve_body.result (boxed_nodes c.resolve_body.new.self.bindings.items)
    (resolve (term_of body) c.args.want left (numbered c.args.names c.as_slice.result.now ∷ scope) so_far)
    (resolve_let (terms c.args.arguments.items) c.args.names c.args.want c.args.marks.now scope [] (boxed_nodes c.args.self.now.bindings.items))
    (ap (λ ns. resolve (term_of body) c.args.want left (numbered c.args.names ns ∷ scope) so_far) c.as_slice.ensures.value
    ∙ (let_body c.args.names c.args.want left scope numbers (term_of body) so_far all_named
    ∙ (ap (λ es. let_after c.args.names c.args.want left scope numbers (terms es) so_far) (sym alone)
    ∙ before.0)))
    c.resolve_body.ensures
