use Rattle.std.proofs.Common.{◌≡◌, ◌∙◌, ◌+◌, ◌*◌, ◌^◌, ◌<◌, sym, ap, subst, arith, rules, length, option_map}
use Rattle.std.specs.Prelude.{IfOk, false}
use Rattle.std.specs.List.{slice_get}
use Rattle.decimal_json.specs.Tree.{list, trees_of}
use Rattle.decimal_json.specs.View.{tree_at, tree_of, trees, items_view}
use Rattle.expr_syntax.specs.Elements.{head_name}
use Rattle.expr_syntax.specs.TermSize.{nodes}
use Rattle.expr_syntax.specs.TermView.{term_of, weight}
use Rattle.expr_types.specs.ScopeView.{scope_of}
use Rattle.style_simplify.specs.NodeView.{node_at}
use Rattle.style_simplify.specs.Simple.{choices, is_global_name, piece_element}
use Rattle.style_simplify.specs.SimpleElements.{argument_kinds}
use Rattle.style_simplify.specs.View.{choices_seen, element_seen, elements_seen}
use Rattle.style_simplify.proofs.LetLaws.{let_by}
use Rattle.style_simplify.proofs.NodeLaws.{first_weight, other_weight}
use Rattle.style_simplify.proofs.StepLaws.{one_more, here_weight, here_within, part_more, argument_more, plain_by, piece_step, format_by, inside_let, inside_format, inside_plain, node_inside}
use Rattle.style_simplify.proofs.simplifying.+simplifying.Goals.{elements-in-Some+in_ok-element-in-Some+in_ok-push-in-Some, elements-in-None+in_ok-part-in-None+in_ok-push-in-None}
use Rattle.style_simplify.proofs.simplifying.+simplifying.Goals as goal

-- A node.

pub choices_inside-returns-in-Let : goal.choices_inside-returns-in-Let
choices_inside-returns-in-Let t c =
    subst (λ x. IfOk c.let_simple.result (λ made. choices_seen made ≡ x))
    (inside_let c.args.context.now c.in-Let.names c.args.arguments.now c.args.items.now c.in-Let.is)
    c.let_simple.ensures

pub choices_inside-returns-in-Format : goal.choices_inside-returns-in-Format
choices_inside-returns-in-Format t c =
    subst (λ x. IfOk c.format_choices.result (λ made. choices_seen made ≡ x))
    (inside_format c.args.context.now c.in-Format.pieces c.args.arguments.now c.args.items.now c.in-Format.is)
    c.format_choices.ensures

pub choices_inside-returns-in_default : goal.choices_inside-returns-in_default
choices_inside-returns-in_default t c =
    subst (λ x. IfOk c.plain_choices.result (λ made. choices_seen made ≡ x))
    (inside_plain c.args.context.now c.args.arguments.now c.args.items.now (c.in_default.not-Let, c.in_default.not-Var, c.in_default.not-Format))
    c.plain_choices.ensures

pub node_choices-returns-else-is_global : goal.node_choices-returns-else-is_global
node_choices-returns-else-is_global t c =
    let js = c.as_slice-else-is_global.result.now in
    let same : items_view c.as_slice.result.now ≡ items_view js = c.as_slice.ensures ∙ sym c.as_slice-else-is_global.ensures in
    let whole : tree_of c.args.json.now ≡ list (trees js) = ap tree_of c.in-List.is ∙ ap (λ ts. list (trees_of ts)) (sym c.as_slice-else-is_global.ensures) in
    let other : false ≡ is_global_name (head_name (trees js)) = sym c.if-is_global.false ∙ (c.is_global.ensures ∙ ap (λ ts. is_global_name (head_name (trees_of ts))) same) in
    subst (λ x. IfOk c.choices_inside.result (λ made. choices_seen made ≡ x))
    (node_inside c.args.context.now c.args.arguments.now js other ∙ ap (node_at c.args.context.now c.args.arguments.now) (sym whole))
    c.choices_inside.ensures

pub plain_choices-returns : goal.plain_choices-returns
plain_choices-returns t c =
    subst (λ x. IfOk c.choices_from.result (λ made. choices_seen made ≡ x))
    (plain_by c.args.context.now c.args.arguments.now c.args.items.now c.operator_reads-reads.result (elements_seen c.in_ok-made.made.items) c.operator_reads-reads.ensures c.in_ok-made.ensures)
    c.choices_from.ensures

-- Its elements.

pub elements-argument_element-requires : goal.elements-argument_element-requires
elements-argument_element-requires t c =
    let e = c.in-Some.argument.now in
    let w = here_weight c.args.context.now.op.now c.args.count c.loop-at.at c.args.given.now c.loop-at.place e c.in-Some.ensures in
    let n = here_within c.args.context.now.op.now c.args.count c.loop-at.at c.args.given.now c.loop-at.place e c.in-Some.ensures in
    let d = c.decreases in
    let smaller : 8 * nodes (term_of e) + 2 < t = omega arith in
    let short : c.loop-at.place < 2 ^ 60 = omega arith in
    search (rules, smaller, short)

pub elements-loop-at-preserved : goal.elements-loop-at-preserved
elements-loop-at-preserved t c = elim c.match-argument_here.branch [
  | elements-in-Some+in_ok-element-in-Some+in_ok-push-in-Some w ↦
      argument_more c.args.context.now c.args.count c.args.arguments c.loop-at.at c.loop-at.place c.match-argument_here.place c.args.given.now c.args.items.now c.index-items-at.result w.in-Some.argument.now
      c.loop-at.made.items c.match-argument_here.made.items w.in_ok-element-in-Some.element _ w.in-Some.ensures c.loop-at-test.true c.index-items-at.is
      (ap (λ made. made.items) w.made-is ∙ w.in_ok-push-in-Some.ensures.items) w.in_ok-element-in-Some.ensures w.place-is c.loop-at.invariant
  | elements-in-None+in_ok-part-in-None+in_ok-push-in-None w ↦
      part_more c.args.context.now c.args.count c.args.arguments c.loop-at.at c.loop-at.place c.match-argument_here.place c.args.given.now c.args.items.now c.index-items-at.result
      c.loop-at.made.items c.match-argument_here.made.items w.in_ok-part-in-None.field-0 _ w.in-None.ensures c.loop-at-test.true c.index-items-at.is
      (ap (λ made. made.items) w.made-is ∙ w.in_ok-push-in-None.ensures.items) w.in_ok-part-in-None.ensures w.place-is c.loop-at.invariant
]

-- A `let`.

pub let_simple-elements-requires : goal.let_simple-elements-requires
let_simple-elements-requires t c = omega (arith, ap weight c.cut.ensures.first, first_weight (length c.args.names.now) c.args.arguments.now)

pub let_simple-let_body-requires : goal.let_simple-let_body-requires
let_simple-let_body-requires t c = omega (arith, ap weight c.cut.ensures.others, other_weight (length c.args.names.now) c.args.arguments.now)

pub let_simple-returns : goal.let_simple-returns
let_simple-returns t c =
    subst (λ x. IfOk c.let_choices.result (λ made. choices_seen made ≡ x))
    (let_by c.args.context.now c.args.names.now c.args.arguments.now c.cut.result.0.now c.cut.result.1.now c.args.items.now c.front_and_last.result.0.now (tree_at c.front_and_last.result.1)
    (elements_seen c.in_ok-bindings.bindings.items) (option_map (λ ks. ks.items) c.in_ok-kinds.kinds) (option_map element_seen c.in_ok-body.body)
    c.cut.ensures.first c.cut.ensures.others c.front_and_last.ensures.front c.front_and_last.ensures.last c.in_ok-bindings.ensures
    (c.in_ok-kinds.ensures ∙ ap (λ es. argument_kinds (elements_seen es)) c.as_slice.ensures.value) c.in_ok-body.ensures)
    c.let_choices.ensures

-- A `format`.

pub format_choices-returns : goal.format_choices-returns
format_choices-returns t c =
    subst (λ x. IfOk c.as_it_is.result (λ made. choices_seen made ≡ x))
    (format_by c.args.context.now c.args.pieces.now c.args.arguments.now c.args.items.now (elements_seen c.in_ok-made.made.items) (element_seen c.in_ok-element.element) c.in_ok-made.ensures c.in_ok-element.ensures)
    c.as_it_is.ensures

pub piece_elements-loop-place-preserved : goal.piece_elements-loop-place-preserved
piece_elements-loop-place-preserved t c =
    one_more c.loop-place.made.items _ c.in_ok-piece_element.field-0
    (piece_element (slice_get c.args.pieces.now c.loop-place.place) (choices (term_of c.index-arguments-place.result)) (items_view c.args.items.now) (scope_of c.args.context.now.scope.now)) _ _ _
    c.in_ok-push.ensures.items c.in_ok-piece_element.ensures
    (piece_step c.args.context.now c.args.pieces.now c.loop-place.place c.args.arguments.now c.index-arguments-place.result c.args.items.now c.loop-place-test.true c.index-arguments-place.is)
    c.loop-place.invariant
