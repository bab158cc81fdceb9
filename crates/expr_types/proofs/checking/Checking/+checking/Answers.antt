use Rattle.std.specs.Prelude.{Ok, Err, IfOk, true, slice_set}
use Rattle.std.proofs.Common.{◌≡◌, ◌<◌, ◌+◌, ◌*◌, ◌++◌, ◌∷◌, ap, sym, ◌∙◌, subst, length, drop, [], arith, rules}
use Rattle.decimal_json.specs.View.{path_of}
use Rattle.prop_values.specs.Faults.{no_faults, union}
use Rattle.expr_syntax.specs.TermSize.{nodes}
use Rattle.expr_syntax.specs.TermView.{term_of, weight}
use Rattle.expr_syntax.specs.declared.expression.Operator.TheVariants.{Let}
use Rattle.expr_types.specs.LiteralView.{literals_of, typings_of}
use Rattle.expr_types.specs.OwnTable.{own}
use Rattle.expr_types.specs.ScopeView.{scope_of}
use Rattle.expr_types.specs.Typing.{fault, typed_as, argument_typed, argument_want, sequence_if, is_sequence_of, looked_at, founds_of, let_typed, finished_node, own_where, frame}
use Rattle.expr_types.specs.TypedView.{typed_of, found_at, argument_found, founds_in, node_of, plain_of, root_of, added, added_below, kinds_after, kinds_of, all_added}
use Rattle.expr_types.specs.declared.fault.TypeCode.TheVariants as codes
use Rattle.expr_types.specs.declared.placed.Kinded.{Kinded}
use Rattle.expr_types.proofs.ArgumentLaws.{key_path, next_found, first_weight, only_weight, only_is, typings_length}
use Rattle.expr_types.proofs.FoundLaws.{if_ok_is, if_ok_all, ok_of, found_kinds, found_places, found_fault, settled, plain_root, plain_fault, plain_places, looked_root, looked_places}
use Rattle.expr_types.proofs.LetLaws.{body_in, let_fault, bodiless, let_root, let_body_fault, let_places, each_has_kind}
use Rattle.expr_types.proofs.checking.Checking.+checking.Goals as goal

pub check_argument-returns-in-Some-clause-node : goal.check_argument-returns-in-Some-clause-node
check_argument-returns-in-Some-clause-node t c =
    subst (λ p. IfOk c.check_at-in-Some.result (λ r. r ≡ root_of (found_at c.args.context.now c.args.count c.args.place c.args.argument.now p)))
    (key_path c.args.context.now.op.now c.args.count c.args.place (path_of c.args.context.now.here.now) c.element_at.result c.in-Some.key.now c.element_at.ensures c.in-Some.ensures)
    c.check_at-in-Some.ensures.node

pub check_argument-returns-in-Some-clause-places : goal.check_argument-returns-in-Some-clause-places
check_argument-returns-in-Some-clause-places t c =
    subst (λ p. IfOk c.check_at-in-Some.result (λ r. IfOk r (λ x. Ok c.check_at-in-Some.new.self.places.items ≡ added c.args.self.now.places.items (found_at c.args.context.now c.args.count c.args.place c.args.argument.now p))))
    (key_path c.args.context.now.op.now c.args.count c.args.place (path_of c.args.context.now.here.now) c.element_at.result c.in-Some.key.now c.element_at.ensures c.in-Some.ensures)
    c.check_at-in-Some.ensures.places

pub check_arguments-returns-in-Err-clause-kinds : goal.check_arguments-returns-in-Err-clause-kinds
check_arguments-returns-in-Err-clause-kinds t c =
    found_fault c.loop-place.kinds.items c.loop-place.may (argument_found c.args.context.now c.args.count c.loop-place.place c.index-arguments-place.result) c.in-Err.fault
    (founds_in c.args.context.now c.args.count (c.loop-place.place + 1) (drop (c.loop-place.place + 1) c.args.arguments.now))
    (sym c.in-Err.is ∙ c.in_ok-node.ensures.node) ∙
    (ap (λ r. kinds_after c.loop-place.kinds.items c.loop-place.may r) (sym (next_found c.args.context.now.op.now c.args.count c.loop-place.place c.args.arguments.now c.index-arguments-place.result c.args.context.now.want (scope_of c.args.context.now.scope.now) (path_of c.args.context.now.here.now) c.index-arguments-place.is c.loop-place-test.true)) ∙
    c.loop-place.invariant.kinds)

pub check_arguments-loop-place-preserved : goal.check_arguments-loop-place-preserved
check_arguments-loop-place-preserved t c =
    let found = argument_found c.args.context.now c.args.count c.loop-place.place c.index-arguments-place.result in
    let later = founds_in c.args.context.now c.args.count (c.loop-place.place + 1) (drop (c.loop-place.place + 1) c.args.arguments.now) in
    let next = next_found c.args.context.now.op.now c.args.count c.loop-place.place c.args.arguments.now c.index-arguments-place.result c.args.context.now.want (scope_of c.args.context.now.scope.now) (path_of c.args.context.now.here.now) c.index-arguments-place.is c.loop-place-test.true in
    let is : Ok c.in-Ok.node ≡ root_of (argument_found c.args.context.now c.args.count c.loop-place.place c.index-arguments-place.result) = sym c.in-Ok.is ∙ c.in_ok-node.ensures.node in
    record {
      kinds =
          ap (λ ks. kinds_after ks c.union-may.result later) c.in_ok-push-in-Ok.ensures.items ∙
          (ap (λ may. kinds_after (c.loop-place.kinds.items ++ c.in-Ok.node.kind ∷ []) may later) c.union-may.ensures ∙
          (found_kinds c.loop-place.kinds.items c.loop-place.may found c.in-Ok.node later is ∙
          (ap (λ r. kinds_after c.loop-place.kinds.items c.loop-place.may r) (sym next) ∙ c.loop-place.invariant.kinds)));
      places =
          found_places c.loop-place.self.places.items c.check_argument.new.self.places.items found c.in-Ok.node later is (ok_of c.in_ok-node.field-0 c.in-Ok.node c.in-Ok.is c.in_ok-node.ensures.places) ∙
          (ap (λ r. all_added c.loop-place.self.places.items r) (sym next) ∙ c.loop-place.invariant.places);
    }

pub check_at-returns-in-Ok-clause-node : goal.check_at-returns-in-Ok-clause-node
check_at-returns-in-Ok-clause-node t c =
    let is : Ok c.in-Ok.node ≡ root_of (typed_as (term_of c.args.argument.now) (is_sequence_of c.args.context.now.op.now c.args.place) (argument_want c.args.context.now.op.now c.args.count c.args.place c.args.context.now.want) (scope_of c.args.context.now.scope.now) (path_of c.args.there.now)) =
    sym c.in-Ok.is ∙ (c.in_ok-node.ensures.node ∙
    (ap (λ w. root_of (typed_of c.args.argument.now c.is_sequence-asked.result w c.args.context.now.scope.now c.args.there.now)) c.argument_want-own.ensures ∙
    ap (λ b. root_of (typed_of c.args.argument.now b (argument_want c.args.context.now.op.now c.args.count c.args.place c.args.context.now.want) c.args.context.now.scope.now c.args.there.now)) c.is_sequence-asked.ensures)) in
    if_ok_is c.looked_at.result (sequence_if c.is_sequence-asked.result c.in-Ok.node (path_of c.args.there.now)) (root_of (found_at c.args.context.now c.args.count c.args.place c.args.argument.now (path_of c.args.there.now))) c.looked_at.ensures
    (ap (λ b. sequence_if b c.in-Ok.node (path_of c.args.there.now)) c.is_sequence-asked.ensures ∙
    looked_root (is_sequence_of c.args.context.now.op.now c.args.place) (typed_as (term_of c.args.argument.now) (is_sequence_of c.args.context.now.op.now c.args.place) (argument_want c.args.context.now.op.now c.args.count c.args.place c.args.context.now.want) (scope_of c.args.context.now.scope.now) (path_of c.args.there.now)) c.in-Ok.node (path_of c.args.there.now) is)

pub check_at-returns-in-Ok-clause-places : goal.check_at-returns-in-Ok-clause-places
check_at-returns-in-Ok-clause-places t c =
    let is : Ok c.in-Ok.node ≡ root_of (typed_as (term_of c.args.argument.now) (is_sequence_of c.args.context.now.op.now c.args.place) (argument_want c.args.context.now.op.now c.args.count c.args.place c.args.context.now.want) (scope_of c.args.context.now.scope.now) (path_of c.args.there.now)) =
    sym c.in-Ok.is ∙ (c.in_ok-node.ensures.node ∙
    (ap (λ w. root_of (typed_of c.args.argument.now c.is_sequence-asked.result w c.args.context.now.scope.now c.args.there.now)) c.argument_want-own.ensures ∙
    ap (λ b. root_of (typed_of c.args.argument.now b (argument_want c.args.context.now.op.now c.args.count c.args.place c.args.context.now.want) c.args.context.now.scope.now c.args.there.now)) c.is_sequence-asked.ensures)) in
    let here : Ok c.check_expression.new.self.places.items ≡ added c.args.self.now.places.items (typed_as (term_of c.args.argument.now) (is_sequence_of c.args.context.now.op.now c.args.place) (argument_want c.args.context.now.op.now c.args.count c.args.place c.args.context.now.want) (scope_of c.args.context.now.scope.now) (path_of c.args.there.now)) =
    ok_of c.in_ok-node.field-0 c.in-Ok.node c.in-Ok.is c.in_ok-node.ensures.places ∙
    (ap (λ w. added c.args.self.now.places.items (typed_of c.args.argument.now c.is_sequence-asked.result w c.args.context.now.scope.now c.args.there.now)) c.argument_want-own.ensures ∙
    ap (λ b. added c.args.self.now.places.items (typed_of c.args.argument.now b (argument_want c.args.context.now.op.now c.args.count c.args.place c.args.context.now.want) c.args.context.now.scope.now c.args.there.now)) c.is_sequence-asked.ensures) in
    if_ok_all c.looked_at.result
    (λ r same. looked_places (is_sequence_of c.args.context.now.op.now c.args.place) c.args.self.now.places.items c.check_expression.new.self.places.items (typed_as (term_of c.args.argument.now) (is_sequence_of c.args.context.now.op.now c.args.place) (argument_want c.args.context.now.op.now c.args.count c.args.place c.args.context.now.want) (scope_of c.args.context.now.scope.now) (path_of c.args.there.now)) c.in-Ok.node (path_of c.args.there.now) r is here (same ∙ ap (λ b. sequence_if b c.in-Ok.node (path_of c.args.there.now)) c.is_sequence-asked.ensures))
    c.looked_at.ensures

pub check_let-check_arguments-requires : goal.check_let-check_arguments-requires
check_let-check_arguments-requires t c = omega (arith, ap weight c.cut.ensures.first, first_weight (length c.args.names.now) c.args.arguments.now)

pub check_let-check_body-requires : goal.check_let-check_body-requires
check_let-check_body-requires t c =
    let some : 0 < length c.cut.result.1.now = omega (arith, c.if-rest-ne1.false) in
    let d = c.decreases in
    let w = only_weight c.args.arguments.now (length c.args.names.now) c.cut.result.1.now c.index-rest-0.result c.cut.ensures.others some c.index-rest-0.is in
    let smaller : 8 * nodes (term_of c.index-rest-0.result) + 3 < t = omega arith in
    let each : length c.args.names.now ≡ length c.as_slice.result.now =
    each_has_kind c.args.context.now.op.now (length c.args.arguments.now) (length c.args.names.now) c.args.arguments.now c.cut.result.0.now c.cut.result.1.now c.args.context.now.want (scope_of c.args.context.now.scope.now) (path_of c.args.context.now.here.now) c.in-Ok.found.kinds.items c.in-Ok.found.may c.cut.ensures.first c.cut.ensures.others some (sym (ap kinds_of c.in-Ok.is) ∙ c.in_ok-found.ensures.kinds)
    ∙ ap length (sym c.as_slice.ensures.value) in
    search (rules, smaller, each)

pub check_let-returns-in-Ok-2-clause-node : goal.check_let-returns-in-Ok-2-clause-node
check_let-returns-in-Ok-2-clause-node t c =
    let found : Ok (c.in-Ok.found.kinds.items, c.in-Ok.found.may) ≡ kinds_after [] no_faults (founds_of (Let c.args.names.now) (length c.args.arguments.now) 0 (typings_of c.cut.result.0.now) c.args.context.now.want (scope_of c.args.context.now.scope.now) (path_of c.args.context.now.here.now)) =
    sym (ap kinds_of c.in-Ok.is) ∙ (c.in_ok-found.ensures.kinds ∙ ap (λ o. kinds_after [] no_faults (founds_of o (length c.args.arguments.now) 0 (typings_of c.cut.result.0.now) c.args.context.now.want (scope_of c.args.context.now.scope.now) (path_of c.args.context.now.here.now))) c.requires) in
    let gives : Ok c.in-Ok-2.node ≡ root_of (body_in c.args.names.now c.in-Ok.found.kinds.items c.index-rest-0.result c.args.context.now.want (scope_of c.args.context.now.scope.now) (path_of c.args.context.now.here.now)) =
    sym c.in-Ok-2.is ∙ (c.in_ok-node-in-Ok.ensures.node ∙
    (ap (λ o. root_of (argument_typed o (length c.args.names.now + 1) (length c.args.names.now) (typed_as (term_of c.index-rest-0.result)) c.args.context.now.want (frame c.args.names.now c.as_slice.result.now ∷ scope_of c.args.context.now.scope.now) (path_of c.args.context.now.here.now))) c.requires ∙
    ap (λ ks. root_of (body_in c.args.names.now ks c.index-rest-0.result c.args.context.now.want (scope_of c.args.context.now.scope.now) (path_of c.args.context.now.here.now))) c.as_slice.ensures.value)) in
    ap Ok c.with_bindings.ensures ∙
    let_root c.args.names.now c.args.arguments.now c.args.context.now.want (scope_of c.args.context.now.scope.now) (path_of c.args.context.now.here.now) c.cut.result.0.now c.cut.result.1.now c.index-rest-0.result c.in-Ok.found.kinds.items c.in-Ok.found.may c.in-Ok-2.node c.cut.ensures.first c.cut.ensures.others
    (only_is c.cut.result.1.now c.index-rest-0.result (c.if-rest-ne1.false) c.index-rest-0.is) found gives

pub check_let-returns-in-Ok-2-clause-places : goal.check_let-returns-in-Ok-2-clause-places
check_let-returns-in-Ok-2-clause-places t c =
    let found : Ok (c.in-Ok.found.kinds.items, c.in-Ok.found.may) ≡ kinds_after [] no_faults (founds_of (Let c.args.names.now) (length c.args.arguments.now) 0 (typings_of c.cut.result.0.now) c.args.context.now.want (scope_of c.args.context.now.scope.now) (path_of c.args.context.now.here.now)) =
    sym (ap kinds_of c.in-Ok.is) ∙ (c.in_ok-found.ensures.kinds ∙ ap (λ o. kinds_after [] no_faults (founds_of o (length c.args.arguments.now) 0 (typings_of c.cut.result.0.now) c.args.context.now.want (scope_of c.args.context.now.scope.now) (path_of c.args.context.now.here.now))) c.requires) in
    let gives : Ok c.in-Ok-2.node ≡ root_of (body_in c.args.names.now c.in-Ok.found.kinds.items c.index-rest-0.result c.args.context.now.want (scope_of c.args.context.now.scope.now) (path_of c.args.context.now.here.now)) =
    sym c.in-Ok-2.is ∙ (c.in_ok-node-in-Ok.ensures.node ∙
    (ap (λ o. root_of (argument_typed o (length c.args.names.now + 1) (length c.args.names.now) (typed_as (term_of c.index-rest-0.result)) c.args.context.now.want (frame c.args.names.now c.as_slice.result.now ∷ scope_of c.args.context.now.scope.now) (path_of c.args.context.now.here.now))) c.requires ∙
    ap (λ ks. root_of (body_in c.args.names.now ks c.index-rest-0.result c.args.context.now.want (scope_of c.args.context.now.scope.now) (path_of c.args.context.now.here.now))) c.as_slice.ensures.value)) in
    let here : Ok c.check_arguments.new.self.places.items ≡ all_added c.args.self.now.places.items (founds_of (Let c.args.names.now) (length c.args.arguments.now) 0 (typings_of c.cut.result.0.now) c.args.context.now.want (scope_of c.args.context.now.scope.now) (path_of c.args.context.now.here.now)) =
    ok_of c.in_ok-found.field-0 c.in-Ok.found c.in-Ok.is c.in_ok-found.ensures.places ∙ ap (λ o. all_added c.args.self.now.places.items (founds_of o (length c.args.arguments.now) 0 (typings_of c.cut.result.0.now) c.args.context.now.want (scope_of c.args.context.now.scope.now) (path_of c.args.context.now.here.now))) c.requires in
    let then : Ok c.check_body.new.self.places.items ≡ added c.check_arguments.new.self.places.items (body_in c.args.names.now c.in-Ok.found.kinds.items c.index-rest-0.result c.args.context.now.want (scope_of c.args.context.now.scope.now) (path_of c.args.context.now.here.now)) =
    ok_of c.in_ok-node-in-Ok.field-0 c.in-Ok-2.node c.in-Ok-2.is c.in_ok-node-in-Ok.ensures.places ∙
    (ap (λ o. added c.check_arguments.new.self.places.items (argument_typed o (length c.args.names.now + 1) (length c.args.names.now) (typed_as (term_of c.index-rest-0.result)) c.args.context.now.want (frame c.args.names.now c.as_slice.result.now ∷ scope_of c.args.context.now.scope.now) (path_of c.args.context.now.here.now))) c.requires ∙
    ap (λ ks. added c.check_arguments.new.self.places.items (body_in c.args.names.now ks c.index-rest-0.result c.args.context.now.want (scope_of c.args.context.now.scope.now) (path_of c.args.context.now.here.now))) c.as_slice.ensures.value) in
    let_places c.args.names.now c.args.arguments.now c.args.context.now.want (scope_of c.args.context.now.scope.now) (path_of c.args.context.now.here.now) c.cut.result.0.now c.cut.result.1.now c.index-rest-0.result c.in-Ok.found.kinds.items c.in-Ok.found.may c.in-Ok-2.node c.args.self.now.places.items c.check_arguments.new.self.places.items c.check_body.new.self.places.items c.cut.ensures.first c.cut.ensures.others
    (only_is c.cut.result.1.now c.index-rest-0.result (c.if-rest-ne1.false) c.index-rest-0.is) found here gives then

pub check_let-returns-in-Ok-clause-node : goal.check_let-returns-in-Ok-clause-node
check_let-returns-in-Ok-clause-node t c =
    let found : Ok (c.in-Ok.found.kinds.items, c.in-Ok.found.may) ≡ kinds_after [] no_faults (founds_of (Let c.args.names.now) (length c.args.arguments.now) 0 (typings_of c.cut.result.0.now) c.args.context.now.want (scope_of c.args.context.now.scope.now) (path_of c.args.context.now.here.now)) =
    sym (ap kinds_of c.in-Ok.is) ∙ (c.in_ok-found.ensures.kinds ∙ ap (λ o. kinds_after [] no_faults (founds_of o (length c.args.arguments.now) 0 (typings_of c.cut.result.0.now) c.args.context.now.want (scope_of c.args.context.now.scope.now) (path_of c.args.context.now.here.now))) c.requires) in
    let gives : Err c.in-Err-2.fault ≡ root_of (body_in c.args.names.now c.in-Ok.found.kinds.items c.index-rest-0.result c.args.context.now.want (scope_of c.args.context.now.scope.now) (path_of c.args.context.now.here.now)) =
    sym c.in-Err-2.is ∙ (c.in_ok-node-in-Ok.ensures.node ∙
    (ap (λ o. root_of (argument_typed o (length c.args.names.now + 1) (length c.args.names.now) (typed_as (term_of c.index-rest-0.result)) c.args.context.now.want (frame c.args.names.now c.as_slice.result.now ∷ scope_of c.args.context.now.scope.now) (path_of c.args.context.now.here.now))) c.requires ∙
    ap (λ ks. root_of (body_in c.args.names.now ks c.index-rest-0.result c.args.context.now.want (scope_of c.args.context.now.scope.now) (path_of c.args.context.now.here.now))) c.as_slice.ensures.value)) in
    let_body_fault c.args.names.now c.args.arguments.now c.args.context.now.want (scope_of c.args.context.now.scope.now) (path_of c.args.context.now.here.now) c.cut.result.0.now c.cut.result.1.now c.index-rest-0.result c.in-Ok.found.kinds.items c.in-Ok.found.may c.in-Err-2.fault c.cut.ensures.first c.cut.ensures.others
    (only_is c.cut.result.1.now c.index-rest-0.result (c.if-rest-ne1.false) c.index-rest-0.is) found gives

pub check_let-returns-then-rest-ne1-clause-node : goal.check_let-returns-then-rest-ne1-clause-node
check_let-returns-then-rest-ne1-clause-node t c =
    let found : Ok (c.in-Ok.found.kinds.items, c.in-Ok.found.may) ≡ kinds_after [] no_faults (founds_of (Let c.args.names.now) (length c.args.arguments.now) 0 (typings_of c.cut.result.0.now) c.args.context.now.want (scope_of c.args.context.now.scope.now) (path_of c.args.context.now.here.now)) =
    sym (ap kinds_of c.in-Ok.is) ∙ (c.in_ok-found.ensures.kinds ∙ ap (λ o. kinds_after [] no_faults (founds_of o (length c.args.arguments.now) 0 (typings_of c.cut.result.0.now) c.args.context.now.want (scope_of c.args.context.now.scope.now) (path_of c.args.context.now.here.now))) c.requires) in
    if_ok_is c.refused.result (fault Kinded (path_of c.args.context.now.here.now) codes.Kind) (root_of (let_typed c.args.names.now (typings_of c.args.arguments.now) c.args.context.now.want (scope_of c.args.context.now.scope.now) (path_of c.args.context.now.here.now))) c.refused.ensures
    (bodiless c.args.names.now c.args.arguments.now c.args.context.now.want (scope_of c.args.context.now.scope.now) (path_of c.args.context.now.here.now) c.cut.result.0.now c.cut.result.1.now c.in-Ok.found.kinds.items c.in-Ok.found.may c.cut.ensures.first c.cut.ensures.others c.if-rest-ne1.true found)

pub check_let-returns-clause-node : goal.check_let-returns-clause-node
check_let-returns-clause-node t c =
    let_fault c.args.names.now c.args.arguments.now c.args.context.now.want (scope_of c.args.context.now.scope.now) (path_of c.args.context.now.here.now) c.cut.result.0.now c.cut.result.1.now c.in-Err.fault c.cut.ensures.first c.cut.ensures.others
    (sym (ap kinds_of c.in-Err.is) ∙ (c.in_ok-found.ensures.kinds ∙ ap (λ o. kinds_after [] no_faults (founds_of o (length c.args.arguments.now) 0 (typings_of c.cut.result.0.now) c.args.context.now.want (scope_of c.args.context.now.scope.now) (path_of c.args.context.now.here.now))) c.requires))

pub check_node-returns-in-Ok-clause-places : goal.check_node-returns-in-Ok-clause-places
check_node-returns-in-Ok-clause-places t c =
    let below : Ok c.check_inside.new.self.places.items ≡ added_below (c.args.self.now.places.items ++ record { want = c.args.context.now.want; always = true } ∷ []) (node_of c.args.context.now c.args.arguments.now) =
    ok_of c.in_ok-node.field-0 c.in-Ok.node c.in-Ok.is c.in_ok-node.ensures.places ∙ ap (λ ps. added_below ps (node_of c.args.context.now c.args.arguments.now)) c.in_ok-push.ensures.items in
    ap (λ ps. Ok ps) c.settle.ensures ∙
    (ap (λ n. Ok (slice_set c.check_inside.new.self.places.items n c.in-Ok.node.root)) c.count-at.ensures ∙
    settled c.args.self.now.places.items c.check_inside.new.self.places.items (record { want = c.args.context.now.want; always = true }) (node_of c.args.context.now c.args.arguments.now) c.in-Ok.node (sym c.in-Ok.is ∙ c.in_ok-node.ensures.node) below)

pub check_plain-returns-in_ok-own-in-Ok-clause-node : goal.check_plain-returns-in_ok-own-in-Ok-clause-node
check_plain-returns-in_ok-own-in-Ok-clause-node t c =
    let found : Ok (c.in-Ok.found.kinds.items, c.in-Ok.found.may) ≡ kinds_after [] no_faults (founds_of c.args.context.now.op.now (length (typings_of c.args.arguments.now)) 0 (typings_of c.args.arguments.now) c.args.context.now.want (scope_of c.args.context.now.scope.now) (path_of c.args.context.now.here.now)) =
    sym (ap kinds_of c.in-Ok.is) ∙ (c.in_ok-found.ensures.kinds ∙ ap (λ n. kinds_after [] no_faults (founds_of c.args.context.now.op.now n 0 (typings_of c.args.arguments.now) c.args.context.now.want (scope_of c.args.context.now.scope.now) (path_of c.args.context.now.here.now))) (sym (typings_length c.args.arguments.now))) in
    if_ok_is c.finished.result (finished_node c.args.context.now.op.now c.args.context.now.want (own_where c.args.context.now.is_sequence c.in_ok-own-in-Ok.own) c.in-Ok.found.may (path_of c.args.context.now.here.now)) (root_of (plain_of c.args.context.now c.args.arguments.now)) c.finished.ensures
    (ap (λ o. finished_node c.args.context.now.op.now c.args.context.now.want (own_where c.args.context.now.is_sequence o) c.in-Ok.found.may (path_of c.args.context.now.here.now)) (c.in_ok-own-in-Ok.ensures ∙ ap (λ ks. own c.args.context.now.op.now c.args.context.now.want (literals_of c.args.arguments.now) ks) c.as_slice.ensures.value) ∙
    plain_root c.args.context.now.is_sequence c.args.context.now.op.now c.args.context.now.want (literals_of c.args.arguments.now) (path_of c.args.context.now.here.now) (founds_of c.args.context.now.op.now (length (typings_of c.args.arguments.now)) 0 (typings_of c.args.arguments.now) c.args.context.now.want (scope_of c.args.context.now.scope.now) (path_of c.args.context.now.here.now)) c.in-Ok.found.kinds.items c.in-Ok.found.may found)

pub check_plain-returns-in_ok-own-in-Ok-clause-places : goal.check_plain-returns-in_ok-own-in-Ok-clause-places
check_plain-returns-in_ok-own-in-Ok-clause-places t c =
    let found : Ok (c.in-Ok.found.kinds.items, c.in-Ok.found.may) ≡ kinds_after [] no_faults (founds_of c.args.context.now.op.now (length (typings_of c.args.arguments.now)) 0 (typings_of c.args.arguments.now) c.args.context.now.want (scope_of c.args.context.now.scope.now) (path_of c.args.context.now.here.now)) =
    sym (ap kinds_of c.in-Ok.is) ∙ (c.in_ok-found.ensures.kinds ∙ ap (λ n. kinds_after [] no_faults (founds_of c.args.context.now.op.now n 0 (typings_of c.args.arguments.now) c.args.context.now.want (scope_of c.args.context.now.scope.now) (path_of c.args.context.now.here.now))) (sym (typings_length c.args.arguments.now))) in
    let here : Ok c.check_arguments.new.self.places.items ≡ all_added c.args.self.now.places.items (founds_of c.args.context.now.op.now (length (typings_of c.args.arguments.now)) 0 (typings_of c.args.arguments.now) c.args.context.now.want (scope_of c.args.context.now.scope.now) (path_of c.args.context.now.here.now)) =
    ok_of c.in_ok-found.field-0 c.in-Ok.found c.in-Ok.is c.in_ok-found.ensures.places ∙ ap (λ n. all_added c.args.self.now.places.items (founds_of c.args.context.now.op.now n 0 (typings_of c.args.arguments.now) c.args.context.now.want (scope_of c.args.context.now.scope.now) (path_of c.args.context.now.here.now))) (sym (typings_length c.args.arguments.now)) in
    if_ok_all c.finished.result
    (λ r same. plain_places c.args.context.now.is_sequence c.args.context.now.op.now c.args.context.now.want (literals_of c.args.arguments.now) (path_of c.args.context.now.here.now) (founds_of c.args.context.now.op.now (length (typings_of c.args.arguments.now)) 0 (typings_of c.args.arguments.now) c.args.context.now.want (scope_of c.args.context.now.scope.now) (path_of c.args.context.now.here.now)) c.in-Ok.found.kinds.items c.in-Ok.found.may c.args.self.now.places.items c.check_arguments.new.self.places.items r found here
    (same ∙ ap (λ o. finished_node c.args.context.now.op.now c.args.context.now.want (own_where c.args.context.now.is_sequence o) c.in-Ok.found.may (path_of c.args.context.now.here.now)) (c.in_ok-own-in-Ok.ensures ∙ ap (λ ks. own c.args.context.now.op.now c.args.context.now.want (literals_of c.args.arguments.now) ks) c.as_slice.ensures.value)))
    c.finished.ensures

pub check_plain-returns-in-Err-clause-node : goal.check_plain-returns-in-Err-clause-node
check_plain-returns-in-Err-clause-node t c =
    plain_fault c.args.context.now.is_sequence c.args.context.now.op.now c.args.context.now.want (literals_of c.args.arguments.now) (path_of c.args.context.now.here.now) (founds_of c.args.context.now.op.now (length (typings_of c.args.arguments.now)) 0 (typings_of c.args.arguments.now) c.args.context.now.want (scope_of c.args.context.now.scope.now) (path_of c.args.context.now.here.now)) c.in-Err.fault
    (sym (ap kinds_of c.in-Err.is) ∙ (c.in_ok-found.ensures.kinds ∙ ap (λ n. kinds_after [] no_faults (founds_of c.args.context.now.op.now n 0 (typings_of c.args.arguments.now) c.args.context.now.want (scope_of c.args.context.now.scope.now) (path_of c.args.context.now.here.now))) (sym (typings_length c.args.arguments.now))))
