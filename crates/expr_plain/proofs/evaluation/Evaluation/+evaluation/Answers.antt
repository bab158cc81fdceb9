use Rattle.std.proofs.Common.{rules, ◌≡◌, ◌<◌, ◌+◌, ◌*◌, ◌∙◌, sym, ap, subst, arith, refl, Ok, false, List, ◌∷◌, [], ◌++◌, length, take}
use Rattle.prop_values.specs.View.{data_of}
use Rattle.prop_values.specs.declared.value.Value.{Value}
use Rattle.property_tables.specs.Fitting.{fit}
use Rattle.expr_syntax.specs.Chosen.{output_of}
use Rattle.expr_syntax.specs.Operators.{want_of}
use Rattle.expr_syntax.specs.TermSize.{nodes}
use Rattle.expr_syntax.specs.TermView.{term_of}
use Rattle.expr_syntax.specs.TermView.{weight}
use Rattle.operator_values.specs.Evaluated.{GivesValue, then_value}
use Rattle.halts.specs.declared.halt.Halt.TheVariants.{Fault}
use Rattle.eval_face.specs.Bindings.{outcomes_of}
use Rattle.operator_rules.specs.ValueStack.{added, IsBelow}
use Rattle.expr_plain.specs.Frames.{names_of, promises, scope_size, AreKept}
use Rattle.expr_plain.specs.Terms.{meanings}
use Rattle.expr_plain.specs.declared.evaluation.BindingSlot.{BindingSlot}
use Rattle.operator_rules.proofs.ArgumentLaws.{after, values_from, values_more, all_values, decision_later, undecided, below_one}
use Rattle.expr_plain.proofs.ArgumentLaws.{one_evaluates, one_halts, two_evaluate, first_halts, second_halts, values_halt, argument_evaluates, sequence_evaluates, sequence_halts, deciding_evaluates, deciding_halts, meanings_length}
use Rattle.expr_plain.proofs.BranchLaws.{case_by, rest_weight, match_evaluates, ramp_evaluates}
use Rattle.expr_plain.proofs.BindingLaws.{slot_within, kept_evaluates, binding_evaluates, let_evaluates}
use Rattle.expr_plain.proofs.Evaluating.{values_in, given, halted}
use Rattle.expr_plain.proofs.FrameLaws.{entered_within, enter_kept, enter_ready}
use Rattle.expr_plain.proofs.NameLaws.{let_misfit, let_weight, bindings_length}
use Rattle.expr_plain.proofs.evaluation.Evaluation.+evaluation.Goals as goal

-- An argument.

pub evaluate_argument-returns-then-not-is_sequence : goal.evaluate_argument-returns-then-not-is_sequence
evaluate_argument-returns-then-not-is_sequence g t c =
    let own = c.under-own.ensures ∙ ap (λ w. want_of w c.args.want.now) c.wanted.ensures in
    argument_evaluates c.args.op.now c.args.arguments.now c.index-arguments-place.is c.requires.within own (sym c.if-not-is_sequence.true ∙ c.is_sequence.ensures) c.evaluate.ensures

pub evaluate_argument-returns-in_err-value : goal.evaluate_argument-returns-in_err-value
evaluate_argument-returns-in_err-value g t c =
    let own = c.under-own.ensures ∙ ap (λ w. want_of w c.args.want.now) c.wanted.ensures in
    sequence_halts c.args.op.now c.args.arguments.now c.index-arguments-place-2.is c.requires.within own (sym c.if-not-is_sequence.false ∙ c.is_sequence.ensures) c.in_err-value.ensures c.from_residual.ensures.1

pub evaluate_argument-returns : goal.evaluate_argument-returns
evaluate_argument-returns g t c =
    let own = c.under-own.ensures ∙ ap (λ w. want_of w c.args.want.now) c.wanted.ensures in
    sequence_evaluates c.args.op.now c.args.arguments.now c.index-arguments-place-2.is c.requires.within own (sym c.if-not-is_sequence.false ∙ c.is_sequence.ensures) c.in_ok-value.ensures (sym c.in_ok-as_sequence.ensures)

-- All arguments.

pub evaluate_each-returns-in_err-value-in-1 : goal.evaluate_each-returns-in_err-value-in-1
evaluate_each-returns-in_err-value-in-1 g t c =
    one_halts c.args.op.now c.args.arguments.now c.in-1.is c.in_err-value-in-1.ensures c.from_residual.ensures.1

pub evaluate_each-returns-in_ok-value-in-1 : goal.evaluate_each-returns-in_ok-value-in-1
evaluate_each-returns-in_ok-value-in-1 g t c =
    one_evaluates c.args.op.now c.args.arguments.now c.in-1.is c.in_ok-value-in-1.ensures c.node_value.ensures

pub evaluate_each-returns-in_err-first-in-2 : goal.evaluate_each-returns-in_err-first-in-2
evaluate_each-returns-in_err-first-in-2 g t c =
    first_halts c.args.op.now c.args.arguments.now c.in-2.is c.in_err-first-in-2.ensures c.from_residual-in_err-first-in-2.ensures.1

pub evaluate_each-returns-in_err-second-in-2 : goal.evaluate_each-returns-in_err-second-in-2
evaluate_each-returns-in_err-second-in-2 g t c =
    second_halts c.args.op.now c.args.arguments.now c.in-2.is c.in_ok-first-in-2.ensures c.in_err-second-in-2.ensures c.from_residual-in_err-second-in-2.ensures.1

pub evaluate_each-returns-in_ok-second-in-2 : goal.evaluate_each-returns-in_ok-second-in-2
evaluate_each-returns-in_ok-second-in-2 g t c =
    two_evaluate c.args.op.now c.args.arguments.now c.in-2.is c.in_ok-first-in-2.ensures c.in_ok-second-in-2.ensures c.node_value-in-2.ensures

pub evaluate_values-returns-in_err-value : goal.evaluate_values-returns-in_err-value
evaluate_values-returns-in_err-value g t c =
    let l = meanings_length c.args.arguments.now in
    values_halt c.args.op.now (meanings c.args.arguments.now) c.args.self.now.values.items c.loop-place.self.values.items (omega (arith, c.loop-place-test.true)) c.loop-place.invariant.same c.in_err-value.ensures c.from_residual.ensures.1

pub evaluate_values-loop-place-preserved : goal.evaluate_values-loop-place-preserved
evaluate_values-loop-place-preserved g t c =
    let world = g.W.WorldView.world c.args.environment.now.world.now in
    let frames = c.args.environment.now.frames in
    let op = c.args.op.now in
    let ms = meanings c.args.arguments.now in
    let l = meanings_length c.args.arguments.now in
    let before = c.loop-place.invariant in
    let old = c.args.self.now.values.items in
    let vs = c.loop-place.self.values.items in
    let v = c.in_ok-value.value in
    let k = c.loop-place.place in
    let pushed = c.in_ok-push.ensures.items ∙ ap (λ xs. xs ++ v ∷ []) c.in_ok-value.ensures.stands in
    let from = values_in (values_from op ms (k + 1)) c.args.want.now frames world in
    let S : List Value → Type 0 = λ xs. after (added old xs) from ≡ values_in (values_from op ms 0) c.args.want.now frames world in
    let B : List Value → Type 0 = λ xs. IsBelow old xs in
    record {
      same = subst S (sym pushed) (values_more op ms k c.args.want.now (names_of frames.scope.now world) world old vs v _ (omega (arith, c.loop-place-test.true)) before.stands before.same c.in_ok-value.ensures.meant);
      entered = record { ready = c.in_ok-value.ensures.entered.ready; kept = c.in_ok-value.ensures.entered.kept };
      stands = subst B (sym pushed) (below_one old vs v before.stands);
    }

pub evaluate_values-returns : goal.evaluate_values-returns
evaluate_values-returns g t c =
    let world = g.W.WorldView.world c.args.environment.now.world.now in
    let frames = c.args.environment.now.frames in
    let ms = meanings c.args.arguments.now in
    let l = meanings_length c.args.arguments.now in
    let before = c.loop-place.invariant in
    record {
      meant = all_values c.args.op.now ms c.loop-place.place c.args.want.now (names_of frames.scope.now world) world (added c.args.self.now.values.items c.loop-place.self.values.items) _ (omega (arith, c.loop-place-test.false)) before.same;
      entered = before.entered;
      stands = before.stands;
    }

-- The first argument that decides.

pub evaluate_deciding-returns-in_err-value : goal.evaluate_deciding-returns-in_err-value
evaluate_deciding-returns-in_err-value g t c =
    let l = meanings_length c.args.arguments.now in
    deciding_halts c.args.op.now (meanings c.args.arguments.now) (omega (arith, c.loop-place-test.true)) c.loop-place.invariant.same c.in_err-value.ensures c.from_residual.ensures.1

pub evaluate_deciding-returns-in-Some-decided : goal.evaluate_deciding-returns-in-Some-decided
evaluate_deciding-returns-in-Some-decided g t c =
    let l = meanings_length c.args.arguments.now in
    deciding_evaluates c.in-Some-decided.found c.args.op.now (meanings c.args.arguments.now) (omega (arith, c.loop-place-test.true)) c.loop-place.invariant.same c.loop-place.invariant.stands c.in_ok-value.ensures c.in-Some-decided.ensures c.fitted.ensures

pub evaluate_deciding-loop-place-preserved : goal.evaluate_deciding-loop-place-preserved
evaluate_deciding-loop-place-preserved g t c =
    let world = g.W.WorldView.world c.args.environment.now.world.now in
    let frames = c.args.environment.now.frames in
    let l = meanings_length c.args.arguments.now in
    let before = c.loop-place.invariant in
    let here = c.in_ok-value.ensures in
    record {
      same = decision_later c.args.op.now (meanings c.args.arguments.now) c.loop-place.place c.args.want.now (names_of frames.scope.now world) world (data_of c.in_ok-value.value) (omega (arith, c.loop-place-test.true)) before.same here.meant (sym c.in_default-decided.ensures);
      entered = here.entered;
      stands = here.stands ∙ before.stands;
    }

pub evaluate_deciding-returns-in_err-undecided : goal.evaluate_deciding-returns-in_err-undecided
evaluate_deciding-returns-in_err-undecided g t c =
    let world = g.W.WorldView.world c.args.environment.now.world.now in
    let frames = c.args.environment.now.frames in
    let want = c.args.want.now in
    let l = meanings_length c.args.arguments.now in
    let whole = undecided c.args.op.now (meanings c.args.arguments.now) c.loop-place.place want (names_of frames.scope.now world) world (omega (arith, c.loop-place-test.false)) c.loop-place.invariant.same in
    halted (Fault c.in_err-undecided.field-0.0) c.from_residual-in_err-undecided.ensures.1 (sym whole ∙ ap (λ x. then_value x (fit want)) (sym c.in_err-undecided.ensures))

pub evaluate_deciding-returns : goal.evaluate_deciding-returns
evaluate_deciding-returns g t c =
    let world = g.W.WorldView.world c.args.environment.now.world.now in
    let frames = c.args.environment.now.frames in
    let want = c.args.want.now in
    let l = meanings_length c.args.arguments.now in
    let before = c.loop-place.invariant in
    let whole = undecided c.args.op.now (meanings c.args.arguments.now) c.loop-place.place want (names_of frames.scope.now world) world (omega (arith, c.loop-place-test.false)) before.same in
    given (subst (GivesValue c.fitted-2.result) (ap (λ x. then_value x (fit want)) c.in_ok-undecided.ensures ∙ whole) c.fitted-2.ensures) before.entered before.stands

-- What decides between outputs.

pub evaluate_case-loop-rest-preserved : goal.evaluate_case-loop-rest-preserved
evaluate_case-loop-rest-preserved g t c =
    let world = g.W.WorldView.world c.args.environment.now.world.now in
    let frames = c.args.environment.now.frames in
    let rest = c.loop-rest.rest.now in
    let before = c.loop-rest.invariant in
    let here = c.in_ok-evaluate.ensures in
    let w = rest_weight rest c.in-len2-up.len_at_least in
    record {
      within = omega (arith, before.within);
      same = case_by rest c.test-item.result c.chosen-item.result c.args.want.now (names_of frames.scope.now world) world (data_of c.in_ok-evaluate.field-0) (Ok false) c.test-item.is c.chosen-item.is c.in-len2-up.len_at_least here.meant (ap Ok (sym c.if-branch.false) ∙ c.in_ok-condition.ensures) ∙ before.same;
      entered = here.entered;
      stands = here.stands ∙ before.stands;
    }

pub evaluate_match-returns : goal.evaluate_match-returns
evaluate_match-returns g t c =
    let place = c.output_of-place.ensures ∙ ap (output_of c.args.labels.now (data_of c.in_ok-value.value)) c.saturating_sub.ensures in
    match_evaluates c.args.labels.now c.args.arguments.now c.input-item.is c.in-len1-up.len_at_least c.in_ok-value.ensures place c.evaluate_output.ensures

pub evaluate_ramp-returns : goal.evaluate_ramp-returns
evaluate_ramp-returns g t c =
    ramp_evaluates c.args.ramp.now.0 c.args.ramp.now.1 c.args.arguments.now c.input-item.is c.in-len1-up.len_at_least c.in_ok-evaluate.ensures c.in_ok-given.ensures c.in_ok-at.ensures c.ramp_want.ensures c.in_ok-value.ensures c.fitted.ensures

-- `let`.

pub evaluate_let-returns-then-arguments-count : goal.evaluate_let-returns-then-arguments-count
evaluate_let-returns-then-arguments-count g t c =
    let world = g.W.WorldView.world c.args.environment.now.world.now in
    let frames = c.args.environment.now.frames in
    record {
      meant = let_misfit c.args.names.now c.args.arguments.now c.args.want.now (names_of frames.scope.now world) world (λ q. c.if-arguments-count.true (q ∙ ap (λ n. n + 1) (sym c.len-count.ensures.count)));
      entered = tt;
      stands = tt;
    }

pub evaluate_let-evaluate-evaluated-requires : goal.evaluate_let-evaluate-evaluated-requires
evaluate_let-evaluate-evaluated-requires g t c κs within =
    let world = g.W.WorldView.world c.args.environment.now.world.now in
    let frames = c.args.environment.now.frames in
    let ps = promises frames.entered.now world in
    let names = names_of frames.scope.now world in
    let ss = c.args.self.now.slots.items in
    let n = c.len-count.result in
    let es = take n c.args.arguments.now in
    let P : List BindingSlot → Type 0 = λ x. AreKept (ps ++ outcomes_of (meanings es) names world) x in
    let d = c.decreases in
    let w = let_weight n c.args.arguments.now c.index-arguments-count.result c.if-arguments-count.false c.index-arguments-count.is in
    let smaller : 6 * nodes (term_of c.index-arguments-count.result) + (2 + 6 * weight es + scope_size frames.scope.now) < t = omega arith in
    let ready = enter_ready frames.scope.now es world ps ss c.in_ok-first.first (length c.args.names.now) c.requires.ready c.requires.kept c.in_ok-first.ensures.first (sym c.len-count.ensures.count ∙ bindings_length n c.args.arguments.now c.if-arguments-count.false) in
    let kept = subst P (sym c.in_ok-first.ensures.slots) (enter_kept es names world ps ss c.requires.kept) in
    (search (rules, smaller), (within, record { ready = ready; kept = kept }))

pub evaluate_let-returns : goal.evaluate_let-returns
evaluate_let-returns g t c =
    let_evaluates c.args.names.now c.args.arguments.now c.len-count.ensures.count c.if-arguments-count.false c.index-arguments-count.is refl refl c.requires c.in_ok-first.ensures.first c.in_ok-first.ensures.values c.evaluate-evaluated.ensures c.close_slots.ensures.slots c.close_slots.ensures.values

-- `var`.

pub evaluate_var-binding_of-requires : goal.evaluate_var-binding_of-requires
evaluate_var-binding_of-requires g t c =
    let world = g.W.WorldView.world c.args.environment.now.world.now in
    entered_within c.args.environment.now.frames world c.args.self.now (length c.as_slice-slots.result.now) c.requires (ap length c.as_slice-slots.ensures.value)

pub evaluate_var-kept-requires : goal.evaluate_var-kept-requires
evaluate_var-kept-requires g t c = slot_within c.in-Some.ensures c.requires

pub evaluate_var-returns-in-Some-kept : goal.evaluate_var-returns-in-Some-kept
evaluate_var-returns-in-Some-kept g t c = kept_evaluates c.in-Some.ensures c.requires c.in-Some-kept.ensures c.fitted_copy.ensures

pub evaluate_var-keep-requires : goal.evaluate_var-keep-requires
evaluate_var-keep-requires g t c =
    slot_within {frames = c.args.environment.now.frames} {evaluation = c.evaluate.new.self} c.in-Some.ensures (record { ready = c.requires.ready; kept = c.in_ok-value.ensures.entered.kept })

pub evaluate_var-returns : goal.evaluate_var-returns
evaluate_var-returns g t c =
    binding_evaluates c.in-Some.ensures (record { scope = refl; entered = refl }) c.requires c.in_ok-value.ensures c.in_ok-keep.ensures.slots c.in_ok-keep.ensures.values c.fitted.ensures
