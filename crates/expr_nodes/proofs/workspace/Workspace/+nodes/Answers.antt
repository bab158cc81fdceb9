use Rattle.std.proofs.Common.{rules, ◌≡◌, ◌<◌, ◌≤◌, ◌+◌, ◌-◌, ◌*◌, ℤ, ◌∙◌, ℕ, sym, ap, subst, arith, refl, Ok, Err, false, true, List, [], ◌∷◌, ◌++◌, length, take, drop}
use Rattle.std.specs.Prelude.{Vec}
use Rattle.std.proofs.Math.Seq.{take-length}
use Rattle.std.specs.declared.alloc.Global.{Global}
use Rattle.prop_values.specs.Data.{pairs_of}
use Rattle.prop_values.specs.View.{data_of}
use Rattle.prop_values.specs.declared.value.Value.{Value}
use Rattle.prop_values.specs.declared.value.Value.TheVariants.{Num, List as ListOf}
use Rattle.prop_values.specs.declared.kinds.Want.TheVariants.{Any}
use Rattle.property_tables.specs.Fitting.{fit}
use Rattle.expr_syntax.specs.Chosen.{output_of}
use Rattle.operator_values.specs.Evaluated.{GivesValue, then_value}
use Rattle.eval_face.specs.Lookups.{entry_at}
use Rattle.eval_face.specs.Meaning.{meaning_by}
use Rattle.eval_face.specs.Meanings.{as_sequence}
use Rattle.eval_face.specs.Rules.{rule_of}
use Rattle.eval_face.specs.Branches.{output_at, ramp_at, between_values}
use Rattle.interpolate_fixed.specs.Places.{input_at, place_of}
use Rattle.operator_values.specs.Ramps.{between_of}
use Rattle.operator_rules.specs.ProgramRules.{rule_in}
use Rattle.operator_rules.specs.ValueStack.{IsBelow, added}
use Rattle.operator_rules.specs.declared.rule.OperatorRule.{OperatorRule}
use Rattle.operator_rules.proofs.ArgumentLaws.{after, values_from, values_more, all_values, below_one}
use Rattle.operator_rules.proofs.Halts.{then_halted}
use Rattle.expr_nodes.specs.declared.access.NodeForm.{NodeForm}
use Rattle.expr_nodes.specs.NodeForms.{IsForm}
use Rattle.expr_nodes.specs.Node.{children, size, total_size}
use Rattle.expr_nodes.specs.Outcome.{outcome, promises}
use Rattle.expr_nodes.specs.Slots.{reach}
use Rattle.expr_nodes.specs.EvaluatesNode.{IsReady, arguments_of, known_arguments, outcome_at, size_in}
use Rattle.expr_nodes.proofs.NodeLaws.{inner_outcome, inner_size, inner_below, asked_below, size_pos, below_at, child_size, size_at, outcomes_length, outcome_here, outcome_none, argument_is, argument_known, take_within}
use Rattle.expr_nodes.proofs.SlotLaws.{reach_at}
use Rattle.expr_nodes.proofs.Composing.{begun, ticked, cheaper, given, halts, ended}
use Rattle.expr_nodes.proofs.BindingParts.{slot_within, binding_ready, asked_before, asked_constant, asked_halts, asked_fails, asked_evaluates}
use Rattle.expr_nodes.proofs.ArgumentParts.{plain_evaluates, none_evaluates, one_evaluates, one_halts, two_evaluate, two_known, among_known, among_evaluates, among_halts, first_halts, second_halts, values_begin, values_halt, values_fail, one_further, many_halts, many_evaluates, deciding_borrows, deciding_halts, deciding_evaluates, decides_later, none_decides}
use Rattle.expr_nodes.proofs.BranchParts.{count_here, no_match, no_step, no_ramp, case_any, match_any, step_any, case_halts, case_faults, case_chooses, case_later, case_further, case_ends, case_fails, input_halts, input_fails, output_follows, output_alone, input_gives, match_halted, match_with, step_halted, step_with, ramp_halted, ramp_with, ramp_halts, ramp_evaluates, stop_alone, lower_halts, upper_halts, both_evaluate, both_there}
use Rattle.expr_nodes.proofs.workspace.Workspace.+nodes.Goals as goal

-- A node.

pub evaluate_node-evaluate_asked-requires : goal.evaluate_node-evaluate_asked-requires
evaluate_node-evaluate_asked-requires g t c =
    let n = g.N.NodeHandle.node c.args.tree in
    let bs = g.B.Bindings.listed c.args.around.now.bindings.now in
    let world = g.W.WorldView.world c.args.around.now.world.now in
    let cs = children n in
    let F : NodeForm → Type 0 = λ f. IsForm f n in
    let e = subst F c.in-Asked.is c.form.ensures in
    let d = c.decreases in
    let s = size_pos n in
    let limit = c.args.around.now.limit in
    let smaller : reach limit bs + 1 < t = omega arith in
    search (rules, smaller, asked_below limit n c.in-Asked.slot c.in-Asked.want e c.requires.below, c.requires.ready)

pub evaluate_node-number_there-requires : goal.evaluate_node-number_there-requires
evaluate_node-number_there-requires g t c =
    let n = g.N.NodeHandle.node c.args.tree in
    let F : NodeForm → Type 0 = λ f. IsForm f n in
    subst F c.in-Inner.is c.form.ensures

pub evaluate_node-evaluate_inner-requires : goal.evaluate_node-evaluate_inner-requires
evaluate_node-evaluate_inner-requires g t c =
    let n = g.N.NodeHandle.node c.args.tree in
    let bs = g.B.Bindings.listed c.args.around.now.bindings.now in
    let world = g.W.WorldView.world c.args.around.now.world.now in
    let cs = children n in
    let F : NodeForm → Type 0 = λ f. IsForm f n in
    let e = subst F c.in-Inner.is c.form.ensures in
    let d = c.decreases in
    let limit = c.args.around.now.limit in
    let s = inner_size n c.in-Inner.op.now c.in-Inner.want e in
    let b = inner_below limit n c.in-Inner.op.now c.in-Inner.want e c.requires.below in
    let smaller : 6 * total_size cs + reach limit bs + 5 < t = omega arith in
    search (rules, smaller, b.0, b.1, c.requires.ready)

pub evaluate_node-returns-in-Constant-clause-all : goal.evaluate_node-returns-in-Constant-clause-all
evaluate_node-returns-in-Constant-clause-all g t c =
    let n = g.N.NodeHandle.node c.args.tree in
    let bs = g.B.Bindings.listed c.args.around.now.bindings.now in
    let world = g.W.WorldView.world c.args.around.now.world.now in
    let cs = children n in
    let F : NodeForm → Type 0 = λ f. IsForm f n in
    let e = subst F c.in-Constant.is c.form.ensures in
    given 1 (size n) c.requires.ready (ticked c.requires.ready c.tick.ensures) (size_pos n) (subst (GivesValue c.fitted_copy.result) (sym (ap (λ x. outcome x (promises bs world) world) e)) c.fitted_copy.ensures) refl

pub evaluate_node-returns-in-Given-clause-all : goal.evaluate_node-returns-in-Given-clause-all
evaluate_node-returns-in-Given-clause-all g t c =
    let n = g.N.NodeHandle.node c.args.tree in
    let bs = g.B.Bindings.listed c.args.around.now.bindings.now in
    let world = g.W.WorldView.world c.args.around.now.world.now in
    let cs = children n in
    let F : NodeForm → Type 0 = λ f. IsForm f n in
    let e = subst F c.in-Given.is c.form.ensures in
    given 1 (size n) c.requires.ready (ticked c.requires.ready c.tick.ensures) (size_pos n) (subst (GivesValue c.fitted_copy-in-Given.result) (sym (ap (λ x. outcome x (promises bs world) world) e)) c.fitted_copy-in-Given.ensures) refl

pub evaluate_node-returns-in-Faulty-clause-all : goal.evaluate_node-returns-in-Faulty-clause-all
evaluate_node-returns-in-Faulty-clause-all g t c =
    let n = g.N.NodeHandle.node c.args.tree in
    let bs = g.B.Bindings.listed c.args.around.now.bindings.now in
    let world = g.W.WorldView.world c.args.around.now.world.now in
    let cs = children n in
    let F : NodeForm → Type 0 = λ f. IsForm f n in
    let e = subst F c.in-Faulty.is c.form.ensures in
    given 1 (size n) c.requires.ready (ticked c.requires.ready c.tick.ensures) (size_pos n) (ap (λ x. outcome x (promises bs world) world) e) refl

pub evaluate_node-returns-in-Asked-clause-all : goal.evaluate_node-returns-in-Asked-clause-all
evaluate_node-returns-in-Asked-clause-all g t c =
    let n = g.N.NodeHandle.node c.args.tree in
    let bs = g.B.Bindings.listed c.args.around.now.bindings.now in
    let world = g.W.WorldView.world c.args.around.now.world.now in
    let cs = children n in
    let F : NodeForm → Type 0 = λ f. IsForm f n in
    let e = subst F c.in-Asked.is c.form.ensures in
    let s = size_pos n in
    ended 1 0 (size n) (ticked c.requires.ready c.tick.ensures) c.evaluate_asked.ensures (omega (arith, s)) (sym (ap (λ x. outcome x (promises bs world) world) e)) refl

pub evaluate_node-returns-in-Property-clause-all : goal.evaluate_node-returns-in-Property-clause-all
evaluate_node-returns-in-Property-clause-all g t c =
    let n = g.N.NodeHandle.node c.args.tree in
    let bs = g.B.Bindings.listed c.args.around.now.bindings.now in
    let world = g.W.WorldView.world c.args.around.now.world.now in
    let cs = children n in
    let F : NodeForm → Type 0 = λ f. IsForm f n in
    let e = subst F c.in-Property.is c.form.ensures in
    let m = ap (λ x. outcome x (promises bs world) world) e in
    let key = ap (λ ps. fit c.in-Property.want (entry_at c.in-Property.key.now (pairs_of ps))) c.properties.ensures in
    given 1 (size n) c.requires.ready (ticked c.requires.ready c.tick.ensures) (size_pos n) (subst (GivesValue c.property_value.result) (key ∙ sym m) c.property_value.ensures) refl

pub evaluate_node-returns-in-Some-clause-all : goal.evaluate_node-returns-in-Some-clause-all
evaluate_node-returns-in-Some-clause-all g t c =
    let n = g.N.NodeHandle.node c.args.tree in
    let bs = g.B.Bindings.listed c.args.around.now.bindings.now in
    let world = g.W.WorldView.world c.args.around.now.world.now in
    given 1 (size n) c.requires.ready (ticked c.requires.ready c.tick.ensures) (size_pos n) (c.in-Some.ensures (promises bs world)) refl

pub evaluate_node-returns-in-None-clause-all : goal.evaluate_node-returns-in-None-clause-all
evaluate_node-returns-in-None-clause-all g t c =
    let n = g.N.NodeHandle.node c.args.tree in
    let bs = g.B.Bindings.listed c.args.around.now.bindings.now in
    let world = g.W.WorldView.world c.args.around.now.world.now in
    let cs = children n in
    let F : NodeForm → Type 0 = λ f. IsForm f n in
    let e = subst F c.in-Inner.is c.form.ensures in
    let s = inner_size n c.in-Inner.op.now c.in-Inner.want e in
    ended 1 (total_size cs) (size n) (ticked c.requires.ready c.tick.ensures) c.evaluate_inner.ensures (omega (arith, s)) (sym (inner_outcome n c.in-Inner.op.now c.in-Inner.want (promises bs world) world e)) refl

-- A binding that is asked for.

pub evaluate_asked-kept-requires : goal.evaluate_asked-kept-requires
evaluate_asked-kept-requires g t c =
    let bs = g.B.Bindings.listed c.args.around.now.bindings.now in
    let world = g.W.WorldView.world c.args.around.now.world.now in
    slot_within c.args.slot c.requires.below c.requires.ready

pub evaluate_asked-returns-in-Some : goal.evaluate_asked-returns-in-Some
evaluate_asked-returns-in-Some g t c =
    let bs = g.B.Bindings.listed c.args.around.now.bindings.now in
    let world = g.W.WorldView.world c.args.around.now.world.now in
    asked_before c.args.slot c.args.want.now (data_of c.in-Some.value.now) c.requires.ready c.in-Some.ensures c.fitted_copy.ensures

pub evaluate_asked-evaluate_node-requires : goal.evaluate_asked-evaluate_node-requires
evaluate_asked-evaluate_node-requires g t c =
    let bs = g.B.Bindings.listed c.args.around.now.bindings.now in
    let world = g.W.WorldView.world c.args.around.now.world.now in
    let b = g.N.NodeHandle.node c.binding-binding.result in
    let slot = c.args.slot in
    let d = c.decreases in
    let r = reach_at c.args.around.now.limit slot bs b c.requires.below c.binding-binding.ensures in
    let smaller : 6 * size b + reach slot bs < t = omega arith in
    search (rules, smaller, c.requires.ready.earlier slot b c.binding-binding.ensures, binding_ready slot c.requires.below c.requires.ready)

pub evaluate_asked-returns-in_err-value : goal.evaluate_asked-returns-in_err-value
evaluate_asked-returns-in_err-value g t c =
    let bs = g.B.Bindings.listed c.args.around.now.bindings.now in
    let world = g.W.WorldView.world c.args.around.now.world.now in
    asked_halts c.args.slot c.args.want.now (g.N.NodeHandle.node c.binding-binding.result) c.requires.below c.binding-binding.ensures c.requires.ready (sym c.in_default.ensures) c.in_err-value.ensures.all c.from_residual.ensures.1

pub evaluate_asked-keep-requires : goal.evaluate_asked-keep-requires
evaluate_asked-keep-requires g t c =
    let bs = g.B.Bindings.listed c.args.around.now.bindings.now in
    let world = g.W.WorldView.world c.args.around.now.world.now in
    let here : IsReady c.args.around.now.limit bs world c.evaluate_node.new.self = record { within = c.requires.ready.within; earlier = c.requires.ready.earlier; kept = c.in_ok-value.ensures.all.progress.kept } in
    slot_within c.args.slot c.requires.below here

pub evaluate_asked-returns-in_err-keep : goal.evaluate_asked-returns-in_err-keep
evaluate_asked-returns-in_err-keep g t c =
    let bs = g.B.Bindings.listed c.args.around.now.bindings.now in
    let world = g.W.WorldView.world c.args.around.now.world.now in
    asked_fails c.args.slot c.args.want.now (g.N.NodeHandle.node c.binding-binding.result) c.requires.below c.binding-binding.ensures c.requires.ready (sym c.in_default.ensures) c.in_ok-value.ensures.all c.from_residual-in_err-keep.ensures.1

pub evaluate_asked-returns : goal.evaluate_asked-returns
evaluate_asked-returns g t c =
    let bs = g.B.Bindings.listed c.args.around.now.bindings.now in
    let world = g.W.WorldView.world c.args.around.now.world.now in
    asked_evaluates c.args.slot c.args.want.now (g.N.NodeHandle.node c.binding-binding.result) c.requires.below c.binding-binding.ensures c.requires.ready (sym c.in_default.ensures) c.in_ok-value.ensures.all c.in_ok-keep.ensures.slots (ap (λ (x : Vec Value Global). x.items) c.in_ok-keep.ensures.values) c.fitted.ensures

pub evaluate_asked-returns-in-Some-constant_in : goal.evaluate_asked-returns-in-Some-constant_in
evaluate_asked-returns-in-Some-constant_in g t c =
    let bs = g.B.Bindings.listed c.args.around.now.bindings.now in
    let world = g.W.WorldView.world c.args.around.now.world.now in
    asked_constant c.args.slot c.args.want.now (g.N.NodeHandle.node c.binding-binding.result) (data_of c.in-Some-constant_in.value.now) c.binding-binding.ensures c.requires.ready (c.in-Some-constant_in.ensures (promises bs world) world) c.fitted_copy-in-Some-constant_in.ensures

-- A node by the rule of its operator.

pub evaluate_inner-returns-in-Each : goal.evaluate_inner-returns-in-Each
evaluate_inner-returns-in-Each g t c =
    let n = g.N.NodeHandle.node c.args.tree in
    let bs = g.B.Bindings.listed c.args.around.now.bindings.now in
    let world = g.W.WorldView.world c.args.around.now.world.now in
    let cs = children n in
    let op = c.args.op.now in
    let want = c.args.want.now in
    let os = arguments_of n bs world in
    let R : OperatorRule → Type 0 = λ r. rule_in op r ≡ rule_of op in
    let q = ap (λ r. meaning_by r op (known_arguments n bs world) want [] world) (subst R c.in-Each.is c.rule_of.ensures.rule) in
    ended 0 (total_size cs) (total_size cs) (begun c.requires.ready) c.evaluate_each.ensures (omega arith) q refl

pub evaluate_inner-returns-in-Deciding : goal.evaluate_inner-returns-in-Deciding
evaluate_inner-returns-in-Deciding g t c =
    let n = g.N.NodeHandle.node c.args.tree in
    let bs = g.B.Bindings.listed c.args.around.now.bindings.now in
    let world = g.W.WorldView.world c.args.around.now.world.now in
    let cs = children n in
    let op = c.args.op.now in
    let want = c.args.want.now in
    let os = arguments_of n bs world in
    let R : OperatorRule → Type 0 = λ r. rule_in op r ≡ rule_of op in
    let q = ap (λ r. meaning_by r op (known_arguments n bs world) want [] world) (subst R c.in-Deciding.is c.rule_of.ensures.rule) in
    ended 0 (total_size cs) (total_size cs) (begun c.requires.ready) c.evaluate_deciding.ensures (omega arith) q refl

pub evaluate_inner-returns-in-Cases : goal.evaluate_inner-returns-in-Cases
evaluate_inner-returns-in-Cases g t c =
    let n = g.N.NodeHandle.node c.args.tree in
    let bs = g.B.Bindings.listed c.args.around.now.bindings.now in
    let world = g.W.WorldView.world c.args.around.now.world.now in
    let cs = children n in
    let op = c.args.op.now in
    let want = c.args.want.now in
    let os = arguments_of n bs world in
    let R : OperatorRule → Type 0 = λ r. rule_in op r ≡ rule_of op in
    let q = ap (λ r. meaning_by r op (known_arguments n bs world) want [] world) (subst R c.in-Cases.is c.rule_of.ensures.rule) in
    ended 0 (total_size cs) (total_size cs) (begun c.requires.ready) c.evaluate_case.ensures (omega arith) (case_any os want world ∙ q) refl

pub evaluate_inner-returns-in-Labels : goal.evaluate_inner-returns-in-Labels
evaluate_inner-returns-in-Labels g t c =
    let n = g.N.NodeHandle.node c.args.tree in
    let bs = g.B.Bindings.listed c.args.around.now.bindings.now in
    let world = g.W.WorldView.world c.args.around.now.world.now in
    let cs = children n in
    let op = c.args.op.now in
    let want = c.args.want.now in
    let os = arguments_of n bs world in
    let R : OperatorRule → Type 0 = λ r. rule_in op r ≡ rule_of op in
    let q = ap (λ r. meaning_by r op (known_arguments n bs world) want [] world) (subst R c.in-Labels.is c.rule_of.ensures.rule) in
    ended 0 (total_size cs) (total_size cs) (begun c.requires.ready) c.evaluate_match.ensures (omega arith) (match_any c.in-Labels.labels.now os want world ∙ q) refl

pub evaluate_inner-returns-in-Stops : goal.evaluate_inner-returns-in-Stops
evaluate_inner-returns-in-Stops g t c =
    let n = g.N.NodeHandle.node c.args.tree in
    let bs = g.B.Bindings.listed c.args.around.now.bindings.now in
    let world = g.W.WorldView.world c.args.around.now.world.now in
    let cs = children n in
    let op = c.args.op.now in
    let want = c.args.want.now in
    let os = arguments_of n bs world in
    let R : OperatorRule → Type 0 = λ r. rule_in op r ≡ rule_of op in
    let q = ap (λ r. meaning_by r op (known_arguments n bs world) want [] world) (subst R c.in-Stops.is c.rule_of.ensures.rule) in
    ended 0 (total_size cs) (total_size cs) (begun c.requires.ready) c.evaluate_step.ensures (omega arith) (step_any c.in-Stops.inputs.now os want world ∙ q) refl

pub evaluate_inner-returns-in-Ramp : goal.evaluate_inner-returns-in-Ramp
evaluate_inner-returns-in-Ramp g t c =
    let n = g.N.NodeHandle.node c.args.tree in
    let bs = g.B.Bindings.listed c.args.around.now.bindings.now in
    let world = g.W.WorldView.world c.args.around.now.world.now in
    let cs = children n in
    let op = c.args.op.now in
    let want = c.args.want.now in
    let os = arguments_of n bs world in
    let R : OperatorRule → Type 0 = λ r. rule_in op r ≡ rule_of op in
    let q = ap (λ r. meaning_by r op (known_arguments n bs world) want [] world) (subst R c.in-Ramp.is c.rule_of.ensures.rule) in
    ended 0 (total_size cs) (total_size cs) (begun c.requires.ready) c.evaluate_ramp.ensures (omega arith) q refl

-- All arguments.

pub evaluate_each-returns-in-0 : goal.evaluate_each-returns-in-0
evaluate_each-returns-in-0 g t c =
    let n = g.N.NodeHandle.node c.args.tree in
    let bs = g.B.Bindings.listed c.args.around.now.bindings.now in
    let world = g.W.WorldView.world c.args.around.now.world.now in
    none_evaluates c.args.op.now n c.args.want.now (sym c.count.ensures ∙ c.in-0.is) c.requires.ready c.node_value.ensures

pub evaluate_each-returns-in_err-value-in-1 : goal.evaluate_each-returns-in_err-value-in-1
evaluate_each-returns-in_err-value-in-1 g t c =
    let n = g.N.NodeHandle.node c.args.tree in
    let bs = g.B.Bindings.listed c.args.around.now.bindings.now in
    let world = g.W.WorldView.world c.args.around.now.world.now in
    let op = c.args.op.now in
    let plain = c.has_sequence.ensures c.if-has_sequence.false in
    let len = sym c.count.ensures ∙ c.in-1.is in
    let only = plain_evaluates op n (g.N.NodeHandle.node c.child-argument.result) 0 (plain 0) c.child-argument.ensures c.in_err-value-in-1.ensures.all in
    one_halts op n c.args.want.now len c.requires.ready only c.from_residual.ensures.1

pub evaluate_each-returns-in_ok-value-in-1 : goal.evaluate_each-returns-in_ok-value-in-1
evaluate_each-returns-in_ok-value-in-1 g t c =
    let n = g.N.NodeHandle.node c.args.tree in
    let bs = g.B.Bindings.listed c.args.around.now.bindings.now in
    let world = g.W.WorldView.world c.args.around.now.world.now in
    let op = c.args.op.now in
    let plain = c.has_sequence.ensures c.if-has_sequence.false in
    let len = sym c.count.ensures ∙ c.in-1.is in
    let only = plain_evaluates op n (g.N.NodeHandle.node c.child-argument.result) 0 (plain 0) c.child-argument.ensures c.in_ok-value-in-1.ensures.all in
    one_evaluates op n c.args.want.now len c.requires.ready only c.node_value-in-1.ensures

pub evaluate_each-returns-in-Some : goal.evaluate_each-returns-in-Some
evaluate_each-returns-in-Some g t c =
    let n = g.N.NodeHandle.node c.args.tree in
    let bs = g.B.Bindings.listed c.args.around.now.bindings.now in
    let world = g.W.WorldView.world c.args.around.now.world.now in
    let plain = c.has_sequence.ensures c.if-has_sequence.false in
    let len = sym c.count.ensures ∙ c.in-2.is in
    two_known c.args.op.now n (g.N.NodeHandle.node c.child-left.result) (g.N.NodeHandle.node c.child-right.result) c.args.want.now (Num c.in-Some.known.0) (Num c.in-Some.known.1) plain len c.requires.ready
    c.child-left.ensures c.child-right.ensures c.tick.ensures c.tick-in-Some.ensures c.in-Some.ensures.left c.in-Some.ensures.right c.pair_value.ensures

pub evaluate_each-returns-in_err-first-in-2 : goal.evaluate_each-returns-in_err-first-in-2
evaluate_each-returns-in_err-first-in-2 g t c =
    let n = g.N.NodeHandle.node c.args.tree in
    let bs = g.B.Bindings.listed c.args.around.now.bindings.now in
    let world = g.W.WorldView.world c.args.around.now.world.now in
    let op = c.args.op.now in
    let plain = c.has_sequence.ensures c.if-has_sequence.false in
    let len = sym c.count.ensures ∙ c.in-2.is in
    let before = plain_evaluates op n (g.N.NodeHandle.node c.child-left.result) 0 (plain 0) c.child-left.ensures c.in_err-first-in-2.ensures.all in
    first_halts op n c.args.want.now len c.requires.ready before c.from_residual-in_err-first-in-2.ensures.1

pub evaluate_each-returns-in_err-second-in-2 : goal.evaluate_each-returns-in_err-second-in-2
evaluate_each-returns-in_err-second-in-2 g t c =
    let n = g.N.NodeHandle.node c.args.tree in
    let bs = g.B.Bindings.listed c.args.around.now.bindings.now in
    let world = g.W.WorldView.world c.args.around.now.world.now in
    let op = c.args.op.now in
    let plain = c.has_sequence.ensures c.if-has_sequence.false in
    let len = sym c.count.ensures ∙ c.in-2.is in
    let before = plain_evaluates op n (g.N.NodeHandle.node c.child-left.result) 0 (plain 0) c.child-left.ensures c.in_ok-first-in-2.ensures.all in
    let later = plain_evaluates op n (g.N.NodeHandle.node c.child-right.result) 1 (plain 1) c.child-right.ensures c.in_err-second-in-2.ensures.all in
    second_halts op n c.args.want.now len before later c.from_residual-in_err-second-in-2.ensures.1

pub evaluate_each-returns-in_ok-second-in-2 : goal.evaluate_each-returns-in_ok-second-in-2
evaluate_each-returns-in_ok-second-in-2 g t c =
    let n = g.N.NodeHandle.node c.args.tree in
    let bs = g.B.Bindings.listed c.args.around.now.bindings.now in
    let world = g.W.WorldView.world c.args.around.now.world.now in
    let op = c.args.op.now in
    let plain = c.has_sequence.ensures c.if-has_sequence.false in
    let len = sym c.count.ensures ∙ c.in-2.is in
    let before = plain_evaluates op n (g.N.NodeHandle.node c.child-left.result) 0 (plain 0) c.child-left.ensures c.in_ok-first-in-2.ensures.all in
    let later = plain_evaluates op n (g.N.NodeHandle.node c.child-right.result) 1 (plain 1) c.child-right.ensures c.in_ok-second-in-2.ensures.all in
    two_evaluate op n c.args.want.now len c.requires.ready before later c.pair_value-in-2.ensures

-- `in` of a literal list.

pub evaluate_among-returns-in-Some : goal.evaluate_among-returns-in-Some
evaluate_among-returns-in-Some g t c =
    let n = g.N.NodeHandle.node c.args.tree in
    let bs = g.B.Bindings.listed c.args.around.now.bindings.now in
    let world = g.W.WorldView.world c.args.around.now.world.now in
    let ds = c.args.items.now in
    among_known n (g.N.NodeHandle.node c.child-needle.result) c.args.want.now c.in-Some.value.now (ListOf ds) ds refl c.requires.two c.requires.ready
    c.child-needle.ensures c.requires.items c.tick.ensures c.tick-in-Some.ensures (c.in-Some.ensures (promises bs world)) c.membership.ensures

pub evaluate_among-returns-in_err-value : goal.evaluate_among-returns-in_err-value
evaluate_among-returns-in_err-value g t c =
    let n = g.N.NodeHandle.node c.args.tree in
    among_halts n (g.N.NodeHandle.node c.child-needle.result) c.args.want.now c.requires.two c.requires.ready c.child-needle.ensures c.in_err-value.ensures.all c.from_residual.ensures.1

pub evaluate_among-returns : goal.evaluate_among-returns
evaluate_among-returns g t c =
    let n = g.N.NodeHandle.node c.args.tree in
    let ds = c.args.items.now in
    among_evaluates n (g.N.NodeHandle.node c.child-needle.result) c.args.want.now (ListOf ds) ds refl c.requires.two c.requires.ready
    c.child-needle.ensures c.requires.items c.in_ok-value.ensures.all c.tick-2.ensures c.membership-2.ensures

pub evaluate_many-returns-in_err-evaluate_values : goal.evaluate_many-returns-in_err-evaluate_values
evaluate_many-returns-in_err-evaluate_values g t c =
    let n = g.N.NodeHandle.node c.args.tree in
    let bs = g.B.Bindings.listed c.args.around.now.bindings.now in
    let world = g.W.WorldView.world c.args.around.now.world.now in
    let cs = children n in
    many_halts c.args.op.now n c.args.want.now c.in_err-evaluate_values.ensures c.from_residual.ensures.1

pub evaluate_many-returns : goal.evaluate_many-returns
evaluate_many-returns g t c =
    let n = g.N.NodeHandle.node c.args.tree in
    let bs = g.B.Bindings.listed c.args.around.now.bindings.now in
    let world = g.W.WorldView.world c.args.around.now.world.now in
    let cs = children n in
    many_evaluates c.args.op.now n c.args.want.now (length c.as_slice-base.result.now) (ap length c.as_slice-base.ensures.value) c.requires.ready c.in_ok-evaluate_values.ensures c.take_value.ensures.slots c.take_value.ensures.values c.take_value.ensures.meant

pub evaluate_values-loop-place-init : goal.evaluate_values-loop-place-init
evaluate_values-loop-place-init g t c =
    let n = g.N.NodeHandle.node c.args.tree in
    let bs = g.B.Bindings.listed c.args.around.now.bindings.now in
    let world = g.W.WorldView.world c.args.around.now.world.now in
    let cs = children n in
    record { same = values_begin c.args.self.now.values.items _; progress = begun c.requires.ready; ready = c.requires.ready; stands = take-length c.args.self.now.values.items }

pub evaluate_values-evaluate_argument-requires : goal.evaluate_values-evaluate_argument-requires
evaluate_values-evaluate_argument-requires g t c =
    let n = g.N.NodeHandle.node c.args.tree in
    let bs = g.B.Bindings.listed c.args.around.now.bindings.now in
    let world = g.W.WorldView.world c.args.around.now.world.now in
    let cs = children n in
    let d = c.decreases in
    let smaller : 6 * total_size cs + reach c.args.around.now.limit bs + 1 < t = omega arith in
    let within : c.loop-place.place < length cs = omega (arith, c.loop-place-test.true, c.count-count.ensures) in
    search (rules, smaller, within, c.requires.below, c.loop-place.invariant.ready)

pub evaluate_values-returns-in_err-value : goal.evaluate_values-returns-in_err-value
evaluate_values-returns-in_err-value g t c =
    let n = g.N.NodeHandle.node c.args.tree in
    let bs = g.B.Bindings.listed c.args.around.now.bindings.now in
    let world = g.W.WorldView.world c.args.around.now.world.now in
    let cs = children n in
    values_halt c.args.op.now n (omega (arith, c.loop-place-test.true, c.count-count.ensures)) c.loop-place.invariant.progress c.loop-place.invariant.same c.in_err-value.ensures c.from_residual.ensures.1

pub evaluate_values-returns-in_err-push : goal.evaluate_values-returns-in_err-push
evaluate_values-returns-in_err-push g t c =
    let n = g.N.NodeHandle.node c.args.tree in
    let bs = g.B.Bindings.listed c.args.around.now.bindings.now in
    let world = g.W.WorldView.world c.args.around.now.world.now in
    let cs = children n in
    values_fail c.args.op.now n c.loop-place.place c.loop-place.invariant.progress c.in_ok-value.ensures c.from_residual-in_err-push.ensures.1

pub evaluate_values-loop-place-preserved : goal.evaluate_values-loop-place-preserved
evaluate_values-loop-place-preserved g t c =
    let n = g.N.NodeHandle.node c.args.tree in
    let bs = g.B.Bindings.listed c.args.around.now.bindings.now in
    let world = g.W.WorldView.world c.args.around.now.world.now in
    let cs = children n in
    let op = c.args.op.now in
    let before = c.loop-place.invariant in
    let old = c.args.self.now.values.items in
    let vs = c.loop-place.self.values.items in
    let v = c.in_ok-value.value in
    let k = c.loop-place.place in
    let ms = known_arguments n bs world in
    let count = outcomes_length cs (promises bs world) world in
    let pushed = c.in_ok-push.ensures.items ∙ ap (λ xs. xs ++ v ∷ []) c.in_ok-value.ensures.stands in
    let from = values_from op ms (k + 1) Any [] world in
    let S : List Value → Type 0 = λ xs. after (added old xs) from ≡ values_from op ms 0 Any [] world in
    let Q : List Value → Type 0 = λ xs. IsBelow old xs in
    let far = one_further n k before.progress c.in_ok-value.ensures in
    record {
      same = subst S (sym pushed) (values_more op ms k Any [] world old vs v _ (omega (arith, c.loop-place-test.true, c.count-count.ensures, count)) before.stands before.same (sym (argument_known op (arguments_of n bs world) k Any [] world) ∙ c.in_ok-value.ensures.gives));
      progress = record { kept = far.kept; above = far.above; rises = far.rises; paid = far.paid };
      ready = record { within = c.in_ok-value.ensures.ready.within; earlier = c.in_ok-value.ensures.ready.earlier; kept = c.in_ok-value.ensures.ready.kept };
      stands = subst Q (sym pushed) (below_one old vs v before.stands);
    }

pub evaluate_values-returns : goal.evaluate_values-returns
evaluate_values-returns g t c =
    let n = g.N.NodeHandle.node c.args.tree in
    let bs = g.B.Bindings.listed c.args.around.now.bindings.now in
    let world = g.W.WorldView.world c.args.around.now.world.now in
    let cs = children n in
    let before = c.loop-place.invariant in
    let ms = known_arguments n bs world in
    let count = outcomes_length cs (promises bs world) world in
    let h : length cs ≤ c.loop-place.place = omega (arith, c.loop-place-test.false, c.count-count.ensures) in
    let w = take_within cs c.loop-place.place in
    record {
      gives = all_values c.args.op.now ms c.loop-place.place Any [] world (added c.args.self.now.values.items c.loop-place.self.values.items) _ (omega (arith, h, count)) before.same;
      rises = before.progress.rises;
      most = omega (arith, before.progress.paid, w);
      progress = cheaper (total_size (take c.loop-place.place cs)) (total_size cs) before.progress w;
      ready = before.ready;
      stands = before.stands;
    }

-- One argument.

pub evaluate_argument-returns-then-not-is_sequence : goal.evaluate_argument-returns-then-not-is_sequence
evaluate_argument-returns-then-not-is_sequence g t c =
    let n = g.N.NodeHandle.node c.args.tree in
    let bs = g.B.Bindings.listed c.args.around.now.bindings.now in
    let world = g.W.WorldView.world c.args.around.now.world.now in
    let cs = children n in
    let b = g.N.NodeHandle.node c.child.result in
    let os = arguments_of n bs world in
    let k = c.args.place in
    let o = outcome b (promises bs world) world in
    let here = outcome_here cs k b (promises bs world) world c.child.ensures in
    let w = size_at cs k b c.child.ensures in
    ended 0 (size b) (size_in cs k) (begun c.requires.ready) c.evaluate_node.ensures.all (omega (arith, w)) (argument_is c.args.op.now os k o false (sym c.if-not-is_sequence.true ∙ c.is_sequence.ensures) here) refl

pub evaluate_argument-returns-in_err-value : goal.evaluate_argument-returns-in_err-value
evaluate_argument-returns-in_err-value g t c =
    let n = g.N.NodeHandle.node c.args.tree in
    let bs = g.B.Bindings.listed c.args.around.now.bindings.now in
    let world = g.W.WorldView.world c.args.around.now.world.now in
    let cs = children n in
    let b = g.N.NodeHandle.node c.child-2.result in
    let os = arguments_of n bs world in
    let k = c.args.place in
    let o = outcome b (promises bs world) world in
    let here = outcome_here cs k b (promises bs world) world c.child-2.ensures in
    let w = size_at cs k b c.child-2.ensures in
    let m = argument_is c.args.op.now os k o true (sym c.if-not-is_sequence.false ∙ c.is_sequence.ensures) here in
    let h = c.in_err-value.field-0.0 in
    halts 0 (size b) (size_in cs k) (begun c.requires.ready) c.in_err-value.ensures.all (omega (arith, w)) c.from_residual.ensures.1 (subst (GivesValue (Err h)) m (then_halted h o as_sequence c.in_err-value.ensures.all.gives))

pub evaluate_argument-returns : goal.evaluate_argument-returns
evaluate_argument-returns g t c =
    let n = g.N.NodeHandle.node c.args.tree in
    let bs = g.B.Bindings.listed c.args.around.now.bindings.now in
    let world = g.W.WorldView.world c.args.around.now.world.now in
    let cs = children n in
    let b = g.N.NodeHandle.node c.child-2.result in
    let os = arguments_of n bs world in
    let k = c.args.place in
    let o = outcome b (promises bs world) world in
    let here = outcome_here cs k b (promises bs world) world c.child-2.ensures in
    let w = size_at cs k b c.child-2.ensures in
    let m = argument_is c.args.op.now os k o true (sym c.if-not-is_sequence.false ∙ c.is_sequence.ensures) here in
    let j = c.in_ok-value.ensures.all in
    given (size b) (size_in cs k) c.requires.ready j.progress (omega (arith, w)) (subst (GivesValue c.sequence_value.result) (ap (λ x. then_value x as_sequence) (sym j.gives) ∙ m) c.sequence_value.ensures) j.stands

-- The first argument that decides.

pub evaluate_deciding-returns-in-Some : goal.evaluate_deciding-returns-in-Some
evaluate_deciding-returns-in-Some g t c =
    let n = g.N.NodeHandle.node c.args.tree in
    let bs = g.B.Bindings.listed c.args.around.now.bindings.now in
    let world = g.W.WorldView.world c.args.around.now.world.now in
    let b = g.N.NodeHandle.node c.child-first.result in
    let d = data_of c.in-Some.value.now in
    deciding_borrows c.args.op.now n c.args.want.now d b c.child-first.ensures c.requires.ready (c.in-Some.ensures.value (promises bs world)) c.in-Some.ensures.asserted c.tick.ensures c.fitted_copy.ensures

pub evaluate_until_decided-loop-place-init : goal.evaluate_until_decided-loop-place-init
evaluate_until_decided-loop-place-init g t c =
    let n = g.N.NodeHandle.node c.args.tree in
    let bs = g.B.Bindings.listed c.args.around.now.bindings.now in
    let world = g.W.WorldView.world c.args.around.now.world.now in
    let cs = children n in
    record { same = refl; progress = begun c.requires.ready; ready = c.requires.ready; stands = refl }

pub evaluate_until_decided-evaluate_argument-requires : goal.evaluate_until_decided-evaluate_argument-requires
evaluate_until_decided-evaluate_argument-requires g t c =
    let n = g.N.NodeHandle.node c.args.tree in
    let bs = g.B.Bindings.listed c.args.around.now.bindings.now in
    let world = g.W.WorldView.world c.args.around.now.world.now in
    let cs = children n in
    let d = c.decreases in
    let smaller : 6 * total_size cs + reach c.args.around.now.limit bs + 1 < t = omega arith in
    let within : c.loop-place.place < length cs = omega (arith, c.loop-place-test.true, c.count-count.ensures) in
    search (rules, smaller, within, c.requires.below, c.loop-place.invariant.ready)

pub evaluate_until_decided-returns-in_err-value : goal.evaluate_until_decided-returns-in_err-value
evaluate_until_decided-returns-in_err-value g t c =
    let n = g.N.NodeHandle.node c.args.tree in
    let bs = g.B.Bindings.listed c.args.around.now.bindings.now in
    let world = g.W.WorldView.world c.args.around.now.world.now in
    let cs = children n in
    deciding_halts c.args.op.now n c.args.want.now (omega (arith, c.loop-place-test.true, c.count-count.ensures)) c.loop-place.invariant.progress c.loop-place.invariant.same c.in_err-value.ensures c.from_residual.ensures.1

pub evaluate_until_decided-returns-in-Some : goal.evaluate_until_decided-returns-in-Some
evaluate_until_decided-returns-in-Some g t c =
    let n = g.N.NodeHandle.node c.args.tree in
    let bs = g.B.Bindings.listed c.args.around.now.bindings.now in
    let world = g.W.WorldView.world c.args.around.now.world.now in
    let cs = children n in
    deciding_evaluates c.in-Some.found c.args.op.now n c.args.want.now (omega (arith, c.loop-place-test.true, c.count-count.ensures)) c.requires.ready c.loop-place.invariant.progress c.loop-place.invariant.stands c.loop-place.invariant.same c.in_ok-value.ensures c.in-Some.ensures c.fitted.ensures

pub evaluate_until_decided-loop-place-preserved : goal.evaluate_until_decided-loop-place-preserved
evaluate_until_decided-loop-place-preserved g t c =
    let n = g.N.NodeHandle.node c.args.tree in
    let bs = g.B.Bindings.listed c.args.around.now.bindings.now in
    let world = g.W.WorldView.world c.args.around.now.world.now in
    let cs = children n in
    let before = c.loop-place.invariant in
    let here = c.in_ok-value.ensures in
    let far = one_further n c.loop-place.place before.progress here in
    record {
      same = decides_later bs world c.args.op.now n c.args.want.now c.loop-place.place (data_of c.in_ok-value.value) (omega (arith, c.loop-place-test.true, c.count-count.ensures)) before.same here.gives (sym c.in_default.ensures);
      progress = far;
      ready = here.ready;
      stands = here.stands ∙ before.stands;
    }

pub evaluate_until_decided-returns : goal.evaluate_until_decided-returns
evaluate_until_decided-returns g t c =
    let n = g.N.NodeHandle.node c.args.tree in
    let bs = g.B.Bindings.listed c.args.around.now.bindings.now in
    let world = g.W.WorldView.world c.args.around.now.world.now in
    let cs = children n in
    let before = c.loop-place.invariant in
    let k = c.loop-place.place in
    let whole = none_decides bs world c.args.op.now n c.args.want.now k (omega (arith, c.loop-place-test.false, c.count-count.ensures)) before.same in
    given (total_size (take k cs)) (total_size cs) c.requires.ready before.progress (take_within cs k) (subst (GivesValue c.undecided_value.result) whole c.undecided_value.ensures) before.stands

-- `case`.

pub evaluate_case-loop-left-init : goal.evaluate_case-loop-left-init
evaluate_case-loop-left-init g t c =
    let n = g.N.NodeHandle.node c.args.tree in
    let bs = g.B.Bindings.listed c.args.around.now.bindings.now in
    let world = g.W.WorldView.world c.args.around.now.world.now in
    let cs = children n in
    record { counted = omega (arith, c.count-left.ensures); same = refl; progress = begun c.requires.ready; ready = c.requires.ready; stands = refl }

pub evaluate_case-evaluate_node-requires : goal.evaluate_case-evaluate_node-requires
evaluate_case-evaluate_node-requires g t c =
    let n = g.N.NodeHandle.node c.args.tree in
    let bs = g.B.Bindings.listed c.args.around.now.bindings.now in
    let world = g.W.WorldView.world c.args.around.now.world.now in
    let cs = children n in
    let before = c.loop-left.invariant in
    let k = c.loop-left.place in
    let b = g.N.NodeHandle.node c.child.result in
    let two : k + 2 ≤ length cs = omega (arith, c.loop-left-test.true, before.counted) in
    let d = c.decreases in
    let w = child_size cs k b c.child.ensures in
    let smaller : 6 * size b + reach c.args.around.now.limit bs < t = omega arith in
    search (rules, smaller, below_at c.args.around.now.limit cs k b c.requires.below c.child.ensures, before.ready)

pub evaluate_case-returns-in_err-evaluate_node : goal.evaluate_case-returns-in_err-evaluate_node
evaluate_case-returns-in_err-evaluate_node g t c =
    let n = g.N.NodeHandle.node c.args.tree in
    let bs = g.B.Bindings.listed c.args.around.now.bindings.now in
    let world = g.W.WorldView.world c.args.around.now.world.now in
    let cs = children n in
    let before = c.loop-left.invariant in
    let k = c.loop-left.place in
    let b = g.N.NodeHandle.node c.child.result in
    let two : k + 2 ≤ length cs = omega (arith, c.loop-left-test.true, before.counted) in
    case_halts n k b two before.progress before.same c.child.ensures c.in_err-evaluate_node.ensures.all c.from_residual.ensures.1

pub evaluate_case-returns-in_err-condition : goal.evaluate_case-returns-in_err-condition
evaluate_case-returns-in_err-condition g t c =
    let n = g.N.NodeHandle.node c.args.tree in
    let bs = g.B.Bindings.listed c.args.around.now.bindings.now in
    let world = g.W.WorldView.world c.args.around.now.world.now in
    let cs = children n in
    let before = c.loop-left.invariant in
    let k = c.loop-left.place in
    let b = g.N.NodeHandle.node c.child.result in
    let two : k + 2 ≤ length cs = omega (arith, c.loop-left-test.true, before.counted) in
    case_faults c.in_err-condition.field-0.0 n k b two before.progress before.same c.child.ensures c.in_ok-evaluate_node.ensures.all c.in_err-condition.ensures c.from_residual-in_err-condition.ensures.1

pub evaluate_case-returns-then-branch : goal.evaluate_case-returns-then-branch
evaluate_case-returns-then-branch g t c =
    let n = g.N.NodeHandle.node c.args.tree in
    let bs = g.B.Bindings.listed c.args.around.now.bindings.now in
    let world = g.W.WorldView.world c.args.around.now.world.now in
    let cs = children n in
    let before = c.loop-left.invariant in
    let k = c.loop-left.place in
    let b = g.N.NodeHandle.node c.child.result in
    let two : k + 2 ≤ length cs = omega (arith, c.loop-left-test.true, before.counted) in
    case_chooses n k b (g.N.NodeHandle.node c.child-then-branch.result) two before.progress before.stands before.same c.child.ensures c.child-then-branch.ensures c.in_ok-evaluate_node.ensures.all (ap Ok (sym c.if-branch.true) ∙ c.in_ok-condition.ensures) c.evaluate_node-then-branch.ensures.all

pub evaluate_case-loop-left-preserved : goal.evaluate_case-loop-left-preserved
evaluate_case-loop-left-preserved g t c =
    let n = g.N.NodeHandle.node c.args.tree in
    let bs = g.B.Bindings.listed c.args.around.now.bindings.now in
    let world = g.W.WorldView.world c.args.around.now.world.now in
    let cs = children n in
    let before = c.loop-left.invariant in
    let k = c.loop-left.place in
    let b = g.N.NodeHandle.node c.child.result in
    let two : k + 2 ≤ length cs = omega (arith, c.loop-left-test.true, before.counted) in
    let here = c.in_ok-evaluate_node.ensures.all in
    record {
      counted = omega (arith, c.loop-left-test.true, before.counted);
      same = case_later n k b two before.same c.child.ensures here (ap Ok (sym c.if-branch.false) ∙ c.in_ok-condition.ensures);
      progress = case_further n k b c.child.ensures before.progress here;
      ready = here.ready;
      stands = here.stands ∙ before.stands;
    }

pub evaluate_case-returns-then-left-eq1 : goal.evaluate_case-returns-then-left-eq1
evaluate_case-returns-then-left-eq1 g t c =
    let n = g.N.NodeHandle.node c.args.tree in
    let bs = g.B.Bindings.listed c.args.around.now.bindings.now in
    let world = g.W.WorldView.world c.args.around.now.world.now in
    let cs = children n in
    let before = c.loop-left.invariant in
    let k = c.loop-left.place in
    let b = g.N.NodeHandle.node c.child-then-left-eq1.result in
    case_ends n k b (omega (arith, c.if-left-eq1.true, before.counted)) before.progress before.stands before.same c.child-then-left-eq1.ensures c.evaluate_node-then-left-eq1.ensures.all

pub evaluate_case-returns-else-left-eq1 : goal.evaluate_case-returns-else-left-eq1
evaluate_case-returns-else-left-eq1 g t c =
    let n = g.N.NodeHandle.node c.args.tree in
    let bs = g.B.Bindings.listed c.args.around.now.bindings.now in
    let world = g.W.WorldView.world c.args.around.now.world.now in
    let cs = children n in
    let before = c.loop-left.invariant in
    let k = c.loop-left.place in
    case_fails n (omega (arith, c.loop-left-test.false, c.if-left-eq1.false, before.counted)) c.requires.ready before.progress before.stands before.same

-- `match`, `step` and `interpolate`.

pub evaluate_match-evaluate_node-requires : goal.evaluate_match-evaluate_node-requires
evaluate_match-evaluate_node-requires g t c =
    let n = g.N.NodeHandle.node c.args.tree in
    let bs = g.B.Bindings.listed c.args.around.now.bindings.now in
    let world = g.W.WorldView.world c.args.around.now.world.now in
    let cs = children n in
    let b = g.N.NodeHandle.node c.child.result in
    let d = c.decreases in
    let w = child_size cs 0 b c.child.ensures in
    let smaller : 6 * size b + reach c.args.around.now.limit bs < t = omega arith in
    search (rules, smaller, below_at c.args.around.now.limit cs 0 b c.requires.below c.child.ensures, c.requires.ready)

pub evaluate_match-returns-then-count-eq0 : goal.evaluate_match-returns-then-count-eq0
evaluate_match-returns-then-count-eq0 g t c =
    let n = g.N.NodeHandle.node c.args.tree in
    let bs = g.B.Bindings.listed c.args.around.now.bindings.now in
    let world = g.W.WorldView.world c.args.around.now.world.now in
    let cs = children n in
    given 0 (total_size cs) c.requires.ready (begun c.requires.ready) (omega arith) (no_match c.args.labels.now (arguments_of n bs world) world (count_here n bs world ∙ (sym c.count-count.ensures ∙ c.if-count-eq0.true))) refl

pub evaluate_match-output_there-requires : goal.evaluate_match-output_there-requires
evaluate_match-output_there-requires g t c = omega (arith, c.if-count-eq0.false, c.count-count.ensures)

pub evaluate_match-returns-in-Some : goal.evaluate_match-returns-in-Some
evaluate_match-returns-in-Some g t c =
    let n = g.N.NodeHandle.node c.args.tree in
    let bs = g.B.Bindings.listed c.args.around.now.bindings.now in
    let world = g.W.WorldView.world c.args.around.now.world.now in
    output_alone n c.in-Some.place c.requires.ready (omega (arith, c.if-count-eq0.false, c.count-count.ensures)) c.tick.ensures c.evaluate_output.ensures (c.in-Some.ensures (promises bs world))

pub evaluate_match-returns-in_err-value : goal.evaluate_match-returns-in_err-value
evaluate_match-returns-in_err-value g t c =
    let n = g.N.NodeHandle.node c.args.tree in
    let bs = g.B.Bindings.listed c.args.around.now.bindings.now in
    let world = g.W.WorldView.world c.args.around.now.world.now in
    let cs = children n in
    let b = g.N.NodeHandle.node c.child.result in
    let os = arguments_of n bs world in
    let counted = count_here n bs world in
    let some : 1 ≤ length os = omega (arith, c.if-count-eq0.false, c.count-count.ensures, counted) in
    input_halts n b c.requires.ready c.child.ensures c.in_err-value.ensures.all c.from_residual.ensures.1 (match_halted c.in_err-value.field-0.0 c.args.labels.now os world some)

pub evaluate_match-returns : goal.evaluate_match-returns
evaluate_match-returns g t c =
    let n = g.N.NodeHandle.node c.args.tree in
    let bs = g.B.Bindings.listed c.args.around.now.bindings.now in
    let world = g.W.WorldView.world c.args.around.now.world.now in
    let cs = children n in
    let b = g.N.NodeHandle.node c.child.result in
    let os = arguments_of n bs world in
    let counted = count_here n bs world in
    let some : 1 ≤ length os = omega (arith, c.if-count-eq0.false, c.count-count.ensures, counted) in
    let j = c.in_ok-value.ensures.all in
    let d = data_of c.in_ok-value.value in
    let last = c.saturating_sub.ensures ∙ ap (λ (k : ℕ). k - 1 - 1) (c.count-count.ensures ∙ sym counted) in
    let place = c.output_of-place.ensures ∙ ap (output_of c.args.labels.now d) last in
    output_follows n b c.output_of-place.result c.child.ensures j c.evaluate_output-2.ensures (match_with c.args.labels.now os world d c.output_of-place.result some (input_gives n b c.child.ensures j) place)

pub evaluate_step-evaluate_node-requires : goal.evaluate_step-evaluate_node-requires
evaluate_step-evaluate_node-requires g t c =
    let n = g.N.NodeHandle.node c.args.tree in
    let bs = g.B.Bindings.listed c.args.around.now.bindings.now in
    let world = g.W.WorldView.world c.args.around.now.world.now in
    let cs = children n in
    let b = g.N.NodeHandle.node c.child.result in
    let d = c.decreases in
    let w = child_size cs 0 b c.child.ensures in
    let smaller : 6 * size b + reach c.args.around.now.limit bs < t = omega arith in
    search (rules, smaller, below_at c.args.around.now.limit cs 0 b c.requires.below c.child.ensures, c.requires.ready)

pub evaluate_step-returns-then-count-eq0 : goal.evaluate_step-returns-then-count-eq0
evaluate_step-returns-then-count-eq0 g t c =
    let n = g.N.NodeHandle.node c.args.tree in
    let bs = g.B.Bindings.listed c.args.around.now.bindings.now in
    let world = g.W.WorldView.world c.args.around.now.world.now in
    let cs = children n in
    given 0 (total_size cs) c.requires.ready (begun c.requires.ready) (omega arith) (no_step c.args.inputs.now (arguments_of n bs world) world (count_here n bs world ∙ (sym c.count.ensures ∙ c.if-count-eq0.true))) refl

pub evaluate_step-returns-in_err-evaluate_node : goal.evaluate_step-returns-in_err-evaluate_node
evaluate_step-returns-in_err-evaluate_node g t c =
    let n = g.N.NodeHandle.node c.args.tree in
    let bs = g.B.Bindings.listed c.args.around.now.bindings.now in
    let world = g.W.WorldView.world c.args.around.now.world.now in
    let cs = children n in
    let b = g.N.NodeHandle.node c.child.result in
    let os = arguments_of n bs world in
    let counted = count_here n bs world in
    let some : 1 ≤ length os = omega (arith, c.if-count-eq0.false, c.count.ensures, counted) in
    input_halts n b c.requires.ready c.child.ensures c.in_err-evaluate_node.ensures.all c.from_residual.ensures.1 (step_halted c.in_err-evaluate_node.field-0.0 c.args.inputs.now os world some)

pub evaluate_step-returns-in_err-value : goal.evaluate_step-returns-in_err-value
evaluate_step-returns-in_err-value g t c =
    let n = g.N.NodeHandle.node c.args.tree in
    let bs = g.B.Bindings.listed c.args.around.now.bindings.now in
    let world = g.W.WorldView.world c.args.around.now.world.now in
    let cs = children n in
    let b = g.N.NodeHandle.node c.child.result in
    let os = arguments_of n bs world in
    let counted = count_here n bs world in
    let some : 1 ≤ length os = omega (arith, c.if-count-eq0.false, c.count.ensures, counted) in
    let j = c.in_ok-evaluate_node.ensures.all in
    input_fails c.in_err-value.field-0.0 n b c.child.ensures j c.from_residual-in_err-value.ensures.1 (sym (step_with c.args.inputs.now os world (data_of c.in_ok-evaluate_node.field-0) (Err c.in_err-value.field-0.0) some (input_gives n b c.child.ensures j) c.in_err-value.ensures))

pub evaluate_step-returns : goal.evaluate_step-returns
evaluate_step-returns g t c =
    let n = g.N.NodeHandle.node c.args.tree in
    let bs = g.B.Bindings.listed c.args.around.now.bindings.now in
    let world = g.W.WorldView.world c.args.around.now.world.now in
    let cs = children n in
    let b = g.N.NodeHandle.node c.child.result in
    let os = arguments_of n bs world in
    let counted = count_here n bs world in
    let some : 1 ≤ length os = omega (arith, c.if-count-eq0.false, c.count.ensures, counted) in
    let j = c.in_ok-evaluate_node.ensures.all in
    let there = step_with c.args.inputs.now os world (data_of c.in_ok-evaluate_node.field-0) (Ok c.in_ok-value.value) some (input_gives n b c.child.ensures j) c.in_ok-value.ensures in
    output_follows n b c.step_place.result c.child.ensures j c.evaluate_output.ensures (ap (λ (k : ℕ). outcome_at os (k + 1)) c.step_place.ensures ∙ there)

pub evaluate_ramp-evaluate_node-requires : goal.evaluate_ramp-evaluate_node-requires
evaluate_ramp-evaluate_node-requires g t c =
    let n = g.N.NodeHandle.node c.args.tree in
    let bs = g.B.Bindings.listed c.args.around.now.bindings.now in
    let world = g.W.WorldView.world c.args.around.now.world.now in
    let cs = children n in
    let b = g.N.NodeHandle.node c.child.result in
    let d = c.decreases in
    let w = child_size cs 0 b c.child.ensures in
    let smaller : 6 * size b + reach c.args.around.now.limit bs < t = omega arith in
    search (rules, smaller, below_at c.args.around.now.limit cs 0 b c.requires.below c.child.ensures, c.requires.ready)

pub evaluate_ramp-returns-then-count-eq0 : goal.evaluate_ramp-returns-then-count-eq0
evaluate_ramp-returns-then-count-eq0 g t c =
    let n = g.N.NodeHandle.node c.args.tree in
    let bs = g.B.Bindings.listed c.args.around.now.bindings.now in
    let world = g.W.WorldView.world c.args.around.now.world.now in
    let cs = children n in
    given 0 (total_size cs) c.requires.ready (begun c.requires.ready) (omega arith) (no_ramp c.args.ramp.now.0 c.args.ramp.now.1 (arguments_of n bs world) c.args.want.now world (count_here n bs world ∙ (sym c.count.ensures ∙ c.if-count-eq0.true))) refl

pub evaluate_ramp-returns-in_err-given : goal.evaluate_ramp-returns-in_err-given
evaluate_ramp-returns-in_err-given g t c =
    let n = g.N.NodeHandle.node c.args.tree in
    let bs = g.B.Bindings.listed c.args.around.now.bindings.now in
    let world = g.W.WorldView.world c.args.around.now.world.now in
    let cs = children n in
    let b = g.N.NodeHandle.node c.child.result in
    let os = arguments_of n bs world in
    let counted = count_here n bs world in
    let some : 1 ≤ length os = omega (arith, c.if-count-eq0.false, c.count.ensures, counted) in
    input_halts n b c.requires.ready c.child.ensures c.in_err-given.ensures.all c.from_residual.ensures.1 (ramp_halted c.in_err-given.field-0.0 c.args.ramp.now.0 c.args.ramp.now.1 os c.args.want.now world some)

pub evaluate_ramp-returns-in_err-at : goal.evaluate_ramp-returns-in_err-at
evaluate_ramp-returns-in_err-at g t c =
    let n = g.N.NodeHandle.node c.args.tree in
    let bs = g.B.Bindings.listed c.args.around.now.bindings.now in
    let world = g.W.WorldView.world c.args.around.now.world.now in
    let cs = children n in
    let b = g.N.NodeHandle.node c.child.result in
    let os = arguments_of n bs world in
    let counted = count_here n bs world in
    let some : 1 ≤ length os = omega (arith, c.if-count-eq0.false, c.count.ensures, counted) in
    let j = c.in_ok-given.ensures.all in
    input_fails c.in_err-at.field-0.0 n b c.child.ensures j c.from_residual-in_err-at.ensures.1 (sym (ramp_with c.args.ramp.now.0 c.args.ramp.now.1 os c.args.want.now world (data_of c.in_ok-given.given) (Err c.in_err-at.field-0.0) some (input_gives n b c.child.ensures j) c.in_err-at.ensures))

pub evaluate_ramp-returns-in_err-value : goal.evaluate_ramp-returns-in_err-value
evaluate_ramp-returns-in_err-value g t c =
    let n = g.N.NodeHandle.node c.args.tree in
    let bs = g.B.Bindings.listed c.args.around.now.bindings.now in
    let world = g.W.WorldView.world c.args.around.now.world.now in
    let cs = children n in
    let b = g.N.NodeHandle.node c.child.result in
    let os = arguments_of n bs world in
    let counted = count_here n bs world in
    let some : 1 ≤ length os = omega (arith, c.if-count-eq0.false, c.count.ensures, counted) in
    ramp_halts c.args.ramp.now.0 c.args.ramp.now.1 n b c.args.want.now (omega (arith, some, counted)) c.child.ensures c.in_ok-given.ensures.all c.in_ok-at.ensures c.in_err-value.ensures c.from_residual-in_err-value.ensures.1

pub evaluate_ramp-returns : goal.evaluate_ramp-returns
evaluate_ramp-returns g t c =
    let n = g.N.NodeHandle.node c.args.tree in
    let bs = g.B.Bindings.listed c.args.around.now.bindings.now in
    let world = g.W.WorldView.world c.args.around.now.world.now in
    let cs = children n in
    let b = g.N.NodeHandle.node c.child.result in
    let os = arguments_of n bs world in
    let counted = count_here n bs world in
    let some : 1 ≤ length os = omega (arith, c.if-count-eq0.false, c.count.ensures, counted) in
    ramp_evaluates c.args.ramp.now.0 c.args.ramp.now.1 n b c.args.want.now (omega (arith, some, counted)) c.requires.ready c.child.ensures c.in_ok-given.ensures.all c.in_ok-at.ensures c.in_ok-value.ensures c.fitted.ensures

pub evaluate_stop-returns-in-First : goal.evaluate_stop-returns-in-First
evaluate_stop-returns-in-First g t c =
    let n = g.N.NodeHandle.node c.args.tree in
    let bs = g.B.Bindings.listed c.args.around.now.bindings.now in
    let world = g.W.WorldView.world c.args.around.now.world.now in
    let cs = children n in
    let ins = c.args.ramp.now.1 in
    let at = c.args.at in
    let outs = drop 1 (known_arguments n bs world) in
    let same = c.inputs-inputs.ensures.inputs in
    let p = sym (ap (λ x. place_of x at) (sym same) ∙ (sym c.stop_place.ensures.place ∙ c.in-First.is)) in
    let m = ap (λ x. ramp_at ins outs at x Any [] world) p in
    stop_alone n 0 c.requires.ready c.evaluate_output.ensures m

pub evaluate_stop-returns-in-Last : goal.evaluate_stop-returns-in-Last
evaluate_stop-returns-in-Last g t c =
    let n = g.N.NodeHandle.node c.args.tree in
    let bs = g.B.Bindings.listed c.args.around.now.bindings.now in
    let world = g.W.WorldView.world c.args.around.now.world.now in
    let cs = children n in
    let ins = c.args.ramp.now.1 in
    let at = c.args.at in
    let outs = drop 1 (known_arguments n bs world) in
    let same = c.inputs-inputs.ensures.inputs in
    let p = sym (ap (λ x. place_of x at) (sym same) ∙ (sym c.stop_place.ensures.place ∙ c.in-Last.is)) in
    let m = ap (λ x. ramp_at ins outs at x Any [] world) p in
    let last = ap (λ (xs : List ℤ). length xs - 1) same in
    stop_alone n (length c.inputs-inputs.result.now - 1) c.requires.ready c.evaluate_output-in-Last.ensures (ap (λ (k : ℕ). output_at outs k Any [] world) last ∙ m)

pub evaluate_stop-returns-in-Some : goal.evaluate_stop-returns-in-Some
evaluate_stop-returns-in-Some g t c =
    let n = g.N.NodeHandle.node c.args.tree in
    let bs = g.B.Bindings.listed c.args.around.now.bindings.now in
    let world = g.W.WorldView.world c.args.around.now.world.now in
    let ins = c.args.ramp.now.1 in
    let at = c.args.at in
    let os = arguments_of n bs world in
    let outs = drop 1 (known_arguments n bs world) in
    let same = c.inputs-inputs.ensures.inputs in
    let p = sym (ap (λ x. place_of x at) (sym same) ∙ (sym c.stop_place.ensures.place ∙ c.in-Between.is)) in
    let m = ap (λ x. ramp_at ins outs at x Any [] world) p in
    let i = c.in-Between.i in
    let G : List ℤ → Type 0 = λ xs. GivesValue c.in-Some.value (between_values at (input_at xs i) (input_at xs (i + 1)) (outcome_at os (i + 1)) (outcome_at os (i + 2))) in
    both_there n i at (input_at ins i) (input_at ins (i + 1)) c.requires.ready c.tick.ensures c.tick-in-Some.ensures c.in-Some.ensures.within (subst G same (c.in-Some.ensures.given (promises bs world) world)) m

pub evaluate_stop-returns-in_err-lower-in-Between : goal.evaluate_stop-returns-in_err-lower-in-Between
evaluate_stop-returns-in_err-lower-in-Between g t c =
    let n = g.N.NodeHandle.node c.args.tree in
    let bs = g.B.Bindings.listed c.args.around.now.bindings.now in
    let world = g.W.WorldView.world c.args.around.now.world.now in
    let cs = children n in
    let ins = c.args.ramp.now.1 in
    let at = c.args.at in
    let outs = drop 1 (known_arguments n bs world) in
    let same = c.inputs-inputs.ensures.inputs in
    let p = sym (ap (λ x. place_of x at) (sym same) ∙ (sym c.stop_place.ensures.place ∙ c.in-Between.is)) in
    let m = ap (λ x. ramp_at ins outs at x Any [] world) p in
    let i = c.in-Between.i in
    let x0 = input_at ins i in
    let x1 = input_at ins (i + 1) in
    lower_halts n i at x0 x1 c.requires.ready c.in_err-lower-in-Between.ensures c.from_residual.ensures.1 m

pub evaluate_stop-returns-in_err-upper-in-Between : goal.evaluate_stop-returns-in_err-upper-in-Between
evaluate_stop-returns-in_err-upper-in-Between g t c =
    let n = g.N.NodeHandle.node c.args.tree in
    let bs = g.B.Bindings.listed c.args.around.now.bindings.now in
    let world = g.W.WorldView.world c.args.around.now.world.now in
    let cs = children n in
    let ins = c.args.ramp.now.1 in
    let at = c.args.at in
    let outs = drop 1 (known_arguments n bs world) in
    let same = c.inputs-inputs.ensures.inputs in
    let p = sym (ap (λ x. place_of x at) (sym same) ∙ (sym c.stop_place.ensures.place ∙ c.in-Between.is)) in
    let m = ap (λ x. ramp_at ins outs at x Any [] world) p in
    let i = c.in-Between.i in
    let x0 = input_at ins i in
    let x1 = input_at ins (i + 1) in
    upper_halts n i at x0 x1 c.in_ok-lower-in-Between.ensures c.in_err-upper-in-Between.ensures c.from_residual-in_err-upper-in-Between.ensures.1 m

pub evaluate_stop-returns-in_ok-upper-in-Between : goal.evaluate_stop-returns-in_ok-upper-in-Between
evaluate_stop-returns-in_ok-upper-in-Between g t c =
    let n = g.N.NodeHandle.node c.args.tree in
    let bs = g.B.Bindings.listed c.args.around.now.bindings.now in
    let world = g.W.WorldView.world c.args.around.now.world.now in
    let cs = children n in
    let ins = c.args.ramp.now.1 in
    let at = c.args.at in
    let outs = drop 1 (known_arguments n bs world) in
    let same = c.inputs-inputs.ensures.inputs in
    let p = sym (ap (λ x. place_of x at) (sym same) ∙ (sym c.stop_place.ensures.place ∙ c.in-Between.is)) in
    let m = ap (λ x. ramp_at ins outs at x Any [] world) p in
    let i = c.in-Between.i in
    let x0 = input_at ins i in
    let x1 = input_at ins (i + 1) in
    let G : List ℤ → Type 0 = λ xs. GivesValue c.between.result (between_of at (input_at xs i) (data_of c.in_ok-lower-in-Between.lower) (input_at xs (i + 1)) (data_of c.in_ok-upper-in-Between.upper)) in
    both_evaluate n i at x0 x1 c.requires.ready c.in_ok-lower-in-Between.ensures c.in_ok-upper-in-Between.ensures (subst G same c.between.ensures) m

pub evaluate_output-evaluate_node-requires : goal.evaluate_output-evaluate_node-requires
evaluate_output-evaluate_node-requires g t c =
    let n = g.N.NodeHandle.node c.args.tree in
    let bs = g.B.Bindings.listed c.args.around.now.bindings.now in
    let world = g.W.WorldView.world c.args.around.now.world.now in
    let cs = children n in
    let k = c.args.place in
    let b = g.N.NodeHandle.node c.child-output.result in
    let d = c.decreases in
    let w = child_size cs (k + 1) b c.child-output.ensures in
    let smaller : 6 * size b + reach c.args.around.now.limit bs < t = omega arith in
    search (rules, smaller, below_at c.args.around.now.limit cs (k + 1) b c.requires.below c.child-output.ensures, c.requires.ready)

pub evaluate_output-returns-in-Some : goal.evaluate_output-returns-in-Some
evaluate_output-returns-in-Some g t c =
    let n = g.N.NodeHandle.node c.args.tree in
    let bs = g.B.Bindings.listed c.args.around.now.bindings.now in
    let world = g.W.WorldView.world c.args.around.now.world.now in
    let cs = children n in
    let k = c.args.place in
    let b = g.N.NodeHandle.node c.child-output.result in
    let w = size_at cs (k + 1) b c.child-output.ensures in
    let s = size_pos b in
    let o = outcome_here cs (k + 1) b (promises bs world) world c.child-output.ensures ∙ c.in-Some.ensures (promises bs world) world in
    given 1 (size_in cs (k + 1)) c.requires.ready (ticked c.requires.ready c.tick.ensures) (omega (arith, w, s)) (subst (GivesValue c.fitted_copy.result) (sym o) c.fitted_copy.ensures) refl

pub evaluate_output-returns-in_default : goal.evaluate_output-returns-in_default
evaluate_output-returns-in_default g t c =
    let n = g.N.NodeHandle.node c.args.tree in
    let bs = g.B.Bindings.listed c.args.around.now.bindings.now in
    let world = g.W.WorldView.world c.args.around.now.world.now in
    let cs = children n in
    let k = c.args.place in
    let b = g.N.NodeHandle.node c.child-output.result in
    let w = size_at cs (k + 1) b c.child-output.ensures in
    ended 0 (size b) (size_in cs (k + 1)) (begun c.requires.ready) c.evaluate_node.ensures.all (omega (arith, w)) (sym (outcome_here cs (k + 1) b (promises bs world) world c.child-output.ensures)) refl

pub evaluate_output-returns-else-place-outputs : goal.evaluate_output-returns-else-place-outputs
evaluate_output-returns-else-place-outputs g t c =
    let n = g.N.NodeHandle.node c.args.tree in
    let bs = g.B.Bindings.listed c.args.around.now.bindings.now in
    let world = g.W.WorldView.world c.args.around.now.world.now in
    let cs = children n in
    let k = c.args.place in
    let h : length cs ≤ k + 1 = omega (arith, c.if-place-outputs.false, c.saturating_sub-outputs.ensures, c.count.ensures) in
    given 0 (size_in cs (k + 1)) c.requires.ready (begun c.requires.ready) (omega arith) (outcome_none cs (k + 1) (promises bs world) world h) refl
