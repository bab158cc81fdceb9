-- What nodes give whose value is there without an evaluation.
use Rattle.std.proofs.Common.{◌≡◌, ◌∙◌, ℕ, ◌+◌, ◌-◌, ℤ, suc, Ok, Some, List, [], ◌∷◌, length, false, arith, refl, sym, ap}
use Rattle.std.specs.List.{slice_get}
use Rattle.std.proofs.lemmas.Option.{slice_get_within}
use Rattle.prop_values.specs.Data.{Data, number}
use Rattle.prop_values.specs.declared.kinds.Want.{Want}
use Rattle.prop_values.specs.declared.kinds.Want.TheVariants.{Any}
use Rattle.property_tables.specs.Fitting.{fit}
use Rattle.expr_syntax.specs.declared.expression.Operator.{Operator}
use Rattle.expr_syntax.specs.declared.expression.Operator.TheVariants as operators
use Rattle.expr_syntax.specs.Chosen.{output_of}
use Rattle.expr_syntax.specs.declared.parts.Labelled.{Labelled}
use Rattle.operator_values.specs.Evaluated.{Evaluated}
use Rattle.eval_face.specs.Branches.{match_of}
use Rattle.eval_face.specs.World.{World}
use Rattle.eval_face.specs.Meaning.{node_meaning}
use Rattle.operator_rules.proofs.ArgumentLaws.{decision_found}
use Rattle.expr_nodes.specs.Node.{Node, inner, children, children_of}
use Rattle.expr_nodes.specs.EvaluatesNode.{outcome_at}
use Rattle.expr_nodes.specs.Outcome.{outcome, each_outcome, all_known}
use Rattle.expr_nodes.proofs.NodeLaws.{inner_outcome, outcome_here, outcomes_length, argument_is, argument_known}
use Rattle.expr_nodes.proofs.BranchParts.{match_with}

-- ---- the zoom

zoom_given : (ns : List Node) (ps : List Evaluated) (want : Want) (world : World) → length ns ≡ 0 → fit want (number world.zoom) ≡ Ok (number world.zoom) → node_meaning operators.Zoom (all_known (each_outcome ns ps world)) want [] world ≡ Ok (number world.zoom)
zoom_given [] ps want world h f = f
zoom_given (n ∷ ns) ps want world h f = absurd (omega arith)

pub zoom_there : (n : Node) (op : Operator) (want : Want) (ps : List Evaluated) (world : World) → n ≡ inner op want (children_of (children n)) → op ≡ operators.Zoom → length (children n) ≡ 0 → fit want (number world.zoom) ≡ Ok (number world.zoom) → outcome n ps world ≡ Ok (number world.zoom)
zoom_there n op want ps world e o h f =
    inner_outcome n op want ps world e
    ∙ (ap (λ x. node_meaning x (all_known (each_outcome (children n) ps world)) want [] world) o
    ∙ zoom_given (children n) ps want world h f)

-- ---- the first argument of `number`

first_given : (ns : List Node) (b : Node) (ps : List Evaluated) (want : Want) (world : World) (z : ℤ) → slice_get ns 0 ≡ Some b → outcome b ps world ≡ Ok (number z) → fit want (number z) ≡ Ok (number z) → node_meaning operators.Number (all_known (each_outcome ns ps world)) want [] world ≡ Ok (number z)
first_given ns b ps want world z s o f =
    let os = each_outcome ns ps world in
    let count = outcomes_length ns ps world in
    let some = slice_get_within ns 0 b s in
    let first = sym (argument_known operators.Number os 0 want [] world) ∙ (sym (argument_is operators.Number os 0 (outcome b ps world) false refl (outcome_here ns 0 b ps world s)) ∙ o) in
    sym (decision_found operators.Number (all_known os) 0 want [] world (number z) (number z) (omega (arith, count, some)) refl first refl) ∙ f

pub number_there : (n b : Node) (op : Operator) (want : Want) (ps : List Evaluated) (world : World) (z : ℤ) → n ≡ inner op want (children_of (children n)) → op ≡ operators.Number → slice_get (children n) 0 ≡ Some b → outcome b ps world ≡ Ok (number z) → fit want (number z) ≡ Ok (number z) → outcome n ps world ≡ Ok (number z)
number_there n b op want ps world z e o s a f =
    inner_outcome n op want ps world e
    ∙ (ap (λ x. node_meaning x (all_known (each_outcome (children n) ps world)) want [] world) o
    ∙ first_given (children n) b ps want world z s a f)

-- ---- the output that a `match` chooses

each_length : (ns : List Node) (ps : List Evaluated) (world : World) → length (each_outcome ns ps world) ≡ length ns
each_length [] ps world = refl
each_length (n ∷ ns) ps world = ap suc (each_length ns ps world)

pub match_there : (labels : List Labelled) (ns : List Node) (b : Node) (ps : List Evaluated) (world : World) (d : Data) (k last place : ℕ) → slice_get ns 0 ≡ Some b → outcome b ps world ≡ Ok d → k ≡ length ns → last ≡ k - 1 - 1 → place ≡ output_of labels d last → outcome_at (each_outcome ns ps world) (place + 1) ≡ match_of labels (all_known (each_outcome ns ps world)) Any [] world
match_there labels ns b ps world d k last place s o e l p =
    let counted = each_length ns ps world in
    let some = slice_get_within ns 0 b s in
    match_with labels (each_outcome ns ps world) world d place (omega (arith, counted, some)) (outcome_here ns 0 b ps world s ∙ o)
    (p ∙ ap (output_of labels d) (l ∙ ap (λ (m : ℕ). m - 1 - 1) (e ∙ sym counted)))
