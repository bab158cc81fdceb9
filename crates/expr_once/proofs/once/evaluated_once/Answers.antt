use Rattle.std.proofs.Common.{◌≡◌, ◌∙◌, ap, sym, IfOk}
use Rattle.std.specs.Prelude.{Result, Ok, Err}
use Rattle.std.specs.declared.alloc.AllocError.{AllocError}
use Rattle.prop_values.specs.ViewParts.{evaluated_of}
use Rattle.prop_values.specs.declared.fault.EvalFault.{EvalFault}
use Rattle.prop_values.specs.declared.value.Value.{Value}
use Rattle.operator_values.specs.Evaluated.{Evaluated, GivesValue}
use Rattle.eval_face.specs.World.{World}
use Rattle.expr_nodes.specs.Evaluators.{Sized, sized_node}
use Rattle.expr_once.proofs.once.evaluated_once.Goals as goal

-- what was given is what the second means, where it means the same as the first
as_meant : (first second : Sized) (world : World) (Gives : Evaluated → Type 0)
    (v : Result (Result Value EvalFault) AllocError) → first ≡ second → Gives (first.0 world) →
    IfOk v (λ given. (meant : Evaluated) → Gives meant → meant ≡ evaluated_of given) →
    IfOk v (λ given. evaluated_of given ≡ second.0 world)
as_meant first second world Gives (Ok given) e gives says = sym (says (first.0 world) gives) ∙ ap (λ s. s.0 world) e
as_meant first second world Gives (Err failed) e gives says = tt

pub returns : goal.returns
returns g c =
    as_meant (sized_node c.in_ok-nodes.nodes) _ _ (GivesValue c.evaluated_in.result) c.value_or_fault.result
    c.in_ok-nodes.ensures c.evaluated_in.ensures c.value_or_fault.ensures
