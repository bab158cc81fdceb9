-- What is resolved can be evaluated, and gives what the expression means.
use Rattle.std.proofs.Common.{◌≡◌, ℕ, ◌+◌, ◌≤◌, List, [], Bool, sym, subst}
use Rattle.prop_values.specs.declared.kinds.Want.{Want}
use Rattle.expr_syntax.specs.Term.{Term}
use Rattle.expr_syntax.specs.TermSize.{nodes}
use Rattle.expr_nodes.specs.Evaluators.{IsEvaluable, sized_node, sized_term}
use Rattle.expr_nodes.specs.Node.{Node, size, total_size}
use Rattle.expr_nodes.specs.Resolved.{Represents}
use Rattle.expr_nodes.specs.Resolving.{Numbered, resolve}

represents : (t : Term) (want : Want) (marks : List Bool) (root : Node) (bindings : List Node) →
    Represents t want (resolve t want marks [] []).0 (resolve t want marks [] []).1 →
    (root, bindings) ≡ resolve t want marks [] [] → Represents t want root bindings
represents t want marks root bindings law e = subst (λ (r : Numbered). Represents t want r.0 r.1) (sym e) law

pub evaluable : (t : Term) (want : Want) (marks : List Bool) (root : Node) (bindings : List Node) (count : ℕ) →
    Represents t want (resolve t want marks [] []).0 (resolve t want marks [] []).1 →
    (root, bindings) ≡ resolve t want marks [] [] → count ≡ nodes t → IsEvaluable (root, bindings, count)
evaluable t want marks root bindings count law e c =
    let r = represents t want marks root bindings law e in
    record {
      below = r.below;
      earlier = r.earlier;
      sized = subst (λ n. size root + total_size bindings ≤ n) (sym c) r.sized;
    }

pub means_term : (t : Term) (want : Want) (marks : List Bool) (root : Node) (bindings : List Node) (count : ℕ) →
    Represents t want (resolve t want marks [] []).0 (resolve t want marks [] []).1 →
    (root, bindings) ≡ resolve t want marks [] [] → count ≡ nodes t → sized_node (root, bindings, count) ≡ sized_term t want
means_term t want marks root bindings count law e c =
    let r = represents t want marks root bindings law e in
    λ i. ((λ world. sym (r.meaning world) i), c i)
