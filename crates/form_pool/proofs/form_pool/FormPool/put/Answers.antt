use Rattle.std.proofs.Common.{◌++◌, ◌∷◌, [], ap, ◌∙◌}
use Rattle.std.specs.Prelude.{map}
use Rattle.expr_nodes.specs.Evaluators.{sized_node}
use Rattle.form_pool.specs.Pooled.{sized_slot}
use Rattle.form_pool.specs.declared.form_pool.PooledForm.TheVariants.{Nodes}
use Rattle.form_pool.proofs.FormLaws.{node_added}
use Rattle.form_pool.proofs.form_pool.FormPool.put.Goals as goal

pub returns-clause-ok : goal.returns-clause-ok
returns-clause-ok c =
    let old = c.next_slot.new.self in
    let nodes = map sized_node old.nodes in
    let e = sized_node c.args.expression in
    ap (λ es. map (sized_slot es) c.push_reserved.new.self.items) c.in_ok-number.ensures.ok
    ∙ (ap (map (sized_slot (nodes ++ e ∷ []))) (c.push_reserved.ensures.items
    ∙ ap (λ n. old.slots.items ++ Nodes n ∷ []) c.in_ok-number.ensures.slot)
    ∙ (node_added nodes e old.slots.items old.there
    ∙ (ap (λ ns. map (sized_slot (map sized_node ns)) old.slots.items ++ e ∷ []) c.next_slot.ensures.nodes
    ∙ ap (λ ss. map (sized_slot (map sized_node c.args.self.now.nodes)) ss ++ e ∷ []) c.next_slot.ensures.slots)))
