use Rattle.std.proofs.Common.{ap, sym, subst, ◌∙◌, length}
use Rattle.std.specs.Prelude.{map}
use Rattle.expr_nodes.specs.Evaluators.{sized_node}
use Rattle.form_pool.specs.Pooled.{AreFaithful, NodesAreThere, sized_slot}
use Rattle.form_pool.proofs.FormLaws.{is_faithful, legacy_faithful, legacy_there, on_err_always}
use Rattle.form_pool.proofs.form_pool.FormPool.put_legacy.Goals as goal

pub returns-in_err-slot-clause-err : goal.returns-in_err-slot-clause-err
returns-in_err-slot-clause-err c = on_err_always c.from_residual.result
    (ap (λ nodes. map (sized_slot (map sized_node nodes)) c.next_slot.new.self.slots.items) c.next_slot.ensures.nodes
    ∙ ap (map (sized_slot (map sized_node c.args.self.now.nodes))) c.next_slot.ensures.slots)

pub invariant_of-self : goal.invariant_of-self
invariant_of-self c =
    let old = c.next_slot.new.self in
    let faithful = is_faithful c.expressions_mean_their_functions.ensures c.token_expressions_mean_their_texts.ensures
    c.expressions_mean_their_filters.ensures c.args.form c.requires in
    record {
      there = subst (NodesAreThere (length (map sized_node old.nodes))) (sym c.push_reserved.ensures.items)
          (legacy_there (length (map sized_node old.nodes)) old.slots.items c.args.form old.there);
      faithful = subst AreFaithful (sym c.push_reserved.ensures.items)
          (legacy_faithful old.slots.items c.args.form old.faithful faithful);
      bare_is = old.bare_is;
    }
