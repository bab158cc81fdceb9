-- Each turn of the two loops is one step of the walk along the items or members.
use Rattle.std.proofs.Common.{◌≡◌, [], ◌∷◌, ◌++◌, sym, ap, ◌∙◌, arith}
use Rattle.prop_values.specs.JsonData.{read_by}
use Rattle.prop_values.specs.View.{data_of}
use Rattle.prop_values.proofs.JsonKeys.{keys_step}
use Rattle.prop_values.proofs.JsonSteps.{items_step, items_fail, items_done, pairs_step, pairs_fail, pairs_done}
use Rattle.prop_values.proofs.copying.+from_json.Goals as goal

pub values_from-returns-in-Err-clause-data : goal.values_from-returns-in-Err-clause-data
values_from-returns-in-Err-clause-data t c =
    items_fail c.loop-item.values c.as_slice-item-items.result.now c.loop-item.item-index c.item-item.result c.in-Err.fault _ (omega arith) c.item-item.is (ap (read_by data_of) (sym c.in-Err.is) ∙ c.in_ok-value.ensures.data) c.loop-item.invariant

pub values_from-loop-item-preserved : goal.values_from-loop-item-preserved
values_from-loop-item-preserved t c =
    items_step c.loop-item.values c.push.new.self c.as_slice-item-items.result.now c.loop-item.item-index c.item-item.result c.in-Ok.value _ (omega arith) c.item-item.is (ap (read_by data_of) (sym c.in-Ok.is) ∙ c.in_ok-value.ensures.data) c.in_ok-push-in-Ok.ensures.ok c.loop-item.invariant

pub values_from-returns-clause-data : goal.values_from-returns-clause-data
values_from-returns-clause-data t c = items_done c.loop-item.values c.as_slice-item-items.result.now c.loop-item.item-index _ (omega arith) c.loop-item.invariant

pub entries_from-returns-in-Err-clause-data : goal.entries_from-returns-in-Err-clause-data
entries_from-returns-in-Err-clause-data t c =
    pairs_fail c.loop-member.entries c.as_slice-member-items.result.now c.loop-member.member-index c.member-item.result c.in-Err.fault _ (omega arith) c.member-item.is (ap (read_by data_of) (sym c.in-Err.is) ∙ c.in_ok-value.ensures.data) c.loop-member.invariant.1

pub entries_from-loop-member-preserved : goal.entries_from-loop-member-preserved
entries_from-loop-member-preserved t c =
    let pushed : c.push.new.self ≡ c.loop-member.entries ++ (c.member-item.result.key, data_of c.in-Ok.value) ∷ [] =
    c.in_ok-push-in-Ok.ensures.ok ∙ ap (λ k. c.loop-member.entries ++ (k, data_of c.in-Ok.value) ∷ []) c.in_ok-key-in-Ok.ensures.same in (
      keys_step c.loop-member.entries c.push.new.self c.as_slice-member-items.result.now c.loop-member.member-index c.member-item.result (data_of c.in-Ok.value) (omega arith) c.member-item.is pushed c.loop-member.invariant.0,
      pairs_step c.loop-member.entries c.push.new.self c.as_slice-member-items.result.now c.loop-member.member-index c.member-item.result c.in-Ok.value _ (omega arith) c.member-item.is (ap (read_by data_of) (sym c.in-Ok.is) ∙ c.in_ok-value.ensures.data) pushed c.loop-member.invariant.1,
    )

pub entries_from-returns-clause-data : goal.entries_from-returns-clause-data
entries_from-returns-clause-data t c = pairs_done c.loop-member.entries c.as_slice-member-items.result.now c.loop-member.member-index _ (omega arith) c.loop-member.invariant.1
