use Rattle.std.proofs.Common.{◌+◌, ◌∙◌, [], ◌∷◌, ◌++◌, take, drop, get_or, sym, ap, arith, inl, inr}
use Rattle.std.proofs.lemmas.List.{append_assoc, length-set, length-drop, take_more, get_or-drop}
use Rattle.node_pool.proofs.BlockLaws.{elements_same, set_outside}
use Rattle.node_pool.proofs.gathering.move_nodes.Goals as goal

pub loop-place-preserved : goal.loop-place-preserved
loop-place-preserved c =
    let before = c.loop-place.invariant in
    let ps = c.args.nodes.now.items in
    let qs = c.loop-place.nodes.items in
    let start = c.args.start in
    let k = c.loop-place.place in
    let i = start + k in
    let rest = drop start ps in
    let x = c.index_mut.result.now in
    let y = c.replace-node.new.dest in
    let d = length-drop start ps in
    let same = elements_same qs ps i x (before.others i 1 (inr (omega arith))) in
    let node = c.replace-node.ensures.value ∙ (c.index_mut.ensures.value ∙ (same ∙ sym (get_or-drop start ps k x))) in
    record {
      moved = c.push_reserved.ensures.items
          ∙ ((λ j. before.moved j ++ node j ∷ [])
          ∙ (append_assoc c.args.moved.now.items (take k rest) (get_or rest k x ∷ [])
          ∙ ap (λ xs. c.args.moved.now.items ++ xs) (sym (take_more rest k x (omega (arith, d, c.requires.within, c.loop-place-test.true))))));
      capacity = c.push_reserved.ensures.capacity ∙ before.capacity;
      len = omega (arith, c.push_reserved.ensures.len, before.len);
      nodes = length-set qs i y ∙ before.nodes;
      others = λ s n w. elim w [
        | inl r ↦ set_outside qs i s n y (inl (omega (arith, r))) ∙ before.others s n (inl r)
        | inr r ↦ set_outside qs i s n y (inr (omega (arith, r))) ∙ before.others s n (inr (omega (arith, r)))
      ];
    }
