-- The key that is compared decides which half lacks the key.
use Rattle.std.proofs.Common.{◌≡◌, ◌∙◌, ◌+◌, ◌-◌, ◌<◌, ◌/◌, suc, sym, ap, subst, length, take, drop, get_or, arith, nat_cmp, Some}
use Rattle.std.specs.Prelude.{map}
use Rattle.std.specs.Cmp.Lexicographic.{slice_cmp}
use Rattle.std.specs.declared.cmp.Ordering.TheVariants.{Less, Greater}
use Rattle.std.proofs.lemmas.List.{length-map}
use Rattle.key_index.specs.Keys.{LacksKey}
use Rattle.key_index.proofs.Keys.{key_at, lacking_has_no_place}
use Rattle.key_index.proofs.AscendingKeys.{lacks_up_to, lacks_from, lacks_both, ascending_at, equal_keys}
use Rattle.key_index.proofs.ascending.ascending_place.Goals as goal

pub loop-low-preserved-in-Less : goal.loop-low-preserved-in-Less
loop-low-preserved-in-Less g c =
    let es = c.args.entries.now in
    let ks = map g.T.Keyed.key es in
    let middle = c.loop-low.low + (c.loop-low.high - c.loop-low.low) / 2 in
    let k = c.key.result.now in
    let within : middle < length es = omega (arith, c.loop-low-test.true, c.loop-low.invariant.within) in
    let same : k ≡ get_or ks middle k = c.key.ensures ∙ key_at g.T.Keyed.key es middle c.index-entries-middle.result within c.index-entries-middle.is k in
    let below : slice_cmp nat_cmp (get_or ks middle k) c.args.key.now ≡ Less = subst (λ x. slice_cmp nat_cmp x c.args.key.now ≡ Less) same (sym c.cmp.ensures ∙ c.in-Less.is) in
    let next : suc middle ≡ middle + 1 = omega arith in
    record {
      order = omega (arith, c.loop-low-test.true);
      within = c.loop-low.invariant.within;
      before = subst (λ n. LacksKey c.args.key.now (take n ks)) next (lacks_up_to ks middle c.args.key.now k c.requires (omega (arith, within, length-map es g.T.Keyed.key)) below);
      behind = c.loop-low.invariant.behind;
    }

pub returns-in-Equal : goal.returns-in-Equal
returns-in-Equal g c =
    let es = c.args.entries.now in
    let ks = map g.T.Keyed.key es in
    let middle = c.loop-low.low + (c.loop-low.high - c.loop-low.low) / 2 in
    let k = c.key.result.now in
    let within : middle < length es = omega (arith, c.loop-low-test.true, c.loop-low.invariant.within) in
    let same : k ≡ get_or ks middle k = c.key.ensures ∙ key_at g.T.Keyed.key es middle c.index-entries-middle.result within c.index-entries-middle.is k in
    let equal : k ≡ c.args.key.now = equal_keys k c.args.key.now (sym c.cmp.ensures ∙ c.in-Equal.is) in
    sym (ascending_at 0 ks middle c.args.key.now k c.requires (omega (arith, within, length-map es g.T.Keyed.key)) (sym same ∙ equal) ∙ ap Some (omega arith))

pub loop-low-preserved : goal.loop-low-preserved
loop-low-preserved g c =
    let es = c.args.entries.now in
    let ks = map g.T.Keyed.key es in
    let middle = c.loop-low.low + (c.loop-low.high - c.loop-low.low) / 2 in
    let k = c.key.result.now in
    let within : middle < length es = omega (arith, c.loop-low-test.true, c.loop-low.invariant.within) in
    let same : k ≡ get_or ks middle k = c.key.ensures ∙ key_at g.T.Keyed.key es middle c.index-entries-middle.result within c.index-entries-middle.is k in
    let above : slice_cmp nat_cmp (get_or ks middle k) c.args.key.now ≡ Greater = subst (λ x. slice_cmp nat_cmp x c.args.key.now ≡ Greater) same (sym c.cmp.ensures ∙ c.in-Greater.is) in
    record {
      order = omega arith;
      within = omega (arith, within);
      before = c.loop-low.invariant.before;
      behind = lacks_from ks middle c.args.key.now k c.requires (omega (arith, within, length-map es g.T.Keyed.key)) above;
    }

pub returns : goal.returns
returns g c =
    let ks = map g.T.Keyed.key c.args.entries.now in
    let met : c.loop-low.high ≡ c.loop-low.low = omega (arith, c.loop-low-test.false, c.loop-low.invariant.order) in
    sym (lacking_has_no_place 0 c.args.key.now ks (lacks_both c.loop-low.low c.args.key.now ks c.loop-low.invariant.before (subst (λ n. LacksKey c.args.key.now (drop n ks)) met c.loop-low.invariant.behind)))
