use Rattle.std.proofs.Common.{◌≡◌, ◌-◌, length, get_or, sym, ◌∙◌, subst, arith, nat_cmp}
use Rattle.std.specs.Prelude.{map}
use Rattle.std.specs.Cmp.Lexicographic.{slice_cmp}
use Rattle.std.specs.declared.cmp.Ordering.TheVariants.{Less}
use Rattle.std.proofs.lemmas.List.{length-map}
use Rattle.key_index.proofs.Keys.{key_at}
use Rattle.key_index.proofs.AscendingKeys.{ascending_push, is_less}
use Rattle.key_index.proofs.ascending.is_above.Goals as goal

pub returns-in-Some : goal.returns-in-Some
returns-in-Some g c = λ above ascending.
    let es = c.args.entries.now in
    let ks = map g.T.Keyed.key es in
    let last = length es - 1 in
    let k = c.key.result.now in
    let read = c.in-Some.ensures.item in
    let same : k ≡ get_or ks last k = c.key.ensures ∙ key_at g.T.Keyed.key es last c.in-Some.entry.now (omega (arith, read.3.0)) read.1 k in
    let below : slice_cmp nat_cmp k c.args.key.now ≡ Less = is_less (slice_cmp nat_cmp k c.args.key.now) (sym c.lt.ensures ∙ above) in
    ascending_push ks last c.args.key.now k ascending (omega (arith, length-map es g.T.Keyed.key, read.3.0)) (subst (λ x. slice_cmp nat_cmp x c.args.key.now ≡ Less) same below)
