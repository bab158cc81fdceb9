use Rattle.std.proofs.Common.{◌≡◌, ◌<◌, ◌++◌, ◌∷◌, [], length, take, get_or, ap, sym, ◌∙◌, subst, arith}
use Rattle.std.specs.Prelude.{map}
use Rattle.std.proofs.lemmas.List.{length-map, take_more, take-map}
use Rattle.key_index.specs.Ascending.{IsAscending}
use Rattle.key_index.proofs.Keys.{key_at}
use Rattle.key_index.proofs.ascending.are_ascending.Goals as goal

pub loop-place-preserved : goal.loop-place-preserved
loop-place-preserved g c =
    let es = c.args.entries.now in
    let ks = map g.T.Keyed.key es in
    let n = c.loop-place.place in
    let k = c.key.result.now in
    let within : n < length es = omega arith in
    let there : n < length ks = omega (arith, length-map es g.T.Keyed.key) in
    let same : k ≡ get_or ks n k = c.key.ensures ∙ key_at g.T.Keyed.key es n c.index-entries-place.result within c.index-entries-place.is k in
    let front = sym (take-map g.T.Keyed.key n es) in
    subst IsAscending (ap (λ x. take n ks ++ x ∷ []) same ∙ sym (take_more ks n k there))
    (subst (λ xs. IsAscending (xs ++ k ∷ [])) front (c.is_above.ensures c.if-not-is_above.false (subst IsAscending (sym front) c.loop-place.invariant)))
