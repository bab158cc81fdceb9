use Rattle.std.proofs.Common.{◌≡◌, ◌+◌, ◌-◌, ◌<◌, length, get_or, ap, sym, ◌∙◌, arith}
use Rattle.std.specs.Prelude.{map, Some, None, if◌then◌else◌}
use Rattle.std.specs.Str.{bytes_eq}
use Rattle.std.proofs.lemmas.List.{length-map}
use Rattle.std.proofs.lemmas.Result.{on_ok_weaker}
use Rattle.key_index.specs.Keys.{place_from}
use Rattle.key_index.proofs.Keys.{key_at}
use Rattle.key_index.proofs.Taken.{place_taken}
use Rattle.key_index.proofs.places.take_place.Goals as goal

pub returns : goal.returns
returns g c =
    let es = c.args.entries.now in
    let ks = map g.T.Keyed.key es in
    let k = c.key.result.now in
    let l = c.key-last.result.now in
    let p = c.args.place in
    let n = length es - 1 in
    let count : length ks ≡ n + 1 = omega (arith, length-map es g.T.Keyed.key, c.requires.within) in
    let within : n < length es = omega (arith, c.requires.within) in
    let key_is : k ≡ get_or ks p k = c.key.ensures ∙ key_at g.T.Keyed.key es p c.index-entries-place.result c.requires.within c.index-entries-place.is k in
    let last_is : l ≡ get_or ks n k = c.key-last.ensures ∙ key_at g.T.Keyed.key es n c.index-entries-entries.result within c.index-entries-entries.is k in
    let counted : p ≡ 0 + p = omega arith in
    on_ok_weaker c.give_place.result
    (λ ok q. ok q ∙ (ap (λ r. if bytes_eq k q then None else (if bytes_eq l q then Some p else r)) (c.requires.places q) ∙
    (ap (λ x. if bytes_eq x q then None else (if bytes_eq l q then Some p else place_from 0 q ks)) key_is ∙
    (ap (λ x. if bytes_eq (get_or ks p k) q then None else (if bytes_eq x q then Some p else place_from 0 q ks)) last_is ∙
    (ap (λ m. if bytes_eq (get_or ks p k) q then None else (if bytes_eq (get_or ks n k) q then Some m else place_from 0 q ks)) counted ∙
    sym (place_taken 0 q ks p n k c.requires.distinct count (omega (arith, c.requires.within))))))))
    c.give_place.ensures
