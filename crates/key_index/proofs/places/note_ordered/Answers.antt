use Rattle.std.proofs.Common.{◌≡◌, ◌+◌, length, ap, sym, ◌∙◌, arith}
use Rattle.std.specs.Prelude.{map, Some, if◌then◌else◌}
use Rattle.std.specs.Str.{bytes_eq}
use Rattle.std.proofs.lemmas.List.{length-map}
use Rattle.std.proofs.lemmas.Result.{on_ok_weaker}
use Rattle.key_index.specs.Keys.{place_from}
use Rattle.key_index.proofs.Keys.{place_push}
use Rattle.key_index.proofs.places.note_ordered.Goals as goal

pub returns-clause-ok : goal.returns-clause-ok
returns-clause-ok g c =
    let es = c.args.entries.now in
    let ks = map g.T.Keyed.key es in
    let k = c.args.key.now in
    let count : length es ≡ 0 + length ks = omega (arith, length-map es g.T.Keyed.key) in
    on_ok_weaker c.note_place.result
    (λ ok q. ok q ∙ (ap (λ r. if bytes_eq k q then Some (length es) else r) (c.requires.places q) ∙
    (ap (λ m. if bytes_eq k q then Some m else place_from 0 q ks) count ∙ sym (place_push 0 q ks k c.requires.lacks))))
    c.note_place.ensures.ok
