-- Each turn notes the key at its place.
use Rattle.std.proofs.Common.{◌≡◌, ◌<◌, ◌++◌, ◌∷◌, [], length, take, get_or, ap, sym, ◌∙◌, subst, arith}
use Rattle.std.specs.Prelude.{map, Some, if◌then◌else◌}
use Rattle.std.specs.Str.{bytes_eq}
use Rattle.std.proofs.lemmas.List.{length-map, length-take-le, take_more}
use Rattle.key_index.specs.Keys.{LacksKey, place_from}
use Rattle.key_index.proofs.Keys.{key_at, lacks_before, place_push}
use Rattle.key_index.proofs.places.places_of.Goals as goal

pub loop-place-preserved : goal.loop-place-preserved
loop-place-preserved g c = λ q.
    let es = c.args.entries.now in
    let ks = map g.T.Keyed.key es in
    let n = c.loop-place.place in
    let k = c.key.result.now in
    let within : n < length es = omega arith in
    let there : n < length ks = omega (arith, length-map es g.T.Keyed.key) in
    let same : k ≡ get_or ks n k = c.key.ensures ∙ key_at g.T.Keyed.key es n c.index-entries-place.result within c.index-entries-place.is k in
    let lacks : LacksKey k (take n ks) = subst (λ x. LacksKey x (take n ks)) (sym same) (lacks_before ks n k c.requires there) in
    let pushed = place_push 0 q (take n ks) k lacks ∙ ap (λ m. if bytes_eq k q then Some m else place_from 0 q (take n ks)) (omega (arith, length-take-le n ks (omega (arith, there)))) in
    c.in_ok-note_place.ensures.ok q ∙ (ap (λ r. if bytes_eq k q then Some n else r) (c.loop-place.invariant q) ∙
    (sym pushed ∙ ap (place_from 0 q) (ap (λ x. take n ks ++ x ∷ []) same ∙ sym (take_more ks n k there))))
