-- Each turn notes the key at its place.
use Rattle.std.proofs.Common.{◌≡◌, ◌<◌, ◌++◌, ◌∷◌, [], length, take, get_or, ap, sym, ◌∙◌, subst, arith}
use Rattle.std.specs.Prelude.{map}
use Rattle.std.proofs.lemmas.List.{length-map, length-take-le, take_more}
use Rattle.key_index.specs.Keys.{LacksKey}
use Rattle.key_index.specs.Table.{IsTable}
use Rattle.key_index.proofs.Keys.{key_at, lacks_before}
use Rattle.key_index.proofs.table.Table.of.Goals as goal

pub loop-place-init : goal.loop-place-init
loop-place-init g c =
    let ks = map g.T.Keyed.key c.args.entries.now in
    c.in_ok-table.ensures (take 16 ks) (length-take-le 16 ks (omega (arith, length-map c.args.entries.now g.T.Keyed.key, c.requires.many)))

pub loop-place-preserved : goal.loop-place-preserved
loop-place-preserved g c =
    let es = c.args.entries.now in
    let ks = map g.T.Keyed.key es in
    let n = c.loop-place.place in
    let k = c.key.result.now in
    let within : n < length es = omega arith in
    let there : n < length ks = omega (arith, length-map es g.T.Keyed.key) in
    let same : k ≡ get_or ks n k = c.key.ensures ∙ key_at g.T.Keyed.key es n c.index-entries-place.result within c.index-entries-place.is k in
    let lacks : LacksKey k (take n ks) = subst (λ x. LacksKey x (take n ks)) (sym same) (lacks_before ks n k c.requires.distinct there) in
    subst (IsTable c.note.new.self) (ap (λ x. take n ks ++ x ∷ []) same ∙ sym (take_more ks n k there))
    (c.in_ok-note.ensures.ok (take n ks) c.loop-place.invariant lacks (length-take-le n ks (omega (arith, there))))
