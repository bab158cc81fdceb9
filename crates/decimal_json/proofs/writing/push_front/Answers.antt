use Rattle.std.proofs.Common.{◌≡◌, ◌+◌, ◌++◌, length, take, ◌∙◌, ap, arith}
use Rattle.std.proofs.lemmas.List.{take-take}
use Rattle.std.proofs.Math.Seq.{take-append-add}
use Rattle.decimal_json.proofs.writing.push_front.Goals as goal

pub returns-clause-ok : goal.returns-clause-ok
returns-clause-ok c =
    let old = c.args.out.now.items in
    let block = c.args.block.now in
    let n = c.args.count in
    let end : c.len-start.result + n ≡ length old + n = omega (arith, c.len-start.ensures) in
    c.truncate.ensures.items
    ∙ (ap (take (c.len-start.result + n)) c.in_ok-extend_from_slice.ensures.items
    ∙ (ap (λ k. take k (old ++ take 16 block)) end
    ∙ (take-append-add old (take 16 block) n ∙ ap (λ x. old ++ x) (take-take n 16 block c.requires.within))))
