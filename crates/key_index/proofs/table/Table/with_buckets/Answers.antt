use Rattle.std.proofs.Common.{◌≡◌, ◌-◌, ◌++◌, [], take, replicate, ap, ◌∙◌, refl, arith, vec_len}
use Rattle.std.proofs.lemmas.List.{take_all}
use Rattle.key_index.specs.declared.table.Table.{Table}
use Rattle.key_index.specs.declared.table.Bucket.{Bucket}
use Rattle.key_index.proofs.Slots.{AreFree, slot_of}
use Rattle.key_index.proofs.Tables.{new_table}
use Rattle.key_index.proofs.table.Table.with_buckets.Goals as goal

pub returns : goal.returns
returns c = λ keys few.
    let b : Bucket = record { slots = replicate 8 (slot_of 0 0) } in
    let t : Table = record { buckets = c.resize.new.self; crowded = c.new.result } in
    let free : AreFree b.slots = (refl, (refl, (refl, (refl, (refl, (refl, (refl, (refl, tt)))))))) in
    let none : c.args.count - vec_len c.new-buckets.result ≡ c.args.count = omega (arith, c.new-buckets.ensures.len) in
    let items : c.resize.new.self.items ≡ replicate c.args.count b =
    c.in_ok-resize.ensures.items ∙ (ap (λ xs. take c.args.count xs ++ replicate (c.args.count - vec_len c.new-buckets.result) b) c.new-buckets.ensures.items ∙
    (ap (λ xs. xs ++ replicate (c.args.count - vec_len c.new-buckets.result) b) (take_all c.args.count [] (omega arith)) ∙ ap (λ n. replicate n b) none)) in
    new_table t c.args.count b keys c.requires items free c.new.ensures.empty few
