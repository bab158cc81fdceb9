-- The bucket that is read is that of the key.
use Rattle.std.proofs.Common.{◌≡◌, ◌%◌, ◌<◌, length, ap, sym, ◌∙◌, subst, arith}
use Rattle.std.specs.Prelude.{map}
use Rattle.std.specs.Option.{option_or}
use Rattle.std.proofs.Math.Nat.{mod-lt}
use Rattle.key_index.specs.Hash.{hash_of}
use Rattle.key_index.specs.Table.{slot_place, slots_at}
use Rattle.key_index.specs.Places.{noted}
use Rattle.key_index.proofs.Tables.{bucket_read}
use Rattle.key_index.proofs.table.Table.find.Goals as goal

pub returns-in-Some : goal.returns-in-Some
returns-in-Some g c =
    let bs = c.args.self.now.buckets.items in
    let k = c.args.key.now in
    let ks = map g.T.Keyed.key c.args.entries.now in
    let count : c.len.result ≡ length bs = omega arith in
    let within : c.key_hash-hash.result % c.len.result < length bs = subst (λ n. c.key_hash-hash.result % c.len.result < n) count (mod-lt c.key_hash-hash.result (omega (arith, c.requires))) in
    let here : c.find_slot.result ≡ slot_place (hash_of k) k ks (slots_at bs (hash_of k % length bs)) = c.find_slot.ensures ∙ (ap (λ h. slot_place h k ks c.index.result.now.slots) c.key_hash-hash.ensures ∙ ap (slot_place (hash_of k) k ks) (bucket_read bs c.key_hash-hash.result c.len.result c.index.result.now k c.key_hash-hash.ensures count within c.index.ensures)) in
    ap (λ r. option_or r (noted c.args.self.now.crowded k)) (sym c.in-Some.is ∙ here)

pub returns-in-None : goal.returns-in-None
returns-in-None g c =
    let bs = c.args.self.now.buckets.items in
    let k = c.args.key.now in
    let ks = map g.T.Keyed.key c.args.entries.now in
    let count : c.len.result ≡ length bs = omega arith in
    let within : c.key_hash-hash.result % c.len.result < length bs = subst (λ n. c.key_hash-hash.result % c.len.result < n) count (mod-lt c.key_hash-hash.result (omega (arith, c.requires))) in
    let here : c.find_slot.result ≡ slot_place (hash_of k) k ks (slots_at bs (hash_of k % length bs)) = c.find_slot.ensures ∙ (ap (λ h. slot_place h k ks c.index.result.now.slots) c.key_hash-hash.ensures ∙ ap (slot_place (hash_of k) k ks) (bucket_read bs c.key_hash-hash.result c.len.result c.index.result.now k c.key_hash-hash.ensures count within c.index.ensures)) in
    c.copied.ensures ∙ (c.get.ensures.value ∙ ap (λ r. option_or r (noted c.args.self.now.crowded k)) (sym c.in-None.is ∙ here))
