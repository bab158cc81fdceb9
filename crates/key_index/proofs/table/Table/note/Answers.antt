use Rattle.std.proofs.Common.{◌≡◌, ◌%◌, ◌<◌, length, set, get_or, ap, sym, ◌∙◌, subst, refl, arith}
use Rattle.std.specs.Prelude.{Some, if◌then◌else◌}
use Rattle.std.specs.Str.{bytes_eq}
use Rattle.std.proofs.Math.Nat.{mod-lt}
use Rattle.std.proofs.lemmas.Result.{on_ok_weaker}
use Rattle.key_index.specs.declared.table.Bucket.{Bucket}
use Rattle.key_index.specs.Hash.{hash_of}
use Rattle.key_index.specs.Table.{IsFree, slots_at}
use Rattle.key_index.specs.Places.{noted}
use Rattle.key_index.proofs.Slots.{slot_of, slots_read}
use Rattle.key_index.proofs.Tables.{table_put, table_crowd}
use Rattle.key_index.proofs.table.Table.note.Goals as goal

pub returns-in-Some-clause-ok : goal.returns-in-Some-clause-ok
returns-in-Some-clause-ok c = λ keys h l n.
    let bs = c.args.self.now.buckets.items in
    let k = c.args.key.now in
    let home = c.key_hash-hash.result % c.len.result in
    let count : c.len.result ≡ length bs = omega arith in
    let at : home ≡ hash_of k % length bs = ap (λ h. h % c.len.result) c.key_hash-hash.ensures ∙ ap (λ n. hash_of k % n) count in
    let within : home < length bs = subst (λ n. home < n) count (mod-lt c.key_hash-hash.result (omega (arith, c.requires))) in
    let place : c.in-Ok.short ≡ length keys = omega (arith, n, c.in-Ok.ensures) in
    let old = c.index.result.now in
    let b : Bucket = record { slots = set (get_or bs home old).slots c.in-Some.i (slot_of c.key_hash-hash.result c.in-Ok.short) } in
    let slots : b.slots ≡ set (slots_at bs home) c.in-Some.i (slot_of (hash_of k) (length keys)) =
    ap (λ ss. set ss c.in-Some.i (slot_of c.key_hash-hash.result c.in-Ok.short)) (slots_read bs home old within) ∙
    (ap (λ h. set (slots_at bs home) c.in-Some.i (slot_of h c.in-Ok.short)) c.key_hash-hash.ensures ∙ ap (λ p. set (slots_at bs home) c.in-Some.i (slot_of (hash_of k) p)) place) in
    let free : IsFree c.in-Some.i (slots_at bs home) = subst (IsFree c.in-Some.i) (ap (λ (x : Bucket). x.slots) c.index.ensures ∙ slots_read bs home old within) c.in-Some.ensures.1 in
    table_put c.args.self.now _ keys k home c.in-Some.i b h l at within slots free (c.put_slot.ensures old) refl

pub returns-in-None-clause-ok : goal.returns-in-None-clause-ok
returns-in-None-clause-ok c =
    on_ok_weaker c.note_place.result
    (λ ok keys h l n. table_crowd c.args.self.now _ keys c.args.key.now h l refl (λ q. ok q ∙ ap (λ p. if bytes_eq c.args.key.now q then Some p else noted c.args.self.now.crowded q) (sym n))) c.note_place.ensures.ok
