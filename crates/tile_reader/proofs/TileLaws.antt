-- Proofs of the laws.
use Rattle.std.proofs.Common.{◌≡◌, ℕ, zero, suc, ◌<◌, ◌≤◌, inl, inr, List, [], ◌∷◌, refl, arith, length}
use Rattle.std.specs.Prelude.{Result, Ok, Err}
use Rattle.proto_wire.specs.declared.wire.WireKind.{WireKind}
use Rattle.proto_wire.specs.Message.{WireField, field_at}
use Rattle.proto_wire.specs.Reading.{AreFields}
use Rattle.proto_wire.proofs.MessageLaws.{field_takes}
use Rattle.tile_reader.specs.Message.{Message, from_front, fields_within, message}
use Rattle.tile_reader.specs.Laws.{MessagesAreCut, KeysDiffer}
use Rattle.tile_reader.proofs.Pairs.{distinct_all}

cut_front : (at : ℕ) (b : List ℕ) (others : WireField → List ℕ → Message) (read : Result (WireField × List ℕ) WireKind) → 0 < length b → field_at at b ≡ read → ((field : WireField) (rest : List ℕ) → length rest < length b → AreFields field.end rest (others field rest).fields (others field rest).fault) → AreFields at b (from_front at read others).fields (from_front at read others).fault
cut_front at b others (Err kind) some e cut = inr (kind, some, e, refl)
cut_front at b others (Ok (field, rest)) some e cut = (rest, e, cut field rest (field_takes at b field rest e))

cut_within : (most at : ℕ) (b : List ℕ) → length b ≤ most → AreFields at b (fields_within most at b).fields (fields_within most at b).fault
cut_within zero at [] short = inl (refl, refl)
cut_within (suc most) at [] short = inl (refl, refl)
cut_within zero at (c ∷ b) short = absurd (omega arith)
cut_within (suc most) at (c ∷ b) short =
    cut_front at (c ∷ b) (λ field rest. fields_within most field.end rest) (field_at at (c ∷ b)) (omega arith) refl (λ field rest fewer. cut_within most field.end rest (omega arith))

pub messages_are_cut : MessagesAreCut
unfolding message
messages_are_cut at b = cut_within (length b) at b (omega arith)

pub keys_differ : KeysDiffer
keys_differ pairs = distinct_all [] pairs tt
