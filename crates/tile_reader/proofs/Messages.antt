-- The front of a message is a field, and what a loop over fields makes of it.
use Rattle.std.proofs.Common.{◌≡◌, ℕ, zero, suc, ◌<◌, ◌≤◌, false, List, [], ◌∷◌, refl, sym, ap, ◌∙◌, arith, length}
use Rattle.std.specs.Prelude.{Result, Ok, Err, Some, None}
use Rattle.proto_wire.specs.declared.wire.WireKind.{WireKind}
use Rattle.proto_wire.specs.declared.field.Field.{Field}
use Rattle.proto_wire.specs.declared.field.WireFault.{WireFault}
use Rattle.proto_wire.specs.Message.{WireField, field_at}
use Rattle.proto_wire.specs.View.{field_seen}
use Rattle.proto_wire.specs.Reading.{ReaderState, NextGives}
use Rattle.proto_wire.proofs.MessageLaws.{field_takes}
use Rattle.proto_wire.proofs.Walks.{over_at_end}
use Rattle.tile_reader.specs.declared.fault.TileFault.{TileFault}
use Rattle.tile_reader.specs.Message.{Message, no_fields, broken_off, field_before, from_front, fields_within, message}
use Rattle.tile_reader.specs.Read.{broken, ◌then◌, read_fields}
use Rattle.tile_reader.specs.View.{left_of}

-- what comes after the front is asked of fewer bytes alone
same_front : (at : ℕ) (b : List ℕ) (F G : WireField → List ℕ → Message) (read : Result (WireField × List ℕ) WireKind) → field_at at b ≡ read → ((field : WireField) (rest : List ℕ) → length rest < length b → F field rest ≡ G field rest) → from_front at read F ≡ from_front at read G
same_front at b F G (Err kind) e same = refl
same_front at b F G (Ok (field, rest)) e same = ap (field_before field) (same field rest (field_takes at b field rest e))

-- more than the bytes is as many as the bytes
enough : (n m at : ℕ) (b : List ℕ) → length b ≤ n → length b ≤ m → fields_within n at b ≡ fields_within m at b
enough zero zero at [] p q = refl
enough zero (suc m) at [] p q = refl
enough (suc n) zero at [] p q = refl
enough (suc n) (suc m) at [] p q = refl
enough zero m at (c ∷ b) p q = absurd (omega arith)
enough (suc n) zero at (c ∷ b) p q = absurd (omega arith)
enough (suc n) (suc m) at (c ∷ b) p q =
    same_front at (c ∷ b) (λ field rest. fields_within n field.end rest) (λ field rest. fields_within m field.end rest) (field_at at (c ∷ b)) refl
    (λ field rest fewer. enough n m field.end rest (omega arith) (omega arith))

pub message_end : (at : ℕ) (b : List ℕ) → b ≡ [] → message at b ≡ no_fields
unfolding message
message_end at [] e = refl
message_end at (c ∷ b) e = absurd (cc)

message_front : (at : ℕ) (b : List ℕ) → 0 < length b → message at b ≡ from_front at (field_at at b) (λ field rest. message field.end rest)
unfolding message
message_front at [] some = absurd (omega arith)
message_front at (c ∷ b) some =
    same_front at (c ∷ b) (λ field rest. fields_within (length b) field.end rest) (λ field rest. fields_within (length rest) field.end rest) (field_at at (c ∷ b)) refl
    (λ field rest fewer. enough (length b) (length rest) field.end rest (omega arith) (omega arith))

pub message_field : (at : ℕ) (b : List ℕ) (field : WireField) (rest : List ℕ) → field_at at b ≡ Ok (field, rest) → message at b ≡ field_before field (message field.end rest)
message_field at b field rest e =
    let fewer : length rest < length b = field_takes at b field rest e in
    message_front at b (omega arith) ∙ ap (λ (read : Result (WireField × List ℕ) WireKind). from_front at read (λ f r. message f.end r)) e

pub message_fault : (at : ℕ) (b : List ℕ) (kind : WireKind) → 0 < length b → field_at at b ≡ Err kind → message at b ≡ broken_off (record { kind = kind; at = at })
message_fault at b kind some e = message_front at b some ∙ ap (λ (read : Result (WireField × List ℕ) WireKind). from_front at read (λ f r. message f.end r)) e

-- what `next` gives is the front of what was left
pub front_end : (old new : ReaderState) → old.failed ≡ false → NextGives old None new → left_of old ≡ no_fields
front_end old new going gives = message_end old.at old.bytes (over_at_end old going gives.1)

pub front_field : (old new : ReaderState) (field : Field) → NextGives old (Some (Ok field)) new → left_of old ≡ field_before (field_seen field new.at) (left_of new)
front_field old new field gives = message_field old.at old.bytes (field_seen field new.at) new.bytes gives.1

pub front_fault : (old new : ReaderState) (fault : WireFault) → NextGives old (Some (Err fault)) new → left_of old ≡ broken_off fault
front_fault old new fault gives =
    message_fault old.at old.bytes fault.kind gives.1 gives.2 ∙ ap (λ (n : ℕ). broken_off (record { kind = fault.kind; at = n })) (sym gives.3)

-- One turn of a loop over fields, where `read` is what all fields make of the first state: one more field,
pub reads_more : {S : Type 0} (step : S → WireField → Result S TileFault) (s next : S) (field : WireField) (m others : Message) (read : Result S TileFault) → m ≡ field_before field others → step s field ≡ Ok next → read_fields step s m ≡ read → read_fields step next others ≡ read
reads_more {S} step s next field m others read front stepped e =
    sym (ap (λ (m : Message). read_fields step s m) front ∙ ap (λ (r : Result S TileFault). r then λ x. read_fields step x others) stepped) ∙ e

-- a field that is refused,
pub reads_refused : {S : Type 0} (step : S → WireField → Result S TileFault) (s : S) (field : WireField) (m others : Message) (fault : TileFault) (read : Result S TileFault) → m ≡ field_before field others → step s field ≡ Err fault → read_fields step s m ≡ read → read ≡ Err fault
reads_refused {S} step s field m others fault read front stepped e =
    sym e ∙ ap (λ (m : Message). read_fields step s m) front ∙ ap (λ (r : Result S TileFault). r then λ x. read_fields step x others) stepped

-- the end,
pub reads_end : {S : Type 0} (step : S → WireField → Result S TileFault) (s : S) (m : Message) (read : Result S TileFault) → m ≡ no_fields → read_fields step s m ≡ read → read ≡ Ok s
reads_end step s m read front e = sym e ∙ ap (λ (m : Message). read_fields step s m) front

-- and bytes that are no field
pub reads_broken : {S : Type 0} (step : S → WireField → Result S TileFault) (s : S) (m : Message) (fault : TileFault) (read : Result S TileFault) → ((wire : WireFault) × (m ≡ broken_off wire) × (fault ≡ broken wire)) → read_fields step s m ≡ read → read ≡ Err fault
reads_broken {S} step s m fault read (wire, front, is) e =
    sym e ∙ ap (λ (m : Message). read_fields step s m) front ∙ ap (λ (f : TileFault). Err f) (sym is)

-- where a part is refused, so is the whole
pub then_refused : {A B : Type 0} (read : Result A TileFault) (next : A → Result B TileFault) (fault : TileFault) → read ≡ Err fault → (read then next) ≡ Err fault
then_refused {A} read next fault e = ap (λ (r : Result A TileFault). r then next) e

pub then_goes_on : {A B : Type 0} (read : Result A TileFault) (next : A → Result B TileFault) (x : A) → read ≡ Ok x → (read then next) ≡ next x
then_goes_on {A} read next x e = ap (λ (r : Result A TileFault). r then next) e
