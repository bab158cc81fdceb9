-- The parts of a tile whose reading ends with a fault, and what is before it.
use Rattle.std.proofs.Common.{◌≡◌, ◌≢◌, ℕ, inl, inr, List, [], ◌∷◌, ◌++◌, refl, ap, ◌∙◌, subst, Bool, true, false}
use Rattle.std.specs.Prelude.{◌⊎◌, Option, Some, None, Result, Ok, Err, if◌then◌else◌}
use Rattle.std.specs.Str.{is_utf8}
use Rattle.proto_wire.specs.declared.field.WireFault.{WireFault}
use Rattle.proto_wire.specs.Message.{Payload, varint, bits64, bytes, bits32, WireField}
use Rattle.proto_wire.specs.Reading.{AreFields}
use Rattle.tile_reader.specs.declared.fault.TileKind.TheVariants as kind
use Rattle.tile_reader.specs.declared.fault.TileFault.{TileFault}
use Rattle.tile_reader.specs.Message.{Message, message}
use Rattle.tile_reader.specs.Read.{refused, broken, ◌then◌, along, read_fields, number_in, bytes_in, bits64_in, bits32_in, text_of}
use Rattle.tile_reader.specs.FirstFault.{IsAt, FirstIn}
use Rattle.tile_reader.proofs.TileLaws.{messages_are_cut}

-- the first part has the fault, or what comes after it
pub then_err : {A B : Type 0} (read : Result A TileFault) (next : A → Result B TileFault) (fault : TileFault) → (read then next) ≡ Err fault → (read ≡ Err fault) ⊎ ((x : A) × (read ≡ Ok x) × (next x ≡ Err fault))
then_err (Ok x) next fault e = inr (x, refl, e)
then_err {A} (Err other) next fault e = let same : other ≡ fault = cc in inl (ap (λ (f : TileFault). Err f) same)

pub number_err : (at : ℕ) (payload : Payload) (fault : TileFault) → number_in at payload ≡ Err fault → ((n : ℕ) → payload ≢ varint n) × IsAt kind.FieldType at fault
number_err at (varint m) fault e = absurd (cc)
number_err at (bits64 m) fault e = (λ n q. cc, cc)
number_err at (bytes b) fault e = (λ n q. cc, cc)
number_err at (bits32 m) fault e = (λ n q. cc, cc)

pub bytes_err : (at : ℕ) (payload : Payload) (fault : TileFault) → bytes_in at payload ≡ Err fault → ((b : List ℕ) → payload ≢ bytes b) × IsAt kind.FieldType at fault
bytes_err at (varint m) fault e = (λ n q. cc, cc)
bytes_err at (bits64 m) fault e = (λ n q. cc, cc)
bytes_err at (bytes b) fault e = absurd (cc)
bytes_err at (bits32 m) fault e = (λ n q. cc, cc)

pub bits64_err : (at : ℕ) (payload : Payload) (fault : TileFault) → bits64_in at payload ≡ Err fault → ((n : ℕ) → payload ≢ bits64 n) × IsAt kind.FieldType at fault
bits64_err at (varint m) fault e = (λ n q. cc, cc)
bits64_err at (bits64 m) fault e = absurd (cc)
bits64_err at (bytes b) fault e = (λ n q. cc, cc)
bits64_err at (bits32 m) fault e = (λ n q. cc, cc)

pub bits32_err : (at : ℕ) (payload : Payload) (fault : TileFault) → bits32_in at payload ≡ Err fault → ((n : ℕ) → payload ≢ bits32 n) × IsAt kind.FieldType at fault
bits32_err at (varint m) fault e = (λ n q. cc, cc)
bits32_err at (bits64 m) fault e = (λ n q. cc, cc)
bits32_err at (bytes b) fault e = (λ n q. cc, cc)
bits32_err at (bits32 m) fault e = absurd (cc)

pub bits64_ok : (at : ℕ) (payload : Payload) (n : ℕ) → bits64_in at payload ≡ Ok n → payload ≡ bits64 n
bits64_ok at (varint m) n e = absurd (cc)
bits64_ok at (bits64 m) n e = let same : m ≡ n = cc in ap bits64 same
bits64_ok at (bytes b) n e = absurd (cc)
bits64_ok at (bits32 m) n e = absurd (cc)

pub bits32_ok : (at : ℕ) (payload : Payload) (n : ℕ) → bits32_in at payload ≡ Ok n → payload ≡ bits32 n
bits32_ok at (varint m) n e = absurd (cc)
bits32_ok at (bits64 m) n e = absurd (cc)
bits32_ok at (bytes b) n e = absurd (cc)
bits32_ok at (bits32 m) n e = let same : m ≡ n = cc in ap bits32 same

utf8_at : (at : ℕ) (b : List ℕ) (fault : TileFault) (t : Bool) → is_utf8 b ≡ t → ◌≡◌ {A = Result (List ℕ) TileFault} (if t then Ok b else refused kind.Utf8 at) (Err fault) → (is_utf8 b ≡ false) × IsAt kind.Utf8 at fault
utf8_at at b fault true is e = absurd (cc)
utf8_at at b fault false is e = (is, cc)

pub utf8_err : (at : ℕ) (b : List ℕ) (fault : TileFault) → text_of at b ≡ Err fault → (is_utf8 b ≡ false) × IsAt kind.Utf8 at fault
utf8_err at b fault e = utf8_at at b fault (is_utf8 b) refl e

-- fields up to the first fault
abbrev Cut : {S : Type 0} → (S → WireField → Result S TileFault) → S → List WireField → Option WireFault → TileFault → Type 0
Cut {S} step s fields end fault =
    (before : List WireField) × (q : S) × (along step s before None ≡ Ok q)
    × (((wire : WireFault) × (fields ≡ before) × (end ≡ Some wire) × (fault ≡ broken wire))
    ⊎ ((field : WireField) × (after : List WireField) × (fields ≡ before ++ field ∷ after) × (step q field ≡ Err fault)))

cut_later : {S : Type 0} (step : S → WireField → Result S TileFault) (s next : S) (first : WireField) (fields : List WireField) (end : Option WireFault) (fault : TileFault) → step s first ≡ Ok next → Cut step next fields end fault → Cut step s (first ∷ fields) end fault
cut_later {S} step s next first fields end fault stepped (before, q, walked, inl (wire, same, ended, is)) =
    (first ∷ before, q, ap (λ (r : Result S TileFault). r then λ x. along step x before None) stepped ∙ walked, inl (wire, ap (λ (fs : List WireField). first ∷ fs) same, ended, is))
cut_later {S} step s next first fields end fault stepped (before, q, walked, inr (field, after, same, e)) =
    (first ∷ before, q, ap (λ (r : Result S TileFault). r then λ x. along step x before None) stepped ∙ walked, inr (field, after, ap (λ (fs : List WireField). first ∷ fs) same, e))

cut : {S : Type 0} (step : S → WireField → Result S TileFault) (s : S) (fields : List WireField) (end : Option WireFault) (fault : TileFault) → along step s fields end ≡ Err fault → Cut step s fields end fault
cut step s [] None fault e = absurd (cc)
cut step s [] (Some wire) fault e = ([], s, refl, inl (wire, refl, refl, cc))
cut {S} step s (field ∷ fields) end fault e = elim (then_err (step s field) (λ (next : S). along step next fields end) fault e) as (λ _. Cut step s (field ∷ fields) end fault) [
  | inl here ↦ ([], s, refl, inr (field, fields, refl, here))
  | inr later ↦ cut_later step s later.0 field fields end fault later.1 (cut step later.0 fields end fault later.2)
]

pub first_in : {S X : Type 0} (step : S → WireField → Result S TileFault) (s : S) (Held : List WireField → X → Type 0) (Breaks : X → WireField → TileFault → Type 0) (at : ℕ) (b : List ℕ) (fault : TileFault)
    → ((fields : List WireField) (q : S) → along step s fields None ≡ Ok q → (x : X) × Held fields x × ((field : WireField) (other : TileFault) → step q field ≡ Err other → Breaks x field other))
    → read_fields step s (message at b) ≡ Err fault → FirstIn Held Breaks at b fault
first_in step s Held Breaks at b fault held e =
    let m : Message = message at b in
    let (before, q, walked, next) = cut step s m.fields m.fault fault e in
    let (x, have, breaks) = held before q walked in (
      before,
      x,
      have,
      elim next as (λ _. ((wire : WireFault) × AreFields at b before (Some wire) × (fault ≡ broken wire)) ⊎ ((field : WireField) × (after : List WireField) × (end : Option WireFault) × AreFields at b (before ++ field ∷ after) end × Breaks x field fault)) [
        | inl w ↦ inl (w.0, subst (λ (fs : List WireField). AreFields at b fs (Some w.0)) w.1 (subst (AreFields at b m.fields) w.2 (messages_are_cut at b)), w.3)
        | inr f ↦ inr (f.0, f.1, m.fault, subst (λ (fs : List WireField). AreFields at b fs m.fault) f.2 (messages_are_cut at b), breaks f.0 fault f.3)
      ],
    )
