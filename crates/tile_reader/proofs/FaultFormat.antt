-- The fault that is read is the first one.
use Rattle.std.proofs.Common.{◌≡◌, ◌≢◌, ℕ, zero, suc, ◌≤◌, inl, inr, List, [], ◌∷◌, ◌++◌, refl, sym, ap, ◌∙◌, arith, length, false}
use Rattle.std.specs.Prelude.{◌⊎◌, pos, not, Option, Some, None, Result, Ok, Err, if◌then◌else◌, nat_eq}
use Rattle.std.proofs.lemmas.List.{length-append}
use Rattle.std.proofs.lemmas.Bool.Decides.{nat_tests}
use Rattle.proto_wire.specs.declared.wire.WireKind.{WireKind}
use Rattle.proto_wire.specs.Varint.{varint_at}
use Rattle.proto_wire.specs.Message.{Payload, varint, bits64, bytes, bits32, WireField, content_start}
use Rattle.proto_wire.proofs.VarintLaws.{varint_front}
use Rattle.prop_values.specs.Data.{Data}
use Rattle.prop_values.specs.Data as held
use Rattle.tile_reader.specs.declared.fault.TileKind.TheVariants as kind
use Rattle.tile_reader.specs.declared.fault.TileFault.{TileFault}
use Rattle.tile_reader.specs.declared.tile.Shape as shape
use Rattle.tile_reader.specs.declared.value.ValueMember.{ValueMember}
use Rattle.tile_reader.specs.declared.value.ValueMember.TheVariants.{String, Float, Double, Int, Uint, Sint, Flag, Unknown}
use Rattle.tile_reader.specs.declared.feature.FeatureMember.{FeatureMember}
use Rattle.tile_reader.specs.Message.{message}
use Rattle.tile_reader.specs.Read.{refused, ◌then◌, read_fields, number_in, bytes_in, bits64_in, bits32_in, text_of}
use Rattle.tile_reader.specs.Value.{value_member, value_field, value_step, value_end, value_at, first_field, whole, from_int, from_zigzag}
use Rattle.tile_reader.specs.Feature.{Tagged, feature_field, feature_step, feature_at, untagged, tags_in, geometry_in, shape_of, packed, placed, number_before, number_after}
use Rattle.tile_reader.specs.Format.{IsNumber}
use Rattle.tile_reader.specs.FirstFault.{IsAt, BreaksNumber, HaveSaid, IsSecond, BreaksSaying, BreaksValue, BreaksPacked, BreaksFeatureField, FeatureSoFar, AreSoFar, BreaksFeature}
use Rattle.tile_reader.proofs.Packed.{packed_end, packed_front}
use Rattle.tile_reader.proofs.Parts.{number_ok, bytes_ok, message_ok, by_number}
use Rattle.tile_reader.proofs.ValueFormat as value_format
use Rattle.tile_reader.proofs.ValueFormat.{read_value, fields_ok, none_ok}
use Rattle.tile_reader.proofs.FeatureFormat as feature_format
use Rattle.tile_reader.proofs.FeatureFormat.{read_tagged, fields_are}
use Rattle.tile_reader.proofs.FaultParts.{then_err, number_err, bytes_err, bits64_err, bits32_err, bits64_ok, bits32_ok, utf8_err, first_in}

-- a field of a value
second_err : (at : ℕ) (before : Option Data) (fault : TileFault) → first_field at before ≡ Err fault → ((value : Data) × (before ≡ Some value)) × IsAt kind.ValueKind at fault
second_err at None fault e = absurd (cc)
second_err at (Some value) fault e = ((value, refl), cc)

first_none : (at : ℕ) (before : Option Data) (u : Unit {0}) → first_field at before ≡ Ok u → before ≡ None
first_none at None u e = refl
first_none at (Some value) u e = absurd (cc)

saying_number : (field : WireField) (before : Option Data) (made : ℕ → Option Data) (fault : TileFault) → (number_in field.at field.payload then λ n. first_field field.at before then λ _. Ok (made n)) ≡ Err fault → BreaksNumber field fault ⊎ ((n : ℕ) × IsNumber field n × IsSecond before field fault)
saying_number field before made fault e = elim (then_err (number_in field.at field.payload) (λ (n : ℕ). first_field field.at before then λ _. Ok (made n)) fault e) as (λ _. BreaksNumber field fault ⊎ ((n : ℕ) × IsNumber field n × IsSecond before field fault)) [
  | inl here ↦ inl (number_err field.at field.payload fault here)
  | inr later ↦ elim (then_err (first_field field.at before) (λ (_ : Unit {0}). Ok (made later.0)) fault later.2) as (λ _. BreaksNumber field fault ⊎ ((n : ℕ) × IsNumber field n × IsSecond before field fault)) [
    | inl second ↦ inr (later.0, number_ok field.at field.payload later.0 later.1, second_err field.at before fault second)
    | inr none ↦ absurd (cc (none.2))
  ]
]

saying_text : (field : WireField) (before : Option Data) (fault : TileFault) → value_field String before field ≡ Err fault → BreaksSaying String before field fault
saying_text field before fault e = elim (then_err (bytes_in field.at field.payload) (λ (b : List ℕ). first_field field.at before then λ _. text_of field.at b then λ s. Ok (Some (held.text s))) fault e) as (λ _. BreaksSaying String before field fault) [
  | inl here ↦ inl (bytes_err field.at field.payload fault here)
  | inr later ↦ elim (then_err (first_field field.at before) (λ (_ : Unit {0}). text_of field.at later.0 then λ s. Ok (Some (held.text s))) fault later.2) as (λ _. BreaksSaying String before field fault) [
    | inl second ↦ inr (later.0, bytes_ok field.at field.payload later.0 later.1, inl (second_err field.at before fault second))
    | inr text ↦ elim (then_err (text_of field.at later.0) (λ (s : List ℕ). Ok (Some (held.text s))) fault text.2) as (λ _. BreaksSaying String before field fault) [
      | inl no_text ↦ let bad = utf8_err field.at later.0 fault no_text in inr (later.0, bytes_ok field.at field.payload later.0 later.1, inr (first_none field.at before text.0 text.1, bad.0, bad.1))
      | inr none ↦ absurd (cc (none.2))
    ]
  ]
]

saying : (member : ValueMember) (before : Option Data) (field : WireField) (fault : TileFault) → value_field member before field ≡ Err fault → BreaksSaying member before field fault
saying String before field fault e = saying_text field before fault e
saying Float before field fault e = elim (then_err (bits32_in field.at field.payload) (λ (_ : ℕ). refused {A = Option Data} kind.FloatValue field.at) fault e) as (λ _. BreaksSaying Float before field fault) [
  | inl here ↦ inl (bits32_err field.at field.payload fault here)
  | inr later ↦ inr (later.0, bits32_ok field.at field.payload later.0 later.1, cc (later.2))
]
saying Double before field fault e = elim (then_err (bits64_in field.at field.payload) (λ (_ : ℕ). refused {A = Option Data} kind.FloatValue field.at) fault e) as (λ _. BreaksSaying Double before field fault) [
  | inl here ↦ inl (bits64_err field.at field.payload fault here)
  | inr later ↦ inr (later.0, bits64_ok field.at field.payload later.0 later.1, cc (later.2))
]
saying Int before field fault e = saying_number field before (λ n. Some (whole (from_int n))) fault e
saying Uint before field fault e = saying_number field before (λ n. Some (whole (pos n))) fault e
saying Sint before field fault e = saying_number field before (λ n. Some (whole (from_zigzag n))) fault e
saying Flag before field fault e = saying_number field before (λ n. Some (held.boolean (not (nat_eq n 0)))) fault e
saying Unknown before field fault e = absurd (cc)

said_so_far : (fields : List WireField) (o : Option Data) → value_format.rest_of None fields ≡ Ok o → HaveSaid fields o
said_so_far fields None e = none_ok fields e
said_so_far fields (Some value) e = fields_ok fields value e

end_err : (at : ℕ) (o : Option Data) (fault : TileFault) → value_end at o ≡ Err fault → (o ≡ None) × IsAt kind.ValueKind at fault
end_err at None fault e = (refl, cc)
end_err at (Some value) fault e = absurd (cc)

abbrev SaidNext : Option Data → WireField → TileFault → Type 0
SaidNext said inner other = BreaksSaying (value_member inner.number) said inner other

pub value_err : (field : WireField) (fault : TileFault) → read_value field ≡ Err fault → BreaksValue field fault
value_err field fault e = elim (then_err (bytes_in field.at field.payload) (λ (b : List ℕ). value_at field.at (content_start field) b) fault e) as (λ _. BreaksValue field fault) [
  | inl here ↦ inl (bytes_err field.at field.payload fault here)
  | inr later ↦ elim (then_err (read_fields value_step None (message (content_start field) later.0)) (value_end field.at) fault later.2) as (λ _. BreaksValue field fault) [
    | inl inside ↦ inr (inl (
      later.0,
      bytes_ok field.at field.payload later.0 later.1,
      first_in value_step None HaveSaid SaidNext (content_start field) later.0 fault (λ fields q walked. (q, said_so_far fields q walked, λ inner other. saying (value_member inner.number) q inner other)) inside,
    ))
    | inr ended ↦
        let (none, is) = end_err field.at ended.0 fault ended.2 in
        let (fields, are, walked) = message_ok value_step None ended.0 (content_start field) later.0 ended.1 in
        inr (inr (fields, (later.0, bytes_ok field.at field.payload later.0 later.1, are), none_ok fields (walked ∙ ap (λ (o : Option Data). Ok o) none), is))
  ]
]

-- packed numbers of which one is broken
after_err : (n : ℕ) (others : Result (List ℕ) WireKind) (wire : WireKind) → number_after n others ≡ Err wire → others ≡ Err wire
after_err n (Ok ns) wire e = absurd (cc)
after_err n (Err other) wire e = let same : other ≡ wire = cc in ap (λ (k : WireKind). Err k) same

packed_step : (most : ℕ) (b : List ℕ) (read : Result (ℕ × List ℕ) WireKind) (wire : WireKind) → b ≢ [] → varint_at b ≡ read → length b ≤ suc most → number_before read packed ≡ Err wire → ((rest : List ℕ) → length rest ≤ most → packed rest ≡ Err wire → (ns : List ℕ) × BreaksPacked rest ns wire) → (ns : List ℕ) × BreaksPacked b ns wire
packed_step most b (Err other) wire more is short e later = let same : other ≡ wire = cc in ([], (more, is ∙ ap (λ (k : WireKind). Err k) same))
packed_step most b (Ok (n, rest)) wire more is short e later =
    let (spelling, cut_here, some) = varint_front b n rest is in
    let long = length-append spelling rest in
    let (ns, breaks) = later rest (omega (arith, ap length cut_here)) (after_err n (packed rest) wire e) in
    (n ∷ ns, (rest, is, breaks))

packed_within : (most : ℕ) (b : List ℕ) (wire : WireKind) → length b ≤ most → packed b ≡ Err wire → (ns : List ℕ) × BreaksPacked b ns wire
packed_within most [] wire short e = let none = packed_end [] refl in absurd (cc)
packed_within zero (c ∷ b) wire short e = absurd (omega arith)
packed_within (suc most) (c ∷ b) wire short e =
    packed_step most (c ∷ b) (varint_at (c ∷ b)) wire (λ q. cc) refl short (sym (packed_front (c ∷ b) (omega arith)) ∙ e) (λ rest fewer. packed_within most rest wire fewer)

-- a field of a feature
placed_err : (at : ℕ) (read : Result (List ℕ) WireKind) (fault : TileFault) → placed at read ≡ Err fault → (wire : WireKind) × (read ≡ Err wire) × IsAt (kind.Wire wire) at fault
placed_err at (Ok ns) fault e = absurd (cc)
placed_err at (Err wire) fault e = (wire, refl, cc)

abbrev BreaksTagField : ℕ → Payload → TileFault → Type 0
BreaksTagField at payload fault =
    (((n : ℕ) → payload ≢ varint n) × ((b : List ℕ) → payload ≢ bytes b) × IsAt kind.FieldType at fault)
    ⊎ ((content : List ℕ) × (payload ≡ bytes content) × (ns : List ℕ) × (wire : WireKind) × BreaksPacked content ns wire × IsAt (kind.Wire wire) at fault)

tags_err : (at : ℕ) (payload : Payload) (fault : TileFault) → tags_in at payload ≡ Err fault → BreaksTagField at payload fault
tags_err at (varint n) fault e = absurd (cc)
tags_err at (bits64 n) fault e = inl (λ m q. cc, λ b q. cc, cc)
tags_err at (bytes content) fault e =
    let (wire, broken_there, is) = placed_err at (packed content) fault e in
    let (ns, breaks) = packed_within (length content) content wire (omega arith) broken_there in
    inr (content, refl, ns, wire, breaks, is)
tags_err at (bits32 n) fault e = inl (λ m q. cc, λ b q. cc, cc)

geometry_err : (at : ℕ) (payload : Payload) (fault : TileFault) → geometry_in at payload ≡ Err fault → ((n : ℕ) → payload ≢ varint n) × ((b : List ℕ) → payload ≢ bytes b) × IsAt kind.FieldType at fault
geometry_err at (varint n) fault e = absurd (cc)
geometry_err at (bits64 n) fault e = (λ m q. cc, λ b q. cc, cc)
geometry_err at (bytes content) fault e = absurd (cc)
geometry_err at (bits32 n) fault e = (λ m q. cc, λ b q. cc, cc)

above_three : (n : ℕ) → nat_eq n 0 ≡ false → nat_eq n 1 ≡ false → nat_eq n 2 ≡ false → nat_eq n 3 ≡ false → 4 ≤ n
above_three n d0 d1 d2 d3 = grind (arith, nat_tests)

shape_err : (at n : ℕ) (fault : TileFault) → shape_of at n ≡ Err fault → (4 ≤ n) × IsAt kind.GeometryType at fault
shape_err at n fault e =
    let P : ℕ → Type 0 = λ n. shape_of at n ≡ Err fault → (4 ≤ n) × IsAt kind.GeometryType at fault in
    by_number P n 0 (λ e. absurd (cc)) (λ d0. by_number P n 1 (λ e. absurd (cc)) (λ d1. by_number P n 2 (λ e. absurd (cc)) (λ d2. by_number P n 3 (λ e. absurd (cc)) (λ d3.
    λ e. let is : shape_of at n ≡ refused kind.GeometryType at = rw d0 (rw d1 (rw d2 (rw d3 refl))) in (above_three n d0 d1 d2 d3, cc))))) e

abbrev FeatureNext : Tagged → WireField → TileFault → ℕ → Type 0
FeatureNext q field fault n = feature_step q (feature_format.at_number field n) ≡ Err fault → BreaksFeatureField (feature_format.at_number field n) fault

feature_1 : (q : Tagged) (field : WireField) (fault : TileFault) → FeatureNext q field fault 1
feature_1 q field fault e = elim (then_err (number_in field.at field.payload) (λ (n : ℕ). Ok (record q { id = Some n })) fault e) as (λ _. BreaksFeatureField (feature_format.at_number field 1) fault) [
  | inl here ↦ inl (refl, number_err field.at field.payload fault here)
  | inr later ↦ absurd (cc (later.2))
]

feature_2 : (q : Tagged) (field : WireField) (fault : TileFault) → FeatureNext q field fault 2
feature_2 q field fault e = elim (then_err (tags_in field.at field.payload) (λ (ns : List ℕ). Ok (record q { tags = q.tags ++ ns })) fault e) as (λ _. BreaksFeatureField (feature_format.at_number field 2) fault) [
  | inl here ↦ inr (inl (refl, tags_err field.at field.payload fault here))
  | inr later ↦ absurd (cc (later.2))
]

feature_3 : (q : Tagged) (field : WireField) (fault : TileFault) → FeatureNext q field fault 3
feature_3 q field fault e = elim (then_err (number_in field.at field.payload) (λ (n : ℕ). shape_of field.at n then λ k. Ok (record q { shape = k })) fault e) as (λ _. BreaksFeatureField (feature_format.at_number field 3) fault) [
  | inl here ↦ inr (inr (inl (refl, inl (number_err field.at field.payload fault here))))
  | inr later ↦ elim (then_err (shape_of field.at later.0) (λ (k : shape.Shape). Ok (record q { shape = k })) fault later.2) as (λ _. BreaksFeatureField (feature_format.at_number field 3) fault) [
    | inl above ↦ inr (inr (inl (refl, inr (later.0, number_ok field.at field.payload later.0 later.1, (shape_err field.at later.0 fault above).0, (shape_err field.at later.0 fault above).1))))
    | inr none ↦ absurd (cc (none.2))
  ]
]

feature_4 : (q : Tagged) (field : WireField) (fault : TileFault) → FeatureNext q field fault 4
feature_4 q field fault e = elim (then_err (geometry_in field.at field.payload) (λ (_ : Unit {0}). Ok q) fault e) as (λ _. BreaksFeatureField (feature_format.at_number field 4) fault) [
  | inl here ↦ let bad = geometry_err field.at field.payload fault here in inr (inr (inr (refl, bad.0, bad.1, bad.2)))
  | inr later ↦ absurd (cc (later.2))
]

feature_other : (q : Tagged) (field : WireField) (fault : TileFault) → nat_eq field.number 1 ≡ false → nat_eq field.number 2 ≡ false → nat_eq field.number 3 ≡ false → nat_eq field.number 4 ≡ false → FeatureNext q field fault field.number
feature_other q field fault d1 d2 d3 d4 e =
    let passes : feature_step q field ≡ Ok q = ap (λ (m : FeatureMember). feature_field m q field) (feature_format.other_member field.number d1 d2 d3 d4) in absurd (cc)

feature_next : (q : Tagged) (field : WireField) (fault : TileFault) → feature_step q field ≡ Err fault → BreaksFeatureField field fault
feature_next q field fault e =
    by_number (FeatureNext q field fault) field.number 1 (feature_1 q field fault) (λ d1.
    by_number (FeatureNext q field fault) field.number 2 (feature_2 q field fault) (λ d2.
    by_number (FeatureNext q field fault) field.number 3 (feature_3 q field fault) (λ d3.
    by_number (FeatureNext q field fault) field.number 4 (feature_4 q field fault) (λ d4.
    feature_other q field fault d1 d2 d3 d4)))) e

abbrev so_far : Tagged → FeatureSoFar
so_far q = record { id = q.id; kind = q.shape; tags = q.tags }

pub feature_err : (field : WireField) (fault : TileFault) → read_tagged field ≡ Err fault → BreaksFeature field fault
feature_err field fault e = elim (then_err (bytes_in field.at field.payload) (λ (b : List ℕ). feature_at field.at (content_start field) b) fault e) as (λ _. BreaksFeature field fault) [
  | inl here ↦ inl (bytes_err field.at field.payload fault here)
  | inr later ↦ inr (
    later.0,
    bytes_ok field.at field.payload later.0 later.1,
    first_in feature_step (untagged field.at) AreSoFar (λ _ inner other. BreaksFeatureField inner other) (content_start field) later.0 fault (λ fields q walked. (so_far q, (fields_are field.at fields q walked).0, λ inner other. feature_next q inner other)) later.2,
  )
]
