-- The places of the fields of a message, and that bytes have one list of them.
use Rattle.std.proofs.Common.{◌≡◌, ℕ, zero, suc, ◌+◌, ◌-◌, ◌<◌, ◌≤◌, inl, inr, List, [], ◌∷◌, ◌++◌, refl, sym, ap, ◌∙◌, subst, arith, true, false, length, take, drop, append_assoc, Bool}
use Rattle.std.specs.Prelude.{Result, Ok, Err, Option, Some, None, nat_le, if◌then◌else◌}
use Rattle.std.specs.Int.{w32, w64, from_le_bytes}
use Rattle.std.proofs.lemmas.List.{length-append, take-append-drop}
use Rattle.proto_wire.specs.declared.wire.WireKind.{WireKind}
use Rattle.proto_wire.specs.declared.wire.WireKind.TheVariants as kind
use Rattle.proto_wire.specs.declared.field.WireType.{WireType}
use Rattle.proto_wire.specs.declared.field.WireType.TheVariants as wire
use Rattle.proto_wire.specs.declared.field.WireFault.{WireFault}
use Rattle.proto_wire.specs.Varint.{varint_at}
use Rattle.proto_wire.specs.Message.{Payload, varint, bits64, bytes, bits32, WireField, content_of, ◌then◌, front_of, tag_of, tag_at, payload_at, field_at}
use Rattle.proto_wire.specs.Reading.{AreFields}
use Rattle.proto_wire.specs.Laws.{Stands, FieldsStand, SomeFields, NoOtherFields}
use Rattle.proto_wire.proofs.VarintLaws.{varint_front}

-- what a reading gives, where it gives something
abbrev IfRead : {A : Type 0} → (A → List ℕ → Type 0) → Result (A × List ℕ) WireKind → Type 0
IfRead P (Ok (x, rest)) = P x rest
IfRead P (Err k) = Unit {0}

if_read : {A : Type 0} (P : A → List ℕ → Type 0) (read : Result (A × List ℕ) WireKind) → ((x : A) (rest : List ℕ) → read ≡ Ok (x, rest) → P x rest) → IfRead P read
if_read P (Ok (x, rest)) holds = holds x rest refl
if_read P (Err k) holds = tt

if_both : {A B : Type 0} (P : A → List ℕ → Type 0) (Q : B → List ℕ → Type 0) (first : Result (A × List ℕ) WireKind) (next : A × List ℕ → Result (B × List ℕ) WireKind) → IfRead P first → ((x : A) (rest : List ℕ) → P x rest → IfRead Q (next (x, rest))) → IfRead Q (first then next)
if_both P Q (Ok (x, rest)) next holds after = after x rest holds
if_both P Q (Err k) next holds after = tt

if_known : {A B : Type 0} (Q : B → List ℕ → Type 0) (known : Result A WireKind) (next : A → Result (B × List ℕ) WireKind) → ((x : A) → IfRead Q (next x)) → IfRead Q (known then next)
if_known Q (Ok x) next after = after x
if_known Q (Err k) next after = tt

-- a part of at least one byte is before the rest
abbrev Front : List ℕ → List ℕ → Type 0
Front b rest = (front : List ℕ) × (b ≡ front ++ rest) × (0 < length front)

if_varint : (b : List ℕ) → IfRead (λ n rest. Front b rest) (varint_at b)
if_varint b = if_read (λ n rest. Front b rest) (varint_at b) (varint_front b)

cut_where : (b : List ℕ) (n : ℕ) (long : Bool) → IfRead (λ front rest. b ≡ front ++ rest) (if long then Ok (take n b, drop n b) else Err kind.Truncated)
cut_where b n true = sym (take-append-drop n b)
cut_where b n false = tt

if_front : (n : ℕ) (b : List ℕ) → IfRead (λ front rest. b ≡ front ++ rest) (front_of n b)
if_front n b = cut_where b n (nat_le n (length b))

if_tag : (b : List ℕ) → IfRead (λ tag rest. Front b rest) (tag_at b)
unfolding tag_at
if_tag b =
    if_both (λ n rest. Front b rest) (λ tag rest. Front b rest) (varint_at b) (λ read. tag_of read.0 then λ tag. Ok (tag, read.1)) (if_varint b)
    (λ n rest front. if_known (λ tag rest. Front b rest) (tag_of n) (λ tag. Ok (tag, rest)) (λ tag. front))

-- the content, if any, is right before the rest
abbrev EndsWithContent : List ℕ → Payload → List ℕ → Type 0
EndsWithContent b held rest = (front : List ℕ) × (b ≡ front ++ (content_of held ++ rest))

if_payload : (type : WireType) (b : List ℕ) → IfRead (EndsWithContent b) (payload_at type b)
unfolding payload_at
if_payload wire.Varint b =
    if_both (λ n rest. Front b rest) (EndsWithContent b) (varint_at b) (λ read. Ok (varint read.0, read.1)) (if_varint b) (λ n rest front. (front.0, front.1))
if_payload wire.Bits64 b =
    if_both (λ front rest. b ≡ front ++ rest) (EndsWithContent b) (front_of 8 b) (λ read. Ok (bits64 (from_le_bytes w64 read.0), read.1)) (if_front 8 b) (λ front rest cut. (front, cut))
if_payload wire.Bytes b =
    if_both (λ n rest. Front b rest) (EndsWithContent b) (varint_at b) (λ count. front_of count.0 count.1 then λ read. Ok (bytes read.0, read.1)) (if_varint b)
    (λ n rest front. if_both (λ content after. rest ≡ content ++ after) (EndsWithContent b) (front_of n rest) (λ read. Ok (bytes read.0, read.1)) (if_front n rest)
    (λ content after cut. (front.0, front.1 ∙ ap (λ x. front.0 ++ x) cut)))
if_payload wire.Bits32 b =
    if_both (λ front rest. b ≡ front ++ rest) (EndsWithContent b) (front_of 4 b) (λ read. Ok (bits32 (from_le_bytes w32 read.0), read.1)) (if_front 4 b) (λ front rest cut. (front, cut))

-- the tag, then the payload, whose content is at its end
stands : (at number : ℕ) (b tag after front rest : List ℕ) (held : Payload) → b ≡ tag ++ after → 0 < length tag → after ≡ front ++ (content_of held ++ rest) → Stands at b (record { number = number; at = at; end = at + (length b - length rest); payload = held }) rest
stands at number b tag after front rest held first some second =
    let cut : b ≡ (tag ++ front) ++ (content_of held ++ rest) = first ∙ ap (λ x. tag ++ x) second ∙ sym (append_assoc tag front (content_of held ++ rest)) in
    let head : length (tag ++ front) ≡ length tag + length front = length-append tag front in
    let long : length b ≡ length (tag ++ front) + (length (content_of held) + length rest) = ap length cut ∙ length-append (tag ++ front) (content_of held ++ rest) ∙ ap (λ n. length (tag ++ front) + n) (length-append (content_of held) rest) in
    record { head = tag ++ front; cut = cut; some = omega arith; place = refl; start = omega arith; finish = omega arith }

if_field : (at : ℕ) (b : List ℕ) → IfRead (Stands at b) (field_at at b)
unfolding field_at
if_field at b =
    if_both (λ tag rest. Front b rest) (Stands at b) (tag_at b)
    (λ tag. payload_at tag.0.1 tag.1 then λ held. Ok (record { number = tag.0.0; at = at; end = at + (length b - length held.1); payload = held.0 }, held.1)) (if_tag b)
    (λ tag after before. if_both (EndsWithContent after) (Stands at b) (payload_at tag.1 after)
    (λ held. Ok (record { number = tag.0; at = at; end = at + (length b - length held.1); payload = held.0 }, held.1)) (if_payload tag.1 after)
    (λ held rest ends. stands at tag.0 b before.0 after ends.0 rest held before.1 before.2 ends.1))

pub fields_stand : FieldsStand
fields_stand at b field rest e = subst (IfRead (Stands at b)) e (if_field at b)

-- a field takes at least one byte
pub field_takes : (at : ℕ) (b : List ℕ) (field : WireField) (rest : List ℕ) → field_at at b ≡ Ok (field, rest) → length rest < length b
field_takes at b field rest e =
    let it : Stands at b field rest = fields_stand at b field rest e in
    omega (arith, ap length it.cut, length-append it.head (content_of field.payload ++ rest), length-append (content_of field.payload) rest)

no_field_in_nothing : (at : ℕ) (b : List ℕ) (field : WireField) (rest : List ℕ) → b ≡ [] → field_at at b ≡ Ok (field, rest) → ⊥
no_field_in_nothing at b field rest none e = omega (arith, field_takes at b field rest e, ap length none)

abbrev FieldsOf : ℕ → List ℕ → Type 0
FieldsOf at b = (fields : List WireField) × (fault : Option WireFault) × AreFields at b fields fault

from_front : (at : ℕ) (b : List ℕ) (read : Result (WireField × List ℕ) WireKind) → field_at at b ≡ read → 0 < length b → ((field : WireField) (rest : List ℕ) → length rest < length b → FieldsOf field.end rest) → FieldsOf at b
from_front at b (Err kind) e some others = ([], Some (record { kind = kind; at = at }), inr (kind, some, e, refl))
from_front at b (Ok (field, rest)) e some others =
    let (fields, fault, are) = others field rest (field_takes at b field rest e) in (field ∷ fields, fault, (rest, e, are))

some_fields_within : (most at : ℕ) (b : List ℕ) → length b ≤ most → FieldsOf at b
some_fields_within most at [] short = ([], None, inl (refl, refl))
some_fields_within zero at (c ∷ b) short = absurd (omega arith)
some_fields_within (suc most) at (c ∷ b) short =
    from_front at (c ∷ b) (field_at at (c ∷ b)) refl (omega arith) (λ field rest fewer. some_fields_within most field.end rest (omega arith))

pub some_fields : SomeFields
some_fields at b = some_fields_within (length b) at b (omega arith)

pub no_other_fields : NoOtherFields
no_other_fields at b [] [] fault other (inl (none, no_fault)) (inl (none', no_other)) = (refl, no_other ∙ sym no_fault)
no_other_fields at b [] [] fault other (inl (none, no_fault)) (inr (kind, some, e, is)) = absurd (omega (arith, ap length none))
no_other_fields at b [] [] fault other (inr (kind, some, e, is)) (inl (none, no_other)) = absurd (omega (arith, ap length none))
no_other_fields at b [] [] fault other (inr (kind, some, e, is)) (inr (kind', some', e', is')) = let same : kind' ≡ kind = cc in (refl, is' ∙ ap (λ k. Some (record { kind = k; at = at })) same ∙ sym is)
no_other_fields at b [] (f ∷ fs) fault other (inl (none, no_fault)) (rest, e, are) = absurd (no_field_in_nothing at b f rest none e)
no_other_fields at b [] (f ∷ fs) fault other (inr (kind, some, e', is)) (rest, e, are) = absurd (cc)
no_other_fields at b (f ∷ fs) [] fault other (rest, e, are) (inl (none, no_fault)) = absurd (no_field_in_nothing at b f rest none e)
no_other_fields at b (f ∷ fs) [] fault other (rest, e, are) (inr (kind, some, e', is)) = absurd (cc)
no_other_fields at b (f ∷ fs) (g ∷ gs) fault other (rest, e, are) (rest', e', are') =
    let both : ◌≡◌ {A = WireField × List ℕ} (g, rest') (f, rest) = cc in
    let first : g ≡ f = ap (λ (x : WireField × List ℕ). x.0) both in
    let after : rest' ≡ rest = ap (λ (x : WireField × List ℕ). x.1) both in
    let moved : AreFields f.end rest gs other = subst (λ (x : WireField). AreFields x.end rest gs other) first (subst (λ (r : List ℕ). AreFields g.end r gs other) after are') in
    let (fields, faults) = no_other_fields f.end rest fs gs fault other are moved in
    (cc, faults)
