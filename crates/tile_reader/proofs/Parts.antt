-- What the parts of a tile that are read without a fault are: fields, lists of fields, and messages.
use Rattle.std.proofs.Common.{◌≡◌, ℕ, inl, inr, List, [], ◌∷◌, refl, sym, ap, ◌∙◌, subst, Bool, true, false}
use Rattle.std.specs.Prelude.{Option, Some, None, Result, Ok, Err, if◌then◌else◌, nat_eq}
use Rattle.std.specs.Str.{is_utf8}
use Rattle.std.proofs.lemmas.Bool.{cases_eq, false_from_ne_true}
use Rattle.std.proofs.lemmas.Bool.Decides.{Decides-eqb}
use Rattle.proto_wire.specs.declared.field.WireFault.{WireFault}
use Rattle.proto_wire.specs.Message.{Payload, varint, bits64, bytes, bits32, WireField}
use Rattle.proto_wire.specs.Reading.{AreFields}
use Rattle.proto_wire.proofs.MessageLaws.{no_other_fields}
use Rattle.tile_reader.specs.declared.fault.TileKind.TheVariants.{Utf8}
use Rattle.tile_reader.specs.declared.fault.TileFault.{TileFault}
use Rattle.tile_reader.specs.Message.{Message, message}
use Rattle.tile_reader.specs.Read.{refused, ◌then◌, along, read_fields, number_in, bytes_in, text_of, text_in}
use Rattle.tile_reader.specs.Format.{OneByOne, fields_of_number}
use Rattle.tile_reader.proofs.TileLaws.{messages_are_cut}

-- where a whole is read, its first part is, and what comes after it
pub then_ok : {A B : Type 0} (read : Result A TileFault) (next : A → Result B TileFault) (y : B) → (read then next) ≡ Ok y → (x : A) × (read ≡ Ok x) × (next x ≡ Ok y)
then_ok (Ok x) next y e = (x, refl, e)
then_ok (Err fault) next y e = absurd (cc)

pub then_is : {A B : Type 0} (read : Result A TileFault) (next : A → Result B TileFault) (x : A) (y : B) → read ≡ Ok x → next x ≡ Ok y → (read then next) ≡ Ok y
then_is {A} read next x y e after = ap (λ (r : Result A TileFault). r then next) e ∙ after

pub number_ok : (at : ℕ) (payload : Payload) (n : ℕ) → number_in at payload ≡ Ok n → payload ≡ varint n
number_ok at (varint m) n e = let same : m ≡ n = cc in ap varint same
number_ok at (bits64 m) n e = absurd (cc)
number_ok at (bytes b) n e = absurd (cc)
number_ok at (bits32 m) n e = absurd (cc)

pub number_is : (at : ℕ) (payload : Payload) (n : ℕ) → payload ≡ varint n → number_in at payload ≡ Ok n
number_is at payload n e = ap (number_in at) e

pub bytes_ok : (at : ℕ) (payload : Payload) (b : List ℕ) → bytes_in at payload ≡ Ok b → payload ≡ bytes b
bytes_ok at (varint m) b e = absurd (cc)
bytes_ok at (bits64 m) b e = absurd (cc)
bytes_ok at (bytes c) b e = let same : c ≡ b = cc in ap bytes same
bytes_ok at (bits32 m) b e = absurd (cc)

pub bytes_is : (at : ℕ) (payload : Payload) (b : List ℕ) → payload ≡ bytes b → bytes_in at payload ≡ Ok b
bytes_is at payload b e = ap (bytes_in at) e

utf8_at : (at : ℕ) (b s : List ℕ) (t : Bool) → is_utf8 b ≡ t → ◌≡◌ {A = Result (List ℕ) TileFault} (if t then Ok b else refused Utf8 at) (Ok s) → (b ≡ s) × (is_utf8 b ≡ true)
utf8_at at b s true is e = let same : b ≡ s = cc in (same, is)
utf8_at at b s false is e = absurd (cc)

pub utf8_ok : (at : ℕ) (b s : List ℕ) → text_of at b ≡ Ok s → (b ≡ s) × (is_utf8 s ≡ true)
utf8_ok at b s e = let (same, is) = utf8_at at b s (is_utf8 b) refl e in (same, subst (λ (x : List ℕ). is_utf8 x ≡ true) same is)

pub utf8_is : (at : ℕ) (s : List ℕ) → is_utf8 s ≡ true → text_of at s ≡ Ok s
utf8_is at s is = ap (λ (t : Bool). if t then Ok s else refused Utf8 at) is

pub text_ok : (at : ℕ) (payload : Payload) (s : List ℕ) → text_in at payload ≡ Ok s → (payload ≡ bytes s) × (is_utf8 s ≡ true)
text_ok at payload s e =
    let (b, read, after) = then_ok (bytes_in at payload) (text_of at) s e in
    let (same, is) = utf8_ok at b s after in
    (bytes_ok at payload b read ∙ ap bytes same, is)

pub text_is : (at : ℕ) (payload : Payload) (s : List ℕ) → payload ≡ bytes s → is_utf8 s ≡ true → text_in at payload ≡ Ok s
text_is at payload s e is = then_is (bytes_in at payload) (text_of at) s s (bytes_is at payload s e) (utf8_is at s is)

-- a message is read without a fault where it has none, field by field
along_whole : {S : Type 0} (step : S → WireField → Result S TileFault) (s q : S) (fields : List WireField) (fault : Option WireFault) → along step s fields fault ≡ Ok q → fault ≡ None
along_whole step s q [] None e = refl
along_whole step s q [] (Some fault) e = absurd (cc)
along_whole {S} step s q (field ∷ fields) fault e =
    let (next, stepped, after) = then_ok (step s field) (λ (next : S). along step next fields fault) q e in
    along_whole step next q fields fault after

pub message_ok : {S : Type 0} (step : S → WireField → Result S TileFault) (s q : S) (at : ℕ) (b : List ℕ) → read_fields step s (message at b) ≡ Ok q → (fields : List WireField) × AreFields at b fields None × (along step s fields None ≡ Ok q)
message_ok step s q at b e =
    let m : Message = message at b in
    let whole : m.fault ≡ None = along_whole step s q m.fields m.fault e in
    (m.fields, subst (AreFields at b m.fields) whole (messages_are_cut at b), sym (ap (along step s m.fields) whole) ∙ e)

pub message_is : {S : Type 0} (step : S → WireField → Result S TileFault) (s q : S) (at : ℕ) (b : List ℕ) (fields : List WireField) → AreFields at b fields None → along step s fields None ≡ Ok q → read_fields step s (message at b) ≡ Ok q
message_is step s q at b fields are e =
    let m : Message = message at b in
    let (same, none) = no_other_fields at b fields m.fields None m.fault are (messages_are_cut at b) in
    ap (λ (fs : List WireField). along step s fs m.fault) same ∙ ap (along step s fields) none ∙ e

-- cases of a number: this one, or another
pub by_number : (P : ℕ → Type 0) (n k : ℕ) → P k → (nat_eq n k ≡ false → P n) → P n
by_number P n k here other = elim (cases_eq n k) as (λ _. P n) [
  | inl e ↦ subst P (sym e) here
  | inr d ↦ other (false_from_ne_true (nat_eq n k) (λ e. d ((Decides-eqb n k).0 e)))
]

-- things that are read one by one are others one by one
pub one_by_one : {A B C : Type 0} (P : A → B → Type 0) (Q : B → C → Type 0) (R : A → C → Type 0) → ((a : A) (b : B) (c : C) → P a b → Q b c → R a c) → (xs : List A) (bs : List B) (cs : List C) → OneByOne P xs bs → OneByOne Q bs cs → OneByOne R xs cs
one_by_one P Q R join [] [] [] p q = tt
one_by_one P Q R join [] [] (c ∷ cs) p q = q
one_by_one P Q R join [] (b ∷ bs) cs p q = absurd p
one_by_one P Q R join (a ∷ xs) [] cs p q = absurd p
one_by_one P Q R join (a ∷ xs) (b ∷ bs) [] p q = q
one_by_one P Q R join (a ∷ xs) (b ∷ bs) (c ∷ cs) p q = (join a b c p.0 q.0, one_by_one P Q R join xs bs cs p.1 q.1)

pub each_one : {A B : Type 0} (P Q : A → B → Type 0) → ((a : A) (b : B) → P a b → Q a b) → (xs : List A) (bs : List B) → OneByOne P xs bs → OneByOne Q xs bs
each_one P Q so [] [] p = tt
each_one P Q so [] (b ∷ bs) p = p
each_one P Q so (a ∷ xs) [] p = p
each_one P Q so (a ∷ xs) (b ∷ bs) p = (so a b p.0, each_one P Q so xs bs p.1)

-- the first of the things
pub first_one : {A B : Type 0} (P : A → B → Type 0) (a : A) (xs : List A) (bs : List B) → OneByOne P (a ∷ xs) bs → (b : B) × (others : List B) × (bs ≡ b ∷ others) × P a b × OneByOne P xs others
first_one P a xs [] p = absurd p
first_one P a xs (b ∷ bs) p = (b, bs, refl, p.0, p.1)

-- the fields of a number, read in order
abbrev pub Reads : {A : Type 0} → ℕ → (WireField → Result A TileFault) → List WireField → List A → Type 0
Reads {A} number read fields things = OneByOne (λ (field : WireField) (thing : A). read field ≡ Ok thing) (fields_of_number number fields) things

-- a field of another number is passed
pub pass : (number : ℕ) (field : WireField) (fields : List WireField) → nat_eq field.number number ≡ false → fields_of_number number (field ∷ fields) ≡ fields_of_number number fields
pass number field fields other = ap (λ (t : Bool). if t then field ∷ fields_of_number number fields else fields_of_number number fields) other

pub passed : {A : Type 0} (number : ℕ) (read : WireField → Result A TileFault) (field : WireField) (fields : List WireField) (things : List A) → nat_eq field.number number ≡ false → Reads number read fields things → Reads number read (field ∷ fields) things
passed {A} number read field fields things other reads =
    subst (λ (fs : List WireField). OneByOne (λ (f : WireField) (thing : A). read f ≡ Ok thing) fs things) (sym (pass number field fields other)) reads

pub unpassed : {A : Type 0} (number : ℕ) (read : WireField → Result A TileFault) (field : WireField) (fields : List WireField) (things : List A) → nat_eq field.number number ≡ false → Reads number read (field ∷ fields) things → Reads number read fields things
unpassed {A} number read field fields things other reads =
    subst (λ (fs : List WireField). OneByOne (λ (f : WireField) (thing : A). read f ≡ Ok thing) fs things) (pass number field fields other) reads
