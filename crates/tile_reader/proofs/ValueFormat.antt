-- A value is read where its format has it.
use Rattle.std.proofs.Common.{◌≡◌, ℕ, List, [], ◌∷◌, refl, sym, ap, ◌∙◌, subst, Bool, true, false}
use Rattle.std.specs.Prelude.{pos, not, Option, Some, None, Result, Ok, Err, if◌then◌else◌, nat_eq}
use Rattle.proto_wire.specs.Message.{bytes, WireField, content_start}
use Rattle.prop_values.specs.Data.{Data}
use Rattle.prop_values.specs.Data as held
use Rattle.tile_reader.specs.declared.fault.TileFault.{TileFault}
use Rattle.tile_reader.specs.declared.value.ValueMember.{ValueMember}
use Rattle.tile_reader.specs.declared.value.ValueMember.TheVariants.{String, Float, Double, Int, Uint, Sint, Flag, Unknown}
use Rattle.tile_reader.specs.Message.{message}
use Rattle.tile_reader.specs.Read.{◌then◌, along, read_fields, number_in, bytes_in, bits64_in, bits32_in, text_of}
use Rattle.tile_reader.specs.Value.{value_member, value_field, value_step, value_end, value_at, first_field, whole, from_int, from_zigzag, float_at}
use Rattle.tile_reader.specs.Format.{Says, is_known, known_fields, IsValue}
use Rattle.tile_reader.proofs.Parts.{then_ok, then_is, number_ok, number_is, bytes_ok, bytes_is, utf8_ok, utf8_is, message_ok, message_is}

-- a first field that says something
float_no : (at : ℕ) (bits : Result ℕ TileFault) (x : Option Data) → float_at at bits ≡ Ok x → ⊥
float_no at (Ok n) x e = cc
float_no at (Err fault) x e = cc

says_ok : (member : ValueMember) (field : WireField) (x : Option Data) → is_known member ≡ true → value_field member None field ≡ Ok x → (value : Data) × (x ≡ Some value) × Says member field value
says_ok String field x known e =
    let (b, read, after) = then_ok (bytes_in field.at field.payload) (λ (b : List ℕ). first_field field.at None then λ _. text_of field.at b then λ s. Ok (Some (held.text s))) x e in
    let (s, text, made) = then_ok (text_of field.at b) (λ (s : List ℕ). Ok (Some (held.text s))) x after in
    let (same, utf8) = utf8_ok field.at b s text in
    let is : x ≡ Some (held.text s) = cc in
    (held.text s, is, (s, (bytes_ok field.at field.payload b read ∙ ap (λ (c : List ℕ). bytes c) same, utf8), refl))
says_ok Float field x known e = absurd (float_no field.at (bits32_in field.at field.payload) x e)
says_ok Double field x known e = absurd (float_no field.at (bits64_in field.at field.payload) x e)
says_ok Int field x known e =
    let (n, read, after) = then_ok (number_in field.at field.payload) (λ (n : ℕ). first_field field.at None then λ _. Ok (Some (whole (from_int n)))) x e in
    let is : x ≡ Some (whole (from_int n)) = cc in (whole (from_int n), is, (n, number_ok field.at field.payload n read, refl))
says_ok Uint field x known e =
    let (n, read, after) = then_ok (number_in field.at field.payload) (λ (n : ℕ). first_field field.at None then λ _. Ok (Some (whole (pos n)))) x e in
    let is : x ≡ Some (whole (pos n)) = cc in (whole (pos n), is, (n, number_ok field.at field.payload n read, refl))
says_ok Sint field x known e =
    let (n, read, after) = then_ok (number_in field.at field.payload) (λ (n : ℕ). first_field field.at None then λ _. Ok (Some (whole (from_zigzag n)))) x e in
    let is : x ≡ Some (whole (from_zigzag n)) = cc in (whole (from_zigzag n), is, (n, number_ok field.at field.payload n read, refl))
says_ok Flag field x known e =
    let (n, read, after) = then_ok (number_in field.at field.payload) (λ (n : ℕ). first_field field.at None then λ _. Ok (Some (held.boolean (not (nat_eq n 0))))) x e in
    let is : x ≡ Some (held.boolean (not (nat_eq n 0))) = cc in (held.boolean (not (nat_eq n 0)), is, (n, number_ok field.at field.payload n read, refl))
says_ok Unknown field x known e = absurd (cc)

says_is : (member : ValueMember) (field : WireField) (value : Data) → Says member field value → value_field member None field ≡ Ok (Some value)
says_is String field value (text, (is, utf8), same) =
    then_is (bytes_in field.at field.payload) (λ (b : List ℕ). first_field field.at None then λ _. text_of field.at b then λ s. Ok (Some (held.text s))) text (Some value) (bytes_is field.at field.payload text is)
    (then_is (text_of field.at text) (λ (s : List ℕ). Ok (Some (held.text s))) text (Some value) (utf8_is field.at text utf8) (ap (λ (v : Data). Ok (Some v)) (sym same)))
says_is Float field value none = absurd none
says_is Double field value none = absurd none
says_is Int field value (n, is, same) =
    then_is (number_in field.at field.payload) (λ (n : ℕ). first_field field.at None then λ _. Ok (Some (whole (from_int n)))) n (Some value) (number_is field.at field.payload n is) (ap (λ (v : Data). Ok (Some v)) (sym same))
says_is Uint field value (n, is, same) =
    then_is (number_in field.at field.payload) (λ (n : ℕ). first_field field.at None then λ _. Ok (Some (whole (pos n)))) n (Some value) (number_is field.at field.payload n is) (ap (λ (v : Data). Ok (Some v)) (sym same))
says_is Sint field value (n, is, same) =
    then_is (number_in field.at field.payload) (λ (n : ℕ). first_field field.at None then λ _. Ok (Some (whole (from_zigzag n)))) n (Some value) (number_is field.at field.payload n is) (ap (λ (v : Data). Ok (Some v)) (sym same))
says_is Flag field value (n, is, same) =
    then_is (number_in field.at field.payload) (λ (n : ℕ). first_field field.at None then λ _. Ok (Some (held.boolean (not (nat_eq n 0))))) n (Some value) (number_is field.at field.payload n is) (ap (λ (v : Data). Ok (Some v)) (sym same))
says_is Unknown field value none = absurd none

-- a second field is refused
after_none : {X Z : Type 0} (read : Result X TileFault) (last : X → Result Z TileFault) (at : ℕ) (value : Data) (x : Z) → (read then λ n. first_field at (Some value) then λ _. last n) ≡ Ok x → ⊥
after_none (Ok n) last at value x e = cc
after_none (Err fault) last at value x e = cc

no_second : (member : ValueMember) (field : WireField) (value : Data) (x : Option Data) → is_known member ≡ true → value_field member (Some value) field ≡ Ok x → ⊥
no_second String field value x known e = after_none (bytes_in field.at field.payload) (λ (b : List ℕ). text_of field.at b then λ s. Ok (Some (held.text s))) field.at value x e
no_second Float field value x known e = float_no field.at (bits32_in field.at field.payload) x e
no_second Double field value x known e = float_no field.at (bits64_in field.at field.payload) x e
no_second Int field value x known e = after_none (number_in field.at field.payload) (λ (n : ℕ). Ok (Some (whole (from_int n)))) field.at value x e
no_second Uint field value x known e = after_none (number_in field.at field.payload) (λ (n : ℕ). Ok (Some (whole (pos n)))) field.at value x e
no_second Sint field value x known e = after_none (number_in field.at field.payload) (λ (n : ℕ). Ok (Some (whole (from_zigzag n)))) field.at value x e
no_second Flag field value x known e = after_none (number_in field.at field.payload) (λ (n : ℕ). Ok (Some (held.boolean (not (nat_eq n 0))))) field.at value x e
no_second Unknown field value x known e = cc

skipped : (member : ValueMember) (before : Option Data) (field : WireField) → is_known member ≡ false → value_field member before field ≡ Ok before
skipped String before field e = absurd (cc)
skipped Float before field e = absurd (cc)
skipped Double before field e = absurd (cc)
skipped Int before field e = absurd (cc)
skipped Uint before field e = absurd (cc)
skipped Sint before field e = absurd (cc)
skipped Flag before field e = absurd (cc)
skipped Unknown before field e = refl

abbrev pub rest_of : Option Data → List WireField → Result (Option Data) TileFault
rest_of before fields = along value_step before fields None

-- what comes after the field is skipped
after_ok_at : (field : WireField) (fields : List WireField) (value : Data) (q : Option Data) (t : Bool) → is_known (value_member field.number) ≡ t → (rest_of (Some value) fields ≡ Ok q → (known_fields fields ≡ []) × (q ≡ Some value)) → (value_step (Some value) field then λ next. rest_of next fields) ≡ Ok q → ((if t then field ∷ known_fields fields else known_fields fields) ≡ []) × (q ≡ Some value)
after_ok_at field fields value q true known later e =
    let (x, stepped, after) = then_ok (value_step (Some value) field) (λ (next : Option Data). rest_of next fields) q e in
    absurd (no_second (value_member field.number) field value x known stepped)
after_ok_at field fields value q false known later e =
    later (sym (ap (λ (r : Result (Option Data) TileFault). r then λ next. rest_of next fields) (skipped (value_member field.number) (Some value) field known)) ∙ e)

after_ok : (fields : List WireField) (value : Data) (q : Option Data) → rest_of (Some value) fields ≡ Ok q → (known_fields fields ≡ []) × (q ≡ Some value)
after_ok [] value q e = let same : q ≡ Some value = cc in (refl, same)
after_ok (field ∷ fields) value q e = after_ok_at field fields value q (is_known (value_member field.number)) refl (after_ok fields value q) e

abbrev HasOnly : List WireField → Data → Type 0
HasOnly known value = (only : WireField) × (known ≡ only ∷ []) × Says (value_member only.number) only value

fields_ok_at : (field : WireField) (fields : List WireField) (value : Data) (t : Bool) → is_known (value_member field.number) ≡ t → (rest_of None fields ≡ Ok (Some value) → HasOnly (known_fields fields) value) → (value_step None field then λ next. rest_of next fields) ≡ Ok (Some value) → HasOnly (if t then field ∷ known_fields fields else known_fields fields) value
fields_ok_at field fields value true known later e =
    let (x, stepped, after) = then_ok (value_step None field) (λ (next : Option Data). rest_of next fields) (Some value) e in
    let (said, is, says) = says_ok (value_member field.number) field x known stepped in
    let (none, same) = after_ok fields said (Some value) (sym (ap (λ (o : Option Data). rest_of o fields) is) ∙ after) in
    let equal : said ≡ value = cc in
    (field, ap (λ (fs : List WireField). field ∷ fs) none, subst (Says (value_member field.number) field) equal says)
fields_ok_at field fields value false known later e =
    later (sym (ap (λ (r : Result (Option Data) TileFault). r then λ next. rest_of next fields) (skipped (value_member field.number) None field known)) ∙ e)

pub fields_ok : (fields : List WireField) (value : Data) → rest_of None fields ≡ Ok (Some value) → HasOnly (known_fields fields) value
fields_ok [] value e = absurd (cc)
fields_ok (field ∷ fields) value e = fields_ok_at field fields value (is_known (value_member field.number)) refl (fields_ok fields value) e

-- nothing is said where no field says something
none_ok_at : (field : WireField) (fields : List WireField) (t : Bool) → is_known (value_member field.number) ≡ t → (rest_of None fields ≡ Ok None → known_fields fields ≡ []) → (value_step None field then λ next. rest_of next fields) ≡ Ok None → (if t then field ∷ known_fields fields else known_fields fields) ≡ []
none_ok_at field fields true known later e =
    let (x, stepped, after) = then_ok (value_step None field) (λ (next : Option Data). rest_of next fields) None e in
    let (said, is, says) = says_ok (value_member field.number) field x known stepped in
    let (none, same) = after_ok fields said None (sym (ap (λ (o : Option Data). rest_of o fields) is) ∙ after) in
    absurd (cc)
none_ok_at field fields false known later e =
    later (sym (ap (λ (r : Result (Option Data) TileFault). r then λ next. rest_of next fields) (skipped (value_member field.number) None field known)) ∙ e)

pub none_ok : (fields : List WireField) → rest_of None fields ≡ Ok None → known_fields fields ≡ []
none_ok [] e = refl
none_ok (field ∷ fields) e = none_ok_at field fields (is_known (value_member field.number)) refl (none_ok fields) e

-- and the other way round
after_is_at : (field : WireField) (fields : List WireField) (value : Data) (t : Bool) → is_known (value_member field.number) ≡ t → (known_fields fields ≡ [] → rest_of (Some value) fields ≡ Ok (Some value)) → (if t then field ∷ known_fields fields else known_fields fields) ≡ [] → (value_step (Some value) field then λ next. rest_of next fields) ≡ Ok (Some value)
after_is_at field fields value true known later e = absurd (cc)
after_is_at field fields value false known later e =
    then_is (value_step (Some value) field) (λ (next : Option Data). rest_of next fields) (Some value) (Some value) (skipped (value_member field.number) (Some value) field known) (later e)

after_is : (fields : List WireField) (value : Data) → known_fields fields ≡ [] → rest_of (Some value) fields ≡ Ok (Some value)
after_is [] value e = refl
after_is (field ∷ fields) value e = after_is_at field fields value (is_known (value_member field.number)) refl (after_is fields value) e

fields_is_at : (field : WireField) (fields : List WireField) (value : Data) (t : Bool) → is_known (value_member field.number) ≡ t → (HasOnly (known_fields fields) value → rest_of None fields ≡ Ok (Some value)) → HasOnly (if t then field ∷ known_fields fields else known_fields fields) value → (value_step None field then λ next. rest_of next fields) ≡ Ok (Some value)
fields_is_at field fields value true known later (only, are, says) =
    let first : only ≡ field = cc in
    let none : known_fields fields ≡ [] = cc in
    let said : Says (value_member field.number) field value = subst (λ (f : WireField). Says (value_member f.number) f value) first says in
    then_is (value_step None field) (λ (next : Option Data). rest_of next fields) (Some value) (Some value) (says_is (value_member field.number) field value said) (after_is fields value none)
fields_is_at field fields value false known later only =
    then_is (value_step None field) (λ (next : Option Data). rest_of next fields) None (Some value) (skipped (value_member field.number) None field known) (later only)

fields_is : (fields : List WireField) (value : Data) → HasOnly (known_fields fields) value → rest_of None fields ≡ Ok (Some value)
fields_is [] value (only, are, says) = absurd (cc)
fields_is (field ∷ fields) value only = fields_is_at field fields value (is_known (value_member field.number)) refl (fields_is fields value) only

end_ok : (at : ℕ) (o : Option Data) (value : Data) → value_end at o ≡ Ok value → o ≡ Some value
end_ok at None value e = absurd (cc)
end_ok at (Some x) value e = let same : x ≡ value = cc in ap Some same

abbrev pub read_value : WireField → Result Data TileFault
read_value field = bytes_in field.at field.payload then λ b. value_at field.at (content_start field) b

pub value_ok : (field : WireField) (value : Data) → read_value field ≡ Ok value → IsValue field value
value_ok field value e =
    let (content, held_bytes, read) = then_ok (bytes_in field.at field.payload) (λ (b : List ℕ). value_at field.at (content_start field) b) value e in
    let (o, whole_read, ended) = then_ok (read_fields value_step None (message (content_start field) content)) (value_end field.at) value read in
    let (fields, are, walked) = message_ok value_step None o (content_start field) content whole_read in
    let (only, known, says) = fields_ok fields value (walked ∙ ap (λ (x : Option Data). Ok x) (end_ok field.at o value ended)) in
    (fields, (content, bytes_ok field.at field.payload content held_bytes, are), only, known, says)

pub value_is : (field : WireField) (value : Data) → IsValue field value → read_value field ≡ Ok value
value_is field value (fields, (content, is, are), only, known, says) =
    then_is (bytes_in field.at field.payload) (λ (b : List ℕ). value_at field.at (content_start field) b) content value (bytes_is field.at field.payload content is)
    (then_is (read_fields value_step None (message (content_start field) content)) (value_end field.at) (Some value) value
    (message_is value_step None (Some value) (content_start field) content fields are (fields_is fields value (only, known, says))) refl)
