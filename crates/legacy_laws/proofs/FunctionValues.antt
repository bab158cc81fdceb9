-- What joins the values of terms and those of legacy functions: literals, results of stops, counts of inputs,
-- forms and inputs of categories.
use Rattle.std.proofs.Common.{◌≡◌, ◌∙◌, ℕ, zero, suc, ◌+◌, ◌-◌, ℤ, List, [], ◌∷◌, length, refl, ap, sym, arith, true, false}
use Rattle.std.proofs.lemmas.Bool.Decides.{Decides-int_eq}
use Rattle.std.proofs.lemmas.Int.{ints, by_lt_z}
use Rattle.std.proofs.lemmas.List.Sums.{sum_by-cons}
use Rattle.std.specs.Prelude.{Bool, ◌&&◌, codes, map, int_le, ◌<ℤ◌, ◌≤ℤ◌, Some, None, Result, Ok, Err, if◌then◌else◌}
use Rattle.std.specs.Ordering.{int_eq}
use Rattle.fixed_num.specs.declared.decimal.NumFault.{NumFault}
use Rattle.fixed_num.specs.declared.fixed.Arith.{Arith}
use Rattle.decimal_json.specs.Tree.{Tree}
use Rattle.prop_values.specs.Data.{Data, null, boolean, number as number_data, text, color, list, map as map_of}
use Rattle.prop_values.specs.Equality.{equal, same_flag, same_text}
use Rattle.prop_values.specs.Forms.{kind_name}
use Rattle.prop_values.specs.JsonData.{json_data}
use Rattle.prop_values.proofs.KeyLaws.{texts_same, same_texts}
use Rattle.prop_values.specs.declared.kinds.Want.{Want}
use Rattle.prop_values.specs.declared.kinds.Want.TheVariants as wants
use Rattle.interpolate_fixed.specs.Places.{input_at, count_not_above}
use Rattle.interpolate_fixed.specs.declared.place.StopPlace.{StopPlace}
use Rattle.interpolate_fixed.specs.declared.place.StopPlace.TheVariants.{First, Last, Between}
use Rattle.property_tables.specs.Defaults.{fitted}
use Rattle.property_tables.specs.Fitting.{fit}
use Rattle.property_tables.specs.Literals.{has_form, keeps_limits, literal_read, literal_of, is_text}
use Rattle.property_tables.specs.Rows.{RowData}
use Rattle.expr_syntax.specs.Operators.{ramp_want}
use Rattle.operator_values.specs.Arithmetic.{then_number}
use Rattle.operator_values.specs.Evaluated.{Evaluated, then_value}
use Rattle.eval_face.specs.Branches.{branch, output_at, between_values, ramp_at}
use Rattle.eval_face.specs.Decisions.{if_there, or_later}
use Rattle.eval_face.specs.Meanings.{Meaning}
use Rattle.eval_face.specs.World.{World}
use Rattle.legacy_functions.specs.Function.{Input, flag, number, word}
use Rattle.legacy_functions.specs.Meaning.{result_at, between_results, ramp_result, is_input, is_boolean, is_number, is_list}
use Rattle.legacy_functions.proofs.ClimbLaws.{Climbs}
use Rattle.legacy_laws.proofs.FunctionTerms.{data_or_null, input_data}
use Rattle.legacy_laws.proofs.TableRows.{is_ramp_want}

-- ---- literals of a row

fitted_is : (b : Bool) (e : Evaluated) (d : Data) → (if b then fitted e else None) ≡ Some d → e ≡ Ok d
fitted_is true (Ok x) d h = let same : x ≡ d = cc in ap Ok same
fitted_is true (Err fault) d h = absurd (cc)
fitted_is false e d h = absurd (cc)

read_fits : (row : RowData) (r : Result Data NumFault) (d : Data) → literal_read row r ≡ Some d
    → fit row.want (data_or_null r) ≡ Ok d
read_fits row (Ok x) d h = fitted_is (has_form row.want x && keeps_limits row.limits x) (fit row.want x) d h
read_fits row (Err past) d h = absurd (cc)

pub literal_fits : (row : RowData) (t : Tree) (d : Data) → literal_of t row ≡ Some d
    → fit row.want (data_or_null (json_data t)) ≡ Ok d
literal_fits row t d h = read_fits row (json_data t) d h

-- ---- results of a list of terms

abbrev pub outcomes : Want → World → List Meaning → List Evaluated
outcomes want here ms = map (λ (m : Meaning). m want [] here) ms

pub output_is : (want : Want) (here : World) (ms : List Meaning) (k : ℕ)
    → output_at ms k want [] here ≡ result_at (outcomes want here ms) k
output_is want here [] k = refl
output_is want here (m ∷ ms) zero = refl
output_is want here (m ∷ ms) (suc k) = output_is want here ms k

between_is : (x x0 x1 : ℤ) (a b : Evaluated) → between_values x x0 x1 a b ≡ between_results x x0 x1 a b
between_is x x0 x1 (Ok d) (Ok e) = refl
between_is x x0 x1 (Ok d) (Err fault) = refl
between_is x x0 x1 (Err fault) b = refl

pub place_is : (want : Want) (here : World) (inputs : List ℤ) (ms : List Meaning) (x : ℤ) (place : StopPlace)
    → ramp_at inputs ms x place want [] here ≡ ramp_result inputs (outcomes want here ms) x place
place_is want here inputs ms x First = output_is want here ms 0
place_is want here inputs ms x Last = output_is want here ms (length inputs - 1)
place_is want here inputs ms x (Between i) =
    let x0 = input_at inputs i in
    let x1 = input_at inputs (i + 1) in
    (λ j. between_values x x0 x1 (output_is want here ms i j) (output_is want here ms (i + 1) j))
    ∙ between_is x x0 x1 (result_at (outcomes want here ms) i) (result_at (outcomes want here ms) (i + 1))

-- a fit after a moved input is a fit of the whole
pub number_last : (r : Result ℤ Arith) (go : ℤ → Evaluated) (last : Data → Evaluated)
    → then_number r (λ x. then_value (go x) last) ≡ then_value (then_number r go) last
number_last (Ok z) go last = refl
number_last (Err fault) go last = refl

pub ramp_taken : (want : Want) → is_ramp_want want ≡ true → ramp_want want ≡ want
ramp_taken wants.Any h = refl
ramp_taken wants.Shown h = absurd (cc)
ramp_taken wants.Boolean h = refl
ramp_taken wants.Number h = refl
ramp_taken wants.Text h = refl
ramp_taken wants.Color h = refl
ramp_taken wants.Object h = refl
ramp_taken wants.Image h = refl
ramp_taken (wants.List i n) h = refl
ramp_taken (wants.Enum c) h = refl
ramp_taken (wants.EnumList c) h = refl

-- ---- how many inputs are not above a value

count_first : (v z : ℤ) (zs : List ℤ)
    → count_not_above v (z ∷ zs) ≡ (if int_le z v then 1 else 0) + count_not_above v zs
unfolding count_not_above
count_first v z zs = sum_by-cons (λ y. if int_le y v then 1 else 0) z zs

none_counted : (y : ℤ) (zs : List ℤ) (v : ℤ) → Climbs (Some y) zs → v <ℤ y → count_not_above v zs ≡ 0
unfolding count_not_above
none_counted y [] v h below = refl
none_counted y (z ∷ zs) v h below =
    let up : y <ℤ z = h.0 in
    let further : v <ℤ z = omega (arith, ints, up, below) in
    let out : int_le z v ≡ false = grind (arith, ints, further) in
    let rest = none_counted z zs v h.1 further in
    count_first v z zs ∙ (λ i. (if out i then 1 else 0) + rest i)

-- those above the first are as many as all but it
pub counted_after : (z : ℤ) (zs : List ℤ) (v : ℤ) → Climbs (Some z) zs
    → count_not_above v zs ≡ count_not_above v (z ∷ zs) - 1
counted_after z zs v h = by_lt_z v z below from
  where
    below : v <ℤ z → count_not_above v zs ≡ count_not_above v (z ∷ zs) - 1
    below less =
        let out : int_le z v ≡ false = grind (arith, ints, less) in
        let none = none_counted z zs v h less in
        let all : count_not_above v (z ∷ zs) ≡ 0 = count_first v z zs ∙ (λ i. (if out i then 1 else 0) + none i) in
        omega (arith, none, all)

    from : z ≤ℤ v → count_not_above v zs ≡ count_not_above v (z ∷ zs) - 1
    from not_less =
        let counted : int_le z v ≡ true = grind (arith, ints, not_less) in
        let all : count_not_above v (z ∷ zs) ≡ 1 + count_not_above v zs =
        count_first v z zs ∙ (λ i. (if counted i then 1 else 0) + count_not_above v zs) in
        omega (arith, all)

pub only_counted : (z v : ℤ) → count_not_above v (z ∷ []) - 1 ≡ 0
unfolding count_not_above
only_counted z v = ap (λ n. n - 1) (count_first v z []) ∙ of_test (int_le z v)
  where
    of_test : (b : Bool) → (if b then 1 else 0) + 0 - 1 ≡ 0
    of_test true = refl
    of_test false = refl

-- ---- a branch of a test that is known

pub branch_fit : (want : Want) (b : Bool) (d e : Data)
    → branch (Ok (boolean b)) (fit want d) (fit want e) ≡ fit want (if b then d else e)
branch_fit want true d e = refl
branch_fit want false d e = refl

-- ---- forms of values

pub number_kind : (d : Data) → same_text (kind_name d) (codes "number") ≡ is_number d
number_kind null = refl
number_kind (boolean b) = refl
number_kind (number_data z) = refl
number_kind (text s) = refl
number_kind (color c) = refl
number_kind (list ds) = refl
number_kind (map_of ps) = refl

pub boolean_kind : (d : Data) → same_text (kind_name d) (codes "boolean") ≡ is_boolean d
boolean_kind null = refl
boolean_kind (boolean b) = refl
boolean_kind (number_data z) = refl
boolean_kind (text s) = refl
boolean_kind (color c) = refl
boolean_kind (list ds) = refl
boolean_kind (map_of ps) = refl

pub list_kind : (d : Data) → same_text (kind_name d) (codes "array") ≡ is_list d
list_kind null = refl
list_kind (boolean b) = refl
list_kind (number_data z) = refl
list_kind (text s) = refl
list_kind (color c) = refl
list_kind (list ds) = refl
list_kind (map_of ps) = refl

pub text_kind : (d : Data) → same_text (kind_name d) (codes "string") ≡ is_text d
text_kind null = refl
text_kind (boolean b) = refl
text_kind (number_data z) = refl
text_kind (text s) = refl
text_kind (color c) = refl
text_kind (list ds) = refl
text_kind (map_of ps) = refl

-- ---- inputs of categories

same_test : (a b : Bool) → (a ≡ true → b ≡ true) → (b ≡ true → a ≡ true) → a ≡ b
same_test true true f g = refl
same_test true false f g = sym (f refl)
same_test false true f g = g refl
same_test false false f g = refl

flags_same : (a b : Bool) → same_flag a b ≡ same_flag b a
flags_same true true = refl
flags_same true false = refl
flags_same false true = refl
flags_same false false = refl

numbers_same : (a b : ℤ) → int_eq a b ≡ int_eq b a
numbers_same a b =
    same_test (int_eq a b) (int_eq b a) (λ h. (Decides-int_eq b a).1 (sym ((Decides-int_eq a b).0 h)))
    (λ h. (Decides-int_eq a b).1 (sym ((Decides-int_eq b a).0 h)))

texts_are_same : (a b : List ℕ) → same_text a b ≡ same_text b a
texts_are_same a b =
    same_test (same_text a b) (same_text b a) (λ h. texts_same b a (sym (same_texts a b h)))
    (λ h. texts_same a b (sym (same_texts b a h)))

pub input_is : (d : Data) (i : Input) → equal d (input_data i) ≡ is_input d i
input_is null (flag b) = refl
input_is null (number n) = refl
input_is null (word s) = refl
input_is (boolean a) (flag b) = flags_same a b
input_is (boolean a) (number n) = refl
input_is (boolean a) (word s) = refl
input_is (number_data z) (flag b) = refl
input_is (number_data z) (number n) = numbers_same z n.value
input_is (number_data z) (word s) = refl
input_is (text t) (flag b) = refl
input_is (text t) (number n) = refl
input_is (text t) (word s) = texts_are_same t s
input_is (color c) (flag b) = refl
input_is (color c) (number n) = refl
input_is (color c) (word s) = refl
input_is (list ds) (flag b) = refl
input_is (list ds) (number n) = refl
input_is (list ds) (word s) = refl
input_is (map_of ps) (flag b) = refl
input_is (map_of ps) (number n) = refl
input_is (map_of ps) (word s) = refl

-- the first that is there, and then null
pub itself_or_null : (e : Data) → or_later (if_there e) (Ok null) ≡ Ok e
itself_or_null null = refl
itself_or_null (boolean b) = refl
itself_or_null (number_data z) = refl
itself_or_null (text s) = refl
itself_or_null (color c) = refl
itself_or_null (list ds) = refl
itself_or_null (map_of ps) = refl
