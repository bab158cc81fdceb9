-- An expression means under Shown the text of what it means under Any.
use Rattle.std.proofs.Common.{◌≡◌, ◌∙◌, ℕ, ◌+◌, ◌-◌, zero, suc, ℤ, List, [], ◌∷◌, length, take, drop, refl, ap, Bool, true, false, Option, Some, None, Result, Ok, Err}
use Rattle.fixed_num.specs.declared.fixed.Arith.{Arith}
use Rattle.prop_values.specs.Data.{Data, null, boolean, number, text, color, list, map}
use Rattle.prop_values.specs.declared.fault.EvalFault.{EvalFault}
use Rattle.std.specs.Prelude.{nat_eq, if◌then◌else◌}
use Rattle.prop_values.specs.declared.kinds.Item.TheVariants as items
use Rattle.prop_values.specs.declared.kinds.Want.{Want}
use Rattle.prop_values.specs.declared.kinds.Want.TheVariants as wants
use Rattle.expr_syntax.specs.declared.rows.Wanted.TheVariants.{Own}
use Rattle.property_tables.specs.Fitting.{fit}
use Rattle.interpolate_fixed.specs.Places.{place_of, count_not_above}
use Rattle.interpolate_fixed.specs.Warp.{warp_of}
use Rattle.expr_syntax.specs.Chosen.{output_of}
use Rattle.expr_syntax.specs.Operators.{wanted_by, want_of, piece_wanted}
use Rattle.expr_syntax.specs.Term.{Term, literal, node, Terms, no_terms, term}
use Rattle.expr_syntax.specs.declared.expression.Operator.{Operator}
use Rattle.expr_syntax.specs.declared.expression.Operator.TheVariants.{Array, Boolean, Number, String, Object, ToBoolean, ToColor, ToNumber, ToString, TypeOf, Get, Has, Properties, Id, GeometryType, FeatureState, At, In, IndexOf, Length, Slice, Not, Equal, NotEqual, Less, LessOrEqual, Greater, GreaterOrEqual, All, Any, Case, Match, Coalesce, Step, Interpolate, Let, Var, Zoom, Concat, Rgb, Rgba, ToRgba, Add, Multiply, Subtract, Divide, Remainder, Abs, Ceil, Floor, Round, Min, Max, Image, IsSupportedScript, Format}
use Rattle.expr_syntax.specs.declared.parts.FormatPiece.{FormatPiece}
use Rattle.operator_values.specs.Arithmetic.{then_number}
use Rattle.operator_values.specs.Evaluated.{Evaluated, then_value}
use Rattle.std.specs.List.{slice_get}
use Rattle.eval_face.specs.Bindings.{outcomes_of, body_of}
use Rattle.eval_face.specs.Branches.{branch, case_of, output_at, with_number, ramp_at}
use Rattle.eval_face.specs.Decisions.{first_of, or_later}
use Rattle.eval_face.specs.Meaning.{meaning_by, mean, means}
use Rattle.eval_face.specs.Meanings.{Meaning, argument_of, looked_at, is_sequence, then_values, and_values, values_of}
use Rattle.eval_face.specs.Names.{BoundOutcomes, named, bound}
use Rattle.eval_face.specs.Rules.{Rule, each, deciding, cases, labels, stops, ramp, bindings, variable, rule_of}
use Rattle.eval_face.specs.World.{World}
use Rattle.expr_syntax.specs.Names.{row}
use Rattle.expr_syntax.specs.Operators.{operator_name}

abbrev shown : Evaluated → Evaluated
shown e = then_value e (fit wants.Shown)

abbrev pub IsShownAsAny : Meaning → Type 0
IsShownAsAny m = (names : BoundOutcomes) (world : World) → m wants.Shown names world ≡ shown (m wants.Any names world)

abbrev AllAreShown : List Meaning → Type 0
AllAreShown [] = Unit {0}
AllAreShown (m ∷ ms) = IsShownAsAny m × AllAreShown ms

-- ---- what is fitted last

twice : (e : Evaluated) → shown e ≡ shown (then_value e (fit wants.Any))
twice (Ok d) = refl
twice (Err fault) = refl

last_shown : (apply : List Data → Evaluated) (values : Result (List Data) EvalFault) → then_values values (λ ds. shown (apply ds)) ≡ shown (then_values values (λ ds. then_value (apply ds) (fit wants.Any)))
last_shown apply (Ok ds) = twice (apply ds)
last_shown apply (Err fault) = refl

-- ---- arguments with wants of their own

abbrev HasOwnWants : Rule → Operator → Type 0
HasOwnWants (each apply) op = (m k : ℕ) → want_of (wanted_by op m k) wants.Shown ≡ want_of (wanted_by op m k) wants.Any
HasOwnWants (deciding decides none) op = (m k : ℕ) → want_of (wanted_by op m k) wants.Shown ≡ want_of (wanted_by op m k) wants.Any
HasOwnWants _ op = Unit {0}

piece_want : (p : Option FormatPiece) → want_of (piece_wanted p) wants.Shown ≡ want_of (piece_wanted p) wants.Any
piece_want (Some p) = refl
piece_want None = refl

one_of_two : (b : Bool) (w v : Want) → want_of (if b then Own w else Own v) wants.Shown ≡ want_of (if b then Own w else Own v) wants.Any
one_of_two true w v = refl
one_of_two false w v = refl

one_of_three : (b c : Bool) (w v u : Want) → want_of (if b then Own w else if c then Own v else Own u) wants.Shown ≡ want_of (if b then Own w else if c then Own v else Own u) wants.Any
one_of_three true c w v u = refl
one_of_three false true w v u = refl
one_of_three false false w v u = refl

own_wants : (op : Operator) → HasOwnWants (rule_of op) op
own_wants (Format pieces) = λ m k. piece_want (slice_get pieces k)
own_wants Get = λ m k. one_of_two (nat_eq k 0) wants.Text wants.Object
own_wants Has = λ m k. one_of_two (nat_eq k 0) wants.Text wants.Object
own_wants At = λ m k. one_of_two (nat_eq k 0) wants.Number (wants.List items.Any None)
own_wants Slice = λ m k. one_of_two (nat_eq k 0) wants.Any wants.Number
own_wants IndexOf = λ m k. one_of_three (nat_eq k 0) (nat_eq k 1) wants.Any wants.Any wants.Number
own_wants Case = tt
own_wants (Match ls) = tt
own_wants (Step inputs) = tt
own_wants (Interpolate r) = tt
own_wants (Let names) = tt
own_wants (Var name) = tt
own_wants (Array item n) = λ m k. refl
own_wants Boolean = λ m k. refl
own_wants Number = λ m k. refl
own_wants String = λ m k. refl
own_wants Object = λ m k. refl
own_wants ToBoolean = λ m k. refl
own_wants ToColor = λ m k. refl
own_wants ToNumber = λ m k. refl
own_wants ToString = λ m k. refl
own_wants TypeOf = λ m k. refl
own_wants Properties = λ m k. refl
own_wants Id = λ m k. refl
own_wants GeometryType = λ m k. refl
own_wants FeatureState = λ m k. refl
own_wants In = λ m k. refl
own_wants Length = λ m k. refl
own_wants Not = λ m k. refl
own_wants Equal = λ m k. refl
own_wants NotEqual = λ m k. refl
own_wants Less = λ m k. refl
own_wants LessOrEqual = λ m k. refl
own_wants Greater = λ m k. refl
own_wants GreaterOrEqual = λ m k. refl
own_wants All = λ m k. refl
own_wants Any = λ m k. refl
own_wants Coalesce = λ m k. refl
own_wants Zoom = λ m k. refl
own_wants Concat = λ m k. refl
own_wants Rgb = λ m k. refl
own_wants Rgba = λ m k. refl
own_wants ToRgba = λ m k. refl
own_wants Add = λ m k. refl
own_wants Multiply = λ m k. refl
own_wants Subtract = λ m k. refl
own_wants Divide = λ m k. refl
own_wants Remainder = λ m k. refl
own_wants Abs = λ m k. refl
own_wants Ceil = λ m k. refl
own_wants Floor = λ m k. refl
own_wants Round = λ m k. refl
own_wants Min = λ m k. refl
own_wants Max = λ m k. refl
own_wants Image = λ m k. refl
own_wants IsSupportedScript = λ m k. refl

argument_same : (op : Operator) (m k : ℕ) (meaning : Meaning) (names : BoundOutcomes) (world : World) → want_of (wanted_by op m k) wants.Shown ≡ want_of (wanted_by op m k) wants.Any
    → argument_of op m k meaning wants.Shown names world ≡ argument_of op m k meaning wants.Any names world
argument_same op m k meaning names world own = λ i. looked_at (is_sequence (row (operator_name op)).sequence k) (meaning (own i) names world)

values_same : (op : Operator) → ((m k : ℕ) → want_of (wanted_by op m k) wants.Shown ≡ want_of (wanted_by op m k) wants.Any) → (m k : ℕ) (ms : List Meaning) (names : BoundOutcomes) (world : World)
    → values_of op m k ms wants.Shown names world ≡ values_of op m k ms wants.Any names world
values_same op own m k [] names world = refl
values_same op own m k (f ∷ fs) names world = λ i. and_values (argument_same op m k f names world (own m k) i) (values_same op own m (k + 1) fs names world i)

first_same : (decides : Data → Option Data) (none : Evaluated) (op : Operator) → ((m k : ℕ) → want_of (wanted_by op m k) wants.Shown ≡ want_of (wanted_by op m k) wants.Any) → (m k : ℕ) (ms : List Meaning) (names : BoundOutcomes) (world : World)
    → first_of decides none op m k ms wants.Shown names world ≡ first_of decides none op m k ms wants.Any names world
first_same decides none op own m k [] names world = refl
first_same decides none op own m k (f ∷ fs) names world =
    λ i. then_value (argument_same op m k f names world (own m k) i) (λ d. or_later (decides d) (first_same decides none op own m (k + 1) fs names world i))

-- ---- outputs

branch_shown : (condition output later any_output any_later : Evaluated) → output ≡ shown any_output → later ≡ shown any_later → branch condition output later ≡ shown (branch condition any_output any_later)
branch_shown (Ok (boolean true)) output later any_output any_later p q = p
branch_shown (Ok (boolean false)) output later any_output any_later p q = q
branch_shown (Ok null) output later any_output any_later p q = refl
branch_shown (Ok (number z)) output later any_output any_later p q = refl
branch_shown (Ok (text s)) output later any_output any_later p q = refl
branch_shown (Ok (color c)) output later any_output any_later p q = refl
branch_shown (Ok (list ds)) output later any_output any_later p q = refl
branch_shown (Ok (map ps)) output later any_output any_later p q = refl
branch_shown (Err fault) output later any_output any_later p q = refl

case_shown : (ms : List Meaning) → AllAreShown ms → IsShownAsAny (case_of ms)
case_shown [] all names world = refl
case_shown (m ∷ []) all names world = all.0 names world
case_shown (c ∷ m ∷ ms) all names world =
    branch_shown (c wants.Boolean names world) (m wants.Shown names world) (case_of ms wants.Shown names world) (m wants.Any names world) (case_of ms wants.Any names world) (all.1.0 names world) (case_shown ms all.1.1 names world)

output_shown : (ms : List Meaning) (k : ℕ) → AllAreShown ms → IsShownAsAny (output_at ms k)
output_shown [] k all names world = refl
output_shown (m ∷ ms) zero all names world = all.0 names world
output_shown (m ∷ ms) (suc k) all names world = output_shown ms k all.1 names world

then_shown : (e : Evaluated) (go any_go : Data → Evaluated) → ((d : Data) → go d ≡ shown (any_go d)) → then_value e go ≡ shown (then_value e any_go)
then_shown (Ok d) go any_go all = all d
then_shown (Err fault) go any_go all = refl

with_shown : (e : Evaluated) (go any_go : ℤ → Evaluated) → ((z : ℤ) → go z ≡ shown (any_go z)) → with_number e go ≡ shown (with_number e any_go)
with_shown (Ok (number z)) go any_go all = all z
with_shown (Ok null) go any_go all = refl
with_shown (Ok (boolean b)) go any_go all = refl
with_shown (Ok (text s)) go any_go all = refl
with_shown (Ok (color c)) go any_go all = refl
with_shown (Ok (list ds)) go any_go all = refl
with_shown (Ok (map ps)) go any_go all = refl
with_shown (Err fault) go any_go all = refl

number_shown : (answer : Result ℤ Arith) (go any_go : ℤ → Evaluated) → ((z : ℤ) → go z ≡ shown (any_go z)) → then_number answer go ≡ shown (then_number answer any_go)
number_shown (Ok z) go any_go all = all z
number_shown (Err fault) go any_go all = refl

body_shown : (ms : List Meaning) → AllAreShown ms → IsShownAsAny (body_of ms)
body_shown [] all names world = refl
body_shown (m ∷ []) all names world = all.0 names world
body_shown (m ∷ n ∷ ms) all names world = refl

drop_shown : (n : ℕ) (ms : List Meaning) → AllAreShown ms → AllAreShown (drop n ms)
drop_shown zero [] all = tt
drop_shown zero (m ∷ ms) all = all
drop_shown (suc n) [] all = tt
drop_shown (suc n) (m ∷ ms) all = drop_shown n ms all.1

-- ---- nodes

rule_shown : (r : Rule) (op : Operator) (ms : List Meaning) → HasOwnWants r op → AllAreShown ms → IsShownAsAny (meaning_by r op ms)
rule_shown (each apply) op ms own all names world =
    ap (λ vs. then_values vs (λ ds. shown (apply world ds))) (values_same op own (length ms) 0 ms names world) ∙ last_shown (apply world) (values_of op (length ms) 0 ms wants.Any names world)
rule_shown (deciding decides none) op ms own all names world =
    ap shown (first_same decides none op own (length ms) 0 ms names world) ∙ twice (first_of decides none op (length ms) 0 ms wants.Any names world)
rule_shown cases op ms own all names world = case_shown ms all names world
rule_shown (labels ls) op [] own all names world = refl
rule_shown (labels ls) op (m ∷ ms) own all names world = then_shown (m wants.Any names world) _ _ (λ d. output_shown ms (output_of ls d (length ms - 1)) all.1 names world)
rule_shown (stops inputs) op [] own all names world = refl
rule_shown (stops inputs) op (m ∷ ms) own all names world = with_shown (m wants.Number names world) _ _ (λ x. output_shown ms (count_not_above x inputs) all.1 names world)
rule_shown (ramp curve inputs) op [] own all names world = refl
rule_shown (ramp curve inputs) op (m ∷ ms) own all names world =
    with_shown (m wants.Number names world) _ _ (λ v. number_shown (warp_of curve inputs v) _ _ (λ x. twice (ramp_at inputs ms x (place_of inputs x) wants.Any names world)))
rule_shown (bindings bs) op ms own all names world =
    body_shown (drop (length bs) ms) (drop_shown (length bs) ms all) (bound bs (outcomes_of (take (length bs) ms) names world) ∷ names) world
rule_shown (variable name) op ms own all names world = twice (named names name)

mutual
  pub mean_shown : (t : Term) → IsShownAsAny (mean t)
  mean_shown (literal d) = λ names world. refl
  mean_shown (node op ts) = λ names world. rule_shown (rule_of op) op (means ts) (own_wants op) (means_shown ts) names world

  means_shown : (ts : Terms) → AllAreShown (means ts)
  means_shown no_terms = tt
  means_shown (term t ts) = (mean_shown t, means_shown ts)
