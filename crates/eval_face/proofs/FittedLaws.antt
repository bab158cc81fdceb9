-- Each value is fitted: what is fitted last is, and an output that is chosen is where each is.
use Rattle.std.specs.Prelude.{◌≡◌, ℕ, ◌-◌, ℤ, List, [], ◌∷◌, length, take, drop, true, false, Result, Ok, Err, refl}
use Rattle.std.proofs.Common.{zero, suc, subst}
use Rattle.fixed_num.specs.declared.fixed.Arith.{Arith}
use Rattle.prop_values.specs.Data.{Data, null, boolean, number, text, color, list, map}
use Rattle.prop_values.specs.declared.fault.EvalFault.{EvalFault}
use Rattle.prop_values.specs.declared.kinds.Want.{Want}
use Rattle.prop_values.specs.declared.outcome.Curve.{Curve}
use Rattle.property_tables.specs.Fitting.{fit}
use Rattle.property_tables.proofs.Stays.{fit_again}
use Rattle.interpolate_fixed.specs.Places.{place_of}
use Rattle.interpolate_fixed.specs.Warp.{warp_of}
use Rattle.expr_syntax.specs.Term.{Term, literal, node, Terms, no_terms, term}
use Rattle.expr_syntax.specs.declared.expression.Operator.{Operator}
use Rattle.expr_syntax.specs.declared.parts.Labelled.{Labelled}
use Rattle.expr_syntax.specs.Chosen.{output_of}
use Rattle.expr_syntax.specs.Operators.{ramp_want}
use Rattle.operator_values.specs.Arithmetic.{then_number}
use Rattle.operator_values.specs.Evaluated.{Evaluated, then_value}
use Rattle.prop_values.specs.declared.kinds.Want.TheVariants as wants
use Rattle.eval_face.specs.World.{World}
use Rattle.eval_face.specs.Names.{BoundOutcomes, named, bound}
use Rattle.eval_face.specs.Meanings.{Meaning, then_values, values_of}
use Rattle.eval_face.specs.Bindings.{outcomes_of, body_of}
use Rattle.eval_face.specs.Branches.{branch, case_of, output_at, match_of, with_number, step_of, ramp_of, ramp_at}
use Rattle.eval_face.specs.Decisions.{first_of}
use Rattle.eval_face.specs.Rules.{Rule, each, deciding, cases, labels, stops, ramp, bindings, variable, rule_of}
use Rattle.eval_face.specs.Meaning.{meaning_by, mean, means}
use Rattle.eval_face.specs.Fitted.{EachValueIsFitted}

-- a value that was given is fitted; a fault may be any
abbrev pub IsFitted : Want → Evaluated → Type 0
IsFitted want (Ok d) = fit want d ≡ Ok d
IsFitted want (Err fault) = Unit {0}

abbrev pub GivesFitted : Meaning → Type 0
GivesFitted m = (want : Want) (names : BoundOutcomes) (world : World) → IsFitted want (m want names world)

abbrev pub AllGiveFitted : List Meaning → Type 0
AllGiveFitted [] = Unit {0}
AllGiveFitted (m ∷ ms) = GivesFitted m × AllGiveFitted ms

-- what fitting gives is fitted
given : (want : Want) (d : Data) (e : Evaluated) → fit want d ≡ e → IsFitted want e
given want d (Ok e) fits = fit_again want d e fits
given want d (Err fault) fits = tt

fit_gives : (want : Want) (d : Data) → IsFitted want (fit want d)
fit_gives want d = given want d (fit want d) refl

fit_last : (want : Want) (e : Evaluated) → IsFitted want (then_value e (fit want))
fit_last want (Ok d) = fit_gives want d
fit_last want (Err fault) = tt

values_last : (want : Want) (apply : List Data → Evaluated) (values : Result (List Data) EvalFault) → IsFitted want (then_values values (λ ds. then_value (apply ds) (fit want)))
values_last want apply (Ok ds) = fit_last want (apply ds)
values_last want apply (Err fault) = tt

-- an output that is chosen is fitted where each is
branch_fitted : (want : Want) (condition output later : Evaluated) → IsFitted want output → IsFitted want later → IsFitted want (branch condition output later)
branch_fitted want (Ok (boolean true)) output later a b = a
branch_fitted want (Ok (boolean false)) output later a b = b
branch_fitted want (Ok null) output later a b = tt
branch_fitted want (Ok (number z)) output later a b = tt
branch_fitted want (Ok (text s)) output later a b = tt
branch_fitted want (Ok (color c)) output later a b = tt
branch_fitted want (Ok (list ds)) output later a b = tt
branch_fitted want (Ok (map ps)) output later a b = tt
branch_fitted want (Err fault) output later a b = tt

case_fitted : (ms : List Meaning) → AllGiveFitted ms → GivesFitted (case_of ms)
case_fitted [] all want names world = tt
case_fitted (m ∷ []) all want names world = all.0 want names world
case_fitted (c ∷ m ∷ ms) all want names world = branch_fitted want (c wants.Boolean names world) (m want names world) (case_of ms want names world) (all.1.0 want names world) (case_fitted ms all.1.1 want names world)

output_fitted : (ms : List Meaning) (k : ℕ) → AllGiveFitted ms → GivesFitted (output_at ms k)
output_fitted [] k all want names world = tt
output_fitted (m ∷ ms) zero all want names world = all.0 want names world
output_fitted (m ∷ ms) (suc k) all want names world = output_fitted ms k all.1 want names world

then_fitted : (want : Want) (e : Evaluated) (go : Data → Evaluated) → ((d : Data) → IsFitted want (go d)) → IsFitted want (then_value e go)
then_fitted want (Ok d) go all = all d
then_fitted want (Err fault) go all = tt

with_fitted : (want : Want) (e : Evaluated) (go : ℤ → Evaluated) → ((z : ℤ) → IsFitted want (go z)) → IsFitted want (with_number e go)
with_fitted want (Ok (number z)) go all = all z
with_fitted want (Ok null) go all = tt
with_fitted want (Ok (boolean b)) go all = tt
with_fitted want (Ok (text s)) go all = tt
with_fitted want (Ok (color c)) go all = tt
with_fitted want (Ok (list ds)) go all = tt
with_fitted want (Ok (map ps)) go all = tt
with_fitted want (Err fault) go all = tt

number_fitted : (want : Want) (answer : Result ℤ Arith) (go : ℤ → Evaluated) → ((z : ℤ) → IsFitted want (go z)) → IsFitted want (then_number answer go)
number_fitted want (Ok z) go all = all z
number_fitted want (Err fault) go all = tt

match_fitted : (ls : List Labelled) (ms : List Meaning) → AllGiveFitted ms → GivesFitted (match_of ls ms)
match_fitted ls [] all want names world = tt
match_fitted ls (input ∷ outputs) all want names world = then_fitted want (input wants.Any names world) _ (λ d. output_fitted outputs (output_of ls d (length outputs - 1)) all.1 want names world)

step_fitted : (inputs : List ℤ) (ms : List Meaning) → AllGiveFitted ms → GivesFitted (step_of inputs ms)
step_fitted inputs [] all want names world = tt
step_fitted inputs (value ∷ outputs) all want names world = with_fitted want (value wants.Number names world) _ (λ x. output_fitted outputs _ all.1 want names world)

ramp_fitted : (curve : Curve) (inputs : List ℤ) (ms : List Meaning) → GivesFitted (ramp_of curve inputs ms)
ramp_fitted curve inputs [] want names world = tt
ramp_fitted curve inputs (value ∷ outputs) want names world = with_fitted want (value wants.Number names world) _ (λ v. number_fitted want (warp_of curve inputs v) _ (λ x. fit_last want (ramp_at inputs outputs x (place_of inputs x) (ramp_want want) names world)))

body_fitted : (ms : List Meaning) → AllGiveFitted ms → GivesFitted (body_of ms)
body_fitted [] all want names world = tt
body_fitted (m ∷ []) all want names world = all.0 want names world
body_fitted (m ∷ n ∷ ms) all want names world = tt

drop_fitted : (n : ℕ) (ms : List Meaning) → AllGiveFitted ms → AllGiveFitted (drop n ms)
drop_fitted zero [] all = tt
drop_fitted zero (m ∷ ms) all = all
drop_fitted (suc n) [] all = tt
drop_fitted (suc n) (m ∷ ms) all = drop_fitted n ms all.1

-- of whatever arguments: a node's value is fitted where those of its outputs are
rule_fitted : (r : Rule) (op : Operator) (ms : List Meaning) → AllGiveFitted ms → GivesFitted (meaning_by r op ms)
rule_fitted (each apply) op ms all want names world = values_last want (apply world) (values_of op (length ms) 0 ms want names world)
rule_fitted (deciding decides none) op ms all want names world = fit_last want (first_of decides none op (length ms) 0 ms want names world)
rule_fitted cases op ms all want names world = case_fitted ms all want names world
rule_fitted (labels ls) op ms all want names world = match_fitted ls ms all want names world
rule_fitted (stops inputs) op ms all want names world = step_fitted inputs ms all want names world
rule_fitted (ramp curve inputs) op ms all want names world = ramp_fitted curve inputs ms want names world
rule_fitted (bindings bs) op ms all want names world = body_fitted (drop (length bs) ms) (drop_fitted (length bs) ms all) want (bound bs (outcomes_of (take (length bs) ms) names world) ∷ names) world
rule_fitted (variable name) op ms all want names world = fit_last want (named names name)

mutual
  mean_fitted : (t : Term) → GivesFitted (mean t)
  mean_fitted (literal d) = λ want names world. fit_gives want d
  mean_fitted (node op ts) = λ want names world. rule_fitted (rule_of op) op (means ts) (means_fitted ts) want names world

  means_fitted : (ts : Terms) → AllGiveFitted (means ts)
  means_fitted no_terms = tt
  means_fitted (term t ts) = (mean_fitted t, means_fitted ts)

pub each_value_is_fitted : EachValueIsFitted
each_value_is_fitted t want names world d gives = subst (IsFitted want) gives (mean_fitted t want names world)
