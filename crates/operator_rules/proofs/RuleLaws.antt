-- Where no part of an operator decides, its rule is that of the manner in its row.
use Rattle.std.proofs.Common.{◌≡◌, ℕ, ℤ, List, refl}
use Rattle.prop_values.specs.declared.outcome.Curve.{Curve}
use Rattle.expr_syntax.specs.declared.expression.Operator.{Operator}
use Rattle.expr_syntax.specs.declared.expression.Operator.TheVariants.{Boolean, Number, String, Object, ToColor, ToNumber, All, Any, Case, Match, Coalesce, Step, Interpolate, Let, Var}
use Rattle.expr_syntax.specs.declared.parts.Labelled.{Labelled}
use Rattle.expr_syntax.specs.declared.rows.Manner.{Manner}
use Rattle.expr_syntax.specs.declared.rows.Manner.TheVariants as manners
use Rattle.expr_syntax.specs.Names.{row}
use Rattle.expr_syntax.specs.Operators.{operator_name}
use Rattle.eval_face.specs.Rules.{each, rule_of}
use Rattle.operator_rules.specs.RuleParts.{applied_by}

abbrev pub manner_of : Operator → Manner
manner_of op = (row (operator_name op)).manner

-- none of the operators whose parts decide
abbrev pub HasNoPartThatDecides : Operator → Type 0
HasNoPartThatDecides op =
    (op ≡ Case → ⊥)
    × ((ls : List Labelled) → op ≡ Match ls → ⊥)
    × ((inputs : List ℤ) → op ≡ Step inputs → ⊥)
    × ((r : Curve × List ℤ) → op ≡ Interpolate r → ⊥)
    × ((names : List (List ℕ)) → op ≡ Let names → ⊥)
    × ((name : List ℕ) → op ≡ Var name → ⊥)

pub each_rule : (op : Operator) → HasNoPartThatDecides op → (manner_of op ≡ manners.Deciding → ⊥) → each (applied_by (rule_of op)) ≡ rule_of op
each_rule Case p d = absurd (p.0 refl)
each_rule (Match ls) p d = absurd (p.1 ls refl)
each_rule (Step inputs) p d = absurd (p.2 inputs refl)
each_rule (Interpolate r) p d = absurd (p.3 r refl)
each_rule (Let names) p d = absurd (p.4 names refl)
each_rule (Var name) p d = absurd (p.5 name refl)
each_rule Boolean p d = absurd (d refl)
each_rule Number p d = absurd (d refl)
each_rule String p d = absurd (d refl)
each_rule Object p d = absurd (d refl)
each_rule ToColor p d = absurd (d refl)
each_rule ToNumber p d = absurd (d refl)
each_rule All p d = absurd (d refl)
each_rule Any p d = absurd (d refl)
each_rule Coalesce p d = absurd (d refl)
each_rule _ p d = refl
