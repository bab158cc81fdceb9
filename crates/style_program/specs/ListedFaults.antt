-- The fault that `value` prints is one of those that are listed for the expression.
use Rattle.std.specs.Prelude.{◌≡◌, ℕ, List, [], Bool, true, Some, Ok, Err}
use Rattle.json_tokens.specs.Rules.{all_rules}
use Rattle.decimal_json.specs.Grammar.{Spells}
use Rattle.decimal_json.specs.Tree.{Tree}
use Rattle.prop_values.specs.Faults.{holds}
use Rattle.prop_values.specs.declared.fault.EvalFault.{EvalFault}
use Rattle.prop_values.specs.declared.kinds.Want.TheVariants.{Any}
use Rattle.expr_syntax.specs.Reading.{reading}
use Rattle.expr_syntax.specs.Term.{Term}
use Rattle.expr_types.specs.Checked.{checked_free}
use Rattle.expr_types.specs.Typing.{TypedNodes}
use Rattle.eval_face.specs.Meaning.{mean}
use Rattle.style_program.specs.ValueRun.{value_world}
use Rattle.style_program.specs.Words as words

-- A text is that of an expression which is well typed and gives a fault, and the fault is one of those that
-- typing lists.
pub record GivesListedFault (images scripts : List ℕ → Bool) (expression : List ℕ) : Type 0 where
  pub tree : Tree
  pub spelled : Spells all_rules expression tree
  pub term : Term
  pub read : reading tree ≡ Ok (Some term)
  pub found : TypedNodes
  pub typed : checked_free term ≡ Ok found
  pub fault : EvalFault
  pub given : mean term Any [] (value_world images scripts) ≡ Err fault
  pub listed : holds found.node.may fault ≡ true

-- what holds of `value`, where it ends in a fault
abbrev pub ListsItsFault : (images scripts : List ℕ → Bool) → words.Asked → Type 0
ListsItsFault images scripts (words.Value expression) = GivesListedFault images scripts expression
ListsItsFault images scripts _ = Unit {0}
