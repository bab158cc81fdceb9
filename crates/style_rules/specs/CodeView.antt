-- What contracts see of the program's values.
use Rattle.std.specs.Prelude.{ℕ, List, Bool, Option, option_map, is_some, Result, Ok, Err}
use Rattle.std.specs.Borrow.{Bor}
use Rattle.decimal_json.specs.Tree.{Tree, Fields, fields_of}
use Rattle.decimal_json.specs.View.{tree_at}
use Rattle.decimal_json.specs.declared.paths.PathPart.{PathPart}
use Rattle.prop_values.specs.Data.{Data, pairs_of}
use Rattle.prop_values.specs.Equality.{at_key}
use Rattle.prop_values.specs.declared.fault.FaultSet.{FaultSet}
use Rattle.style_rules.specs.LayerContext.{LayerContext as Base}
use Rattle.style_rules.specs.declared.layer_context.LayerContext.{LayerContext}
use Rattle.style_rules.specs.declared.layer_context.LayerMembers.{LayerMembers}
use Rattle.style_rules.specs.declared.diagnostics.Mark.{Mark}
use Rattle.style_rules.specs.declared.diagnostics.Mark.TheVariants.{Sound, Broken}
use Rattle.style_rules.specs.Values.{rule_of}
use Rattle.expr_types.specs.Judged.{Judged}
use Rattle.expr_types.specs.JudgedFacts.{may_of}
use Rattle.expr_types.specs.declared.fault.TypeFault.{TypeFault}
use Rattle.style_rules.specs.declared.lists.Finding.{Finding}
use Rattle.style_rules.specs.declared.lists.MayLine.{MayLine}

-- the fields of an object, where it is there
abbrev pub fields_at : Option (Bor (List (List ℕ × Tree))) → Option Fields
fields_at = option_map (λ (members : Bor (List (List ℕ × Tree))). fields_of members.now)

abbrev pub text_at : Option (Bor (List ℕ)) → Option (List ℕ)
text_at = option_map (λ (name : Bor (List ℕ)). name.now)

abbrev pub context_seen : LayerContext → Base
context_seen g = record { type = g.layer_type; sources = fields_at g.sources; source_type = text_at g.source_type }

-- the members of a layer that rules on other members read
pub record MemberTrees : Type 0 where
  pub id : Option Tree
  pub layer_type : Option Tree
  pub source : Option Tree
  pub source_layer : Option Tree
  pub has_ref : Bool

abbrev pub parts_seen : LayerMembers → MemberTrees
parts_seen p = record {
  id = tree_at p.id;
  layer_type = tree_at p.layer_type;
  source = tree_at p.source;
  source_layer = tree_at p.source_layer;
  has_ref = p.has_ref;
}

-- what is reported of an expression that was checked
abbrev pub judged_mark : Result Judged TypeFault → Mark
judged_mark (Ok found) = Sound (may_of found)
judged_mark (Err fault) = Broken fault.path (rule_of fault.code)

-- a text is a key of a map
abbrev pub has_name : List (List ℕ × Data) → List ℕ → Bool
has_name index name = is_some (at_key name (pairs_of index))

abbrev pub finding_seen : Finding → List PathPart × ℕ
finding_seen f = (f.path, f.rule)

abbrev pub may_seen : MayLine → List PathPart × FaultSet
may_seen m = (m.path, m.faults)
