-- Elements of a node, one after another.
use Rattle.std.proofs.Common.{◌≡◌, suc, List, [], ◌∷◌, ◌++◌, refl, ap, length}
use Rattle.std.specs.Prelude.{Result, Ok, Err}
use Rattle.decimal_json.specs.Falls.{item_weight, member_weight}
use Rattle.decimal_json.specs.View.{trees}
use Rattle.decimal_json.specs.declared.tree.Json.{Json}
use Rattle.expr_syntax.specs.declared.fault.SynFault.{SynFault}
use Rattle.expr_syntax.specs.Term.{Term}
use Rattle.expr_syntax.specs.Standing as standing
use Rattle.expr_syntax.specs.Reading as reading

pub elements_length : (items : List Json) → length (standing.elements (trees items)) ≡ length items
elements_length [] = refl
elements_length (j ∷ items) = ap suc (elements_length items)

pub readers_length : (items : List Json) → length (reading.elements (trees items)) ≡ length items
readers_length [] = refl
readers_length (j ∷ items) = ap suc (readers_length items)

-- the arguments so far, and then those to come
abbrev pub after_terms : List Term → Result (List Term) SynFault → Result (List Term) SynFault
after_terms ts (Ok us) = Ok (ts ++ us)
after_terms ts (Err f) = Err f

-- what walks over elements want
pub ruleset reading_rules = (item_weight, member_weight, readers_length)

pub ruleset standing_rules = (item_weight, member_weight, elements_length)
