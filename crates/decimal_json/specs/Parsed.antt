-- What reading a byte string answers.
use Rattle.std.specs.Prelude.{◌≡◌, ℕ, List, Result, Ok, Err}
use Rattle.json_tokens.specs.Rules.{all_rules}
use Rattle.decimal_json.specs.declared.tree.Json.{Json}
use Rattle.decimal_json.specs.declared.fault.JsonFault.{JsonFault}
use Rattle.decimal_json.specs.Tree.{Tree}
use Rattle.decimal_json.specs.View.{tree_of}
use Rattle.decimal_json.specs.Grammar.{Spells}
use Rattle.decimal_json.specs.Parses.{IsAccepted, IsKind, IsPlace}

-- The bytes spell this tree and no other; or they spell none, and the fault has its place and its kind.
-- Source: own.
abbrev pub Parses : List ℕ → Result Json JsonFault → Type 0
Parses b (Ok json) = Spells all_rules b (tree_of json) × ((t : Tree) → Spells all_rules b t → t ≡ tree_of json)
Parses b (Err fault) = IsPlace b fault.at × IsKind fault.kind b fault.at × (IsAccepted all_rules b → ⊥)
