-- The labels of one output.
use Rattle.std.proofs.Common.{◌≡◌, ◌≤◌, List, [], ◌∷◌, ℕ, refl, length, arith}
use Rattle.decimal_json.specs.View.{trees}
use Rattle.decimal_json.specs.declared.tree.Json.{Json}
use Rattle.expr_syntax.specs.declared.labels.Collected.{Collected}
use Rattle.expr_syntax.specs.Parts.{collect_labels, collect_some}

pub some_labels : (output : ℕ) (js : List Json) (found : Collected) → 1 ≤ length js → collect_some output (trees js) found ≡ collect_labels output (trees js) found
some_labels output [] found h = absurd (omega arith)
some_labels output (j ∷ js) found h = refl
