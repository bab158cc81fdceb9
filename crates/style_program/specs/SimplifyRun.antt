-- The run of `simplify`: the simplified style as JSON and the filters that no feature passes any more, or what the
-- style breaks. Source: own.
use Rattle.std.specs.Prelude.{ℕ, List, [], ◌∷◌, ◌++◌, codes, flat_map}
use Rattle.decimal_json.specs.JsonText.{json_text}
use Rattle.decimal_json.specs.Place.{path_json}
use Rattle.decimal_json.specs.Tree.{Tree}
use Rattle.decimal_json.specs.declared.paths.PathPart.{PathPart}
use Rattle.program_runs.specs.declared.status.Ending.TheVariants.{Fine, Found}
use Rattle.program_runs.specs.Outcome.{RunOutcome, line, said}
use Rattle.program_runs.specs.Runs.{Run, ends}
use Rattle.style_simplify.specs.SimplifiedStyle.{never_passed, simplified}
use Rattle.style_program.specs.StyleFile.{style_part}
use Rattle.style_program.specs.ValidateRun.{broken_text}
use Rattle.style_rules.specs.Findings.{findings}

-- a filter that became false
abbrev pub never_line : List PathPart → List ℕ
never_line path = line (codes "never " ++ path_json path)

abbrev pub simplified_text : Tree → List (List PathPart) → List ℕ
simplified_text t never = line (json_text t) ++ flat_map never_line never

-- a style with findings is answered as `validate` answers it
abbrev pub simplified_or_broken : List (List PathPart × ℕ) → Tree → RunOutcome
simplified_or_broken [] t = said (simplified_text (simplified t) (never_passed t (simplified t))) Fine
simplified_or_broken (f ∷ found) t = said (broken_text (f ∷ found)) Found

abbrev pub simplify_outcome : Tree → RunOutcome
simplify_outcome t = simplified_or_broken (findings t) t

abbrev pub simplify_run : List ℕ → Run
simplify_run name = style_part name (λ t. ends (simplify_outcome t))
