-- The run of `migrate`: the migrated style as JSON, or what the style breaks. Source: own.
use Rattle.std.specs.Prelude.{ℕ, List, [], ◌∷◌}
use Rattle.decimal_json.specs.JsonText.{json_text}
use Rattle.decimal_json.specs.Tree.{Tree}
use Rattle.decimal_json.specs.declared.paths.PathPart.{PathPart}
use Rattle.program_runs.specs.declared.status.Ending.TheVariants.{Fine, Found}
use Rattle.program_runs.specs.Outcome.{RunOutcome, line, said}
use Rattle.program_runs.specs.Runs.{Run, ends}
use Rattle.style_migrate.specs.Migrated.{migrated}
use Rattle.style_program.specs.StyleFile.{style_part}
use Rattle.style_program.specs.ValidateRun.{broken_text}
use Rattle.style_rules.specs.Findings.{findings}

-- a style with findings is answered as `validate` answers it
abbrev pub migrated_or_broken : List (List PathPart × ℕ) → Tree → RunOutcome
migrated_or_broken [] t = said (line (json_text (migrated t))) Fine
migrated_or_broken (f ∷ found) t = said (broken_text (f ∷ found)) Found

abbrev pub migrate_outcome : Tree → RunOutcome
migrate_outcome t = migrated_or_broken (findings t) t

abbrev pub migrate_run : List ℕ → Run
migrate_run name = style_part name (λ t. ends (migrate_outcome t))
