-- The run of `validate`: what a style breaks, or what may still go wrong. Source: own.
use Rattle.std.specs.Prelude.{ℕ, List, [], ◌∷◌, ◌++◌, flat_map, codes, decimal, if◌then◌else◌}
use Rattle.decimal_json.specs.Place.{path_json}
use Rattle.decimal_json.specs.Tree.{Tree}
use Rattle.decimal_json.specs.declared.paths.PathPart.{PathPart}
use Rattle.prop_values.specs.Faults.{fault_name, holds}
use Rattle.prop_values.specs.declared.fault.EvalFault.{EvalFault}
use Rattle.prop_values.specs.declared.fault.FaultSet.{FaultSet}
use Rattle.program_runs.specs.declared.status.Ending.TheVariants.{Fine, Found}
use Rattle.program_runs.specs.Outcome.{RunOutcome, line, said}
use Rattle.program_runs.specs.Runs.{Run, ends}
use Rattle.style_program.specs.StyleFile.{style_part}
use Rattle.style_rules.specs.Findings.{findings, notes, may_lines, every_fault}

-- a place that breaks a rule: its path as a JSON string, and the rule by its number
abbrev pub finding_line : List PathPart × ℕ → List ℕ
finding_line f = line (codes "finding " ++ (path_json f.0 ++ (codes " V" ++ decimal f.1)))

-- a value or filter that is outside of what is evaluated
abbrev pub note_line : List PathPart → List ℕ
note_line path = line (codes "note " ++ (path_json path ++ codes " outside"))

-- the name of a fault after a space, where the set has it
abbrev pub fault_word : FaultSet → EvalFault → List ℕ
fault_word faults fault = if holds faults fault then codes " " ++ fault_name fault else []

-- a value or filter whose evaluation may fault, and the faults in order of number
abbrev pub may_line : List PathPart × FaultSet → List ℕ
may_line m = line (codes "may " ++ (path_json m.0 ++ flat_map (fault_word m.1) every_fault))

-- a style that breaks rules
abbrev pub broken_text : List (List PathPart × ℕ) → List ℕ
broken_text found = flat_map finding_line found ++ line (codes "invalid")

-- a style that breaks none
abbrev pub sound_text : List (List PathPart) → List (List PathPart × FaultSet) → List ℕ
sound_text outside may = flat_map note_line outside ++ (flat_map may_line may ++ line (codes "valid"))

abbrev pub outcome_by : List (List PathPart × ℕ) → List (List PathPart) → List (List PathPart × FaultSet) → RunOutcome
outcome_by [] outside may = said (sound_text outside may) Fine
outcome_by (f ∷ found) outside may = said (broken_text (f ∷ found)) Found

abbrev pub validate_outcome : Tree → RunOutcome
validate_outcome t = outcome_by (findings t) (notes t) (may_lines t)

abbrev pub validate_run : List ℕ → Run
validate_run name = style_part name (λ t. ends (validate_outcome t))
