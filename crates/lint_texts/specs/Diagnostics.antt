-- What `validate` has a line for, in the order of its lines: the findings of a style; of a style without findings the
-- notes, and then the may lines. Source: own.
use Rattle.std.specs.Prelude.{ℕ, List, [], ◌∷◌, ◌++◌, map}
use Rattle.decimal_json.specs.Tree.{Tree}
use Rattle.decimal_json.specs.declared.paths.PathPart.{PathPart}
use Rattle.prop_values.specs.declared.fault.FaultSet.{FaultSet}
use Rattle.style_rules.specs.Findings.{findings, notes, may_lines}

-- what is reported of the place of a path
pub data StyleDiagnostic : Type 0 where
  -- it breaks this rule
  finding : (path : List PathPart) → (rule : ℕ) → StyleDiagnostic
  -- it is outside of what is evaluated
  note : (path : List PathPart) → StyleDiagnostic
  -- its evaluation may have these faults
  may : (path : List PathPart) → FaultSet → StyleDiagnostic

abbrev pub finding_diagnostic : List PathPart × ℕ → StyleDiagnostic
finding_diagnostic f = finding f.0 f.1

abbrev pub may_diagnostic : List PathPart × FaultSet → StyleDiagnostic
may_diagnostic m = may m.0 m.1

abbrev pub diagnostics_by : List (List PathPart × ℕ) → List (List PathPart) → List (List PathPart × FaultSet)
    → List StyleDiagnostic
diagnostics_by [] outside may_fault = map note outside ++ map may_diagnostic may_fault
diagnostics_by (f ∷ found) outside may_fault = map finding_diagnostic (f ∷ found)

abbrev pub style_diagnostics : Tree → List StyleDiagnostic
style_diagnostics t = diagnostics_by (findings t) (notes t) (may_lines t)
