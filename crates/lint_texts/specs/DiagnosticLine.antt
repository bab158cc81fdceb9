-- The line of a diagnostic of a style: what it is about, then its sentence. A finding is an error; a value that is
-- outside of what is evaluated has a note; a value whose evaluation may fault has a warning. Source: own.
use Rattle.std.specs.Prelude.{ℕ, List, [], ◌∷◌, ◌++◌, codes, if◌then◌else◌}
use Rattle.decimal_json.specs.Tree.{Tree}
use Rattle.decimal_json.specs.declared.paths.PathPart.{PathPart}
use Rattle.prop_values.specs.Faults.{fault_name, holds}
use Rattle.prop_values.specs.declared.fault.EvalFault.{EvalFault}
use Rattle.prop_values.specs.declared.fault.FaultSet.{FaultSet}
use Rattle.style_rules.specs.Findings.{every_fault}
use Rattle.text_places.specs.TextPlace.{text_place}
use Rattle.text_places.specs.declared.place.TextPlace.{TextPlace}
use Rattle.finding_sentences.specs.MaySentence.{may_sentence}
use Rattle.finding_sentences.specs.Sentence.{marked_sentence}
use Rattle.finding_sentences.specs.Subject.{subject}
use Rattle.finding_sentences.specs.Words.{words}
use Rattle.lint_texts.specs.Diagnostics.{StyleDiagnostic, finding, note, may}
use Rattle.lint_texts.specs.LintLine.{LintLine}
use Rattle.lint_texts.specs.declared.line.Severity.{Severity}
use Rattle.lint_texts.specs.declared.line.Severity.TheVariants as severity

abbrev pub diagnostic_path : StyleDiagnostic → List PathPart
diagnostic_path (finding path rule) = path
diagnostic_path (note path) = path
diagnostic_path (may path faults) = path

abbrev pub diagnostic_severity : StyleDiagnostic → Severity
diagnostic_severity (finding path rule) = severity.Error
diagnostic_severity (note path) = severity.Note
diagnostic_severity (may path faults) = severity.Warning

-- the names of those of these faults that a set has, this before the first of them, a space before each other
abbrev pub fault_names : FaultSet → (before : List ℕ) → List EvalFault → List ℕ
fault_names faults before [] = []
fault_names faults before (fault ∷ among) =
    if holds faults fault then before ++ (fault_name fault ++ fault_names faults (codes " ") among)
    else fault_names faults before among

abbrev pub diagnostic_sentence : Tree → StyleDiagnostic → List ℕ
diagnostic_sentence t (finding path rule) = marked_sentence t path rule
diagnostic_sentence t (note path) = codes "not evaluated here [outside]"
diagnostic_sentence t (may path faults) =
    words (may_sentence t path faults ∷ fault_names faults (codes " [") every_fault ∷ codes "]" ∷ [])

abbrev pub message : Tree → StyleDiagnostic → List ℕ
message t d = words (subject t (diagnostic_path d) ∷ codes ": " ∷ diagnostic_sentence t d ∷ [])

-- at a place of the file
abbrev pub placed_line : Tree → TextPlace → StyleDiagnostic → LintLine
placed_line t place d = record { severity = diagnostic_severity d; place = place; message = message t d }

-- where the text of the file spells the style: at the name of the member, or at the element
abbrev pub diagnostic_line : (text : List ℕ) → Tree → StyleDiagnostic → LintLine
diagnostic_line text t d = placed_line t (text_place text t (diagnostic_path d)) d
