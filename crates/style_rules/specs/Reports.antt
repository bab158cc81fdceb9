-- The three lists of what is reported of a document.
use Rattle.std.specs.Prelude.{◌≡◌, List, [], ◌∷◌, ◌++◌, map}
use Rattle.decimal_json.specs.Tree.{Tree}
use Rattle.style_rules.specs.CodeView.{finding_seen, may_seen}
use Rattle.style_rules.specs.Findings.{reports, findings_in, notes_in, may_in}
use Rattle.style_rules.specs.declared.lists.Report.{Report}
use Rattle.style_rules.specs.declared.diagnostics.Diagnostic.{Diagnostic}

pub record IsReportOf (reports : List Diagnostic) (report : Report) : Type 0 where
  pub findings : map finding_seen report.findings ≡ findings_in reports
  pub notes : report.notes ≡ notes_in reports
  pub may_lines : map may_seen report.may_lines ≡ may_in reports

-- the findings, notes and may lines of a document
abbrev pub IsReport : Tree → Report → Type 0
IsReport document report = IsReportOf (reports document) report

-- a report as it was, and with what is reported of one place more
pub record AddsReport (diagnostic : Diagnostic) (old new : Report) : Type 0 where
  pub findings : map finding_seen new.findings ≡ map finding_seen old.findings ++ findings_in (diagnostic ∷ [])
  pub notes : new.notes ≡ old.notes ++ notes_in (diagnostic ∷ [])
  pub may_lines : map may_seen new.may_lines ≡ map may_seen old.may_lines ++ may_in (diagnostic ∷ [])
