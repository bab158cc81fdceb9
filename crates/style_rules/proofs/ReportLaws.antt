-- The lists of what is reported of one place after others.
use Rattle.std.specs.Prelude.{◌≡◌, List, [], ◌∷◌, ◌++◌, Bool, true, false, if◌then◌else◌}
use Rattle.std.proofs.Common.{refl, sym, ap, ◌∙◌}
use Rattle.style_rules.specs.Findings.{findings_in, notes_in, may_in, with_faults, has_faults}
use Rattle.style_rules.specs.Reports.{IsReportOf, AddsReport}
use Rattle.style_rules.specs.declared.lists.Report.{Report}
use Rattle.style_rules.specs.declared.diagnostics.Diagnostic.{Diagnostic}
use Rattle.style_rules.specs.declared.diagnostics.Diagnostic.TheVariants.{Finding, Note, May}

pub findings_append : (ts : List Diagnostic) (t : Diagnostic) → findings_in (ts ++ t ∷ []) ≡ findings_in ts ++ findings_in (t ∷ [])
findings_append [] t = refl
findings_append (Finding path rule ∷ ts) t = ap (λ fs. (path, rule) ∷ fs) (findings_append ts t)
findings_append (Note path ∷ ts) t = findings_append ts t
findings_append (May path faults ∷ ts) t = findings_append ts t

pub notes_append : (ts : List Diagnostic) (t : Diagnostic) → notes_in (ts ++ t ∷ []) ≡ notes_in ts ++ notes_in (t ∷ [])
notes_append [] t = refl
notes_append (Finding path rule ∷ ts) t = notes_append ts t
notes_append (Note path ∷ ts) t = ap (λ ps. path ∷ ps) (notes_append ts t)
notes_append (May path faults ∷ ts) t = notes_append ts t

if_append : {A : Type 0} (b : Bool) (a : A) (before after : List A) → (if b then a ∷ (before ++ after) else before ++ after) ≡ (if b then a ∷ before else before) ++ after
if_append true a before after = refl
if_append false a before after = refl

pub may_append : (ts : List Diagnostic) (t : Diagnostic) → may_in (ts ++ t ∷ []) ≡ may_in ts ++ may_in (t ∷ [])
may_append [] t = refl
may_append (Finding path rule ∷ ts) t = may_append ts t
may_append (Note path ∷ ts) t = may_append ts t
may_append (May path faults ∷ ts) t = ap (with_faults path faults) (may_append ts t) ∙ if_append (has_faults faults) (path, faults) (may_in ts) (may_in (t ∷ []))

-- a report of what was reported, and of the next one
pub reports_next : (ts : List Diagnostic) (t : Diagnostic) (old new : Report) → IsReportOf ts old → AddsReport t old new → IsReportOf (ts ++ t ∷ []) new
reports_next ts t old new is noted = record {
  findings = noted.findings ∙ (ap (λ fs. fs ++ findings_in (t ∷ [])) is.findings ∙ sym (findings_append ts t));
  notes = noted.notes ∙ (ap (λ ps. ps ++ notes_in (t ∷ [])) is.notes ∙ sym (notes_append ts t));
  may_lines = noted.may_lines ∙ (ap (λ ms. ms ++ may_in (t ∷ [])) is.may_lines ∙ sym (may_append ts t));
}
