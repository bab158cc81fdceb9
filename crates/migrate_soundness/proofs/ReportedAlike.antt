-- What is reported of a place before and after it was migrated.
use Rattle.std.proofs.Common.{◌≡◌, ◌∙◌, ℕ, List, [], ◌∷◌, ◌++◌, refl, ap, sym, subst, true, false}
use Rattle.std.proofs.lemmas.List.{append_assoc, append-nil}
use Rattle.std.specs.Prelude.{Bool}
use Rattle.decimal_json.specs.Tree.{null}
use Rattle.decimal_json.specs.declared.paths.PathPart.{PathPart}
use Rattle.style_rules.specs.Findings.{reports, reports_or, findings_in, notes_in}
use Rattle.style_rules.specs.Places.{least_broken, root_mark}
use Rattle.style_rules.proofs.ReportLaws.{findings_append, notes_append}

-- The types of marks and of what is reported have no names outside of their crate.

abbrev type_of : {A : Type 0} → A → Type 0
type_of {A} a = A

abbrev pub Mark : Type 0
Mark = type_of (root_mark null)

abbrev pub ToldList : Type 0
ToldList = type_of (reports null)

-- ---- what is reported

pub record HasTheSameNotes (old new : ToldList) : Type 0 where
  pub findings : findings_in new ≡ []
  pub notes : notes_in new ≡ notes_in old

-- Where no finding is reported of some places, none is after these were migrated, and the same is outside.
abbrev pub IsReportedAlike : ToldList → ToldList → Type 0
IsReportedAlike old new = findings_in old ≡ [] → HasTheSameNotes old new

pub reports_itself : (reports : ToldList) → IsReportedAlike reports reports
reports_itself reports none = record { findings = none; notes = refl }

-- what is the same is reported alike
pub reports_same : (old new : ToldList) → new ≡ old → IsReportedAlike old new
reports_same old new same = subst (IsReportedAlike old) (sym same) (reports_itself old)

findings_of_both : (a b : ToldList) → findings_in (a ++ b) ≡ findings_in a ++ findings_in b
findings_of_both a [] = ap findings_in (append-nil a) ∙ sym (append-nil (findings_in a))
findings_of_both a (t ∷ b) =
    ap findings_in (sym (append_assoc a (t ∷ []) b))
    ∙ findings_of_both (a ++ t ∷ []) b
    ∙ ap (λ fs. fs ++ findings_in b) (findings_append a t)
    ∙ append_assoc (findings_in a) (findings_in (t ∷ [])) (findings_in b)
    ∙ ap (λ fs. findings_in a ++ fs) (sym (findings_of_both (t ∷ []) b))

notes_of_both : (a b : ToldList) → notes_in (a ++ b) ≡ notes_in a ++ notes_in b
notes_of_both a [] = ap notes_in (append-nil a) ∙ sym (append-nil (notes_in a))
notes_of_both a (t ∷ b) =
    ap notes_in (sym (append_assoc a (t ∷ []) b))
    ∙ notes_of_both (a ++ t ∷ []) b
    ∙ ap (λ ps. ps ++ notes_in b) (notes_append a t)
    ∙ append_assoc (notes_in a) (notes_in (t ∷ [])) (notes_in b)
    ∙ ap (λ ps. notes_in a ++ ps) (sym (notes_of_both (t ∷ []) b))

none_of_both : {A : Type 0} (xs ys : List A) → xs ++ ys ≡ [] → (xs ≡ []) × (ys ≡ [])
none_of_both [] ys none = (refl, none)
none_of_both (x ∷ xs) ys none = absurd (cc)

pub both_alike : (a b c d : ToldList) → IsReportedAlike a c → IsReportedAlike b d → IsReportedAlike (a ++ b) (c ++ d)
both_alike a b c d first second none =
    let (none_first, none_second) =
    none_of_both (findings_in a) (findings_in b) (sym (findings_of_both a b) ∙ none) in
    let one = first none_first in
    let two = second none_second in
    record {
      findings = findings_of_both c d ∙ (λ i. one.findings i ++ two.findings i);
      notes = notes_of_both c d ∙ ((λ i. one.notes i ++ two.notes i) ∙ sym (notes_of_both a b));
    }

-- ---- marks

-- what breaks no rule, and is not outside
abbrev pub IsSound : Mark → Type 0
IsSound mark =
    (path : List PathPart) →
    (findings_in (reports_or mark path []) ≡ []) × (notes_in (reports_or mark path []) ≡ [])

-- A place that breaks no rule breaks none after it was migrated, and is outside exactly where it was.
abbrev pub IsMarkedAlike : Mark → Mark → Type 0
IsMarkedAlike old new = (path : List PathPart) → IsReportedAlike (reports_or old path []) (reports_or new path [])

pub marked_same : (old new : Mark) → new ≡ old → IsMarkedAlike old new
marked_same old new same path =
    reports_same (reports_or old path []) (reports_or new path []) (ap (λ m. reports_or m path []) same)

pub sound_alike : (old new : Mark) → IsSound old → IsSound new → IsMarkedAlike old new
sound_alike old new was is path none =
    let (findings_old, notes_old) = was path in
    let (findings_new, notes_new) = is path in
    record { findings = findings_new; notes = notes_new ∙ sym notes_old }

-- a place that the same rules are tested at, and what is below it
pub rules_alike : (rs : List (ℕ × Bool)) (path : List PathPart) (below later : ToldList)
    → IsReportedAlike below later
    → IsReportedAlike (reports_or (least_broken rs) path below) (reports_or (least_broken rs) path later)
rules_alike [] path below later alike = alike
rules_alike ((rule, true) ∷ rs) path below later alike = rules_alike rs path below later alike
rules_alike ((rule, false) ∷ rs) path below later alike = λ none. absurd (cc)
