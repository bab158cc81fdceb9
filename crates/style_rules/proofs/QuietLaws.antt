-- What is reported without a finding, and the findings of what is reported in parts.
use Rattle.std.specs.Prelude.{◌≡◌, ℕ, List, [], ◌∷◌, ◌++◌, Bool, true, false, if◌then◌else◌}
use Rattle.std.proofs.Common.{refl, sym, ap, ◌∙◌}
use Rattle.std.proofs.lemmas.List.{append-nil}
use Rattle.decimal_json.specs.declared.paths.PathPart.{PathPart}
use Rattle.style_rules.specs.Findings.{reports_or, findings_in}
use Rattle.style_rules.specs.Places.{least_broken}
use Rattle.style_rules.specs.declared.diagnostics.Mark.{Mark}
use Rattle.style_rules.specs.declared.diagnostics.Mark.TheVariants.{Nothing, Broken, Outside, Sound}
use Rattle.style_rules.specs.declared.diagnostics.Diagnostic.{Diagnostic}
use Rattle.style_rules.specs.declared.diagnostics.Diagnostic.TheVariants.{Finding, Note, May}

abbrev pub Reports : Type 0
Reports = List Diagnostic

-- nothing is found
abbrev pub IsQuiet : Reports → Type 0
IsQuiet reports = findings_in reports ≡ []

-- ---- parts

pub findings_of_parts : (a b : Reports) → findings_in (a ++ b) ≡ findings_in a ++ findings_in b
findings_of_parts [] b = refl
findings_of_parts (Finding path rule ∷ a) b = ap (λ fs. (path, rule) ∷ fs) (findings_of_parts a b)
findings_of_parts (Note path ∷ a) b = findings_of_parts a b
findings_of_parts (May path faults ∷ a) b = findings_of_parts a b

pub none_of_both : {A : Type 0} (xs ys : List A) → xs ++ ys ≡ [] → (xs ≡ []) × (ys ≡ [])
none_of_both [] ys none = (refl, none)
none_of_both (x ∷ xs) ys none = absurd (cc)

pub quiet_parts : (a b : Reports) → IsQuiet (a ++ b) → IsQuiet a × IsQuiet b
quiet_parts a b h = none_of_both (findings_in a) (findings_in b) (sym (findings_of_parts a b) ∙ h)

pub both_quiet : (a b : Reports) → IsQuiet a → IsQuiet b → IsQuiet (a ++ b)
both_quiet a b h k = findings_of_parts a b ∙ (λ i. h i ++ k i)

-- where the first part is quiet, and where the second is
pub only_later : (a b : Reports) → IsQuiet a → findings_in (a ++ b) ≡ findings_in b
only_later a b h = findings_of_parts a b ∙ ap (λ fs. fs ++ findings_in b) h

pub only_first : (a b : Reports) → IsQuiet b → findings_in (a ++ b) ≡ findings_in a
only_first a b h = findings_of_parts a b ∙ (ap (λ fs. findings_in a ++ fs) h ∙ append-nil (findings_in a))

-- ---- marks

-- What has no finding at one path has none at another, where nothing more is found below it.
pub quiet_elsewhere : (mark : Mark) (path other : List PathPart) (below later : Reports) → (IsQuiet below → IsQuiet later) →
    IsQuiet (reports_or mark path below) → IsQuiet (reports_or mark other later)
quiet_elsewhere Nothing path other below later go h = go h
quiet_elsewhere (Broken more rule) path other below later go h = absurd (cc)
quiet_elsewhere Outside path other below later go h = refl
quiet_elsewhere (Sound faults) path other below later go h = refl

-- ---- rules

abbrev pub AllHold : List (ℕ × Bool) → Type 0
AllHold [] = Unit {0}
AllHold (r ∷ rs) = (r.1 ≡ true) × AllHold rs

pub rules_hold : (rs : List (ℕ × Bool)) (path : List PathPart) (below : Reports) →
    IsQuiet (reports_or (least_broken rs) path below) → AllHold rs × IsQuiet below
rules_hold [] path below h = (tt, h)
rules_hold ((rule, true) ∷ rs) path below h =
    let later = rules_hold rs path below h in ((refl, later.0), later.1)
rules_hold ((rule, false) ∷ rs) path below h = absurd (cc)

pub rules_pass : (rs : List (ℕ × Bool)) → AllHold rs → (path : List PathPart) (below : Reports) →
    reports_or (least_broken rs) path below ≡ below
rules_pass [] all path below = refl
rules_pass (r ∷ rs) all path below =
    ap (λ b. reports_or (if b then least_broken rs else Broken [] r.0) path below) all.0 ∙ rules_pass rs all.1 path below
