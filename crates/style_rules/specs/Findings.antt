-- The findings of a document, and what is reported of a document without findings.
use Rattle.std.specs.Prelude.{ℕ, ◌+◌, List, [], ◌∷◌, ◌++◌, Bool, if◌then◌else◌}
use Rattle.std.specs.List.{list_any}
use Rattle.decimal_json.specs.Tree.{Tree, null, boolean, number, text, list, object, Trees, no_trees, tree, Fields}
use Rattle.decimal_json.specs.Tree.{no_fields, field}
use Rattle.decimal_json.specs.declared.paths.PathPart.{PathPart}
use Rattle.decimal_json.specs.declared.paths.PathPart.TheVariants.{Key, Index}
use Rattle.prop_values.specs.Faults.{holds}
use Rattle.prop_values.specs.declared.fault.EvalFault.{EvalFault}
use Rattle.prop_values.specs.declared.fault.EvalFault.TheVariants.{WrongType, NotColor, NotNumberText, IndexOutside}
use Rattle.prop_values.specs.declared.fault.EvalFault.TheVariants.{IndexNotWhole, DivideByZero, Overflow, ColorRange}
use Rattle.prop_values.specs.declared.fault.EvalFault.TheVariants.{NotOrdered, NotInEnum}
use Rattle.prop_values.specs.declared.fault.FaultSet.{FaultSet}
use Rattle.style_rules.specs.Places.{mark_at}
use Rattle.style_rules.specs.declared.diagnostics.Mark.{Mark}
use Rattle.style_rules.specs.declared.diagnostics.Mark.TheVariants.{Nothing, Broken, Outside, Sound}
use Rattle.style_rules.specs.declared.diagnostics.Diagnostic.{Diagnostic}
use Rattle.style_rules.specs.declared.diagnostics.Diagnostic.TheVariants.{Finding, Note, May}

-- What is reported of a place, or of the places below it, where nothing is reported of it. So nothing is
-- reported below a finding.
abbrev pub reports_or : Mark → List PathPart → List Diagnostic → List Diagnostic
reports_or Nothing path below = below
reports_or (Broken more rule) path below = Finding (path ++ more) rule ∷ []
reports_or Outside path below = Note path ∷ []
reports_or (Sound faults) path below = May path faults ∷ []

abbrev pub Marks : Type 0
Marks = List PathPart → Tree → Mark

-- What is reported of a tree and below it, in the order of the text.
abbrev mutual
  pub walk : Tree → Marks → List PathPart → List Diagnostic
  walk null = λ marks path. reports_or (marks path null) path []
  walk (boolean b) = λ marks path. reports_or (marks path (boolean b)) path []
  walk (number n) = λ marks path. reports_or (marks path (number n)) path []
  walk (text s) = λ marks path. reports_or (marks path (text s)) path []
  walk (list ts) = λ marks path. reports_or (marks path (list ts)) path (walk_items ts marks path 0)
  walk (object fs) = λ marks path. reports_or (marks path (object fs)) path (walk_fields fs marks path)

  pub walk_items : Trees → Marks → List PathPart → ℕ → List Diagnostic
  walk_items no_trees = λ marks path i. []
  walk_items (tree t ts) = λ marks path i. walk t marks (path ++ Index i ∷ []) ++ walk_items ts marks path (i + 1)

  pub walk_fields : Fields → Marks → List PathPart → List Diagnostic
  walk_fields no_fields = λ marks path. []
  walk_fields (field k t fs) = λ marks path. walk t marks (path ++ Key k ∷ []) ++ walk_fields fs marks path

abbrev pub reports : Tree → List Diagnostic
reports document = walk document (mark_at document) []

-- ---- The findings: each place that breaks a rule, with the least rule that it breaks, in the order of the
-- text, and none below another.

abbrev pub findings_in : List Diagnostic → List (List PathPart × ℕ)
findings_in [] = []
findings_in (Finding path rule ∷ ts) = (path, rule) ∷ findings_in ts
findings_in (Note path ∷ ts) = findings_in ts
findings_in (May path faults ∷ ts) = findings_in ts

abbrev pub findings : Tree → List (List PathPart × ℕ)
findings document = findings_in (reports document)

-- ---- The paths of the values and filters that are outside, in the order of the text.

abbrev pub notes_in : List Diagnostic → List (List PathPart)
notes_in [] = []
notes_in (Finding path rule ∷ ts) = notes_in ts
notes_in (Note path ∷ ts) = path ∷ notes_in ts
notes_in (May path faults ∷ ts) = notes_in ts

abbrev pub notes : Tree → List (List PathPart)
notes document = notes_in (reports document)

-- ---- The values and filters whose evaluation may fault, with the faults, in the order of the text.

-- in order of number
abbrev pub every_fault : List EvalFault
every_fault = WrongType ∷ NotColor ∷ NotNumberText ∷ IndexOutside ∷ IndexNotWhole ∷ DivideByZero ∷ Overflow ∷
    ColorRange ∷ NotOrdered ∷ NotInEnum ∷ []

abbrev pub has_faults : FaultSet → Bool
has_faults fs = list_any (holds fs) every_fault

abbrev pub with_faults : List PathPart → FaultSet → List (List PathPart × FaultSet) → List (List PathPart × FaultSet)
with_faults path faults later = if has_faults faults then (path, faults) ∷ later else later

abbrev pub may_in : List Diagnostic → List (List PathPart × FaultSet)
may_in [] = []
may_in (Finding path rule ∷ ts) = may_in ts
may_in (Note path ∷ ts) = may_in ts
may_in (May path faults ∷ ts) = with_faults path faults (may_in ts)

abbrev pub may_lines : Tree → List (List PathPart × FaultSet)
may_lines document = may_in (reports document)
