-- What is reported of one place is a part of what is reported of a document.
use Rattle.std.proofs.Common.{◌≡◌, ◌∙◌, ℕ, zero, suc, ◌+◌, List, [], ◌∷◌, ◌++◌, refl, ap, sym, subst, arith, Bool, true, false, Some}
use Rattle.std.proofs.lemmas.List.{append_assoc, append-nil}
use Rattle.std.proofs.lemmas.List.Elements.{Contains-append_left, Contains-append_right}
use Rattle.std.proofs.lemmas.Slice.Eq.{bytes_eq-Decides}
use Rattle.std.specs.Prelude.{Contains, if◌then◌else◌}
use Rattle.std.specs.Str.{bytes_eq}
use Rattle.decimal_json.specs.Accessors.{member}
use Rattle.decimal_json.specs.Tree.{Tree, null, boolean, number, text, list, object, Trees, no_trees, tree, Fields, no_fields, field, field_at}
use Rattle.decimal_json.specs.declared.paths.PathPart.{PathPart}
use Rattle.decimal_json.specs.declared.paths.PathPart.TheVariants.{Key, Index}
use Rattle.prop_values.specs.declared.fault.FaultSet.{FaultSet}
use Rattle.style_parts.specs.Parts.{layer_at}
use Rattle.style_rules.specs.Findings.{reports, reports_or, walk, walk_items, walk_fields, findings_in, notes_in, may_in}
use Rattle.style_rules.specs.Places.{least_broken, root_mark}
use Rattle.style_rules.proofs.ReportLaws.{findings_append, notes_append, may_append}

-- The types of marks and of what is reported have no names outside of their crate.

abbrev type_of : {A : Type 0} → A → Type 0
type_of {A} a = A

abbrev pub Mark : Type 0
Mark = type_of (root_mark null)

abbrev pub Reports : Type 0
Reports = type_of (reports null)

-- ---- parts

pub record IsPart (part whole : Reports) : Type 0 where
  pub findings : findings_in whole ≡ [] → findings_in part ≡ []
  pub notes : (path : List PathPart) → Contains (notes_in part) path → Contains (notes_in whole) path
  pub lines : (line : List PathPart × FaultSet) → Contains (may_in part) line → Contains (may_in whole) line

pub whole_itself : (whole : Reports) → IsPart whole whole
whole_itself whole = record { findings = λ h. h; notes = λ path h. h; lines = λ line h. h }

pub part_of : (a b c : Reports) → IsPart a b → IsPart b c → IsPart a c
part_of a b c h k = record {
  findings = λ none. h.findings (k.findings none);
  notes = λ path is. k.notes path (h.notes path is);
  lines = λ line is. k.lines line (h.lines line is);
}

findings_of_both : (a b : Reports) → findings_in (a ++ b) ≡ findings_in a ++ findings_in b
findings_of_both a [] = ap findings_in (append-nil a) ∙ sym (append-nil (findings_in a))
findings_of_both a (t ∷ b) =
    ap findings_in (sym (append_assoc a (t ∷ []) b))
    ∙ findings_of_both (a ++ t ∷ []) b
    ∙ ap (λ fs. fs ++ findings_in b) (findings_append a t)
    ∙ append_assoc (findings_in a) (findings_in (t ∷ [])) (findings_in b)
    ∙ ap (λ fs. findings_in a ++ fs) (sym (findings_of_both (t ∷ []) b))

pub notes_of_both : (a b : Reports) → notes_in (a ++ b) ≡ notes_in a ++ notes_in b
notes_of_both a [] = ap notes_in (append-nil a) ∙ sym (append-nil (notes_in a))
notes_of_both a (t ∷ b) =
    ap notes_in (sym (append_assoc a (t ∷ []) b))
    ∙ notes_of_both (a ++ t ∷ []) b
    ∙ ap (λ ps. ps ++ notes_in b) (notes_append a t)
    ∙ append_assoc (notes_in a) (notes_in (t ∷ [])) (notes_in b)
    ∙ ap (λ ps. notes_in a ++ ps) (sym (notes_of_both (t ∷ []) b))

lines_of_both : (a b : Reports) → may_in (a ++ b) ≡ may_in a ++ may_in b
lines_of_both a [] = ap may_in (append-nil a) ∙ sym (append-nil (may_in a))
lines_of_both a (t ∷ b) =
    ap may_in (sym (append_assoc a (t ∷ []) b))
    ∙ lines_of_both (a ++ t ∷ []) b
    ∙ ap (λ ms. ms ++ may_in b) (may_append a t)
    ∙ append_assoc (may_in a) (may_in (t ∷ [])) (may_in b)
    ∙ ap (λ ms. may_in a ++ ms) (sym (lines_of_both (t ∷ []) b))

none_of_both : {A : Type 0} (xs ys : List A) → xs ++ ys ≡ [] → (xs ≡ []) × (ys ≡ [])
none_of_both [] ys none = (refl, none)
none_of_both (x ∷ xs) ys none = absurd (cc)

part_left : (a b : Reports) → IsPart a (a ++ b)
part_left a b = record {
  findings = λ none. (none_of_both (findings_in a) (findings_in b) (sym (findings_of_both a b) ∙ none)).0;
  notes = λ path is. subst (λ ps. Contains ps path) (sym (notes_of_both a b)) (Contains-append_left (notes_in a) (notes_in b) path is);
  lines = λ line is. subst (λ ms. Contains ms line) (sym (lines_of_both a b)) (Contains-append_left (may_in a) (may_in b) line is);
}

part_right : (a b : Reports) → IsPart b (a ++ b)
part_right a b = record {
  findings = λ none. (none_of_both (findings_in a) (findings_in b) (sym (findings_of_both a b) ∙ none)).1;
  notes = λ path is. subst (λ ps. Contains ps path) (sym (notes_of_both a b)) (Contains-append_right (notes_in a) (notes_in b) path is);
  lines = λ line is. subst (λ ms. Contains ms line) (sym (lines_of_both a b)) (Contains-append_right (may_in a) (may_in b) line is);
}

-- ---- rules

abbrev pub AllHold : List (ℕ × Bool) → Type 0
AllHold [] = Unit {0}
AllHold (r ∷ rs) = (r.1 ≡ true) × AllHold rs

pub rules_hold : (rs : List (ℕ × Bool)) (path : List PathPart) (below : Reports) →
    findings_in (reports_or (least_broken rs) path below) ≡ [] →
    AllHold rs × (reports_or (least_broken rs) path below ≡ below)
rules_hold [] path below none = (tt, refl)
rules_hold ((rule, true) ∷ rs) path below none =
    let later = rules_hold rs path below none in ((refl, later.0), later.1)
rules_hold ((rule, false) ∷ rs) path below none = absurd (cc)

-- ---- the walk

module _ (marks : List PathPart → Tree → Mark) where
  -- what is reported of a tree by its own mark, and of what is below it
  pub walk_below : (t : Tree) (path : List PathPart) →
      (below : Reports) × (walk t marks path ≡ reports_or (marks path t) path below)
  walk_below null path = ([], refl)
  walk_below (boolean b) path = ([], refl)
  walk_below (number n) path = ([], refl)
  walk_below (text s) path = ([], refl)
  walk_below (list ts) path = (walk_items ts marks path 0, refl)
  walk_below (object fs) path = (walk_fields fs marks path, refl)

  field_part : (fs : Fields) (key : List ℕ) (t : Tree) (path : List PathPart) → field_at key fs ≡ Some t →
      IsPart (walk t marks (path ++ Key key ∷ [])) (walk_fields fs marks path)
  field_part no_fields key t path is = absurd (cc)
  field_part (field k u fs) key t path is = by (field_part fs key t path) (bytes_eq k key) refl is
    where
      by : (field_at key fs ≡ Some t → IsPart (walk t marks (path ++ Key key ∷ [])) (walk_fields fs marks path)) → (b : Bool) → bytes_eq k key ≡ b → (if b then Some u else field_at key fs) ≡ Some t →
          IsPart (walk t marks (path ++ Key key ∷ [])) (walk_fields (field k u fs) marks path)
      by rest true same found =
          let one : u ≡ t = cc in
          let key_is : k ≡ key = (bytes_eq-Decides k key).0 same in
          subst (λ x. IsPart (walk x marks (path ++ Key key ∷ [])) (walk_fields (field k u fs) marks path)) one
          (subst (λ x. IsPart (walk u marks (path ++ Key x ∷ [])) (walk_fields (field k u fs) marks path)) key_is
          (part_left (walk u marks (path ++ Key k ∷ [])) (walk_fields fs marks path)))
      by rest false other found =
          part_of (walk t marks (path ++ Key key ∷ [])) (walk_fields fs marks path) (walk_fields (field k u fs) marks path)
          (rest found) (part_right (walk u marks (path ++ Key k ∷ [])) (walk_fields fs marks path))

  item_part : (ts : Trees) (i n : ℕ) (t : Tree) (path : List PathPart) → layer_at i ts ≡ Some t →
      IsPart (walk t marks (path ++ Index (n + i) ∷ [])) (walk_items ts marks path n)
  item_part no_trees i n t path is = absurd (cc)
  item_part (tree u ts) zero n t path is =
      let one : u ≡ t = cc in
      let here : n ≡ n + 0 = omega arith in
      subst (λ x. IsPart (walk x marks (path ++ Index (n + 0) ∷ [])) (walk_items (tree u ts) marks path n)) one
      (subst (λ k. IsPart (walk u marks (path ++ Index k ∷ [])) (walk_items (tree u ts) marks path n)) here
      (part_left (walk u marks (path ++ Index n ∷ [])) (walk_items ts marks path (n + 1))))
  item_part (tree u ts) (suc i) n t path is =
      let there : (n + 1) + i ≡ n + suc i = omega arith in
      part_of (walk t marks (path ++ Index (n + suc i) ∷ [])) (walk_items ts marks path (n + 1)) (walk_items (tree u ts) marks path n)
      (subst (λ k. IsPart (walk t marks (path ++ Index k ∷ [])) (walk_items ts marks path (n + 1))) there (item_part ts i (n + 1) t path is))
      (part_right (walk u marks (path ++ Index n ∷ [])) (walk_items ts marks path (n + 1)))

  module _ (whole : Reports) (none : findings_in whole ≡ []) where
    -- the rules that are tested at a place hold
    pub rules_at : (t : Tree) (path : List PathPart) (rs : List (ℕ × Bool)) → marks path t ≡ least_broken rs →
        IsPart (walk t marks path) whole → AllHold rs
    rules_at t path rs is part =
        let (below, shape) = walk_below t path in
        let same : walk t marks path ≡ reports_or (least_broken rs) path below = shape ∙ ap (λ m. reports_or m path below) is in
        (rules_hold rs path below (ap findings_in (sym same) ∙ part.findings none)).0

    below_rules : (t : Tree) (path : List PathPart) (rs : List (ℕ × Bool)) (below : Reports) → marks path t ≡ least_broken rs →
        walk t marks path ≡ reports_or (marks path t) path below → IsPart (walk t marks path) whole → IsPart below whole
    below_rules t path rs below is shape part =
        let same : walk t marks path ≡ reports_or (least_broken rs) path below = shape ∙ ap (λ m. reports_or m path below) is in
        let held = rules_hold rs path below (ap findings_in (sym same) ∙ part.findings none) in
        subst (λ x. IsPart x whole) (same ∙ held.1) part

    pub member_at : (t : Tree) (key : List ℕ) (v : Tree) (path : List PathPart) (rs : List (ℕ × Bool)) →
        marks path t ≡ least_broken rs → member key t ≡ Some v → IsPart (walk t marks path) whole →
        IsPart (walk v marks (path ++ Key key ∷ [])) whole
    member_at (object fs) key v path rs is found part =
        part_of (walk v marks (path ++ Key key ∷ [])) (walk_fields fs marks path) whole (field_part fs key v path found)
        (below_rules (object fs) path rs (walk_fields fs marks path) is refl part)
    member_at null key v path rs is found part = absurd (cc)
    member_at (boolean b) key v path rs is found part = absurd (cc)
    member_at (number n) key v path rs is found part = absurd (cc)
    member_at (text s) key v path rs is found part = absurd (cc)
    member_at (list ts) key v path rs is found part = absurd (cc)

    pub item_at : (ts : Trees) (i : ℕ) (v : Tree) (path : List PathPart) (rs : List (ℕ × Bool)) →
        marks path (list ts) ≡ least_broken rs → layer_at i ts ≡ Some v → IsPart (walk (list ts) marks path) whole →
        IsPart (walk v marks (path ++ Index i ∷ [])) whole
    item_at ts i v path rs is found part =
        let here : 0 + i ≡ i = omega arith in
        part_of (walk v marks (path ++ Index i ∷ [])) (walk_items ts marks path 0) whole
        (subst (λ k. IsPart (walk v marks (path ++ Index k ∷ [])) (walk_items ts marks path 0)) here (item_part ts i 0 v path found))
        (below_rules (list ts) path rs (walk_items ts marks path 0) is refl part)
