-- What is found of a layer by the ids of the layers before it: that its own is among them.
use Rattle.std.proofs.Common.{◌≡◌, ◌∙◌, ℕ, List, [], ◌∷◌, ◌++◌, refl, ap, subst, Bool, true, false, inl, inr}
use Rattle.std.proofs.lemmas.Bool.{cases_Bool}
use Rattle.std.proofs.lemmas.List.{append-nil}
use Rattle.std.proofs.lemmas.Slice.Eq.{bytes_eq-Decides}
use Rattle.std.specs.Option.{option_and_then}
use Rattle.std.specs.Prelude.{Option, Some, if◌then◌else◌}
use Rattle.std.specs.Str.{bytes_eq}
use Rattle.decimal_json.specs.Accessors.{text_in}
use Rattle.decimal_json.specs.Sound.{LacksKey, HasDistinctKeys}
use Rattle.decimal_json.specs.Tree.{Tree, null, boolean, number, text, list, object, Fields, no_fields, field, field_at, members_of}
use Rattle.decimal_json.specs.declared.paths.PathPart.{PathPart}
use Rattle.decimal_json.specs.declared.paths.PathPart.TheVariants.{Key}
use Rattle.value_forms.specs.LayerTypes.{place_named}
use Rattle.style_rules.specs.Findings.{reports_or, findings_in}
use Rattle.style_rules.specs.LayerContext.{LayerContext, context_of}
use Rattle.style_rules.specs.Levels.{fields_reports, member_below, member_reports, layer_reports, HasDistinctMembers}
use Rattle.style_rules.specs.Places.{least_broken, member_mark}
use Rattle.style_rules.specs.Rules
use Rattle.style_rules.proofs.QuietLaws.{IsQuiet, findings_of_parts, quiet_parts, both_quiet, rules_hold, rules_pass}
use Rattle.edit_findings.proofs.MarkLaws.{uses_no_more, none_used, reported_follows, rules_at}
use Rattle.edit_findings.specs.FoundAfter.{Found, id_key, id_of}

-- ---- the id of a layer, which is all that depends on the layers before it

abbrev id_in : Fields → Option (List ℕ)
id_in fs = option_and_then text_in (field_at id_key fs)

-- what is found of the id alone
abbrev pub id_found : (List ℕ → Bool) → Option (List ℕ) → List PathPart → Found
id_found used id path = if Rules.is_unused used id then [] else (path ++ Key id_key ∷ [], 8) ∷ []

pub is_key : (k key : List ℕ) → bytes_eq k key ≡ true → k ≡ key
is_key k key h = (bytes_eq-Decides k key).0 h

module _ (context : LayerContext) (used : List ℕ → Bool) where
  -- the rules on an id
  id_rules : (v : Tree) (p : List PathPart) → IsQuiet (member_reports context used p id_key v) →
      (Rules.is_id v ≡ true) × (Rules.is_new_id used v ≡ true)
  id_rules v p h =
      let held = rules_hold ((7, Rules.is_id v) ∷ (8, Rules.is_new_id used v) ∷ []) (p ++ Key id_key ∷ []) [] h in
      (held.0.0, held.0.1.0)

  fields_unused : (p : List PathPart) (fs : Fields) → IsQuiet (fields_reports (member_reports context used p) fs) →
      Rules.is_unused used (id_in fs) ≡ true
  fields_unused p no_fields h = refl
  fields_unused p (field k v fs) h =
      let (first, rest) = quiet_parts (member_reports context used p k v) (fields_reports (member_reports context used p) fs) h in
      by first (fields_unused p fs rest) (bytes_eq k id_key) refl
    where
      by : IsQuiet (member_reports context used p k v) → Rules.is_unused used (id_in fs) ≡ true → (same : Bool) → bytes_eq k id_key ≡ same →
          Rules.is_unused used (option_and_then text_in (if same then Some v else field_at id_key fs)) ≡ true
      by first rest true e = (id_rules v p (subst (λ m. IsQuiet (member_reports context used p m v)) (is_key k id_key e) first)).1
      by first rest false e = rest

-- where nothing is found of a layer its id is not used before it
pub layer_unused : (sources : Option Fields) (used : List ℕ → Bool) (p : List PathPart) (t : Tree) → IsQuiet (layer_reports sources used p t) →
    Rules.is_unused used (id_of t) ≡ true
layer_unused sources used p (object fs) h =
    let context = context_of sources (object fs) in
    fields_unused context used p fs
    (rules_hold (rules_at context (object fs)) p (fields_reports (member_reports context used p) fs) h).1
layer_unused sources used p null h = refl
layer_unused sources used p (boolean b) h = refl
layer_unused sources used p (number n) h = refl
layer_unused sources used p (text s) h = refl
layer_unused sources used p (list ts) h = refl

-- of a layer of which nothing is found where no id is used
module _ (context : LayerContext) (used : List ℕ → Bool) (p q : List PathPart) where
  id_exact : (a b : Bool) (path : List PathPart) → a ≡ true →
      findings_in (reports_or (least_broken ((7, a) ∷ (8, b) ∷ [])) path []) ≡ (if b then [] else (path, 8) ∷ [])
  id_exact true true path h = refl
  id_exact true false path h = ap (λ x. (x, 8) ∷ []) (append-nil path)
  id_exact false b path h = absurd (cc)

  other_same : (m : List ℕ) (t : Tree) → bytes_eq m id_key ≡ false → member_mark context used m t ≡ member_mark context none_used m t
  other_same m t e = rw e refl

  other_nothing : (m : List ℕ) (t : Tree) → bytes_eq m id_key ≡ false →
      IsQuiet (member_reports context none_used q m t) → IsQuiet (member_reports context used p m t)
  other_nothing m t e h =
      ap (λ mark. findings_in (reports_or mark (p ++ Key m ∷ []) (member_below context (place_named m) (p ++ Key m ∷ []) t))) (other_same m t e)
      ∙ reported_follows context none_used none_used (uses_no_more none_used) q p m t h

  others_nothing : (fs : Fields) → LacksKey id_key (members_of fs) →
      IsQuiet (fields_reports (member_reports context none_used q) fs) → IsQuiet (fields_reports (member_reports context used p) fs)
  others_nothing no_fields lacks h = refl
  others_nothing (field k v fs) lacks h =
      let (first, rest) = quiet_parts (member_reports context none_used q k v) (fields_reports (member_reports context none_used q) fs) h in
      both_quiet (member_reports context used p k v) (fields_reports (member_reports context used p) fs)
      (other_nothing k v (elim (cases_Bool (bytes_eq k id_key)) [ inl same ↦ absurd (lacks.0 (is_key k id_key same)) | inr other ↦ other ]) first)
      (others_nothing fs lacks.1 rest)

  fields_exact : (fs : Fields) → HasDistinctKeys (members_of fs) → IsQuiet (fields_reports (member_reports context none_used q) fs) →
      findings_in (fields_reports (member_reports context used p) fs) ≡ id_found used (id_in fs) p
  fields_exact no_fields distinct h = refl
  fields_exact (field k v fs) distinct h =
      let (first, rest) = quiet_parts (member_reports context none_used q k v) (fields_reports (member_reports context none_used q) fs) h in
      findings_of_parts (member_reports context used p k v) (fields_reports (member_reports context used p) fs)
      ∙ by first rest (fields_exact fs distinct.1 rest) (bytes_eq k id_key) refl
    where
      by : IsQuiet (member_reports context none_used q k v) → IsQuiet (fields_reports (member_reports context none_used q) fs) →
          findings_in (fields_reports (member_reports context used p) fs) ≡ id_found used (id_in fs) p →
          (same : Bool) → bytes_eq k id_key ≡ same →
          findings_in (member_reports context used p k v) ++ findings_in (fields_reports (member_reports context used p) fs)
          ≡ id_found used (option_and_then text_in (if same then Some v else field_at id_key fs)) p
      by first rest later true e =
          let key = is_key k id_key e in
          let id = (id_rules context none_used v q (subst (λ m. IsQuiet (member_reports context none_used q m v)) key first)).0 in
          let none = others_nothing fs (subst (λ m. LacksKey m (members_of fs)) key distinct.0) rest in
          ap (λ m. findings_in (member_reports context used p m v) ++ findings_in (fields_reports (member_reports context used p) fs)) key
          ∙ ((λ i. id_exact (Rules.is_id v) (Rules.is_new_id used v) (p ++ Key id_key ∷ []) id i ++ none i)
          ∙ append-nil (id_found used (text_in v) p))
      by first rest later false e = λ i. other_nothing k v e first i ++ later i

-- What is found of a layer of which nothing is where no id is used: that its id is used, where it is.
pub layer_exact : (sources : Option Fields) (used : List ℕ → Bool) (p q : List PathPart) (t : Tree) → HasDistinctMembers t →
    IsQuiet (layer_reports sources none_used q t) → findings_in (layer_reports sources used p t) ≡ id_found used (id_of t) p
layer_exact sources used p q (object fs) distinct h =
    let context = context_of sources (object fs) in
    let held = rules_hold (rules_at context (object fs)) q (fields_reports (member_reports context none_used q) fs) h in
    ap findings_in (rules_pass (rules_at context (object fs)) held.0 p (fields_reports (member_reports context used p) fs))
    ∙ fields_exact context used p q fs distinct held.1
layer_exact sources used p q null distinct h = absurd (cc)
layer_exact sources used p q (boolean b) distinct h = absurd (cc)
layer_exact sources used p q (number n) distinct h = absurd (cc)
layer_exact sources used p q (text s) distinct h = absurd (cc)
layer_exact sources used p q (list ts) distinct h = absurd (cc)
