-- Whether something is found of a layer depends on its place by the ids before it alone: of each mark something is found at
-- every path or at none.
use Rattle.std.proofs.Common.{◌≡◌, ◌∙◌, ℕ, List, [], ◌∷◌, ◌++◌, refl, ap, sym, subst, Bool, true, false, inl, inr}
use Rattle.std.proofs.lemmas.Bool.{cases_Bool}
use Rattle.std.proofs.lemmas.Slice.Eq.{bytes_eq-Decides}
use Rattle.std.specs.Prelude.{codes, not, Option, Some, None}
use Rattle.std.specs.Str.{bytes_eq}
use Rattle.decimal_json.specs.Accessors.{text_in}
use Rattle.decimal_json.specs.Tree.{Tree, Fields, no_fields, field}
use Rattle.decimal_json.specs.declared.paths.PathPart.{PathPart}
use Rattle.decimal_json.specs.declared.paths.PathPart.TheVariants.{Key}
use Rattle.property_tables.specs.declared.property_row.Place.{Place}
use Rattle.style_rules.specs.Findings.{reports_or, findings_in}
use Rattle.style_rules.specs.LayerContext.{LayerContext, context_of}
use Rattle.style_rules.specs.Levels.{fields_reports, fields_or_none, property_reports, member_below, member_reports, layer_reports}
use Rattle.style_rules.specs.Places.{layer_mark, member_mark, property_mark}
use Rattle.style_rules.specs.Rules
use Rattle.style_rules.proofs.QuietLaws.{Reports, IsQuiet, quiet_parts, both_quiet, quiet_elsewhere, rules_hold, rules_pass}
use Rattle.value_forms.specs.LayerTypes.{tested_type, place_named}

-- what is not used by the first is not by the second
abbrev pub UsesLess : (List ℕ → Bool) → (List ℕ → Bool) → Type 0
UsesLess one other = (id : List ℕ) → one id ≡ false → other id ≡ false

pub uses_no_more : (used : List ℕ → Bool) → UsesLess used used
uses_no_more used id h = h

abbrev pub none_used : List ℕ → Bool
none_used id = false

pub not_true : (b : Bool) → not b ≡ true → b ≡ false
not_true true h = absurd (cc)
not_true false h = refl

unused_less : (one other : List ℕ → Bool) → UsesLess one other → (o : Option (List ℕ)) →
    Rules.is_unused one o ≡ true → Rules.is_unused other o ≡ true
unused_less one other less None h = refl
unused_less one other less (Some id) h = ap not (less id (not_true (one id) h))

fields_follow : (one other : List ℕ → Tree → Reports) → ((k : List ℕ) (t : Tree) → IsQuiet (one k t) → IsQuiet (other k t)) →
    (fs : Fields) → IsQuiet (fields_reports one fs) → IsQuiet (fields_reports other fs)
fields_follow one other each no_fields h = refl
fields_follow one other each (field k t fs) h =
    let (first, rest) = quiet_parts (one k t) (fields_reports one fs) h in
    both_quiet (other k t) (fields_reports other fs) (each k t first) (fields_follow one other each fs rest)

below_follows : (context : LayerContext) (place : Option Place) (p q : List PathPart) (t : Tree) →
    IsQuiet (member_below context place p t) → IsQuiet (member_below context place q t)
below_follows context (Some place) p q t h =
    let tested = tested_type context.type in
    fields_follow (property_reports tested (Some place) p) (property_reports tested (Some place) q)
    (λ name v. quiet_elsewhere (property_mark tested (Some place) name v) (p ++ Key name ∷ []) (q ++ Key name ∷ []) [] [] (λ k. k))
    (fields_or_none t) h
below_follows context None p q t h = refl

-- ---- the members of a layer, where fewer ids are used before it

module _ (context : LayerContext) (one other : List ℕ → Bool) (less : UsesLess one other) (p q : List PathPart) where
  abbrev MemberFollows : List ℕ → Tree → Type 0
  MemberFollows m t = IsQuiet (member_reports context one p m t) → IsQuiet (member_reports context other q m t)

  id_follows : (t : Tree) → MemberFollows (codes "id") t
  id_follows t h =
      let there : List PathPart = q ++ Key (codes "id") ∷ [] in
      let held = rules_hold ((7, Rules.is_id t) ∷ (8, Rules.is_new_id one t) ∷ []) (p ++ Key (codes "id") ∷ []) [] h in
      ap findings_in (rules_pass ((7, Rules.is_id t) ∷ (8, Rules.is_new_id other t) ∷ [])
      (held.0.0, (unused_less one other less (text_in t) held.0.1.0, tt)) there [])

  mark_same : (m : List ℕ) (t : Tree) → bytes_eq m (codes "id") ≡ false → member_mark context one m t ≡ member_mark context other m t
  mark_same m t apart = rw apart refl

  other_follows : (m : List ℕ) (t : Tree) → bytes_eq m (codes "id") ≡ false → MemberFollows m t
  other_follows m t apart h =
      let here : List PathPart = p ++ Key m ∷ [] in
      let there : List PathPart = q ++ Key m ∷ [] in
      let below = member_below context (place_named m) here t in
      quiet_elsewhere (member_mark context other m t) here there below (member_below context (place_named m) there t)
      (below_follows context (place_named m) here there t)
      (ap (λ mark. findings_in (reports_or mark here below)) (sym (mark_same m t apart)) ∙ h)

  pub reported_follows : (m : List ℕ) (t : Tree) → IsQuiet (member_reports context one p m t) → IsQuiet (member_reports context other q m t)
  reported_follows m t = elim (cases_Bool (bytes_eq m (codes "id"))) [
    | inl is ↦ subst (λ k. MemberFollows k t) (sym ((bytes_eq-Decides m (codes "id")).0 is)) (id_follows t)
    | inr apart ↦ other_follows m t apart
  ]

abbrev pub rules_at : LayerContext → Tree → List (ℕ × Bool)
rules_at context layer =
    (6, Rules.is_layer layer) ∷
    (7, Rules.has_id layer) ∷
    (9, Rules.has_type layer) ∷
    (10, Rules.has_source context layer) ∷
    (12, Rules.has_source_layer context layer) ∷ []

-- Where nothing is found of a layer nothing is at another place, if fewer ids are used before it.
pub layer_follows : (sources : Option Fields) (one other : List ℕ → Bool) → UsesLess one other → (p q : List PathPart) (t : Tree) →
    IsQuiet (layer_reports sources one p t) → IsQuiet (layer_reports sources other q t)
layer_follows sources one other less p q t =
    let context = context_of sources t in
    quiet_elsewhere (layer_mark context t) p q
    (fields_reports (member_reports context one p) (fields_or_none t)) (fields_reports (member_reports context other q) (fields_or_none t))
    (fields_follow (member_reports context one p) (member_reports context other q)
    (reported_follows context one other less p q) (fields_or_none t))
