-- Laws of the walk over a document.
use Rattle.std.specs.Prelude.{◌≡◌, ℕ, zero, suc, ◌+◌, ◌<◌, List, [], ◌∷◌, ◌++◌, length, drop, Bool, true, false, ◌||◌, Option}
use Rattle.std.proofs.Common.{refl, sym, ap, ◌∙◌, arith}
use Rattle.std.proofs.Math.ListN.{get_or}
use Rattle.std.proofs.lemmas.List.{append_assoc, drop_more}
use Rattle.decimal_json.specs.Tree.{Trees, no_trees, tree, Fields}
use Rattle.decimal_json.specs.View.{tree_of, trees}
use Rattle.decimal_json.specs.declared.paths.PathPart.{PathPart}
use Rattle.decimal_json.specs.declared.paths.PathPart.TheVariants.{Index}
use Rattle.decimal_json.specs.declared.tree.Json.{Json}
use Rattle.prop_values.specs.Data.{Data}
use Rattle.style_parts.specs.Parts.{is_id_of}
use Rattle.style_rules.specs.CodeView.{has_name}
use Rattle.style_rules.specs.Levels.{layer_reports, layers_reports}
use Rattle.style_rules.specs.Places.{used_in}
use Rattle.style_rules.specs.Rules.{count_of}
use Rattle.style_rules.specs.declared.diagnostics.Diagnostic.{Diagnostic}

pub count_is_length : (js : List Json) → count_of (trees js) ≡ length js
count_is_length [] = refl
count_is_length (j ∷ js) = ap suc (count_is_length js)

-- ---- the ids of the layers before

pub none_before : (ts : Trees) (id : List ℕ) → used_in ts 0 id ≡ false
none_before no_trees id = refl
none_before (tree t ts) id = refl

pub none_used : (index : List (List ℕ × Data)) (ts : Trees) (id : List ℕ) → index ≡ [] → has_name index id ≡ used_in ts 0 id
none_used index ts id none = ap (λ e. has_name e id) none ∙ sym (none_before ts id)

abbrev has_id : List ℕ → Json → Bool
has_id id j = is_id_of id (tree_of j)

swapped : (a b c : Bool) → (a || (b || c)) ≡ (b || (a || c))
swapped true true c = refl
swapped true false c = refl
swapped false b c = refl

one_more : (js : List Json) (i : ℕ) (j : Json) (rest : List Json) (id : List ℕ) → drop i js ≡ j ∷ rest → used_in (trees js) (suc i) id ≡ (has_id id j || used_in (trees js) i id)
one_more [] zero j rest id e = absurd (cc)
one_more [] (suc i) j rest id e = absurd (cc)
one_more (x ∷ xs) zero j rest id e = ap (λ b. has_id id x || b) (none_before (trees xs) id) ∙ ap (λ k. has_id id k || false) (first_is x j xs rest e)
  where
    first_is : (x j : Json) (xs rest : List Json) → (x ∷ xs) ≡ (j ∷ rest) → x ≡ j
    first_is x j xs rest e = ap (λ ks. get_or ks 0 x) e
one_more (x ∷ xs) (suc i) j rest id e = ap (λ b. has_id id x || b) (one_more xs i j rest id e) ∙ swapped (has_id id x) (has_id id j) (used_in (trees xs) i id)

abbrev pub IsNext : List Json → ℕ → Json → Type 0
IsNext js i j = (i < length js) × (j ≡ get_or js i j)

next_is : (js : List Json) (i : ℕ) (j : Json) → IsNext js i j → drop i js ≡ j ∷ drop (i + 1) js
next_is js i j (within, at) = drop_more js i j within ∙ ap (λ k. k ∷ drop (i + 1) js) (sym at)

module _ (js : List Json) (i : ℕ) (j : Json) (next : IsNext js i j) where
  pub used_next : (old new : List (List ℕ × Data)) → ((id : List ℕ) → has_name old id ≡ used_in (trees js) i id) → ((id : List ℕ) → has_name new id ≡ (has_id id j || has_name old id)) → (id : List ℕ) → has_name new id ≡ used_in (trees js) (i + 1) id
  used_next old new before noted id =
      noted id ∙ (ap (λ b. has_id id j || b) (before id)
      ∙ (sym (one_more js i j (drop (i + 1) js) id (next_is js i j next)) ∙ ap (λ n. used_in (trees js) n id) (grind arith)))

  pub layers_next : (sources : Option Fields) (path : List PathPart) (used : List (List ℕ × Data)) (reports new whole : List Diagnostic) → ((id : List ℕ) → has_name used id ≡ used_in (trees js) i id) →
      new ≡ reports ++ layer_reports sources (has_name used) (path ++ Index i ∷ []) (tree_of j) → reports ++ layers_reports sources (used_in (trees js)) path i (trees (drop i js)) ≡ whole →
      new ++ layers_reports sources (used_in (trees js)) path (i + 1) (trees (drop (i + 1) js)) ≡ whole
  layers_next sources path used reports new whole before is kept =
      let later = layers_reports sources (used_in (trees js)) path (i + 1) (trees (drop (i + 1) js)) in
      let reports_here : (List ℕ → Bool) → List Diagnostic = λ test. layer_reports sources test (path ++ Index i ∷ []) (tree_of j) in
      let same : reports_here (has_name used) ≡ reports_here (used_in (trees js) i) = λ k. reports_here (λ id. before id k) in
      ap (λ n. n ++ later) is
      ∙ (append_assoc reports (reports_here (has_name used)) later
      ∙ (ap (λ n. reports ++ (n ++ later)) same
      ∙ (ap (λ rest. reports ++ layers_reports sources (used_in (trees js)) path i (trees rest)) (sym (next_is js i j next)) ∙ kept)))
