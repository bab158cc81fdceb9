-- What is found of the layers of a document of which one is changed, where nothing was found before.
use Rattle.std.proofs.Common.{◌≡◌, ◌∙◌, ℕ, zero, suc, ◌+◌, ◌<◌, List, [], ◌∷◌, length, get_or, set, refl, ap, arith, Bool}
use Rattle.std.specs.Prelude.{◌||◌, Option}
use Rattle.decimal_json.specs.Tree.{Tree, null, trees_of, Fields}
use Rattle.style_parts.specs.Parts.{is_id_of}
use Rattle.style_rules.specs.Findings.{findings_in}
use Rattle.style_rules.specs.Levels.{layer_reports, layers_reports}
use Rattle.style_rules.specs.Places.{used_in}
use Rattle.style_rules.proofs.QuietLaws.{Reports, IsQuiet, quiet_parts, only_later, only_first}
use Rattle.edit_findings.proofs.OrderLaws.{of_list}
use Rattle.edit_findings.specs.FoundAfter.{Found, layers_path, layer_path}

-- the change keeps the id, and finds these things in a layer of which nothing was found
pub record Finds (sources : Option Fields) (change : Tree → Tree) (found : ℕ → Tree → Found) : Type 0 where
  pub keeps : (t : Tree) (id : List ℕ) → is_id_of id (change t) ≡ is_id_of id t
  pub each : (used : List ℕ → Bool) (i : ℕ) (t : Tree) → IsQuiet (layer_reports sources used (layer_path i) t) →
      findings_in (layer_reports sources used (layer_path i) (change t)) ≡ found i t

module _ (sources : Option Fields) (change : Tree → Tree) (found : ℕ → Tree → Found) (finds : Finds sources change found) where
  abbrev changed : List Tree → ℕ → List Tree
  changed ts k = set ts k (change (get_or ts k null))

  used_same : (ts : List Tree) (k n : ℕ) (id : List ℕ) → used_in (trees_of (changed ts k)) n id ≡ used_in (trees_of ts) n id
  used_same [] zero n id = refl
  used_same [] (suc k) n id = refl
  used_same (t ∷ ts) zero zero id = refl
  used_same (t ∷ ts) zero (suc n) id = ap (λ b. b || used_in (trees_of ts) n id) (finds.keeps t id)
  used_same (t ∷ ts) (suc k) zero id = refl
  used_same (t ∷ ts) (suc k) (suc n) id = ap (λ b. is_id_of id t || b) (used_same ts k n id)

  module _ (used : ℕ → List ℕ → Bool) where
    abbrev reported : ℕ → List Tree → Reports
    reported i ts = layers_reports sources used layers_path i (trees_of ts)

    found_among : (i j k : ℕ) (ts : List Tree) → j ≡ i + k → k < length ts → IsQuiet (reported i ts) →
        findings_in (reported i (changed ts k)) ≡ found j (get_or ts k null)
    found_among i j k [] e within h = absurd (omega (arith, within))
    found_among i j zero (t ∷ ts) e within h =
        let parts = quiet_parts (layer_reports sources (used i) (layer_path i) t) (reported (i + 1) ts) h in
        let here : i ≡ j = omega (arith, e) in
        only_first (layer_reports sources (used i) (layer_path i) (change t)) (reported (i + 1) ts) parts.1
        ∙ (finds.each (used i) i t parts.0 ∙ ap (λ n. found n t) here)
    found_among i j (suc k) (t ∷ ts) e within h =
        let parts = quiet_parts (layer_reports sources (used i) (layer_path i) t) (reported (i + 1) ts) h in
        only_later (layer_reports sources (used i) (layer_path i) t) (reported (i + 1) (changed ts k)) parts.0
        ∙ found_among (i + 1) j k ts (omega (arith, e)) (omega (arith, within)) parts.1

  pub changed_found : (k : ℕ) (ts : List Tree) → k < length ts → of_list sources ts ≡ [] → of_list sources (changed ts k) ≡ found k (get_or ts k null)
  changed_found k ts within h =
      (λ m. findings_in (layers_reports sources (λ n id. used_same ts k n id m) layers_path 0 (trees_of (changed ts k))))
      ∙ found_among (used_in (trees_of ts)) 0 k k ts (omega arith) within h
