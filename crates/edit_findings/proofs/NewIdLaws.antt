-- An id that no layer has, so that nothing is found of it in those after a place.
use Rattle.std.proofs.Common.{◌≡◌, ◌∙◌, ℕ, zero, suc, ◌+◌, List, [], ◌∷◌, ◌++◌, drop, refl, ap, Bool, true, false, Option, Some, None}
use Rattle.std.specs.Option.{option_and_then}
use Rattle.std.specs.Prelude.{not, option_map, if◌then◌else◌}
use Rattle.decimal_json.specs.Tree.{Tree}
use Rattle.style_edits.proofs.PlaceLaws.{place, place_is}
use Rattle.style_edits.specs.Places.{layer_place}
use Rattle.style_parts.specs.Parts.{equals_id, is_id_of}
use Rattle.edit_findings.proofs.OrderLaws.{other_way}
use Rattle.edit_findings.specs.FoundAfter.{Each, differs, id_of, id_key, later_found, member_path}

module _ (s : List ℕ) where
  abbrev Lacks : Tree → Type 0
  Lacks t = is_id_of s t ≡ false

  none_here : (same : Bool) (o : Option ℕ) → None ≡ (if same then Some 0 else option_map suc o) → (same ≡ false) × (None ≡ o)
  none_here true o h = absurd (cc)
  none_here false None h = (refl, refl)
  none_here false (Some k) h = absurd (cc)

  all_lack : (ts : List Tree) → None ≡ place s ts → Each Lacks ts
  all_lack [] h = tt
  all_lack (t ∷ ts) h = let parts = none_here (is_id_of s t) (place s ts) h in (parts.0, all_lack ts parts.1)

  not_same : (own : Option (List ℕ)) → equals_id s own ≡ false → differs (Some s) own ≡ true
  not_same None h = refl
  not_same (Some o) h = other_way o s (ap not h)

  none_found : (i : ℕ) (ts : List Tree) → Each Lacks ts → later_found (Some s) i ts ≡ []
  none_found i [] h = refl
  none_found i (t ∷ ts) h =
      ap (λ b. (if b then [] else (member_path i id_key, 8) ∷ []) ++ later_found (Some s) (i + 1) ts) (not_same (id_of t) h.0)
      ∙ none_found (i + 1) ts h.1

each_dropped : (P : Tree → Type 0) (n : ℕ) (ts : List Tree) → Each P ts → Each P (drop n ts)
each_dropped P zero ts h = h
each_dropped P (suc n) [] h = tt
each_dropped P (suc n) (t ∷ ts) h = each_dropped P n ts h.1

no_text : (own : Option (List ℕ)) → differs None own ≡ true
no_text None = refl
no_text (Some o) = refl

nothing_found : (i : ℕ) (ts : List Tree) → later_found None i ts ≡ []
nothing_found i [] = refl
nothing_found i (t ∷ ts) =
    ap (λ b. (if b then [] else (member_path i id_key, 8) ∷ []) ++ later_found None (i + 1) ts) (no_text (id_of t)) ∙ nothing_found (i + 1) ts

pub none_later : (ts : List Tree) (id : Option (List ℕ)) (n i : ℕ) → None ≡ option_and_then (layer_place ts) id → later_found id i (drop n ts) ≡ []
none_later ts (Some s) n i h = none_found s i (drop n ts) (each_dropped (Lacks s) n ts (all_lack s ts (h ∙ place_is ts s)))
none_later ts None n i h = nothing_found i (drop n ts)
