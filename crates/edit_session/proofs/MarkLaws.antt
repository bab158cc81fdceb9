-- Where no layer has the mark of an id, none has the id. In a document without findings one has it at most.
use Rattle.std.proofs.Common.{◌≡◌, ◌∙◌, ℕ, zero, suc, List, [], ◌∷◌, get_or, map, refl, ap, sym, arith, Bool, true, false, Option, Some, None}
use Rattle.std.proofs.lemmas.Bool.{both_ways}
use Rattle.std.proofs.lemmas.Slice.Eq.{bytes_eq-Decides}
use Rattle.std.specs.List.{position}
use Rattle.std.specs.Str.{bytes_eq}
use Rattle.std.specs.Prelude.{codes, nat_eq, option_map, if◌then◌else◌}
use Rattle.decimal_json.specs.Accessors.{text_at}
use Rattle.decimal_json.specs.Tree.{Tree, null}
use Rattle.style_edits.proofs.PlaceLaws.{first_place, first_is, place, place_is}
use Rattle.style_edits.specs.Places.{layer_place}
use Rattle.style_edits.specs.Layers.{layer_list}
use Rattle.style_parts.specs.Parts.{equals_id, is_id_of, sources_of}
use Rattle.style_rules.specs.Findings.{findings}
use Rattle.style_rules.specs.Levels.{HasDistinctMembers}
use Rattle.edit_findings.proofs.DocumentLaws.{of_layers}
use Rattle.edit_findings.proofs.MarkLaws.{not_true}
use Rattle.edit_findings.proofs.OrderLaws.{AreApart, sound_layers}
use Rattle.edit_findings.specs.FoundAfter.{Each, differs, id_of}
use Rattle.edit_session.specs.LayerMarks.{layer_mark, mark_if, mark_of}

same_mark : (n : ℕ) → nat_eq n n ≡ true
same_mark n = grind arith

module _ (id : List ℕ) where
  abbrev is_mark : ℕ → Bool
  is_mark mark = nat_eq mark (mark_of id)

  mark_is : (own : Option (List ℕ)) → equals_id id own ≡ true → is_mark (mark_if own) ≡ true
  mark_is None h = absurd (cc)
  mark_is (Some s) h = ap (λ t. is_mark (mark_of t)) ((bytes_eq-Decides s id).0 h) ∙ same_mark (mark_of id)

  never_step : (ts : List Tree) (o : Option ℕ) (same marked : Bool) → (same ≡ true → marked ≡ true)
      → (if marked then Some 0 else option_map suc o) ≡ None → (o ≡ None → place id ts ≡ None)
      → (if same then Some 0 else option_map suc (place id ts)) ≡ None
  never_step ts o same true has h go = absurd (cc)
  never_step ts o true false has h go = absurd (let wrong = has refl in cc)
  never_step ts (Some k) false false has h go = absurd (cc)
  never_step ts None false false has h go = ap (option_map suc) (go refl)

  never : (ts : List Tree) → first_place is_mark (map layer_mark ts) ≡ None → place id ts ≡ None
  never [] h = refl
  never (t ∷ ts) h =
      never_step ts (first_place is_mark (map layer_mark ts)) (is_id_of id t) (is_mark (layer_mark t)) (mark_is (text_at (codes "id") t)) h (never ts)

  pub nowhere_marked : (ts : List Tree) (marks : List ℕ) → marks ≡ map layer_mark ts → None ≡ position is_mark marks → None ≡ layer_place ts id
  nowhere_marked ts marks are h =
      let at : first_place is_mark (map layer_mark ts) ≡ None = sym (h ∙ (ap (position is_mark) are ∙ first_is is_mark (map layer_mark ts))) in
      sym (place_is ts id ∙ never ts at)

  -- ---- where no two layers have one id

  no_two : {X : Type 0} (a b : Option (List ℕ)) → differs a b ≡ true → equals_id id a ≡ true → equals_id id b ≡ true → X
  no_two None b other h k = absurd (cc)
  no_two (Some a) None other h k = absurd (cc)
  no_two (Some a) (Some b) other h k =
      let same : a ≡ b = (bytes_eq-Decides a id).0 h ∙ sym ((bytes_eq-Decides b id).0 k) in
      absurd (both_ways (bytes_eq a b) (not_true (bytes_eq a b) other) ((bytes_eq-Decides a b).1 same))

  none_later : {X : Type 0} (a : Option (List ℕ)) (ts : List Tree) (i : ℕ) → Each (λ u. differs a (id_of u) ≡ true) ts → equals_id id a ≡ true
      → is_id_of id (get_or ts i null) ≡ true → X
  none_later a [] zero others h k = absurd (cc)
  none_later a [] (suc i) others h k = absurd (cc)
  none_later a (t ∷ ts) zero others h k = no_two a (id_of t) others.0 h k
  none_later a (t ∷ ts) (suc i) others h k = none_later a ts i others.1 h k

  place_there : (ts : List Tree) (i : ℕ) → AreApart ts → is_id_of id (get_or ts i null) ≡ true → place id ts ≡ Some i
  place_there [] zero apart k = absurd (cc)
  place_there [] (suc i) apart k = absurd (cc)
  place_there (t ∷ ts) zero apart k = ap (λ b. if b then Some 0 else option_map suc (place id ts)) k
  place_there (t ∷ ts) (suc i) apart k = step (is_id_of id t) refl (place_there ts i apart.1 k)
    where
      step : (same : Bool) → is_id_of id t ≡ same → place id ts ≡ Some i → (if same then Some 0 else option_map suc (place id ts)) ≡ Some (suc i)
      step true e there = none_later (id_of t) ts i apart.0 e k
      step false e there = ap (option_map suc) there

  -- In a document without findings the layer of an id is wherever one has it.
  pub own_place : (d : Tree) → HasDistinctMembers d → findings d ≡ [] → (i : ℕ) → is_id_of id (get_or (layer_list d) i null) ≡ true
      → Some i ≡ layer_place (layer_list d) id
  own_place d distinct none i h =
      let ts = layer_list d in
      let sound = sound_layers (sources_of d) ts (of_layers d distinct none).0.found in
      sym (place_is ts id ∙ place_there ts i sound.1 h)
