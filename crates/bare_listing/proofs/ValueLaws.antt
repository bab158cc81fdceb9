-- The lines of the values of a feature in three parts.
use Rattle.std.proofs.Common.{◌≡◌, ◌∙◌, ℕ, zero, suc, ◌+◌, List, [], ◌∷◌, ◌++◌, Bool, true, false, Option, Some, None, take, drop, map, filter, refl, sym, ap, add-one, if◌then◌else◌}
use Rattle.std.specs.Prelude.{OnOk, Result, Ok, Err}
use Rattle.std.specs.List.{slice_get}
use Rattle.std.proofs.lemmas.List.{append_assoc}
use Rattle.listing_text.specs.Listing.{value_line, value_lines}
use Rattle.style_layout.specs.Forms.{Property, PropertyValue, Scene, expression, legacy_function, literal, outside, token_text}
use Rattle.style_layout.specs.Outlines.{evaluated_value}
use Rattle.style_layout.specs.Shown.{LayerFeature}
use Rattle.asked_cells.specs.Asked.{is_listed}
use Rattle.asked_cells.specs.Expressions.{is_fixed}
use Rattle.bare_listing.specs.Given.{outcome_in, shown_value, shown_values}

-- a value that is evaluated has a cell
pub evaluated_is_not_fixed : (value : PropertyValue) → is_fixed (evaluated_value value) ≡ false
evaluated_is_not_fixed (literal d) = refl
evaluated_is_not_fixed (expression t) = refl
evaluated_is_not_fixed (legacy_function row f) = refl
evaluated_is_not_fixed (token_text s) = refl
evaluated_is_not_fixed outside = refl

module _ (scene : Scene) (f : LayerFeature) (margin : List ℕ) where
  abbrev lines : List Property → List ℕ
  lines ps = value_lines margin (shown_values scene (Some f) ps)

  abbrev line_of : Property → List ℕ
  line_of p = value_line margin p.row.name (outcome_in scene (Some f) p)

  abbrev listed_first : Property → List Property → Bool → List ℕ
  listed_first p ps b = value_lines margin (map (shown_value scene (Some f)) (if b then p ∷ ps else ps))

  in_parts : (p : Property) (ps : List Property) (b : Bool)
      → listed_first p ps b ≡ (if b then line_of p else []) ++ value_lines margin (map (shown_value scene (Some f)) ps)
  in_parts p ps true = refl
  in_parts p ps false = refl

  abbrev one_line : Property → List ℕ
  one_line p = if p.is_per_feature then line_of p else []

  first_line : (p : Property) (ps : List Property) → lines (p ∷ ps) ≡ one_line p ++ lines ps
  first_line p ps = in_parts p (filter (is_listed (Some f)) ps) p.is_per_feature

  abbrev line_if : Option Property → List ℕ
  line_if (Some p) = one_line p
  line_if None = []

  split_at : (ps : List Property) (place : ℕ) (p : Property) → slice_get ps place ≡ Some p → p.is_per_feature ≡ true
      → lines ps ≡ lines (take place ps) ++ (line_of p ++ lines (drop (suc place) ps))
  split_at [] place p is own = absurd (cc)
  split_at (q ∷ ps) zero p is own =
      first_line q ps ∙ ap (λ line. line ++ lines ps) (ap line_if is ∙ ap (λ b. if b then line_of p else []) own)
  split_at (q ∷ ps) (suc i) p is own =
      first_line q ps
      ∙ (ap (λ later. one_line q ++ later) (split_at ps i p is own)
      ∙ (sym (append_assoc (one_line q) (lines (take i ps)) (line_of p ++ lines (drop (suc i) ps)))
      ∙ ap (λ first. first ++ (line_of p ++ lines (drop (suc i) ps))) (sym (first_line q (take i ps)))))

  -- the lines before a value, its own line, and those after it
  pub split_lines : (ps : List Property) (place : ℕ) (p : Property) → slice_get ps place ≡ Some p → p.is_per_feature ≡ true
      → lines ps ≡ lines (take place ps) ++ (line_of p ++ lines (drop (place + 1) ps))
  split_lines ps place p is own = split_at ps place p is own
      ∙ ap (λ n. lines (take place ps) ++ (line_of p ++ lines (drop n ps))) (sym (add-one place))

  -- the line of a feature and those of its values, one after another
  pub lines_in_parts : {A B : Type 0} (r : Result A B) (first second third fourth last heading : List ℕ) (ps : List Property)
      (place : ℕ) (p : Property) → slice_get ps place ≡ Some p → p.is_per_feature ≡ true → second ≡ first ++ heading
      → third ≡ second ++ lines (take place ps) → fourth ≡ third ++ line_of p → last ≡ fourth ++ lines (drop (place + 1) ps)
      → OnOk r (last ≡ first ++ (heading ++ lines ps))
  lines_in_parts (Ok x) first second third fourth last heading ps place p is own a b d e =
      let front = lines (take place ps) in
      let back = lines (drop (place + 1) ps) in
      let top = first ++ heading in
      e ∙ (ap (λ o. o ++ back) (d ∙ ap (λ o. o ++ line_of p) (b ∙ ap (λ o. o ++ front) a))
      ∙ (append_assoc (top ++ front) (line_of p) back
      ∙ (append_assoc top front (line_of p ++ back)
      ∙ (append_assoc first heading (front ++ (line_of p ++ back))
      ∙ ap (λ o. first ++ (heading ++ o)) (sym (split_lines ps place p is own))))))
  lines_in_parts (Err x) first second third fourth last heading ps place p is own a b d e = tt
