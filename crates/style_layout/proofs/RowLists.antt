-- The properties of rows, row by row.
use Rattle.std.proofs.Common.{◌≡◌, ◌∙◌, ℕ, ◌+◌, ◌<◌, List, [], ◌∷◌, ◌++◌, length, get_or, drop, map, ap, sym, refl, arith, true, false}
use Rattle.std.specs.Prelude.{Bool, None, flat_map, if◌then◌else◌}
use Rattle.std.proofs.lemmas.List.{append_assoc, drop_more, map-append}
use Rattle.decimal_json.specs.Tree.{Tree}
use Rattle.prop_values.specs.Data.{Data}
use Rattle.property_tables.specs.Rows.{RowData}
use Rattle.style_layout.specs.Forms.{Property}
use Rattle.style_layout.specs.Layers.{is_visibility, property_if, set_property, set_value}

same_of_either : {A : Type 0} (b : Bool) (a : A) → (if b then a else a) ≡ a
same_of_either true a = refl
same_of_either false a = refl

-- a row more, of whose properties something is made
module _ {A : Type 0} (f : Property → A) (set : RowData → List Property) where
  grown : (rows : List RowData) (n : ℕ) (d : RowData) → n < length rows → (old new whole : List A)
      → new ≡ old ++ map f (set (get_or rows n d)) → old ++ map f (flat_map set (drop n rows)) ≡ whole
      → new ++ map f (flat_map set (drop (n + 1) rows)) ≡ whole
  grown rows n d below old new whole pushed before =
      let here = set (get_or rows n d) in
      let later = flat_map set (drop (n + 1) rows) in
      ap (λ ps. ps ++ map f later) pushed
      ∙ (append_assoc old (map f here) (map f later)
      ∙ (ap (λ ps. old ++ ps) (sym (map-append f here later) ∙ ap (λ rs. map f (flat_map set rs)) (sym (drop_more rows n d below))) ∙ before))

  pub row_more : (rows : List RowData) (n : ℕ) → n < length rows → (old new whole : List A)
      → ((other : RowData) → new ≡ old ++ map f (set (get_or rows n other))) → old ++ map f (flat_map set (drop n rows)) ≡ whole
      → new ++ map f (flat_map set (drop (n + 1) rows)) ≡ whole
  row_more [] n below old new whole pushed before = absurd (omega (arith, below))
  row_more (r ∷ rows) n below old new whole pushed before = grown (r ∷ rows) n r below old new whole (pushed r) before

-- a property that is not set
pub unset_property : (globals : List (List ℕ × Data)) (layer : Tree) (row : RowData) → set_value layer row.place row.name ≡ None
    → set_property globals layer row ≡ []
unset_property globals layer row unset =
    ap (λ value. if is_visibility row then [] else property_if row globals value) unset ∙ same_of_either (is_visibility row) []
