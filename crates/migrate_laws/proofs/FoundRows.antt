-- Each row of the table is the row of its type, place and name; and a row that is found has the name.
use Rattle.std.proofs.Common.{◌≡◌, ◌≢◌, ◌∙◌, ℕ, ◌+◌, zero, suc, List, [], ◌∷◌, refl, ap, sym, arith, true, false}
use Rattle.std.proofs.lemmas.List.Elements.{All-head, All-tail}
use Rattle.std.specs.Prelude.{Bool, All, AllPairs, Option, Some, None, if◌then◌else◌}
use Rattle.prop_values.specs.Equality.{same_text}
use Rattle.prop_values.proofs.KeyLaws.{texts_same, same_texts, texts_differ}
use Rattle.property_tables.specs.Rows.{RowData, rows_of, row_named, is_at, at_place, row_of}
use Rattle.property_tables.specs.TableLaws.{TableKeepsRules}
use Rattle.property_tables.specs.declared.layer_type.LayerType.{LayerType}
use Rattle.property_tables.specs.declared.property_row.Place.{Place}
use Rattle.property_tables.specs.declared.property_row.Place.TheVariants.{Layout, Paint}

abbrev Numbered : Type 0
Numbered = ℕ × RowData

-- ---- each row is found

abbrev pub IsFoundBy : (RowData → Option Numbered) → RowData → Type 0
IsFoundBy find row = (n : ℕ) × (find row ≡ Some (n, row))

abbrev pub AreFoundBy : (RowData → Option Numbered) → List RowData → Type 0
AreFoundBy find [] = Unit {0}
AreFoundBy find (row ∷ rows) = IsFoundBy find row × AreFoundBy find rows

abbrev by_name : ℕ → List RowData → RowData → Option Numbered
by_name n rows row = row_named n row.name rows

abbrev HasAnotherName : RowData → RowData → Type 0
HasAnotherName a b = a.name ≢ b.name

later_found : (n : ℕ) (first : RowData) (rest rows : List RowData) → All (HasAnotherName first) rows
    → AreFoundBy (by_name (n + 1) rest) rows → AreFoundBy (by_name n (first ∷ rest)) rows
later_found n first rest [] apart h = tt
later_found n first rest (row ∷ rows) apart h =
    let (m, found) = h.0 in
    let differ = All-head (HasAnotherName first) row rows apart in
    let other = texts_differ row.name first.name (λ same. differ (sym same)) in (
      (m, ap (λ b. if b then Some (n, first) else by_name (n + 1) rest row) other ∙ found),
      later_found n first rest rows (All-tail (HasAnotherName first) row rows apart) h.1,
    )

found_by_name : (n : ℕ) (rows : List RowData) → AllPairs HasAnotherName rows → AreFoundBy (by_name n rows) rows
found_by_name n [] apart = tt
found_by_name n (row ∷ rows) apart =
    let same = texts_same row.name row.name refl in
    let rest =
    found_by_name (n + 1) rows
    (λ i j d h k. apart (suc i) (suc j) d (omega (arith, h)) (omega (arith, k))) in (
      (n, ap (λ b. if b then Some (n, row) else by_name (n + 1) rows row) same),
      later_found n row rows rows (λ k d h. apart zero (suc k) d (omega arith) (omega (arith, h))) rest,
    )

at_itself : (p : Place) → is_at p p ≡ true
at_itself Layout = refl
at_itself Paint = refl

-- the row of its own type, place and name
abbrev pub own_row : LayerType → RowData → Option Numbered
own_row type row = row_of type row.place row.name

placed_found : (type : LayerType) (rows : List RowData) → AreFoundBy (by_name 0 (rows_of type)) rows
    → AreFoundBy (own_row type) rows
placed_found type [] h = tt
placed_found type (row ∷ rows) h =
    let (n, found) = h.0 in
    let here = ap (λ b. if b then Some (n, row) else None) (at_itself row.place) in
    ((n, ap (at_place row.place) found ∙ here), placed_found type rows h.1)

pub rows_found : TableKeepsRules → (type : LayerType) → AreFoundBy (own_row type) (rows_of type)
rows_found keeps type = placed_found type (rows_of type) (found_by_name 0 (rows_of type) (keeps type).names)

-- ---- a row that is found has the name

abbrev pub HasName : List ℕ → Option Numbered → Type 0
HasName name (Some found) = found.1.name ≡ name
HasName name None = Unit {0}

named_if : (n : ℕ) (name : List ℕ) (row : RowData) (later : Option Numbered) (b : Bool)
    → same_text name row.name ≡ b → HasName name later → HasName name (if b then Some (n, row) else later)
named_if n name row later true is h = sym (same_texts name row.name is)
named_if n name row later false is h = h

named_has_name : (n : ℕ) (name : List ℕ) (rows : List RowData) → HasName name (row_named n name rows)
named_has_name n name [] = tt
named_has_name n name (row ∷ rows) =
    let later = named_has_name (n + 1) name rows in
    named_if n name row (row_named (n + 1) name rows) (same_text name row.name) refl later

placed_if : (name : List ℕ) (found : Numbered) (b : Bool) → found.1.name ≡ name
    → HasName name (if b then Some found else None)
placed_if name found true h = h
placed_if name found false h = tt

placed_has_name : (p : Place) (name : List ℕ) (found : Option Numbered) → HasName name found
    → HasName name (at_place p found)
placed_has_name p name (Some found) h = placed_if name found (is_at p found.1.place) h
placed_has_name p name None h = tt

pub row_has_name : (type : LayerType) (place : Place) (name : List ℕ) → HasName name (row_of type place name)
row_has_name type place name =
    placed_has_name place name (row_named 0 name (rows_of type)) (named_has_name 0 name (rows_of type))
