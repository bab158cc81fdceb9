-- Each row of a type is a row of the table of properties, by its name.
use Rattle.std.proofs.Common.{◌≡◌, ◌≢◌, ◌∙◌, ℕ, ◌+◌, ◌<◌, zero, suc, List, [], ◌∷◌, length, get_or, ap, sym, refl, subst, arith, true, false}
use Rattle.std.proofs.lemmas.Option.{slice_get-get_or, slice_get_within}
use Rattle.std.specs.Prelude.{AllPairs, Some, None, if◌then◌else◌}
use Rattle.std.specs.List.{slice_get}
use Rattle.prop_values.proofs.KeyLaws.{texts_same, texts_differ}
use Rattle.property_tables.specs.Rows.{RowData, at_place, is_at, row_named, rows_of}
use Rattle.property_tables.specs.TableLaws.{TableKeepsRules}
use Rattle.property_tables.specs.declared.layer_type.LayerType.{LayerType}
use Rattle.property_tables.specs.declared.property_row.Place.{Place}
use Rattle.property_tables.specs.declared.property_row.Place.TheVariants.{Layout, Paint}
use Rattle.legacy_laws.specs.LegacyFunctionLaw.{IsTableRow}

abbrev HasAnotherName : RowData → RowData → Type 0
HasAnotherName a b = a.name ≢ b.name

found_at : (n : ℕ) (rows : List RowData) (i : ℕ) (row : RowData) → AllPairs HasAnotherName rows → slice_get rows i ≡ Some row
    → (m : ℕ) × (row_named n row.name rows ≡ Some (m, row))
found_at n [] i row apart is = absurd (omega (arith, slice_get_within [] i row is))
found_at n (first ∷ rows) zero row apart is =
    let same : first ≡ row = cc in (
      n,
      subst (λ r. row_named n r.name (first ∷ rows) ≡ Some (n, r)) same
          (ap (λ b. if b then Some (n, first) else row_named (n + 1) first.name rows) (texts_same first.name first.name refl)),
    )
found_at n (first ∷ rows) (suc i) row apart is =
    let (m, found) = found_at (n + 1) rows i row (λ j k d h l. apart (suc j) (suc k) d (omega (arith, h)) (omega (arith, l))) is in
    let within = slice_get_within rows i row is in
    let here : get_or rows i first ≡ row = (let there = sym (slice_get-get_or rows i first within) ∙ is in cc) in
    let differ : row.name ≢ first.name =
    λ same. apart zero (suc i) first (omega arith) (omega (arith, within)) (sym same ∙ ap (λ (r : RowData). r.name) (sym here)) in
    (m, ap (λ b. if b then Some (n, first) else row_named (n + 1) row.name rows) (texts_differ row.name first.name differ) ∙ found)

at_itself : (p : Place) → is_at p p ≡ true
at_itself Layout = refl
at_itself Paint = refl

-- a row of a type is one of the table
pub table_row : TableKeepsRules → (type : LayerType) (n : ℕ) (row : RowData) → slice_get (rows_of type) n ≡ Some row → IsTableRow row
table_row keeps type n row is =
    let (m, found) = found_at 0 (rows_of type) n row (keeps type).names is in (
      type,
      row.place,
      row.name,
      m,
      ap (at_place row.place) found ∙ ap (λ b. if b then Some (m, row) else None) (at_itself row.place),
    )

pub table_row_at : TableKeepsRules → (type : LayerType) (n : ℕ) (row : RowData) → n < length (rows_of type)
    → ((other : RowData) → Some row ≡ Some (get_or (rows_of type) n other)) → IsTableRow row
table_row_at keeps type n row within is = table_row keeps type n row (slice_get-get_or (rows_of type) n row within ∙ sym (is row))
