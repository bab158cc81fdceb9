-- The row of a name, and that of a number, from the place of its entry.
use Rattle.std.proofs.Common.{◌≡◌, ◌≢◌, ◌∙◌, ℕ, zero, suc, ◌+◌, ◌<◌, sym, ap, refl, List, [], ◌∷◌, get_or, length, arith}
use Rattle.std.specs.Prelude.{map, Some, None}
use Rattle.std.proofs.lemmas.List.{length-map}
use Rattle.prop_values.proofs.KeyLaws.{texts_same, texts_differ}
use Rattle.property_tables.specs.NameIndex.{name_at, IsPlaceOf, IsNowhere}
use Rattle.property_tables.specs.Rows.{RowData, numbered, row_named}
use Rattle.property_tables.specs.RowView.{names_of, rows_seen, entry_seen}
use Rattle.property_tables.specs.declared.entry.TableEntry.{TableEntry}

-- the row of the entry of a number
abbrev pub row_at : TableEntry → ℕ → RowData
row_at e n = record (entry_seen e) { number = n }

found_from : (n : ℕ) (q : List ℕ) (es : List TableEntry) (i : ℕ) (d : TableEntry) → i < length es → name_at (names_of es) i ≡ q → ((j : ℕ) → j < i → name_at (names_of es) j ≢ q) → row_named n q (numbered n (map entry_seen es)) ≡ Some (n + i, row_at (get_or es i d) (n + i))
found_from n q [] i d w there first = absurd (omega (arith, w))
found_from n q (e ∷ es) zero d w there first =
    let same = texts_same q e.name.now (sym there) in
    rw same (let number : n ≡ n + 0 = omega arith in ap (λ m. Some (m, row_at e m)) number)
found_from n q (e ∷ es) (suc i) d w there first =
    let other = texts_differ q e.name.now (λ same. first 0 (omega arith) (sym same)) in
    rw other (found_from (n + 1) q es i d (omega (arith, w)) there (λ j h. first (suc j) (omega (arith, h))) ∙ (let number : n + 1 + i ≡ n + suc i = omega arith in ap (λ m. Some (m, row_at (get_or es i d) m)) number))

none_from : (n : ℕ) (q : List ℕ) (es : List TableEntry) → IsNowhere (names_of es) q → row_named n q (numbered n (map entry_seen es)) ≡ None
none_from n q [] none = refl
none_from n q (e ∷ es) none =
    let other = texts_differ q e.name.now (λ same. none 0 (omega arith) (sym same)) in
    rw other (none_from (n + 1) q es (λ i h. none (suc i) (omega (arith, h))))

pub none_named : (q : List ℕ) (es : List TableEntry) → IsNowhere (names_of es) q → row_named 0 q (rows_seen es) ≡ None
none_named q es none = none_from 0 q es none

pub found_named : (q : List ℕ) (es : List TableEntry) (i : ℕ) (d : TableEntry) → IsPlaceOf (names_of es) q i → row_named 0 q (rows_seen es) ≡ Some (i, row_at (get_or es i d) i)
found_named q es i d at =
    let within : i < length es = omega (arith, at.within, length-map es (λ e. e.name.now)) in
    let from_0 : 0 + i ≡ i = omega arith in
    found_from 0 q es i d within at.there (λ j h same. let e = at.alone j (omega (arith, h, at.within)) same in absurd (omega (arith, e, h))) ∙ ap (λ m. Some (m, row_at (get_or es i d) m)) from_0

count_numbered : (n : ℕ) (es : List TableEntry) → length (numbered n (map entry_seen es)) ≡ length es
count_numbered n [] = refl
count_numbered n (e ∷ es) = ap suc (count_numbered (n + 1) es)

pub rows_counted : (es : List TableEntry) → length (rows_seen es) ≡ length es
rows_counted es = count_numbered 0 es

numbered_from : (n : ℕ) (es : List TableEntry) (i : ℕ) (d : TableEntry) (other : RowData) → i < length es → get_or (numbered n (map entry_seen es)) i other ≡ row_at (get_or es i d) (n + i)
numbered_from n [] i d other h = absurd (omega (arith, h))
numbered_from n (e ∷ es) zero d other h = let number : n ≡ n + 0 = omega arith in ap (row_at e) number
numbered_from n (e ∷ es) (suc i) d other h =
    let number : n + 1 + i ≡ n + suc i = omega arith in
    numbered_from (n + 1) es i d other (omega (arith, h)) ∙ ap (row_at (get_or es i d)) number

row_of_number : (es : List TableEntry) (i : ℕ) (d : TableEntry) (other : RowData) → i < length es → get_or (rows_seen es) i other ≡ row_at (get_or es i d) i
row_of_number es i d other h = let from_0 : 0 + i ≡ i = omega arith in numbered_from 0 es i d other h ∙ ap (row_at (get_or es i d)) from_0

-- the row of a number is that of the entry at its place
pub row_found : (es : List TableEntry) (rows : List RowData) (i number : ℕ) (d : TableEntry) (other : RowData)
    → i < length es → i ≡ number → rows_seen es ≡ rows → get_or rows number other ≡ row_at (get_or es i d) number
row_found es rows i number d other h same seen =
    ap (λ rs. get_or rs number other) (sym seen) ∙ ap (λ k. get_or (rows_seen es) k other) (sym same)
    ∙ row_of_number es i d other h ∙ ap (row_at (get_or es i d)) same
