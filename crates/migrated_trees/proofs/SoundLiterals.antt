-- Literals of the rows of the table, and their defaults, are sound inside of as many arrays as the expression
-- of a function puts around them: a literal is a scalar or an array of scalars.
use Rattle.std.proofs.Common.{◌≡◌, ℕ, zero, suc, ◌+◌, ◌≤◌, List, [], ◌∷◌, length, refl, subst, arith, true}
use Rattle.std.proofs.Common.{false}
use Rattle.std.proofs.lemmas.Bool.{and_parts, leb-true}
use Rattle.std.specs.Char.{is_ascii}
use Rattle.std.specs.Fmt.{digits}
use Rattle.std.specs.List.{list_all}
use Rattle.std.specs.Prelude.{Bool, ◌&&◌, nat_le, replicate, codes, Option, Some, None, Result, Ok, Err}
use Rattle.std.specs.Prelude.{if◌then◌else◌}
use Rattle.fixed_num.specs.NumberText.{last_digits, without_end_zeros, fraction_text, magnitude_text}
use Rattle.fixed_num.specs.NumberText.{number_text}
use Rattle.fixed_num.specs.declared.decimal.NumFault.{NumFault}
use Rattle.json_tokens.specs.Number.{is_number}
use Rattle.decimal_json.specs.Sound.{IsSound, AreSound}
use Rattle.decimal_json.specs.Tree as json
use Rattle.decimal_json.specs.Tree.{Tree, Trees, no_trees, tree, Fields, trees_of}
use Rattle.prop_values.specs.Data.{Data, null, boolean, number, text, color, list, map, Items, no_items}
use Rattle.prop_values.specs.Data.{item, Pairs}
use Rattle.prop_values.specs.Equality.{same_text}
use Rattle.prop_values.specs.JsonData.{json_data, trees_data, fields_data, then_data, then_items}
use Rattle.prop_values.specs.declared.fault.EvalFault.{EvalFault}
use Rattle.prop_values.specs.declared.fault.EvalFault.TheVariants.{WrongType, NotInEnum}
use Rattle.prop_values.specs.declared.kinds.Item.{Item}
use Rattle.prop_values.specs.declared.kinds.Item.TheVariants as items
use Rattle.prop_values.specs.declared.kinds.Want.{Want}
use Rattle.prop_values.specs.declared.kinds.Want.TheVariants as wants
use Rattle.property_tables.specs.Defaults.{fitted}
use Rattle.property_tables.specs.Fitting.{fit, is_item, are_items, has_count, are_choices}
use Rattle.property_tables.specs.Literals.{has_form, keeps_limits, literal_read, literal_of}
use Rattle.property_tables.specs.Rows.{RowData, Default, absent, amount, word, zeros, fonts, rows_of}
use Rattle.property_tables.specs.Rows.{row_named, at_place, is_at}
use Rattle.property_tables.specs.Rows as rows
use Rattle.property_tables.specs.Rows.{background_rows, fill_rows, line_rows, symbol_rows, circle_rows}
use Rattle.property_tables.specs.Rows.{heatmap_rows}
use Rattle.property_tables.specs.Rows.{fill_extrusion_rows, raster_rows, hillshade_rows, color_relief_rows}
use Rattle.property_tables.specs.declared.layer_type.LayerType.{LayerType}
use Rattle.property_tables.specs.declared.layer_type.LayerType.TheVariants as types
use Rattle.property_tables.specs.declared.property_row.Place.{Place}
use Rattle.legacy_functions.specs.ToExpression.{as_literal, written_tree}
use Rattle.legacy_laws.specs.LegacyFunctionLaw.{IsTableRow}
use Rattle.migrated_trees.proofs.AsciiTexts.{ascii_is_utf8}
use Rattle.migrated_trees.proofs.SoundTexts.{called}

-- ---- scalars

abbrev is_flat : Data → Bool
is_flat (list ds) = false
is_flat (map ps) = false
is_flat _ = true

abbrev are_flat : Items → Bool
are_flat no_items = true
are_flat (item d ds) = is_flat d && are_flat ds

abbrev pub is_flat_kind : Item → Bool
is_flat_kind items.Any = false
is_flat_kind _ = true

-- wants whose literals are scalars or arrays of these
abbrev pub is_flat_want : Want → Bool
is_flat_want wants.Any = false
is_flat_want wants.Object = false
is_flat_want (wants.List i n) = is_flat_kind i
is_flat_want _ = true

abbrev is_bare : Tree → Bool
is_bare (json.list ts) = false
is_bare (json.object fs) = false
is_bare _ = true

abbrev are_bare : Trees → Bool
are_bare no_trees = true
are_bare (tree t ts) = is_bare t && are_bare ts

-- ---- items of one form are scalars

item_flat : (i : Item) (d : Data) → is_flat_kind i ≡ true → is_item i d ≡ true → is_flat d ≡ true
item_flat items.Any d flat h = absurd (cc)
item_flat items.Boolean null flat h = absurd (cc)
item_flat items.Boolean (boolean b) flat h = refl
item_flat items.Boolean (number z) flat h = absurd (cc)
item_flat items.Boolean (text s) flat h = absurd (cc)
item_flat items.Boolean (color c) flat h = absurd (cc)
item_flat items.Boolean (list ds) flat h = absurd (cc)
item_flat items.Boolean (map ps) flat h = absurd (cc)
item_flat items.Number null flat h = absurd (cc)
item_flat items.Number (boolean b) flat h = absurd (cc)
item_flat items.Number (number z) flat h = refl
item_flat items.Number (text s) flat h = absurd (cc)
item_flat items.Number (color c) flat h = absurd (cc)
item_flat items.Number (list ds) flat h = absurd (cc)
item_flat items.Number (map ps) flat h = absurd (cc)
item_flat items.Text null flat h = absurd (cc)
item_flat items.Text (boolean b) flat h = absurd (cc)
item_flat items.Text (number z) flat h = absurd (cc)
item_flat items.Text (text s) flat h = refl
item_flat items.Text (color c) flat h = absurd (cc)
item_flat items.Text (list ds) flat h = absurd (cc)
item_flat items.Text (map ps) flat h = absurd (cc)

items_flat : (i : Item) (ds : Items) → is_flat_kind i ≡ true → are_items i ds ≡ true → are_flat ds ≡ true
items_flat i no_items flat h = refl
items_flat i (item d ds) flat h =
    let both = and_parts (is_item i d) (are_items i ds) h in
    let first = item_flat i d flat both.0 in
    let rest = items_flat i ds flat both.1 in
    rw (first, rest) refl

-- ---- a list that is a literal has scalars alone

abbrev Fits : Want → Data → Bool → Data → Type 0
Fits want d within found = (if has_form want d && within then fitted (fit want d) else None) ≡ Some found

none_fits : (b : Bool) (found : Data) → (if b then None else None) ≡ Some found → ⊥
none_fits true found h = absurd (cc)
none_fits false found h = absurd (cc)

-- a list that is kept where a test holds, and nothing where it does not
kept_list : (b : Bool) (within : Bool) (ds : Items) (fault : EvalFault) (found : Data)
    → (if within then fitted (if b then Ok (list ds) else Err fault) else None) ≡ Some found → b ≡ true
kept_list true within ds fault found h = refl
kept_list false within ds fault found h = absurd (none_fits within found h)

choices_kept : (texts choices : Bool) (within : Bool) (ds : Items) (found : Data)
    → (if within then fitted (if texts then (if choices then Ok (list ds) else Err NotInEnum) else Err WrongType) else None) ≡ Some found
    → texts ≡ true
choices_kept true choices within ds found h = refl
choices_kept false choices within ds found h = absurd (none_fits within found h)

list_is_flat : (want : Want) (ds : Items) (within : Bool) (found : Data) → is_flat_want want ≡ true
    → Fits want (list ds) within found → are_flat ds ≡ true
list_is_flat wants.Any ds within found flat h = absurd (cc)
list_is_flat wants.Shown ds within found flat h = absurd (cc)
list_is_flat wants.Boolean ds within found flat h = absurd (none_fits within found h)
list_is_flat wants.Number ds within found flat h = absurd (none_fits within found h)
list_is_flat wants.Text ds within found flat h = absurd (none_fits within found h)
list_is_flat wants.Color ds within found flat h = absurd (none_fits within found h)
list_is_flat wants.Object ds within found flat h = absurd (cc)
list_is_flat wants.Image ds within found flat h = absurd (cc)
list_is_flat (wants.List i n) ds within found flat h =
    let kept = kept_list (has_count n ds && are_items i ds) within ds WrongType found h in
    items_flat i ds flat (and_parts (has_count n ds) (are_items i ds) kept).1
list_is_flat (wants.Enum c) ds within found flat h = absurd (none_fits within found h)
list_is_flat (wants.EnumList c) ds within found flat h =
    items_flat items.Text ds refl (choices_kept (are_items items.Text ds) (are_choices c ds) within ds found h)

-- and an object is none
map_fits_nowhere : (want : Want) (ps : Pairs) (within : Bool) (found : Data) → is_flat_want want ≡ true
    → Fits want (map ps) within found → ⊥
map_fits_nowhere wants.Any ps within found flat h = absurd (cc)
map_fits_nowhere wants.Shown ps within found flat h = absurd (cc)
map_fits_nowhere wants.Boolean ps within found flat h = none_fits within found h
map_fits_nowhere wants.Number ps within found flat h = none_fits within found h
map_fits_nowhere wants.Text ps within found flat h = none_fits within found h
map_fits_nowhere wants.Color ps within found flat h = none_fits within found h
map_fits_nowhere wants.Object ps within found flat h = absurd (cc)
map_fits_nowhere wants.Image ps within found flat h = absurd (cc)
map_fits_nowhere (wants.List i n) ps within found flat h = none_fits within found h
map_fits_nowhere (wants.Enum c) ps within found flat h = none_fits within found h
map_fits_nowhere (wants.EnumList c) ps within found flat h = none_fits within found h

-- ---- trees of scalars

abbrev flat_read : Result Data NumFault → Bool
flat_read (Ok d) = is_flat d
flat_read (Err past) = false

abbrev flats_read : Result Items NumFault → Bool
flats_read (Ok ds) = are_flat ds
flats_read (Err past) = false

parts_flat : (first : Result Data NumFault) (rest : Result Items NumFault)
    → flats_read (then_items first (λ d. then_items rest (λ ds. Ok (item d ds)))) ≡ true
    → (flat_read first ≡ true) × (flats_read rest ≡ true)
parts_flat (Ok d) (Ok ds) h = and_parts (is_flat d) (are_flat ds) h
parts_flat (Ok d) (Err past) h = absurd (cc)
parts_flat (Err past) rest h = absurd (cc)

list_not_flat : (r : Result Items NumFault) → flat_read (then_data r (λ ds. Ok (list ds))) ≡ true → ⊥
list_not_flat (Ok ds) h = absurd (cc)
list_not_flat (Err past) h = absurd (cc)

map_not_flat : (r : Result Pairs NumFault) → flat_read (then_data r (λ ps. Ok (map ps))) ≡ true → ⊥
map_not_flat (Ok ps) h = absurd (cc)
map_not_flat (Err past) h = absurd (cc)

-- a scalar that is sound at one place is so at each
scalar_sound : (t : Tree) (j m : ℕ) → flat_read (json_data t) ≡ true → IsSound j t → IsSound m t
scalar_sound json.null j m flat h = tt
scalar_sound (json.boolean b) j m flat h = tt
scalar_sound (json.number n) j m flat h = h
scalar_sound (json.text s) j m flat h = h
scalar_sound (json.list ts) j m flat h = absurd (list_not_flat (trees_data ts) flat)
scalar_sound (json.object fs) j m flat h = absurd (map_not_flat (fields_data fs) flat)

scalars_sound : (ts : Trees) (j m : ℕ) → flats_read (trees_data ts) ≡ true → AreSound j ts → AreSound m ts
scalars_sound no_trees j m flat h = tt
scalars_sound (tree t ts) j m flat h =
    let both = parts_flat (json_data t) (trees_data ts) flat in
    (scalar_sound t j m both.0 h.0, scalars_sound ts j m both.1 h.1)

-- ---- literals

list_read : (row : RowData) (r : Result Items NumFault) (found : Data) → is_flat_want row.want ≡ true
    → literal_read row (then_data r (λ ds. Ok (list ds))) ≡ Some found → flats_read r ≡ true
list_read row (Ok ds) found flat h = list_is_flat row.want ds (keeps_limits row.limits (list ds)) found flat h
list_read row (Err past) found flat h = absurd (cc)

map_read : (row : RowData) (r : Result Pairs NumFault) (found : Data) → is_flat_want row.want ≡ true
    → literal_read row (then_data r (λ ps. Ok (map ps))) ≡ Some found → ⊥
map_read row (Ok ps) found flat h = map_fits_nowhere row.want ps (keeps_limits row.limits (map ps)) found flat h
map_read row (Err past) found flat h = absurd (cc)

-- sound inside of at most so many arrays and objects
abbrev pub IsSoundUpTo : ℕ → Tree → Type 0
IsSoundUpTo most t = (k : ℕ) → k ≤ most → IsSound k t

pub literal_sound : (row : RowData) (t : Tree) (found : Data) (j : ℕ) → is_flat_want row.want ≡ true
    → literal_of t row ≡ Some found → IsSound j t → IsSoundUpTo 50 (as_literal t)
literal_sound row json.null found j flat is h k low = tt
literal_sound row (json.boolean b) found j flat is h k low = tt
literal_sound row (json.number n) found j flat is h k low = h
literal_sound row (json.text s) found j flat is h k low = h
literal_sound row (json.list ts) found j flat is h k low =
    let items = scalars_sound ts (suc j) (suc (suc k)) (list_read row (trees_data ts) found flat is) h.1 in
    called (codes "literal") k (json.list ts ∷ []) refl (omega (arith, low)) ((omega (arith, low), items), tt)
literal_sound row (json.object fs) found j flat is h k low =
    absurd (map_read row (fields_data fs) found flat is)

-- ---- the rows of the table

abbrev pub has_sound_default : Default → Bool
has_sound_default (amount z) = is_number (number_text z) && nat_le (length (number_text z)) 64
has_sound_default (word s) = list_all is_ascii s
has_sound_default _ = true

abbrev is_sound_row : RowData → Bool
is_sound_row row = is_flat_want row.want && has_sound_default row.fallback

all_sound : (t : LayerType) → list_all is_sound_row (rows_of t) ≡ true
unfolding background_rows fill_rows line_rows symbol_rows circle_rows heatmap_rows fill_extrusion_rows
    raster_rows hillshade_rows color_relief_rows last_digits without_end_zeros fraction_text
    magnitude_text number_text digits
all_sound types.Background = refl
all_sound types.Fill = refl
all_sound types.Line = refl
all_sound types.Symbol = refl
all_sound types.Circle = refl
all_sound types.Heatmap = refl
all_sound types.FillExtrusion = refl
all_sound types.Raster = refl
all_sound types.Hillshade = refl
all_sound types.ColorRelief = refl

abbrev Numbered : Type 0
Numbered = ℕ × RowData

abbrev IsFoundSound : Option Numbered → Type 0
IsFoundSound (Some found) = is_sound_row found.1 ≡ true
IsFoundSound None = Unit {0}

of_if : (b : Bool) (x y : Option Numbered) → IsFoundSound x → IsFoundSound y → IsFoundSound (if b then x else y)
of_if true x y h k = h
of_if false x y h k = k

named_is_sound : (n : ℕ) (name : List ℕ) (rs : List RowData) → list_all is_sound_row rs ≡ true
    → IsFoundSound (row_named n name rs)
named_is_sound n name [] h = tt
named_is_sound n name (r ∷ rs) h =
    let both = and_parts (is_sound_row r) (list_all is_sound_row rs) h in
    of_if (same_text name r.name) (Some (n, r)) (row_named (n + 1) name rs) both.0
    (named_is_sound (n + 1) name rs both.1)

placed_is_sound : (p : Place) (found : Option Numbered) → IsFoundSound found → IsFoundSound (at_place p found)
placed_is_sound p (Some found) h = of_if (is_at p found.1.place) (Some found) None h tt
placed_is_sound p None h = tt

pub record IsSoundRow (row : RowData) : Type 0 where
  pub want : is_flat_want row.want ≡ true
  pub default : has_sound_default row.fallback ≡ true

pub rows_are_sound : (row : RowData) → IsTableRow row → IsSoundRow row
rows_are_sound row is =
    let (t, place, name, n, found) = is in
    let rs = rows_of t in
    let of_row = placed_is_sound place (row_named 0 name rs) (named_is_sound 0 name rs (all_sound t)) in
    let both = and_parts (is_flat_want row.want) (has_sound_default row.fallback)
    (subst IsFoundSound found of_row) in
    record { want = both.0; default = both.1 }

-- ---- defaults

zeros_sound : (n k : ℕ) → AreSound k (trees_of (replicate n (json.number (codes "0"))))
zeros_sound zero k = tt
zeros_sound (suc n) k = ((refl, omega arith), zeros_sound n k)

pub default_sound : (d : Default) → has_sound_default d ≡ true → IsSoundUpTo 50 (as_literal (written_tree d))
default_sound absent h k low = tt
default_sound (rows.flag b) h k low = tt
default_sound (amount z) h k low =
    let both = and_parts (is_number (number_text z)) (nat_le (length (number_text z)) 64) h in
    (both.0, leb-true (length (number_text z)) 64 both.1)
default_sound (word s) h k low = ascii_is_utf8 s h
default_sound (zeros n) h k low =
    called (codes "literal") k (json.list (trees_of (replicate n (json.number (codes "0")))) ∷ []) refl
    (omega (arith, low))
    ((omega (arith, low), zeros_sound n (suc (suc k))), tt)
default_sound fonts h k low =
    let names = json.text (codes "Open Sans Regular") ∷ json.text (codes "Arial Unicode MS Regular") ∷ [] in
    called (codes "literal") k (json.list (trees_of names) ∷ []) refl (omega (arith, low)) (
      (
        omega (arith, low),
        (
          ascii_is_utf8 (codes "Open Sans Regular") refl,
          (ascii_is_utf8 (codes "Arial Unicode MS Regular") refl, tt),
        ),
      ),
      tt,
    )
