-- What holds of each row of the table of properties: what its values are wanted as, and that its default
-- fits.
use Rattle.std.proofs.Common.{◌≡◌, ◌≢◌, ℕ, ◌+◌, List, [], ◌∷◌, refl, ap, subst, true, false}
use Rattle.std.proofs.lemmas.List.Elements.{All-head, All-tail}
use Rattle.std.specs.Prelude.{Bool, not, ◌&&◌, ◌||◌, nat_le, unsigned_abs, All, Option, Some, None, Result, Ok, Err, if◌then◌else◌}
use Rattle.std.specs.List.{list_all}
use Rattle.fixed_num.specs.Number.{bound}
use Rattle.prop_values.specs.Data.{Data}
use Rattle.prop_values.specs.Equality.{same_text}
use Rattle.prop_values.specs.declared.fault.EvalFault.{EvalFault}
use Rattle.prop_values.specs.declared.kinds.Item.TheVariants as items
use Rattle.prop_values.specs.declared.kinds.Want.{Want}
use Rattle.prop_values.specs.declared.kinds.Want.TheVariants as wants
use Rattle.property_tables.proofs.Tables.{table_keeps_rules}
use Rattle.property_tables.specs.Defaults.{written_default, fitted, fitted_default, default_of}
use Rattle.property_tables.specs.Fitting.{fit}
use Rattle.property_tables.specs.Rows.{RowData, Default, amount, rows_of, row_named, at_place, is_at}
use Rattle.property_tables.specs.Rows.{background_rows, fill_rows, line_rows, symbol_rows, circle_rows, heatmap_rows}
use Rattle.property_tables.specs.Rows.{fill_extrusion_rows, raster_rows, hillshade_rows, color_relief_rows}
use Rattle.property_tables.specs.TableLaws.{MeetsAs, MeetsItself}
use Rattle.property_tables.specs.declared.layer_type.LayerType.{LayerType}
use Rattle.property_tables.specs.declared.layer_type.LayerType.TheVariants as types
use Rattle.property_tables.specs.declared.property_row.Place.{Place}
use Rattle.legacy_functions.specs.Function.{Way, even, curved, stepped}
use Rattle.legacy_functions.proofs.SoundRules.{IsWayOf}
use Rattle.legacy_laws.specs.LegacyFunctionLaw.{IsTableRow}

-- wants between whose values there are others
abbrev pub is_ramp_want : Want → Bool
is_ramp_want wants.Number = true
is_ramp_want wants.Color = true
is_ramp_want (wants.List items.Number (Some n)) = true
is_ramp_want _ = false

-- wants of properties
abbrev pub is_property_want : Want → Bool
is_property_want wants.Any = false
is_property_want wants.Text = false
is_property_want wants.Object = false
is_property_want _ = true

-- wants that a text fits
abbrev pub is_text_want : Want → Bool
is_text_want wants.Shown = true
is_text_want wants.Image = true
is_text_want _ = false

-- an amount is a number that has a text
abbrev pub is_within_bound : Default → Bool
is_within_bound (amount z) = nat_le (unsigned_abs z) bound
is_within_bound _ = true

abbrev pub DefaultFits : Want → Option Data → Type 0
DefaultFits want (Some d) = (e : Data) × (fit want d ≡ Ok e)
DefaultFits want None = Unit {0}

pub record IsRegular (row : RowData) : Type 0 where
  pub default : DefaultFits row.want (written_default row.fallback)
  pub ramps : row.reads.ramps ≡ true → is_ramp_want row.want ≡ true
  pub want : is_property_want row.want ≡ true
  pub amount : is_within_bound row.fallback ≡ true
  pub tokens : row.takes_tokens ≡ true → row.reads.feature ≡ true
  pub texts : row.takes_tokens ≡ true → is_text_want row.want ≡ true

-- ---- defaults fit, by the law of the table

fits_by : (row : RowData) (d : Data) (r : Result Data EvalFault) → fit row.want d ≡ r → default_of row ≢ None
    → default_of row ≡ fitted r → (e : Data) × (fit row.want d ≡ Ok e)
fits_by row d (Ok e) h some is = (e, h)
fits_by row d (Err fault) h some is = absurd (some is)

fits_where : (row : RowData) (w : Option Data) → written_default row.fallback ≡ w → MeetsAs row w → DefaultFits row.want w
fits_where row (Some d) is h = fits_by row d (fit row.want d) refl h.0 (ap (fitted_default row.want) is)
fits_where row None is h = tt

-- ---- the rest is a test of the whole table

abbrev is_regular : RowData → Bool
is_regular row =
    ((not row.reads.ramps || is_ramp_want row.want) && (not row.takes_tokens || row.reads.feature))
    && (is_property_want row.want && (is_within_bound row.fallback && (not row.takes_tokens || is_text_want row.want)))

all_regular : (t : LayerType) → list_all is_regular (rows_of t) ≡ true
unfolding background_rows fill_rows line_rows symbol_rows circle_rows heatmap_rows fill_extrusion_rows
    raster_rows hillshade_rows color_relief_rows
all_regular types.Background = refl
all_regular types.Fill = refl
all_regular types.Line = refl
all_regular types.Symbol = refl
all_regular types.Circle = refl
all_regular types.Heatmap = refl
all_regular types.FillExtrusion = refl
all_regular types.Raster = refl
all_regular types.Hillshade = refl
all_regular types.ColorRelief = refl

implied : (a b : Bool) → (not a || b) ≡ true → a ≡ true → b ≡ true
implied true b h k = h
implied false b h k = absurd (cc)

left : (a b : Bool) → (a && b) ≡ true → a ≡ true
left true b h = refl
left false b h = h

right : (a b : Bool) → (a && b) ≡ true → b ≡ true
right true b h = h
right false b h = absurd (cc)

abbrev IsTested : RowData → Type 0
IsTested row = (is_regular row ≡ true) × MeetsItself row

regular_where : (row : RowData) → IsTested row → IsRegular row
regular_where row h =
    let a = not row.reads.ramps || is_ramp_want row.want in
    let b = not row.takes_tokens || row.reads.feature in
    let c = is_property_want row.want in
    let d = is_within_bound row.fallback in
    let e = not row.takes_tokens || is_text_want row.want in
    let rest = d && e in
    let first = left (a && b) (c && rest) h.0 in
    let second = right (a && b) (c && rest) h.0 in
    let third = right c rest second in
    record {
      default = fits_where row (written_default row.fallback) refl h.1;
      ramps = implied row.reads.ramps (is_ramp_want row.want) (left a b first);
      want = left c rest second;
      amount = left d e third;
      tokens = implied row.takes_tokens row.reads.feature (right a b first);
      texts = implied row.takes_tokens (is_text_want row.want) (right d e third);
    }

-- ---- rows that are found

abbrev Numbered : Type 0
Numbered = ℕ × RowData

abbrev IsFoundTested : Option Numbered → Type 0
IsFoundTested (Some found) = IsTested found.1
IsFoundTested None = Unit {0}

of_if : (b : Bool) (x y : Option Numbered) → IsFoundTested x → IsFoundTested y → IsFoundTested (if b then x else y)
of_if true x y h k = h
of_if false x y h k = k

named_is_tested : (n : ℕ) (name : List ℕ) (rs : List RowData) → list_all is_regular rs ≡ true → All MeetsItself rs
    → IsFoundTested (row_named n name rs)
named_is_tested n name [] h k = tt
named_is_tested n name (r ∷ rs) h k =
    of_if (same_text name r.name) (Some (n, r)) (row_named (n + 1) name rs)
    (left (is_regular r) (list_all is_regular rs) h, All-head MeetsItself r rs k)
    (named_is_tested (n + 1) name rs (right (is_regular r) (list_all is_regular rs) h) (All-tail MeetsItself r rs k))

placed_is_tested : (p : Place) (found : Option Numbered) → IsFoundTested found → IsFoundTested (at_place p found)
placed_is_tested p (Some found) h = of_if (is_at p found.1.place) (Some found) None h tt
placed_is_tested p None h = tt

pub table_rows : (row : RowData) → IsTableRow row → IsRegular row
table_rows row is =
    let (t, place, name, number, found) = is in
    let rs = rows_of t in
    let of_row = placed_is_tested place (row_named 0 name rs) (named_is_tested 0 name rs (all_regular t) (table_keeps_rules t).defaults) in
    regular_where row (subst IsFoundTested found of_row)

-- ---- how functions go from stop to stop

-- otherwise than by steps only under a want between whose values there are others
abbrev pub MayGo : Want → Way → Type 0
MayGo want even = is_ramp_want want ≡ true
MayGo want (curved base) = is_ramp_want want ≡ true
MayGo want stepped = Unit {0}

pub may_go : (row : RowData) → IsRegular row → (way : Way) → IsWayOf row way → MayGo row.want way
may_go row regular even h = regular.ramps h
may_go row regular (curved base) h = regular.ramps h.0
may_go row regular stepped h = tt

pub zooms_may_go : (row : RowData) → IsRegular row → (b : Bool) → row.reads.ramps ≡ b
    → MayGo row.want (if b then even else stepped)
zooms_may_go row regular true h = regular.ramps h
zooms_may_go row regular false h = tt
