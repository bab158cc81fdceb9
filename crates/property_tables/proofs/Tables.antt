-- Tests over the whole table, and the rules that they show of each row.
use Rattle.std.proofs.Common.{◌≡◌, ◌≢◌, sym, ap, refl, List, [], ◌∷◌, Bool, true, false, get_or, arith}
use Rattle.std.specs.Prelude.{◌&&◌, ◌||◌, not, AllPairs, Option, Some, None, is_some, if◌then◌else◌}
use Rattle.std.specs.List.{list_all}
use Rattle.std.proofs.lemmas.Bool.{false≢true}
use Rattle.std.proofs.lemmas.List.Kept.{AllPairs-cons}
use Rattle.std.proofs.lemmas.List.Elements.{All-from_get_or}
use Rattle.property_tables.proofs.NameIndexes.{both, all_at}
use Rattle.color_values.specs.ColorNumber.{number_at, unsigned_at, number_with, opacity_at}
use Rattle.color_values.specs.ColorOf.{color_of_trimmed, function_color}
use Rattle.color_values.specs.HexColor.{hexadecimal_color}
use Rattle.color_values.specs.Parts.{trimmed, parts_of, cut}
use Rattle.color_values.specs.RgbColor.{rgb_color}
use Rattle.prop_values.specs.Equality.{same_text}
use Rattle.prop_values.proofs.KeyLaws.{texts_same}
use Rattle.prop_values.specs.Data.{Data}
use Rattle.property_tables.specs.Defaults.{written_default, default_of, fitted, fitted_default}
use Rattle.property_tables.specs.Fitting.{fit}
use Rattle.property_tables.specs.Literals.{has_form, keeps_limits}
use Rattle.prop_values.specs.declared.kinds.Want.TheVariants as wants
use Rattle.property_tables.specs.Rows.{RowData, absent, rows_of, background_rows, fill_rows, line_rows, symbol_rows, circle_rows, heatmap_rows, fill_extrusion_rows, raster_rows, hillshade_rows, color_relief_rows}
use Rattle.property_tables.specs.TableLaws.{MeetsAs, MeetsItself, TableKeepsRules}
use Rattle.property_tables.specs.declared.layer_type.LayerType.{LayerType}
use Rattle.property_tables.specs.declared.layer_type.LayerType.TheVariants as types
use Rattle.property_tables.specs.declared.property_row.Place.{Place}
use Rattle.property_tables.specs.declared.property_row.Place.TheVariants.{Layout, Paint}

abbrev is_paint : Place → Bool
is_paint Paint = true
is_paint Layout = false

-- what follows a row has another name, and is paint where the row is
abbrev may_follow : RowData → RowData → Bool
may_follow a b = not (same_text a.name b.name) && (not (is_paint a.place) || is_paint b.place)

-- a default has the form and keeps the limits of a literal, and fits
abbrev default_meets : RowData → Option Data → Bool
default_meets r None = true
default_meets r (Some d) = (has_form r.want d && keeps_limits r.limits d) && is_some (fitted (fit r.want d))

abbrev meets : RowData → Bool
meets r = default_meets r (written_default r.fallback)

abbrev all_follow : List RowData → Bool
all_follow [] = true
all_follow (r ∷ rs) = list_all (may_follow r) rs && all_follow rs

follow_tested : (t : LayerType) → all_follow (rows_of t) ≡ true
unfolding background_rows fill_rows line_rows symbol_rows circle_rows heatmap_rows fill_extrusion_rows raster_rows hillshade_rows color_relief_rows
follow_tested types.Background = refl
follow_tested types.Fill = refl
follow_tested types.Line = refl
follow_tested types.Symbol = refl
follow_tested types.Circle = refl
follow_tested types.Heatmap = refl
follow_tested types.FillExtrusion = refl
follow_tested types.Raster = refl
follow_tested types.Hillshade = refl
follow_tested types.ColorRelief = refl

meets_tested : (t : LayerType) → list_all meets (rows_of t) ≡ true
unfolding background_rows fill_rows line_rows symbol_rows circle_rows heatmap_rows fill_extrusion_rows raster_rows hillshade_rows color_relief_rows color_of_trimmed trimmed hexadecimal_color function_color parts_of cut rgb_color number_at unsigned_at number_with opacity_at
meets_tested types.Background = refl
meets_tested types.Fill = refl
meets_tested types.Line = refl
meets_tested types.Symbol = refl
meets_tested types.Circle = refl
meets_tested types.Heatmap = refl
meets_tested types.FillExtrusion = refl
meets_tested types.Raster = refl
meets_tested types.Hillshade = refl
meets_tested types.ColorRelief = refl

names_of_follow : (a b : RowData) → may_follow a b ≡ true → a.name ≢ b.name
names_of_follow a b e same = other (same_text a.name b.name) (texts_same a.name b.name same) (both (not (same_text a.name b.name)) _ e).0 where
  other : (s : Bool) → s ≡ true → not s ≡ true → ⊥
  other true h e = false≢true e
  other false h e = false≢true h

paint_after : (p q : Place) → (not (is_paint p) || is_paint q) ≡ true → p ≡ Paint → q ≡ Paint
paint_after Paint Paint e h = refl
paint_after Paint Layout e h = absurd (false≢true e)
paint_after Layout q e h = absurd (false≢true (ap is_paint h))

module _ (R : RowData → RowData → Type 0) (follows : (a b : RowData) → may_follow a b ≡ true → R a b) where
  pairs_from : (rs : List RowData) → all_follow rs ≡ true → AllPairs R rs
  pairs_from [] e = λ i j d h k. absurd (omega (arith, k))
  pairs_from (r ∷ rs) e =
      let (first, others) = both (list_all (may_follow r) rs) (all_follow rs) e in
      AllPairs-cons R r rs (All-from_get_or (R r) rs r (λ i h. follows r (get_or rs i r) (all_at (may_follow r) rs i r h first))) (pairs_from rs others)

meets_from : (r : RowData) (d : Data) (form : Bool) (o : Option Data) → o ≡ default_of r → (form && is_some o) ≡ true → (default_of r ≢ None) × ((if form then o else None) ≡ default_of r)
meets_from r d true None same e = absurd (false≢true e)
meets_from r d true (Some x) same e = (λ none. absurd (cc), same)
meets_from r d false o same e = absurd (false≢true e)

meets_itself : (r : RowData) (o : Option Data) → written_default r.fallback ≡ o → default_meets r o ≡ true → MeetsAs r o
meets_itself r None w e = tt
meets_itself r (Some d) w e =
    let same : default_of r ≡ fitted (fit r.want d) = ap (fitted_default r.want) w in
    meets_from r d (has_form r.want d && keeps_limits r.limits d) (fitted (fit r.want d)) (sym same) e

-- for the case that there is no row
no_row : RowData
no_row = record { number = 0; name = []; place = Layout; want = wants.Any; fallback = absent; limits = record { least = None; most = None }; reads = record { zoom = false; feature = false; state = false; ramps = false }; takes_tokens = false }

pub table_keeps_rules : TableKeepsRules
table_keeps_rules t = record {
  names = pairs_from (λ a b. a.name ≢ b.name) names_of_follow (rows_of t) (follow_tested t);
  layout_first = pairs_from (λ a b. a.place ≡ Paint → b.place ≡ Paint) (λ a b e. paint_after a.place b.place (both (not (same_text a.name b.name)) _ e).1) (rows_of t) (follow_tested t);
  defaults = All-from_get_or MeetsItself (rows_of t) no_row (λ i h. let r = get_or (rows_of t) i no_row in meets_itself r (written_default r.fallback) refl (all_at meets (rows_of t) i no_row h (meets_tested t)));
}
