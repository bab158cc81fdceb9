-- `interpolate`: what may be interpolated, and when a number may pass the bound. Source: MapLibre style
-- specification, version 8, expressions, as this project takes them.
use Rattle.std.specs.Prelude.{ℕ, ◌*◌, ℤ, ◌-ℤ◌, unsigned_abs, nat_le, List, [], ◌∷◌, drop, Bool, true, false, not, ◌&&◌}
use Rattle.std.specs.Prelude.{◌||◌, Option, Some, None, Result, Ok, Err, if◌then◌else◌}
use Rattle.prop_values.specs.Data.{Data, number, list, Items, no_items, item}
use Rattle.prop_values.specs.declared.fault.EvalFault.{EvalFault}
use Rattle.prop_values.specs.declared.fault.EvalFault.TheVariants.{Overflow}
use Rattle.prop_values.specs.declared.kinds.Item.TheVariants as items
use Rattle.prop_values.specs.declared.kinds.Kind.{Kind}
use Rattle.prop_values.specs.declared.kinds.Kind.TheVariants as kinds
use Rattle.prop_values.specs.declared.kinds.Want.{Want}
use Rattle.prop_values.specs.declared.kinds.Want.TheVariants as wants
use Rattle.prop_values.specs.declared.outcome.Curve.{Curve}
use Rattle.prop_values.specs.declared.outcome.Curve.TheVariants.{Linear, Exponential}
use Rattle.interpolate_fixed.specs.Linear.{farthest}
use Rattle.property_tables.specs.Fitting.{fit}
use Rattle.expr_syntax.specs.Operators.{ramp_want}
use Rattle.expr_types.specs.Fits.{same_kind}
use Rattle.expr_types.specs.Literals.{is_value}
use Rattle.expr_types.specs.Own.{common_kind, faults_if}
use Rattle.expr_types.specs.declared.fault.TypeCode.{TypeCode}
use Rattle.expr_types.specs.declared.fault.TypeCode.TheVariants as codes
use Rattle.expr_types.specs.declared.own.Own.{Own}

-- numbers, colors, and lists of numbers whose length is known
abbrev pub is_ramp_kind : Kind → Bool
is_ramp_kind kinds.Number = true
is_ramp_kind kinds.Color = true
is_ramp_kind (kinds.List items.Number (Some n)) = true
is_ramp_kind k = false

-- where anything is wanted, or a text of it, the outputs have to be of one such kind
abbrev pub is_interpolable : Want → Kind → Bool
is_interpolable wants.Number k = true
is_interpolable wants.Color k = true
is_interpolable (wants.List items.Number (Some n)) k = true
is_interpolable wants.Any k = is_ramp_kind k
is_interpolable wants.Shown k = is_ramp_kind k
is_interpolable want k = false

-- from one stop to the next, over so much of the input: no step passes the bound of `interpolate_fixed`
abbrev pub is_near : ℤ → ℤ → ℤ → ℤ → Bool
is_near x0 a x1 b = nat_le (unsigned_abs (b -ℤ a) * unsigned_abs (x1 -ℤ x0)) farthest

abbrev pub is_item_near : ℤ → Data → ℤ → Data → Bool
is_item_near x0 (number a) x1 (number b) = is_near x0 a x1 b
is_item_near x0 d x1 e = false

abbrev pub are_items_near : ℤ → Items → ℤ → Items → Bool
are_items_near x0 no_items x1 no_items = true
are_items_near x0 (item d ds) x1 (item e es) = is_item_near x0 d x1 e && are_items_near x0 ds x1 es
are_items_near x0 ds x1 es = false

abbrev pub are_near : ℤ → Data → ℤ → Data → Bool
are_near x0 (number a) x1 (number b) = is_near x0 a x1 b
are_near x0 (list ds) x1 (list es) = are_items_near x0 ds x1 es
are_near x0 d x1 e = false

-- an output that is a literal and fits the want
abbrev pub is_fitting : Want → Option Data → Bool
is_fitting want (Some d) = is_value (fit want d)
is_fitting want None = false

abbrev pub are_next_near : ℤ → Option Data → ℤ → Option Data → Bool
are_next_near x0 (Some d) x1 (Some e) = are_near x0 d x1 e
are_next_near x0 _ x1 _ = false

-- whether all outputs, one for each input, are literals that fit, and no step between two neighbours is far
abbrev pub first_near : ℤ → ℤ → List (Option Data) → Bool
first_near x0 x1 (l ∷ m ∷ ls) = are_next_near x0 l x1 m
first_near x0 x1 ls = true

abbrev pub next_from : List ℤ → List (Option Data) → Bool
next_from (x0 ∷ x1 ∷ xs) ls = first_near x0 x1 ls
next_from xs ls = true

abbrev pub steps_are_near : List ℤ → Want → List (Option Data) → Bool
steps_are_near [] want [] = true
steps_are_near (x ∷ xs) want (l ∷ ls) = is_fitting want l && (next_from (x ∷ xs) (l ∷ ls) && steps_are_near xs want ls)
steps_are_near xs want ls = false

abbrev pub is_linear : Curve → Bool
is_linear Linear = true
is_linear (Exponential base) = false

-- colors never pass the bound along a line
abbrev pub may_pass : Curve → List ℤ → Want → List (Option Data) → Kind → Bool
may_pass curve inputs want ls k = not (is_linear curve && (same_kind k kinds.Color || steps_are_near inputs want ls))

abbrev pub unless_interpolable : Bool → Option TypeCode
unless_interpolable b = if b then None else Some codes.NotInterpolable

-- by the literals and the kinds of all arguments, the input first
abbrev pub own_ramp : Curve → List ℤ → Want → List (Option Data) → List Kind → Own
own_ramp curve inputs want ls ks = record {
  kind = common_kind (drop 1 ks);
  code = unless_interpolable (is_interpolable want (common_kind (drop 1 ks)));
  faults = faults_if (may_pass curve inputs (ramp_want want) (drop 1 ls) (common_kind (drop 1 ks))) Overflow;
}
