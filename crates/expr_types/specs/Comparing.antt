-- Kinds that may be compared. An image counts as anything. Source: MapLibre style specification, version 8,
-- expressions, as this project takes them.
use Rattle.std.specs.Prelude.{Bool, true, false, not, ◌&&◌, ◌||◌, List, [], ◌∷◌, Option, Some, None, if◌then◌else◌}
use Rattle.prop_values.specs.Faults.{no_faults}
use Rattle.prop_values.specs.declared.fault.EvalFault.TheVariants.{NotOrdered}
use Rattle.prop_values.specs.declared.kinds.Kind.{Kind}
use Rattle.prop_values.specs.declared.kinds.Kind.TheVariants as kinds
use Rattle.expr_syntax.specs.declared.parts.Label.{Label}
use Rattle.expr_syntax.specs.declared.parts.Label.TheVariants.{Text, Number}
use Rattle.expr_syntax.specs.declared.parts.Labelled.{Labelled}
use Rattle.expr_types.specs.Own.{faults_if}
use Rattle.expr_types.specs.declared.fault.TypeCode.{TypeCode}
use Rattle.expr_types.specs.declared.fault.TypeCode.TheVariants as codes
use Rattle.expr_types.specs.declared.own.Own.{Own}

abbrev pub unless_comparable : Bool → Option TypeCode
unless_comparable b = if b then None else Some codes.NotComparable

-- kinds of which no value is compared
abbrev pub is_compound : Kind → Bool
is_compound kinds.Color = true
is_compound kinds.Object = true
is_compound (kinds.List i n) = true
is_compound k = false

-- two kinds among boolean, number and text that differ
abbrev pub differ : Kind → Kind → Bool
differ kinds.Boolean kinds.Number = true
differ kinds.Boolean kinds.Text = true
differ kinds.Number kinds.Boolean = true
differ kinds.Number kinds.Text = true
differ kinds.Text kinds.Boolean = true
differ kinds.Text kinds.Number = true
differ j k = false

-- `==` and `!=`
abbrev pub are_comparable : Kind → Kind → Bool
are_comparable j k = not (is_compound j || (is_compound k || differ j k))

abbrev pub own_equal : Kind → Kind → Own
own_equal j k = record { kind = kinds.Boolean; code = unless_comparable (are_comparable j k); faults = no_faults }

-- `<`, `<=`, `>` and `>=`
abbrev pub may_be_ordered : Kind → Bool
may_be_ordered kinds.Number = true
may_be_ordered kinds.Text = true
may_be_ordered kinds.Image = true
may_be_ordered kinds.Any = true
may_be_ordered k = false

abbrev pub number_and_text : Kind → Kind → Bool
number_and_text kinds.Number kinds.Text = true
number_and_text kinds.Text kinds.Number = true
number_and_text j k = false

abbrev pub are_orderable : Kind → Kind → Bool
are_orderable j k = may_be_ordered j && (may_be_ordered k && not (number_and_text j k))

abbrev pub are_ordered : Kind → Kind → Bool
are_ordered kinds.Number kinds.Number = true
are_ordered kinds.Text kinds.Text = true
are_ordered j k = false

abbrev pub own_ordered : Kind → Kind → Own
own_ordered j k = record { kind = kinds.Boolean; code = unless_comparable (are_orderable j k); faults = faults_if (not (are_ordered j k)) NotOrdered }

-- `match`: whether a value of a kind may be equal to labels, which are all texts or all numbers
abbrev pub has_labels : Kind → Label → Bool
has_labels kinds.Any l = true
has_labels kinds.Image l = true
has_labels kinds.Number (Number z) = true
has_labels kinds.Text (Text s) = true
has_labels k l = false

abbrev pub has_such_labels : Kind → List Labelled → Bool
has_such_labels k [] = true
has_such_labels k (l ∷ ls) = has_labels k l.label
