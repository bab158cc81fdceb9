-- Operators over texts and lists: an argument that has to be one of the two, and their own kinds.
-- Source: MapLibre style specification, version 8, expressions.
use Rattle.std.specs.Prelude.{ℕ, List, [], ◌∷◌, Option, None, not}
use Rattle.prop_values.specs.Faults.{no_faults, one_fault, union}
use Rattle.prop_values.specs.declared.fault.EvalFault.TheVariants.{IndexOutside, IndexNotWhole}
use Rattle.prop_values.specs.declared.fault.FaultSet.{FaultSet}
use Rattle.prop_values.specs.declared.kinds.Item.{Item}
use Rattle.prop_values.specs.declared.kinds.Item.TheVariants as items
use Rattle.prop_values.specs.declared.kinds.Kind.{Kind}
use Rattle.prop_values.specs.declared.kinds.Kind.TheVariants as kinds
use Rattle.expr_types.specs.Comparing.{is_compound, unless_comparable}
use Rattle.expr_types.specs.Own.{owns, ill_typed}
use Rattle.expr_types.specs.declared.fits.Fit.{Fit}
use Rattle.expr_types.specs.declared.fits.Fit.TheVariants.{Always, Maybe, Never}
use Rattle.expr_types.specs.declared.own.Own.{Own}

-- how a kind fits where a text or a list is asked
abbrev pub sequence_fit : Kind → Fit
sequence_fit kinds.Text = Always
sequence_fit (kinds.List i n) = Always
sequence_fit kinds.Any = Maybe
sequence_fit k = Never

abbrev pub item_kind : Item → Kind
item_kind items.Any = kinds.Any
item_kind items.Boolean = kinds.Boolean
item_kind items.Number = kinds.Number
item_kind items.Text = kinds.Text

-- the kind of the items of a list
abbrev pub kind_of_items : Kind → Kind
kind_of_items (kinds.List i n) = item_kind i
kind_of_items k = kinds.Any

abbrev pub index_faults : FaultSet
index_faults = union (one_fault IndexOutside) (one_fault IndexNotWhole)

-- `at`
abbrev pub own_at : Kind → Kind → Own
own_at index k = owns (kind_of_items k) index_faults

-- `in`
abbrev pub own_in : Kind → Kind → Own
own_in needle k =
    record { kind = kinds.Boolean; code = unless_comparable (not (is_compound needle)); faults = no_faults }

-- `index-of`, without and with a place to begin at
abbrev pub own_place : Kind → FaultSet → Own
own_place needle faults =
    record { kind = kinds.Number; code = unless_comparable (not (is_compound needle)); faults = faults }

abbrev pub own_index_of : List Kind → Own
own_index_of (needle ∷ k ∷ []) = own_place needle no_faults
own_index_of (needle ∷ k ∷ from ∷ []) = own_place needle index_faults
own_index_of ks = ill_typed

-- `slice`: a stretch of a text or of a list
abbrev pub stretch_kind : Kind → Kind
stretch_kind kinds.Text = kinds.Text
stretch_kind (kinds.List i n) = kinds.List i None
stretch_kind k = kinds.Any

abbrev pub own_slice : List Kind → Own
own_slice [] = ill_typed
own_slice (k ∷ ks) = owns (stretch_kind k) (one_fault IndexNotWhole)
