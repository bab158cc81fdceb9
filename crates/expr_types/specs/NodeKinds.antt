-- The kind of a node by the kinds of its arguments, of a literal and of a name: what typing finds of each beside
-- its faults and places. None represents a type fault. Source: own.
use Rattle.std.specs.Prelude.{ℕ, List, [], Bool, true, false, Option, Some, None, Ok, Err, if◌then◌else◌}
use Rattle.std.specs.List.{slice_get}
use Rattle.prop_values.specs.Data.{Data}
use Rattle.prop_values.specs.Faults.{no_faults}
use Rattle.prop_values.specs.declared.kinds.Kind.{Kind}
use Rattle.prop_values.specs.declared.kinds.Want.{Want}
use Rattle.expr_syntax.specs.declared.expression.Operator.{Operator}
use Rattle.expr_syntax.specs.Names.{row}
use Rattle.expr_syntax.specs.Operators.{operator_name}
use Rattle.expr_types.specs.OwnTable.{own}
use Rattle.expr_types.specs.Sequences.{sequence_fit}
use Rattle.expr_types.specs.Typing.{Node, KindScope, literal_node, fitted, finished_node, own_named}
use Rattle.expr_types.specs.declared.fits.Fit.{Fit}
use Rattle.expr_types.specs.declared.fits.Fit.TheVariants.{Never}

abbrev pub kind_found : Node → Option Kind
kind_found (Ok k) = Some k.kind
kind_found (Err f) = None

-- a literal under a want
abbrev pub literal_kind_under : Data → Want → Option Kind
literal_kind_under d want = kind_found (literal_node d want [])

-- a name under a want, in the names around it
abbrev pub name_kind : KindScope → List ℕ → Want → Option Kind
name_kind scope name want = kind_found (fitted want (own_named scope name) no_faults [])

-- the argument that has to be a text or a list may be one
abbrev pub is_possible : Fit → Bool
is_possible Never = false
is_possible fit = true

abbrev pub may_be_sequence : Option Kind → Bool
may_be_sequence (Some k) = is_possible (sequence_fit k)
may_be_sequence None = true

abbrev pub has_sequence : Option ℕ → List Kind → Bool
has_sequence (Some place) ks = may_be_sequence (slice_get ks place)
has_sequence None ks = true

-- a node beside `let` and `var` under a want, by the kinds of its arguments
abbrev pub node_kind : Operator → Want → List Kind → Option Kind
node_kind op want ks =
    if has_sequence (row (operator_name op)).sequence ks
    then kind_found (finished_node op want (own op want [] ks) no_faults [])
    else None
