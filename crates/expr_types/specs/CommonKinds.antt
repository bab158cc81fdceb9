-- The kind that several have in common, as kinds are found one after the other.
use Rattle.std.specs.Prelude.{List, Bool, Option, Some, None, if◌then◌else◌}
use Rattle.prop_values.specs.declared.kinds.Kind.{Kind}
use Rattle.prop_values.specs.declared.kinds.Kind.TheVariants as kinds
use Rattle.expr_types.specs.Fits.{same_kind}
use Rattle.expr_types.specs.Own.{common_with, common_kind}

abbrev pub joined : Option Kind → Kind → Kind
joined (Some k) j = if same_kind k j then k else kinds.Any
joined None j = j

abbrev pub noted : Option Kind → Bool → Kind → Option Kind
noted common is_output k = if is_output then Some (joined common k) else common

abbrev pub common_after : Option Kind → List Kind → Kind
common_after (Some k) ks = common_with k ks
common_after None ks = common_kind ks
