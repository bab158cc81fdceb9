-- The names around an expression, as definitions see them.
use Rattle.std.specs.Prelude.{[], ◌∷◌}
use Rattle.expr_types.specs.Typing.{KindScope, frame}
use Rattle.expr_types.specs.declared.scope.KindScope.{KindScope as CodeScope, Empty, Inside'}

abbrev pub scope_of : CodeScope → KindScope
scope_of Empty = []
scope_of (Inside' bound p outer) = frame bound.names.now bound.kinds.now ∷ scope_of outer
