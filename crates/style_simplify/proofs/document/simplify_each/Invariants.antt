use Rattle.std.proofs.Common.{◌≡◌, take}
use Rattle.decimal_json.specs.View.{items_view}
use Rattle.style_migrate.specs.Mapped.{mapped_list}
use Rattle.style_simplify.specs.SimplifiedStyle.{simplified_layer}
use Rattle.style_simplify.proofs.document.simplify_each.Given as goal

-- what was made are the layers so far
abbrev pub invariant-loop-layer : goal.invariant-loop-layer
invariant-loop-layer l = l.made ≡ mapped_list simplified_layer (items_view (take l.layer-index l.layer-items))
