use Rattle.std.proofs.Common.{◌≡◌, drop}
use Rattle.decimal_json.specs.Tree.{field_at}
use Rattle.decimal_json.specs.View.{fields}
use Rattle.style_layout.proofs.placed_layer.value_among.Given as goal

abbrev pub invariant-loop-member : goal.invariant-loop-member
invariant-loop-member l = field_at l.name (fields (drop l.member-index l.members)) ≡ field_at l.name (fields l.members)
