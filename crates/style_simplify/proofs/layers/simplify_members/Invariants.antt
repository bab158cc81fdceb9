use Rattle.std.proofs.Common.{◌≡◌, take}
use Rattle.decimal_json.specs.View.{members_view}
use Rattle.style_migrate.specs.Mapped.{mapped_pairs}
use Rattle.style_simplify.specs.SimplifiedStyle.{simplified_member}
use Rattle.style_simplify.proofs.layers.simplify_members.Given as goal

-- what was made are the members so far
abbrev pub invariant-loop-member : goal.invariant-loop-member
invariant-loop-member l = l.made ≡ mapped_pairs (simplified_member l.tested) (members_view (take l.member-index l.member-items))
