use Rattle.std.proofs.Common.{◌≡◌, take}
use Rattle.decimal_json.specs.View.{members_view}
use Rattle.style_migrate.specs.Mapped.{mapped_pairs}
use Rattle.style_simplify.specs.SimplifiedStyle.{simplified_part}
use Rattle.style_simplify.proofs.document.simplify_parts.Given as goal

-- what was made are the members so far
abbrev pub invariant-loop-member : goal.invariant-loop-member
invariant-loop-member l = l.made ≡ mapped_pairs (simplified_part) (members_view (take l.member-index l.member-items))
