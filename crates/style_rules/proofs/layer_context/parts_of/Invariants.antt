use Rattle.std.proofs.Common.{◌≡◌, drop}
use Rattle.decimal_json.specs.View.{members_view}
use Rattle.style_rules.specs.CodeView.{parts_seen}
use Rattle.style_rules.proofs.PartLaws.{with_members, no_parts}
use Rattle.style_rules.proofs.layer_context.parts_of.Given as goal

abbrev pub invariant-loop-member : goal.invariant-loop-member
invariant-loop-member l = with_members (parts_seen l.parts) (members_view (drop l.member-index l.members)) ≡ with_members no_parts (members_view l.members)
