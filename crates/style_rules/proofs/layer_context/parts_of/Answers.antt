use Rattle.std.proofs.Common.{sym, ap, ◌∙◌, arith}
use Rattle.std.proofs.Math.ListN.{drop_of_length-le}
use Rattle.decimal_json.specs.View.{members_view}
use Rattle.style_rules.specs.CodeView.{parts_seen}
use Rattle.style_rules.proofs.PartLaws.{with_members, found_parts}
use Rattle.style_rules.proofs.layer_context.parts_of.Goals as goal

pub returns : goal.returns
returns c =
    let end = drop_of_length-le c.args.members.now (omega (arith, c.loop-member-test.false)) in
    sym (ap (λ ms. with_members (parts_seen c.loop-member.parts) (members_view ms)) end) ∙ (c.loop-member.invariant ∙ found_parts (members_view c.args.members.now) c.requires)
