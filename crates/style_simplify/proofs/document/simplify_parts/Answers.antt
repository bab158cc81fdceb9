use Rattle.std.proofs.Common.{◌≡◌, subst, sym}
use Rattle.decimal_json.specs.Sound.{HasDistinctKeys}
use Rattle.decimal_json.specs.View.{tree_of, members_view}
use Rattle.style_simplify.specs.SimplifiedStyle.{simplified_part}
use Rattle.style_migrate.proofs.MappedLaws.{lacks_key, members_step}
use Rattle.style_simplify.proofs.document.simplify_parts.Goals as goal

pub push-requires : goal.push-requires
push-requires c =
    let items = c.as_slice-member-items.result.now in
    let m = c.member-item.result in
    let d : HasDistinctKeys (members_view items) = subst HasDistinctKeys (sym c.as_slice-member-items.ensures.members) c.as_slice-member-items.ensures.distinct in
    let h = lacks_key (simplified_part) items c.loop-member.member-index m d c.loop-member-test.true c.member-item.is in
    let k : c.in_ok-key.key ≡ m.key = c.in_ok-key.ensures.same in
    rw (c.loop-member.invariant, k) h

pub loop-member-preserved : goal.loop-member-preserved
loop-member-preserved c =
    members_step (simplified_part) c.as_slice-member-items.result.now c.loop-member.member-index c.member-item.result c.loop-member.made c.push.new.self
    c.in_ok-key.key (tree_of c.in_ok-simplify_part.field-0) c.loop-member-test.true c.member-item.is c.loop-member.invariant c.in_ok-key.ensures.same c.in_ok-simplify_part.ensures c.in_ok-push.ensures.ok
