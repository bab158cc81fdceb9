use Rattle.std.proofs.Common.{◌≡◌, ◌++◌, drop}
use Rattle.decimal_json.specs.View.{path_of, fields}
use Rattle.style_rules.specs.CodeView.{context_seen, has_name}
use Rattle.style_rules.specs.Levels.{fields_reports, member_reports}
use Rattle.style_rules.proofs.layer.report_each_member.Given as goal

abbrev pub invariant-loop-member : goal.invariant-loop-member
invariant-loop-member l =
    l.reports ++ fields_reports (member_reports (context_seen l.within.layer) (has_name l.within.used.now) (path_of l.here)) (fields (drop l.member-index l.members))
    ≡ l.fn.reports ++ fields_reports (member_reports (context_seen l.within.layer) (has_name l.within.used.now) (path_of l.here)) (fields l.members)
