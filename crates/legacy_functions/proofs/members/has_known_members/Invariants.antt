use Rattle.std.proofs.Common.{◌≡◌, drop}
use Rattle.decimal_json.specs.View.{fields}
use Rattle.legacy_functions.specs.Form.{has_known_members}
use Rattle.legacy_functions.proofs.members.has_known_members.Given as goal

abbrev pub invariant-loop-member : goal.invariant-loop-member
invariant-loop-member l = has_known_members (fields (drop l.member-index l.member-items)) ≡ has_known_members (fields l.member-items)
