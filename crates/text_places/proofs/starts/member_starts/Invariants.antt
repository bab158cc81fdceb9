use Rattle.std.proofs.Common.{◌≡◌, ◌++◌, drop}
use Rattle.decimal_json.specs.View.{fields}
use Rattle.text_places.specs.Starts.{member_starts, slices_seen}
use Rattle.text_places.proofs.starts.member_starts.Given as goal

abbrev pub invariant-loop-member : goal.invariant-loop-member
invariant-loop-member l =
    slices_seen l.starts.items ++ member_starts (fields (drop l.member-index l.members)) l.rest ≡ member_starts (fields l.members) l.fn.text
