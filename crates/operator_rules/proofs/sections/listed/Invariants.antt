use Rattle.std.proofs.Common.{◌≡◌, ◌-◌, [], drop, length}
use Rattle.prop_values.specs.ViewParts.{values_view}
use Rattle.format_text.specs.Sections.{section_with}
use Rattle.eval_face.specs.Sections.{add_pieces}
use Rattle.operator_rules.proofs.sections.listed.Given as goal

-- what is left makes of the open section what all of them make of the first
abbrev pub invariant-loop-place : goal.invariant-loop-place
invariant-loop-place l =
    add_pieces (drop l.place l.pieces) (values_view (drop l.place l.values)) (l.sections, l.current) ≡ add_pieces l.pieces (values_view l.values) ([], section_with l.fn.content)

abbrev pub decreases-loop-place : goal.decreases-loop-place
decreases-loop-place l = length l.pieces - l.place
