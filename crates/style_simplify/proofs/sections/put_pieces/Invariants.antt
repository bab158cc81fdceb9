use Rattle.std.proofs.Common.{◌≡◌, ◌+◌, length}
use Rattle.style_simplify.specs.Simple.{put_pieces}
use Rattle.style_simplify.specs.View.{elements_seen}
use Rattle.style_simplify.proofs.sections.put_pieces.Given as goal

abbrev pub invariant-loop-element : goal.invariant-loop-element
invariant-loop-element l =
    (put_pieces l.pieces l.place (elements_seen l.element-iterator.rest.items) l.items ≡ put_pieces l.pieces 0 (elements_seen l.fn.elements.items) l.fn.items)
    × (l.place + length l.element-iterator.rest.items ≡ length l.fn.elements.items)
