use Rattle.std.proofs.Common.{◌≡◌, ◌++◌, take}
use Rattle.listing_text.specs.Parts.{parts_text}
use Rattle.listing_text.proofs.writing.write_each.Given as goal

abbrev pub invariant-loop-part : goal.invariant-loop-part
invariant-loop-part l = l.out.items ≡ l.fn.out.items ++ parts_text (take l.part-index l.parts)
