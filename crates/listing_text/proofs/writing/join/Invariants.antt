use Rattle.std.proofs.Common.{◌≡◌, ◌≤◌, take}
use Rattle.listing_text.specs.Parts.{parts_text}
use Rattle.listing_text.proofs.writing.join.Given as goal

abbrev pub invariant-loop-part : goal.invariant-loop-part
invariant-loop-part l = record {
  within : l.end ≤ 128;
  text : take l.end l.line ≡ parts_text (take l.part-index l.parts);
}
