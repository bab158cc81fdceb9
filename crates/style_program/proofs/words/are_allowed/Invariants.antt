use Rattle.std.proofs.Common.{◌≡◌, ◌≤◌, length, take, map}
use Rattle.std.specs.Prelude.{true}
use Rattle.style_program.specs.Words.{are_allowed, sources_of}
use Rattle.style_program.specs.WordsView.{tile_word}
use Rattle.style_program.proofs.words.are_allowed.Given as goal

abbrev pub invariant-loop-i : goal.invariant-loop-i
invariant-loop-i l = record {
  allowed : are_allowed (map tile_word (take l.i l.tiles)) ≡ true;
  counted : l.sources ≡ length (sources_of (map tile_word (take l.i l.tiles)));
  few : l.sources ≤ 16;
}
