use Rattle.std.proofs.Common.{[], subst, ◌≤◌, ◌<◌, sym}
use Rattle.style_program.specs.Words.{most_sources, most_tiles}
use Rattle.style_program.specs.WordsView.{tile_word}
use Rattle.style_program.specs.declared.words.TileWord.{TileWord}
use Rattle.style_program.proofs.TileWords.{total, allowed, many_sources, many_tiles}
use Rattle.style_program.proofs.words.are_allowed.Goals as goal

-- what is past the end of tiles
abbrev past : TileWord
past = record { source = record { ref_ptr = (0, 0); now = [] }; tile = record { ref_ptr = (0, 0); now = [] } }

pub loop-i-preserved : goal.loop-i-preserved
loop-i-preserved c =
    let now = total tile_word c.args.tiles.now c.loop-i.i past c.loop-i-test.true c.loop-i.sources c.new_sources-sources.result c.count_of-before.result
    c.loop-i.invariant.counted c.count_of-before.ensures.count c.new_sources-sources.ensures in
    record {
      allowed = allowed tile_word c.args.tiles.now c.loop-i.i past c.loop-i-test.true c.loop-i.invariant.allowed
          (subst (λ n. n ≤ most_sources) now c.if-sources-gt-MOST_SOURCES.false)
          (subst (λ n. n < most_tiles) c.count_of-before.ensures.count c.if-before-ge-MOST_TILES.false);
      counted = now;
      few = c.if-sources-gt-MOST_SOURCES.false;
    }

pub returns-then-sources-gt-MOST_SOURCES : goal.returns-then-sources-gt-MOST_SOURCES
returns-then-sources-gt-MOST_SOURCES c =
    let now = total tile_word c.args.tiles.now c.loop-i.i past c.loop-i-test.true c.loop-i.sources c.new_sources-sources.result c.count_of-before.result
    c.loop-i.invariant.counted c.count_of-before.ensures.count c.new_sources-sources.ensures in
    sym (many_sources tile_word c.args.tiles.now c.loop-i.i past c.loop-i-test.true
    (subst (λ n. most_sources < n) now c.if-sources-gt-MOST_SOURCES.true))

pub returns-then-before-ge-MOST_TILES : goal.returns-then-before-ge-MOST_TILES
returns-then-before-ge-MOST_TILES c =
    sym (many_tiles tile_word c.args.tiles.now c.loop-i.i past c.loop-i-test.true
    (subst (λ n. most_tiles ≤ n) c.count_of-before.ensures.count c.if-before-ge-MOST_TILES.true))
