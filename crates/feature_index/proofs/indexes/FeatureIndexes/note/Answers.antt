use Rattle.std.proofs.Common.{arith, map, set, sym, subst}
use Rattle.std.proofs.lemmas.List.{length-set}
use Rattle.style_layout.specs.CodeView.{tile_seen}
use Rattle.feature_index.specs.Indexes.{AreEntries, IsEntryOf}
use Rattle.feature_index.proofs.IndexLaws.{entries_set, entries_swapped, entry_at}
use Rattle.feature_index.proofs.indexes.FeatureIndexes.note.Goals as goal

pub note-requires-clause-entry : goal.note-requires-clause-entry
note-requires-clause-entry c =
    let tiles = map tile_seen c.args.tiles.now in
    subst (IsEntryOf tiles) (sym c.index_mut.ensures.value)
    (entry_at tiles c.args.self.now.layers.items c.in-Some.place c.index_mut.result.now c.in-Some.ensures.within c.requires.indexed)

pub returns-in-Some : goal.returns-in-Some
returns-in-Some c =
    let tiles = map tile_seen c.args.tiles.now in
    let old = c.args.self.now.layers.items in
    let place = c.in-Some.place in
    let noted = set old place c.note.new.self in
    let count = length-set old place c.note.new.self in
    subst (AreEntries tiles) (sym c.swap.ensures.items)
    (entries_swapped tiles noted 0 place (omega (arith, c.in-Some.ensures.within, count)) (omega (arith, c.in-Some.ensures.within, count))
    (entries_set tiles old place c.note.new.self c.requires.indexed c.note.ensures))

pub returns-in-None : goal.returns-in-None
returns-in-None c = c.add.ensures (map tile_seen c.args.tiles.now) c.requires.indexed
