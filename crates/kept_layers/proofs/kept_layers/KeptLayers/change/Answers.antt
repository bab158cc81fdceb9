use Rattle.std.proofs.Common.{◌≡◌, get_or, sym, ap, subst, ◌∙◌}
use Rattle.std.specs.Prelude.{is_some, true, None, if◌then◌else◌}
use Rattle.decimal_json.specs.View.{tree_of}
use Rattle.layer_buckets.specs.Cells.{is_item, reads_globals, reads_state}
use Rattle.layer_buckets.specs.Seen.{features_of, kept_at}
use Rattle.layer_buckets.specs.declared.cell.Cell.{Cell}
use Rattle.noted_places.specs.Places.{places_in}
use Rattle.cell_sources.specs.CellExpressions.{item_expression}
use Rattle.cell_sources.specs.Sourced.{SetsItem}
use Rattle.form_pool.specs.PoolSlots.{pool_slots}
use Rattle.kept_layers.specs.Changes.{globals_of, tiles_of}
use Rattle.kept_layers.specs.KeptLayers.{layer_expressions}
use Rattle.kept_layers.proofs.ChangeLaws.{edited_held, edited_kept, edited_right, others_left}
use Rattle.kept_layers.proofs.HoldingLaws.{Leaves, bare_left, none_is_not, there_all, there_at}
use Rattle.kept_layers.proofs.NumberedLaws.{noted_item, noted_left, off_first, off_second, states_changed}
use Rattle.kept_layers.proofs.kept_layers.KeptLayers.change.Goals as goal

pub set_item-requires-clause-there : goal.set_item-requires-clause-there
set_item-requires-clause-there c =
    let b = c.args.self.now.cells.buckets in
    let ns = c.args.self.now.numbers.items in
    ap (λ n. is_some (features_of b n)) c.index-number.ensures
    ∙ there_at b ns c.args.place c.index-number.result.now c.requires.within c.requires.numbered.there

pub returns : goal.returns
returns c =
    let old = c.args.self.now.cells.buckets in
    let new = c.set_item.new.buckets in
    let ns = c.args.self.now.numbers.items in
    let n = c.index-number.result.now in
    let place = c.args.place in
    let item = c.args.item in
    let one = c.args.one.now in
    let u = tree_of one.layer.now in
    let numbered = c.requires.numbered in
    let is : n ≡ get_or ns place n = c.index-number.ensures in
    let e = c.set_item.ensures in
    let v = c.values-values.ensures in
    let left = others_left pool_slots n old new e.others in
    let at : Leaves pool_slots (get_or ns place n) old new = subst (λ k. Leaves pool_slots k old new) is left in
    let features = e.others.features (get_or ns place n) in
    let kept : (cell : Cell) → kept_at new cell ≡ (if is_item (get_or ns place n) item cell.layer cell.item then None else kept_at old cell) =
    subst (λ k. (cell : Cell) → kept_at new cell ≡ (if is_item k item cell.layer cell.item then None else kept_at old cell)) is e.kept in
    let there : is_some (features_of old n) ≡ true =
    ap (λ k. is_some (features_of old k)) is ∙ there_at old ns place n c.requires.within numbered.there in
    let made = c.in_ok-set_item.ensures.source in
    let reads = c.item_reads_globals-reads.result in
    let sets : SetsItem pool_slots (get_or ns place n) item (layer_expressions (globals_of one) u item) old new =
    subst (λ k. SetsItem pool_slots k item (layer_expressions (globals_of one) u item) old new) is
    (subst (λ x. SetsItem pool_slots n item x old new) (λ i. item_expression (v.globals i) (v.layer_type i) (v.members i) item) made) in
    record {
      numbered = record {
        sound = e.sound;
        apart = numbered.apart;
        there = there_all old new (λ l. e.others.features l) ns numbered.there;
        bare = bare_left pool_slots n old new left numbered.bare
            (λ gone. absurd (none_is_not (features_of old n) (sym (e.others.features n) ∙ gone) there));
        noted = λ off.
            let none = numbered.noted (off_first c.args.self.now.reads_globals reads off) in
            noted_left pool_slots n old new left none
            (noted_item reads_globals pool_slots n item _ old new made (none n)
            (sym c.item_reads_globals-reads.ensures ∙ off_second c.args.self.now.reads_globals reads off));
        states = states_changed pool_slots n old new left ns (places_in c.args.self.now.state_places) (places_in c.note_if.new.self)
            numbered.apart numbered.states place c.requires.within is c.item_reads_state-reads_state.result c.in_ok-note_if.ensures.ok
            (λ off none. noted_item reads_state pool_slots n item _ old new made none (sym c.item_reads_state-reads_state.ensures ∙ off));
      };
      kept = edited_kept pool_slots place n ns c.requires.within numbered.apart old new item at features e.others.expressions kept;
      holds = λ ts before changes held. edited_held pool_slots place n ns c.requires.within numbered.apart old new item at features e.others.expressions kept
          (tiles_of one) (globals_of one) before u ts changes sets held;
      right = λ scene ts before changes held right. edited_right pool_slots place n ns c.requires.within numbered.apart old new item at features e.others.expressions kept
          (tiles_of one) (globals_of one) scene before u ts changes sets right;
    }
