use Rattle.std.proofs.Common.{◌≡◌, ◌<◌, ◌≤◌, length, get_or, refl, sym, ap, subst, arith, ◌∙◌}
use Rattle.std.specs.Prelude.{is_some, true, false}
use Rattle.std.proofs.lemmas.Bool.{false≢true}
use Rattle.decimal_json.specs.Tree.{null}
use Rattle.decimal_json.specs.View.{tree_of}
use Rattle.layer_buckets.specs.Cells.{reads_state}
use Rattle.layer_buckets.specs.Seen.{features_of, source_of}
use Rattle.noted_places.specs.Places.{AreNoted, NotesIf, places_in}
use Rattle.property_tables.specs.declared.layer_type.LayerType.{LayerType}
use Rattle.style_layout.specs.Layers.{StyleLayer}
use Rattle.cell_sources.specs.CellExpressions.{IsItemOf}
use Rattle.layer_buckets.specs.declared.cell.CellItem.{CellItem}
use Rattle.asked_cells.specs.Expressions.{LayerExpressions}
use Rattle.cell_sources.specs.Sourced.{LeavesOthers}
use Rattle.form_pool.specs.PoolSlots.{pool_slots}
use Rattle.kept_layers.specs.Changes.{globals_of}
use Rattle.kept_layers.specs.Holding.{AreApart, AreThere, ReadsNoState}
use Rattle.kept_layers.specs.KeptLayers.{layer_expressions, type_of}
use Rattle.kept_layers.specs.Turning.{TurnsItem}
use Rattle.kept_layers.specs.View.{globals_in, tiles_in, trees_in}
use Rattle.kept_layers.proofs.ChangeLaws.{others_left}
use Rattle.kept_layers.proofs.GlobalLaws.{all_held, layers_more, no_layers, none_to_turn, turns_globals}
use Rattle.kept_layers.proofs.HoldingLaws.{bare_left, none_is_not, there_all, there_at}
use Rattle.kept_layers.proofs.Lists.{get_same}
use Rattle.kept_layers.proofs.StateNotes.{all_noted, first_noted, none_noted}
use Rattle.kept_layers.proofs.kept_layers.KeptLayers.turn_layers.Goals as goal

pub loop-place-init : goal.loop-place-init
loop-place-init c =
    let s = c.args.style.now in
    let old = c.args.self.now.cells.buckets in
    let ns = c.args.self.now.numbers.items in
    let numbered = c.requires.numbered in
    record {
      numbers = refl;
      reads = refl;
      states = none_noted ns (trees_in s) old (places_in c.args.self.now.state_places) numbered.states.within;
      sound = numbered.sound;
      bare = numbered.bare;
      turned = no_layers pool_slots (globals_in s) old ns (trees_in s);
    }

pub turn_layer-requires-clause-there : goal.turn_layer-requires-clause-there
turn_layer-requires-clause-there c =
    let old = c.args.self.now.cells.buckets in
    let now = c.loop-place.self.cells.buckets in
    let ns = c.args.self.now.numbers.items in
    let place = c.loop-place.place in
    let n = c.index-number.result.now in
    let i = c.loop-place.invariant in
    let within : place < length ns = omega (arith, c.loop-place-test.true, c.len-place-end.ensures) in
    let is : n ≡ get_or ns place n = c.index-number.ensures ∙ ap (λ v. get_or v.items place n) i.numbers in
    ap (λ k. is_some (features_of now k)) is ∙ there_at now ns place n within (there_all old now i.turned.features ns c.requires.numbered.there)

pub loop-place-preserved : goal.loop-place-preserved
loop-place-preserved c =
    let s = c.args.style.now in
    let old = c.args.self.now.cells.buckets in
    let now = c.loop-place.self.cells.buckets in
    let new = c.turn_layer.new.self.cells.buckets in
    let ns = c.args.self.now.numbers.items in
    let ts = trees_in s in
    let place = c.loop-place.place in
    let n = c.index-number.result.now in
    let one = c.one-one.result in
    let i = c.loop-place.invariant in
    let e = c.in_ok-turn_layer.ensures in
    let numbered = c.requires.numbered in
    let within : place < length ns = omega (arith, c.loop-place-test.true, c.len-place-end.ensures) in
    let at : n ≡ get_or ns place n = c.index-number.ensures ∙ ap (λ v. get_or v.items place n) i.numbers in
    let there : is_some (features_of now n) ≡ true =
    ap (λ k. is_some (features_of now k)) at ∙ there_at now ns place n within (there_all old now i.turned.features ns numbered.there) in
    let is : n ≡ get_or ns place 0 = at ∙ get_same ns place n 0 within in
    let tree : tree_of one.layer.now ≡ get_or ts place null = c.one-one.ensures.layer in
    let type : one.prepared.now.layer_type ≡ type_of (get_or ts place null) = ap (λ (l : StyleLayer). l.type) c.one-one.ensures.one.prepared ∙ ap type_of tree in
    let reads_now = c.layer_reads_state-reads_state.result in
    let read : layer_expressions (globals_of one) (tree_of one.layer.now) ≡ layer_expressions (globals_in s) (get_or ts place null) =
    λ j. layer_expressions (c.one-one.ensures.globals j) (tree j) in
    let leaves : LeavesOthers pool_slots (get_or ns place 0) now new = subst (λ k. LeavesOthers pool_slots k now new) is e.others in
    let turns : (item : CellItem) → TurnsItem pool_slots (get_or ns place 0) item (layer_expressions (globals_in s) (get_or ts place null) item) now new =
    subst (λ k. (item : CellItem) → TurnsItem pool_slots k item (layer_expressions (globals_in s) (get_or ts place null) item) now new) is
    (subst (λ (x : LayerExpressions). (item : CellItem) → TurnsItem pool_slots n item (x item) now new) read e.turned) in
    record {
      numbers = e.numbers ∙ i.numbers;
      reads = e.reads ∙ i.reads;
      states = first_noted ns ts pool_slots place now new (places_in c.loop-place.self.state_places) (places_in c.note_if.new.self)
          i.states within numbered.apart leaves reads_now
          (subst (λ v. NotesIf reads_now place (places_in v) (places_in c.note_if.new.self)) e.states c.in_ok-note_if.ensures.ok)
          (λ off. subst (λ k. (item : CellItem) → IsItemOf (type_of (get_or ts place null)) item → reads_state (source_of new k item) ≡ false) is
          (subst (λ (y : LayerType). (item : CellItem) → IsItemOf y item → reads_state (source_of new n item) ≡ false) type
          (c.layer_reads_state-reads_state.ensures off)));
      sound = e.sound;
      bare = bare_left pool_slots n now new (others_left pool_slots n now new e.others) i.bare
          (λ gone. absurd (none_is_not (features_of now n) (sym (e.others.features n) ∙ gone) there));
      turned = layers_more pool_slots (globals_in s) old ns ts place now new i.turned within numbered.apart leaves turns;
    }

-- no expression reads the global state
pub returns-then-not-self : goal.returns-then-not-self
returns-then-not-self c = λ before held.
    let s = c.args.style.now in
    let kept = c.args.self.now in
    let turned = none_to_turn pool_slots (globals_in s) kept.cells.buckets kept.numbers.items (trees_in s)
    (c.requires.numbered.noted c.if-not-self.true) (length kept.numbers.items) in
    turns_globals pool_slots c.globals_change_no_other.ensures (tiles_in s) before (globals_in s) (trees_in s) kept kept held c.requires.counted
    refl (length kept.numbers.items) (omega arith) turned c.requires.numbered

pub returns : goal.returns
returns c = λ before held.
    let s = c.args.style.now in
    let old = c.args.self.now.cells.buckets in
    let now = c.loop-place.self.cells.buckets in
    let ns = c.args.self.now.numbers.items in
    let i = c.loop-place.invariant in
    let numbered = c.requires.numbered in
    let end : length ns ≤ c.loop-place.place = omega (arith, c.loop-place-test.false, c.len-place-end.ensures) in
    turns_globals pool_slots c.globals_change_no_other.ensures (tiles_in s) before (globals_in s) (trees_in s) c.args.self.now c.loop-place.self held c.requires.counted
    i.numbers c.loop-place.place end i.turned (record {
      sound = i.sound;
      apart = subst (λ v. AreApart v.items) (sym i.numbers) numbered.apart;
      there = subst (λ v. AreThere now v.items) (sym i.numbers) (there_all old now i.turned.features ns numbered.there);
      bare = i.bare;
      noted = λ off. absurd (false≢true (sym off ∙ (i.reads ∙ c.if-not-self.false)));
      states = subst (λ v. AreNoted (ReadsNoState now) v.items (places_in c.loop-place.self.state_places)) (sym i.numbers)
          (all_noted ns (trees_in s) pool_slots (tiles_in s) (globals_in s) c.loop-place.place now (places_in c.loop-place.self.state_places) end i.states
          (all_held pool_slots (globals_in s) old ns (trees_in s) c.globals_change_no_other.ensures (tiles_in s) before held c.loop-place.place now end
          c.requires.counted i.turned));
    })
