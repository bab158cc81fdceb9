use Rattle.std.proofs.Common.{◌≡◌, ◌<◌, ◌+◌, suc, length, get_or, take, ap, sym, subst, ◌∙◌, arith}
use Rattle.std.specs.Prelude.{insert, []}
use Rattle.std.proofs.lemmas.Bool.{false≢true}
use Rattle.std.proofs.lemmas.List.{length-map}
use Rattle.decimal_json.proofs.Edits.{map_insert}
use Rattle.decimal_json.specs.Tree.{null}
use Rattle.decimal_json.specs.View.{tree_of}
use Rattle.layer_buckets.specs.Cells.{reads_globals, reads_state}
use Rattle.noted_places.specs.Places.{AreBelow}
use Rattle.asked_cells.specs.Asked.{cell_in}
use Rattle.form_pool.specs.PoolSlots.{pool_slots}
use Rattle.kept_layers.specs.Changes.{globals_of, nothing_kept, tiles_of}
use Rattle.kept_layers.specs.Holding.{AreApart, AreThere, HasLayer, IsRight, Pairwise, style_kept}
use Rattle.kept_layers.specs.KeptLayers.{none_kept}
use Rattle.kept_layers.specs.View.{HoldsLayers, IsRightIn, globals_in, tiles_in, trees_in}
use Rattle.kept_layers.proofs.Lists.{insert_next, pairs_lengths, take_length, take_whole}
use Rattle.kept_layers.proofs.kept_layers.KeptLayers.of.Goals as goal

pub loop-place-init : goal.loop-place-init
loop-place-init c =
    let s = c.args.style.now in
    let b = c.in_ok-new.field-0.buckets in
    let e = c.in_ok-new.ensures in
    let items = c.new-3.ensures.items in
    record {
      numbered = record {
        sound = e.sound;
        apart = subst AreApart (sym items) tt;
        there = subst (AreThere b) (sym items) tt;
        bare = λ layer none. record { sources = λ item. e.sources layer item; kept = λ cell. e.kept (cell_in layer cell) };
        noted = λ off layer item. ap reads_globals (e.sources layer item);
        states = record {
          within = subst (AreBelow _) (sym c.new-4.ensures) (λ p noted. absurd (false≢true noted));
          others = λ p d inside off item. ap reads_state (e.sources _ item);
        };
      };
      counted = ap length items;
      kept = ap (style_kept b) items;
      holds = subst (λ l. Pairwise (HasLayer pool_slots (tiles_in s) (globals_in s) b) l []) (sym items) tt;
      right = λ scene. subst (λ l. Pairwise (IsRight pool_slots (tiles_in s) (globals_in s) b scene) l []) (sym items) tt;
    }

pub loop-place-preserved : goal.loop-place-preserved
loop-place-preserved c =
    let s = c.args.style.now in
    let ts = trees_in s in
    let place = c.loop-place.place in
    let kept = c.loop-place.kept in
    let new = c.add.new.self in
    let i = c.loop-place.invariant in
    let one = c.one-one.result in
    let o = c.one-one.ensures in
    let adds = c.in_ok-add.ensures in
    let within : place < length ts = omega (arith, c.loop-place-test.true, length-map s.layers.now tree_of) in
    let next : suc place ≡ place + 1 = omega arith in
    let first : insert (take place ts) place (get_or ts place null) ≡ take (place + 1) ts = insert_next ts place null within ∙ ap (λ n. take n ts) next in
    let trees : insert (take place ts) place (tree_of one.layer.now) ≡ take (place + 1) ts = ap (insert (take place ts) place) o.layer ∙ first in
    let held : HoldsLayers pool_slots (tiles_of one) (globals_of one) (take place ts) kept =
    subst (λ t. HoldsLayers pool_slots t (globals_of one) (take place ts) kept) (sym o.tiles)
    (subst (λ g. HoldsLayers pool_slots (tiles_in s) g (take place ts) kept) (sym o.globals) i.holds) in
    let holds : HoldsLayers pool_slots (tiles_in s) (globals_in s) (take (place + 1) ts) new =
    subst (λ l. HoldsLayers pool_slots (tiles_in s) (globals_in s) l new) trees
    (subst (λ t. HoldsLayers pool_slots t (globals_in s) (insert (take place ts) place (tree_of one.layer.now)) new) o.tiles
    (subst (λ g. HoldsLayers pool_slots (tiles_of one) g (insert (take place ts) place (tree_of one.layer.now)) new) o.globals (adds.holds (take place ts) held))) in
    record {
      numbered = adds.numbered;
      counted = pairs_lengths (HasLayer pool_slots (tiles_in s) (globals_in s) new.cells.buckets) new.numbers.items (take (place + 1) ts) holds
          ∙ take_length ts (place + 1) (omega (arith, within));
      kept = adds.kept ∙ (ap (λ l. insert l place none_kept) i.kept
          ∙ (sym (map_insert (λ t. none_kept) (take place ts) place (get_or ts place null)) ∙ ap nothing_kept first));
      holds = holds;
      right = λ scene.
          let right : IsRightIn pool_slots (tiles_of one) (globals_of one) scene (take place ts) kept =
          subst (λ t. IsRightIn pool_slots t (globals_of one) scene (take place ts) kept) (sym o.tiles)
          (subst (λ g. IsRightIn pool_slots (tiles_in s) g scene (take place ts) kept) (sym o.globals) (i.right scene)) in
          subst (λ l. IsRightIn pool_slots (tiles_in s) (globals_in s) scene l new) trees
          (subst (λ t. IsRightIn pool_slots t (globals_in s) scene (insert (take place ts) place (tree_of one.layer.now)) new) o.tiles
          (subst (λ g. IsRightIn pool_slots (tiles_of one) g scene (insert (take place ts) place (tree_of one.layer.now)) new) o.globals
          (adds.right scene (take place ts) held right)));
    }

pub returns-clause-right : goal.returns-clause-right
returns-clause-right c = λ scene.
    let s = c.args.style.now in
    let ts = trees_in s in
    subst (λ l. IsRightIn pool_slots (tiles_in s) (globals_in s) scene l c.loop-place.kept)
    (take_whole ts c.loop-place.place (omega (arith, c.loop-place-test.false, length-map s.layers.now tree_of)))
    (c.loop-place.invariant.right scene)

pub returns-clause-numbered : goal.returns-clause-numbered
returns-clause-numbered c =
    let a = c.loop-place.invariant.numbered in
    record { sound = a.sound; apart = a.apart; there = a.there; bare = a.bare; noted = a.noted; states = a.states }
