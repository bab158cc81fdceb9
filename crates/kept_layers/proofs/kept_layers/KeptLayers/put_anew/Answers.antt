use Rattle.std.proofs.Common.{◌≡◌, ◌<◌, length, get_or, refl, ap, subst, arith, ◌∙◌}
use Rattle.decimal_json.specs.Tree.{null}
use Rattle.decimal_json.specs.View.{tree_of}
use Rattle.asked_cells.specs.Expressions.{HasExpressions, LayerExpressions}
use Rattle.cell_sources.specs.Sourced.{HasSources, KeepsNumbers, numberless}
use Rattle.cell_sources.proofs.RenewLaws.{sources_again}
use Rattle.form_pool.specs.PoolSlots.{pool_slots}
use Rattle.kept_layers.specs.Changes.{globals_of}
use Rattle.kept_layers.specs.KeptLayers.{layer_expressions}
use Rattle.kept_layers.specs.View.{globals_in, trees_in}
use Rattle.kept_layers.proofs.Lists.{get_same}
use Rattle.kept_layers.proofs.TidyLaws.{more_anew, none_anew}
use Rattle.kept_layers.proofs.kept_layers.KeptLayers.put_anew.Goals as goal

pub loop-place-init : goal.loop-place-init
loop-place-init c =
    let s = c.args.style.now in
    let old = c.args.self.now.cells.buckets in
    let now = c.clear_expressions.new.buckets in
    let e = c.clear_expressions.ensures in
    record {
      numbers = refl;
      reads = refl;
      states = refl;
      sound = e.sound;
      sources = record { features = e.features; kept = e.kept; source = λ l item. ap numberless (e.source l item) };
      renewed = none_anew pool_slots (globals_in s) c.args.self.now.numbers.items (trees_in s) old now;
    }

pub loop-place-preserved : goal.loop-place-preserved
loop-place-preserved c =
    let s = c.args.style.now in
    let old = c.args.self.now.cells.buckets in
    let now = c.loop-place.self.cells.buckets in
    let new = c.renew_layer.new.self.cells.buckets in
    let ns = c.args.self.now.numbers.items in
    let ts = trees_in s in
    let place = c.loop-place.place in
    let n = c.index-number.result.now in
    let one = c.one-one.result in
    let i = c.loop-place.invariant in
    let e = c.in_ok-renew_layer.ensures in
    let within : place < length ns = omega (arith, c.loop-place-test.true, c.len-place-end.ensures, ap (λ v. length v.items) i.numbers) in
    let is : n ≡ get_or ns place 0 = c.index-number.ensures ∙ ap (λ v. get_or v.items place n) i.numbers ∙ get_same ns place n 0 within in
    let read : layer_expressions (globals_of one) (tree_of one.layer.now) ≡ layer_expressions (globals_in s) (get_or ts place null) =
    λ j. layer_expressions (c.one-one.ensures.globals j) (c.one-one.ensures.layer j) in
    record {
      numbers = e.numbers ∙ i.numbers;
      reads = e.reads ∙ i.reads;
      states = e.states ∙ i.states;
      sound = e.sound;
      sources = sources_again old now new i.sources e.sources;
      renewed = more_anew pool_slots (globals_in s) ns ts old place now new i.renewed i.sources within c.requires.apart
          (subst (λ k. KeepsNumbers pool_slots k now new) is e.others)
          (subst (λ k. HasSources k (layer_expressions (globals_in s) (get_or ts place null)) now
          → HasExpressions pool_slots k (layer_expressions (globals_in s) (get_or ts place null)) new) is
          (subst (λ (x : LayerExpressions). HasSources n x now → HasExpressions pool_slots n x new) read e.renewed));
    }

pub returns-in_err-renew_layer-clause-sources : goal.returns-in_err-renew_layer-clause-sources
returns-in_err-renew_layer-clause-sources c =
    sources_again c.args.self.now.cells.buckets c.loop-place.self.cells.buckets c.renew_layer.new.self.cells.buckets c.loop-place.invariant.sources
    c.renew_layer.ensures.sources

pub returns-clause-renewed : goal.returns-clause-renewed
returns-clause-renewed c = λ p h within had.
    c.loop-place.invariant.renewed p (omega (arith, within, c.loop-place-test.false, c.len-place-end.ensures)) within had
