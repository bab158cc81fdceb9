use Rattle.std.proofs.Common.{◌≡◌, ◌∙◌, ◌∷◌, ◌+◌, ℕ, List, [], Option, ap, arith, drop, map, refl, subst, sym}
use Rattle.std.proofs.lemmas.List.{drop_more}
use Rattle.layer_buckets.specs.declared.cell.Source.{Source}
use Rattle.listing_text.specs.Listing.{feature_lines}
use Rattle.style_layout.specs.Shown.{feature_out}
use Rattle.bare_listing.specs.Costs.{nodes_by, one_of, rests_cost}
use Rattle.bare_listing.specs.SeenLayer.{AreKeyed, feature_of, layer_in, lines_of, scene_in, slots_in, sources_in}
use Rattle.bare_listing.specs.declared.feature_order.PassedFeature.{PassedFeature}
use Rattle.text_pieces.proofs.PieceLaws.{breaks_off, goes_on, lacks, left_is, waits}
use Rattle.bare_listing.proofs.bare_layer.BareLayer.write_keyed.Goals as goal

pub returns-in_err-more-clause-text : goal.returns-in_err-more-clause-text
returns-in_err-more-clause-text g c =
    lacks g.O.Sink.held g.O.Sink.faults c.from_residual.result c.args.pieces.now c.loop-one.pieces _ _ _
    c.from_residual.ensures.1 refl c.loop-one.invariant.text

pub returns-in_err-number-clause-text : goal.returns-in_err-number-clause-text
returns-in_err-number-clause-text g c =
    lacks g.O.Sink.held g.O.Sink.faults c.from_residual-in_err-number.result c.args.pieces.now c.loop-one.pieces _ _ _
    c.from_residual-in_err-number.ensures.1 refl c.loop-one.invariant.text

pub returns-in_err-pour_piece-clause-text : goal.returns-in_err-pour_piece-clause-text
returns-in_err-pour_piece-clause-text g c =
    let l = c.args.self.now in
    let scene = scene_in g.V.TextTests.tests l in
    let layer = layer_in l in
    let i = c.loop-one.invariant in
    let ks = c.args.keyed.now in
    let k = c.loop-one.one-index in
    let one = c.one-item.result in
    let rest = drop (k + 1) ks in
    let split : drop k ks ≡ one ∷ rest = drop_more ks k one c.loop-one-test.true ∙ ap (λ (x : PassedFeature). x ∷ rest) (sym c.one-item.is) in
    let e = c.in_ok-more.ensures in
    let written = waits g.O.Sink.held g.O.Sink.faults c.args.pieces.now c.loop-one.pieces _ (feature_lines (feature_out scene layer (feature_of one))) _ _ refl e.lines
    (left_is g.O.Sink.held g.O.Sink.faults c.args.pieces.now c.loop-one.pieces _ _ _
    (ap (λ (qs : List PassedFeature). lines_of scene layer (map feature_of qs)) split) i.text) in
    breaks_off g.O.Sink.held g.O.Sink.faults c.from_residual-in_err-pour_piece.result c.args.pieces.now _ c.pour_piece.new.self [] _ _
    c.from_residual-in_err-pour_piece.ensures.1 c.in_err-pour_piece.ensures written

pub loop-one-preserved : goal.loop-one-preserved
loop-one-preserved g c =
    let l = c.args.self.now in
    let scene = scene_in g.V.TextTests.tests l in
    let layer = layer_in l in
    let i = c.loop-one.invariant in
    let ks = c.args.keyed.now in
    let k = c.loop-one.one-index in
    let one = c.one-item.result in
    let rest = drop (k + 1) ks in
    let split : drop k ks ≡ one ∷ rest = drop_more ks k one c.loop-one-test.true ∙ ap (λ (x : PassedFeature). x ∷ rest) (sym c.one-item.is) in
    let e = c.in_ok-more.ensures in
    let written = waits g.O.Sink.held g.O.Sink.faults c.args.pieces.now c.loop-one.pieces _ (feature_lines (feature_out scene layer (feature_of one))) _ _ refl e.lines
    (left_is g.O.Sink.held g.O.Sink.faults c.args.pieces.now c.loop-one.pieces _ _ _
    (ap (λ (qs : List PassedFeature). lines_of scene layer (map feature_of qs)) split) i.text) in
    let slots = slots_in g.E.CountedEvaluator.slots l in
    let keyed = subst (AreKeyed scene slots c.args.sort.now.source) split i.keyed in
    let costs = λ (cost : Option Source → ℕ) (qs : List PassedFeature).
    rests_cost cost (sources_in l) c.args.sort.now.place layer.properties (map feature_of qs) in
    let number = ap (costs one_of) split in
    let nodes = ap (costs (nodes_by slots)) split in
    record {
      text = goes_on g.O.Sink.held g.O.Sink.faults c.args.pieces.now _ c.pour_piece.new.self [] _ _ c.in_ok-pour_piece.ensures written;
      keyed = keyed.1;
      number = omega (arith, c.in_ok-number.ensures, e.number, number, i.number);
      least = omega (arith, c.in_ok-number.ensures, e.least, i.least);
      most = omega (arith, e.most, nodes, i.most);
    }
