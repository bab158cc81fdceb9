use Rattle.std.proofs.Common.{◌≡◌, ◌∙◌, map, ap, sym}
use Rattle.listing_text.specs.declared.show.Show.{Show}
use Rattle.listing_text.specs.declared.show.Show.TheVariants.{Plain, Hidden, Unread, OutsideFilter}
use Rattle.style_layout.specs.CodeView.{scene_seen, tile_seen}
use Rattle.style_layout.specs.Layers.{show_of}
use Rattle.asked_cells.specs.Asked.{layer_asked, meaning, shown_asked}
use Rattle.asked_cells.specs.Counted.{kept_in}
use Rattle.asked_cells.proofs.AskLaws.{asks_same, meant_same, none_asked}
use Rattle.asked_cells.proofs.MeantLaws.{all_meant}
use Rattle.asked_cells.proofs.SceneLaws.{scene_zoom}
use Rattle.asked_cells.specs.SeenCells.{layer_at}
use Rattle.asked_cells.proofs.view_cells.ViewCells.ask_layer.Goals as goal

pub returns-in-Hidden-clause-asks : goal.returns-in-Hidden-clause-asks
returns-in-Hidden-clause-asks g c = λ x s right decided.
    let at = c.args.at.now in
    let scene = scene_seen g.V.TextTests.tests at.scene.now in
    let layer = layer_at at in
    let tiles = map tile_seen c.args.tiles.now in
    let means = meaning scene tiles layer x in
    let asked = λ (show : Show). shown_asked x scene tiles show layer in
    let old = kept_in c.args.self.now.buckets at.number in
    let show : show_of scene.zoom layer ≡ Hidden =
    ap (λ z. show_of z layer) (scene_zoom g.V.TextTests.tests at.scene.now ∙ sym c.exact.ensures) ∙ (sym c.show.ensures ∙ c.in-Hidden.is) in
    let same : asked Hidden ≡ layer_asked x scene tiles layer = sym (ap asked show) in
    asks_same means (asked Hidden) (layer_asked x scene tiles layer) old old _ c.args.steps.now c.args.steps.now same
    (none_asked means old c.args.steps.now)

pub returns-in-Unread-clause-asks : goal.returns-in-Unread-clause-asks
returns-in-Unread-clause-asks g c = λ x s right decided.
    let at = c.args.at.now in
    let scene = scene_seen g.V.TextTests.tests at.scene.now in
    let layer = layer_at at in
    let tiles = map tile_seen c.args.tiles.now in
    let means = meaning scene tiles layer x in
    let asked = λ (show : Show). shown_asked x scene tiles show layer in
    let old = kept_in c.args.self.now.buckets at.number in
    let show : show_of scene.zoom layer ≡ Unread =
    ap (λ z. show_of z layer) (scene_zoom g.V.TextTests.tests at.scene.now ∙ sym c.exact.ensures) ∙ (sym c.show.ensures ∙ c.in-Unread.is) in
    let same : asked Unread ≡ layer_asked x scene tiles layer = sym (ap asked show) in
    asks_same means (asked Unread) (layer_asked x scene tiles layer) old old _ c.args.steps.now c.args.steps.now same
    (none_asked means old c.args.steps.now)

pub returns-in-OutsideFilter-clause-asks : goal.returns-in-OutsideFilter-clause-asks
returns-in-OutsideFilter-clause-asks g c = λ x s right decided.
    let at = c.args.at.now in
    let scene = scene_seen g.V.TextTests.tests at.scene.now in
    let layer = layer_at at in
    let tiles = map tile_seen c.args.tiles.now in
    let means = meaning scene tiles layer x in
    let asked = λ (show : Show). shown_asked x scene tiles show layer in
    let old = kept_in c.args.self.now.buckets at.number in
    let show : show_of scene.zoom layer ≡ OutsideFilter =
    ap (λ z. show_of z layer) (scene_zoom g.V.TextTests.tests at.scene.now ∙ sym c.exact.ensures) ∙ (sym c.show.ensures ∙ c.in-OutsideFilter.is) in
    let same : asked OutsideFilter ≡ layer_asked x scene tiles layer = sym (ap asked show) in
    asks_same means (asked OutsideFilter) (layer_asked x scene tiles layer) old (kept_in c.ask_values.new.self.buckets at.number) c.ask_values.result
    c.args.steps.now c.ask_values.new.steps same
    (c.ask_values.ensures.asks x means s right
    (meant_same means (asked OutsideFilter) (layer_asked x scene tiles layer) same (all_meant x scene tiles layer)))

pub returns-in-Plain-clause-asks : goal.returns-in-Plain-clause-asks
returns-in-Plain-clause-asks g c = λ x s right decided.
    let at = c.args.at.now in
    let scene = scene_seen g.V.TextTests.tests at.scene.now in
    let layer = layer_at at in
    let tiles = map tile_seen c.args.tiles.now in
    let means = meaning scene tiles layer x in
    let asked = λ (show : Show). shown_asked x scene tiles show layer in
    let old = kept_in c.args.self.now.buckets at.number in
    let show : show_of scene.zoom layer ≡ Plain =
    ap (λ z. show_of z layer) (scene_zoom g.V.TextTests.tests at.scene.now ∙ sym c.exact.ensures) ∙ (sym c.show.ensures ∙ c.in-Plain.is) in
    let same : asked Plain ≡ layer_asked x scene tiles layer = sym (ap asked show) in
    asks_same means (asked Plain) (layer_asked x scene tiles layer) old (kept_in c.ask_plain.new.self.buckets at.number) c.ask_plain.result
    c.args.steps.now c.ask_plain.new.steps same
    (c.ask_plain.ensures.asks x means s right decided
    (meant_same means (asked Plain) (layer_asked x scene tiles layer) same (all_meant x scene tiles layer)))
