use Rattle.std.proofs.Common.{◌≡◌, ◌<◌, ap, ◌∙◌, length, map, arith}
use Rattle.std.specs.Prelude.{insert, remove, slice_index_or}
use Rattle.std.proofs.lemmas.List.{length-map, with_items_is}
use Rattle.moved_slices.proofs.MoveLaws.{map_moved}
use Rattle.style_layout.specs.CodeView.{layer_seen, layers_seen}
use Rattle.style_layout.proofs.prepared.PreparedStyle.move_layer.Goals as goal

pub returns : goal.returns
returns c = λ other.
    let style = c.args.self.now in
    let layers = c.as_mut_slice.result.now in
    let same : map layer_seen layers ≡ layers_seen style = ap (map layer_seen) c.as_mut_slice.ensures.value in
    let within : c.args.from < length layers = omega (arith, c.requires.from, length-map layers layer_seen, ap length same) in
    ap (map layer_seen) (with_items_is style.layers c.move_element.new.items (c.move_element.ensures.len ∙ c.as_mut_slice.ensures.len))
    ∙ (map_moved layer_seen layers c.move_element.new.items c.args.from c.args.to within c.move_element.ensures.moved other
    ∙ ap (λ ls. insert (remove ls c.args.from) c.args.to (slice_index_or ls c.args.from other)) same)
