use Rattle.std.proofs.Common.{◌≡◌, ◌<◌, ap, ◌∙◌, length, arith}
use Rattle.std.proofs.lemmas.List.{length-map, with_items_is}
use Rattle.moved_slices.proofs.MoveLaws.{map_moved}
use Rattle.decimal_json.specs.Tree.{null}
use Rattle.decimal_json.specs.View.{items_view, moved_items, tree_of}
use Rattle.decimal_json.proofs.tree.Items.move_item.Goals as goal

pub returns : goal.returns
returns c =
    let items = c.as_mut_slice.result.now in
    let same : items_view items ≡ c.args.self.now = ap items_view c.as_mut_slice.ensures.value ∙ c.self.view_is in
    let within : c.args.from < length items = omega (arith, c.requires.from, length-map items tree_of, ap length same) in
    ap items_view (with_items_is c.self.inside.items c.move_element.new.items (c.move_element.ensures.len ∙ c.as_mut_slice.ensures.len))
    ∙ (map_moved tree_of items c.move_element.new.items c.args.from c.args.to within c.move_element.ensures.moved null
    ∙ ap (moved_items c.args.from c.args.to) same)
