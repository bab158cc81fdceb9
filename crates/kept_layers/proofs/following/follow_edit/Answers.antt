use Rattle.std.proofs.Common.{ap, sym, ◌∙◌}
use Rattle.std.proofs.lemmas.List.{length-map}
use Rattle.std.proofs.lemmas.Result.{on_ok_weaker}
use Rattle.decimal_json.specs.View.{tree_of}
use Rattle.edit_script.specs.View.{command_seen}
use Rattle.form_pool.specs.PoolSlots.{pool_slots}
use Rattle.kept_layers.proofs.EditLaws.{add_followed, as_many, before_in, filter_followed, filter_in, layer_in, layout_followed, layout_in, move_followed, one_more, others_followed, paint_followed, paint_in, remove_followed}
use Rattle.kept_layers.proofs.following.follow_edit.Goals as goal

pub change_property-requires-clause-layer : goal.change_property-requires-clause-layer
change_property-requires-clause-layer c =
    let edited = c.requires.edited in
    paint_in pool_slots c.args.style.now c.args.places (command_seen c.args.command.now) edited.0 c.args.kept.now edited.1 _ _ _
    (ap command_seen c.in-SetPaint.is)

pub change_property-requires-in-SetLayout-clause-layer :
    goal.change_property-requires-in-SetLayout-clause-layer
change_property-requires-in-SetLayout-clause-layer c =
    let edited = c.requires.edited in
    layout_in pool_slots c.args.style.now c.args.places (command_seen c.args.command.now) edited.0 c.args.kept.now edited.1 _ _ _
    (ap command_seen c.in-SetLayout.is)

pub change_filter-requires-clause-layer : goal.change_filter-requires-clause-layer
change_filter-requires-clause-layer c =
    let edited = c.requires.edited in
    filter_in pool_slots c.args.style.now c.args.places (command_seen c.args.command.now) edited.0 c.args.kept.now edited.1 _ _
    (ap command_seen c.in-SetFilter.is)

pub add_layer-requires-clause-before : goal.add_layer-requires-clause-before
add_layer-requires-clause-before c =
    let edited = c.requires.edited in
    before_in pool_slots c.args.style.now c.args.places (command_seen c.args.command.now) edited.0 c.args.kept.now edited.1

pub add_layer-requires-clause-counted : goal.add_layer-requires-clause-counted
add_layer-requires-clause-counted c =
    let edited = c.requires.edited in
    one_more pool_slots c.args.style.now c.args.places (command_seen c.args.command.now) edited.0 c.args.kept.now edited.1 _ _
    (ap command_seen c.in-AddLayer.is)

pub remove_layer-requires-clause-layer : goal.remove_layer-requires-clause-layer
remove_layer-requires-clause-layer c =
    let edited = c.requires.edited in
    layer_in pool_slots c.args.style.now c.args.places (command_seen c.args.command.now) edited.0 c.args.kept.now edited.1

pub move_layer-requires-clause-layer : goal.move_layer-requires-clause-layer
move_layer-requires-clause-layer c =
    let edited = c.requires.edited in
    layer_in pool_slots c.args.style.now c.args.places (command_seen c.args.command.now) edited.0 c.args.kept.now edited.1

pub move_layer-requires-clause-before : goal.move_layer-requires-clause-before
move_layer-requires-clause-before c =
    let edited = c.requires.edited in
    before_in pool_slots c.args.style.now c.args.places (command_seen c.args.command.now) edited.0 c.args.kept.now edited.1

pub move_layer-requires-clause-counted : goal.move_layer-requires-clause-counted
move_layer-requires-clause-counted c =
    let edited = c.requires.edited in
    sym (length-map c.args.style.now.layers.now tree_of)
    ∙ as_many pool_slots c.args.style.now c.args.places (command_seen c.args.command.now) edited.0 c.args.kept.now edited.1 _ _
    (ap command_seen c.in-MoveLayer.is)

pub returns-in-SetPaint-clause-followed : goal.returns-in-SetPaint-clause-followed
returns-in-SetPaint-clause-followed c = λ before is.
    on_ok_weaker c.change_property.result
    (λ done. paint_followed pool_slots c.args.style.now c.args.places (command_seen c.args.command.now) before c.args.kept.now is
    c.change_property.new.kept c.requires.numbered _ _ _ (ap command_seen c.in-SetPaint.is) done)
    c.change_property.ensures

pub returns-in-SetLayout-clause-followed : goal.returns-in-SetLayout-clause-followed
returns-in-SetLayout-clause-followed c = λ before is.
    on_ok_weaker c.change_property-in-SetLayout.result
    (λ done. layout_followed pool_slots c.args.style.now c.args.places (command_seen c.args.command.now) before c.args.kept.now is
    c.change_property-in-SetLayout.new.kept c.requires.numbered _ _ _ (ap command_seen c.in-SetLayout.is) done)
    c.change_property-in-SetLayout.ensures

pub returns-in-SetFilter-clause-followed : goal.returns-in-SetFilter-clause-followed
returns-in-SetFilter-clause-followed c = λ before is.
    on_ok_weaker c.change_filter.result
    (λ done. filter_followed pool_slots c.args.style.now c.args.places (command_seen c.args.command.now) before c.args.kept.now is
    c.change_filter.new.kept c.requires.numbered _ _ (ap command_seen c.in-SetFilter.is) done)
    c.change_filter.ensures

pub returns-in-AddLayer-clause-followed : goal.returns-in-AddLayer-clause-followed
returns-in-AddLayer-clause-followed c = λ before is.
    on_ok_weaker c.add_layer.result
    (λ done. add_followed pool_slots c.args.style.now c.args.places (command_seen c.args.command.now) before c.args.kept.now is
    c.add_layer.new.kept c.requires.numbered _ _ (ap command_seen c.in-AddLayer.is) done)
    c.add_layer.ensures

pub returns-in-RemoveLayer-clause-followed : goal.returns-in-RemoveLayer-clause-followed
returns-in-RemoveLayer-clause-followed c = λ before is.
    remove_followed pool_slots c.args.style.now c.args.places (command_seen c.args.command.now) before c.args.kept.now is
    c.remove_layer.new.kept c.requires.numbered _ (ap command_seen c.in-RemoveLayer.is) c.remove_layer.ensures

pub returns-in-MoveLayer-clause-followed : goal.returns-in-MoveLayer-clause-followed
returns-in-MoveLayer-clause-followed c = λ before is.
    move_followed pool_slots c.args.style.now c.args.places (command_seen c.args.command.now) before c.args.kept.now is
    c.move_layer.new.kept c.requires.numbered _ _ (ap command_seen c.in-MoveLayer.is) c.move_layer.ensures

pub returns-in_default-clause-followed : goal.returns-in_default-clause-followed
returns-in_default-clause-followed c = λ before is.
    let d = c.in_default in
    others_followed pool_slots c.args.style.now c.args.places before c.args.kept.now c.requires.numbered c.args.command.now
    d.not-SetPaint d.not-SetLayout d.not-SetFilter d.not-AddLayer d.not-RemoveLayer d.not-MoveLayer is
