use Rattle.std.proofs.Common.{ap, sym, ◌∙◌}
use Rattle.std.specs.Prelude.{option_map}
use Rattle.decimal_json.specs.View.{tree_of}
use Rattle.value_forms.specs.LayerTypes.{layer_type}
use Rattle.style_layout.specs.CodeView.{layer_seen}
use Rattle.edit_session.proofs.LayerLists.{one_outline}
use Rattle.edit_session.proofs.layers.prepared_layer.Goals as goal

pub returns : goal.returns
returns c =
    let t = tree_of c.args.layer.now in
    one_outline c.args.globals.now t (layer_type t) (layer_seen c.in-Some.layer) (ap (option_map layer_seen) (sym c.in-Some.is) ∙ c.in_ok-layer.ensures)
