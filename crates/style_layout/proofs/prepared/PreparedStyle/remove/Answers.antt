use Rattle.std.proofs.Common.{ap, ◌∙◌, map}
use Rattle.decimal_json.proofs.Edits.{map_remove}
use Rattle.style_layout.specs.CodeView.{layer_seen}
use Rattle.style_layout.proofs.prepared.PreparedStyle.remove.Goals as goal

pub returns : goal.returns
returns c = ap (map layer_seen) c.remove.ensures.items ∙ map_remove layer_seen c.args.self.now.layers.items c.args.place
