use Rattle.std.proofs.Common.{ap, ◌∙◌, map}
use Rattle.decimal_json.proofs.Edits.{map_insert}
use Rattle.style_layout.specs.CodeView.{layer_seen}
use Rattle.style_layout.proofs.prepared.PreparedStyle.insert.Goals as goal

pub returns-clause-ok : goal.returns-clause-ok
returns-clause-ok c =
    ap (map layer_seen) c.in-Ok.ensures.items ∙ map_insert layer_seen c.args.self.now.layers.items c.args.place c.args.layer
