use Rattle.std.proofs.Common.{ap, ◌∙◌, map, set}
use Rattle.std.proofs.lemmas.List.{map-set}
use Rattle.style_layout.specs.CodeView.{layer_seen}
use Rattle.style_layout.proofs.prepared.PreparedStyle.replace.Goals as goal

pub returns : goal.returns
returns c =
    let layers = c.args.self.now.layers.items in
    map-set layer_seen layers c.args.place c.replace.new.dest
    ∙ ap (λ x. set (map layer_seen layers) c.args.place (layer_seen x)) c.replace.ensures.after
