use Rattle.std.proofs.Common.{◌∙◌, ◌+◌, ap, map, sym}
use Rattle.std.proofs.lemmas.List.{drop-map, take_rest}
use Rattle.style_layout.specs.CodeView.{document_property}
use Rattle.bare_listing.proofs.feature_order.after.Goals as goal

pub returns : goal.returns
returns c = λ layer. ap (map (document_property layer)) (take_rest c.args.properties.now (c.args.place + 1))
    ∙ sym (drop-map (document_property layer) (c.args.place + 1) c.args.properties.now)
