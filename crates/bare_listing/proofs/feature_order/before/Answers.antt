use Rattle.std.proofs.Common.{sym}
use Rattle.std.proofs.lemmas.List.{take-map}
use Rattle.style_layout.specs.CodeView.{document_property}
use Rattle.bare_listing.proofs.feature_order.before.Goals as goal

pub returns : goal.returns
returns c = λ layer. sym (take-map (document_property layer) c.args.place c.args.properties.now)
