use Rattle.bare_listing.proofs.bare_layer.BareLayer.is_listed.Goals as goal

pub returns : goal.returns
returns g c = c.is_listed.ensures c.args.self.now.at.now.layer
