use Rattle.std.proofs.Common.{◌+◌}
use Rattle.layer_buckets.proofs.Listings.{wider_states}
use Rattle.layer_buckets.proofs.lists.CauseLists.add_states.Goals as goal

pub returns-clause-wider : goal.returns-clause-wider
returns-clause-wider c = wider_states c.args.self.now c.grow_lists.new.links (c.args.self.now.state_lists + c.args.count) c.grow_lists.ensures.wider

pub returns-in_err-grow_lists-clause-wider : goal.returns-in_err-grow_lists-clause-wider
returns-in_err-grow_lists-clause-wider c = wider_states c.args.self.now c.grow_lists.new.links c.args.self.now.state_lists c.grow_lists.ensures.wider
