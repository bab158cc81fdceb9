use Rattle.std.proofs.Common.{rules}
use Rattle.feature_states.proofs.SomeMembers.{only_seen, more_seen}
use Rattle.feature_states.proofs.feature_members.FeatureMembers.is_only.Goals as goal

pub returns-in-Some-clause-only : goal.returns-in-Some-clause-only
returns-in-Some-clause-only c =
    only_seen c.args.key.now c.as_slice.result.now c.self.inside.entries c.args.self.now c.as_slice.ensures.entries c.self.view_is (search rules)

pub returns-in-Some-clause-others : goal.returns-in-Some-clause-others
returns-in-Some-clause-others c =
    more_seen c.args.key.now c.as_slice.result.now c.self.inside.entries c.args.self.now c.as_slice.ensures.entries c.self.view_is c.self.invariant
