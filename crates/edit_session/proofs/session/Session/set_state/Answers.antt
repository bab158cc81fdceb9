use Rattle.edit_session.specs.View.{tiles_of}
use Rattle.edit_session.specs.PlainView.{plain_state}
use Rattle.edit_session.proofs.AppliedLaws.{state_set}
use Rattle.feature_states.specs.Members.{members_at}
use Rattle.edit_session.proofs.session.Session.set_state.Goals as goal

pub returns-clause-answer : goal.returns-clause-answer
returns-clause-answer c = λ has_image scripts can_change.
    state_set (tiles_of c.args.self.now) scripts can_change (plain_state c.args.self.now has_image) _ _ _ _ c.args.id c.in_ok-members.members
    c.args.members.now (members_at c.merge.new.self) c.requires.possible c.as_str.ensures c.as_str-2.ensures
    c.in_ok-members.ensures c.in_ok-merge.ensures.ok
