use Rattle.edit_session.proofs.RangedSettling.{slot_added}
use Rattle.edit_session.proofs.session.Session.make_ready.Goals as goal

pub returns-in_ok-add_slot-clause-same : goal.returns-in_ok-add_slot-clause-same
returns-in_ok-add_slot-clause-same c =
    slot_added c.args.self.now c.settle.new.self c.add_slot.new.self c.in_ok-settle.ensures.same c.in_ok-settle.ensures.none c.in_ok-settle.ensures.there
    c.add_slot.ensures.others c.in_ok-add_slot.ensures.none
