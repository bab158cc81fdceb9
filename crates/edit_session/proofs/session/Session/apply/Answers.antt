use Rattle.std.proofs.Common.{◌+◌, ◌≤◌, ℕ, subst}
use Rattle.decimal_json.specs.View.{tree_of}
use Rattle.edit_script.specs.View.{command_seen}
use Rattle.edit_session.specs.View.{reply_seen}
use Rattle.edit_session.proofs.RangedCalls.{IsAhead, answer_after, least_ahead, most_ahead, places_within, plain_ahead, sound_after, sound_ranged}
use Rattle.edit_session.proofs.session.Session.apply.Goals as goal

pub returns-then-is_range-clause-sound : goal.returns-then-is_range-clause-sound
returns-then-is_range-clause-sound g c =
    let images = (goal.HostOp-dyn g c.args.images.now).test c.args.images.now.1 in
    let scripts = (goal.HostOp-dyn g c.args.scripts.now).test c.args.scripts.now.1 in
    sound_ranged c.args.self.now c.set_range.new.self images scripts c.if-self.false c.set_range.ensures.others c.set_range.ensures.there c.set_range.ensures.slots c.requires

pub apply_plain-requires : goal.apply_plain-requires
apply_plain-requires g c =
    let images = goal.HostOp-dyn g c.args.images.now in
    let images₀ = images.test c.args.images.now.1 in
    let scripts = (goal.HostOp-dyn g c.args.scripts.now).test c.args.scripts.now.1 in
    let s = c.args.self.now in
    let t = c.before_ranges.new.self in
    let e = command_seen c.args.command.now in
    let b = c.in_ok-before.before in
    let h = c.in_ok-before.ensures in
    let ahead : IsAhead s t e b = record {
      same = h.same;
      none = h.none;
      slots = h.slots;
      at = h.before;
      distinct = h.distinct;
      zooms = h.zooms;
    } in
    plain_ahead s t e b ahead images₀ scripts c.requires.kept c.if-self.false

pub returns-in_err-answer-clause-most : goal.returns-in_err-answer-clause-most
returns-in_err-answer-clause-most g c =
    let images = goal.HostOp-dyn g c.args.images.now in
    let images₀ = images.test c.args.images.now.1 in
    let scripts = (goal.HostOp-dyn g c.args.scripts.now).test c.args.scripts.now.1 in
    let s = c.args.self.now in
    let t = c.before_ranges.new.self in
    let e = command_seen c.args.command.now in
    let b = c.in_ok-before.before in
    let h = c.in_ok-before.ensures in
    let ahead : IsAhead s t e b = record {
      same = h.same;
      none = h.none;
      slots = h.slots;
      at = h.before;
      distinct = h.distinct;
      zooms = h.zooms;
    } in
    subst (λ (n : ℕ). c.apply_plain.new.steps ≤ c.args.steps.now + n) (most_ahead s t e b ahead images₀ scripts) c.apply_plain.ensures.most

pub follow_ranges-requires-clause-layer : goal.follow_ranges-requires-clause-layer
follow_ranges-requires-clause-layer g c =
    (places_within (tree_of c.before_ranges.new.self.document) (command_seen c.args.command.now) c.in_ok-before.before c.in_ok-before.ensures.before).0

pub follow_ranges-requires-clause-before : goal.follow_ranges-requires-clause-before
follow_ranges-requires-clause-before g c =
    (places_within (tree_of c.before_ranges.new.self.document) (command_seen c.args.command.now) c.in_ok-before.before c.in_ok-before.ensures.before).1

pub returns-clause-answer : goal.returns-clause-answer
returns-clause-answer g c =
    let images = goal.HostOp-dyn g c.args.images.now in
    let images₀ = images.test c.args.images.now.1 in
    let scripts = (goal.HostOp-dyn g c.args.scripts.now).test c.args.scripts.now.1 in
    let s = c.args.self.now in
    let t = c.before_ranges.new.self in
    let e = command_seen c.args.command.now in
    let b = c.in_ok-before.before in
    let h = c.in_ok-before.ensures in
    let ahead : IsAhead s t e b = record {
      same = h.same;
      none = h.none;
      slots = h.slots;
      at = h.before;
      distinct = h.distinct;
      zooms = h.zooms;
    } in
    answer_after s t e b ahead images₀ scripts (images.changes c.args.images.now.1) (images.test c.apply_plain.new.images) c.apply_plain.new.self c.follow_ranges.new.self
    (reply_seen c.in_ok-answer.answer) c.in_ok-answer.ensures.answer c.apply_plain.ensures.ranges c.follow_ranges.ensures.there
    c.follow_ranges.ensures.others c.follow_ranges.ensures.ranges

pub returns-clause-sound : goal.returns-clause-sound
returns-clause-sound g c =
    let images = goal.HostOp-dyn g c.args.images.now in
    let images₀ = images.test c.args.images.now.1 in
    let scripts = (goal.HostOp-dyn g c.args.scripts.now).test c.args.scripts.now.1 in
    let s = c.args.self.now in
    let t = c.before_ranges.new.self in
    let e = command_seen c.args.command.now in
    let b = c.in_ok-before.before in
    let h = c.in_ok-before.ensures in
    let ahead : IsAhead s t e b = record {
      same = h.same;
      none = h.none;
      slots = h.slots;
      at = h.before;
      distinct = h.distinct;
      zooms = h.zooms;
    } in
    sound_after s t e b ahead images₀ scripts (images.changes c.args.images.now.1) (images.test c.apply_plain.new.images) c.apply_plain.new.self c.follow_ranges.new.self
    (reply_seen c.in_ok-answer.answer) c.in_ok-answer.ensures.answer c.apply_plain.ensures.ranges c.follow_ranges.ensures.there
    c.follow_ranges.ensures.others c.follow_ranges.ensures.ranges c.apply_plain.ensures.sound

pub returns-clause-least : goal.returns-clause-least
returns-clause-least g c =
    let images = goal.HostOp-dyn g c.args.images.now in
    let images₀ = images.test c.args.images.now.1 in
    let scripts = (goal.HostOp-dyn g c.args.scripts.now).test c.args.scripts.now.1 in
    let s = c.args.self.now in
    let t = c.before_ranges.new.self in
    let e = command_seen c.args.command.now in
    let b = c.in_ok-before.before in
    let h = c.in_ok-before.ensures in
    let ahead : IsAhead s t e b = record {
      same = h.same;
      none = h.none;
      slots = h.slots;
      at = h.before;
      distinct = h.distinct;
      zooms = h.zooms;
    } in
    subst (λ (n : ℕ). c.args.steps.now + n ≤ c.apply_plain.new.steps) (least_ahead s t e b ahead images₀ scripts) c.in_ok-answer.ensures.least

pub returns-clause-most : goal.returns-clause-most
returns-clause-most g c =
    let images = goal.HostOp-dyn g c.args.images.now in
    let images₀ = images.test c.args.images.now.1 in
    let scripts = (goal.HostOp-dyn g c.args.scripts.now).test c.args.scripts.now.1 in
    let s = c.args.self.now in
    let t = c.before_ranges.new.self in
    let e = command_seen c.args.command.now in
    let b = c.in_ok-before.before in
    let h = c.in_ok-before.ensures in
    let ahead : IsAhead s t e b = record {
      same = h.same;
      none = h.none;
      slots = h.slots;
      at = h.before;
      distinct = h.distinct;
      zooms = h.zooms;
    } in
    subst (λ (n : ℕ). c.apply_plain.new.steps ≤ c.args.steps.now + n) (most_ahead s t e b ahead images₀ scripts) c.apply_plain.ensures.most
