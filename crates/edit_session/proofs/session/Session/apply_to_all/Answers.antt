use Rattle.std.proofs.Common.{◌∙◌, map, sym}
use Rattle.decimal_json.specs.View.{tree_of}
use Rattle.edit_script.specs.View.{command_seen}
use Rattle.edit_session.specs.View.{reply_seen, session_state, tiles_of, view_seen}
use Rattle.edit_session.proofs.RangedCalls.{IsAhead, answer_after, each_ahead, each_ranged, places_within, plain_ahead, sound_after, sound_ranged, views_after, views_ahead, views_ranged, views_without}
use Rattle.edit_session.proofs.session.Session.apply_to_all.Goals as goal

pub returns-then-is_range-clause-views : goal.returns-then-is_range-clause-views
returns-then-is_range-clause-views g c =
    let images = (goal.HostOp-dyn g c.args.images.now).test c.args.images.now.1 in
    let scripts = (goal.HostOp-dyn g c.args.scripts.now).test c.args.scripts.now.1 in
    let s = c.args.self.now in
    each_ranged (tiles_of s) scripts ((goal.HostOp-dyn g c.args.images.now).changes c.args.images.now.1) (session_state s images) (command_seen c.args.command.now)
    (sym c.is_range.ensures ∙ c.if-is_range.true) (map view_seen c.args.views.now)

pub returns-then-is_range-clause-sound : goal.returns-then-is_range-clause-sound
returns-then-is_range-clause-sound g c =
    let images = (goal.HostOp-dyn g c.args.images.now).test c.args.images.now.1 in
    let scripts = (goal.HostOp-dyn g c.args.scripts.now).test c.args.scripts.now.1 in
    let s = c.args.self.now in
    sound_ranged s c.set_range.new.self images scripts c.if-self.false c.set_range.ensures.others c.set_range.ensures.there c.set_range.ensures.slots c.requires.session

pub returns-then-is_range-clause-sound_views : goal.returns-then-is_range-clause-sound_views
returns-then-is_range-clause-sound_views g c =
    let images = (goal.HostOp-dyn g c.args.images.now).test c.args.images.now.1 in
    let scripts = (goal.HostOp-dyn g c.args.scripts.now).test c.args.scripts.now.1 in
    let s = c.args.self.now in
    views_ranged s c.set_range.new.self images scripts c.if-self.false c.set_range.ensures.others c.set_range.ensures.there c.set_range.ensures.slots c.args.views.now c.requires.views

pub returns-in_err-before-clause-sound_views : goal.returns-in_err-before-clause-sound_views
returns-in_err-before-clause-sound_views g c =
    let images = (goal.HostOp-dyn g c.args.images.now).test c.args.images.now.1 in
    let scripts = (goal.HostOp-dyn g c.args.scripts.now).test c.args.scripts.now.1 in
    let s = c.args.self.now in
    views_without c.before_ranges.new.self images scripts c.args.views.now c.in_err-before.ensures.lacks

pub apply_to_all_plain-requires-clause-session : goal.apply_to_all_plain-requires-clause-session
apply_to_all_plain-requires-clause-session g c =
    let images = goal.HostOp-dyn g c.args.images.now in
    let images₀ = images.test c.args.images.now.1 in
    let scripts = (goal.HostOp-dyn g c.args.scripts.now).test c.args.scripts.now.1 in
    let s = c.args.self.now in
    let t = c.before_ranges.new.self in
    let e = command_seen c.args.command.now in
    let b = c.in_ok-before.before in
    let h = c.in_ok-before.ensures in
    let ahead : IsAhead s t e b = record {
      same = h.same;
      none = h.none;
      slots = h.slots;
      at = h.before;
      distinct = h.distinct;
      zooms = h.zooms;
    } in
    plain_ahead s t e b ahead images₀ scripts c.requires.session.kept c.if-self.false

pub apply_to_all_plain-requires-clause-views : goal.apply_to_all_plain-requires-clause-views
apply_to_all_plain-requires-clause-views g c =
    let images = goal.HostOp-dyn g c.args.images.now in
    let images₀ = images.test c.args.images.now.1 in
    let scripts = (goal.HostOp-dyn g c.args.scripts.now).test c.args.scripts.now.1 in
    let s = c.args.self.now in
    let t = c.before_ranges.new.self in
    let e = command_seen c.args.command.now in
    let b = c.in_ok-before.before in
    let h = c.in_ok-before.ensures in
    let ahead : IsAhead s t e b = record {
      same = h.same;
      none = h.none;
      slots = h.slots;
      at = h.before;
      distinct = h.distinct;
      zooms = h.zooms;
    } in
    views_ahead s t e b ahead images₀ scripts c.args.views.now c.requires.views c.if-self.false

pub returns-in_err-answer-clause-sound_views : goal.returns-in_err-answer-clause-sound_views
returns-in_err-answer-clause-sound_views g c =
    let images = goal.HostOp-dyn g c.args.images.now in
    let scripts = (goal.HostOp-dyn g c.args.scripts.now).test c.args.scripts.now.1 in
    views_without c.apply_to_all_plain.new.self (images.test c.apply_to_all_plain.new.images) scripts c.apply_to_all_plain.new.views c.in_err-answer.ensures.lacks

pub follow_ranges-requires-clause-layer : goal.follow_ranges-requires-clause-layer
follow_ranges-requires-clause-layer g c =
    (places_within (tree_of c.before_ranges.new.self.document) (command_seen c.args.command.now) c.in_ok-before.before c.in_ok-before.ensures.before).0

pub follow_ranges-requires-clause-before : goal.follow_ranges-requires-clause-before
follow_ranges-requires-clause-before g c =
    (places_within (tree_of c.before_ranges.new.self.document) (command_seen c.args.command.now) c.in_ok-before.before c.in_ok-before.ensures.before).1

pub returns-clause-answer : goal.returns-clause-answer
returns-clause-answer g c =
    let images = goal.HostOp-dyn g c.args.images.now in
    let images₀ = images.test c.args.images.now.1 in
    let scripts = (goal.HostOp-dyn g c.args.scripts.now).test c.args.scripts.now.1 in
    let s = c.args.self.now in
    let t = c.before_ranges.new.self in
    let e = command_seen c.args.command.now in
    let b = c.in_ok-before.before in
    let h = c.in_ok-before.ensures in
    let ahead : IsAhead s t e b = record {
      same = h.same;
      none = h.none;
      slots = h.slots;
      at = h.before;
      distinct = h.distinct;
      zooms = h.zooms;
    } in
    answer_after s t e b ahead images₀ scripts (images.changes c.args.images.now.1) (images.test c.apply_to_all_plain.new.images) c.apply_to_all_plain.new.self c.follow_ranges.new.self
    (reply_seen c.in_ok-answer.answer) c.in_ok-answer.ensures.answer c.apply_to_all_plain.ensures.ranges c.follow_ranges.ensures.there
    c.follow_ranges.ensures.others c.follow_ranges.ensures.ranges

pub returns-clause-views : goal.returns-clause-views
returns-clause-views g c =
    let images = goal.HostOp-dyn g c.args.images.now in
    let images₀ = images.test c.args.images.now.1 in
    let scripts = (goal.HostOp-dyn g c.args.scripts.now).test c.args.scripts.now.1 in
    let s = c.args.self.now in
    let t = c.before_ranges.new.self in
    let e = command_seen c.args.command.now in
    let b = c.in_ok-before.before in
    let h = c.in_ok-before.ensures in
    let ahead : IsAhead s t e b = record {
      same = h.same;
      none = h.none;
      slots = h.slots;
      at = h.before;
      distinct = h.distinct;
      zooms = h.zooms;
    } in
    c.in_ok-answer.ensures.views ∙ each_ahead s t e b ahead images₀ scripts (images.changes c.args.images.now.1) (map view_seen c.args.views.now)

pub returns-clause-sound : goal.returns-clause-sound
returns-clause-sound g c =
    let images = goal.HostOp-dyn g c.args.images.now in
    let images₀ = images.test c.args.images.now.1 in
    let scripts = (goal.HostOp-dyn g c.args.scripts.now).test c.args.scripts.now.1 in
    let s = c.args.self.now in
    let t = c.before_ranges.new.self in
    let e = command_seen c.args.command.now in
    let b = c.in_ok-before.before in
    let h = c.in_ok-before.ensures in
    let ahead : IsAhead s t e b = record {
      same = h.same;
      none = h.none;
      slots = h.slots;
      at = h.before;
      distinct = h.distinct;
      zooms = h.zooms;
    } in
    sound_after s t e b ahead images₀ scripts (images.changes c.args.images.now.1) (images.test c.apply_to_all_plain.new.images) c.apply_to_all_plain.new.self c.follow_ranges.new.self
    (reply_seen c.in_ok-answer.answer) c.in_ok-answer.ensures.answer c.apply_to_all_plain.ensures.ranges c.follow_ranges.ensures.there
    c.follow_ranges.ensures.others c.follow_ranges.ensures.ranges c.apply_to_all_plain.ensures.sound

pub returns-clause-sound_views : goal.returns-clause-sound_views
returns-clause-sound_views g c =
    let images = goal.HostOp-dyn g c.args.images.now in
    let images₀ = images.test c.args.images.now.1 in
    let scripts = (goal.HostOp-dyn g c.args.scripts.now).test c.args.scripts.now.1 in
    let s = c.args.self.now in
    let t = c.before_ranges.new.self in
    let e = command_seen c.args.command.now in
    let b = c.in_ok-before.before in
    let h = c.in_ok-before.ensures in
    let ahead : IsAhead s t e b = record {
      same = h.same;
      none = h.none;
      slots = h.slots;
      at = h.before;
      distinct = h.distinct;
      zooms = h.zooms;
    } in
    views_after s t e b ahead images₀ scripts (images.changes c.args.images.now.1) (images.test c.apply_to_all_plain.new.images) c.apply_to_all_plain.new.self c.follow_ranges.new.self
    (reply_seen c.in_ok-answer.answer) c.in_ok-answer.ensures.answer c.apply_to_all_plain.ensures.ranges c.follow_ranges.ensures.there
    c.follow_ranges.ensures.others c.follow_ranges.ensures.ranges c.apply_to_all_plain.new.views c.apply_to_all_plain.ensures.sound_views
