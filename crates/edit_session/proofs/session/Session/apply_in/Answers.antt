use Rattle.std.proofs.Common.{◌≡◌, ◌∙◌, ◌+◌, ◌≤◌, ℕ, sym, subst, false}
use Rattle.std.specs.Prelude.{OnOk}
use Rattle.edit_script.specs.View.{command_seen}
use Rattle.style_edits.proofs.DocumentLaws.{on_ok}
use Rattle.edit_session.specs.Applied.{applied}
use Rattle.edit_session.specs.PlainView.{plain_state, plain_state_in}
use Rattle.edit_session.specs.View.{lacks_memory, reply_seen, session_state, state_in, tiles_of}
use Rattle.edit_session.specs.declared.answer.Answer.{Answer}
use Rattle.edit_session.proofs.RangedCalls.{IsAhead, answer_in, least_in, most_in, ok_with, own_still, plain_ahead, session_still, view_ahead, view_still}
use Rattle.edit_session.proofs.ViewLaws.{of_fine}
use Rattle.edit_session.proofs.session.Session.apply_in.Goals as goal

pub apply_in_plain-requires-clause-session : goal.apply_in_plain-requires-clause-session
apply_in_plain-requires-clause-session g c =
    let images = goal.HostOp-dyn g c.args.images.now in
    let images₀ = images.test c.args.images.now.1 in
    let scripts = (goal.HostOp-dyn g c.args.scripts.now).test c.args.scripts.now.1 in
    let s = c.args.self.now in
    let t = c.before_ranges.new.self in
    let e = command_seen c.args.command.now in
    let b = c.in_ok-before_ranges.field-0 in
    let h = c.in_ok-before_ranges.ensures in
    let ahead : IsAhead s t e b = record {
      same = h.same;
      none = h.none;
      slots = h.slots;
      at = h.before;
      distinct = h.distinct;
      zooms = h.zooms;
    } in
    plain_ahead s t e b ahead images₀ scripts c.requires.session.kept c.if-self.false

pub apply_in_plain-requires-clause-view : goal.apply_in_plain-requires-clause-view
apply_in_plain-requires-clause-view g c =
    let images = goal.HostOp-dyn g c.args.images.now in
    let images₀ = images.test c.args.images.now.1 in
    let scripts = (goal.HostOp-dyn g c.args.scripts.now).test c.args.scripts.now.1 in
    let s = c.args.self.now in
    let t = c.before_ranges.new.self in
    let e = command_seen c.args.command.now in
    let b = c.in_ok-before_ranges.field-0 in
    let h = c.in_ok-before_ranges.ensures in
    let ahead : IsAhead s t e b = record {
      same = h.same;
      none = h.none;
      slots = h.slots;
      at = h.before;
      distinct = h.distinct;
      zooms = h.zooms;
    } in
    view_ahead s t e b ahead images₀ scripts c.args.view.now c.requires.view c.if-self.false

pub returns-clause-answer : goal.returns-clause-answer
returns-clause-answer g c =
    let images = goal.HostOp-dyn g c.args.images.now in
    let images₀ = images.test c.args.images.now.1 in
    let scripts = (goal.HostOp-dyn g c.args.scripts.now).test c.args.scripts.now.1 in
    let s = c.args.self.now in
    let t = c.before_ranges.new.self in
    let e = command_seen c.args.command.now in
    let b = c.in_ok-before_ranges.field-0 in
    let h = c.in_ok-before_ranges.ensures in
    let ahead : IsAhead s t e b = record {
      same = h.same;
      none = h.none;
      slots = h.slots;
      at = h.before;
      distinct = h.distinct;
      zooms = h.zooms;
    } in
    let images₁ = images.test c.apply_in_plain.new.images in
    let u = c.apply_in_plain.new.self in
    let result = c.apply_in_plain.result in
    let stays : lacks_memory u ≡ false → plain_state u images₁ ≡ plain_state t images₀ =
    λ off. of_fine result (sym c.apply_in_plain.ensures.lacks ∙ off) c.apply_in_plain.ensures.own in
    let can_change = images.changes c.args.images.now.1 in
    let v = c.args.view.now in
    let w = c.apply_in_plain.new.view in
    ok_with result (λ (a : Answer). (plain_state_in u w images₁, reply_seen a) ≡ applied (tiles_of t) scripts can_change (plain_state_in t v images₀) e)
    (λ (a : Answer). (state_in u w images₁, reply_seen a) ≡ applied (tiles_of s) scripts can_change (state_in s v images₀) e)
    (λ a given still. answer_in s t e b ahead images₀ scripts images₁ c.requires.command u c.apply_in_plain.ensures.ranges can_change v w (reply_seen a) still given)
    c.apply_in_plain.ensures.answer c.apply_in_plain.ensures.own

pub returns-clause-own : goal.returns-clause-own
returns-clause-own g c =
    let images = goal.HostOp-dyn g c.args.images.now in
    let images₀ = images.test c.args.images.now.1 in
    let scripts = (goal.HostOp-dyn g c.args.scripts.now).test c.args.scripts.now.1 in
    let s = c.args.self.now in
    let t = c.before_ranges.new.self in
    let e = command_seen c.args.command.now in
    let b = c.in_ok-before_ranges.field-0 in
    let h = c.in_ok-before_ranges.ensures in
    let ahead : IsAhead s t e b = record {
      same = h.same;
      none = h.none;
      slots = h.slots;
      at = h.before;
      distinct = h.distinct;
      zooms = h.zooms;
    } in
    let images₁ = images.test c.apply_in_plain.new.images in
    let u = c.apply_in_plain.new.self in
    let result = c.apply_in_plain.result in
    let stays : lacks_memory u ≡ false → plain_state u images₁ ≡ plain_state t images₀ =
    λ off. of_fine result (sym c.apply_in_plain.ensures.lacks ∙ off) c.apply_in_plain.ensures.own in
    on_ok result (plain_state u images₁ ≡ plain_state t images₀) (session_state u images₁ ≡ session_state s images₀)
    (own_still s t e b ahead images₀ scripts images₁ c.requires.command u c.apply_in_plain.ensures.ranges) c.apply_in_plain.ensures.own

pub returns-clause-sound : goal.returns-clause-sound
returns-clause-sound g c =
    let images = goal.HostOp-dyn g c.args.images.now in
    let images₀ = images.test c.args.images.now.1 in
    let scripts = (goal.HostOp-dyn g c.args.scripts.now).test c.args.scripts.now.1 in
    let s = c.args.self.now in
    let t = c.before_ranges.new.self in
    let e = command_seen c.args.command.now in
    let b = c.in_ok-before_ranges.field-0 in
    let h = c.in_ok-before_ranges.ensures in
    let ahead : IsAhead s t e b = record {
      same = h.same;
      none = h.none;
      slots = h.slots;
      at = h.before;
      distinct = h.distinct;
      zooms = h.zooms;
    } in
    let images₁ = images.test c.apply_in_plain.new.images in
    let u = c.apply_in_plain.new.self in
    let result = c.apply_in_plain.result in
    let stays : lacks_memory u ≡ false → plain_state u images₁ ≡ plain_state t images₀ =
    λ off. of_fine result (sym c.apply_in_plain.ensures.lacks ∙ off) c.apply_in_plain.ensures.own in
    session_still s t e b ahead images₀ scripts images₁ c.requires.command u c.apply_in_plain.ensures.ranges stays c.apply_in_plain.ensures.sound

pub returns-clause-sound_view : goal.returns-clause-sound_view
returns-clause-sound_view g c =
    let images = goal.HostOp-dyn g c.args.images.now in
    let images₀ = images.test c.args.images.now.1 in
    let scripts = (goal.HostOp-dyn g c.args.scripts.now).test c.args.scripts.now.1 in
    let s = c.args.self.now in
    let t = c.before_ranges.new.self in
    let e = command_seen c.args.command.now in
    let b = c.in_ok-before_ranges.field-0 in
    let h = c.in_ok-before_ranges.ensures in
    let ahead : IsAhead s t e b = record {
      same = h.same;
      none = h.none;
      slots = h.slots;
      at = h.before;
      distinct = h.distinct;
      zooms = h.zooms;
    } in
    let images₁ = images.test c.apply_in_plain.new.images in
    let u = c.apply_in_plain.new.self in
    let result = c.apply_in_plain.result in
    let stays : lacks_memory u ≡ false → plain_state u images₁ ≡ plain_state t images₀ =
    λ off. of_fine result (sym c.apply_in_plain.ensures.lacks ∙ off) c.apply_in_plain.ensures.own in
    view_still s t e b ahead images₀ scripts images₁ c.requires.command u c.apply_in_plain.ensures.ranges stays c.apply_in_plain.new.view c.apply_in_plain.ensures.sound_view

pub returns-clause-least : goal.returns-clause-least
returns-clause-least g c =
    let images = goal.HostOp-dyn g c.args.images.now in
    let images₀ = images.test c.args.images.now.1 in
    let scripts = (goal.HostOp-dyn g c.args.scripts.now).test c.args.scripts.now.1 in
    let s = c.args.self.now in
    let t = c.before_ranges.new.self in
    let e = command_seen c.args.command.now in
    let b = c.in_ok-before_ranges.field-0 in
    let h = c.in_ok-before_ranges.ensures in
    let ahead : IsAhead s t e b = record {
      same = h.same;
      none = h.none;
      slots = h.slots;
      at = h.before;
      distinct = h.distinct;
      zooms = h.zooms;
    } in
    let images₁ = images.test c.apply_in_plain.new.images in
    let u = c.apply_in_plain.new.self in
    let result = c.apply_in_plain.result in
    let stays : lacks_memory u ≡ false → plain_state u images₁ ≡ plain_state t images₀ =
    λ off. of_fine result (sym c.apply_in_plain.ensures.lacks ∙ off) c.apply_in_plain.ensures.own in
    subst (λ (n : ℕ). OnOk result (c.args.steps.now + n ≤ c.apply_in_plain.new.steps))
    (least_in s t e b ahead images₀ scripts images₁ c.requires.command u c.apply_in_plain.ensures.ranges c.args.view.now) c.apply_in_plain.ensures.least

pub returns-clause-most : goal.returns-clause-most
returns-clause-most g c =
    let images = goal.HostOp-dyn g c.args.images.now in
    let images₀ = images.test c.args.images.now.1 in
    let scripts = (goal.HostOp-dyn g c.args.scripts.now).test c.args.scripts.now.1 in
    let s = c.args.self.now in
    let t = c.before_ranges.new.self in
    let e = command_seen c.args.command.now in
    let b = c.in_ok-before_ranges.field-0 in
    let h = c.in_ok-before_ranges.ensures in
    let ahead : IsAhead s t e b = record {
      same = h.same;
      none = h.none;
      slots = h.slots;
      at = h.before;
      distinct = h.distinct;
      zooms = h.zooms;
    } in
    let images₁ = images.test c.apply_in_plain.new.images in
    let u = c.apply_in_plain.new.self in
    let result = c.apply_in_plain.result in
    let stays : lacks_memory u ≡ false → plain_state u images₁ ≡ plain_state t images₀ =
    λ off. of_fine result (sym c.apply_in_plain.ensures.lacks ∙ off) c.apply_in_plain.ensures.own in
    subst (λ (n : ℕ). c.apply_in_plain.new.steps ≤ c.args.steps.now + n)
    (most_in s t e b ahead images₀ scripts images₁ c.requires.command u c.apply_in_plain.ensures.ranges c.args.view.now) c.apply_in_plain.ensures.most
