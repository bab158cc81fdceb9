use Rattle.std.proofs.Common.{◌∙◌, ◌<◌, ◌+◌, ℕ, length, refl, sym, subst, arith}
use Rattle.edit_session.proofs.RangedSettling.{Settling, none_settled, one_settled}
use Rattle.edit_session.proofs.session.Session.settle.Goals as goal
use Rattle.edit_session.proofs.session.Session.settle.Goals.{in-Some+in_ok-settle_at, in_default}

pub loop-place-init : goal.loop-place-init
loop-place-init c = record {
  ready = c.requires.ready;
  state = λ h. refl;
  tiles = refl;
  kept = refl;
  slots = c.requires.slots;
  count = refl;
  between = c.bounds-start.ensures.between;
}

pub loop-place-preserved : goal.loop-place-preserved
loop-place-preserved c =
    let first = c.args.self.now in
    let s = c.loop-place.self in
    let i : ℕ = c.loop-place.place in
    let so = c.loop-place.invariant in
    let within : i < length s.ranges = omega (arith, c.loop-place-test.true, c.bounds-start.ensures.within, so.count) in
    elim c.match-take.branch [
      | in-Some+in_ok-settle_at w ↦
          subst (Settling first (i + 1) _) (sym w.self-is)
          (one_settled first s i _ so within c.take.new.self c.take.ensures.taken (w.in-Some.min, w.in-Some.max)
          (sym c.take.ensures.range ∙ w.in-Some.is) w.settle_at.new.self w.in_ok-settle_at.ensures.settled w.in_ok-settle_at.ensures.settles w.settle_at.ensures.ranges)
      | in_default w ↦
          subst (Settling first (i + 1) _) (sym w.self-is)
          (none_settled first s i _ so within c.take.new.self c.take.ensures.taken (sym c.take.ensures.range ∙ w.in_default.is))
    ]
