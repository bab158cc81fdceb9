use Rattle.std.proofs.Common.{◌≡◌, ◌<◌, ℕ, length, get_or, ap, sym, arith, subst, true, None}
use Rattle.std.specs.Prelude.{insert, remove}
use Rattle.pending_ranges.specs.Pending.{AreZoomRanges, IsZoomRange, Pending, is_pending}
use Rattle.pending_ranges.proofs.MoveLaws.{moved_between, moved_each, none_moved}
use Rattle.pending_ranges.proofs.ranges.PendingRanges.move_slot.Goals as goal

zooms : (xs : Pending) (from to : ℕ) → from < length xs → to < length xs → (new : Pending) → new ≡ insert (remove xs from) to (get_or xs from None)
    → AreZoomRanges xs → AreZoomRanges new
zooms xs from to h k new is all p =
    subst (λ ys. IsZoomRange (get_or ys p None)) (sym is) (moved_each xs from to h k IsZoomRange all p)

pub invariant_of-self : goal.invariant_of-self
invariant_of-self c =
    let xs = c.self.inside.slots.items in
    let from : c.args.from < length xs = omega (arith, c.requires.from, ap length c.self.view_is) in
    let to : c.args.to < length xs = omega (arith, c.requires.to, ap length c.self.view_is) in
    let moved = moved_between xs c.args.from c.args.to from to c.self.inside.start c.self.inside.end c.if-self.true c.self.invariant.0 in (
      λ place full.
          let b = moved place (subst (λ ys. is_pending ys place ≡ true) c.move_within.ensures.moved full) in
          (omega (arith, b.0, c.min.ensures, c.min-self-inside.ensures), omega (arith, b.1, c.max.ensures, c.max-self-inside.ensures)),
      omega (arith, from, to, c.self.invariant.1, c.move_within.ensures.len, c.max.ensures, c.max-self-inside.ensures),
      zooms xs c.args.from c.args.to from to c.move_within.new.slots.items c.move_within.ensures.moved c.self.invariant.2,
    )

pub invariant_of-self-else-self : goal.invariant_of-self-else-self
invariant_of-self-else-self c =
    let xs = c.self.inside.slots.items in
    let from : c.args.from < length xs = omega (arith, c.requires.from, ap length c.self.view_is) in
    let to : c.args.to < length xs = omega (arith, c.requires.to, ap length c.self.view_is) in (
      λ place full. none_moved xs c.args.from c.args.to from to c.self.inside.start c.self.inside.end (omega (arith, c.if-self.false)) c.self.invariant.0
          place (subst (λ ys. is_pending ys place ≡ true) c.move_within.ensures.moved full),
      omega (arith, c.self.invariant.1, c.move_within.ensures.len),
      zooms xs c.args.from c.args.to from to c.move_within.new.slots.items c.move_within.ensures.moved c.self.invariant.2,
    )
