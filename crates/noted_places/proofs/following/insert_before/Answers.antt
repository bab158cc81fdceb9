use Rattle.std.proofs.Common.{◌≡◌, ◌<◌, ◌+◌, ◌∙◌, sym, subst, length, map, get_or, set, arith}
use Rattle.noted_places.specs.Places.{after_insert}
use Rattle.noted_places.proofs.FollowLaws.{below_at, below_next, follow_next, followed}
use Rattle.noted_places.proofs.following.insert_before.Goals as goal

pub after_insert-requires : goal.after_insert-requires
after_insert-requires c =
    let within : c.loop-noted.noted-index < length c.loop-noted.places = omega arith in
    below_at 18446744073709551615 c.loop-noted.places c.loop-noted.noted-index 0 within c.loop-noted.invariant.below

pub loop-noted-preserved : goal.loop-noted-preserved
loop-noted-preserved c =
    let follows = after_insert c.args.place in
    let places = c.loop-noted.places in
    let i = c.loop-noted.noted-index in
    let within : i < length places = omega arith in
    let is : c.after_insert.result ≡ follows (get_or places i 0) = c.after_insert.ensures in
    record {
      followed = subst (λ y. followed follows (i + 1) (set places i y) ≡ map follows c.args.places.now) (sym is)
          (follow_next follows places i 0 within ∙ c.loop-noted.invariant.followed);
      below = below_next 18446744073709551615 places i c.after_insert.result within c.loop-noted.invariant.below;
    }
