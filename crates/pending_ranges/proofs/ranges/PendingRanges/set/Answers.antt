use Rattle.std.proofs.Common.{◌≡◌, ◌<◌, length, ap, arith, Option, Some}
use Rattle.pending_ranges.specs.Pending.{ZoomRange}
use Rattle.std.proofs.lemmas.List.{length-set}
use Rattle.pending_ranges.proofs.SetLaws.{set_between, set_first, zooms_set}
use Rattle.pending_ranges.proofs.ranges.PendingRanges.set.Goals as goal

pub invariant_of-self : goal.invariant_of-self
invariant_of-self c =
    let xs = c.self.inside.slots.items in
    let range : Option ZoomRange = Some (c.args.min, c.args.max) in
    let within : c.args.place < length xs = omega (arith, c.requires.place, ap length c.self.view_is) in
    let between = set_between xs c.args.place c.self.inside.start c.self.inside.end range c.self.invariant.0 in
    let same = length-set xs c.args.place range in (
      λ place full. let b = between place full in
          (omega (arith, b.0, c.min-self-inside.ensures), omega (arith, b.1, c.max-self-inside.ensures)),
      omega (arith, within, same, c.self.invariant.1, c.max-self-inside.ensures),
      zooms_set xs c.args.place range within c.requires.zooms c.self.invariant.2,
    )
