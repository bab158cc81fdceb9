use Rattle.std.proofs.Common.{ap, refl}
use Rattle.index_lists.proofs.Holding.{holds_same}
use Rattle.layer_buckets.specs.declared.lists.ListNumbers.{ListNumbers}
use Rattle.layer_buckets.proofs.Listings.{moves_part, part_same}
use Rattle.layer_buckets.proofs.lists.CauseLists.put.Goals as goal

pub returns-then-more-clause-alike : goal.returns-then-more-clause-alike
returns-then-more-clause-alike c = record {
  items = c.put_in.ensures.alike;
  zooms = c.put_in-then-more.ensures.alike;
  images = c.put_in-then-more-2.ensures.alike;
  states = c.put_in-then-more-3.ensures.alike;
  slots = refl;
  item_lists = refl;
  state_lists = refl;
}

pub returns-else-more-clause-alike : goal.returns-else-more-clause-alike
returns-else-more-clause-alike c = record {
  items = c.put_in.ensures.alike;
  zooms = record { slots = refl; lists = refl };
  images = record { slots = refl; lists = refl };
  states = record { slots = refl; lists = refl };
  slots = refl;
  item_lists = refl;
  state_lists = refl;
}

pub returns-then-more-clause-hold : goal.returns-then-more-clause-hold
returns-then-more-clause-hold c = λ h g k e m. record {
  items = c.put_in.ensures.holds (λ s. (h s).item) (λ s. (g s).item) k.items (ap (λ (n : ListNumbers). n.item) e) (moves_part (λ n. n.item) c.args.slot c.args.numbers h g m);
  zooms = c.put_in-then-more.ensures.holds (λ s. (h s).zoom) (λ s. (g s).zoom) k.zooms (ap (λ (n : ListNumbers). n.zoom) e) (moves_part (λ n. n.zoom) c.args.slot c.args.numbers h g m);
  images = c.put_in-then-more-2.ensures.holds (λ s. (h s).image) (λ s. (g s).image) k.images (ap (λ (n : ListNumbers). n.image) e) (moves_part (λ n. n.image) c.args.slot c.args.numbers h g m);
  states = c.put_in-then-more-3.ensures.holds (λ s. (h s).state) (λ s. (g s).state) k.states (ap (λ (n : ListNumbers). n.state) e) (moves_part (λ n. n.state) c.args.slot c.args.numbers h g m);
}

pub returns-else-more-clause-hold : goal.returns-else-more-clause-hold
returns-else-more-clause-hold c = λ h g k e m.
    let none = c.has_causes-more.ensures c.if-more.false in
    record {
      items = c.put_in.ensures.holds (λ s. (h s).item) (λ s. (g s).item) k.items (ap (λ (n : ListNumbers). n.item) e) (moves_part (λ n. n.item) c.args.slot c.args.numbers h g m);
      zooms = holds_same c.args.self.now.zooms (λ s. (h s).zoom) (λ s. (g s).zoom) k.zooms (part_same (λ n. n.zoom) c.args.slot c.args.numbers h g (ap (λ (n : ListNumbers). n.zoom) e) none.0 m);
      images = holds_same c.args.self.now.images (λ s. (h s).image) (λ s. (g s).image) k.images (part_same (λ n. n.image) c.args.slot c.args.numbers h g (ap (λ (n : ListNumbers). n.image) e) none.1 m);
      states = holds_same c.args.self.now.states (λ s. (h s).state) (λ s. (g s).state) k.states (part_same (λ n. n.state) c.args.slot c.args.numbers h g (ap (λ (n : ListNumbers). n.state) e) none.2 m);
    }
