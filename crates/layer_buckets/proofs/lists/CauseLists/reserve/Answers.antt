use Rattle.std.proofs.Common.{◌<◌, ◌&&◌, ◌∙◌, refl, sym, subst, arith}
use Rattle.std.specs.Prelude.{IfSome}
use Rattle.layer_buckets.proofs.Places.{and_true}
use Rattle.layer_buckets.proofs.lists.CauseLists.reserve.Goals as goal

pub returns-clause-counted : goal.returns-clause-counted
returns-clause-counted c = record {
  items = record { slots = c.grow_slots-items.ensures.grown.most; lists = c.grow_slots-items.ensures.grown.lists ∙ c.requires.items.lists };
  zooms = record { slots = c.grow_slots-zooms.ensures.grown.most; lists = c.grow_slots-zooms.ensures.grown.lists ∙ c.requires.zooms.lists };
  images = record { slots = c.grow_slots-images.ensures.grown.most; lists = c.grow_slots-images.ensures.grown.lists ∙ c.requires.images.lists };
  states = record { slots = c.grow_slots-states.ensures.grown.most; lists = c.grow_slots-states.ensures.grown.lists ∙ c.requires.states.lists };
}

pub returns-clause-grown : goal.returns-clause-grown
returns-clause-grown c = record {
  hold = λ numbers k. record {
    items = c.grow_slots-items.ensures.grown.hold (λ s. (numbers s).item) k.items;
    zooms = c.grow_slots-zooms.ensures.grown.hold (λ s. (numbers s).zoom) k.zooms;
    images = c.grow_slots-images.ensures.grown.hold (λ s. (numbers s).image) k.images;
    states = c.grow_slots-states.ensures.grown.hold (λ s. (numbers s).state) k.states;
  };
  there = λ n t. record {
    item = subst (λ m. IfSome n.item (λ l. l < m)) (sym c.grow_slots-items.ensures.grown.lists) t.item;
    zoom = subst (λ m. IfSome n.zoom (λ l. l < m)) (sym c.grow_slots-zooms.ensures.grown.lists) t.zoom;
    image = subst (λ m. IfSome n.image (λ l. l < m)) (sym c.grow_slots-images.ensures.grown.lists) t.image;
    state = subst (λ m. IfSome n.state (λ l. l < m)) (sym c.grow_slots-states.ensures.grown.lists) t.state;
  };
  have = λ count h. record {
    items = omega (arith, h.items, c.grow_slots-items.ensures.grown.more);
    zooms = omega (arith, h.zooms, c.grow_slots-zooms.ensures.grown.more);
    images = omega (arith, h.images, c.grow_slots-images.ensures.grown.more);
    states = omega (arith, h.states, c.grow_slots-states.ensures.grown.more);
  };
  item_lists = refl;
  state_lists = refl;
}

pub returns-clause-done : goal.returns-clause-done
returns-clause-done c = λ t.
    let all = and_true (c.grow_slots-items.result && c.grow_slots-zooms.result) (c.grow_slots-images.result && c.grow_slots-states.result) (sym c.all.ensures ∙ t) in
    let first = and_true c.grow_slots-items.result c.grow_slots-zooms.result all.0 in
    let second = and_true c.grow_slots-images.result c.grow_slots-states.result all.1 in
    let m = c.max-most.ensures in
    record {
      items = omega (arith, c.grow_slots-items.ensures.done first.0);
      zooms = omega (arith, c.grow_slots-zooms.ensures.done first.1);
      images = omega (arith, c.grow_slots-images.ensures.done second.0);
      states = omega (arith, c.grow_slots-states.ensures.done second.1);
    }
