use Rattle.std.proofs.Common.{◌∙◌, ◌+◌, ◌-◌, ◌<◌, ◌/◌, sym, ap, length, arith}
use Rattle.std.proofs.Common.{nat_cmp, inl, inr}
use Rattle.std.specs.Prelude.{ltb}
use Rattle.std.specs.Cmp.Lexicographic.{slice_cmp}
use Rattle.std.proofs.lemmas.Bool.{cases_Bool, ltb-true, ltb-false}
use Rattle.std.proofs.lemmas.List.{length-map}
use Rattle.property_tables.specs.RowView.{names_of}
use Rattle.property_tables.proofs.NameIndexes.{placed, same_order, place_within, not_below, not_above, nowhere_from_order, place_from_order, entry_name}
use Rattle.property_tables.proofs.search.place_named.Goals as goal

pub loop-low-init : goal.loop-low-init
loop-low-init c = record {
  order = omega arith;
  within = omega arith;
  before = λ k h. absurd (omega (arith, h));
  behind = λ k w h. absurd (omega (arith, w, h));
}

pub bounds-order-middle : goal.bounds-order-middle
bounds-order-middle c = omega (arith, c.loop-low-test.true, c.loop-low.invariant.within)

pub bounds-entries-place : goal.bounds-entries-place
bounds-entries-place c =
    let names = names_of c.args.entries.now in
    let middle = c.loop-low.low + (c.loop-low.high - c.loop-low.low) / 2 in
    let w : middle < length c.args.order.now = omega (arith, c.loop-low-test.true, c.loop-low.invariant.within) in
    let within = place_within names c.args.order.now c.requires middle w in
    omega (arith, within, length-map c.args.entries.now (λ e. e.name.now))

pub loop-low-preserved-in-Less : goal.loop-low-preserved-in-Less
loop-low-preserved-in-Less c =
    let names = names_of c.args.entries.now in
    let middle = c.loop-low.low + (c.loop-low.high - c.loop-low.low) / 2 in
    let w : middle < length c.args.order.now = omega (arith, c.loop-low-test.true, c.loop-low.invariant.within) in
    let within = place_within names c.args.order.now c.requires middle w in
    let name = entry_name c.args.entries.now (placed c.args.order.now middle) _ (omega (arith, within, length-map c.args.entries.now (λ e. e.name.now))) in
    record {
      order = omega (arith, c.loop-low-test.true);
      within = c.loop-low.invariant.within;
      before = λ k h. not_below names c.args.order.now c.requires c.args.name.now middle k w (ap (λ a. slice_cmp nat_cmp a c.args.name.now) name ∙ sym c.cmp.ensures ∙ c.in-Less.is) h;
      behind = c.loop-low.invariant.behind;
    }

pub returns-in-Equal : goal.returns-in-Equal
returns-in-Equal c =
    let names = names_of c.args.entries.now in
    let middle = c.loop-low.low + (c.loop-low.high - c.loop-low.low) / 2 in
    let w : middle < length c.args.order.now = omega (arith, c.loop-low-test.true, c.loop-low.invariant.within) in
    let within = place_within names c.args.order.now c.requires middle w in
    let name = entry_name c.args.entries.now (placed c.args.order.now middle) _ (omega (arith, within, length-map c.args.entries.now (λ e. e.name.now))) in
    place_from_order names c.args.order.now c.requires c.args.name.now middle w (name ∙ same_order _ _ (sym c.cmp.ensures ∙ c.in-Equal.is))

pub loop-low-preserved : goal.loop-low-preserved
loop-low-preserved c =
    let names = names_of c.args.entries.now in
    let middle = c.loop-low.low + (c.loop-low.high - c.loop-low.low) / 2 in
    let w : middle < length c.args.order.now = omega (arith, c.loop-low-test.true, c.loop-low.invariant.within) in
    let within = place_within names c.args.order.now c.requires middle w in
    let name = entry_name c.args.entries.now (placed c.args.order.now middle) _ (omega (arith, within, length-map c.args.entries.now (λ e. e.name.now))) in
    record {
      order = omega arith;
      within = omega (arith, w);
      before = c.loop-low.invariant.before;
      behind = λ k v h. not_above names c.args.order.now c.requires c.args.name.now middle k v (ap (λ a. slice_cmp nat_cmp a c.args.name.now) name ∙ sym c.cmp.ensures ∙ c.in-Greater.is) h;
    }

pub returns : goal.returns
returns c =
    nowhere_from_order (names_of c.args.entries.now) c.args.order.now c.requires c.args.name.now
    (λ k w. elim (cases_Bool (ltb k c.loop-low.low)) [
      | inl below ↦ c.loop-low.invariant.before k (ltb-true k c.loop-low.low below)
      | inr not ↦ c.loop-low.invariant.behind k w (omega (arith, ltb-false k c.loop-low.low not, c.loop-low-test.false))
    ])
