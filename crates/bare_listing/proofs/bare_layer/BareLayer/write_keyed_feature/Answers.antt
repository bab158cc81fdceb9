use Rattle.std.proofs.Common.{◌∙◌, ◌+◌, ◌++◌, List, Some, ap, drop, map, subst, sym, take}
use Rattle.layer_buckets.specs.Outcomes.{outcome_owned}
use Rattle.listing_text.specs.Listing.{feature_line, feature_margin, value_line, value_lines}
use Rattle.style_layout.specs.Forms.{Property}
use Rattle.bare_listing.specs.Given.{AreGivenBy, IsGiven, shown_values}
use Rattle.bare_listing.specs.SeenLayer.{feature_of, layer_in, property_in, scene_in, slots_in, sources_in}
use Rattle.bare_listing.proofs.OrderLaws.{each_left, each_taken, place_gives}
use Rattle.bare_listing.proofs.ValueLaws.{lines_in_parts}
use Rattle.bare_listing.proofs.bare_layer.BareLayer.write_keyed_feature.Goals as goal

pub write_values-requires : goal.write_values-requires
write_values-requires g c =
    let l = c.args.self.now in
    let scene = scene_in g.V.TextTests.tests l in
    let slots = slots_in g.E.CountedEvaluator.slots l in
    record {
      given = subst (λ (ps : List Property). AreGivenBy scene slots (sources_in l) ps)
          (sym (c.before-front.ensures l.at.now.layer ∙ ap (λ ps. take c.args.sort.now.place (map (property_in l) ps)) c.as_slice-properties.ensures.value))
          (each_taken (IsGiven scene slots (sources_in l)) c.args.sort.now.place (layer_in l).properties c.requires.given.values);
    }

pub write_values-requires-2 : goal.write_values-requires-2
write_values-requires-2 g c =
    let l = c.args.self.now in
    let scene = scene_in g.V.TextTests.tests l in
    let slots = slots_in g.E.CountedEvaluator.slots l in
    record {
      given = subst (λ (ps : List Property). AreGivenBy scene slots (sources_in l) ps)
          (sym (c.after-back.ensures l.at.now.layer ∙ ap (λ ps. drop (c.args.sort.now.place + 1) (map (property_in l) ps)) c.as_slice-properties.ensures.value))
          (each_left (IsGiven scene slots (sources_in l)) (c.args.sort.now.place + 1) (layer_in l).properties c.requires.given.values);
    }

pub returns-clause-lines : goal.returns-clause-lines
returns-clause-lines g c =
    let l = c.args.self.now in
    let scene = scene_in g.V.TextTests.tests l in
    let slots = slots_in g.E.CountedEvaluator.slots l in
    let sort = c.args.sort.now in
    let p = property_in l sort.property.now in
    let ps = (layer_in l).properties in
    let f = feature_of c.args.one.now in
    let value = outcome_owned c.args.one.now.value in
    let gives = place_gives scene slots (layer_in l) (sources_in l) sort.place p c.requires.given.values c.requires.sorts.place
    sort.source c.requires.sorts.source in
    let front = c.before-front.ensures l.at.now.layer ∙ ap (λ qs. take sort.place (map (property_in l) qs)) c.as_slice-properties.ensures.value in
    let back = c.after-back.ensures l.at.now.layer ∙ ap (λ qs. drop (sort.place + 1) (map (property_in l) qs)) c.as_slice-properties.ensures.value in
    let lines = λ (qs : List Property). value_lines feature_margin (shown_values scene (Some f) qs) in
    let o0 = c.args.out.now.items in
    let o1 = c.write_feature_line.new.out.items in
    let o2 = c.write_values.new.out.items in
    let o3 = c.write_evaluated.new.out.items in
    let o4 = c.write_values-2.new.out.items in
    lines_in_parts scene f feature_margin c.sum_of.result o0 o1 o2 o3 o4 (feature_line f.number f.feature.shape f.feature.id) ps sort.place p
    c.requires.sorts.place c.requires.sorts.own
    (c.in_ok-write_feature_line.ensures.ok ∙ ap (λ i. o0 ++ feature_line f.number f.feature.shape i) c.get.ensures)
    (c.in_ok-first.ensures.lines ∙ ap (λ qs. o1 ++ lines qs) front)
    (c.in_ok-write_evaluated.ensures ∙ ap (λ o. o2 ++ value_line feature_margin p.row.name o) (sym (gives.1 (Some f) value c.requires.keyed)))
    (c.in_ok-others.ensures.lines ∙ ap (λ qs. o3 ++ lines qs) back)
