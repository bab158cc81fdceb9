use Rattle.std.proofs.Common.{rules, ◌≡◌, ◌∙◌, ap, length, map}
use Rattle.std.proofs.lemmas.Fn.{filter_same}
use Rattle.std.proofs.lemmas.List.{length-map, with_items_is}
use Rattle.noted_places.specs.Places.{after_remove, places_in, without_place}
use Rattle.noted_places.proofs.places.NotedPlaces.follow_remove.Goals as goal

pub returns : goal.returns
returns c =
    let follows = after_remove c.args.place in
    let left = c.retain.new.self in
    let places = c.as_mut_slice.result.now in
    let kept : left.items ≡ without_place c.args.place (places_in c.args.self.now) = filter_same _ _ _ (λ x b f' k. search rules) _ _ c.retain.ensures.filtered in
    with_items_is left c.remove_one.new.places (ap length c.remove_one.ensures ∙ (length-map places follows ∙ c.as_mut_slice.ensures.len))
    ∙ (c.remove_one.ensures ∙ ap (map follows) (c.as_mut_slice.ensures.value ∙ kept))
