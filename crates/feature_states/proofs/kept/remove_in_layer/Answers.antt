-- The layer has the ids that `remove_id` left.
use Rattle.std.proofs.Common.{[], ap, ◌∙◌, rules, nat_eq, Some}
use Rattle.std.specs.Prelude.{option_map, if◌then◌else◌}
use Rattle.indexmap.specs.IndexMap.{get_by_text}
use Rattle.std.proofs.lemmas.Map.Text.{hash_map_updates_text}
use Rattle.feature_states.specs.Features.{left_of}
use Rattle.feature_states.specs.Members.{members_of_id}
use Rattle.feature_states.proofs.Levels.{changed, seen}
use Rattle.feature_states.proofs.kept.remove_in_layer.Goals as goal

pub returns-in-Some : goal.returns-in-Some
returns-in-Some c = λ l i.
    let after = c.get_mut.follows.lender c.remove_id.new.ids in
    changed (λ ids. members_of_id ids i) (nat_eq c.args.id i) (left_of (option_map (λ k. k.now) c.args.key)) [] (get_by_text c.args.layers.now) (get_by_text after) c.args.layer.now c.remove_id.new.ids
    (c.remove_id.ensures i ∙ ap (λ found. let ms = seen (λ ids. members_of_id ids i) [] found in if nat_eq c.args.id i then left_of (option_map (λ k. k.now) c.args.key) ms else ms) c.in-Some.ensures.value)
    (λ q. hash_map_updates_text c.args.layer.now c.args.layers.now after (Some c.remove_id.new.ids) ((c.get_mut.follows.holds c.remove_id.new.ids).3 (search rules)) q) l
