-- The source has the layers that `remove_in_layer` left.
use Rattle.std.proofs.Common.{[], ap, ◌∙◌, rules, nat_eq, Some}
use Rattle.std.specs.Prelude.{◌&&◌, option_map, if◌then◌else◌}
use Rattle.indexmap.specs.IndexMap.{get_by_text}
use Rattle.std.specs.Str.{bytes_eq}
use Rattle.std.proofs.lemmas.Map.Text.{hash_map_updates_text}
use Rattle.feature_states.specs.Features.{left_of}
use Rattle.feature_states.specs.Members.{members_in_layer}
use Rattle.feature_states.proofs.Levels.{changed, seen}
use Rattle.feature_states.proofs.kept.remove_in_source.Goals as goal

pub returns-in-Some : goal.returns-in-Some
returns-in-Some c = λ s l i.
    let left = c.remove_in_layer.new.layers in
    let after = c.get_mut.follows.lender left in
    changed (λ layers. members_in_layer layers l i) (bytes_eq c.args.layer.now l && nat_eq c.args.id i) (left_of (option_map (λ k. k.now) c.args.key)) [] (get_by_text c.args.sources.now) (get_by_text after) c.args.source.now left
    (c.remove_in_layer.ensures l i ∙ ap (λ found. let ms = seen (λ layers. members_in_layer layers l i) [] found in if bytes_eq c.args.layer.now l && nat_eq c.args.id i then left_of (option_map (λ k. k.now) c.args.key) ms else ms) c.in-Some.ensures.value)
    (λ q. hash_map_updates_text c.args.source.now c.args.sources.now after (Some left) ((c.get_mut.follows.holds left).3 (search rules)) q) s
