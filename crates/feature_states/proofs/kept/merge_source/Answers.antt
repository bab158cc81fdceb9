-- The source has the layers that `merge_layer` left, and a source that was not there is new.
use Rattle.std.proofs.Common.{[], ap, ◌∙◌, rules, nat_eq, Some}
use Rattle.std.specs.Prelude.{◌&&◌, string_bytes, if◌then◌else◌}
use Rattle.indexmap.specs.IndexMap.{get_by_text}
use Rattle.std.specs.Str.{bytes_eq}
use Rattle.std.proofs.lemmas.Map.Text.{hash_map_updates_text}
use Rattle.std.proofs.lemmas.Result.{on_ok_weaker, on_err_weaker}
use Rattle.prop_values.specs.Changes.{merged}
use Rattle.feature_states.specs.Members.{members_in_layer}
use Rattle.feature_states.proofs.Levels.{changed, unchanged, seen, none_in_layer}
use Rattle.feature_states.proofs.kept.merge_source.Goals as goal

pub returns-in-Some-clause-ok : goal.returns-in-Some-clause-ok
returns-in-Some-clause-ok c =
    let left = c.merge_layer.new.layers in
    let after = c.get_mut.follows.lender left in
    on_ok_weaker c.merge_layer.result
    (λ ok s l i.
    changed (λ layers. members_in_layer layers l i) (bytes_eq c.args.layer.now l && nat_eq c.args.id i) (λ ms. merged ms c.args.members) [] (get_by_text c.args.sources.now) (get_by_text after) c.args.source.now left
    (ok l i ∙ ap (λ found. let ms = seen (λ layers. members_in_layer layers l i) [] found in if (bytes_eq c.args.layer.now l && nat_eq c.args.id i) then merged ms c.args.members else ms) c.in-Some.ensures.value)
    (λ q. hash_map_updates_text c.args.source.now c.args.sources.now after (Some left) ((c.get_mut.follows.holds left).3 (search rules)) q) s)
    c.merge_layer.ensures.ok

pub returns-in-Some-clause-err : goal.returns-in-Some-clause-err
returns-in-Some-clause-err c =
    let left = c.merge_layer.new.layers in
    let after = c.get_mut.follows.lender left in
    on_err_weaker c.merge_layer.result
    (λ err s l i.
    unchanged (λ layers. members_in_layer layers l i) [] (get_by_text c.args.sources.now) (get_by_text after) c.args.source.now left
    (err l i ∙ ap (seen (λ layers. members_in_layer layers l i) []) c.in-Some.ensures.value)
    (λ q. hash_map_updates_text c.args.source.now c.args.sources.now after (Some left) ((c.get_mut.follows.holds left).3 (search rules)) q) s)
    c.merge_layer.ensures.err

pub returns-in-Ok-clause-ok : goal.returns-in-Ok-clause-ok
returns-in-Ok-clause-ok c = λ s l i.
    let new = c.merge_layer-in-None.new.layers in
    changed (λ layers. members_in_layer layers l i) (bytes_eq c.args.layer.now l && nat_eq c.args.id i) (λ ms. merged ms c.args.members) [] (get_by_text c.args.sources.now) (get_by_text c.insert.new.self) c.args.source.now new
    (c.in_ok-merge_layer-in-None.ensures.ok l i ∙
    (ap (λ ms. if (bytes_eq c.args.layer.now l && nat_eq c.args.id i) then merged ms c.args.members else ms) (none_in_layer c.new-layers.result l i c.new-layers.ensures.empty) ∙
    ap (λ found. let ms = seen (λ layers. members_in_layer layers l i) [] found in if (bytes_eq c.args.layer.now l && nat_eq c.args.id i) then merged ms c.args.members else ms) c.in-None.ensures.value))
    (λ q. hash_map_updates_text (string_bytes c.in_ok-from_str-in-None.field-0) c.get_mut.follows.lender-at-none c.insert.new.self (Some new) c.in-Ok.ensures.updates q ∙
    (ap (λ name. if bytes_eq name q then Some new else get_by_text c.get_mut.follows.lender-at-none q) c.in_ok-from_str-in-None.ensures.ok ∙ ap (λ kept. if bytes_eq c.args.source.now q then Some new else get_by_text kept q) c.get_mut.follows.holds-at-none))
    s
