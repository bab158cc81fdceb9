-- The layer has the ids that `merge_id` left, and a layer that was not there is new.
use Rattle.std.proofs.Common.{[], ap, ◌∙◌, rules, nat_eq, Some}
use Rattle.std.specs.Prelude.{string_bytes, if◌then◌else◌}
use Rattle.indexmap.specs.IndexMap.{get_by_text}
use Rattle.std.specs.Str.{bytes_eq}
use Rattle.std.proofs.lemmas.Map.Text.{hash_map_updates_text}
use Rattle.std.proofs.lemmas.Result.{on_ok_weaker, on_err_weaker}
use Rattle.prop_values.specs.Changes.{merged}
use Rattle.feature_states.specs.Members.{members_of_id}
use Rattle.feature_states.proofs.Levels.{changed, unchanged, seen, none_of_id}
use Rattle.feature_states.proofs.kept.merge_layer.Goals as goal

pub returns-in-Some-clause-ok : goal.returns-in-Some-clause-ok
returns-in-Some-clause-ok c =
    let left = c.merge_id.new.ids in
    let after = c.get_mut.follows.lender left in
    on_ok_weaker c.merge_id.result
    (λ ok l i.
    changed (λ ids. members_of_id ids i) (nat_eq c.args.id i) (λ ms. merged ms c.args.members) [] (get_by_text c.args.layers.now) (get_by_text after) c.args.layer.now left
    (ok i ∙ ap (λ found. let ms = seen (λ ids. members_of_id ids i) [] found in if (nat_eq c.args.id i) then merged ms c.args.members else ms) c.in-Some.ensures.value)
    (λ q. hash_map_updates_text c.args.layer.now c.args.layers.now after (Some left) ((c.get_mut.follows.holds left).3 (search rules)) q) l)
    c.merge_id.ensures.ok

pub returns-in-Some-clause-err : goal.returns-in-Some-clause-err
returns-in-Some-clause-err c =
    let left = c.merge_id.new.ids in
    let after = c.get_mut.follows.lender left in
    on_err_weaker c.merge_id.result
    (λ err l i.
    unchanged (λ ids. members_of_id ids i) [] (get_by_text c.args.layers.now) (get_by_text after) c.args.layer.now left
    (err i ∙ ap (seen (λ ids. members_of_id ids i) []) c.in-Some.ensures.value)
    (λ q. hash_map_updates_text c.args.layer.now c.args.layers.now after (Some left) ((c.get_mut.follows.holds left).3 (search rules)) q) l)
    c.merge_id.ensures.err

pub returns-in-Ok-clause-ok : goal.returns-in-Ok-clause-ok
returns-in-Ok-clause-ok c = λ l i.
    let new = c.merge_id-in-None.new.ids in
    changed (λ ids. members_of_id ids i) (nat_eq c.args.id i) (λ ms. merged ms c.args.members) [] (get_by_text c.args.layers.now) (get_by_text c.insert.new.self) c.args.layer.now new
    (c.in_ok-merge_id-in-None.ensures.ok i ∙
    (ap (λ ms. if (nat_eq c.args.id i) then merged ms c.args.members else ms) (none_of_id c.new-ids.result i c.new-ids.ensures.empty) ∙
    ap (λ found. let ms = seen (λ ids. members_of_id ids i) [] found in if (nat_eq c.args.id i) then merged ms c.args.members else ms) c.in-None.ensures.value))
    (λ q. hash_map_updates_text (string_bytes c.in_ok-from_str-in-None.field-0) c.get_mut.follows.lender-at-none c.insert.new.self (Some new) c.in-Ok.ensures.updates q ∙
    (ap (λ name. if bytes_eq name q then Some new else get_by_text c.get_mut.follows.lender-at-none q) c.in_ok-from_str-in-None.ensures.ok ∙ ap (λ kept. if bytes_eq c.args.layer.now q then Some new else get_by_text kept q) c.get_mut.follows.holds-at-none))
    l
