use Rattle.std.proofs.Common.{◌≡◌, ◌∙◌, None, ap}
use Rattle.std.specs.Prelude.{codes, option_map, is_some}
use Rattle.decimal_json.specs.Tree.{fields_of, field_at}
use Rattle.legacy_functions.specs.Form.{is_zoomed, is_outside_way, way_by}
use Rattle.legacy_functions.specs.FoundView.{way_inside, way_kept, way_seen_for}
use Rattle.legacy_functions.specs.Parts.{spelled_seen, output_seen}
use Rattle.legacy_functions.specs.View.{body_seen}
use Rattle.legacy_functions.proofs.StopLists.{outside_none}
use Rattle.legacy_functions.proofs.reading.inside.Goals as goal

pub returns-in-None-clause-function : goal.returns-in-None-clause-function
returns-in-None-clause-function c =
    let found = c.args.found in
    let base = option_map spelled_seen found.base in
    let body = body_seen (way_seen_for found) c.args.body in
    let outside : None ≡ way_inside found.kind base (is_zoomed body) = c.in-None.ensures ∙ ap (λ z. way_inside found.kind base z) (c.is_zoomed.ensures (way_seen_for found)) in
    outside_none (is_some (field_at (codes "colorSpace") (fields_of c.args.members.now))) (is_outside_way (way_by found.kind base) (is_zoomed body)) (way_kept found.kind base)
    (record { property = found.property; fallback = option_map output_seen found.fallback; body = body }) outside
