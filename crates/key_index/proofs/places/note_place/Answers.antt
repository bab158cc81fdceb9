use Rattle.std.proofs.Common.{ap, ◌∙◌, Some, if◌then◌else◌}
use Rattle.std.specs.Prelude.{string_bytes}
use Rattle.std.specs.BTreeMap.{get_by_text}
use Rattle.std.specs.Str.{bytes_eq}
use Rattle.std.proofs.lemmas.Map.Text.{btree_map_updates_text}
use Rattle.key_index.proofs.places.note_place.Goals as goal

pub returns-clause-ok : goal.returns-clause-ok
returns-clause-ok c = λ q.
    btree_map_updates_text (string_bytes c.in_ok-name.name) c.args.places.now c.insert.new.self (Some c.args.place) c.in-Ok.ensures.updates q ∙
    ap (λ name. if bytes_eq name q then Some c.args.place else get_by_text c.args.places.now q) c.in_ok-name.ensures.ok
