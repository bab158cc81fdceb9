use Rattle.std.proofs.Common.{ap, ◌∙◌}
use Rattle.std.specs.Prelude.{insert}
use Rattle.decimal_json.specs.View.{tree_of, items_view}
use Rattle.decimal_json.proofs.Edits.{map_insert}
use Rattle.decimal_json.proofs.tree.Items.insert.Goals as goal

pub returns-clause-ok : goal.returns-clause-ok
returns-clause-ok c =
    ap items_view c.in-Ok.ensures.items ∙ (map_insert tree_of c.self.inside.items.items c.args.place c.args.item ∙ ap (λ ts. insert ts c.args.place (tree_of c.args.item)) c.self.view_is)
