use Rattle.std.proofs.Common.{ap, ◌∙◌}
use Rattle.std.specs.Prelude.{remove}
use Rattle.decimal_json.specs.View.{tree_of, items_view}
use Rattle.decimal_json.proofs.Edits.{map_remove}
use Rattle.decimal_json.proofs.tree.Items.remove.Goals as goal

pub returns-clause-left : goal.returns-clause-left
returns-clause-left c =
    ap items_view c.remove.ensures.items ∙ (map_remove tree_of c.self.inside.items.items c.args.place ∙ ap (λ ts. remove ts c.args.place) c.self.view_is)
