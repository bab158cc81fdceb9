use Rattle.std.proofs.Common.{ap, ◌∙◌, set}
use Rattle.std.proofs.lemmas.List.{map-set}
use Rattle.decimal_json.specs.View.{tree_of, items_view}
use Rattle.decimal_json.proofs.tree.Items.replace.Goals as goal

pub returns-clause-put : goal.returns-clause-put
returns-clause-put c =
    let items = c.self.inside.items.items in
    map-set tree_of items c.args.place c.replace.new.dest ∙
    (ap (λ x. set (items_view items) c.args.place (tree_of x)) c.replace.ensures.after ∙ ap (λ ts. set ts c.args.place (tree_of c.args.item)) c.self.view_is)
