use Rattle.std.proofs.Common.{◌∙◌, Some, refl, ap, if◌then◌else◌}
use Rattle.layer_buckets.specs.LaidOut.{column_of}
use Rattle.layer_buckets.proofs.ItemLaws.{is_item_same}
use Rattle.layer_buckets.proofs.AddLaws.{shown_views, table_views, named_table_by, named_shown_by, stay_seen_table, stay_seen_shown}
use Rattle.layer_buckets.proofs.table.CellTable.new_column.Goals as goal

pub returns-in_err-make_item-clause-table : goal.returns-in_err-make_item-clause-table
returns-in_err-make_item-clause-table c = table_views c.args.self.now c.make_item.new.layers c.make_item.ensures.columns c.make_item.ensures.stay c.requires.table

pub returns-in_err-make_item-clause-shown : goal.returns-in_err-make_item-clause-shown
returns-in_err-make_item-clause-shown c = shown_views c.args.self.now c.make_item.new.layers c.make_item.ensures.columns c.make_item.ensures.stay

pub returns-in_err-add_column-clause-table : goal.returns-in_err-add_column-clause-table
returns-in_err-add_column-clause-table c = stay_seen_table c.args.self.now c.make_item.new.layers c.add_column.new.self c.make_item.ensures.columns c.make_item.ensures.stay c.requires.table c.add_column.ensures.keeping c.add_column.ensures.listed c.in_err-add_column.ensures.err c.add_column.ensures.states

pub returns-in_err-add_column-clause-shown : goal.returns-in_err-add_column-clause-shown
returns-in_err-add_column-clause-shown c = stay_seen_shown c.args.self.now c.make_item.new.layers c.add_column.new.self c.make_item.ensures.columns c.make_item.ensures.stay c.add_column.ensures.kept_outcome c.in_err-add_column.ensures.err

pub returns-clause-table : goal.returns-clause-table
returns-clause-table c = named_table_by c.args.self.now c.make_item.new.layers c.name_column.new.layers c.add_column.new.self c.args.layer c.args.item c.requires.table c.requires.none c.make_item.ensures.columns c.make_item.ensures.stay c.name_column.ensures.columns c.name_column.ensures.stay c.in_ok-add_column.ensures.ok c.add_column.ensures.keeping c.add_column.ensures.listed c.add_column.ensures.states c.in_ok-add_column.ensures.more

pub returns-clause-shown : goal.returns-clause-shown
returns-clause-shown c = named_shown_by c.args.self.now c.make_item.new.layers c.name_column.new.layers c.add_column.new.self c.args.layer c.args.item c.requires.table c.requires.none c.make_item.ensures.columns c.make_item.ensures.stay c.name_column.ensures.columns c.name_column.ensures.stay c.in_ok-add_column.ensures.ok c.add_column.ensures.kept_outcome

pub returns-clause-ok : goal.returns-clause-ok
returns-clause-ok c = c.name_column.ensures.columns c.args.layer c.args.item ∙ ap (λ b. if b then Some c.args.self.now.cells.lists.item_lists else column_of c.make_item.new.layers.items c.args.layer c.args.item) (is_item_same c.args.layer c.args.layer c.args.item c.args.item refl refl)
