use Rattle.format_text.proofs.SectionTrees.{one_list}
use Rattle.format_text.proofs.laws.texts_are_of_one_list.Goals as goal

pub returns : goal.returns
returns c = one_list c.written_numbers_are_read.ensures c.json_numbers_are_read.ensures.only c.written_trees_are_spelled.ensures c.spells_one_tree.ensures
