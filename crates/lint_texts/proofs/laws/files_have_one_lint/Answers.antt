use Rattle.lint_texts.proofs.OneLint.{one_lint}
use Rattle.lint_texts.proofs.laws.files_have_one_lint.Goals as goal

pub returns : goal.returns
returns c = one_lint c.spells_one_tree.ensures c.texts_have_one_fault.ensures
