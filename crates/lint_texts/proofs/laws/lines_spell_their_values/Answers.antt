use Rattle.lint_texts.proofs.PlaceLaws.{lines_spell}
use Rattle.lint_texts.proofs.laws.lines_spell_their_values.Goals as goal

pub returns : goal.returns
returns c = lines_spell c.places_spell_their_values.ensures
