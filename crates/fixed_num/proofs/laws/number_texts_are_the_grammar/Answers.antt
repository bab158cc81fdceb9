use Rattle.fixed_num.proofs.Grammar.{read_text-grammar, grammar_is_read, read_text_has_parts}
use Rattle.fixed_num.proofs.laws.number_texts_are_the_grammar.Goals as goal

pub returns-clause-read : goal.returns-clause-read
returns-clause-read c = read_text-grammar

pub returns-clause-accepted : goal.returns-clause-accepted
returns-clause-accepted c = grammar_is_read

pub returns-clause-only : goal.returns-clause-only
returns-clause-only c = read_text_has_parts
