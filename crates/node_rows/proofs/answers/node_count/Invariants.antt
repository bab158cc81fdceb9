use Rattle.node_rows.proofs.answers.node_count.Given as goal

abbrev pub ghosts-answer : goal.ghosts-answer
ghosts-answer a = record { name = a.blank.name; parts = a.blank.parts }

abbrev pub ghosts-answer-2 : goal.ghosts-answer-2
ghosts-answer-2 a = record { name = a.blank.name; parts = a.blank.parts }
