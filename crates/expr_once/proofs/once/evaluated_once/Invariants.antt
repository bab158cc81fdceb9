use Rattle.expr_once.proofs.once.evaluated_once.Given as goal

abbrev pub ghosts-evaluated_in : goal.ghosts-evaluated_in
ghosts-evaluated_in g a = record { name = a.blank.name; parts = a.blank.parts }
