use Rattle.std.proofs.Common.{[], ◌∷◌, ◌++◌, rules, append_assoc}
use Rattle.std.specs.Prelude.{codes}
use Rattle.listing_text.specs.Listing.{line, outcome_text, value_line}
use Rattle.listing_text.proofs.Appending.{err_first, err_between, err_last}
use Rattle.listing_text.proofs.writing.write_value.Goals as goal

pub returns-in_err-write_front-clause-err : goal.returns-in_err-write_front-clause-err
returns-in_err-write_front-clause-err c =
    err_first _ _ _ _ (line (outcome_text c.args.outcome.now ∷ [])) (value_line c.args.margin.now c.args.name.now c.args.outcome.now)
    c.in_err-write_front.ensures.err (search (rules, append_assoc))

pub returns-in_err-write_outcome-clause-err : goal.returns-in_err-write_outcome-clause-err
returns-in_err-write_outcome-clause-err c =
    err_between _ _ _ _ _ _ (line []) (value_line c.args.margin.now c.args.name.now c.args.outcome.now)
    c.in_ok-write_front.ensures.ok c.in_err-write_outcome.ensures.err (search (rules, append_assoc))

pub returns-clause-err : goal.returns-clause-err
returns-clause-err c =
    err_last _ _ _ _ (c.args.margin.now ++ (c.args.name.now ++ (codes " " ++ outcome_text c.args.outcome.now))) _ (value_line c.args.margin.now c.args.name.now c.args.outcome.now)
    (search (rules, append_assoc)) c.write_part.ensures.err (search (rules, append_assoc))
