use Rattle.std.proofs.Common.{[], ◌∷◌, ◌++◌, rules, append_assoc}
use Rattle.std.specs.Prelude.{codes}
use Rattle.prop_values.specs.ValueText.{listed_text}
use Rattle.prop_values.specs.View.{data_of}
use Rattle.prop_values.specs.declared.outcome.Outcome.TheVariants.{Given}
use Rattle.listing_text.specs.Listing.{line, value_line}
use Rattle.listing_text.proofs.Appending.{err_first, err_between, err_last}
use Rattle.listing_text.proofs.writing.write_given.Goals as goal

pub returns-in_err-write_front-clause-err : goal.returns-in_err-write_front-clause-err
returns-in_err-write_front-clause-err c =
    err_first _ _ _ _ (line (listed_text (data_of c.args.value.now) ∷ [])) (value_line c.args.margin.now c.args.name.now (Given c.args.value.now))
    c.in_err-write_front.ensures.err (search (rules, append_assoc))

pub returns-in_err-write_value_text-clause-err : goal.returns-in_err-write_value_text-clause-err
returns-in_err-write_value_text-clause-err c =
    err_between _ _ _ _ _ _ (line []) (value_line c.args.margin.now c.args.name.now (Given c.args.value.now))
    c.in_ok-write_front.ensures.ok c.in_err-write_value_text.ensures.err (search (rules, append_assoc))

pub returns-clause-err : goal.returns-clause-err
returns-clause-err c =
    err_last _ _ _ _ (c.args.margin.now ++ (c.args.name.now ++ (codes " " ++ listed_text (data_of c.args.value.now)))) _
    (value_line c.args.margin.now c.args.name.now (Given c.args.value.now))
    (search (rules, append_assoc)) c.write_part.ensures.err (search (rules, append_assoc))
