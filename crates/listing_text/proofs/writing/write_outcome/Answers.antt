use Rattle.std.proofs.Common.{◌++◌, rules}
use Rattle.std.specs.Prelude.{codes}
use Rattle.prop_values.specs.ValueText.{listed_text}
use Rattle.prop_values.specs.View.{data_of}
use Rattle.prop_values.specs.Faults.{fault_name}
use Rattle.listing_text.specs.Listing.{outcome_text}
use Rattle.listing_text.proofs.Appending.{err_first, err_last}
use Rattle.listing_text.proofs.writing.write_outcome.Goals as goal

pub returns-in_err-write_value_text-in-Faulted-Some-default-clause-err :
    goal.returns-in_err-write_value_text-in-Faulted-Some-default-clause-err
returns-in_err-write_value_text-in-Faulted-Some-default-clause-err c =
    let arm = c.in-Faulted-Some-default in
    err_first _ _ _ (listed_text (data_of arm.value)) (codes "!" ++ fault_name arm.fault) (outcome_text c.args.outcome.now)
    c.in_err-write_value_text-in-Faulted-Some-default.ensures.err (search rules)

pub returns-in_ok-write_value_text-in-Faulted-Some-default-clause-err :
    goal.returns-in_ok-write_value_text-in-Faulted-Some-default-clause-err
returns-in_ok-write_value_text-in-Faulted-Some-default-clause-err c =
    let arm = c.in-Faulted-Some-default in
    err_last _ _ _ _ (listed_text (data_of arm.value)) _ (outcome_text c.args.outcome.now)
    c.in_ok-write_value_text-in-Faulted-Some-default.ensures.ok c.write_parts-in-Faulted-Some-default.ensures.err (search rules)
