use Rattle.listing_text.specs.Parts.{number_line}
use Rattle.listing_text.proofs.Appending.{err_only}
use Rattle.listing_text.proofs.writing.write_number_line.Goals as goal

pub returns-clause-err : goal.returns-clause-err
returns-clause-err c =
    err_only _ _ _ _ (number_line c.args.margin.now c.args.name.now c.args.number) c.extend_from_slice.ensures.items
