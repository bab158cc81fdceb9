-- No words have two outcomes, since no run has.
use Rattle.program_runs.proofs.RunLaws.{one_outcome as one_of_run}
use Rattle.style_program.specs.Commands.{run_of}
use Rattle.style_program.specs.OneOutcome.{EachHasOneOutcome}

pub one_outcome : EachHasOneOutcome
one_outcome files images scripts can_change ws before after others o p told d e = one_of_run files (run_of images scripts can_change ws) told before after others o p d e
