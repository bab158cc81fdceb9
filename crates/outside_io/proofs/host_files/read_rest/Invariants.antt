use Rattle.std.proofs.Common.{◌≡◌, ◌-◌, ◌≤◌, vec_len}
use Rattle.std.specs.Io.KnownBytes.{Consumes}
use Rattle.outside_io.specs.Counts.{raised_by}
use Rattle.outside_io.proofs.host_files.read_rest.Given as goal

abbrev pub invariant-loop-into : goal.invariant-loop-into
invariant-loop-into g l = record {
  within : vec_len l.into ≤ l.at_most;
  counted : l.taken ≡ raised_by (vec_len l.into) l.fn.taken;
  risen : l.fn.taken ≤ l.taken;
  read : Consumes (g.F.Read.remaining l.fn.file) (g.F.Read.remaining l.file) l.into.items;
}

abbrev pub decreases-loop-into : goal.decreases-loop-into
decreases-loop-into g l = l.at_most - vec_len l.into
