use Rattle.std.proofs.Common.{◌≡◌, ◌++◌, drop, flat_map}
use Rattle.style_program.specs.SimplifyRun.{never_line}
use Rattle.style_program.proofs.simplify_command.write_never.Given as goal

abbrev pub invariant-loop-path : goal.invariant-loop-path
invariant-loop-path l =
    l.out.items ++ flat_map never_line (drop l.path-index l.paths) ≡ l.fn.out.items ++ flat_map never_line l.paths
