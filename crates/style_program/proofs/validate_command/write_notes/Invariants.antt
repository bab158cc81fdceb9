use Rattle.std.proofs.Common.{◌≡◌, ◌++◌, drop, flat_map}
use Rattle.style_program.specs.ValidateRun.{note_line}
use Rattle.style_program.proofs.validate_command.write_notes.Given as goal

abbrev pub invariant-loop-path : goal.invariant-loop-path
invariant-loop-path l =
    l.out.items ++ flat_map note_line (drop l.path-index l.paths) ≡ l.fn.out.items ++ flat_map note_line l.paths
