use Rattle.std.proofs.Common.{map, refl, string_bytes, arith}
use Rattle.program_runs.proofs.Asked.{none_asked}
use Rattle.program_runs.proofs.Counting.{no_steps}
use Rattle.style_program.specs.Commands.{run_of}
use Rattle.style_program.proofs.top.prepared.Goals as goal

pub returns-in_default-clause-stop : goal.returns-in_default-clause-stop
returns-in_default-clause-stop g c =
    let images = (goal.HostOp-dyn g c.args.images.now).test c.args.images.now.1 in
    let scripts = (goal.HostOp-dyn g c.args.scripts.now).test c.args.scripts.now.1 in
    let can_change = (goal.HostOp-dyn g c.args.images.now).changes c.args.images.now.1 in
    let run = run_of images scripts can_change (map string_bytes c.args.words.now) in
    ((refl, refl), none_asked (g.F.Files.told c.args.files.now) run (g.F.Files.asked c.args.files.now))

pub returns-in_default-clause-due : goal.returns-in_default-clause-due
returns-in_default-clause-due g c =
    let images = (goal.HostOp-dyn g c.args.images.now).test c.args.images.now.1 in
    let scripts = (goal.HostOp-dyn g c.args.scripts.now).test c.args.scripts.now.1 in
    let can_change = (goal.HostOp-dyn g c.args.images.now).changes c.args.images.now.1 in
    let files = g.F.Files.told c.args.files.now in
    let asked = g.F.Files.asked c.args.files.now in
    let run = run_of images scripts can_change (map string_bytes c.args.words.now) in
    no_steps files run asked asked _ _ (none_asked files run asked) (omega arith)
