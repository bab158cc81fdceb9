use Rattle.std.proofs.Common.{◌≡◌, map, string_bytes}
use Rattle.program_runs.specs.declared.status.Status.TheVariants.{Found}
use Rattle.style_program.specs.Commands.{run_of}
use Rattle.style_program.specs.ListedFaults.{ListsItsFault}
use Rattle.style_program.specs.Promises.{KeepsPromises, outside}
use Rattle.style_program.specs.Words.{asked}
use Rattle.style_program.proofs.Moved.{moved}
use Rattle.style_program.proofs.top.run_style.Goals as goal

pub returns-clause-promises : goal.returns-clause-promises
returns-clause-promises g c = moved
    (λ p q. KeepsPromises (g.F.Files.told c.args.files.now)
    (run_of ((goal.HostOp-dyn g p).test p.1) ((goal.HostOp-dyn g q).test q.1) ((goal.HostOp-dyn g p).changes p.1) (map string_bytes c.args.words.now))
    c.run_words.result
    (outside (g.F.Files.faults c.args.files.now) (g.F.Files.failed c.args.files.now) (g.F.Files.asked c.args.files.now) (g.O.Sink.held c.args.out.now)
    (g.O.Sink.faults c.args.out.now) (g.E.Sink.held c.args.err.now) (g.E.Sink.faults c.args.err.now) c.args.steps.now)
    (outside (g.F.Files.faults c.run_words.new.files) (g.F.Files.failed c.run_words.new.files) (g.F.Files.asked c.run_words.new.files) (g.O.Sink.held c.run_words.new.out)
    (g.O.Sink.faults c.run_words.new.out) (g.E.Sink.held c.run_words.new.err) (g.E.Sink.faults c.run_words.new.err) c.run_words.new.steps)
    (c.run_words.new.files ≡ c.args.files.now))
    c.deref_box_mut-1.ensures.value.1 c.deref_box-1.ensures.1 c.run_words.ensures.promises

pub returns-clause-listed : goal.returns-clause-listed
returns-clause-listed g c = moved
    (λ p q. c.run_words.result ≡ Found → ListsItsFault ((goal.HostOp-dyn g p).test p.1) ((goal.HostOp-dyn g q).test q.1) (asked (map string_bytes c.args.words.now)))
    c.deref_box_mut-1.ensures.value.1 c.deref_box-1.ensures.1 c.run_words.ensures.listed
