use Rattle.std.proofs.Common.{refl, inl}
use Rattle.decimal_json.specs.View.{tree_of}
use Rattle.program_runs.specs.declared.halt.RunHalt.TheVariants.{Stopped}
use Rattle.program_runs.specs.declared.halt.RunStop.TheVariants.{NoMemory}
use Rattle.program_runs.specs.Parts.{json_part}
use Rattle.program_runs.specs.Progress.{Halts}
use Rattle.program_runs.specs.Refusals.{too_long}
use Rattle.program_runs.specs.Runs.{reads, parses}
use Rattle.program_runs.specs.Subjects.{subject_text, subject_number}
use Rattle.program_runs.proofs.Going.{halts_first, goes_both, halts_second, at_residual}
use Rattle.program_runs.proofs.reading.read_json.Goals as goal

pub returns-clause-on : goal.returns-clause-on
returns-clause-on g c =
    let files = g.F.Files.told c.args.files.now in let what = subject_text c.args.what.now in let which = subject_number c.args.what.now in
    goes_both files (reads (too_long what which) c.args.name.now c.args.at_most) (parses what) _ _ c.in_ok-bytes.bytes.items c.in_ok-bytes.bytes.items c.in_ok-bytes.ensures.on refl files refl _ tree_of c.json_or_refusal.result
    (c.json_or_refusal.ensures.on files _ _ c.in_ok-parse_owned.ensures)

pub returns-clause-halt : goal.returns-clause-halt
returns-clause-halt g c =
    let files = g.F.Files.told c.args.files.now in let what = subject_text c.args.what.now in let which = subject_number c.args.what.now in
    halts_second files (reads (too_long what which) c.args.name.now c.args.at_most) (parses what) _ _ c.in_ok-bytes.bytes.items c.in_ok-bytes.bytes.items c.in_ok-bytes.ensures.on refl files refl _ _ _ _ _ _ _ c.json_or_refusal.result
    c.in_ok-bytes.ensures.failed (c.json_or_refusal.ensures.halt files _ _ _ _ c.in_ok-parse_owned.ensures)

pub returns-in_err-bytes-clause-halt : goal.returns-in_err-bytes-clause-halt
returns-in_err-bytes-clause-halt g c =
    let files = g.F.Files.told c.args.files.now in let what = subject_text c.args.what.now in let which = subject_number c.args.what.now in
    at_residual (λ h. Halts files (json_part what which c.args.name.now c.args.at_most) _ _ _ _ _ _ h) c.in_err-bytes.field-0.0 c.from_residual.result c.from_residual.ensures.1
    (halts_first files (reads (too_long what which) c.args.name.now c.args.at_most) (parses what) _ _ _ _ _ _ c.in_err-bytes.field-0.0 c.in_err-bytes.ensures.halt)

-- the file was read, and its tree does not fit into memory
pub returns-in_err-parse_owned-clause-halt : goal.returns-in_err-parse_owned-clause-halt
returns-in_err-parse_owned-clause-halt g c =
    let files = g.F.Files.told c.args.files.now in let what = subject_text c.args.what.now in let which = subject_number c.args.what.now in
    at_residual (λ h. Halts files (json_part what which c.args.name.now c.args.at_most) _ _ _ _ _ _ h) (Stopped NoMemory) c.from_residual-in_err-parse_owned.result
    c.from_residual-in_err-parse_owned.ensures.1
    (λ k. (c.in_ok-bytes.ensures.failed, (c.in_ok-bytes.ensures.on (λ bytes. parses what bytes k)).reads _ (inl refl)))
