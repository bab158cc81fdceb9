use Rattle.std.proofs.Common.{subst}
use Rattle.decimal_json.specs.Parsed.{Parses}
use Rattle.lint_runs.proofs.FileLines.{broken_linted, document_linted}
use Rattle.lint_runs.proofs.one_style.lint_bytes.Goals as goal

pub returns-in-Ok : goal.returns-in-Ok
returns-in-Ok c =
    document_linted c.args.form c.args.file.now c.args.bytes.now c.in-Ok.document c.lint_document.result
    (subst (λ r. Parses c.args.bytes.now r) c.in-Ok.is c.in_ok-document.ensures) c.lint_document.ensures

pub returns-in-Err : goal.returns-in-Err
returns-in-Err c =
    broken_linted c.args.form c.args.file.now c.args.bytes.now c.in-Err.fault c.lint_broken_text.result
    (subst (λ r. Parses c.args.bytes.now r) c.in-Err.is c.in_ok-document.ensures) c.lint_broken_text.ensures
