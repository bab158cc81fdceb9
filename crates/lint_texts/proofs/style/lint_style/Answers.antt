use Rattle.std.proofs.Common.{arith, subst}
use Rattle.decimal_json.specs.Parsed.{Parses}
use Rattle.lint_texts.specs.LintedStyle.{linted_seen}
use Rattle.lint_texts.proofs.LineLaws.{broken_is}
use Rattle.lint_texts.proofs.style.lint_style.Goals as goal

pub returns-in-Err : goal.returns-in-Err
returns-in-Err c =
    let parsed = subst (λ r. Parses c.args.bytes.now r) c.in-Err.is c.in_ok-document.ensures in
    broken_is c.lint_broken_text.result linted_seen c.args.form c.args.file.now c.args.bytes.now c.in-Err.fault.kind c.in-Err.fault.at
    (omega (arith, c.if-bytes-gt-STYLE_LIMIT.false)) parsed.0 parsed.1 parsed.2 c.lint_broken_text.ensures
