use Rattle.std.proofs.Common.{◌≡◌, ◌++◌, OnOk, subst, sym}
use Rattle.decimal_json.specs.View.{tree_of}
use Rattle.lint_texts.specs.DiagnosticLine.{diagnostic_sentence}
use Rattle.lint_texts.specs.Views.{diagnostic_seen}
use Rattle.lint_texts.specs.declared.diagnostic.BorrowedDiagnostic.{BorrowedDiagnostic}
use Rattle.lint_texts.proofs.message.write_diagnostic.Goals as goal

pub returns-in-May : goal.returns-in-May
returns-in-May c =
    subst
    (λ (d : BorrowedDiagnostic). OnOk c.write_warning.result (c.write_warning.new.out.items ≡ c.args.out.now.items ++ diagnostic_sentence (tree_of c.args.document.now) (diagnostic_seen d)))
    (sym c.in-May.is) c.write_warning.ensures
