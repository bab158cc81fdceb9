use Rattle.std.proofs.Common.{rules, ◌≡◌, map}
use Rattle.decimal_json.specs.View.{tree_of}
use Rattle.text_places.specs.TextPlace.{text_place}
use Rattle.lint_texts.specs.DiagnosticLine.{diagnostic_path}
use Rattle.lint_texts.specs.Views.{diagnostic_seen, placed_text}
use Rattle.lint_texts.proofs.LineLaws.{linted_is}
use Rattle.lint_texts.proofs.style.lint_diagnostics.Goals as goal

pub returns : goal.returns
returns c =
    let s = c.args.source.now in
    let t = tree_of s.document.now in
    let ds = map diagnostic_seen c.args.diagnostics.now in
    let written : c.write_diagnostics.new.out.items ≡ placed_text s.form s.file.now t (map (text_place c.args.text.now t) (map diagnostic_path ds)) ds =
    search rules in
    linted_is s.form s.file.now c.args.text.now t ds c.write_diagnostics.new.out.items c.count_errors.result c.count_warnings.result
    written c.count_errors.ensures c.count_warnings.ensures
