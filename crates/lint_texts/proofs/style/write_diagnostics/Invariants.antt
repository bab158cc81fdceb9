use Rattle.std.proofs.Common.{◌≡◌, ◌++◌, drop, map}
use Rattle.decimal_json.specs.View.{tree_of}
use Rattle.lint_texts.specs.Views.{diagnostic_seen, placed_text}
use Rattle.lint_texts.proofs.style.write_diagnostics.Given as goal

abbrev pub invariant-loop-place : goal.invariant-loop-place
invariant-loop-place l = record {
  at : l.at ≡ l.place-index;
  text : l.out.items ++ placed_text l.source.form l.source.file.now (tree_of l.source.document.now) (drop l.place-index l.places) (map diagnostic_seen (drop l.place-index l.diagnostics))
      ≡ l.fn.out.items ++ placed_text l.source.form l.source.file.now (tree_of l.source.document.now) l.places (map diagnostic_seen l.diagnostics);
}
