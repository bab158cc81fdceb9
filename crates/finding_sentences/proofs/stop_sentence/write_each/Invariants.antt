use Rattle.std.proofs.Common.{◌≡◌, ◌++◌, drop}
use Rattle.decimal_json.specs.View.{trees}
use Rattle.property_tables.specs.RowView.{row_seen}
use Rattle.finding_sentences.specs.FunctionSentence.{stops_fault}
use Rattle.finding_sentences.proofs.stop_sentence.write_each.Given as goal

abbrev pub invariant-loop-place : goal.invariant-loop-place
invariant-loop-place l = record {
  same : l.out.items ≡ l.fn.out.items;
  later : stops_fault (row_seen l.row) l.any l.place (trees (drop l.place l.stops)) ≡ stops_fault (row_seen l.row) l.any 0 (trees l.stops);
}
