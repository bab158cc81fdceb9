use Rattle.std.proofs.Common.{◌≡◌, ◌+◌, ◌++◌, drop, map}
use Rattle.decimal_json.specs.View.{items_view, tree_of}
use Rattle.style_rules.specs.CodeView.{finding_seen}
use Rattle.edit_findings.specs.FoundAfter.{id_of, later_found}
use Rattle.edit_findings.proofs.layers.push_later.Given as goal

abbrev pub invariant-loop-one : goal.invariant-loop-one
invariant-loop-one l = record {
  found : map finding_seen l.found ++ later_found (id_of (tree_of l.layer)) l.number (items_view (drop l.one-index l.later))
      ≡ map finding_seen l.fn.found ++ later_found (id_of (tree_of l.layer)) (l.place + 1) (items_view l.later);
  number : l.number ≡ l.place + 1 + l.one-index;
}
