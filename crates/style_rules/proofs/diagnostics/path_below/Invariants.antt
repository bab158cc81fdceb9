use Rattle.std.proofs.Common.{◌≡◌, ◌++◌, take}
use Rattle.decimal_json.specs.View.{path_of}
use Rattle.style_rules.proofs.diagnostics.path_below.Given as goal

abbrev pub invariant-loop-part : goal.invariant-loop-part
invariant-loop-part l = l.path ≡ path_of l.here ++ take l.part-index l.more
