use Rattle.std.proofs.Common.{◌≡◌, [], drop}
use Rattle.decimal_json.specs.View.{fields}
use Rattle.style_layout.specs.Globals.{with_defaults}
use Rattle.style_layout.proofs.globals.defaults_of.Given as goal

abbrev pub invariant-loop-member : goal.invariant-loop-member
invariant-loop-member l = with_defaults l.globals (fields (drop l.member-index l.state)) ≡ with_defaults [] (fields l.state)
