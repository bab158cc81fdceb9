use Rattle.std.proofs.Common.{◌+◌, ◌*◌, ◌^◌, ◌<◌, ◌≤◌}
use Rattle.power_fixed.proofs.roots.short_root.Given as goal

-- the root is not above
abbrev pub invariant-loop-root : goal.invariant-loop-root
invariant-loop-root l = record {
  some : 0 < l.root;
  small : l.root ≤ 2 ^ 32;
  above : l.n < (l.root + 1) * (l.root + 1);
}

abbrev pub decreases-loop-root : goal.decreases-loop-root
decreases-loop-root l = l.root
