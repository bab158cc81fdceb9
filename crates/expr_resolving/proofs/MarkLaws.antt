-- The marks that are left after some nodes.
use Rattle.std.proofs.Common.{◌≡◌, ℕ, ◌≤◌, List, [], length, drop, Bool, sym}
use Rattle.std.proofs.lemmas.List.{drop_all}

pub none_left : (n : ℕ) (ms : List Bool) → length ms ≤ n → [] ≡ drop n ms
none_left n ms h = sym (drop_all n ms h)
