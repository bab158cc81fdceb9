-- A key that a comparison finds equal.
use Rattle.std.specs.Prelude.{◌≡◌, ℕ, List, true}
use Rattle.std.specs.Str.{bytes_eq}
use Rattle.std.proofs.lemmas.Slice.Eq.{bytes_eq-Decides}

pub same_key : (k key : List ℕ) → bytes_eq k key ≡ true → k ≡ key
same_key k key h = (bytes_eq-Decides k key).0 h
