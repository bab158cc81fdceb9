-- The tests on texts by which expressions are evaluated.
use Rattle.std.specs.Prelude.{ℕ, List, Bool}

pub record Tests : Type 0 where
  -- on the names of images: those that are there
  pub has_image : List ℕ → Bool
  -- on texts: those whose scripts can be shown
  pub is_supported : List ℕ → Bool
