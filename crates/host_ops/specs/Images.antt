-- Which names a set of images has.
use Rattle.std.specs.Prelude.{ℕ, List, Bool}
use Rattle.indexmap.specs.IndexSet.{contains_text}
use Rattle.host_ops.specs.declared.image_set.ImageSet.{ImageSet}

-- The name, given by its bytes, is one of the set's. Source: own.
abbrev pub has_name : ImageSet → List ℕ → Bool
has_name images = contains_text images.names
