-- A place that is counted up to some byte of a text.
use Rattle.std.specs.Prelude.{◌≡◌, ℕ, ◌≤◌, List, length, take}
use Rattle.text_places.specs.LineColumn.{after_bytes, first_place}
use Rattle.text_places.specs.declared.place.CountedPlace.{CountedPlace}

abbrev pub IsCounted : List ℕ → CountedPlace → Type 0
IsCounted text counted = (counted.at ≤ length text) × (counted.place ≡ after_bytes first_place (take counted.at text))
