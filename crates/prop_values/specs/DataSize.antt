-- How many nodes a value has.
use Rattle.std.specs.Prelude.{ℕ, ◌+◌}
use Rattle.prop_values.specs.Data.{Data, Items, Pairs, boolean, color, item, list, map, no_items, no_pairs, null}
use Rattle.prop_values.specs.Data.{number, pair, text}

-- The number of nodes: a list counts one more than its parts, and a map two, its entries and what shares
-- them.
abbrev mutual
  pub nodes : Data → ℕ
  nodes null = 1
  nodes (boolean b) = 1
  nodes (number n) = 1
  nodes (text s) = 1
  nodes (color c) = 1
  nodes (list ds) = 1 + items_nodes ds
  nodes (map ps) = 2 + pairs_nodes ps

  pub items_nodes : Items → ℕ
  items_nodes no_items = 0
  items_nodes (item d ds) = nodes d + items_nodes ds

  pub pairs_nodes : Pairs → ℕ
  pairs_nodes no_pairs = 0
  pairs_nodes (pair k d ps) = nodes d + pairs_nodes ps
