-- How many nodes a tree has.
use Rattle.std.specs.Prelude.{ℕ, ◌+◌}
use Rattle.decimal_json.specs.Tree.{Fields, Tree, Trees, boolean, field, list, no_fields, no_trees, null, number}
use Rattle.decimal_json.specs.Tree.{object, text, tree}

-- The number of nodes, an array or an object counted as one more than its parts.
abbrev mutual
  pub nodes : Tree → ℕ
  nodes null = 1
  nodes (boolean b) = 1
  nodes (number n) = 1
  nodes (text s) = 1
  nodes (list ts) = 1 + trees_nodes ts
  nodes (object fs) = 1 + fields_nodes fs

  pub trees_nodes : Trees → ℕ
  trees_nodes no_trees = 0
  trees_nodes (tree t ts) = nodes t + trees_nodes ts

  pub fields_nodes : Fields → ℕ
  fields_nodes no_fields = 0
  fields_nodes (field k t fs) = nodes t + fields_nodes fs
