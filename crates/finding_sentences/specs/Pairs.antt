-- Two elements, where there are just two.
use Rattle.std.specs.Prelude.{Option, Some, None}
use Rattle.decimal_json.specs.Tree.{Tree, Trees, no_trees, tree}

abbrev pub pair_of : Trees → Option (Tree × Tree)
pair_of no_trees = None
pair_of (tree a no_trees) = None
pair_of (tree a (tree b no_trees)) = Some (a, b)
pair_of (tree a (tree b (tree c ts))) = None
