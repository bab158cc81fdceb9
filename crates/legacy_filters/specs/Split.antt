-- Which filters are legacy and which are expressions. Source: own.
use Rattle.std.specs.Prelude.{ℕ, List, [], ◌∷◌, Bool, true, false, not, ◌&&◌, ◌||◌, codes, if◌then◌else◌}
use Rattle.std.specs.List.{list_any}
use Rattle.std.specs.Str.{bytes_eq}
use Rattle.decimal_json.specs.Accessors.{is_text}
use Rattle.decimal_json.specs.Tree.{Tree, boolean, text, list, Trees, no_trees, tree}

abbrev pub is_array : Tree → Bool
is_array (list ts) = true
is_array _ = false

abbrev pub is_named : List ℕ → List (List ℕ) → Bool
is_named name names = list_any (bytes_eq name) names

-- `has` of a property: its second element, where there is one, is neither `"$id"` nor `"$type"`
abbrev pub is_special_key : Tree → Bool
is_special_key (text key) = is_named key (codes "$id" ∷ codes "$type" ∷ [])
is_special_key _ = false

abbrev pub has_is_legacy : Trees → Bool
has_is_legacy no_trees = true
has_is_legacy (tree key ts) = is_special_key key

-- `in` of an expression: at least two elements after the name, of which the first is no text or the second is
-- an array
abbrev pub in_is_legacy : Trees → Bool
in_is_legacy (tree needle (tree place ts)) = is_text needle && not (is_array place)
in_is_legacy _ = true

-- a comparison of a key and a value: two elements after the name, neither an array
abbrev pub comparison_is_legacy : Trees → Bool
comparison_is_legacy (tree a (tree b no_trees)) = not (is_array a) && not (is_array b)
comparison_is_legacy _ = false

-- The split, of an array by its name and the elements after it, where `any_legacy` says whether one of these
-- is a legacy filter.
abbrev pub named_is_legacy : List ℕ → Trees → Bool → Bool
named_is_legacy name ts any_legacy =
    if bytes_eq name (codes "has") then has_is_legacy ts else
    if bytes_eq name (codes "in") then in_is_legacy ts else
    if is_named name (codes "!in" ∷ codes "!has" ∷ codes "none" ∷ []) then true else
    if is_named name (codes "==" ∷ codes "!=" ∷ codes "<" ∷ codes "<=" ∷ codes ">" ∷ codes ">=" ∷ [])
    then comparison_is_legacy ts else
    if is_named name (codes "all" ∷ codes "any" ∷ []) then any_legacy else
    false

-- A truth value is an expression; what is no array, and an empty array, is legacy; an array whose first
-- element is no text is an expression.
abbrev mutual
  pub is_legacy : Tree → Bool
  is_legacy (boolean b) = false
  is_legacy (list ts) = array_is_legacy ts
  is_legacy _ = true

  pub array_is_legacy : Trees → Bool
  array_is_legacy no_trees = true
  array_is_legacy (tree (text name) ts) = named_is_legacy name ts (some_legacy ts)
  array_is_legacy (tree _ ts) = false

  pub some_legacy : Trees → Bool
  some_legacy no_trees = false
  some_legacy (tree t ts) = is_legacy t || some_legacy ts
