-- The JSON tree of data: its text is the JSON of the data, and it says the data with its colors as texts.
use Rattle.std.proofs.Common.{◌≡◌, ℤ, [], ◌∷◌, ◌++◌, refl, Bool, true, false}
use Rattle.std.specs.Prelude.{◌≤◌, Ok, unsigned_abs}
use Rattle.fixed_num.specs.Decimal.{read_text}
use Rattle.fixed_num.specs.Number.{bound}
use Rattle.fixed_num.specs.NumberText.{number_text}
use Rattle.decimal_json.specs.Tree as tree
use Rattle.decimal_json.specs.Tree.{Tree, Trees, Fields, no_trees, no_fields, field}
use Rattle.decimal_json.specs.JsonText as json
use Rattle.decimal_json.specs.JsonText.{json_text, text_json}
use Rattle.prop_values.specs.ColorText.{color_text}
use Rattle.prop_values.specs.Data.{Data, null, boolean, number, text, color, list, map, Items, no_items, item, Pairs, no_pairs, pair}
use Rattle.prop_values.specs.JsonData.{json_data, trees_data, fields_data, then_data, then_items, then_pairs}
use Rattle.prop_values.specs.ValueText.{data_json, items_json, pairs_json, comma_if}

abbrev mutual
  pub tree_of_data : Data → Tree
  tree_of_data null = tree.null
  tree_of_data (boolean b) = tree.boolean b
  tree_of_data (number z) = tree.number (number_text z)
  tree_of_data (text s) = tree.text s
  tree_of_data (color c) = tree.text (color_text c)
  tree_of_data (list ds) = tree.list (trees_of_items ds)
  tree_of_data (map ps) = tree.object (fields_of_pairs ps)

  pub trees_of_items : Items → Trees
  trees_of_items no_items = no_trees
  trees_of_items (item d ds) = tree.tree (tree_of_data d) (trees_of_items ds)

  pub fields_of_pairs : Pairs → Fields
  fields_of_pairs no_pairs = no_fields
  fields_of_pairs (pair k d ps) = field k (tree_of_data d) (fields_of_pairs ps)

-- ---- its text

same_comma : (later : Bool) → json.comma_if later ≡ comma_if later
same_comma true = refl
same_comma false = refl

mutual
  pub data_text : (d : Data) → json_text (tree_of_data d) ≡ data_json d
  data_text null = refl
  data_text (boolean true) = refl
  data_text (boolean false) = refl
  data_text (number z) = refl
  data_text (text s) = refl
  data_text (color c) = refl
  data_text (list ds) = λ i. 91 ∷ (items_text false ds i ++ 93 ∷ [])
  data_text (map ps) = λ i. 123 ∷ (pairs_text false ps i ++ 125 ∷ [])

  items_text : (later : Bool) (ds : Items) → json.items_json later (trees_of_items ds) ≡ items_json later ds
  items_text later no_items = refl
  items_text later (item d ds) = λ i. same_comma later i ++ (data_text d i ++ items_text true ds i)

  pairs_text : (later : Bool) (ps : Pairs) → json.members_json later (fields_of_pairs ps) ≡ pairs_json later ps
  pairs_text later no_pairs = refl
  pairs_text later (pair k d ps) = λ i. same_comma later i ++ (text_json k ++ 58 ∷ (data_text d i ++ pairs_text true ps i))

-- ---- what it says

abbrev mutual
  pub uncolored : Data → Data
  uncolored null = null
  uncolored (boolean b) = boolean b
  uncolored (number z) = number z
  uncolored (text s) = text s
  uncolored (color c) = text (color_text c)
  uncolored (list ds) = list (items_uncolored ds)
  uncolored (map ps) = map (pairs_uncolored ps)

  pub items_uncolored : Items → Items
  items_uncolored no_items = no_items
  items_uncolored (item d ds) = item (uncolored d) (items_uncolored ds)

  pub pairs_uncolored : Pairs → Pairs
  pairs_uncolored no_pairs = no_pairs
  pairs_uncolored (pair k d ps) = pair k (uncolored d) (pairs_uncolored ps)

-- each number is within the bound
abbrev mutual
  pub IsWithin : Data → Type 0
  IsWithin (number z) = unsigned_abs z ≤ bound
  IsWithin (list ds) = AreWithin ds
  IsWithin (map ps) = HasWithin ps
  IsWithin _ = Unit {0}

  pub AreWithin : Items → Type 0
  AreWithin no_items = Unit {0}
  AreWithin (item d ds) = IsWithin d × AreWithin ds

  pub HasWithin : Pairs → Type 0
  HasWithin no_pairs = Unit {0}
  HasWithin (pair k d ps) = IsWithin d × HasWithin ps

module _ (written : (z : ℤ) → unsigned_abs z ≤ bound → read_text (number_text z) ≡ Ok z) where
  mutual
    pub data_said : (d : Data) → IsWithin d → json_data (tree_of_data d) ≡ Ok (uncolored d)
    data_said null h = refl
    data_said (boolean b) h = refl
    data_said (number z) h = λ i. then_data (written z h i) (λ n. Ok (number n))
    data_said (text s) h = refl
    data_said (color c) h = refl
    data_said (list ds) h = λ i. then_data (items_said ds h i) (λ es. Ok (list es))
    data_said (map ps) h = λ i. then_data (pairs_said ps h i) (λ qs. Ok (map qs))

    items_said : (ds : Items) → AreWithin ds → trees_data (trees_of_items ds) ≡ Ok (items_uncolored ds)
    items_said no_items h = refl
    items_said (item d ds) h = λ i. then_items (data_said d h.0 i) (λ e. then_items (items_said ds h.1 i) (λ es. Ok (item e es)))

    pairs_said : (ps : Pairs) → HasWithin ps → fields_data (fields_of_pairs ps) ≡ Ok (pairs_uncolored ps)
    pairs_said no_pairs h = refl
    pairs_said (pair k d ps) h = λ i. then_pairs (data_said d h.0 i) (λ e. then_pairs (pairs_said ps h.1 i) (λ qs. Ok (pair k e qs)))
