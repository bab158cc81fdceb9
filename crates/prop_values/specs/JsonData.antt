-- The value that a JSON tree says.
use Rattle.std.specs.Prelude.{Result, Ok, Err}
use Rattle.fixed_num.specs.Decimal.{read_text}
use Rattle.fixed_num.specs.declared.decimal.NumFault.{NumFault}
use Rattle.decimal_json.specs.Tree as tree
use Rattle.decimal_json.specs.Tree.{Tree, Trees, Fields, no_trees, no_fields, field}
use Rattle.prop_values.specs.Data.{Data, null, boolean, number, text, list, map, Items, no_items, item, Pairs, no_pairs}
use Rattle.prop_values.specs.Data.{pair}

-- the answer, where what is read is seen by f
abbrev pub read_by : {A B : Type 0} → (A → B) → Result A NumFault → Result B NumFault
read_by f (Ok a) = Ok (f a)
read_by f (Err e) = Err e

-- what is made of an answer that is no fault
abbrev pub then_data : {A : Type 0} → Result A NumFault → (A → Result Data NumFault) → Result Data NumFault
then_data (Ok a) go = go a
then_data (Err f) go = Err f

abbrev pub then_items : {A : Type 0} → Result A NumFault → (A → Result Items NumFault) → Result Items NumFault
then_items (Ok a) go = go a
then_items (Err f) go = Err f

abbrev pub then_pairs : {A : Type 0} → Result A NumFault → (A → Result Pairs NumFault) → Result Pairs NumFault
then_pairs (Ok a) go = go a
then_pairs (Err f) go = Err f

-- Each form of JSON is the form of a value, a number read once. The fault is that of the first number
-- past the bound, in the order of the document. Source: own.
abbrev mutual
  pub json_data : Tree → Result Data NumFault
  json_data tree.null = Ok null
  json_data (tree.boolean b) = Ok (boolean b)
  json_data (tree.number n) = then_data (read_text n) (λ z. Ok (number z))
  json_data (tree.text s) = Ok (text s)
  json_data (tree.list ts) = then_data (trees_data ts) (λ ds. Ok (list ds))
  json_data (tree.object fs) = then_data (fields_data fs) (λ ps. Ok (map ps))

  pub trees_data : Trees → Result Items NumFault
  trees_data no_trees = Ok no_items
  trees_data (tree.tree t ts) = then_items (json_data t) (λ d. then_items (trees_data ts) (λ ds. Ok (item d ds)))

  pub fields_data : Fields → Result Pairs NumFault
  fields_data no_fields = Ok no_pairs
  fields_data (field k t fs) = then_pairs (json_data t) (λ d. then_pairs (fields_data fs) (λ ps. Ok (pair k d ps)))
