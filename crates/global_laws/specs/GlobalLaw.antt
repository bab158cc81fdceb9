-- The values of the global state decide what an expression gives, and never its form. Source: own.
use Rattle.std.specs.Prelude.{◌≡◌, ℕ, List, [], codes, Bool, false, ◌||◌, Option, Some, None, Ok, Err}
use Rattle.std.specs.Str.{bytes_eq}
use Rattle.decimal_json.specs.Tree.{Tree, null, boolean, number, text, list, object, Trees, no_trees, tree, Fields}
use Rattle.decimal_json.specs.Tree.{no_fields, field}
use Rattle.prop_values.specs.Data.{Data}
use Rattle.prop_values.specs.declared.kinds.Want.{Want}
use Rattle.property_tables.specs.Rows.{RowData}
use Rattle.expr_syntax.specs.Mentioned as mentioned
use Rattle.expr_syntax.specs.Reading.{Reading, reading_with}
use Rattle.expr_syntax.specs.TermSize as sizes
use Rattle.expr_syntax.specs.Term.{Term}
use Rattle.expr_types.specs.Checked as checks
use Rattle.expr_types.specs.Typing as typing

-- Two expressions of one form: they have as many nodes, mention the same of the world, and typing finds the same in
-- both, under each want and by the rules of each row, or of a filter where there is no row: the same kind, listed
-- faults and places, or the same code at the same path.
pub record HasTheSameForm (e f : Term) : Type 0 where
  pub nodes : sizes.nodes e ≡ sizes.nodes f
  pub mentions : mentioned.mentions e ≡ mentioned.mentions f
  pub typed : (want : Want) → typing.typed e want [] [] ≡ typing.typed f want [] []
  pub checked : (want : Want) (row : Option RowData) → checks.checked e want row ≡ checks.checked f want row

-- Two readings of one form: both are expressions of one form, both are outside, or both are the same fault.
abbrev pub IsReadAlike : Reading → Reading → Type 0
IsReadAlike (Ok (Some e)) (Ok (Some f)) = HasTheSameForm e f
IsReadAlike (Ok None) (Ok None) = Unit {0}
IsReadAlike (Err x) (Err y) = x ≡ y
IsReadAlike r s = ⊥

-- Each tree, well formed or not, reads alike with any two lists of values of the global state.
abbrev pub GlobalValuesChangeNoForm : Type 0
GlobalValuesChangeNoForm =
    (t : Tree) (new old : List (List ℕ × Data)) → IsReadAlike (reading_with t new) (reading_with t old)

-- some text of a tree, an item or the value of a member however deep, is `global-state`
abbrev mutual
  pub names_globals : Tree → Bool
  names_globals null = false
  names_globals (boolean b) = false
  names_globals (number n) = false
  names_globals (text s) = bytes_eq s (codes "global-state")
  names_globals (list ts) = items_name_globals ts
  names_globals (object fs) = members_name_globals fs

  pub items_name_globals : Trees → Bool
  items_name_globals no_trees = false
  items_name_globals (tree t ts) = names_globals t || items_name_globals ts

  pub members_name_globals : Fields → Bool
  members_name_globals no_fields = false
  members_name_globals (field key t fs) = names_globals t || members_name_globals fs

-- A tree without that text reads the same with any two lists of values.
abbrev pub OtherTreesReadTheSame : Type 0
OtherTreesReadTheSame =
    (t : Tree) (new old : List (List ℕ × Data)) → names_globals t ≡ false → reading_with t new ≡ reading_with t old
