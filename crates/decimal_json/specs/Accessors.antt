-- What a tree is and what it holds, by its form; none where it has another form. Source: own.
use Rattle.std.specs.Prelude.{ℕ, List, Bool, true, false, Option, Some, None, is_some}
use Rattle.std.specs.Option.{option_and_then}
use Rattle.decimal_json.specs.Tree.{Tree, text, list, object, Trees, no_trees, Fields, field_at}

abbrev pub is_text : Tree → Bool
is_text (text s) = true
is_text _ = false

abbrev pub is_object : Tree → Bool
is_object (object fs) = true
is_object _ = false

abbrev pub text_in : Tree → Option (List ℕ)
text_in (text s) = Some s
text_in _ = None

abbrev pub fields_in : Tree → Option Fields
fields_in (object fs) = Some fs
fields_in _ = None

-- the member of an object
abbrev pub member : List ℕ → Tree → Option Tree
member key (object fs) = field_at key fs
member key _ = None

abbrev pub has : List ℕ → Tree → Bool
has key t = is_some (member key t)

-- the text of a member
abbrev pub text_at : List ℕ → Tree → Option (List ℕ)
text_at key t = option_and_then text_in (member key t)

-- the items of what may be there; none where it is no array
abbrev pub trees_in : Option Tree → Trees
trees_in (Some (list ts)) = ts
trees_in _ = no_trees
