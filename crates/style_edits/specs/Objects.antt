-- Objects that get, change or lose a member.
use Rattle.std.specs.Prelude.{ℕ, List}
use Rattle.decimal_json.specs.Editing.{members_with, replaced_members, members_without}
use Rattle.decimal_json.specs.Tree.{members_of, Tree, object, no_fields, field, fields_of}

-- An object with a tree at a key: in place of the one that is there, else in a new last member. What is no object
-- becomes the object of this member alone. Source: own.
abbrev pub object_with : List ℕ → Tree → Tree → Tree
object_with key t (object fs) = object (fields_of (members_with key t (members_of fs)))
object_with key t _ = object (field key t no_fields)

-- An object with a tree in place of the one at a key. Without the key it stays, and so does what is no object.
-- Source: own.
abbrev pub object_replacing : List ℕ → Tree → Tree → Tree
object_replacing key t (object fs) = object (fields_of (replaced_members key t (members_of fs)))
object_replacing key t other = other

-- An object without the member of a key. What is no object stays. Source: own.
abbrev pub object_without : List ℕ → Tree → Tree
object_without key (object fs) = object (fields_of (members_without key (members_of fs)))
object_without key other = other
