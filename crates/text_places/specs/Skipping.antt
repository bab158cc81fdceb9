-- What follows the parts of a JSON text, by the tree that it spells. The bytes before are those of a text that spells
-- it. Source: RFC 8259 §2 to §7.
use Rattle.std.specs.Prelude.{ℕ, List, [], ◌∷◌, Bool, true, false, ◌==◌, drop, length, if◌then◌else◌}
use Rattle.json_tokens.specs.Sequence.{is_space}
use Rattle.decimal_json.specs.Grammar.{word_of}
use Rattle.decimal_json.specs.Tree.{Tree, null, boolean, number, text, list, object, Trees, no_trees, tree, Fields}
use Rattle.decimal_json.specs.Tree.{no_fields, field}

-- after white space
abbrev pub after_spaces : List ℕ → List ℕ
after_spaces [] = []
after_spaces (c ∷ b) = if is_space c then after_spaces b else c ∷ b

-- after a bracket, a comma or a colon, and the white space that follows it
abbrev pub after_mark : List ℕ → List ℕ
after_mark b = after_spaces (drop 1 b)

-- after the rest of a string: its closing quotation mark, which is 34. A reverse solidus, which is 92, escapes the next
-- byte.
abbrev pub after_closing : (escaped : Bool) → List ℕ → List ℕ
after_closing escaped [] = []
after_closing true (c ∷ b) = after_closing false b
after_closing false (c ∷ b) = if c == 34 then b else after_closing (c == 92) b

-- after a string
abbrev pub after_string : List ℕ → List ℕ
after_string b = after_closing false (drop 1 b)

-- from the name of a member to its value: after the name, white space, a colon and white space
abbrev pub member_value : List ℕ → List ℕ
member_value b = after_mark (after_spaces (after_string b))

abbrev mutual
  -- after a value and the white space that follows it
  pub after_value : Tree → List ℕ → List ℕ
  after_value null b = after_spaces (drop 4 b)
  after_value (boolean v) b = after_spaces (drop (length (word_of v)) b)
  after_value (number n) b = after_spaces (drop (length n) b)
  after_value (text s) b = after_spaces (after_string b)
  after_value (list ts) b = after_items ts (after_mark b)
  after_value (object fs) b = after_members fs (after_mark b)

  -- after the items of an array and what closes it; an empty one is closed at once
  pub after_items : Trees → List ℕ → List ℕ
  after_items no_trees b = after_mark b
  after_items (tree t ts) b = after_more_items ts (after_mark (after_value t b))

  -- the same after an item and the mark after it, a comma or the closing bracket
  pub after_more_items : Trees → List ℕ → List ℕ
  after_more_items no_trees b = b
  after_more_items (tree t ts) b = after_more_items ts (after_mark (after_value t b))

  -- the same of the members of an object
  pub after_members : Fields → List ℕ → List ℕ
  after_members no_fields b = after_mark b
  after_members (field key t fs) b = after_more_members fs (after_mark (after_value t (member_value b)))

  pub after_more_members : Fields → List ℕ → List ℕ
  after_more_members no_fields b = b
  after_more_members (field key t fs) b = after_more_members fs (after_mark (after_value t (member_value b)))

-- from an item to the next one
abbrev pub next_item : Tree → List ℕ → List ℕ
next_item t b = after_mark (after_value t b)

-- from a member to the next one
abbrev pub next_member : Tree → List ℕ → List ℕ
next_member t b = after_mark (after_value t (member_value b))
