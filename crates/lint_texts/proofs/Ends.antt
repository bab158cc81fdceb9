-- What follows a part of a text is an end of the text.
use Rattle.std.proofs.Common.{◌≡◌, ◌∙◌, refl, sym, ap, ℕ, zero, suc, List, [], ◌∷◌, ◌++◌, drop, take, length}
use Rattle.std.specs.Prelude.{Option, Some, None, option_map, unwrap_or, Bool, true, false, ◌==◌, if◌then◌else◌}
use Rattle.std.specs.Str.{bytes_eq}
use Rattle.std.proofs.lemmas.List.{append_assoc, take-append-drop}
use Rattle.json_tokens.specs.Sequence.{is_space}
use Rattle.decimal_json.specs.Grammar.{word_of}
use Rattle.decimal_json.specs.Tree.{Tree, null, boolean, number, text, list, object, Trees, no_trees, tree, Fields, no_fields, field}
use Rattle.decimal_json.specs.declared.paths.PathPart.{PathPart}
use Rattle.decimal_json.specs.declared.paths.PathPart.TheVariants.{Key, Index}
use Rattle.text_places.specs.Skipping.{after_closing, after_items, after_mark, after_members, after_more_items, after_more_members, after_spaces, after_string, after_value, member_value, next_item, next_member}
use Rattle.text_places.specs.ValuePlace.{PlacedValue, item_at, member_at, part_at, place_below, whole_value, from_place}

abbrev pub IsEnd : List ℕ → (b : List ℕ) → Type 0
IsEnd e b = (front : List ℕ) × (b ≡ front ++ e)

pub same_end : (b : List ℕ) → IsEnd b b
same_end b = ([], refl)

pub further : (e m b : List ℕ) → IsEnd e m → IsEnd m b → IsEnd e b
further e m b (g, q) (f, p) = (f ++ g, p ∙ (ap (λ (z : List ℕ). f ++ z) q ∙ sym (append_assoc f g e)))

one_on : (c : ℕ) (b e : List ℕ) → IsEnd e b → IsEnd e (c ∷ b)
one_on c b e (f, p) = (c ∷ f, ap (λ (z : List ℕ). c ∷ z) p)

either : (x : Bool) (p q b : List ℕ) → IsEnd p b → IsEnd q b → IsEnd (if x then p else q) b
either true p q b hp hq = hp
either false p q b hp hq = hq

drop_end : (n : ℕ) (b : List ℕ) → IsEnd (drop n b) b
drop_end n b = (take n b, sym (take-append-drop n b))

-- ---- white space, marks and strings

spaces : (b : List ℕ) → IsEnd (after_spaces b) b
spaces [] = same_end []
spaces (c ∷ b) = either (is_space c) (after_spaces b) (c ∷ b) (c ∷ b) (one_on c b (after_spaces b) (spaces b)) (same_end (c ∷ b))

spaces_after : (n : ℕ) (b : List ℕ) → IsEnd (after_spaces (drop n b)) b
spaces_after n b = further (after_spaces (drop n b)) (drop n b) b (spaces (drop n b)) (drop_end n b)

mark : (b : List ℕ) → IsEnd (after_mark b) b
mark b = spaces_after 1 b

closing : (escaped : Bool) (b : List ℕ) → IsEnd (after_closing escaped b) b
closing true [] = same_end []
closing false [] = same_end []
closing true (c ∷ b) = one_on c b (after_closing false b) (closing false b)
closing false (c ∷ b) =
    either (c == 34) b (after_closing (c == 92) b) (c ∷ b) (one_on c b b (same_end b)) (one_on c b (after_closing (c == 92) b) (closing (c == 92) b))

string : (b : List ℕ) → IsEnd (after_string b) b
string b = further (after_string b) (drop 1 b) b (closing false (drop 1 b)) (drop_end 1 b)

spaced_string : (b : List ℕ) → IsEnd (after_spaces (after_string b)) b
spaced_string b = further (after_spaces (after_string b)) (after_string b) b (spaces (after_string b)) (string b)

pub member_start : (b : List ℕ) → IsEnd (member_value b) b
member_start b = further (member_value b) (after_spaces (after_string b)) b (mark (after_spaces (after_string b))) (spaced_string b)

marked : (e b : List ℕ) → IsEnd e (after_mark b) → IsEnd e b
marked e b h = further e (after_mark b) b h (mark b)

-- ---- values

after_item : (t : Tree) (b : List ℕ) → IsEnd (after_value t b) b → IsEnd (next_item t b) b
after_item t b h = further (next_item t b) (after_value t b) b (mark (after_value t b)) h

after_member : (t : Tree) (b : List ℕ) → IsEnd (after_value t (member_value b)) (member_value b) → IsEnd (next_member t b) b
after_member t b h =
    further (next_member t b) (after_value t (member_value b)) b (mark (after_value t (member_value b)))
    (further (after_value t (member_value b)) (member_value b) b h (member_start b))

mutual
  value : (t : Tree) (b : List ℕ) → IsEnd (after_value t b) b
  value null b = spaces_after 4 b
  value (boolean v) b = spaces_after (length (word_of v)) b
  value (number n) b = spaces_after (length n) b
  value (text s) b = spaced_string b
  value (list ts) b = marked (after_items ts (after_mark b)) b (items ts (after_mark b))
  value (object fs) b = marked (after_members fs (after_mark b)) b (members fs (after_mark b))

  items : (ts : Trees) (b : List ℕ) → IsEnd (after_items ts b) b
  items no_trees b = mark b
  items (tree t ts) b = further (after_more_items ts (next_item t b)) (next_item t b) b (more_items ts (next_item t b)) (after_item t b (value t b))

  more_items : (ts : Trees) (b : List ℕ) → IsEnd (after_more_items ts b) b
  more_items no_trees b = same_end b
  more_items (tree t ts) b = further (after_more_items ts (next_item t b)) (next_item t b) b (more_items ts (next_item t b)) (after_item t b (value t b))

  members : (fs : Fields) (b : List ℕ) → IsEnd (after_members fs b) b
  members no_fields b = mark b
  members (field k t fs) b = further (after_more_members fs (next_member t b)) (next_member t b) b (more_members fs (next_member t b)) (after_member t b (value t (member_value b)))

  more_members : (fs : Fields) (b : List ℕ) → IsEnd (after_more_members fs b) b
  more_members no_fields b = same_end b
  more_members (field k t fs) b = further (after_more_members fs (next_member t b)) (next_member t b) b (more_members fs (next_member t b)) (after_member t b (value t (member_value b)))

item_end : (t : Tree) (b : List ℕ) → IsEnd (next_item t b) b
item_end t b = after_item t b (value t b)

member_end : (t : Tree) (b : List ℕ) → IsEnd (next_member t b) b
member_end t b = after_member t b (value t (member_value b))

-- ---- paths

-- where a part is there, its name and its value are ends
abbrev AreEnds : Option PlacedValue → (b : List ℕ) → Type 0
AreEnds (Some v) b = IsEnd v.name b × IsEnd v.at b
AreEnds None b = Unit {0}

ends_further : (found : Option PlacedValue) (m b : List ℕ) → AreEnds found m → IsEnd m b → AreEnds found b
ends_further (Some v) m b (name, at) h = (further v.name m b name h, further v.at m b at h)
ends_further None m b found h = tt

item_ends : (i : ℕ) (ts : Trees) (b : List ℕ) → AreEnds (item_at i ts b) b
item_ends zero no_trees b = tt
item_ends (suc i) no_trees b = tt
item_ends zero (tree t ts) b = (same_end b, same_end b)
item_ends (suc i) (tree t ts) b = ends_further (item_at i ts (next_item t b)) (next_item t b) b (item_ends i ts (next_item t b)) (item_end t b)

either_found : (x : Bool) (p q : Option PlacedValue) (b : List ℕ) → AreEnds p b → AreEnds q b → AreEnds (if x then p else q) b
either_found true p q b hp hq = hp
either_found false p q b hp hq = hq

member_ends : (key : List ℕ) (fs : Fields) (b : List ℕ) → AreEnds (member_at key fs b) b
member_ends key no_fields b = tt
member_ends key (field k t fs) b =
    either_found (bytes_eq k key) (Some (record { value = t; name = b; at = member_value b })) (member_at key fs (next_member t b)) b
    (same_end b, member_start b)
    (ends_further (member_at key fs (next_member t b)) (next_member t b) b (member_ends key fs (next_member t b)) (member_end t b))

part_ends : (part : PathPart) (t : Tree) (b : List ℕ) → AreEnds (part_at part t b) b
part_ends (Index i) (list ts) b = ends_further (item_at i ts (after_mark b)) (after_mark b) b (item_ends i ts (after_mark b)) (mark b)
part_ends (Key key) (object fs) b = ends_further (member_at key fs (after_mark b)) (after_mark b) b (member_ends key fs (after_mark b)) (mark b)
part_ends (Index i) null b = tt
part_ends (Index i) (boolean x) b = tt
part_ends (Index i) (number n) b = tt
part_ends (Index i) (text s) b = tt
part_ends (Index i) (object fs) b = tt
part_ends (Key key) null b = tt
part_ends (Key key) (boolean x) b = tt
part_ends (Key key) (number n) b = tt
part_ends (Key key) (text s) b = tt
part_ends (Key key) (list ts) b = tt

either_name : (path : List PathPart) (found : Option PlacedValue) (name b : List ℕ) → IsEnd name b
    → ((v : PlacedValue) → AreEnds (Some v) b → IsEnd (place_below path v) b) → AreEnds found b
    → IsEnd (unwrap_or (option_map (place_below path) found) name) b
either_name path (Some v) name b h go found = go v found
either_name path None name b h go found = h

below_end : (path : List PathPart) (v : PlacedValue) (b : List ℕ) → AreEnds (Some v) b → IsEnd (place_below path v) b
below_end [] v b (name, at) = name
below_end (part ∷ path) v b (name, at) =
    either_name path (part_at part v.value v.at) v.name b name (λ w ends. below_end path w b ends)
    (ends_further (part_at part v.value v.at) v.at b (part_ends part v.value v.at) at)

pub place_end : (b : List ℕ) (t : Tree) (path : List PathPart) → IsEnd (from_place b t path) b
place_end b t path = below_end path (whole_value t b) b (spaces b, spaces b)
