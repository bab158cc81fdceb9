-- What the text is at the place of a path.
use Rattle.std.specs.Prelude.{◌≡◌, ℕ, zero, suc, List, [], ◌∷◌, Option, Some, None}
use Rattle.std.specs.Option.{option_and_then}
use Rattle.json_tokens.specs.Rules.{all_rules}
use Rattle.decimal_json.specs.Grammar.{Pair, Spells, SpellsValue}
use Rattle.decimal_json.specs.Tree.{Tree, list, object, Trees, no_trees, tree, field_at}
use Rattle.decimal_json.specs.declared.paths.PathPart.{PathPart}
use Rattle.decimal_json.specs.declared.paths.PathPart.TheVariants.{Key, Index}
use Rattle.text_places.specs.ValuePlace.{from_place}

-- ---- the value at a path of a tree

abbrev pub nth_tree : ℕ → Trees → Option Tree
nth_tree i no_trees = None
nth_tree zero (tree t ts) = Some t
nth_tree (suc i) (tree t ts) = nth_tree i ts

abbrev pub child : PathPart → Tree → Option Tree
child (Index i) (list ts) = nth_tree i ts
child (Key key) (object fs) = field_at key fs
child _ _ = None

abbrev pub value_at : List PathPart → Tree → Option Tree
value_at [] t = Some t
value_at (part ∷ path) t = option_and_then (value_at path) (child part t)

-- ---- bytes that begin with the text of a value, or of a member

abbrev pub BeginsWithValue : Tree → List ℕ → Type 0
BeginsWithValue t b = (k : ℕ) × (q : List ℕ) × SpellsValue k all_rules t b q

abbrev pub BeginsWithMember : (key : List ℕ) → Tree → List ℕ → Type 0
BeginsWithMember key t b =
    (k : ℕ) × (taken : List (List ℕ)) × (q : List ℕ) × Pair taken all_rules key (SpellsValue k all_rules t) b q

-- the text of what this part leads to
abbrev pub BeginsWithPart : PathPart → Tree → List ℕ → Type 0
BeginsWithPart (Index i) t b = BeginsWithValue t b
BeginsWithPart (Key key) t b = BeginsWithMember key t b

-- the text of what a path leads to: its last part says whether it is a member
abbrev pub BeginsWith : List PathPart → Tree → List ℕ → Type 0
BeginsWith [] t b = BeginsWithValue t b
BeginsWith (part ∷ []) t b = BeginsWithPart part t b
BeginsWith (part ∷ next ∷ path) t b = BeginsWith (next ∷ path) t b

-- Where a text spells a tree that has a value at a path, the bytes from the place of the path on begin with the text of
-- the value, and where it is a member with its name, a colon and the value.
abbrev pub PlacesSpellTheirValues : Type 0
PlacesSpellTheirValues =
    (text : List ℕ) (t v : Tree) (path : List PathPart) → Spells all_rules text t → value_at path t ≡ Some v →
    BeginsWith path v (from_place text t path)
