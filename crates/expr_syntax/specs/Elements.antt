-- The elements of a node: how they are found, and what walks over them are given.
use Rattle.std.specs.Prelude.{ℕ, ◌+◌, List, [], ◌∷◌, Bool, Option, Some, None, if◌then◌else◌}
use Rattle.std.specs.Str.{bytes_eq}
use Rattle.std.specs.Prelude.{codes}
use Rattle.decimal_json.specs.Accessors.{text_in}
use Rattle.decimal_json.specs.Tree.{Tree, Trees, no_trees, tree}
use Rattle.expr_syntax.specs.declared.names.Name.{Name}
use Rattle.expr_syntax.specs.declared.parts.Role.{Role}
use Rattle.expr_syntax.specs.declared.parts.Role.TheVariants.{Scale, Font, Color}
use Rattle.expr_syntax.specs.Names.{name_of}

-- the text that an array begins with
abbrev pub head_text : Trees → Option (List ℕ)
head_text no_trees = None
head_text (tree t ts) = text_in t

abbrev pub name_in : Option (List ℕ) → Option Name
name_in (Some s) = name_of s
name_in None = None

-- the operator that it names
abbrev pub head_name : Trees → Option Name
head_name ts = name_in (head_text ts)

abbrev pub after_head : Trees → Trees
after_head no_trees = no_trees
after_head (tree t ts) = ts

abbrev pub first_of : Trees → Option Tree
first_of no_trees = None
first_of (tree t ts) = Some t

-- the element after the name
abbrev pub second : Trees → Option Tree
second ts = first_of (after_head ts)

abbrev pub text_of : Option Tree → Option (List ℕ)
text_of (Some t) = text_in t
text_of None = None

-- the text that is the element after the name
abbrev pub second_text : Trees → Option (List ℕ)
second_text ts = text_of (second ts)

-- the elements at the places of which a test holds, from place i on, among n
abbrev pub taken : (ℕ → ℕ → Bool) → ℕ → ℕ → Trees → List Tree
taken test n i no_trees = []
taken test n i (tree t ts) = if test n i then t ∷ taken test n (i + 1) ts else taken test n (i + 1) ts

-- the option of `format` that a key names
abbrev pub option_named : List ℕ → Option Role
option_named key =
    if bytes_eq key (codes "font-scale") then Some Scale
    else if bytes_eq key (codes "text-font") then Some Font
    else if bytes_eq key (codes "text-color") then Some Color
    else None

-- An element as a walk finds it: what the walk makes of it, and of the members where it is an object, each
-- with its key.
abbrev pub Element : Type 0 → Type 0
Element A = A × Option (List (List ℕ × A))
