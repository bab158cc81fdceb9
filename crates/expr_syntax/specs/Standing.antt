-- Whether a tree contains a node of some sort. A node of an unknown or outside name, or with a number of
-- elements that its row does not allow, has no argument nodes.
use Rattle.std.specs.Prelude.{ℕ, ◌+◌, ◌-◌, List, [], ◌∷◌, length, Bool, true, false, not, ◌&&◌, ◌||◌, nat_lt, Option}
use Rattle.std.specs.Prelude.{Some, None, is_none, if◌then◌else◌, codes}
use Rattle.std.specs.Str.{bytes_eq}
use Rattle.decimal_json.specs.Accessors.{is_object}
use Rattle.decimal_json.specs.Tree.{Tree, null, boolean, number, text, list, object, Trees, no_trees, tree, Fields}
use Rattle.decimal_json.specs.Tree.{no_fields, field}
use Rattle.prop_values.specs.declared.outcome.Curve.{Curve}
use Rattle.expr_syntax.specs.declared.names.Name.{Name}
use Rattle.expr_syntax.specs.declared.rows.ElementLayout.{ElementLayout}
use Rattle.expr_syntax.specs.declared.rows.ElementLayout.TheVariants.{Ramp, Sections, Global as GlobalName}
use Rattle.expr_syntax.specs.declared.rows.ElementPlace.{ElementPlace}
use Rattle.expr_syntax.specs.declared.rows.ElementPlace.TheVariants.{Part, Argument, Output}
use Rattle.expr_syntax.specs.declared.standing.Sought.{Sought}
use Rattle.expr_syntax.specs.declared.standing.Sought.TheVariants.{Outside, Global}
use Rattle.expr_syntax.specs.Rows.{allows, element_place}
use Rattle.expr_syntax.specs.Names.{row}
use Rattle.expr_syntax.specs.Elements.{Element, head_text, head_name, second, option_named}
use Rattle.expr_syntax.specs.Parts.{curve_of}

-- ---- which nodes are outside

-- an interpolation that begins with `cubic-bezier`, or with `exponential` and is not of that form
abbrev pub is_outside_curve : Option (List ℕ) → Option Curve → Bool
is_outside_curve (Some s) curve =
    if bytes_eq s (codes "cubic-bezier") then true
    else if bytes_eq s (codes "exponential") then is_none curve
    else false
is_outside_curve None curve = false

abbrev pub outside_curve : Tree → Bool
outside_curve (list ts) = is_outside_curve (head_text ts) (curve_of (list ts))
outside_curve _ = false

abbrev pub outside_ramp : Option Tree → Bool
outside_ramp (Some t) = outside_curve t
outside_ramp None = false

abbrev pub other_options : Fields → Bool
other_options no_fields = false
other_options (field k t fs) = is_none (option_named k) || other_options fs

abbrev pub is_image_node : Option (List ℕ) → Bool
is_image_node (Some s) = bytes_eq s (codes "image")
is_image_node None = false

-- Elements of a `format`: an object directly after a content is one of options. The name is at place 0
-- and is no content.
abbrev pub outside_part : ℕ → Bool → Tree → Bool
outside_part i follows (object fs) = follows && other_options fs
outside_part i follows (list ts) = nat_lt 0 i && is_image_node (head_text ts)
outside_part i follows _ = false

abbrev pub outside_sections : ℕ → Bool → Trees → Bool
outside_sections i follows no_trees = false
outside_sections i follows (tree t ts) =
    outside_part i follows t || outside_sections (i + 1) (nat_lt 0 i && not (is_object t)) ts

abbrev pub layout_outside : ElementLayout → Trees → Bool → Bool
layout_outside Ramp ts format = outside_ramp (second ts)
layout_outside Sections ts format = not format || outside_sections 0 false ts
layout_outside _ ts format = false

-- a node by itself; `format` says whether a `format` node may be here
abbrev pub is_outside_node : Name → Trees → Bool → Bool
is_outside_node name ts format = (row name).is_outside || layout_outside (row name).layout ts format

-- ---- the walk

-- whether a tree contains what is sought, where its root may be a `format` node or not
abbrev pub Walker : Type 0
Walker = Sought → Bool → Bool

abbrev pub is_global_layout : ElementLayout → Bool
is_global_layout GlobalName = true
is_global_layout _ = false

abbrev pub is_format_layout : ElementLayout → Bool
is_format_layout Sections = true
is_format_layout _ = false

abbrev pub is_for_global : Sought → Bool
is_for_global Global = true
is_for_global Outside = false

abbrev pub is_sought : Sought → ElementLayout → Bool
is_sought sought layout = is_for_global sought && is_global_layout layout

-- a `format` node may be where the value of the node may come from
abbrev pub in_element : ElementPlace → Walker → Walker
in_element Part w sought format = false
in_element Argument w sought format = w sought false
in_element Output w sought format = w sought format

abbrev pub some_element : ElementLayout → ℕ → ℕ → List (Element Walker) → Walker
some_element layout n i [] sought format = false
some_element layout n i (e ∷ es) sought format =
    in_element (element_place layout n i) e.0 sought format
    || some_element layout n (i + 1) es sought format

abbrev pub some_option : List (List ℕ × Walker) → Sought → Bool
some_option [] sought = false
some_option (m ∷ ms) sought = m.1 sought false || some_option ms sought

abbrev pub in_section : ℕ → Bool → Option (List (List ℕ × Walker)) → Walker → Sought → Bool
in_section i follows (Some ms) w sought = follows && some_option ms sought
in_section i follows None w sought = nat_lt 0 i && w sought false

abbrev pub some_section : ℕ → Bool → List (Element Walker) → Sought → Bool
some_section i follows [] sought = false
some_section i follows (e ∷ es) sought =
    in_section i follows e.1 e.0 sought || some_section (i + 1) (nat_lt 0 i && is_none e.1) es sought

abbrev pub node_stands : Name → Trees → List (Element Walker) → Walker
node_stands name ts es sought format =
    if is_outside_node name ts format then not (is_for_global sought)
    else if is_sought sought (row name).layout then true
    else if not (allows (row name).arity (length es - 1)) then false
    else if is_format_layout (row name).layout then some_section 0 false es sought
    else some_element (row name).layout (length es) 0 es sought format

abbrev pub array_stands : Option Name → Trees → List (Element Walker) → Walker
array_stands None ts es sought format = false
array_stands (Some name) ts es sought format = node_stands name ts es sought format

abbrev mutual
  pub stands : Tree → Walker
  stands null = λ sought format. false
  stands (boolean b) = λ sought format. false
  stands (number n) = λ sought format. false
  stands (text s) = λ sought format. false
  stands (list ts) = λ sought format. array_stands (head_name ts) ts (elements ts) sought format
  stands (object fs) = λ sought format. false

  pub options : Tree → Option (List (List ℕ × Walker))
  options null = None
  options (boolean b) = None
  options (number n) = None
  options (text s) = None
  options (list ts) = None
  options (object fs) = Some (members fs)

  pub elements : Trees → List (Element Walker)
  elements no_trees = []
  elements (tree t ts) = (stands t, options t) ∷ elements ts

  pub members : Fields → List (List ℕ × Walker)
  members no_fields = []
  members (field k t fs) = (k, stands t) ∷ members fs

-- whether an expression is outside of what is evaluated: one of its nodes is
abbrev pub is_outside : Tree → Bool
is_outside t = stands t Outside true
