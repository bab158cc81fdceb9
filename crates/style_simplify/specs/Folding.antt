-- A node that reads nothing and asks for no name becomes the literal that it means, where that is null, a truth
-- value, a number or a text. Source: own.
use Rattle.std.specs.Prelude.{ℕ, pos, List, [], ◌∷◌, Bool, true, false, not, ◌&&◌, Option, Some, None, Ok, Err}
use Rattle.std.specs.Prelude.{if◌then◌else◌}
use Rattle.decimal_json.specs.Tree.{Tree, list}
use Rattle.prop_values.specs.declared.kinds.Want.{Want}
use Rattle.prop_values.specs.declared.kinds.Want.TheVariants as wants
use Rattle.host_ops.specs.Script.{is_plain}
use Rattle.expr_syntax.specs.Reading.{Reading, reading}
use Rattle.operator_values.specs.Evaluated.{Evaluated}
use Rattle.eval_face.specs.Meaning.{mean}
use Rattle.eval_face.specs.World.{World, feature_world, no_feature}
use Rattle.style_simplify.specs.Literals.{bare_literal, literal_element}
use Rattle.style_simplify.specs.SimpleElements.{SimpleElement}

-- Where a text is shown, the value itself decides.
abbrev pub folding_want : Want → Want
folding_want wants.Shown = wants.Any
folding_want want = want

-- a world for what reads nothing of it
abbrev pub unread_world : World
unread_world = feature_world (pos 0) no_feature [] is_plain is_plain

abbrev pub bare_or_none : Evaluated → Option Tree
bare_or_none (Ok d) = bare_literal d
bare_or_none (Err fault) = None

abbrev pub literal_of_reading : Want → Reading → Option Tree
literal_of_reading want (Ok (Some e)) = bare_or_none (mean e (folding_want want) [] unread_world)
literal_of_reading want (Ok None) = None
literal_of_reading want (Err fault) = None

-- a bare literal stays as it is spelled
abbrev pub literal_of : Want → Tree → Option Tree
literal_of want (list ts) = literal_of_reading want (reading (list ts))
literal_of want t = None

abbrev pub is_empty : List (List ℕ) → Bool
is_empty [] = true
is_empty (name ∷ names) = false

-- nothing around it decides what it means
abbrev pub is_closed : SimpleElement → Bool
is_closed e = is_empty e.asks && not e.reads

abbrev pub as_literal : Want → Option Tree → Option SimpleElement
as_literal want (Some t) = Some (literal_element want t)
as_literal want None = None

abbrev pub folded : Want → SimpleElement → Option SimpleElement
folded want node = if is_closed node then as_literal want (literal_of want node.tree) else None
