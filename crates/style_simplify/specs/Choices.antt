-- What a node may become, and which of these it becomes. Source: own.
use Rattle.std.specs.Prelude.{codes, Bool, false, not, ◌&&◌, Option, Some, None, if◌then◌else◌}
use Rattle.decimal_json.specs.Tree.{Tree, list}
use Rattle.prop_values.specs.declared.kinds.Kind.{Kind}
use Rattle.prop_values.specs.declared.kinds.Want.{Want}
use Rattle.expr_types.specs.Fits.{same_kind}
use Rattle.style_simplify.specs.Folding.{folded}
use Rattle.style_simplify.specs.Literals.{begins_with}
use Rattle.style_simplify.specs.SimpleElements.{SimpleElement}

-- a node whose arguments are simplified, the literal that it means, and what it becomes by its operator
pub record NodeChoices : Type 0 where
  pub node : SimpleElement
  pub literal : Option SimpleElement
  pub shorter : Option SimpleElement

abbrev pub choices_of : Want → SimpleElement → Option SimpleElement → NodeChoices
choices_of want node shorter = record { node = node; literal = folded want node; shorter = shorter }

-- What has a type fault has no kind, and none is the same as that.
abbrev pub same_found : Option Kind → Option Kind → Bool
same_found (Some k) (Some j) = same_kind k j
same_found _ _ = false

abbrev pub is_image : Tree → Bool
is_image (list ts) = begins_with (codes "image") ts
is_image t = false

-- It has the kind of the node, and a content of a `format` is no image.
abbrev pub may_replace : Bool → SimpleElement → SimpleElement → Bool
may_replace is_content e node = same_found e.kind node.kind && not (is_content && is_image e.tree)

abbrev pub if_may : Bool → SimpleElement → Option SimpleElement → SimpleElement → SimpleElement
if_may is_content node (Some e) other = if may_replace is_content e node then e else other
if_may is_content node None other = other

-- the first that may be
abbrev pub chosen : Bool → NodeChoices → SimpleElement
chosen is_content c = if_may is_content c.node c.literal (if_may is_content c.node c.shorter c.node)
