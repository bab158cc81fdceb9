-- The members of a layer that rules on other members read, and the rules at a layer by them.
use Rattle.std.specs.Prelude.{ℕ, List, codes, true, ◌||◌, ◌&&◌, Option, Some, None, is_some, is_none, if◌then◌else◌}
use Rattle.std.specs.Str.{bytes_eq}
use Rattle.std.specs.Option.{option_and_then}
use Rattle.decimal_json.specs.Tree.{Tree, Fields}
use Rattle.decimal_json.specs.Accessors.{member, has, text_in}
use Rattle.property_tables.specs.declared.layer_type.LayerType.{LayerType}
use Rattle.value_forms.specs.LayerTypes.{type_in}
use Rattle.style_rules.specs.CodeView.{MemberTrees}
use Rattle.style_rules.specs.LayerContext.{LayerContext, sources_for, named_type}
use Rattle.style_rules.specs.Rules.{is_on_vector}

abbrev pub parts_of : Tree → MemberTrees
parts_of layer = record {
  id = member (codes "id") layer;
  layer_type = member (codes "type") layer;
  source = member (codes "source") layer;
  source_layer = member (codes "source-layer") layer;
  has_ref = has (codes "ref") layer;
}

-- with one member more
abbrev pub with_member : MemberTrees → List ℕ → Tree → MemberTrees
with_member p key t =
    if bytes_eq key (codes "id") then record p { id = Some t } else
    if bytes_eq key (codes "type") then record p { layer_type = Some t } else
    if bytes_eq key (codes "source") then record p { source = Some t } else
    if bytes_eq key (codes "source-layer") then record p { source_layer = Some t } else
    if bytes_eq key (codes "ref") then record p { has_ref = true } else
    p

abbrev pub type_by_parts : MemberTrees → Option LayerType
type_by_parts p = if p.has_ref then None else option_and_then type_in p.layer_type

abbrev pub context_typed : Option Fields → MemberTrees → Option LayerType → LayerContext
context_typed sources p type = record {
  type = type;
  sources = sources_for sources type;
  source_type = named_type (sources_for sources type) (option_and_then text_in p.source);
}

abbrev pub context_by_parts : Option Fields → MemberTrees → LayerContext
context_by_parts sources p = context_typed sources p (type_by_parts p)

-- the least rule that breaks at a layer
abbrev pub layer_rule : LayerContext → MemberTrees → Option ℕ
layer_rule context p =
    if is_none p.id then Some 7 else
    if is_none p.layer_type || p.has_ref then Some 9 else
    if is_some context.sources && is_none p.source then Some 10 else
    if is_on_vector context && is_none p.source_layer then Some 12 else
    None
