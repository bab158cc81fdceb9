use Rattle.std.proofs.Common.{◌≡◌, ◌∙◌, ℕ, List, map, Some, ap, sym, subst}
use Rattle.std.specs.Borrow.{Bor}
use Rattle.std.specs.Prelude.{IfSome, option_map, slice_get}
use Rattle.std.specs.Option.{option_and_then}
use Rattle.decimal_json.specs.View.{tree_of}
use Rattle.style_layout.specs.CodeView.{document_layer, document_property}
use Rattle.style_layout.specs.Layers.{property_named, sort_row}
use Rattle.style_layout.specs.declared.properties.Property.{Property}
use Rattle.style_layout.proofs.document_layer.DocumentLayer.sort_property.Goals as goal

pub returns-in-Some-clause-property : goal.returns-in-Some-clause-property
returns-in-Some-clause-property c =
    let layer = c.args.self.now in
    let row : Some c.in-Some.name.now ≡ sort_row layer.prepared.now.layer_type =
    ap (option_map (λ (name : Bor (List ℕ)). name.now)) (sym c.in-Some.is) ∙ c.sort_row.ensures in
    c.property_named.ensures.property layer.globals.now (tree_of layer.json.now)
    ∙ (ap (λ (ps : List Property). property_named c.in-Some.name.now (map (document_property layer) ps)) c.as_slice.ensures.value
    ∙ ap (option_and_then (λ name. property_named name (document_layer layer).properties)) row)

pub returns-in-Some-clause-place : goal.returns-in-Some-clause-place
returns-in-Some-clause-place c =
    let layer = c.args.self.now in
    subst (λ (ps : List Property). IfSome c.property_named.result (λ sort. slice_get (map (document_property layer) ps) sort.place
    ≡ Some (document_property layer sort.property.now))) c.as_slice.ensures.value
    (c.property_named.ensures.place layer.globals.now (tree_of layer.json.now))
