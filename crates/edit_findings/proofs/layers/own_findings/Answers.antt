use Rattle.std.proofs.Common.{ap, ◌∙◌}
use Rattle.std.proofs.lemmas.Result.{IfOk-weaker}
use Rattle.std.specs.Option.{option_and_then}
use Rattle.decimal_json.specs.Tree.{trees_of}
use Rattle.decimal_json.specs.View.{tree_of}
use Rattle.style_edits.specs.Layers.{layer_list}
use Rattle.style_edits.specs.Places.{layer_place}
use Rattle.style_parts.specs.Parts.{sources_of}
use Rattle.style_rules.specs.CodeView.{has_name}
use Rattle.style_rules.specs.Findings.{findings_in}
use Rattle.style_rules.specs.Places.{used_in}
use Rattle.edit_findings.proofs.AgreeLaws.{layer_agrees}
use Rattle.edit_findings.specs.FoundAfter.{layer_path}
use Rattle.edit_findings.proofs.layers.own_findings.Goals as goal

pub returns : goal.returns
returns c =
    let document = tree_of c.args.document.now in
    let ts = layer_list document in
    IfOk-weaker c.layer_findings.result _ _ (λ found is. is ∙ ap findings_in
    (layer_agrees (has_name c.in_ok-used.used) (used_in (trees_of ts) c.args.place) (sources_of document) (layer_path c.args.place)
    (tree_of c.args.layer.now) c.documents_have_distinct_members.ensures (λ s e. c.in_ok-used.ensures s (c.text_id.ensures ∙ e)
    ∙ c.is_before.ensures ts s (c.requires ∙ ap (option_and_then (layer_place ts)) e)))) c.layer_findings.ensures
