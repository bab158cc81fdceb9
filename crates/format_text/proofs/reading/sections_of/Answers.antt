use Rattle.std.proofs.Common.{subst, sym, None}
use Rattle.std.proofs.lemmas.Result.{IfOk-weaker}
use Rattle.decimal_json.specs.Parsed.{Parses}
use Rattle.decimal_json.specs.View.{tree_of}
use Rattle.prop_values.specs.JsonData.{json_data}
use Rattle.format_text.specs.Reading.{SaysSections, sections_of_json}
use Rattle.format_text.proofs.SectionTrees.{says_none, says_some}
use Rattle.format_text.proofs.reading.sections_of.Goals as goal

pub returns-in_default : goal.returns-in_default
returns-in_default c =
    let p = subst (Parses c.as_bytes.result.now) c.in_default.is c.in_ok-json.ensures in
    subst (λ bs. SaysSections bs None) c.as_bytes.ensures.value
    (says_none c.written_numbers_are_read.ensures c.json_numbers_are_read.ensures.only c.written_trees_are_spelled.ensures c.as_bytes.result.now p.2)

pub returns : goal.returns
returns c =
    let p = subst (Parses c.as_bytes.result.now) c.in-Ok.is c.in_ok-json.ensures in
    IfOk-weaker c.sections_in_tree.result _ _
    (λ r e. subst (SaysSections c.args.text.now) (sym e) (subst (λ bs. SaysSections bs (sections_of_json (json_data (tree_of c.in-Ok.json)))) c.as_bytes.ensures.value
    (says_some c.written_numbers_are_read.ensures c.json_numbers_are_read.ensures.only c.written_trees_are_spelled.ensures c.as_bytes.result.now (tree_of c.in-Ok.json) p.1)))
    c.sections_in_tree.ensures
