use Rattle.std.proofs.Common.{◌<◌, length, arith}
use Rattle.decimal_json.specs.View.{tree_of}
use Rattle.legacy_functions.specs.FunctionView.{default_tree, property_tree}
use Rattle.legacy_functions.specs.ToExpression.{zoom_expression}
use Rattle.legacy_functions.specs.View.{way_seen}
use Rattle.legacy_functions.proofs.ExpressionLaws.{zoom_pushed}
use Rattle.legacy_functions.proofs.expression.zoom_step_expression.Goals as goal

pub returns : goal.returns
returns c =
    let f = c.args.function.now in
    let rules = c.args.rules.now in
    let more : 1 < length rules = omega arith in
    zoom_pushed zoom_expression (property_tree f) (default_tree f) (way_seen f.way) rules c.index-rules-0.result (tree_of c.in_ok-zoom_json.field-0) (tree_of c.in_ok-first.first)
    c.in_ok-items.items c.push.new.self c.push-2.new.self c.push_rules.new.items more
    c.in_ok-items.ensures c.in_ok-push.ensures.ok c.in_ok-push-2.ensures.ok c.in_ok-push_rules.ensures c.in_ok-zoom_json.ensures c.in_ok-first.ensures
