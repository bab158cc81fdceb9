use Rattle.decimal_json.specs.View.{path_of, tree_of}
use Rattle.style_rules.proofs.PropertyLaws.{untested_reports}
use Rattle.style_rules.proofs.properties.report_properties.Goals as goal

pub returns-in-None : goal.returns-in-None
returns-in-None c = untested_reports c.args.place (path_of c.args.here.now) c.args.layer_type (tree_of c.args.properties.now) c.args.reports.now c.in-None.is
