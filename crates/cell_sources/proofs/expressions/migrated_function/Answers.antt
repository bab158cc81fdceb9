use Rattle.std.proofs.Common.{◌∙◌, ap}
use Rattle.std.specs.Prelude.{Some}
use Rattle.property_tables.specs.RowView.{row_seen}
use Rattle.cell_sources.proofs.FormedExpressions.{function_formed, function_mention, function_seen}
use Rattle.cell_sources.proofs.expressions.migrated_function.Goals as goal

pub by_form-requires-clause-mentioned : goal.by_form-requires-clause-mentioned
by_form-requires-clause-mentioned c =
    c.function_mentions-mentioned.ensures
    ∙ function_mention c.expressions_mean_their_functions.ensures c.args.function c.requires.read c.migrated_functions_mention_the_same.ensures

pub by_form-requires-clause-form : goal.by_form-requires-clause-form
by_form-requires-clause-form c =
    function_formed c.expressions_mean_their_functions.ensures c.args.function c.requires.read (row_seen c.args.row.now) c.requires.row

pub returns-clause-seen : goal.returns-clause-seen
returns-clause-seen c globals =
    ap Some c.by_form.ensures.seen
    ∙ function_seen c.expressions_mean_their_functions.ensures c.args.function c.requires.read c.migrated_functions_use_no_globals.ensures
    (row_seen c.args.row.now) c.requires.row c.is_paint.result c.is_paint.ensures globals
