use Rattle.std.proofs.Common.{◌∙◌, ap}
use Rattle.std.specs.Prelude.{Bool, Some}
use Rattle.expr_syntax.specs.Mentioned.{nothing}
use Rattle.cell_sources.proofs.FormedExpressions.{filter_formed, filter_mention, filter_seen}
use Rattle.cell_sources.proofs.expressions.migrated_filter.Goals as goal

pub by_form-requires-clause-mentioned : goal.by_form-requires-clause-mentioned
by_form-requires-clause-mentioned c =
    (c.feature_alone-mentioned.ensures ∙ ap (λ (b : Bool). record nothing { feature = b }) c.asks_feature.ensures)
    ∙ filter_mention c.expressions_mean_their_filters.ensures c.args.filter c.requires c.migrated_filters_mention_the_feature.ensures

pub by_form-requires-clause-form : goal.by_form-requires-clause-form
by_form-requires-clause-form c = filter_formed c.expressions_mean_their_filters.ensures c.args.filter c.requires

pub returns-clause-seen : goal.returns-clause-seen
returns-clause-seen c globals =
    ap Some c.by_form.ensures.seen
    ∙ filter_seen c.expressions_mean_their_filters.ensures c.args.filter c.requires c.migrated_filters_use_no_globals.ensures globals
