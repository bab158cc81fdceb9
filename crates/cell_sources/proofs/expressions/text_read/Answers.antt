use Rattle.std.proofs.Common.{◌∙◌, ap}
use Rattle.std.specs.Prelude.{Bool, Some}
use Rattle.property_tables.specs.RowView.{row_seen}
use Rattle.expr_syntax.specs.Mentioned.{nothing}
use Rattle.legacy_functions.specs.Tokens.{has_tokens}
use Rattle.cell_sources.proofs.FormedExpressions.{tokens_formed, tokens_mention, tokens_seen}
use Rattle.cell_sources.proofs.expressions.text_read.Goals as goal

pub by_form-requires-clause-mentioned : goal.by_form-requires-clause-mentioned
by_form-requires-clause-mentioned c =
    (c.feature_alone-mentioned.ensures ∙ ap (λ (b : Bool). record nothing { feature = b }) (c.has_tokens.ensures ∙ ap has_tokens c.as_str.ensures))
    ∙ tokens_mention c.token_expressions_mean_their_texts.ensures c.args.text.now c.migrated_token_texts_mention_the_feature.ensures
    (row_seen c.args.row.now).want c.in_ok-form.form c.in_ok-form.ensures

pub by_form-requires-clause-form : goal.by_form-requires-clause-form
by_form-requires-clause-form c =
    tokens_formed c.token_expressions_mean_their_texts.ensures c.args.text.now (row_seen c.args.row.now).want c.in_ok-form.form c.in_ok-form.ensures

pub returns-clause-seen : goal.returns-clause-seen
returns-clause-seen c globals =
    ap Some c.by_form.ensures.seen
    ∙ tokens_seen c.token_expressions_mean_their_texts.ensures c.args.text.now c.migrated_token_texts_use_no_globals.ensures
    (row_seen c.args.row.now) c.in_ok-form.form c.in_ok-form.ensures c.is_paint.result c.is_paint.ensures globals
