use Rattle.style_laws.proofs.MentionLaws.{filters_go_by_their_mentions}
use Rattle.style_laws.proofs.laws.filters_go_by_their_mentions.Goals as goal

pub returns : goal.returns
returns c =
    filters_go_by_their_mentions (record {
      agreeing = c.agreeing_worlds_give_one_meaning.ensures;
      functions_mean = c.expressions_mean_their_functions.ensures;
      texts_mean = c.token_expressions_mean_their_texts.ensures;
      filters_mean = c.expressions_mean_their_filters.ensures;
    })
