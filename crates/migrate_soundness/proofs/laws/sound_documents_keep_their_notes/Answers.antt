use Rattle.migrate_soundness.proofs.SoundDocuments.{keep_notes}
use Rattle.migrate_soundness.proofs.laws.sound_documents_keep_their_notes.Goals as goal

pub returns : goal.returns
returns c =
    keep_notes (record {
      functions_mean = c.expressions_mean_their_functions.ensures;
      functions_typed = c.migrated_functions_are_typed.ensures;
      texts_mean = c.token_expressions_mean_their_texts.ensures;
      texts_typed = c.migrated_token_texts_are_typed.ensures;
      filters_mean = c.expressions_mean_their_filters.ensures;
      filters_typed = c.migrated_filters_are_typed.ensures;
      filters_apart = c.expressions_are_not_legacy.ensures;
    }) c.findings_go_by_levels.ensures
