use Rattle.legacy_laws.proofs.LegacyFunctionLaws.{migrated_token_texts}
use Rattle.legacy_laws.proofs.laws.migrated_token_texts_are_typed.Goals as goal

pub returns : goal.returns
returns c = migrated_token_texts
