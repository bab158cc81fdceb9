use Rattle.legacy_laws.proofs.LegacyFunctionLaws.{migrated_functions}
use Rattle.legacy_laws.proofs.laws.migrated_functions_are_typed.Goals as goal

pub returns : goal.returns
returns c = migrated_functions
