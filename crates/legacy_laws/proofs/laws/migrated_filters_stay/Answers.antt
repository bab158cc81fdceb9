use Rattle.legacy_laws.proofs.LegacyFilterLaws as laws
use Rattle.legacy_laws.proofs.laws.migrated_filters_stay.Goals as goal

pub returns : goal.returns
returns c = laws.migrated_filters_stay c.expressions_are_not_legacy.ensures
