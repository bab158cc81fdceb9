use Rattle.std.proofs.Common.{sym, ap, ◌∙◌}
use Rattle.key_index.specs.Keys.{place_from}
use Rattle.prop_values.specs.Keys.{keys}
use Rattle.prop_values.specs.ViewParts.{entry_keys}
use Rattle.prop_values.proofs.IndexSteps.{keys_seen}
use Rattle.prop_values.proofs.value.Entries.place_of.Goals as goal

pub returns : goal.returns
returns c = c.find.ensures ∙ ap (place_from 0 c.args.key.now) (ap entry_keys c.as_slice.ensures.value ∙ (sym (keys_seen c.self.inside.entries.items) ∙ ap keys c.self.view_is))
