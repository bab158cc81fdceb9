use Rattle.std.proofs.Common.{◌≡◌, take, sym, ap, subst, ◌∙◌}
use Rattle.std.proofs.lemmas.List.{take-map}
use Rattle.key_index.specs.Index.{IsIndexed}
use Rattle.key_index.specs.Keys as index
use Rattle.prop_values.specs.Keys.{HasDistinctKeys}
use Rattle.prop_values.specs.ViewParts.{entry_view, entries_view, entry_keys}
use Rattle.prop_values.proofs.IndexSteps.{distinct_entry_keys}
use Rattle.prop_values.proofs.Removing.{distinct_front}
use Rattle.prop_values.proofs.value.Entries.truncate.Goals as goal

pub renew-requires : goal.renew-requires
renew-requires c =
    let es = c.self.inside.entries.items in
    let left : c.as_slice.result.now ≡ take c.args.count es = c.as_slice.ensures.value ∙ c.truncate.ensures.items in
    subst (λ xs. index.HasDistinctKeys (entry_keys xs)) (sym left) (distinct_entry_keys (take c.args.count es) (distinct_front c.args.count es c.self.invariant.0))

pub invariant_of-self : goal.invariant_of-self
invariant_of-self c = (
  subst (λ xs. HasDistinctKeys (entries_view xs)) (sym c.truncate.ensures.items) (distinct_front c.args.count c.self.inside.entries.items c.self.invariant.0),
  subst (λ xs. IsIndexed c.renew.new.self (entry_keys xs)) c.as_slice.ensures.value c.renew.ensures,
)

pub returns : goal.returns
returns c =
    ap entries_view c.truncate.ensures.items ∙ (sym (take-map entry_view c.args.count c.self.inside.entries.items) ∙ ap (take c.args.count) c.self.view_is)
