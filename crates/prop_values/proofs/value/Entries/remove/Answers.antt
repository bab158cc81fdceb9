use Rattle.std.proofs.Common.{◌≡◌, ◌+◌, List, Some, None, sym, ap, ◌∙◌, arith, subst}
use Rattle.prop_values.proofs.ChangeLaws.{at_without}
use Rattle.prop_values.specs.Data.{pairs_of}
use Rattle.prop_values.specs.Keys.{HasDistinctKeys, keys}
use Rattle.prop_values.specs.Equality.{at_key}
use Rattle.prop_values.specs.Changes.{without_key}
use Rattle.key_index.specs.Index.{IsIndexed}
use Rattle.key_index.specs.Keys as index
use Rattle.key_index.specs.Keys.{place_from, taken_out}
use Rattle.key_index.proofs.Taken.{map_taken}
use Rattle.prop_values.specs.ViewParts.{entry_view, entries_view, entry_keys}
use Rattle.prop_values.specs.declared.value.Entry.{Entry}
use Rattle.prop_values.proofs.IndexSteps.{found_within, distinct_entry_keys}
use Rattle.prop_values.proofs.Removing.{taken_key, without_none, distinct_without}
use Rattle.prop_values.proofs.value.Entries.remove.Goals as goal

pub returns-in_default-clause-left : goal.returns-in_default-clause-left
returns-in_default-clause-left c =
    let none : place_from 0 c.args.key.now (keys c.args.self.now) ≡ None = cc in
    sym (without_none 0 c.args.key.now c.args.self.now none)

pub note_taken-requires-clause-distinct : goal.note_taken-requires-clause-distinct
note_taken-requires-clause-distinct c =
    subst (λ es. index.HasDistinctKeys (entry_keys es)) (sym c.as_slice.ensures.value) (distinct_entry_keys c.self.inside.entries.items c.self.invariant.0)

pub note_taken-requires-clause-within : goal.note_taken-requires-clause-within
note_taken-requires-clause-within c =
    let found : place_from 0 c.args.key.now (keys (entries_view c.self.inside.entries.items)) ≡ Some c.in-Some.place = cc in
    let within = found_within c.args.key.now c.self.inside.entries.items c.in-Some.place found in
    omega (arith, within)

pub take_out-requires : goal.take_out-requires
take_out-requires c =
    let found : place_from 0 c.args.key.now (keys (entries_view c.self.inside.entries.items)) ≡ Some c.in-Some.place = cc in
    found_within c.args.key.now c.self.inside.entries.items c.in-Some.place found

pub invariant_of-self : goal.invariant_of-self
invariant_of-self c =
    let es = c.self.inside.entries.items in
    let found : place_from 0 c.args.key.now (keys (entries_view es)) ≡ Some c.in-Some.place = cc in
    let counted : c.in-Some.place ≡ 0 + c.in-Some.place = omega arith in
    let without = map_taken entry_view c.in-Some.place es ∙ taken_key 0 c.args.key.now (entries_view es) c.in-Some.place (found ∙ ap Some counted) in (
      subst HasDistinctKeys (sym (ap entries_view c.take_out.ensures ∙ without)) (distinct_without c.args.key.now (entries_view es) c.self.invariant.0),
      subst (IsIndexed c.note_taken.new.self)
          (ap (λ (xs : List Entry). taken_out c.in-Some.place (entry_keys xs)) c.as_slice.ensures.value ∙ (sym (map_taken (λ (e : Entry). e.key) c.in-Some.place es) ∙ ap entry_keys (sym c.take_out.ensures)))
          c.note_taken.ensures,
    )

pub returns-clause-left : goal.returns-clause-left
returns-clause-left c =
    let es = c.self.inside.entries.items in
    let found : place_from 0 c.args.key.now (keys (entries_view es)) ≡ Some c.in-Some.place = cc in
    let counted : c.in-Some.place ≡ 0 + c.in-Some.place = omega arith in
    ap entries_view c.take_out.ensures ∙ (map_taken entry_view c.in-Some.place es ∙ (taken_key 0 c.args.key.now (entries_view es) c.in-Some.place (found ∙ ap Some counted) ∙ ap (without_key c.args.key.now) c.self.view_is))

pub returns-in_default-clause-at : goal.returns-in_default-clause-at
returns-in_default-clause-at c = λ q.
    ap (λ ps. at_key q (pairs_of ps)) (returns-in_default-clause-left c) ∙ at_without c.args.key.now c.args.self.now (subst HasDistinctKeys c.self.view_is c.self.invariant.0) q

pub returns-clause-at : goal.returns-clause-at
returns-clause-at c = λ q.
    ap (λ ps. at_key q (pairs_of ps)) (returns-clause-left c) ∙ at_without c.args.key.now c.args.self.now (subst HasDistinctKeys c.self.view_is c.self.invariant.0) q
