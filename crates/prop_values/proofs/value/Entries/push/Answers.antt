-- The new entry follows the others: its key differs from theirs, and the index knows its place.
use Rattle.std.proofs.Common.{◌≡◌, [], ◌∷◌, ◌++◌, sym, subst, ap, ◌∙◌}
use Rattle.std.proofs.lemmas.List.{map-append}
use Rattle.key_index.specs.Index.{IsIndexed}
use Rattle.key_index.specs.Keys as index
use Rattle.prop_values.specs.declared.value.Entry.{Entry}
use Rattle.prop_values.specs.Keys.{LacksKey, HasDistinctKeys}
use Rattle.prop_values.specs.ViewParts.{entries_view, entry_keys}
use Rattle.prop_values.proofs.Keys.{entries_push}
use Rattle.prop_values.proofs.IndexSteps.{lacks_entry_key, distinct_entry_keys}
use Rattle.prop_values.proofs.value.Entries.push.Goals as goal

pub note_next-requires-clause-distinct : goal.note_next-requires-clause-distinct
note_next-requires-clause-distinct c =
    let slice : c.as_slice.result.now ≡ c.self.inside.entries.items = c.as_slice.ensures.value ∙ c.reserve.ensures.items in
    subst (λ es. index.HasDistinctKeys (entry_keys es)) (sym slice) (distinct_entry_keys c.self.inside.entries.items c.self.invariant.0)

pub note_next-requires-clause-lacks : goal.note_next-requires-clause-lacks
note_next-requires-clause-lacks c =
    let slice : c.as_slice.result.now ≡ c.self.inside.entries.items = c.as_slice.ensures.value ∙ c.reserve.ensures.items in
    let lacks : LacksKey c.args.key (entries_view c.self.inside.entries.items) = subst (LacksKey c.args.key) (sym c.self.view_is) c.requires in
    subst (λ es. index.LacksKey c.as_str.result.now (entry_keys es)) (sym slice)
    (subst (λ k. index.LacksKey k (entry_keys c.self.inside.entries.items)) (sym c.as_str.ensures) (lacks_entry_key c.args.key c.self.inside.entries.items lacks))

pub invariant_of-self-2 : goal.invariant_of-self-2
invariant_of-self-2 c =
    let es = c.self.inside.entries.items in
    let e : Entry = record { key = c.args.key; value = c.args.value } in
    let slice : c.as_slice.result.now ≡ es = c.as_slice.ensures.value ∙ c.reserve.ensures.items in
    let lacks : LacksKey c.args.key (entries_view es) = subst (LacksKey c.args.key) (sym c.self.view_is) c.requires in
    let added : c.push.new.self.items ≡ es ++ e ∷ [] = c.in_ok-push.ensures.items ∙ ap (λ xs. xs ++ e ∷ []) c.reserve.ensures.items in
    let noted : entry_keys c.as_slice.result.now ++ c.as_str.result.now ∷ [] ≡ entry_keys c.push.new.self.items =
    ap (λ xs. entry_keys xs ++ c.as_str.result.now ∷ []) slice ∙ (ap (λ k. entry_keys es ++ k ∷ []) c.as_str.ensures ∙ (sym (map-append (λ (x : Entry). x.key) es (e ∷ [])) ∙ ap entry_keys (sym added))) in (
      subst (λ xs. HasDistinctKeys (entries_view xs)) (sym added) (entries_push es e c.self.invariant.0 lacks),
      subst (IsIndexed c.note_next.new.self) noted c.in_ok-note_next.ensures.ok,
    )
