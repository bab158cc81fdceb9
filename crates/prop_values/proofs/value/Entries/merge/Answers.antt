use Rattle.std.proofs.Common.{◌≡◌, List, [], ◌∷◌, length, arith, ap, ◌∙◌, sym, refl}
use Rattle.std.specs.Prelude.{vec_len}
use Rattle.std.proofs.lemmas.Bool.{eqb-true}
use Rattle.prop_values.proofs.ChangeLaws.{at_merged}
use Rattle.prop_values.specs.Changes.{merged}
use Rattle.prop_values.specs.Data.{pairs_of}
use Rattle.prop_values.specs.Equality.{at_key}
use Rattle.prop_values.specs.MergeSteps.{with_keys, all_replaced}
use Rattle.prop_values.specs.ViewParts.{entries_view}
use Rattle.prop_values.specs.declared.value.Entry.{Entry}
use Rattle.prop_values.proofs.Merging.{merged_none, all_merged}
use Rattle.prop_values.proofs.value.Entries.merge.Goals as goal

none_seen : (es : List Entry) → length es ≡ 0 → entries_view es ≡ []
none_seen [] e = refl
none_seen (x ∷ es) e = absurd (omega arith)

pub returns-then-is_empty-clause-ok : goal.returns-then-is_empty-clause-ok
returns-then-is_empty-clause-ok c =
    let empty : vec_len c.self.inside.entries ≡ 0 = eqb-true (vec_len c.self.inside.entries) 0 (sym c.is_empty.ensures ∙ c.if-is_empty.true) in
    let none : c.args.self.now ≡ [] = sym c.self.view_is ∙ none_seen c.self.inside.entries.items (omega arith) in
    c.members.view_is ∙ sym (ap (λ ps. merged ps c.args.members) none ∙ merged_none c.args.members c.as_slice-given.ensures.distinct)

pub returns-in-Ok-clause-ok : goal.returns-in-Ok-clause-ok
returns-in-Ok-clause-ok c =
    c.replace_all.ensures ∙
    (ap (λ ps. all_replaced ps c.args.members) (c.in-Ok.ensures.ok ∙ ap (with_keys c.args.self.now) c.as_slice-given.ensures.entries) ∙ all_merged c.args.members c.args.self.now)

pub returns-then-is_empty-clause-at : goal.returns-then-is_empty-clause-at
returns-then-is_empty-clause-at c = λ q.
    ap (λ ps. at_key q (pairs_of ps)) (returns-then-is_empty-clause-ok c) ∙ at_merged c.args.self.now c.args.members c.as_slice-given.ensures.distinct q

pub returns-in-Ok-clause-at : goal.returns-in-Ok-clause-at
returns-in-Ok-clause-at c = λ q. ap (λ ps. at_key q (pairs_of ps)) (returns-in-Ok-clause-ok c) ∙ at_merged c.args.self.now c.args.members c.as_slice-given.ensures.distinct q
