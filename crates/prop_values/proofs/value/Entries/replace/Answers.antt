use Rattle.std.proofs.Common.{◌≡◌, ◌+◌, ap, ◌∙◌, sym, subst, arith, None, Some}
use Rattle.prop_values.specs.Keys.{keys}
use Rattle.prop_values.specs.MergeSteps.{replaced}
use Rattle.key_index.specs.Index.{IsIndexed}
use Rattle.key_index.specs.Keys.{place_from}
use Rattle.prop_values.specs.View.{data_of}
use Rattle.prop_values.specs.ViewParts.{entries_view}
use Rattle.prop_values.specs.declared.value.Entry.{Entry}
use Rattle.prop_values.proofs.IndexSteps.{found_within, keys_seen}
use Rattle.prop_values.proofs.Replacing.{view_replaced, replaced_none, keys_replaced, distinct_same}
use Rattle.prop_values.proofs.value.Entries.replace.Goals as goal

pub put_value-requires : goal.put_value-requires
put_value-requires c =
    let found : place_from 0 c.args.key.now (keys (entries_view c.self.inside.entries.items)) ≡ Some c.in-Some.place = cc in
    found_within c.args.key.now c.self.inside.entries.items c.in-Some.place found

pub invariant_of-self : goal.invariant_of-self
invariant_of-self c =
    let found : place_from 0 c.args.key.now (keys (entries_view c.self.inside.entries.items)) ≡ Some c.in-Some.place = cc in
    let counted : c.in-Some.place ≡ 0 + c.in-Some.place = omega arith in
    let e : Entry = record { key = c.args.key.now; value = c.args.value } in
    let before = entries_view c.self.inside.entries.items in
    let after = entries_view c.put_value.new.entries.items in
    let seen : after ≡ replaced c.args.key.now (data_of c.args.value) before =
    ap entries_view (c.put_value.ensures e) ∙ view_replaced 0 c.args.key.now c.self.inside.entries.items c.args.value e c.in-Some.place (found ∙ ap Some counted) in
    let same : keys before ≡ keys after = sym (ap keys seen ∙ keys_replaced c.args.key.now (data_of c.args.value) before) in
    let kept = sym (keys_seen c.self.inside.entries.items) ∙ (same ∙ keys_seen c.put_value.new.entries.items) in
    (distinct_same before after same c.self.invariant.0, subst (IsIndexed c.self.inside.index) kept c.self.invariant.1)

pub returns-in-Some : goal.returns-in-Some
returns-in-Some c =
    let found : place_from 0 c.args.key.now (keys (entries_view c.self.inside.entries.items)) ≡ Some c.in-Some.place = cc in
    let counted : c.in-Some.place ≡ 0 + c.in-Some.place = omega arith in
    let e : Entry = record { key = c.args.key.now; value = c.args.value } in
    ap entries_view (c.put_value.ensures e) ∙
    (view_replaced 0 c.args.key.now c.self.inside.entries.items c.args.value e c.in-Some.place (found ∙ ap Some counted) ∙ ap (replaced c.args.key.now (data_of c.args.value)) c.self.view_is)

pub returns-in_default : goal.returns-in_default
returns-in_default c =
    let none : place_from 0 c.args.key.now (keys c.args.self.now) ≡ None = cc in
    sym (replaced_none 0 c.args.key.now (data_of c.args.value) c.args.self.now none)
