use Rattle.std.proofs.Common.{◌≡◌, sym, ap, ◌∙◌, subst, Some, None, arith}
use Rattle.key_index.specs.Index.{IsIndexed}
use Rattle.key_index.specs.Keys.{place_from}
use Rattle.decimal_json.specs.declared.tree.Member.{Member}
use Rattle.decimal_json.specs.Tree.{fields_of, field_at}
use Rattle.decimal_json.specs.Sound.{HasDistinctKeys}
use Rattle.decimal_json.specs.Editing.{replaced_members}
use Rattle.decimal_json.specs.View.{tree_of, members_view, member_keys}
use Rattle.decimal_json.proofs.Places.{found_within, value_placed, no_value}
use Rattle.decimal_json.proofs.Edits.{revalued, view_replaced, nothing_replaced, distinct_revalued, keys_revalued}
use Rattle.decimal_json.proofs.tree.Members.replace.Goals as goal

pub put_value-requires : goal.put_value-requires
put_value-requires c =
    let ms = c.self.inside.members.items in
    let found : place_from 0 c.args.key.now (member_keys ms) ≡ Some c.in-Some.place = cc in
    omega (arith, found_within c.args.key.now ms c.in-Some.place found)

pub invariant_of-self : goal.invariant_of-self
invariant_of-self c =
    let ms = c.self.inside.members.items in
    let m : Member = record { key = c.args.key.now; value = c.args.value } in
    let made : c.put_value.new.members.items ≡ revalued ms c.in-Some.place c.args.value m = c.put_value.ensures.put m in (
      subst (λ xs. HasDistinctKeys (members_view xs)) (sym made) (distinct_revalued ms c.in-Some.place c.args.value m c.self.invariant.0),
      subst (IsIndexed c.self.inside.index) (sym (ap member_keys made ∙ keys_revalued ms c.in-Some.place c.args.value m)) c.self.invariant.1,
    )

pub returns-in-None-clause-value : goal.returns-in-None-clause-value
returns-in-None-clause-value c =
    let ms = c.self.inside.members.items in
    let none : place_from 0 c.args.key.now (member_keys ms) ≡ None = cc in
    sym (no_value 0 c.args.key.now ms none) ∙ ap (λ xs. field_at c.args.key.now (fields_of xs)) c.self.view_is

pub returns-in-None-clause-put : goal.returns-in-None-clause-put
returns-in-None-clause-put c =
    let ms = c.self.inside.members.items in
    let t = tree_of c.args.value in
    let none : place_from 0 c.args.key.now (member_keys ms) ≡ None = cc in
    sym c.self.view_is ∙ (sym (nothing_replaced 0 c.args.key.now t ms none) ∙ ap (replaced_members c.args.key.now t) c.self.view_is)

pub returns-in-Some-clause-value : goal.returns-in-Some-clause-value
returns-in-Some-clause-value c =
    let ms = c.self.inside.members.items in
    let m : Member = record { key = c.args.key.now; value = c.args.value } in
    let found : place_from 0 c.args.key.now (member_keys ms) ≡ Some c.in-Some.place = cc in
    ap (λ x. Some (tree_of x)) (c.put_value.ensures.old m) ∙ (sym (value_placed c.args.key.now ms c.in-Some.place m found) ∙ ap (λ xs. field_at c.args.key.now (fields_of xs)) c.self.view_is)

pub returns-in-Some-clause-put : goal.returns-in-Some-clause-put
returns-in-Some-clause-put c =
    let ms = c.self.inside.members.items in
    let t = tree_of c.args.value in
    let m : Member = record { key = c.args.key.now; value = c.args.value } in
    let found : place_from 0 c.args.key.now (member_keys ms) ≡ Some c.in-Some.place = cc in
    ap members_view (c.put_value.ensures.put m) ∙ (view_replaced c.args.key.now ms c.args.value m c.in-Some.place found ∙ ap (replaced_members c.args.key.now t) c.self.view_is)
