use Rattle.std.proofs.Common.{◌≡◌, sym, ap, ◌∙◌, subst, Some, None, arith}
use Rattle.std.specs.Prelude.{remove}
use Rattle.key_index.specs.Index.{IsIndexed}
use Rattle.key_index.specs.Keys as key
use Rattle.key_index.specs.Keys.{place_from}
use Rattle.decimal_json.specs.Tree.{fields_of, field_at}
use Rattle.decimal_json.specs.Sound.{HasDistinctKeys}
use Rattle.decimal_json.specs.Editing.{members_without}
use Rattle.decimal_json.specs.View.{members_view, member_keys}
use Rattle.decimal_json.proofs.Places.{found_within, found_value, no_value, distinct_member_keys}
use Rattle.decimal_json.proofs.Edits.{view_without, nothing_removed, distinct_removed}
use Rattle.decimal_json.proofs.tree.Members.remove.Goals as goal

pub remove-value-requires : goal.remove-value-requires
remove-value-requires c =
    let ms = c.self.inside.members.items in
    let found : place_from 0 c.args.key.now (member_keys ms) ≡ Some c.in-Some.place = cc in
    omega (arith, found_within c.args.key.now ms c.in-Some.place found)

pub renew-requires : goal.renew-requires
renew-requires c =
    let ms = c.self.inside.members.items in
    let left : c.as_slice-in-Some.result.now ≡ remove ms c.in-Some.place = c.as_slice-in-Some.ensures.value ∙ c.remove-value.ensures.items in
    subst (λ xs. key.HasDistinctKeys (member_keys xs)) (sym left) (distinct_member_keys (remove ms c.in-Some.place) (distinct_removed ms c.in-Some.place c.self.invariant.0))

pub invariant_of-self : goal.invariant_of-self
invariant_of-self c =
    let ms = c.self.inside.members.items in (
      subst (λ xs. HasDistinctKeys (members_view xs)) (sym c.remove-value.ensures.items) (distinct_removed ms c.in-Some.place c.self.invariant.0),
      subst (λ xs. IsIndexed c.renew.new.self (member_keys xs)) c.as_slice-in-Some.ensures.value c.renew.ensures,
    )

pub returns-in-None-clause-value : goal.returns-in-None-clause-value
returns-in-None-clause-value c =
    let ms = c.self.inside.members.items in
    let none : place_from 0 c.args.key.now (member_keys ms) ≡ None = cc in
    sym (no_value 0 c.args.key.now ms none) ∙ ap (λ xs. field_at c.args.key.now (fields_of xs)) c.self.view_is

pub returns-in-None-clause-left : goal.returns-in-None-clause-left
returns-in-None-clause-left c =
    let ms = c.self.inside.members.items in
    let none : place_from 0 c.args.key.now (member_keys ms) ≡ None = cc in
    sym c.self.view_is ∙ (sym (nothing_removed 0 c.args.key.now ms none) ∙ ap (members_without c.args.key.now) c.self.view_is)

pub returns-in-Some-clause-value : goal.returns-in-Some-clause-value
returns-in-Some-clause-value c =
    let ms = c.self.inside.members.items in
    let found : place_from 0 c.args.key.now (member_keys ms) ≡ Some c.in-Some.place = cc in
    sym (found_value c.args.key.now ms c.in-Some.place c.remove-value.result found c.remove-value.ensures.value) ∙ ap (λ xs. field_at c.args.key.now (fields_of xs)) c.self.view_is

pub returns-in-Some-clause-left : goal.returns-in-Some-clause-left
returns-in-Some-clause-left c =
    let ms = c.self.inside.members.items in
    let found : place_from 0 c.args.key.now (member_keys ms) ≡ Some c.in-Some.place = cc in
    ap members_view c.remove-value.ensures.items ∙ (view_without c.args.key.now ms c.in-Some.place found ∙ ap (members_without c.args.key.now) c.self.view_is)
