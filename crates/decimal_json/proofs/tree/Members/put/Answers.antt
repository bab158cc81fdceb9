use Rattle.std.proofs.Common.{◌≡◌, sym, ap, ◌∙◌, subst, Some, None, arith, [], ◌∷◌, ◌++◌}
use Rattle.std.specs.Prelude.{OnOk}
use Rattle.key_index.specs.Index.{IsIndexed}
use Rattle.key_index.specs.Keys.{place_from}
use Rattle.decimal_json.specs.declared.tree.Member.{Member}
use Rattle.decimal_json.specs.Sound.{LacksKey, HasDistinctKeys}
use Rattle.decimal_json.specs.Editing.{members_with}
use Rattle.decimal_json.specs.View.{tree_of, members_view, member_keys}
use Rattle.decimal_json.proofs.Places.{found_within}
use Rattle.decimal_json.proofs.Edits.{revalued, view_replaced, put_last, put_there, lacks_unplaced, distinct_revalued, keys_revalued}
use Rattle.decimal_json.proofs.tree.Members.put.Goals as goal

pub push-requires : goal.push-requires
push-requires c =
    let ms = c.self.inside.members.items in
    let none : place_from 0 c.args.key (member_keys ms) ≡ None = cc in
    subst (LacksKey c.args.key) c.self.view_is (lacks_unplaced 0 c.args.key ms none)

pub put_value-requires : goal.put_value-requires
put_value-requires c =
    let ms = c.self.inside.members.items in
    let found : place_from 0 c.args.key (member_keys ms) ≡ Some c.in-Some.place = cc in
    omega (arith, found_within c.args.key ms c.in-Some.place found)

pub invariant_of-self : goal.invariant_of-self
invariant_of-self c =
    let ms = c.self.inside.members.items in
    let m : Member = record { key = c.args.key; value = c.args.value } in
    let made : c.put_value.new.members.items ≡ revalued ms c.in-Some.place c.args.value m = c.put_value.ensures.put m in (
      subst (λ xs. HasDistinctKeys (members_view xs)) (sym made) (distinct_revalued ms c.in-Some.place c.args.value m c.self.invariant.0),
      subst (IsIndexed c.self.inside.index) (sym (ap member_keys made ∙ keys_revalued ms c.in-Some.place c.args.value m)) c.self.invariant.1,
    )

pub returns-in-None-clause-ok : goal.returns-in-None-clause-ok
returns-in-None-clause-ok c =
    let ms = c.self.inside.members.items in
    let t = tree_of c.args.value in
    let none : place_from 0 c.args.key (member_keys ms) ≡ None = cc in
    let last : members_with c.args.key t c.args.self.now ≡ c.args.self.now ++ (c.args.key, t) ∷ [] =
    sym (ap (members_with c.args.key t) c.self.view_is) ∙ (put_last 0 c.args.key t ms none ∙ ap (λ xs. xs ++ (c.args.key, t) ∷ []) c.self.view_is) in
    subst (λ xs. OnOk c.push.result (c.push.new.self ≡ xs)) (sym last) c.push.ensures.ok

pub returns-in-Some-clause-ok : goal.returns-in-Some-clause-ok
returns-in-Some-clause-ok c =
    let ms = c.self.inside.members.items in
    let t = tree_of c.args.value in
    let m : Member = record { key = c.args.key; value = c.args.value } in
    let found : place_from 0 c.args.key (member_keys ms) ≡ Some c.in-Some.place = cc in
    ap members_view (c.put_value.ensures.put m) ∙ (view_replaced c.args.key ms c.args.value m c.in-Some.place found ∙
    (put_there 0 c.in-Some.place c.args.key t ms found ∙ ap (members_with c.args.key t) c.self.view_is))
