-- The keys stay distinct, and the index represents the members with the new one.
use Rattle.std.proofs.Common.{◌≡◌, sym, ap, ◌∙◌, subst}
use Rattle.std.specs.Prelude.{insert}
use Rattle.key_index.specs.Index.{IsIndexed}
use Rattle.key_index.specs.Keys as key
use Rattle.decimal_json.specs.declared.tree.Member.{Member}
use Rattle.decimal_json.specs.Sound.{LacksKey, HasDistinctKeys}
use Rattle.decimal_json.specs.View.{member_view, members_view, member_keys}
use Rattle.decimal_json.proofs.Places.{distinct_member_keys}
use Rattle.decimal_json.proofs.Edits.{map_insert, distinct_inserted}
use Rattle.decimal_json.proofs.tree.Members.insert_at.Goals as goal

pub renew-requires : goal.renew-requires
renew-requires c =
    let ms = c.self.inside.members.items in
    let m : Member = record { key = c.args.key; value = c.args.value } in
    let lacks : LacksKey m.key (members_view ms) = subst (LacksKey m.key) (sym c.self.view_is) c.requires.lacks in
    let put : c.as_slice.result.now ≡ insert ms c.args.place m = c.as_slice.ensures.value ∙ c.in-Ok.ensures.items in
    subst (λ xs. key.HasDistinctKeys (member_keys xs)) (sym put) (distinct_member_keys (insert ms c.args.place m) (distinct_inserted ms c.args.place m lacks c.self.invariant.0))

pub invariant_of-self-2 : goal.invariant_of-self-2
invariant_of-self-2 c =
    let ms = c.self.inside.members.items in
    let m : Member = record { key = c.args.key; value = c.args.value } in
    let lacks : LacksKey m.key (members_view ms) = subst (LacksKey m.key) (sym c.self.view_is) c.requires.lacks in (
      subst (λ xs. HasDistinctKeys (members_view xs)) (sym c.in-Ok.ensures.items) (distinct_inserted ms c.args.place m lacks c.self.invariant.0),
      subst (λ xs. IsIndexed c.renew.new.self (member_keys xs)) c.as_slice.ensures.value c.renew.ensures,
    )

pub returns-clause-ok : goal.returns-clause-ok
returns-clause-ok c =
    let ms = c.self.inside.members.items in
    let m : Member = record { key = c.args.key; value = c.args.value } in
    ap members_view c.in-Ok.ensures.items ∙ (map_insert member_view ms c.args.place m ∙ ap (λ xs. insert xs c.args.place (member_view m)) c.self.view_is)
