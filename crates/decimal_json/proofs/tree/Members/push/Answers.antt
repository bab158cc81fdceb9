-- The new member follows the others: its key differs from theirs, and the index knows its place.
use Rattle.std.proofs.Common.{◌≡◌, [], ◌∷◌, ◌++◌, sym, subst, ap, ◌∙◌}
use Rattle.std.proofs.lemmas.List.{map-append}
use Rattle.key_index.specs.Index.{IsIndexed}
use Rattle.key_index.specs.Keys as key
use Rattle.decimal_json.specs.declared.tree.Member.{Member}
use Rattle.decimal_json.specs.Sound.{LacksKey, HasDistinctKeys}
use Rattle.decimal_json.specs.View.{members_view, member_keys}
use Rattle.decimal_json.proofs.Keys.{members_push}
use Rattle.decimal_json.proofs.Places.{lacks_member_key, distinct_member_keys}
use Rattle.decimal_json.proofs.tree.Members.push.Goals as goal

pub note_next-requires-clause-distinct : goal.note_next-requires-clause-distinct
note_next-requires-clause-distinct c =
    let slice : c.as_slice.result.now ≡ c.self.inside.members.items = c.as_slice.ensures.value ∙ c.reserve.ensures.items in
    subst (λ ms. key.HasDistinctKeys (member_keys ms)) (sym slice) (distinct_member_keys c.self.inside.members.items c.self.invariant.0)

pub note_next-requires-clause-lacks : goal.note_next-requires-clause-lacks
note_next-requires-clause-lacks c =
    let slice : c.as_slice.result.now ≡ c.self.inside.members.items = c.as_slice.ensures.value ∙ c.reserve.ensures.items in
    let lacks : LacksKey c.args.key (members_view c.self.inside.members.items) = subst (LacksKey c.args.key) (sym c.self.view_is) c.requires in
    subst (λ ms. key.LacksKey c.as_str.result.now (member_keys ms)) (sym slice)
    (subst (λ k. key.LacksKey k (member_keys c.self.inside.members.items)) (sym c.as_str.ensures) (lacks_member_key c.args.key c.self.inside.members.items lacks))

pub invariant_of-self-2 : goal.invariant_of-self-2
invariant_of-self-2 c =
    let ms = c.self.inside.members.items in
    let m : Member = record { key = c.args.key; value = c.args.value } in
    let slice : c.as_slice.result.now ≡ ms = c.as_slice.ensures.value ∙ c.reserve.ensures.items in
    let lacks : LacksKey c.args.key (members_view ms) = subst (LacksKey c.args.key) (sym c.self.view_is) c.requires in
    let added : c.push.new.self.items ≡ ms ++ m ∷ [] = c.in_ok-push.ensures.items ∙ ap (λ xs. xs ++ m ∷ []) c.reserve.ensures.items in
    let keys : member_keys c.as_slice.result.now ++ c.as_str.result.now ∷ [] ≡ member_keys c.push.new.self.items =
    ap (λ xs. member_keys xs ++ c.as_str.result.now ∷ []) slice ∙ (ap (λ k. member_keys ms ++ k ∷ []) c.as_str.ensures ∙ (sym (map-append (λ (x : Member). x.key) ms (m ∷ [])) ∙ ap member_keys (sym added))) in (
      subst (λ xs. HasDistinctKeys (members_view xs)) (sym added) (members_push ms m c.self.invariant.0 lacks),
      subst (IsIndexed c.note_next.new.self) keys c.in_ok-note_next.ensures.ok,
    )
