use Rattle.std.proofs.Common.{◌≡◌, sym, ap, ◌∙◌, Some, None, arith}
use Rattle.key_index.specs.Keys.{place_from}
use Rattle.decimal_json.specs.Tree.{fields_of, field_at}
use Rattle.decimal_json.specs.View.{member_keys}
use Rattle.decimal_json.proofs.Places.{found_within, found_value, no_value}
use Rattle.decimal_json.proofs.tree.Members.get.Goals as goal

pub index-requires : goal.index-requires
index-requires c =
    let found : place_from 0 c.args.key.now (member_keys c.self.inside.members.items) ≡ Some c.in-Some.place = cc in
    omega (arith, found_within c.args.key.now c.self.inside.members.items c.in-Some.place found)

pub returns-in-None : goal.returns-in-None
returns-in-None c =
    let none : place_from 0 c.args.key.now (member_keys c.self.inside.members.items) ≡ None = cc in
    sym (no_value 0 c.args.key.now c.self.inside.members.items none) ∙ ap (λ ms. field_at c.args.key.now (fields_of ms)) c.self.view_is

pub returns-in-Some : goal.returns-in-Some
returns-in-Some c =
    let found : place_from 0 c.args.key.now (member_keys c.self.inside.members.items) ≡ Some c.in-Some.place = cc in
    sym (found_value c.args.key.now c.self.inside.members.items c.in-Some.place c.index.result.now found c.index.ensures) ∙ ap (λ ms. field_at c.args.key.now (fields_of ms)) c.self.view_is
