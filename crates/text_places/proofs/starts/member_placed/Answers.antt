use Rattle.std.proofs.Common.{◌≡◌, sym, None, Some}
use Rattle.key_index.specs.Keys.{place_from}
use Rattle.decimal_json.specs.View.{member_keys}
use Rattle.text_places.proofs.StartLaws.{member_missing}
use Rattle.text_places.proofs.starts.member_placed.Goals as goal

pub returns-in-None : goal.returns-in-None
returns-in-None c = λ b same.
    let none : place_from 0 c.args.key.now (member_keys c.args.members.now) ≡ None = cc in
    sym (member_missing 0 c.args.key.now c.args.members.now b none)

pub returns-in-Some : goal.returns-in-Some
returns-in-Some c = λ b same.
    let found : place_from 0 c.args.key.now (member_keys c.args.members.now) ≡ Some c.in-Some.place = cc in
    c.started_member.ensures b c.args.key.now found same
