use Rattle.std.proofs.Common.{◌≡◌, ◌∙◌, ap, arith, ℕ, List, [], length, Some}
use Rattle.std.specs.Borrow.{Bor}
use Rattle.std.specs.Prelude.{slice_index_or}
use Rattle.decimal_json.specs.View.{tree_of}
use Rattle.decimal_json.specs.declared.tree.Json.TheVariants.{Null}
use Rattle.decimal_json.specs.declared.tree.Member.{Member}
use Rattle.text_places.proofs.StartLaws.{member_placed, member_seen, starts_of_members}
use Rattle.text_places.proofs.starts.started_member.Goals as goal

-- what is past the end of members
abbrev past : Member
past = record { key = []; value = Null }

pub returns-then-place-members : goal.returns-then-place-members
returns-then-place-members c = λ b key found same.
    absurd (omega (arith, (member_placed key c.args.members.now b c.args.place past [] found).0, c.if-place-members.true))

pub returns-then-place-starts : goal.returns-then-place-starts
returns-then-place-starts c = λ b key found same.
    let count : length c.args.starts.now ≡ length c.args.members.now = starts_of_members c.args.starts.now c.args.members.now b same in
    absurd (omega (arith, count, c.if-place-members.false, c.if-place-starts.true))

pub returns : goal.returns
returns c = λ b key found same.
    let d : Bor (List ℕ) = record { ref_ptr = (0, 0); now = [] } in
    let m = c.index-members-place.result in
    ap (λ (v : List ℕ). Some (record { value = tree_of (slice_index_or c.args.members.now c.args.place m).value; name = (slice_index_or c.args.starts.now c.args.place d).now; at = v })) c.member_value.ensures
    ∙ member_seen c.args.members.now c.args.starts.now key c.args.place b m d same found
