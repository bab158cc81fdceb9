use Rattle.std.proofs.Common.{sym, arith, ◌≡◌, [], length}
use Rattle.text_places.proofs.StartLaws.{item_missing, item_seen, starts_of_items}
use Rattle.text_places.proofs.starts.item_placed.Goals as goal

pub returns-then-place-items : goal.returns-then-place-items
returns-then-place-items c = λ b same. sym (item_missing c.args.items.now c.args.place b c.if-place-items.true)

pub returns-then-place-starts : goal.returns-then-place-starts
returns-then-place-starts c = λ b same.
    let count : length c.args.starts.now ≡ length c.args.items.now = starts_of_items c.args.starts.now c.args.items.now b same in
    absurd (omega (arith, count, c.if-place-items.false, c.if-place-starts.true))

pub returns : goal.returns
returns c = λ b same.
    item_seen c.args.items.now c.args.starts.now c.args.place b c.index-items-place.result (record { ref_ptr = (0, 0); now = [] }) same
    (omega (arith, c.if-place-items.false)) c.index-items-place.is
