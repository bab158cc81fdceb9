use Rattle.std.proofs.Common.{◌≡◌, ◌≢◌, ℕ, ◌∙◌, Some, None, refl, ap, length, if◌then◌else◌}
use Rattle.index_lists.proofs.Comparing.{is_false}
use Rattle.layer_buckets.specs.KeptSlots.{column_at, slot_of}
use Rattle.layer_buckets.specs.Keeping.{lists_at}
use Rattle.layer_buckets.specs.declared.slots.CellPlace.{CellPlace}
use Rattle.layer_buckets.proofs.Keeping.{keeping_wider, lists_before}
use Rattle.layer_buckets.proofs.kept_cells.KeptCells.add_column.Goals as goal

pub returns-clause-keeping : goal.returns-clause-keeping
returns-clause-keeping c =
    let b = c.args.self.now in
    let e : c.reserve.new.self.items ≡ b.columns.items = c.reserve.ensures.items in
    let names : (p : CellPlace) → slot_of c.push_column.new.columns.items p ≡ slot_of b.columns.items p = λ p. c.push_column.ensures.slot_named p ∙ ap (λ cs. slot_of cs p) e in
    let seen : (n : ℕ) → n ≢ length b.columns.items → column_at c.push_column.new.columns.items n ≡ column_at b.columns.items n = λ n d.
    c.push_column.ensures.seen n
    ∙ (ap (λ t. if t then Some (record { source = None; first_state = 0; rows = 0 }) else column_at c.reserve.new.self.items n) (is_false n (length c.reserve.new.self.items) (λ q. d (q ∙ ap length e))) ∙ ap (λ cs. column_at cs n) e) in
    keeping_wider b c.push_column.new.columns c.add_item.new.self c.requires.keeping c.add_item.ensures.wider c.add_item.ensures.counted names
    (lists_before b.columns.items c.push_column.new.columns.items (length b.columns.items) refl seen)

pub returns-in_err-add_item-clause-keeping : goal.returns-in_err-add_item-clause-keeping
returns-in_err-add_item-clause-keeping c =
    let b = c.args.self.now in
    let e : c.reserve.new.self.items ≡ b.columns.items = c.reserve.ensures.items in
    keeping_wider b c.reserve.new.self c.add_item.new.self c.requires.keeping c.add_item.ensures.wider c.add_item.ensures.counted (λ p. ap (λ cs. slot_of cs p) e) (λ p s q. ap (λ cs. lists_at cs p) e)
