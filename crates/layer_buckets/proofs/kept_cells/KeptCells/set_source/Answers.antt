use Rattle.std.proofs.Common.{◌≡◌, ◌≢◌, ℕ, Some, sym, ap, ◌∙◌, subst, if◌then◌else◌}
use Rattle.index_lists.proofs.Comparing.{is_false}
use Rattle.layer_buckets.specs.KeptSlots.{kept_of, column_at}
use Rattle.layer_buckets.specs.Keeping.{lists_at, lists_of}
use Rattle.layer_buckets.specs.Listing.{AreThere}
use Rattle.layer_buckets.proofs.Listings.{hold_same}
use Rattle.layer_buckets.proofs.SourceLaws.{kept_lists, back_elsewhere, there_elsewhere, held_elsewhere}
use Rattle.layer_buckets.proofs.kept_cells.KeptCells.set_source.Goals as goal

pub returns-clause-keeping : goal.returns-clause-keeping
returns-clause-keeping c =
    let b = c.args.self.now in
    let k = c.requires.keeping in
    let others = c.set_source.new.columns.items in
    let r = c.set_source.ensures in
    let seen : (n : ℕ) → n ≢ c.args.column → column_at others n ≡ column_at b.columns.items n = λ n d. r.seen n ∙ ap (λ t. if t then Some (record { source = c.args.source; first_state = c.args.first_state; rows = 0 }) else column_at b.columns.items n) (is_false n c.args.column d) in
    record {
      hold = hold_same b.lists (λ s. lists_of (lists_at b.columns.items) (kept_of b.slots.items s)) (λ s. lists_of (lists_at others) (kept_of b.slots.items s)) k.hold (kept_lists b others c.args.column k c.requires.unkept seen r.others r.none);
      have = k.have;
      counted = k.counted;
      there = λ p s e.
          let t = there_elsewhere b others c.args.column k c.requires.unkept seen r.others r.none p s e in
          subst (λ n. AreThere b.lists n) (sym t.2) (k.there p s t.1);
      back = back_elsewhere b others c.args.column k c.requires.unkept seen r.others r.none;
      free = k.free;
      within = k.within;
      full = k.full;
      room = k.room;
    }

pub returns-clause-kept_outcome : goal.returns-clause-kept_outcome
returns-clause-kept_outcome c =
    let b = c.args.self.now in
    let others = c.set_source.new.columns.items in
    let r = c.set_source.ensures in
    let seen : (n : ℕ) → n ≢ c.args.column → column_at others n ≡ column_at b.columns.items n = λ n d. r.seen n ∙ ap (λ t. if t then Some (record { source = c.args.source; first_state = c.args.first_state; rows = 0 }) else column_at b.columns.items n) (is_false n c.args.column d) in
    held_elsewhere b others c.args.column c.requires.keeping c.requires.unkept seen r.others r.none
