use Rattle.std.specs.Prelude.{ℕ, List}
use Rattle.std.specs.Borrow.{Bor}
use Rattle.listing_text.proofs.Appending.{err_before}
use Rattle.listing_text.proofs.writing.write_each.Goals as goal

pub returns-in_err-extend_from_slice-clause-err : goal.returns-in_err-extend_from_slice-clause-err
returns-in_err-extend_from_slice-clause-err c =
    err_before c.from_residual.result (λ (part : Bor (List ℕ)). part.now) c.args.parts.now c.loop-part.part-index
    c.args.out.now.items c.loop-part.out.items c.extend_from_slice.new.self.items
    c.loop-part.invariant c.in_err-extend_from_slice.ensures.items
