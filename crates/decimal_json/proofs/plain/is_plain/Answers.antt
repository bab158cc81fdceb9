use Rattle.std.proofs.Common.{◌-◌, length, sym, ◌∙◌, arith}
use Rattle.decimal_json.proofs.Appending.{unescaped_overlap}
use Rattle.decimal_json.proofs.plain.is_plain.Goals as goal

pub returns-then-count-unescaped_blocks-lt-BLOCK : goal.returns-then-count-unescaped_blocks-lt-BLOCK
returns-then-count-unescaped_blocks-lt-BLOCK c =
    let b = c.args.bytes.now in
    λ plain. unescaped_overlap b c.unescaped_blocks.result (length b - 16) (omega arith) c.unescaped_blocks.ensures.plain (sym c.are_unescaped.ensures ∙ plain)

pub returns-then-are_unescaped : goal.returns-then-are_unescaped
returns-then-are_unescaped c =
    let b = c.args.bytes.now in
    λ plain. unescaped_overlap b 8 (length b - 8) (omega arith) (sym c.are_unescaped-then-count-ge8.ensures ∙ c.if-are_unescaped.true) (sym c.are_unescaped-then-are_unescaped.ensures ∙ plain)

pub returns-then-are_unescaped-2 : goal.returns-then-are_unescaped-2
returns-then-are_unescaped-2 c =
    let b = c.args.bytes.now in
    λ plain. unescaped_overlap b 4 (length b - 4) (omega arith) (sym c.are_unescaped-then-count-ge4.ensures ∙ c.if-are_unescaped-2.true) (sym c.are_unescaped-then-are_unescaped-2.ensures ∙ plain)
