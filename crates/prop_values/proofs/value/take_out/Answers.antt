use Rattle.std.proofs.Common.{◌-◌, length, ◌∙◌, arith}
use Rattle.key_index.proofs.Taken.{vector_taken}
use Rattle.prop_values.proofs.value.take_out.Goals as goal

pub returns : goal.returns
returns c =
    let es = c.args.entries.now.items in
    c.swap_remove.ensures.items ∙ vector_taken es c.args.place (length es - 1) c.swap_remove.result (omega (arith, c.requires)) (omega (arith, c.requires))
