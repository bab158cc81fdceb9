use Rattle.std.proofs.Common.{arith, reverse}
use Rattle.std.proofs.lemmas.List.Sums.{prefix_len-le-length}
use Rattle.std.proofs.lemmas.List.{length-reverse}
use Rattle.color_values.specs.Parts.{is_space}
use Rattle.color_values.proofs.parts.without_spaces_behind.Goals as goal

pub overflow_sub-bytes : goal.overflow_sub-bytes
overflow_sub-bytes c = omega (arith, prefix_len-le-length is_space (reverse c.args.bytes.now), length-reverse c.args.bytes.now)
