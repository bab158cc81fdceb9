use Rattle.std.proofs.lemmas.List.{take-take}
use Rattle.decimal_json.proofs.writing.block_of.Goals as goal

pub returns-then-onward-ge-BLOCK-clause-front : goal.returns-then-onward-ge-BLOCK-clause-front
returns-then-onward-ge-BLOCK-clause-front c = take-take c.args.count 16 c.args.onward.now c.if-count-le-BLOCK.true
