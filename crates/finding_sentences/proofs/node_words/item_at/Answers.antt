use Rattle.finding_sentences.proofs.TreeLaws.{item_lent}
use Rattle.finding_sentences.proofs.node_words.item_at.Goals as goal

pub returns : goal.returns
returns c = item_lent c.args.items.now c.args.place c.get.result c.get.ensures.lookup.3
