use Rattle.format_laws.proofs.ReadContents.{formats_are_read}
use Rattle.format_laws.proofs.laws.formats_are_read_as_their_contents.Goals as goal

pub returns : goal.returns
returns c = formats_are_read c.formats_join_their_contents.ensures c.texts_are_of_one_list.ensures
