use Rattle.std.proofs.Common.{map, ap, ◌∙◌}
use Rattle.std.specs.FinMap as finite
use Rattle.outside_io.specs.Contents.{bytes_of, named}
use Rattle.outside_io.proofs.StoredFiles.{no_files-told}
use Rattle.outside_io.proofs.named_files.NamedFiles.new.Goals as goal

pub returns-clause-told : goal.returns-clause-told
returns-clause-told c = λ name. ap (λ entries. bytes_of (finite.from_entries (map named entries)) name) c.new.ensures.empty ∙ no_files-told name
