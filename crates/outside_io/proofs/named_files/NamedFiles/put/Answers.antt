use Rattle.std.proofs.Common.{ap, ◌∙◌}
use Rattle.std.specs.Prelude.{string_bytes}
use Rattle.outside_io.specs.Contents.{with_file, bytes_of}
use Rattle.outside_io.proofs.StoredFiles.{contents-updated, with_file-told, with_file-others}
use Rattle.outside_io.proofs.named_files.NamedFiles.put.Goals as goal

-- the files are the old ones with the file
put_is : goal.returns-clause-ok
put_is c =
    let name = string_bytes c.in_ok-name.name in
    let bytes = c.in_ok-bytes.bytes.items in
    contents-updated c.self.inside.files c.insert.new.self name c.in_ok-bytes.bytes c.in_ok-insert.ensures.updates
    ∙ ap (λ files. with_file files name bytes) c.self.view_is
    ∙ ap (λ text. with_file c.args.self.now text bytes) c.in_ok-name.ensures.ok
    ∙ ap (with_file c.args.self.now c.args.name.now) c.in_ok-bytes.ensures.items

pub returns-clause-ok : goal.returns-clause-ok
returns-clause-ok c = put_is c

pub returns-clause-told : goal.returns-clause-told
returns-clause-told c = ap (λ files. bytes_of files c.args.name.now) (put_is c) ∙ with_file-told c.args.self.now c.args.name.now c.args.bytes.now

pub returns-clause-others : goal.returns-clause-others
returns-clause-others c = λ other differs.
    ap (λ files. bytes_of files other) (put_is c) ∙ with_file-others c.args.self.now c.args.name.now c.args.bytes.now other differs
