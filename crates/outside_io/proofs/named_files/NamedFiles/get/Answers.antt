use Rattle.std.proofs.Common.{◌≡◌, ℕ, refl, ap, sym, ◌∙◌}
use Rattle.std.specs.Prelude.{Option, Some, None}
use Rattle.std.specs.Option.{option_map, option_copied}
use Rattle.std.specs.Global.{Vec}
use Rattle.std.specs.Borrow.{Bor}
use Rattle.outside_io.specs.Contents.{bytes_of}
use Rattle.outside_io.proofs.StoredFiles.{bytes_of-contents}
use Rattle.outside_io.proofs.named_files.NamedFiles.get.Goals as goal

items_lent : (file : Option (Bor (Vec ℕ))) → option_map (λ lent. lent.now.items) file ≡ option_map (λ v. v.items) (option_copied file)
items_lent None = refl
items_lent (Some lent) = refl

pub returns : goal.returns
returns c =
    items_lent c.get.result
    ∙ ap (option_map (λ v. v.items)) c.get.ensures.value
    ∙ sym (bytes_of-contents c.self.inside.files c.args.name.now)
    ∙ ap (λ files. bytes_of files c.args.name.now) c.self.view_is
