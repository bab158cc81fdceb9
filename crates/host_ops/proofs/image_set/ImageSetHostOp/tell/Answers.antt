-- The set changes at the name alone.
use Rattle.std.proofs.Common.{true, false, ap, sym, ◌∙◌}
use Rattle.std.specs.Prelude.{string_bytes, if◌then◌else◌}
use Rattle.std.specs.Str.{bytes_eq}
use Rattle.std.proofs.lemmas.Map.Text.{hash_set_updates_text}
use Rattle.host_ops.specs.Images.{has_name}
use Rattle.host_ops.proofs.image_set.ImageSetHostOp.tell.Goals as goal

pub returns-then-not-present-clause-ok : goal.returns-then-not-present-clause-ok
returns-then-not-present-clause-ok c = λ other.
    hash_set_updates_text c.args.text.now c.args.self.now.names c.swap_remove.new.self false c.swap_remove.ensures.updates other ∙
    ap (λ present. if bytes_eq c.args.text.now other then present else has_name c.args.self.now other) (sym c.if-not-present.true)

pub returns-clause-ok : goal.returns-clause-ok
returns-clause-ok c = λ other.
    hash_set_updates_text (string_bytes c.in-Ok.name) c.args.self.now.names c.insert.new.self true c.in-Ok-insert.ensures.updates other ∙
    (ap (λ name. if bytes_eq name other then true else has_name c.args.self.now other) c.in-Ok.ensures.ok ∙
    ap (λ present. if bytes_eq c.args.text.now other then present else has_name c.args.self.now other) (sym c.if-not-present.false))
