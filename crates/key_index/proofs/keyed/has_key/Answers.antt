use Rattle.std.proofs.Common.{ap, sym, ◌∙◌}
use Rattle.std.specs.Str.{bytes_eq}
use Rattle.std.proofs.lemmas.Bool.{ltb-false}
use Rattle.key_index.proofs.Keys.{is_at-within, is_at-past}
use Rattle.key_index.proofs.keyed.has_key.Goals as goal

pub returns-in-Some : goal.returns-in-Some
returns-in-Some g c =
    let read = c.in-Some.ensures.lookup in
    c.eq.ensures ∙ (ap (λ k. bytes_eq k c.args.key.now) c.key.ensures ∙ sym (is_at-within g.T.Keyed.key c.args.key.now c.args.entries.now c.args.place c.in-Some.entry.now read.3.0 read.1))

pub returns-in-None : goal.returns-in-None
returns-in-None g c = sym (is_at-past g.T.Keyed.key c.args.key.now c.args.entries.now c.args.place (ltb-false _ _ (sym c.in-None.ensures.lookup.0)))
