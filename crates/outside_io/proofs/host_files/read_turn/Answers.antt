use Rattle.std.proofs.Common.{rules, ◌≡◌, ◌+◌, length, take, drop, sym, ap, subst, ◌∙◌}
use Rattle.std.proofs.lemmas.List.{drop-take, with_items_is, places}
use Rattle.std.specs.Io.KnownBytes.{Consumes}
use Rattle.outside_io.proofs.host_files.read_turn.Goals as goal

-- what was read follows what was there, and the rest of the room is cut off
pub returns-in-Ok-clause-bytes : goal.returns-in-Ok-clause-bytes
returns-in-Ok-clause-bytes g c =
    let start = c.len-start.result in
    let count = c.in-Ok.count in
    let room = c.read_after.new.buffer in
    let long : length c.args.into.now.items ≡ start = search (rules, places) in
    subst (Consumes (g.F.Read.remaining c.args.file.now) (g.F.Read.remaining c.read_after.new.file))
    (sym (ap (drop (length c.args.into.now.items)) (c.truncate.ensures.items ∙ ap (take (start + count)) (with_items_is c.extend_from_slice.new.self room (search (rules, places))))
    ∙ ap (λ k. drop k (take (start + count) room)) long ∙ drop-take start count room))
    c.in-Ok.ensures.bytes
