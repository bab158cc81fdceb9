use Rattle.std.proofs.Common.{◌≡◌, ℕ, ◌<◌, List, subst, length, arith, sym}
use Rattle.std.proofs.lemmas.Bool.Decides.{nat_tests}
use Rattle.tile_reader.specs.Feature.{packed}
use Rattle.tile_reader.proofs.Packed.{added, packed_more, packed_done, packed_broken, nothing_left}
use Rattle.tile_reader.proofs.feature.add_packed.Goals as goal

pub loop-rest-preserved : goal.loop-rest-preserved
loop-rest-preserved c =
    let some : 0 < length c.loop-rest.rest.now = first_of (grind (arith, nat_tests), omega arith) in
    let next = packed_more c.args.at c.in-Ok.tag c.loop-rest.rest.now c.varint.new.bytes.now c.loop-rest.tags.items (added c.args.at c.args.tags.now.items (packed c.args.content.now)) some c.in-Ok.ensures.ok c.loop-rest.invariant in
    subst (λ (tags : List ℕ). added c.args.at tags (packed c.varint.new.bytes.now) ≡ added c.args.at c.args.tags.now.items (packed c.args.content.now)) (sym c.in_ok-push-in-Ok.ensures.items) next

pub returns-in-Err : goal.returns-in-Err
returns-in-Err c =
    let some : 0 < length c.loop-rest.rest.now = first_of (grind (arith, nat_tests), omega arith) in
    packed_broken c.args.at c.loop-rest.rest.now c.loop-rest.tags.items c.in-Err.kind (added c.args.at c.args.tags.now.items (packed c.args.content.now)) some c.in-Err.ensures.fault c.loop-rest.invariant

pub returns : goal.returns
returns c =
    let none : length c.loop-rest.rest.now ≡ 0 = first_of (grind (arith, nat_tests), omega arith) in
    packed_done c.args.at c.loop-rest.rest.now c.loop-rest.tags.items (added c.args.at c.args.tags.now.items (packed c.args.content.now)) (nothing_left c.loop-rest.rest.now none) c.loop-rest.invariant
