use Rattle.std.proofs.Common.{◌≡◌}
use Rattle.edit_session.specs.View.{session_state, tiles_of}
use Rattle.outside_io.specs.Counts.{raised}
use Rattle.style_program.proofs.ListingRuns.{listing_lacks_memory, listing_unwritten, listing_written}
use Rattle.style_program.proofs.opened_run.write_listing.Goals as goal

pub returns-in-Ok-clause-written : goal.returns-in-Ok-clause-written
returns-in-Ok-clause-written g c =
    let images = (goal.HostOp-dyn g c.args.images.now).test c.args.images.now.1 in
    let scripts = (goal.HostOp-dyn g c.args.scripts.now).test c.args.scripts.now.1 in
    let s = c.args.session in
    listing_written (tiles_of s) scripts (session_state s images) _ _ _ _
    c.in-Ok.ensures.text.whole c.in-Ok.ensures.least c.in-Ok.ensures.most

pub returns-in-Ok-clause-none_failed : goal.returns-in-Ok-clause-none_failed
returns-in-Ok-clause-none_failed g c = c.in-Ok.ensures.text.still

pub returns-in-Err-Fault-clause-stop : goal.returns-in-Err-Fault-clause-stop
returns-in-Err-Fault-clause-stop g c =
    let images = (goal.HostOp-dyn g c.args.images.now).test c.args.images.now.1 in
    let scripts = (goal.HostOp-dyn g c.args.scripts.now).test c.args.scripts.now.1 in
    let s = c.args.session in
    let counted : g.O.Sink.faults c.write_listing.new.out ≡ raised (g.O.Sink.faults c.args.out.now) =
    rw c.in-Err-Fault.field-0-is at c.in-Err-Fault.ensures.text.cause in
    λ files asked. listing_unwritten (tiles_of s) scripts (session_state s images) _ _ _ _
    c.in-Err-Fault.ensures.text.front c.in-Err-Fault.ensures.most files asked _ _ counted

pub returns-in-Err-NoMemory-clause-stop : goal.returns-in-Err-NoMemory-clause-stop
returns-in-Err-NoMemory-clause-stop g c =
    let images = (goal.HostOp-dyn g c.args.images.now).test c.args.images.now.1 in
    let scripts = (goal.HostOp-dyn g c.args.scripts.now).test c.args.scripts.now.1 in
    let s = c.args.session in
    let same : g.O.Sink.faults c.write_listing.new.out ≡ g.O.Sink.faults c.args.out.now =
    rw c.in-Err-NoMemory.field-0-is at c.in-Err-NoMemory.ensures.text.cause in
    λ files asked. listing_lacks_memory (tiles_of s) scripts (session_state s images) _ _ _ _
    c.in-Err-NoMemory.ensures.text.front c.in-Err-NoMemory.ensures.most files asked _ _ same
