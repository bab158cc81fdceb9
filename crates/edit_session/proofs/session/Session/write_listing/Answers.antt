use Rattle.std.proofs.Common.{◌+◌, ◌≤◌, refl, subst}
use Rattle.std.specs.Prelude.{List, OnOk}
use Rattle.style_layout.specs.Shown.{SourceTile}
use Rattle.edit_session.specs.Applied.{least_steps, listing_of, most_steps}
use Rattle.edit_script.specs.Edit as edits
use Rattle.edit_session.specs.SessionState.{SessionState}
use Rattle.edit_session.proofs.RangedSettling.{plain_settled, state_settled}
use Rattle.text_pieces.specs.Pieces.{WritesText}
use Rattle.text_pieces.proofs.PieceLaws.{not_begun}
use Rattle.edit_session.proofs.session.Session.write_listing.Goals as goal

pub write_listing_plain-requires : goal.write_listing_plain-requires
write_listing_plain-requires g c =
    let images = (goal.HostOp-dyn g c.args.images.now).test c.args.images.now.1 in
    let scripts = (goal.HostOp-dyn g c.args.scripts.now).test c.args.scripts.now.1 in
    let e = c.in_ok-settle.ensures in
    plain_settled c.args.self c.settle.new.self images scripts e.same e.none e.there (c.requires.kept c.if-self.false)

pub returns-clause-text : goal.returns-clause-text
returns-clause-text g c =
    let images = (goal.HostOp-dyn g c.args.images.now).test c.args.images.now.1 in
    let scripts = (goal.HostOp-dyn g c.args.scripts.now).test c.args.scripts.now.1 in
    let e = c.in_ok-settle.ensures in
    let s = c.args.self in
    subst (λ (x : SessionState × List SourceTile). WritesText g.O.Sink.held g.O.Sink.faults c.write_listing_plain.result
    c.args.out.now c.write_listing_plain.new.out (listing_of x.1 scripts x.0))
    (λ k. (state_settled s c.settle.new.self images e.same e.none e.there k, e.same.tiles k)) c.write_listing_plain.ensures.text

pub returns-in_err-settle-clause-text : goal.returns-in_err-settle-clause-text
returns-in_err-settle-clause-text g c =
    not_begun g.O.Sink.held g.O.Sink.faults c.from_residual.result c.args.out.now _ c.from_residual.ensures.1

pub returns-then-self-clause-text : goal.returns-then-self-clause-text
returns-then-self-clause-text g c =
    not_begun g.O.Sink.held g.O.Sink.faults _ c.args.out.now _ refl

pub returns-clause-least : goal.returns-clause-least
returns-clause-least g c =
    let images = (goal.HostOp-dyn g c.args.images.now).test c.args.images.now.1 in
    let scripts = (goal.HostOp-dyn g c.args.scripts.now).test c.args.scripts.now.1 in
    let e = c.in_ok-settle.ensures in
    let s = c.args.self in
    subst (λ (x : SessionState × List SourceTile). OnOk c.write_listing_plain.result (c.args.steps.now + least_steps x.1 scripts x.0 edits.list ≤ c.write_listing_plain.new.steps))
    (λ k. (state_settled s c.settle.new.self images e.same e.none e.there k, e.same.tiles k)) c.write_listing_plain.ensures.least

pub returns-clause-most : goal.returns-clause-most
returns-clause-most g c =
    let images = (goal.HostOp-dyn g c.args.images.now).test c.args.images.now.1 in
    let scripts = (goal.HostOp-dyn g c.args.scripts.now).test c.args.scripts.now.1 in
    let e = c.in_ok-settle.ensures in
    let s = c.args.self in
    subst (λ (x : SessionState × List SourceTile). c.write_listing_plain.new.steps ≤ c.args.steps.now + most_steps x.1 scripts x.0 edits.list)
    (λ k. (state_settled s c.settle.new.self images e.same e.none e.there k, e.same.tiles k)) c.write_listing_plain.ensures.most
