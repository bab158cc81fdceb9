use Rattle.std.proofs.Common.{◌≡◌, ◌∙◌, ℕ, List, Option, Result, Ok, ap, map, refl, subst, sym}
use Rattle.listing_text.specs.Listing.{listing}
use Rattle.style_layout.specs.CodeView.{scene_seen, tile_seen}
use Rattle.style_layout.specs.StyleLayout.{layers_layout}
use Rattle.edit_session.specs.Applied.{listing_of}
use Rattle.edit_session.specs.SessionState.{scene_of}
use Rattle.edit_session.specs.View.{tiles_of}
use Rattle.edit_session.specs.PlainView.{plain_state}
use Rattle.edit_session.proofs.ListedLaws.{kept_in, least_listed, most_listed}
use Rattle.halts.specs.declared.halt.Halt.{Halt}
use Rattle.outside_io.specs.declared.writing.SinkFailed.{SinkFailed}
use Rattle.text_pieces.specs.Adding.{Adds}
use Rattle.text_pieces.specs.Pieces.{WritesText}
use Rattle.text_pieces.specs.declared.pieces.TextPieces.{TextPieces}
use Rattle.text_pieces.proofs.PieceLaws.{all_written, not_begun, some_written}
use Rattle.edit_session.proofs.session.Session.write_listing_plain.Goals as goal

-- the text that was added, in other words
adds_as : {O X : Type 0} (held : O → Option (List ℕ)) (faults : O → ℕ) {r : Result X (Halt SinkFailed)} {old new : TextPieces O}
    {t u : List ℕ} → t ≡ u → Adds held faults r old new t → Adds held faults r old new u
adds_as held faults {r} {old} {new} same a = subst (λ (text : List ℕ). Adds held faults r old new text) same a

pub list_last-listed-requires-clause-holds : goal.list_last-listed-requires-clause-holds
unfolding scene_seen
list_last-listed-requires-clause-holds g c =
    let s = c.args.self in
    let images = (goal.HostOp-dyn g c.args.images.now).test c.args.images.now.1 in
    let scripts = (goal.HostOp-dyn g c.args.scripts.now).test c.args.scripts.now.1 in
    let p = plain_state s images in
    let over = c.shown_style-style.ensures.tiles ∙ ap (map tile_seen) c.as_slice.ensures.value in
    (kept_in (tiles_of s) scripts p c.shown_style-style.result c.shown_style-style.ensures.layers c.shown_style-style.ensures.globals over s.kept (c.requires.kept c.if-self.false)).0

pub list_last-listed-requires-clause-right : goal.list_last-listed-requires-clause-right
unfolding scene_seen
list_last-listed-requires-clause-right g c =
    let s = c.args.self in
    let images = (goal.HostOp-dyn g c.args.images.now).test c.args.images.now.1 in
    let scripts = (goal.HostOp-dyn g c.args.scripts.now).test c.args.scripts.now.1 in
    let p = plain_state s images in
    let over = c.shown_style-style.ensures.tiles ∙ ap (map tile_seen) c.as_slice.ensures.value in
    (kept_in (tiles_of s) scripts p c.shown_style-style.result c.shown_style-style.ensures.layers c.shown_style-style.ensures.globals over s.kept (c.requires.kept c.if-self.false)).1

pub returns-clause-text : goal.returns-clause-text
unfolding scene_seen
returns-clause-text g c =
    let s = c.args.self in
    let images = (goal.HostOp-dyn g c.args.images.now).test c.args.images.now.1 in
    let scripts = (goal.HostOp-dyn g c.args.scripts.now).test c.args.scripts.now.1 in
    let p = plain_state s images in
    let over = c.shown_style-style.ensures.tiles ∙ ap (map tile_seen) c.as_slice.ensures.value in
    subst (λ o. WritesText g.O.Sink.held g.O.Sink.faults (Ok tt) c.args.out.now o (listing_of (tiles_of s) scripts p))
    (sym (c.out-1.given.1 (sym c.in_ok-listed.ensures.text.same)))
    (all_written g.O.Sink.held g.O.Sink.faults _ c.list_last-listed.new.pieces
    (listing_of (tiles_of s) scripts p) c.new.ensures.items c.in_ok-listed.ensures.all
    (adds_as g.O.Sink.held g.O.Sink.faults
    (λ k. listing (layers_layout (scene_of scripts p) (over k) (c.shown_style-style.ensures.style k))) c.in_ok-listed.ensures.text)
    (Ok tt) refl)

pub returns-in_err-listed-clause-text : goal.returns-in_err-listed-clause-text
unfolding scene_seen
returns-in_err-listed-clause-text g c =
    let s = c.args.self in
    let images = (goal.HostOp-dyn g c.args.images.now).test c.args.images.now.1 in
    let scripts = (goal.HostOp-dyn g c.args.scripts.now).test c.args.scripts.now.1 in
    let p = plain_state s images in
    let over = c.shown_style-style.ensures.tiles ∙ ap (map tile_seen) c.as_slice.ensures.value in
    subst (λ o. WritesText g.O.Sink.held g.O.Sink.faults c.from_residual.result c.args.out.now o (listing_of (tiles_of s) scripts p))
    (sym (c.out-1.given.1 (sym c.in_err-listed.ensures.text.same)))
    (some_written g.O.Sink.held g.O.Sink.faults c.from_residual.result _ c.list_last-listed.new.pieces
    (listing_of (tiles_of s) scripts p) c.new.ensures.items c.from_residual.ensures.1
    (adds_as g.O.Sink.held g.O.Sink.faults
    (λ k. listing (layers_layout (scene_of scripts p) (over k) (c.shown_style-style.ensures.style k))) c.in_err-listed.ensures.text))

pub returns-then-self-clause-text : goal.returns-then-self-clause-text
returns-then-self-clause-text g c =
    not_begun g.O.Sink.held g.O.Sink.faults _ c.args.out.now _ refl

pub returns-clause-least : goal.returns-clause-least
unfolding scene_seen
returns-clause-least g c =
    let s = c.args.self in
    let images = (goal.HostOp-dyn g c.args.images.now).test c.args.images.now.1 in
    let scripts = (goal.HostOp-dyn g c.args.scripts.now).test c.args.scripts.now.1 in
    let p = plain_state s images in
    let over = c.shown_style-style.ensures.tiles ∙ ap (map tile_seen) c.as_slice.ensures.value in
    least_listed (tiles_of s) scripts p c.shown_style-style.result c.shown_style-style.ensures.layers c.shown_style-style.ensures.globals over s.kept s.kept refl
    _ _ _ c.in_ok-listed.ensures.counts.ok

pub returns-clause-most : goal.returns-clause-most
unfolding scene_seen
returns-clause-most g c =
    let s = c.args.self in
    let images = (goal.HostOp-dyn g c.args.images.now).test c.args.images.now.1 in
    let scripts = (goal.HostOp-dyn g c.args.scripts.now).test c.args.scripts.now.1 in
    let p = plain_state s images in
    let over = c.shown_style-style.ensures.tiles ∙ ap (map tile_seen) c.as_slice.ensures.value in
    most_listed (tiles_of s) scripts p c.shown_style-style.result c.shown_style-style.ensures.layers c.shown_style-style.ensures.globals over s.kept s.kept refl
    _ _ c.list_last-listed.ensures.counts.most

pub returns-in_err-listed-clause-most : goal.returns-in_err-listed-clause-most
unfolding scene_seen
returns-in_err-listed-clause-most g c =
    let s = c.args.self in
    let images = (goal.HostOp-dyn g c.args.images.now).test c.args.images.now.1 in
    let scripts = (goal.HostOp-dyn g c.args.scripts.now).test c.args.scripts.now.1 in
    let p = plain_state s images in
    let over = c.shown_style-style.ensures.tiles ∙ ap (map tile_seen) c.as_slice.ensures.value in
    most_listed (tiles_of s) scripts p c.shown_style-style.result c.shown_style-style.ensures.layers c.shown_style-style.ensures.globals over s.kept s.kept refl
    _ _ c.list_last-listed.ensures.counts.most
