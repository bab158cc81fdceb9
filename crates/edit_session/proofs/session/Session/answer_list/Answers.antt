use Rattle.std.proofs.Common.{◌∙◌, ◌++◌, ap, map, refl}
use Rattle.listing_text.specs.Listing.{listing}
use Rattle.style_layout.specs.CodeView.{scene_seen, tile_seen}
use Rattle.style_layout.specs.StyleLayout.{layers_layout}
use Rattle.edit_session.specs.Applied.{listed}
use Rattle.edit_session.specs.SessionState.{scene_of}
use Rattle.edit_session.specs.View.{tiles_of}
use Rattle.edit_session.specs.PlainView.{plain_state}
use Rattle.edit_session.proofs.ListedLaws.{kept_in, least_listed, listed_is_kept, listed_kept, listed_last, most_listed}
use Rattle.edit_session.proofs.session.Session.answer_list.Goals as goal

pub list-requires-clause-holds : goal.list-requires-clause-holds
unfolding scene_seen
list-requires-clause-holds g c =
    let s = c.args.self.now in
    let images = (goal.HostOp-dyn g c.args.images.now).test c.args.images.now.1 in
    let scripts = (goal.HostOp-dyn g c.args.scripts.now).test c.args.scripts.now.1 in
    (kept_in (tiles_of s) scripts (plain_state s images) c.shown_style-style.result c.shown_style-style.ensures.layers c.shown_style-style.ensures.globals
    (c.shown_style-style.ensures.tiles ∙ ap (map tile_seen) c.as_slice.ensures.value) s.kept c.requires.kept).0

pub list-requires-clause-right : goal.list-requires-clause-right
unfolding scene_seen
list-requires-clause-right g c =
    let s = c.args.self.now in
    let images = (goal.HostOp-dyn g c.args.images.now).test c.args.images.now.1 in
    let scripts = (goal.HostOp-dyn g c.args.scripts.now).test c.args.scripts.now.1 in
    (kept_in (tiles_of s) scripts (plain_state s images) c.shown_style-style.result c.shown_style-style.ensures.layers c.shown_style-style.ensures.globals
    (c.shown_style-style.ensures.tiles ∙ ap (map tile_seen) c.as_slice.ensures.value) s.kept c.requires.kept).1

pub returns-clause-answer : goal.returns-clause-answer
unfolding scene_seen
returns-clause-answer g c = λ can_change.
    let s = c.args.self.now in
    let images = (goal.HostOp-dyn g c.args.images.now).test c.args.images.now.1 in
    let scripts = (goal.HostOp-dyn g c.args.scripts.now).test c.args.scripts.now.1 in
    let p = plain_state s images in
    let style = c.shown_style-style.result in
    let over = c.shown_style-style.ensures.tiles ∙ ap (map tile_seen) c.as_slice.ensures.value in
    let kept = listed_kept (tiles_of s) scripts p style c.shown_style-style.ensures.layers c.shown_style-style.ensures.globals over s.kept c.list.new.self refl c.in_ok-number.ensures.listed in
    let last = listed_last (tiles_of s) scripts p style c.shown_style-style.ensures.layers c.shown_style-style.ensures.globals over s.kept c.list.new.self refl _ _ _ c.in_ok-number.ensures.counts.ok in
    let text = c.in_ok-number.ensures.text
    ∙ (λ k. c.new-out.ensures.items k ++ listing (layers_layout (scene_of scripts p) (over k) (c.shown_style-style.ensures.style k))) in
    λ k. (record p { kept = kept k; last = last k }, listed (text k))

pub returns-clause-kept : goal.returns-clause-kept
unfolding scene_seen
returns-clause-kept g c =
    let s = c.args.self.now in
    let images = (goal.HostOp-dyn g c.args.images.now).test c.args.images.now.1 in
    let scripts = (goal.HostOp-dyn g c.args.scripts.now).test c.args.scripts.now.1 in
    let p = plain_state s images in
    let style = c.shown_style-style.result in
    let over = c.shown_style-style.ensures.tiles ∙ ap (map tile_seen) c.as_slice.ensures.value in
    let k = listed_is_kept (tiles_of s) scripts p style c.shown_style-style.ensures.layers c.shown_style-style.ensures.globals over s.kept c.list.new.self refl
    c.in_ok-number.ensures.listed c.list.ensures.numbered in
    record { numbered = k.numbered; holds = k.holds; right = k.right }

pub returns-clause-least : goal.returns-clause-least
unfolding scene_seen
returns-clause-least g c =
    let s = c.args.self.now in
    let images = (goal.HostOp-dyn g c.args.images.now).test c.args.images.now.1 in
    let scripts = (goal.HostOp-dyn g c.args.scripts.now).test c.args.scripts.now.1 in
    let over = c.shown_style-style.ensures.tiles ∙ ap (map tile_seen) c.as_slice.ensures.value in
    least_listed (tiles_of s) scripts (plain_state s images) c.shown_style-style.result c.shown_style-style.ensures.layers c.shown_style-style.ensures.globals over s.kept c.list.new.self refl
    _ _ _ c.in_ok-number.ensures.counts.ok

pub returns-clause-most : goal.returns-clause-most
unfolding scene_seen
returns-clause-most g c =
    let s = c.args.self.now in
    let images = (goal.HostOp-dyn g c.args.images.now).test c.args.images.now.1 in
    let scripts = (goal.HostOp-dyn g c.args.scripts.now).test c.args.scripts.now.1 in
    let over = c.shown_style-style.ensures.tiles ∙ ap (map tile_seen) c.as_slice.ensures.value in
    most_listed (tiles_of s) scripts (plain_state s images) c.shown_style-style.result c.shown_style-style.ensures.layers c.shown_style-style.ensures.globals over s.kept c.list.new.self refl
    _ _ c.list.ensures.counts.most

pub returns-in_err-number-clause-most : goal.returns-in_err-number-clause-most
unfolding scene_seen
returns-in_err-number-clause-most g c =
    let s = c.args.self.now in
    let images = (goal.HostOp-dyn g c.args.images.now).test c.args.images.now.1 in
    let scripts = (goal.HostOp-dyn g c.args.scripts.now).test c.args.scripts.now.1 in
    let over = c.shown_style-style.ensures.tiles ∙ ap (map tile_seen) c.as_slice.ensures.value in
    most_listed (tiles_of s) scripts (plain_state s images) c.shown_style-style.result c.shown_style-style.ensures.layers c.shown_style-style.ensures.globals over s.kept c.list.new.self refl
    _ _ c.list.ensures.counts.most
