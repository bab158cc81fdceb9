use Rattle.std.proofs.Common.{◌≡◌, ℕ, ◌<◌, ◌∙◌, sym, ap, subst}
use Rattle.expr_syntax.specs.NameIndex.{last_place}
use Rattle.expr_plain.specs.Frames.{IsWithin}
use Rattle.expr_plain.specs.declared.frames.BindingScope.{BindingScope}
use Rattle.expr_plain.proofs.NameLaws.{IsHere, named_here, IsLater, named_later}
use Rattle.expr_plain.proofs.frames.+binding_of.Goals as goal

pub returns-in-Some : goal.returns-in-Some
returns-in-Some t c =
    let name = c.args.name.now in
    let found = c.bound_at.result in
    let place : last_place 0 c.in-Frame.names.now name ≡ c.last_place.result = sym (c.last_place.ensures.value ∙ ap (last_place 0 c.in-Frame.names.now) c.as_str.ensures) in
    let W : BindingScope → Type 0 = λ s. IsWithin c.args.slots s in
    let H : BindingScope → Type 0 = λ s. IsHere s name c.in-Some.k found in
    let w = subst W c.in-Frame.is c.requires in
    named_here c.args.scope.now name c.in-Some.k found (subst H (sym c.in-Frame.is) (place ∙ c.in-Some.is, w.1, subst (λ (n : ℕ). c.in-Some.k < n) w.1 c.in-Some.ensures.within, c.bound_at.ensures.expression, c.bound_at.ensures.slot, c.bound_at.ensures.outer))

pub returns-in-None : goal.returns-in-None
returns-in-None t c =
    let found = c.binding_of.result in
    let place : last_place 0 c.in-Frame.names.now c.args.name.now ≡ c.last_place.result = sym (c.last_place.ensures.value ∙ ap (last_place 0 c.in-Frame.names.now) c.as_str.ensures) in
    let L : BindingScope → Type 0 = λ s. IsLater s c.args.name.now found in
    named_later c.args.scope.now c.args.name.now found (subst L (sym c.in-Frame.is) (place ∙ c.in-None.is, c.binding_of.ensures))
