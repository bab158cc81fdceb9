use Rattle.std.proofs.Common.{◌≡◌, ◌∙◌, sym, ap, subst}
use Rattle.expr_syntax.specs.NameIndex.{last_place}
use Rattle.expr_resolving.specs.NumberScopes.{HasNumbers}
use Rattle.expr_resolving.proofs.ResolvingLaws.{IsHere, number_here, IsOutside, number_outside}
use Rattle.expr_resolving.proofs.number_scope.+number_of.Goals as goal

pub returns-in-Some : goal.returns-in-Some
returns-in-Some t c =
    let name = c.args.name.now in
    let place : last_place 0 c.in-Frame.names.now name ≡ c.last_place.result = sym (c.last_place.ensures.value ∙ ap (last_place 0 c.in-Frame.names.now) c.as_str.ensures) in
    let w = subst (λ s. HasNumbers s) c.in-Frame.is c.requires in
    number_here c.args.scope.now name c.in-Some.place c.number_at.result
    (subst (λ s. IsHere s name c.in-Some.place c.number_at.result) (sym c.in-Frame.is) (place ∙ c.in-Some.is, w.0, c.number_at.ensures))

pub returns-in-None : goal.returns-in-None
returns-in-None t c =
    let name = c.args.name.now in
    let place : last_place 0 c.in-Frame.names.now name ≡ c.last_place.result = sym (c.last_place.ensures.value ∙ ap (last_place 0 c.in-Frame.names.now) c.as_str.ensures) in
    number_outside c.args.scope.now name c.number_of.result
    (subst (λ s. IsOutside s name c.number_of.result) (sym c.in-Frame.is) (place ∙ c.in-None.is, c.number_of.ensures))
