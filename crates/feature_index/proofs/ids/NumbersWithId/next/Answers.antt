use Rattle.std.proofs.Common.{ℕ, ◌<◌, length, ap, subst, refl, ◌∙◌}
use Rattle.std.specs.Prelude.{IfSome}
use Rattle.feature_index.specs.Ids.{chain}
use Rattle.feature_index.proofs.ChainLaws.{chain_none, next_of}
use Rattle.feature_index.proofs.ids.NumbersWithId.next.Goals as goal

pub returns-in-Some-clause-left : goal.returns-in-Some-clause-left
returns-in-Some-clause-left c =
    let before = c.args.self.now.before.now in
    let n = c.in-Some.number in
    ap (λ at. chain before at (length before)) c.in-Some.is
    ∙ next_of before n (length before) c.requires.falling (subst (λ at. IfSome at (λ (m : ℕ). m < length before)) c.in-Some.is c.requires.within) refl

pub returns-in-None-clause-left : goal.returns-in-None-clause-left
returns-in-None-clause-left c =
    let before = c.args.self.now.before.now in
    ap (λ at. chain before at (length before)) c.in-None.is ∙ chain_none before (length before)
