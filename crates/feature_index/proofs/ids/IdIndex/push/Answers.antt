use Rattle.std.proofs.Common.{◌≡◌, arith, ◌∷◌, ◌++◌, [], ℕ, Option, Some, nat_eq, length, sym, ap, subst, refl, ◌∙◌, if◌then◌else◌}
use Rattle.std.proofs.lemmas.Result.{on_ok_weaker}
use Rattle.std.specs.BTreeMap.{get}
use Rattle.std.specs.Ordering.{nat_cmp}
use Rattle.feature_index.specs.Ids.{IsIndexed}
use Rattle.feature_index.specs.declared.ids.IdIndex.{IdIndex}
use Rattle.feature_index.proofs.ChainLaws.{pushed, pushed_none}
use Rattle.feature_index.proofs.ids.IdIndex.push.Goals as goal

pub returns-in_ok-push-in-Some : goal.returns-in_ok-push-in-Some
returns-in_ok-push-in-Some c = λ ids is.
    let old = c.args.self.now in
    let new : IdIndex = record { last = c.note_last.new.last; before = c.push.new.self } in
    let id = c.in-Some.id in
    let items = c.in_ok-push-in-Some.ensures.items ∙ ap (λ (o : Option ℕ). old.before.items ++ o ∷ []) c.last_number-before.ensures in
    let count : c.len-number.result ≡ length ids = omega (arith, c.len-number.ensures, is.counted) in
    on_ok_weaker c.note_last.result
    (λ last. subst (λ o. IsIndexed new (ids ++ o ∷ [])) (sym c.in-Some.is)
    (pushed old new ids is id items
    (λ i. last i ∙ ap (λ (n : ℕ). if nat_eq id i then Some n else get nat_cmp old.last i) count)))
    c.note_last.ensures

pub returns-in_ok-push-in-None : goal.returns-in_ok-push-in-None
returns-in_ok-push-in-None c = λ ids is.
    let old = c.args.self.now in
    let new : IdIndex = record { last = c.args.self.now.last; before = c.push-in-None.new.self } in
    subst (λ o. IsIndexed new (ids ++ o ∷ [])) (sym c.in-None.is)
    (pushed_none old new ids is c.in_ok-push-in-None.ensures.items refl)
