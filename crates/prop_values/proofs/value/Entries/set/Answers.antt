use Rattle.std.proofs.Common.{◌≡◌, OnOk, refl, true, ap, ◌∙◌, sym, subst}
use Rattle.std.specs.Prelude.{is_some}
use Rattle.std.proofs.lemmas.Result.{on_ok_weaker}
use Rattle.prop_values.proofs.ChangeLaws.{at_member}
use Rattle.prop_values.specs.Data.{pairs_of}
use Rattle.prop_values.specs.Keys.{LacksKey}
use Rattle.prop_values.specs.Equality.{at_key}
use Rattle.prop_values.specs.MergeSteps.{replaced}
use Rattle.prop_values.specs.View.{data_of}
use Rattle.prop_values.proofs.Merging.{member_new, member_there}
use Rattle.prop_values.proofs.value.Entries.set.Goals as goal

pub returns-in-None-clause-ok : goal.returns-in-None-clause-ok
returns-in-None-clause-ok c =
    let lacks : LacksKey c.args.key c.args.self.now = subst (λ key. LacksKey key c.args.self.now) c.as_str.ensures (c.in-None.ensures.none.0 refl) in
    subst (λ ps. OnOk c.push.result (c.push.new.self ≡ ps)) (sym (member_new c.args.key (data_of c.args.value) c.args.self.now lacks)) c.push.ensures.ok

pub returns-in-Some-clause-ok : goal.returns-in-Some-clause-ok
returns-in-Some-clause-ok c =
    let there : is_some (at_key c.args.key (pairs_of c.args.self.now)) ≡ true = ap (λ key. is_some (at_key key (pairs_of c.args.self.now))) (sym c.as_str.ensures) ∙ sym (ap is_some c.in-Some.ensures.value) in
    c.replace.ensures ∙
    (ap (λ key. replaced key (data_of c.args.value) c.args.self.now) c.as_str-in-Some.ensures ∙ member_there c.args.key (data_of c.args.value) c.args.self.now there)

pub returns-in-None-clause-at : goal.returns-in-None-clause-at
returns-in-None-clause-at c = on_ok_weaker c.push.result (λ e q. ap (λ ps. at_key q (pairs_of ps)) e ∙ at_member c.args.key (data_of c.args.value) c.args.self.now q) (returns-in-None-clause-ok c)

pub returns-in-Some-clause-at : goal.returns-in-Some-clause-at
returns-in-Some-clause-at c = λ q. ap (λ ps. at_key q (pairs_of ps)) (returns-in-Some-clause-ok c) ∙ at_member c.args.key (data_of c.args.value) c.args.self.now q
