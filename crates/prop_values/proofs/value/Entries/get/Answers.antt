use Rattle.std.proofs.Common.{◌≡◌, sym, ap, ◌∙◌, Some, arith}
use Rattle.prop_values.specs.Data.{pairs_of}
use Rattle.prop_values.specs.Equality.{at_key}
use Rattle.prop_values.specs.Keys.{keys}
use Rattle.prop_values.proofs.KeyLaws.{none_at_lacking}
use Rattle.key_index.specs.Keys.{place_from}
use Rattle.prop_values.specs.View.{data_of}
use Rattle.prop_values.specs.ViewParts.{entries_view}
use Rattle.prop_values.proofs.IndexSteps.{found_within, found_value}
use Rattle.prop_values.proofs.value.Entries.get.Goals as goal

pub index-requires : goal.index-requires
index-requires c =
    let found : place_from 0 c.args.key.now (keys (entries_view c.self.inside.entries.items)) ≡ Some c.in-Some.place = cc in
    omega (arith, found_within c.args.key.now c.self.inside.entries.items c.in-Some.place found)

pub returns-in-Some-clause-value : goal.returns-in-Some-clause-value
returns-in-Some-clause-value c =
    let found : place_from 0 c.args.key.now (keys (entries_view c.self.inside.entries.items)) ≡ Some c.in-Some.place = cc in
    sym (found_value c.args.key.now c.self.inside.entries.items c.in-Some.place c.index.result.now found c.index.ensures) ∙
    ap (λ ps. at_key c.args.key.now (pairs_of ps)) c.self.view_is

pub returns-in-Some-clause-none : goal.returns-in-Some-clause-none
returns-in-Some-clause-none c =
    let found : place_from 0 c.args.key.now (keys (entries_view c.self.inside.entries.items)) ≡ Some c.in-Some.place = cc in
    let value = found_value c.args.key.now c.self.inside.entries.items c.in-Some.place c.index.result.now found c.index.ensures in
    let there : at_key c.args.key.now (pairs_of c.args.self.now) ≡ Some (data_of c.index.result.now.value) = sym (ap (λ ps. at_key c.args.key.now (pairs_of ps)) c.self.view_is) ∙ value in
    (λ e. absurd (cc), λ h. let none = none_at_lacking c.args.key.now c.args.self.now h in absurd (cc))
