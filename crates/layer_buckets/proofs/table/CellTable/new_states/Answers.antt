use Rattle.std.specs.Global.{Global}
use Rattle.std.proofs.Common.{◌∙◌, Vec, length, refl, sym, ap}
use Rattle.layer_buckets.specs.declared.columns.Column.{Column}
use Rattle.layer_buckets.proofs.AddLaws.{stay_seen_table, stay_seen_shown, stay_self, states_table, states_shown}
use Rattle.layer_buckets.proofs.table.CellTable.new_states.Goals as goal

pub returns-in_err-add_states-clause-table : goal.returns-in_err-add_states-clause-table
returns-in_err-add_states-clause-table c =
    let t = c.args.self.now in
    let e = ap (λ (v : Vec Column Global). v.items) c.add_states.ensures.columns in
    stay_seen_table t t.layers c.add_states.new.self (λ l i. refl) (stay_self t.layers.items) c.requires.table c.add_states.ensures.keeping (ap length e ∙ (c.requires.table.listed ∙ sym c.add_states.ensures.items)) e c.in_err-add_states.ensures.err

pub returns-in_err-add_states-clause-shown : goal.returns-in_err-add_states-clause-shown
returns-in_err-add_states-clause-shown c =
    let t = c.args.self.now in
    stay_seen_shown t t.layers c.add_states.new.self (λ l i. refl) (stay_self t.layers.items) c.add_states.ensures.kept_outcome (ap (λ (v : Vec Column Global). v.items) c.add_states.ensures.columns)

pub returns-clause-table : goal.returns-clause-table
returns-clause-table c =
    let t = c.args.self.now in
    let s = c.set_states.ensures in
    states_table t c.set_states.new.layers c.add_states.new.self c.args.layer c.args.states c.requires.table c.requires.few s.columns s.features s.first s.states c.add_states.ensures.keeping (ap (λ (v : Vec Column Global). v.items) c.add_states.ensures.columns) c.add_states.ensures.items c.in_ok-add_states.ensures.ok c.in_ok-add_states.ensures.small

pub returns-clause-shown : goal.returns-clause-shown
returns-clause-shown c =
    let t = c.args.self.now in
    let s = c.set_states.ensures in
    states_shown t c.set_states.new.layers c.add_states.new.self s.columns s.features c.add_states.ensures.kept_outcome (ap (λ (v : Vec Column Global). v.items) c.add_states.ensures.columns)
