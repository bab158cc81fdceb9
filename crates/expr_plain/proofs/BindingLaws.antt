-- What is given of a `let` and of a `var`.
use Rattle.std.proofs.Common.{◌≡◌, ◌∙◌, ℕ, ◌+◌, ◌<◌, List, ◌∷◌, ◌++◌, length, take, set, get_or, Some, Result, Ok, refl, sym, ap, subst}
use Rattle.std.specs.List.{slice_get}
use Rattle.std.proofs.lemmas.Result.{IfOk-weaker}
use Rattle.prop_values.specs.Data.{Data}
use Rattle.prop_values.specs.View.{data_of}
use Rattle.prop_values.specs.declared.kinds.Want.{Want}
use Rattle.prop_values.specs.declared.kinds.Want.TheVariants as wants
use Rattle.prop_values.specs.declared.value.Value.{Value}
use Rattle.property_tables.specs.Fitting.{fit}
use Rattle.expr_syntax.specs.declared.expression.Expr.{Expr}
use Rattle.expr_syntax.specs.TermView.{term_of}
use Rattle.halts.specs.declared.halt.Halt.{Halt}
use Rattle.prop_values.specs.declared.fault.EvalFault.{EvalFault}
use Rattle.operator_values.specs.Evaluated.{Evaluated, GivesValue, then_value}
use Rattle.eval_face.specs.Bindings.{outcomes_of, let_of, var_of}
use Rattle.eval_face.specs.Meaning.{mean}
use Rattle.eval_face.specs.Names.{BoundOutcomes, bound}
use Rattle.eval_face.specs.World.{World}
use Rattle.expr_plain.specs.Evaluates.{Evaluates}
use Rattle.expr_plain.specs.Frames.{names_of, promise_of, promises, AreKept, IsEntered, IsNamed}
use Rattle.expr_plain.specs.Slots.{done_in}
use Rattle.expr_plain.specs.Terms.{meanings}
use Rattle.expr_plain.specs.declared.evaluation.Evaluation.{Evaluation}
use Rattle.expr_plain.specs.declared.evaluation.BindingSlot.{BindingSlot}
use Rattle.expr_plain.specs.declared.evaluation.BindingSlot.TheVariants.{Done}
use Rattle.expr_plain.specs.declared.frames.Binding.{Binding}
use Rattle.expr_plain.specs.declared.frames.Frames.{Frames}
use Rattle.expr_plain.specs.declared.frames.BindingScope.{BindingScope}
use Rattle.expr_plain.proofs.Evaluating.{meant_in, given}
use Rattle.expr_plain.proofs.FrameLaws.{kept_within, kept_done, kept_set, leave_kept}
use Rattle.expr_plain.proofs.NameLaws.{let_body}

-- ---- `var`

-- the slot of a binding is among those of the evaluation
pub slot_within : {name : List ℕ} {frames : Frames} {world : World} {binding : Binding} {evaluation : Evaluation} → IsNamed name frames.scope.now binding → IsEntered frames world evaluation → binding.slot < length evaluation.slots.items
slot_within {frames = frames} {world} {binding} {evaluation} n k =
    let ps = promises frames.entered.now world in
    kept_within ps evaluation.slots.items binding.slot (promise_of binding.expression.now binding.outer.now world) k.kept (n.promised world ps k.ready)

-- a name by what its binding gives
pub var_gives : {name : List ℕ} (frames : Frames) (world : World) {binding : Binding} {d : Data} (want : Want) → IsNamed name frames.scope.now binding → promise_of binding.expression.now binding.outer.now world ≡ Ok d → fit want d ≡ meant_in (var_of name) want frames world
var_gives frames world want n p = ap (λ x. then_value x (fit want)) (sym (n.meant world ∙ p))

-- a value that was kept
pub kept_evaluates : {r : Result Value (Halt EvalFault)} {name : List ℕ} {frames : Frames} {world : World} {binding : Binding} {d : Data} {want : Want} {a : Evaluation} → IsNamed name frames.scope.now binding → IsEntered frames world a → Some d ≡ done_in (slice_get a.slots.items binding.slot) → GivesValue r (fit want d) → Evaluates r (var_of name) want frames world a a
kept_evaluates {r} {frames = frames} {world} {binding} {d} {want} {a} n k e g =
    let ps = promises frames.entered.now world in
    let p = kept_done ps a.slots.items binding.slot (promise_of binding.expression.now binding.outer.now world) d k.kept (n.promised world ps k.ready) (sym e) in
    given (subst (GivesValue r) (var_gives frames world _ n p) g) k refl

-- the frames that a binding sees, and all that were entered
pub record IsAround (frames around : Frames) (binding : Binding) : Type 0 where
  pub scope : around.scope.now ≡ binding.outer.now
  pub entered : around.entered.now ≡ frames.entered.now

-- a binding that is evaluated, and kept
pub binding_evaluates : {r : Result Value (Halt EvalFault)} {v : Value} {name : List ℕ} {frames around : Frames} {world : World} {binding : Binding} {want : Want} {a m c : Evaluation} → IsNamed name frames.scope.now binding → IsAround frames around binding → IsEntered frames world a → Evaluates (Ok v) (mean (term_of binding.expression.now)) wants.Any around world a m → c.slots.items ≡ set m.slots.items binding.slot (Done v) → c.values ≡ m.values → GivesValue r (fit want (data_of v)) → Evaluates r (var_of name) want frames world a c
binding_evaluates {r} {v} {frames = frames} {around} {world} {binding} {a = a} {m} {c} n o k h s w g =
    let ps = promises frames.entered.now world in
    let i = binding.slot in
    let p : promise_of binding.expression.now binding.outer.now world ≡ Ok (data_of v) = ap (λ x. promise_of binding.expression.now x world) (sym o.scope) ∙ h.meant in
    let P : BindingScope → Type 0 = λ x. AreKept (promises x world) m.slots.items in
    let before : AreKept ps m.slots.items = subst P o.entered h.entered.kept in
    let K : List BindingSlot → Type 0 = λ x. AreKept ps x in
    let after = kept_set ps m.slots.items i (promise_of binding.expression.now binding.outer.now world) v before (n.promised world ps k.ready) p in
    given (subst (GivesValue r) (var_gives frames world _ n p) g) (record { ready = k.ready; kept = subst K (sym s) after }) (ap (λ x. x.items) w ∙ h.stands)

-- ---- `let`

-- a body in its frame, which is left again
pub let_evaluates : {r : Result Value (Halt EvalFault)} (ns : List (List ℕ)) (es : List Expr) {e : Expr} {n : ℕ} {first : ℕ} {frames : Frames} {inner : Frames} {world : World} {want : Want} {a : Evaluation} {b : Evaluation} {m : Evaluation} {c : Evaluation} → n ≡ length ns → length es ≡ n + 1 → e ≡ get_or es n e
    → names_of inner.scope.now world ≡ bound ns (outcomes_of (meanings (take n es)) (names_of frames.scope.now world) world) ∷ names_of frames.scope.now world
    → promises inner.entered.now world ≡ promises frames.entered.now world ++ outcomes_of (meanings (take n es)) (names_of frames.scope.now world) world
    → IsEntered frames world a → first ≡ length a.slots.items → b.values ≡ a.values → Evaluates r (mean (term_of e)) want inner world b m → c.slots.items ≡ take first m.slots.items → c.values ≡ m.values → Evaluates r (let_of ns (meanings es)) want frames world a c
let_evaluates {r} ns es {e} {n} {first} {frames} {inner} {world} {want} {a} {b} {m} {c} count l g seen held k f v h s w =
    let names = names_of frames.scope.now world in
    let ps = promises frames.entered.now world in
    let os = outcomes_of (meanings (take n es)) names world in
    let K : List BindingSlot → Type 0 = λ x. AreKept ps x in
    let H : List Evaluated → Type 0 = λ x. AreKept x m.slots.items in
    let cut : c.slots.items ≡ take (length a.slots.items) m.slots.items = s ∙ ap (λ (j : ℕ). take j m.slots.items) f in
    record {
      meant = subst (GivesValue r) (ap (λ (x : BoundOutcomes). mean (term_of e) want x world) seen ∙ sym (let_body ns es e want names world n count l g)) h.meant;
      entered = IfOk-weaker r _ _ (λ _ i. record { ready = k.ready; kept = subst K (sym cut) (leave_kept ps os a.slots.items m.slots.items k.kept (subst H held i.kept)) }) h.entered;
      stands = IfOk-weaker r _ _ (λ _ i. ap (λ x. x.items) w ∙ (i ∙ ap (λ x. x.items) v)) h.stands;
    }
