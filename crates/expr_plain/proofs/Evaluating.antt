-- How an evaluation is made of those of its parts.
use Rattle.std.proofs.Common.{◌≡◌, ◌∙◌, Result, Ok, Err, IfOk, IsErrAnd, List, subst, sym}
use Rattle.std.proofs.lemmas.Result.{IfOk-weaker}
use Rattle.prop_values.specs.Data.{Data}
use Rattle.prop_values.specs.declared.fault.EvalFault.{EvalFault}
use Rattle.prop_values.specs.declared.kinds.Want.{Want}
use Rattle.prop_values.specs.declared.value.Value.{Value}
use Rattle.halts.specs.declared.halt.Halt.{Halt}
use Rattle.operator_values.specs.Evaluated.{Evaluated, GivesValue}
use Rattle.eval_face.specs.Meanings.{Meaning}
use Rattle.eval_face.specs.Names.{BoundOutcomes}
use Rattle.eval_face.specs.World.{World}
use Rattle.expr_plain.specs.Evaluates.{Evaluates}
use Rattle.expr_plain.specs.Frames.{names_of, IsEntered}
use Rattle.expr_plain.specs.declared.evaluation.Evaluation.{Evaluation}
use Rattle.expr_plain.specs.declared.frames.Frames.{Frames}

-- what something means in frames
abbrev pub meant_in : Meaning → Want → Frames → World → Evaluated
meant_in meaning want frames world = meaning want (names_of frames.scope.now world) world

abbrev pub values_in : (Want → BoundOutcomes → World → Result (List Data) EvalFault) → Want → Frames → World → Result (List Data) EvalFault
values_in meaning want frames world = meaning want (names_of frames.scope.now world) world

always : {X E : Type 0} (r : Result X E) (P : Type 0) → P → IfOk r (λ _. P)
always (Ok x) P p = p
always (Err e) P p = tt

-- the last of the parts, which means the same as the whole
pub as_meant : {r : Result Value (Halt EvalFault)} {m n : Meaning} {want own : Want} {frames : Frames} {world : World} {a b c : Evaluation} → meant_in n own frames world ≡ meant_in m want frames world → b.values.items ≡ a.values.items → Evaluates r n own frames world b c → Evaluates r m want frames world a c
as_meant {r} {m} {n} {want} {own} {frames} {world} {a} {b} {c} e s h = record {
  meant = subst (GivesValue r) e h.meant;
  entered = h.entered;
  stands = IfOk-weaker r _ _ (λ _ k. k ∙ s) h.stands;
}

-- what is made of the values of the parts
pub given : {r : Result Value (Halt EvalFault)} {m : Meaning} {want : Want} {frames : Frames} {world : World} {a c : Evaluation} → GivesValue r (meant_in m want frames world) → IsEntered frames world c → c.values.items ≡ a.values.items → Evaluates r m want frames world a c
given {r} {m} {want} {frames} {world} {a} {c} g k s = record {
  meant = g;
  entered = always r (IsEntered frames world c) k;
  stands = always r (c.values.items ≡ a.values.items) s;
}

-- a part that halts, as `?` hands it on
pub halted : {r : Result Value (Halt EvalFault)} {m : Meaning} {want : Want} {frames : Frames} {world : World} {a : Evaluation} {c : Evaluation} (h : Halt EvalFault) → IsErrAnd r (λ y. y ≡ h) → GivesValue (Err h) (meant_in m want frames world) → Evaluates r m want frames world a c
halted {r = Ok v} h k g = absurd k
halted {r = Err y} {m} {want} {frames} {world} h k g = record {
  meant = subst (λ (z : Halt EvalFault). GivesValue (Err z) (meant_in m want frames world)) (sym k) g;
  entered = tt;
  stands = tt;
}
