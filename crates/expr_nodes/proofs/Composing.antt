-- How an evaluation is made of those of its parts.
use Rattle.std.proofs.Common.{◌≡◌, ◌∙◌, ℕ, ◌+◌, ◌≤◌, Result, Ok, Err, IfOk, IsErrAnd, List, arith, refl, subst, sym}
use Rattle.std.proofs.lemmas.Result.{IfOk-weaker}
use Rattle.prop_values.specs.declared.fault.EvalFault.{EvalFault}
use Rattle.prop_values.specs.declared.value.Value.{Value}
use Rattle.halts.specs.declared.halt.Halt.{Halt}
use Rattle.operator_values.specs.Evaluated.{Evaluated, GivesValue}
use Rattle.eval_face.specs.World.{World}
use Rattle.expr_nodes.specs.Node.{Node}
use Rattle.expr_nodes.specs.EvaluatesNode.{IsReady, HasProgressed, EvaluatesNode}
use Rattle.expr_nodes.specs.declared.workspace.Workspace.{Workspace}

pub always : {X E : Type 0} (r : Result X E) (P : Type 0) → P → IfOk r (λ _. P)
always (Ok x) P p = p
always (Err e) P p = tt

-- ---- what came so far

pub begun : {limit : ℕ} {bs : List Node} {world : World} {x : Workspace} {s : ℕ} → IsReady limit bs world x → HasProgressed limit bs world 0 x x s s
begun r = record { kept = r.kept; above = λ i h. refl; rises = omega arith; paid = omega arith }

pub ticked : {limit : ℕ} {bs : List Node} {world : World} {x : Workspace} {s t : ℕ} → IsReady limit bs world x → t ≡ s + 1 → HasProgressed limit bs world 1 x x s t
ticked r q = record { kept = r.kept; above = λ i h. refl; rises = omega (arith, q); paid = omega (arith, q) }

pub still_ready : {limit cost : ℕ} {bs : List Node} {world : World} {x y : Workspace} {s t : ℕ} → IsReady limit bs world x → HasProgressed limit bs world cost x y s t → IsReady limit bs world y
still_ready r p = record { within = r.within; earlier = r.earlier; kept = p.kept }

pub cheaper : {limit : ℕ} {bs : List Node} {world : World} {x y : Workspace} {s t : ℕ} (c d : ℕ) → HasProgressed limit bs world c x y s t → c ≤ d → HasProgressed limit bs world d x y s t
cheaper c d p w = record { kept = p.kept; above = p.above; rises = p.rises; paid = omega (arith, p.paid, w) }

pub joined : {limit : ℕ} {bs : List Node} {world : World} {x y z : Workspace} {s t u : ℕ} (c d : ℕ) → HasProgressed limit bs world c x y s t → HasProgressed limit bs world d y z t u → HasProgressed limit bs world (c + d) x z s u
joined c d p q = record {
  kept = q.kept;
  above = λ i h. q.above i h ∙ p.above i h;
  rises = omega (arith, p.rises, q.rises);
  paid = omega (arith, p.paid, q.paid);
}

-- ---- what is given at the end

-- of what came so far, without a further node
pub given : {limit : ℕ} {bs : List Node} {world : World} {x y : Workspace} {s t : ℕ} {r : Result Value (Halt EvalFault)} {m : Evaluated} (c cost : ℕ) → IsReady limit bs world x → HasProgressed limit bs world c x y s t → c ≤ cost → GivesValue r m → y.values.items ≡ x.values.items → EvaluatesNode limit bs world r m cost x y s t
given {limit} {bs} {world} {x} {y} {s} {t} {r} c cost i p w g v = record {
  gives = g;
  rises = p.rises;
  most = omega (arith, p.paid, w);
  progress = always r (HasProgressed limit bs world cost x y s t) (cheaper c cost p w);
  ready = always r (IsReady limit bs world y) (still_ready i p);
  stands = always r (y.values.items ≡ x.values.items) v;
}

-- a fault or an allocation that fails after what came so far, whatever has changed since
pub fails : {limit : ℕ} {bs : List Node} {world : World} {x y z : Workspace} {s t : ℕ} {r : Result Value (Halt EvalFault)} {m : Evaluated} (h : Halt EvalFault) (c cost : ℕ) → HasProgressed limit bs world c x y s t → c ≤ cost → IsErrAnd r (λ k. k ≡ h) → GivesValue (Err h) m → EvaluatesNode limit bs world r m cost x z s t
fails {r = Ok v} h c cost p w k g = absurd k
fails {r = Err k} {m} h c cost p w e g = record {
  gives = subst (λ (z : Halt EvalFault). GivesValue (Err z) m) (sym e) g;
  rises = p.rises;
  most = omega (arith, p.paid, w);
  progress = tt;
  ready = tt;
  stands = tt;
}

-- a part that halts
pub halts : {limit : ℕ} {bs : List Node} {world : World} {x y z : Workspace} {s t u : ℕ} {r : Result Value (Halt EvalFault)} {h : Halt EvalFault} {m own : Evaluated} (c d cost : ℕ) → HasProgressed limit bs world c x y s t → EvaluatesNode limit bs world (Err h) own d y z t u → c + d ≤ cost → IsErrAnd r (λ k. k ≡ h) → GivesValue (Err h) m → EvaluatesNode limit bs world r m cost x z s u
halts {r = Ok v} c d cost p e w k g = absurd k
halts {r = Err k} {m = m} c d cost p e w q g = record {
  gives = subst (λ (z : Halt EvalFault). GivesValue (Err z) m) (sym q) g;
  rises = omega (arith, p.rises, e.rises);
  most = omega (arith, p.paid, e.most, w);
  progress = tt;
  ready = tt;
  stands = tt;
}

-- the last part gives what the whole gives
pub ended : {limit : ℕ} {bs : List Node} {world : World} {x y z : Workspace} {s t u : ℕ} {r : Result Value (Halt EvalFault)} {m own : Evaluated} (c d cost : ℕ) → HasProgressed limit bs world c x y s t → EvaluatesNode limit bs world r own d y z t u → c + d ≤ cost → own ≡ m → y.values.items ≡ x.values.items → EvaluatesNode limit bs world r m cost x z s u
ended {r = r} c d cost p e w q v = record {
  gives = subst (GivesValue r) q e.gives;
  rises = omega (arith, p.rises, e.rises);
  most = omega (arith, p.paid, e.most, w);
  progress = IfOk-weaker r _ _ (λ _ k. cheaper (c + d) cost (joined c d p k) w) e.progress;
  ready = e.ready;
  stands = IfOk-weaker r _ _ (λ _ k. k ∙ v) e.stands;
}
