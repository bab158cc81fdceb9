-- What is given of a binding that is asked for.
use Rattle.std.proofs.Common.{◌≡◌, ◌∙◌, ℕ, ℤ, ◌+◌, ◌<◌, ◌≤◌, Result, Ok, Err, Some, None, IsErrAnd, List, length, set, arith, refl, subst, sym, ap}
use Rattle.std.specs.List.{slice_get}
use Rattle.prop_values.specs.Data.{Data, number}
use Rattle.prop_values.specs.View.{data_of}
use Rattle.prop_values.specs.declared.fault.EvalFault.{EvalFault}
use Rattle.prop_values.specs.declared.kinds.Want.{Want}
use Rattle.prop_values.specs.declared.value.Value.{Value}
use Rattle.property_tables.specs.Fitting.{fit}
use Rattle.halts.specs.declared.halt.Halt.{Halt}
use Rattle.halts.specs.declared.halt.Halt.TheVariants.{NoMemory}
use Rattle.operator_values.specs.Evaluated.{Evaluated, GivesValue, then_value}
use Rattle.operator_rules.proofs.Halts.{then_halted}
use Rattle.eval_face.specs.World.{World}
use Rattle.expr_nodes.specs.Node.{Node, asked, size}
use Rattle.expr_nodes.specs.Outcome.{outcome, promised, promises}
use Rattle.expr_nodes.specs.Slots.{HoldPromises, pending, done_in}
use Rattle.expr_nodes.specs.EvaluatesNode.{IsReady, HasProgressed, EvaluatesNode, outcome_at}
use Rattle.expr_nodes.specs.declared.workspace.Workspace.{Workspace}
use Rattle.expr_nodes.specs.declared.workspace.PromiseSlot.{PromiseSlot}
use Rattle.expr_nodes.specs.declared.workspace.PromiseSlot.TheVariants.{Done}
use Rattle.expr_nodes.proofs.PromiseLaws.{promise_count}
use Rattle.expr_nodes.proofs.BindingPlaces.{promise_at}
use Rattle.expr_nodes.proofs.SlotLaws.{kept_length, kept_done, kept_set, still_waits, above_set, pending_at, pending_set}
use Rattle.expr_nodes.proofs.Composing.{begun, given}

-- there is a slot for each binding below the limit
pub slot_within : {limit : ℕ} {bs : List Node} {world : World} {x : Workspace} (slot : ℕ) → slot < limit → IsReady limit bs world x → slot < length x.slots.items
slot_within {bs = bs} {world} {x} slot h i =
    let k = kept_length (promises bs world) x.slots.items i.kept in
    let l = promise_count bs world in
    omega (arith, h, i.within)

pub binding_ready : {limit : ℕ} {bs : List Node} {world : World} {x : Workspace} (slot : ℕ) → slot < limit → IsReady limit bs world x → IsReady slot bs world x
binding_ready slot h i = record { within = omega (arith, h, i.within); earlier = i.earlier; kept = i.kept }

binding_outcome : {limit : ℕ} {bs : List Node} {world : World} {x : Workspace} (slot : ℕ) (b : Node) → slice_get bs slot ≡ Some b → IsReady limit bs world x → outcome_at (promises bs world) slot ≡ outcome b (promises bs world) world
binding_outcome {bs = bs} {world} slot b e i = ap promised (promise_at bs world slot b i.earlier e)

-- it was asked for before
pub asked_before : {limit : ℕ} {bs : List Node} {world : World} {r : Result Value (Halt EvalFault)} {x : Workspace} {s : ℕ} (slot : ℕ) (want : Want) (d : Data) → IsReady limit bs world x → Some d ≡ done_in (slice_get x.slots.items slot) → GivesValue r (fit want d) → EvaluatesNode limit bs world r (then_value (outcome_at (promises bs world) slot) (fit want)) 0 x x s s
asked_before {bs = bs} {world} {r} {x} slot want d i e g =
    given 0 0 i (begun i) (omega arith)
    (subst (GivesValue r) (sym (ap (λ o. then_value o (fit want)) (kept_done (promises bs world) x.slots.items slot d i.kept (sym e)))) g)
    refl

-- a constant needs no evaluation, and is not kept
pub asked_constant : {limit : ℕ} {bs : List Node} {world : World} {r : Result Value (Halt EvalFault)} {x : Workspace} {s : ℕ} (slot : ℕ) (want : Want) (b : Node) (d : Data) → slice_get bs slot ≡ Some b → IsReady limit bs world x → outcome b (promises bs world) world ≡ Ok d → GivesValue r (fit want d) → EvaluatesNode limit bs world r (then_value (outcome_at (promises bs world) slot) (fit want)) 0 x x s s
asked_constant {r = r} slot want b d e i m g =
    given 0 0 i (begun i) (omega arith)
    (subst (GivesValue r) (sym (ap (λ o. then_value o (fit want)) (binding_outcome slot b e i ∙ m))) g)
    refl

-- a number that was asked for before
pub asked_number : {limit : ℕ} {bs : List Node} {world : World} {x : Workspace} (n : Node) (slot : ℕ) (want : Want) (z : ℤ) → n ≡ asked slot want → IsReady limit bs world x → Some (number z) ≡ done_in (slice_get x.slots.items slot) → fit want (number z) ≡ Ok (number z) → outcome n (promises bs world) world ≡ Ok (number z)
asked_number {bs = bs} {world} {x} n slot want z q i e f =
    ap (λ o. outcome o (promises bs world) world) q
    ∙ (ap (λ o. then_value o (fit want)) (kept_done (promises bs world) x.slots.items slot (number z) i.kept (sym e)) ∙ f)

-- a number that is a constant
pub constant_asked : {limit : ℕ} {bs : List Node} {world : World} {x : Workspace} (n b : Node) (slot : ℕ) (want : Want) (z : ℤ) → n ≡ asked slot want → slice_get bs slot ≡ Some b → IsReady limit bs world x → outcome b (promises bs world) world ≡ Ok (number z) → fit want (number z) ≡ Ok (number z) → outcome n (promises bs world) world ≡ Ok (number z)
constant_asked {bs = bs} {world} n b slot want z q e i m f =
    ap (λ o. outcome o (promises bs world) world) q
    ∙ (ap (λ o. then_value o (fit want)) (binding_outcome slot b e i ∙ m) ∙ f)

-- it waits, and costs what it is
waits : {limit : ℕ} {bs : List Node} {world : World} {x : Workspace} (slot : ℕ) (b : Node) → slot < limit → slice_get bs slot ≡ Some b → IsReady limit bs world x → done_in (slice_get x.slots.items slot) ≡ None → pending slot bs x.slots.items + size b ≤ pending limit bs x.slots.items
waits {limit} {bs} {world} {x} slot b h e i d =
    pending_at limit slot bs x.slots.items b h e (still_waits x.slots.items slot (slot_within slot h i) d)

pub asked_halts : {limit : ℕ} {bs : List Node} {world : World} {r : Result Value (Halt EvalFault)} {h : Halt EvalFault} {x y : Workspace} {s t : ℕ} (slot : ℕ) (want : Want) (b : Node) → slot < limit → slice_get bs slot ≡ Some b → IsReady limit bs world x → done_in (slice_get x.slots.items slot) ≡ None → EvaluatesNode slot bs world (Err h) (outcome b (promises bs world) world) (size b) x y s t → IsErrAnd r (λ k. k ≡ h) → EvaluatesNode limit bs world r (then_value (outcome_at (promises bs world) slot) (fit want)) 0 x y s t
asked_halts {r = Ok v} slot want b l e i d j k = absurd k
asked_halts {limit} {bs} {world} {r = Err k} {h} slot want b l e i d j q =
    let w = waits slot b l e i d in
    let m = then_halted h (outcome b (promises bs world) world) (fit want) j.gives in
    record {
      gives = subst (λ (z : Halt EvalFault). GivesValue (Err z) (then_value (outcome_at (promises bs world) slot) (fit want))) (sym q) (subst (λ (o : Evaluated). GivesValue (Err h) (then_value o (fit want))) (sym (binding_outcome slot b e i)) m);
      rises = j.rises;
      most = omega (arith, j.most, w);
      progress = tt;
      ready = tt;
      stands = tt;
    }

-- its value is not kept
pub asked_fails : {limit : ℕ} {bs : List Node} {world : World} {r : Result Value (Halt EvalFault)} {v : Value} {x y z : Workspace} {s t : ℕ} (slot : ℕ) (want : Want) (b : Node) → slot < limit → slice_get bs slot ≡ Some b → IsReady limit bs world x → done_in (slice_get x.slots.items slot) ≡ None → EvaluatesNode slot bs world (Ok v) (outcome b (promises bs world) world) (size b) x y s t → IsErrAnd r (λ k. k ≡ NoMemory) → EvaluatesNode limit bs world r (then_value (outcome_at (promises bs world) slot) (fit want)) 0 x z s t
asked_fails {r = Ok v} slot want b l e i d j k = absurd k
asked_fails {bs = bs} {world} {r = Err k} slot want b l e i d j q =
    let w = waits slot b l e i d in
    record {
      gives = subst (λ (z : Halt EvalFault). GivesValue (Err z) (then_value (outcome_at (promises bs world) slot) (fit want))) (sym q) tt;
      rises = j.rises;
      most = omega (arith, j.most, w);
      progress = tt;
      ready = tt;
      stands = tt;
    }

-- its value is kept
pub asked_evaluates : {limit : ℕ} {bs : List Node} {world : World} {r : Result Value (Halt EvalFault)} {v : Value} {x y z : Workspace} {s t : ℕ} (slot : ℕ) (want : Want) (b : Node) → slot < limit → slice_get bs slot ≡ Some b → IsReady limit bs world x → done_in (slice_get x.slots.items slot) ≡ None → EvaluatesNode slot bs world (Ok v) (outcome b (promises bs world) world) (size b) x y s t → z.slots.items ≡ set y.slots.items slot (Done v) → z.values.items ≡ y.values.items → GivesValue r (fit want (data_of v)) → EvaluatesNode limit bs world r (then_value (outcome_at (promises bs world) slot) (fit want)) 0 x z s t
asked_evaluates {limit} {bs} {world} {r} {v} {x} {y} {z} {s} {t} slot want b l e i d j u p g =
    let ss = x.slots.items in
    let us = y.slots.items in
    let m = binding_outcome slot b e i ∙ j.gives in
    let w = still_waits ss slot (slot_within slot l i) d in
    let a = kept_length (promises bs world) ss i.kept in
    let c = kept_length (promises bs world) us j.progress.kept in
    let n = pending_set limit slot bs ss us b v l e w (sym c ∙ a) j.progress.above in
    let q = ap (pending limit bs) u in
    let P : List PromiseSlot → Type 0 = λ zs. HoldPromises (promises bs world) zs in
    let far : HasProgressed limit bs world 0 x z s t = record {
      kept = subst P (sym u) (kept_set (promises bs world) us slot v j.progress.kept m);
      above = λ k h. ap (λ zs. slice_get zs k) u ∙ above_set ss us slot limit (Done v) l j.progress.above k h;
      rises = j.rises;
      paid = omega (arith, j.progress.paid, n, q);
    } in
    given 0 0 i far (omega arith) (subst (GivesValue r) (sym (ap (λ o. then_value o (fit want)) m)) g) (p ∙ j.stands)
