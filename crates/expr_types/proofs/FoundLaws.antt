-- What the check of arguments finds one after the other, and what a node makes of it.
use Rattle.std.specs.Prelude.{List, [], ◌∷◌, ◌++◌, true, false, Option, Some, None, Result, Ok, Err, IfOk, slice_set}
use Rattle.std.proofs.Common.{◌≡◌, ℕ, ◌+◌, ◌<◌, ◌∙◌, length, append_assoc, append-nil, ap, sym, refl, arith, Bool}
use Rattle.std.proofs.Math.Seq.{set-append_seam}
use Rattle.std.proofs.lemmas.List.{length-append}
use Rattle.decimal_json.specs.declared.paths.PathPart.{PathPart}
use Rattle.prop_values.specs.Data.{Data}
use Rattle.prop_values.specs.Faults.{no_faults, union}
use Rattle.prop_values.specs.declared.fault.FaultSet.{FaultSet}
use Rattle.prop_values.specs.declared.kinds.Kind.{Kind}
use Rattle.prop_values.specs.declared.kinds.Want.{Want}
use Rattle.expr_syntax.specs.declared.expression.Operator.{Operator}
use Rattle.expr_types.specs.OwnTable.{own}
use Rattle.expr_types.specs.Sequences.{sequence_fit}
use Rattle.expr_types.specs.declared.fits.Fit.{Fit}
use Rattle.expr_types.specs.declared.fits.Fit.TheVariants.{Always, Maybe, Never}
use Rattle.expr_types.specs.Typing.{TypedNodes, Typed, Node, places_of, with_below, and_found, then_found, kinds_in, may_after, places_after, all_places, finished, finished_node, own_where, with_misfit, sequence_if, looked_at}
use Rattle.expr_types.specs.TypedView.{Kinds, root_of, added, added_below, kinds_after, all_added}
use Rattle.expr_types.specs.declared.fault.TypeFault.{TypeFault}
use Rattle.expr_types.specs.declared.placed.Kinded.{Kinded}
use Rattle.expr_types.specs.declared.placed.Placed.{Placed}

-- the root of a node is what the node is, and the places below it are its own
pub root_below : (below : List Placed) (n : Node) → root_of (with_below below n) ≡ n
root_below below (Ok k) = refl
root_below below (Err f) = refl

pub none_below : (places : List Placed) (n : Node) → IfOk n (λ k. Ok places ≡ added_below places (with_below [] n))
none_below places (Ok k) = ap Ok (sym (append-nil places))
none_below places (Err f) = tt

-- arguments one after the other
pub found_kinds : (ks : List Kind) (may : FaultSet) (t : Typed) (k : Kinded) (r : Result (List TypedNodes) TypeFault) → Ok k ≡ root_of t → kinds_after (ks ++ k.kind ∷ []) (union may k.may) r ≡ kinds_after ks may (and_found t r)
found_kinds ks may (Ok f) k (Ok fs) is =
    let same : k ≡ f.node = cc in
    rw same (ap (λ js. Ok (js, may_after (union may f.node.may) fs)) (append_assoc ks (f.node.kind ∷ []) (kinds_in fs)))
found_kinds ks may (Ok f) k (Err g) is = refl
found_kinds ks may (Err g) k r is = absurd (cc)

pub found_places : (old new : List Placed) (t : Typed) (k : Kinded) (r : Result (List TypedNodes) TypeFault) → Ok k ≡ root_of t → Ok new ≡ added old t → all_added new r ≡ all_added old (and_found t r)
found_places old new (Ok f) k (Ok fs) is here = let same : new ≡ old ++ places_of f = cc in ap (λ ps. Ok (places_after ps fs)) same
found_places old new (Ok f) k (Err g) is here = refl
found_places old new (Err g) k r is here = absurd (cc)

pub found_fault : (ks : List Kind) (may : FaultSet) (t : Typed) (e : TypeFault) (r : Result (List TypedNodes) TypeFault) → Err e ≡ root_of t → Err e ≡ kinds_after ks may (and_found t r)
found_fault ks may (Ok f) e r is = absurd (cc)
found_fault ks may (Err g) e r is = cc

-- the place of a node is filled once its arguments were checked
pub settled : (old new : List Placed) (p : Placed) (t : Typed) (k : Kinded) → Ok k ≡ root_of t → Ok new ≡ added_below (old ++ p ∷ []) t → Ok (slice_set new (length old) k.root) ≡ added old t
settled old new p (Ok f) k is here =
    let same : k ≡ f.node = cc in
    let all : new ≡ (old ++ p ∷ []) ++ f.below = cc in
    rw same (rw all (ap Ok (ap (λ ps. slice_set ps (length old) f.node.root) (append_assoc old (p ∷ []) f.below) ∙ set-append_seam old p f.below f.node.root)))
settled old new p (Err g) k is here = absurd (cc)

pub settle_within : (old new : List Placed) (p : Placed) (t : Typed) (k : Kinded) → Ok k ≡ root_of t → Ok new ≡ added_below (old ++ p ∷ []) t → length old < length new
settle_within old new p (Ok f) k is here =
    let all : new ≡ (old ++ p ∷ []) ++ f.below = cc in
    rw all (omega (arith, length-append (old ++ p ∷ []) f.below, length-append old (p ∷ [])))
settle_within old new p (Err g) k is here = absurd (cc)

-- places with others before
pub places_from : (places : List Placed) (fs : List TypedNodes) → places_after places fs ≡ places ++ places_after [] fs
places_from places [] = sym (append-nil places)
places_from places (f ∷ fs) =
    places_from (places ++ places_of f) fs ∙
    (append_assoc places (places_of f) (places_after [] fs) ∙ ap (λ ps. places ++ ps) (sym (places_from (places_of f) fs)))

abbrev pub from_ok : Result Kinds TypeFault → Kinds → Kinds
from_ok (Ok x) other = x
from_ok (Err f) other = other

pub kinds_are : (fs : List TypedNodes) (ks : List Kind) (may : FaultSet) → Ok (ks, may) ≡ kinds_after [] no_faults (Ok fs) → ks ≡ kinds_in fs
kinds_are fs ks may is = ap (λ r. (from_ok r (ks, may)).0) is

pub may_is : (fs : List TypedNodes) (ks : List Kind) (may : FaultSet) → Ok (ks, may) ≡ kinds_after [] no_faults (Ok fs) → may ≡ may_after no_faults fs
may_is fs ks may is = ap (λ r. (from_ok r (ks, may)).1) is

-- a node of an operator without names
pub plain_root : (is_sequence : Bool) (op : Operator) (want : Want) (ls : List (Option Data)) (path : List PathPart) (founds : Result (List TypedNodes) TypeFault) (ks : List Kind) (may : FaultSet) → Ok (ks, may) ≡ kinds_after [] no_faults founds → finished_node op want (own_where is_sequence (own op want ls ks)) may path ≡ root_of (then_found founds (λ fs. finished op want (own_where is_sequence (own op want ls (kinds_in fs))) fs path))
plain_root is_sequence op want ls path (Ok fs) ks may is =
    let these : ks ≡ kinds_in fs = kinds_are fs ks may is in
    let all : may ≡ may_after no_faults fs = may_is fs ks may is in
    rw these (rw all (sym (root_below (all_places fs) (finished_node op want (own_where is_sequence (own op want ls (kinds_in fs))) (may_after no_faults fs) path))))
plain_root is_sequence op want ls path (Err f) ks may is = absurd (cc)

pub plain_fault : (is_sequence : Bool) (op : Operator) (want : Want) (ls : List (Option Data)) (path : List PathPart) (founds : Result (List TypedNodes) TypeFault) (e : TypeFault) → Err e ≡ kinds_after [] no_faults founds → Err e ≡ root_of (then_found founds (λ fs. finished op want (own_where is_sequence (own op want ls (kinds_in fs))) fs path))
plain_fault is_sequence op want ls path (Ok fs) e is = absurd (cc)
plain_fault is_sequence op want ls path (Err f) e is = cc

below_by : (places : List Placed) (new : List Placed) (fs : List TypedNodes) (n : Node) (r : Node) → r ≡ n → new ≡ places_after places fs → IfOk r (λ k. Ok new ≡ added_below places (with_below (all_places fs) n))
below_by places new fs (Ok k) r is here = rw is (ap Ok (here ∙ places_from places fs))
below_by places new fs (Err f) r is here = rw is tt

pub plain_places : (is_sequence : Bool) (op : Operator) (want : Want) (ls : List (Option Data)) (path : List PathPart) (founds : Result (List TypedNodes) TypeFault) (ks : List Kind) (may : FaultSet) (old new : List Placed) (r : Node) → Ok (ks, may) ≡ kinds_after [] no_faults founds → Ok new ≡ all_added old founds → r ≡ finished_node op want (own_where is_sequence (own op want ls ks)) may path → IfOk r (λ k. Ok new ≡ added_below old (then_found founds (λ fs. finished op want (own_where is_sequence (own op want ls (kinds_in fs))) fs path)))
plain_places is_sequence op want ls path (Ok fs) ks may old new r is here same =
    let these : ks ≡ kinds_in fs = kinds_are fs ks may is in
    let all : may ≡ may_after no_faults fs = may_is fs ks may is in
    below_by old new fs (finished_node op want (own_where is_sequence (own op want ls (kinds_in fs))) (may_after no_faults fs) path) r (same ∙ (ap (λ js. finished_node op want (own_where is_sequence (own op want ls js)) may path) these ∙ ap (λ m. finished_node op want (own_where is_sequence (own op want ls (kinds_in fs))) m path) all)) (cc)
plain_places is_sequence op want ls path (Err f) ks may old new r is here same = absurd (cc)

-- an argument that is looked at
pub looked_root : (b : Bool) (t : Typed) (k : Kinded) (path : List PathPart) → Ok k ≡ root_of t → sequence_if b k path ≡ root_of (looked_at b t path)
looked_root b (Ok f) k path is = let same : k ≡ f.node = cc in rw same (sym (root_below f.below (sequence_if b f.node path)))
looked_root b (Err g) k path is = absurd (cc)

pub looked_fault : (b : Bool) (t : Typed) (e : TypeFault) (path : List PathPart) → Err e ≡ root_of t → Err e ≡ root_of (looked_at b t path)
looked_fault b (Ok f) e path is = absurd (cc)
looked_fault b (Err g) e path is = cc

-- results
pub if_ok_is : {A : Type 0} {E : Type 0} (r : Result A E) (a b : A) → IfOk r (λ x. x ≡ a) → a ≡ b → IfOk r (λ x. x ≡ b)
if_ok_is (Ok x) a b is same = is ∙ same
if_ok_is (Err e) a b is same = tt

pub if_ok_all : {A : Type 0} {E : Type 0} {P : A → Type 0} {Q : A → Type 0} (r : Result A E) → ((x : A) → P x → Q x) → IfOk r P → IfOk r Q
if_ok_all (Ok x) go holds = go x holds
if_ok_all (Err e) go holds = tt

pub ok_of : {A : Type 0} {E : Type 0} {Q : Type 0} (r : Result A E) (k : A) → r ≡ Ok k → IfOk r (λ x. Q) → Q
ok_of (Ok x) k is holds = holds
ok_of (Err e) k is holds = absurd (cc)

-- the places that an argument adds, looked at or not
root_kept : (fit : Fit) (k : Kinded) (path : List PathPart) → IfOk (with_misfit fit k path) (λ j. j.root ≡ k.root)
root_kept Always k path = refl
root_kept Maybe k path = refl
root_kept Never k path = tt

places_by : (old : List Placed) (below : List Placed) (k : Kinded) (n : Node) → IfOk n (λ j. j.root ≡ k.root) → IfOk n (λ x. Ok (old ++ k.root ∷ below) ≡ added old (with_below below n))
places_by old below k (Ok j) same = ap (λ p. Ok (old ++ p ∷ below)) (sym same)
places_by old below k (Err f) same = tt

same_root : (b : Bool) (k : Kinded) (path : List PathPart) → IfOk (sequence_if b k path) (λ j. j.root ≡ k.root)
same_root true k path = root_kept (sequence_fit k.kind) k path
same_root false k path = refl

pub looked_places : (b : Bool) (old new : List Placed) (t : Typed) (k : Kinded) (path : List PathPart) (r : Node) → Ok k ≡ root_of t → Ok new ≡ added old t → r ≡ sequence_if b k path → IfOk r (λ x. Ok new ≡ added old (looked_at b t path))
looked_places b old new (Ok f) k path r is here same =
    let node : k ≡ f.node = cc in
    let all : new ≡ old ++ places_of f = cc in
    rw (same ∙ ap (λ j. sequence_if b j path) node) (rw all (places_by old f.below f.node (sequence_if b f.node path) (same_root b f.node path)))
looked_places b old new (Err g) k path r is here same = absurd (cc)
