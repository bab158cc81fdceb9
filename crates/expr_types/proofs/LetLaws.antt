-- A `let`: its bindings, and its body in their names.
use Rattle.std.specs.Prelude.{List, [], ◌∷◌, ◌++◌, Option, Some, None, Result, Ok, Err, IfOk, take, true}
use Rattle.std.proofs.Common.{◌≡◌, ℕ, zero, suc, ◌+◌, ◌<◌, ◌∙◌, length, drop, append_assoc, ap, sym, refl, arith}
use Rattle.std.proofs.lemmas.List.{length-map}
use Rattle.decimal_json.specs.declared.paths.PathPart.{PathPart}
use Rattle.prop_values.specs.Faults.{no_faults, union}
use Rattle.prop_values.specs.declared.fault.FaultSet.{FaultSet}
use Rattle.prop_values.specs.declared.kinds.Kind.{Kind}
use Rattle.prop_values.specs.declared.kinds.Want.{Want}
use Rattle.expr_syntax.specs.TermView.{term_of}
use Rattle.expr_syntax.specs.declared.expression.Expr.{Expr}
use Rattle.expr_syntax.specs.declared.expression.Operator.{Operator}
use Rattle.expr_syntax.specs.declared.expression.Operator.TheVariants.{Let}
use Rattle.expr_types.specs.Fits.{branch_kind}
use Rattle.expr_types.specs.LiteralView.{typings_of}
use Rattle.expr_types.specs.Typing.{TypedNodes, Typed, Typing, KindScope, Node, fault, kinded, places_of, typed_as, founds_of, and_found, then_found, kinds_in, all_may, may_after, all_places, places_after, frame, argument_typed, with_bindings, body_typed, let_typed}
use Rattle.expr_types.specs.TypedView.{root_of, added, added_below, kinds_after, all_added}
use Rattle.expr_types.specs.declared.fault.TypeCode.TheVariants as codes
use Rattle.expr_types.specs.declared.fault.TypeFault.{TypeFault}
use Rattle.expr_types.specs.declared.placed.Kinded.{Kinded}
use Rattle.expr_types.specs.declared.placed.Placed.{Placed}
use Rattle.expr_types.proofs.ArgumentLaws.{first_typings, other_typings, typings_length}
use Rattle.expr_types.proofs.FoundLaws.{places_from, kinds_are, may_is}

-- what the arguments of a `let` make of it
let_by : (names : List (List ℕ)) (es : List Expr) (want : Want) (scope : KindScope) (path : List PathPart) (first others : List Expr) → first ≡ take (length names) es → others ≡ drop (length names) es → let_typed names (typings_of es) want scope path ≡ then_found (founds_of (Let names) (length es) 0 (typings_of first) want scope path) (λ fs. body_typed names (typings_of others) fs want scope path)
let_by names es want scope path first others is also =
    ap (λ n. then_found (founds_of (Let names) n 0 (take (length names) (typings_of es)) want scope path) (λ fs. body_typed names (drop (length names) (typings_of es)) fs want scope path)) (typings_length es) ∙
    (ap (λ ts. then_found (founds_of (Let names) (length es) 0 ts want scope path) (λ fs. body_typed names (drop (length names) (typings_of es)) fs want scope path)) (sym (ap typings_of is ∙ first_typings (length names) es)) ∙
    ap (λ ts. then_found (founds_of (Let names) (length es) 0 (typings_of first) want scope path) (λ fs. body_typed names ts fs want scope path)) (sym (ap typings_of also ∙ other_typings (length names) es)))

binding_fault : (founds : Result (List TypedNodes) TypeFault) (go : List TypedNodes → Typed) (e : TypeFault) → Err e ≡ kinds_after [] no_faults founds → Err e ≡ root_of (then_found founds go)
binding_fault (Ok fs) go e is = absurd (cc)
binding_fault (Err f) go e is = cc

pub let_fault : (names : List (List ℕ)) (es : List Expr) (want : Want) (scope : KindScope) (path : List PathPart) (first others : List Expr) (e : TypeFault) → first ≡ take (length names) es → others ≡ drop (length names) es → Err e ≡ kinds_after [] no_faults (founds_of (Let names) (length es) 0 (typings_of first) want scope path) → Err e ≡ root_of (let_typed names (typings_of es) want scope path)
let_fault names es want scope path first others e is also fails = binding_fault _ (λ fs. body_typed names (typings_of others) fs want scope path) e fails ∙ ap root_of (sym (let_by names es want scope path first others is also))

no_body : (names : List (List ℕ)) (others : List Expr) (fs : List TypedNodes) (want : Want) (scope : KindScope) (path : List PathPart) → (length others ≡ 1 → ⊥) → body_typed names (typings_of others) fs want scope path ≡ fault TypedNodes path codes.Kind
no_body names [] fs want scope path many = refl
no_body names (e ∷ []) fs want scope path many = absurd (many refl)
no_body names (e ∷ f ∷ es) fs want scope path many = refl

bodiless_by : (names : List (List ℕ)) (others : List Expr) (founds : Result (List TypedNodes) TypeFault) (want : Want) (scope : KindScope) (path : List PathPart) (ks : List Kind) (may : FaultSet) → (length others ≡ 1 → ⊥) → Ok (ks, may) ≡ kinds_after [] no_faults founds → root_of (then_found founds (λ fs. body_typed names (typings_of others) fs want scope path)) ≡ fault Kinded path codes.Kind
bodiless_by names others (Ok fs) want scope path ks may many is = ap root_of (no_body names others fs want scope path many)
bodiless_by names others (Err f) want scope path ks may many is = absurd (cc)

pub bodiless : (names : List (List ℕ)) (es : List Expr) (want : Want) (scope : KindScope) (path : List PathPart) (first others : List Expr) (ks : List Kind) (may : FaultSet) → first ≡ take (length names) es → others ≡ drop (length names) es → (length others ≡ 1 → ⊥) → Ok (ks, may) ≡ kinds_after [] no_faults (founds_of (Let names) (length es) 0 (typings_of first) want scope path) → fault Kinded path codes.Kind ≡ root_of (let_typed names (typings_of es) want scope path)
bodiless names es want scope path first others ks may is also many found = sym (ap root_of (let_by names es want scope path first others is also) ∙ bodiless_by names others _ want scope path ks may many found)

-- with a body
root_with : (want : Want) (fs : List TypedNodes) (t : Typed) (k : Kinded) (may : FaultSet) → may ≡ all_may fs → Ok k ≡ root_of t → Ok (kinded want (branch_kind want k.kind) (union may k.may) true) ≡ root_of (with_bindings want fs t)
root_with want fs (Ok f) k may all is = let same : k ≡ f.node = cc in rw same (rw all refl)
root_with want fs (Err g) k may all is = absurd (cc)

fault_with : (want : Want) (fs : List TypedNodes) (t : Typed) (e : TypeFault) → Err e ≡ root_of t → Err e ≡ root_of (with_bindings want fs t)
fault_with want fs (Ok f) e is = absurd (cc)
fault_with want fs (Err g) e is = cc

places_with : (want : Want) (fs : List TypedNodes) (t : Typed) (old new last : List Placed) → new ≡ places_after old fs → Ok last ≡ added new t → IfOk (root_of t) (λ k. Ok last ≡ added_below old (with_bindings want fs t))
places_with want fs (Ok f) old new last here then =
    let all : last ≡ new ++ places_of f = cc in
    ap Ok (all ∙ (ap (λ ps. ps ++ places_of f) (here ∙ places_from old fs) ∙ append_assoc old (all_places fs) (places_of f)))
places_with want fs (Err g) old new last here then = tt

-- the body as its own clause has it
abbrev pub body_in : List (List ℕ) → List Kind → Expr → Want → KindScope → List PathPart → Typed
body_in names ks body want scope path = argument_typed (Let names) (length names + 1) (length names) (typed_as (term_of body)) want (frame names ks ∷ scope) path

let_root_by : (names : List (List ℕ)) (body : Expr) (founds : Result (List TypedNodes) TypeFault) (want : Want) (scope : KindScope) (path : List PathPart) (ks : List Kind) (may : FaultSet) (k : Kinded) → Ok (ks, may) ≡ kinds_after [] no_faults founds → Ok k ≡ root_of (body_in names ks body want scope path) → Ok (kinded want (branch_kind want k.kind) (union may k.may) true) ≡ root_of (then_found founds (λ fs. body_typed names (typings_of (body ∷ [])) fs want scope path))
let_root_by names body (Ok fs) want scope path ks may k found is =
    let these : ks ≡ kinds_in fs = kinds_are fs ks may found in
    let all : may ≡ all_may fs = may_is fs ks may found in
    root_with want fs (body_in names (kinds_in fs) body want scope path) k may all (is ∙ ap (λ js. root_of (body_in names js body want scope path)) these)
let_root_by names body (Err f) want scope path ks may k found is = absurd (cc)

let_fault_by : (names : List (List ℕ)) (body : Expr) (founds : Result (List TypedNodes) TypeFault) (want : Want) (scope : KindScope) (path : List PathPart) (ks : List Kind) (may : FaultSet) (e : TypeFault) → Ok (ks, may) ≡ kinds_after [] no_faults founds → Err e ≡ root_of (body_in names ks body want scope path) → Err e ≡ root_of (then_found founds (λ fs. body_typed names (typings_of (body ∷ [])) fs want scope path))
let_fault_by names body (Ok fs) want scope path ks may e found is =
    let these : ks ≡ kinds_in fs = kinds_are fs ks may found in
    fault_with want fs (body_in names (kinds_in fs) body want scope path) e (is ∙ ap (λ js. root_of (body_in names js body want scope path)) these)
let_fault_by names body (Err f) want scope path ks may e found is = absurd (cc)

let_places_by : (names : List (List ℕ)) (body : Expr) (founds : Result (List TypedNodes) TypeFault) (want : Want) (scope : KindScope) (path : List PathPart) (ks : List Kind) (may : FaultSet) (old new last : List Placed) → Ok (ks, may) ≡ kinds_after [] no_faults founds → Ok new ≡ all_added old founds → Ok last ≡ added new (body_in names ks body want scope path) → IfOk (root_of (body_in names ks body want scope path)) (λ k. Ok last ≡ added_below old (then_found founds (λ fs. body_typed names (typings_of (body ∷ [])) fs want scope path)))
let_places_by names body (Ok fs) want scope path ks may old new last found here then =
    let these : ks ≡ kinds_in fs = kinds_are fs ks may found in
    rw these (places_with want fs (body_in names (kinds_in fs) body want scope path) old new last (cc) (then ∙ ap (λ js. added new (body_in names js body want scope path)) these))
let_places_by names body (Err f) want scope path ks may old new last found here then = absurd (cc)

pub let_root : (names : List (List ℕ)) (es : List Expr) (want : Want) (scope : KindScope) (path : List PathPart) (first others : List Expr) (body : Expr) (ks : List Kind) (may : FaultSet) (k : Kinded) → first ≡ take (length names) es → others ≡ drop (length names) es → others ≡ body ∷ [] → Ok (ks, may) ≡ kinds_after [] no_faults (founds_of (Let names) (length es) 0 (typings_of first) want scope path) → Ok k ≡ root_of (body_in names ks body want scope path) → Ok (kinded want (branch_kind want k.kind) (union may k.may) true) ≡ root_of (let_typed names (typings_of es) want scope path)
let_root names es want scope path first others body ks may k is also only found gives =
    let_root_by names body _ want scope path ks may k found gives ∙
    (ap (λ xs. root_of (then_found (founds_of (Let names) (length es) 0 (typings_of first) want scope path) (λ fs. body_typed names (typings_of xs) fs want scope path))) (sym only) ∙ ap root_of (sym (let_by names es want scope path first others is also)))

pub let_body_fault : (names : List (List ℕ)) (es : List Expr) (want : Want) (scope : KindScope) (path : List PathPart) (first others : List Expr) (body : Expr) (ks : List Kind) (may : FaultSet) (e : TypeFault) → first ≡ take (length names) es → others ≡ drop (length names) es → others ≡ body ∷ [] → Ok (ks, may) ≡ kinds_after [] no_faults (founds_of (Let names) (length es) 0 (typings_of first) want scope path) → Err e ≡ root_of (body_in names ks body want scope path) → Err e ≡ root_of (let_typed names (typings_of es) want scope path)
let_body_fault names es want scope path first others body ks may e is also only found gives =
    let_fault_by names body _ want scope path ks may e found gives ∙
    (ap (λ xs. root_of (then_found (founds_of (Let names) (length es) 0 (typings_of first) want scope path) (λ fs. body_typed names (typings_of xs) fs want scope path))) (sym only) ∙ ap root_of (sym (let_by names es want scope path first others is also)))

pub let_places : (names : List (List ℕ)) (es : List Expr) (want : Want) (scope : KindScope) (path : List PathPart) (first others : List Expr) (body : Expr) (ks : List Kind) (may : FaultSet) (k : Kinded) (old new last : List Placed) → first ≡ take (length names) es → others ≡ drop (length names) es → others ≡ body ∷ [] → Ok (ks, may) ≡ kinds_after [] no_faults (founds_of (Let names) (length es) 0 (typings_of first) want scope path) → Ok new ≡ all_added old (founds_of (Let names) (length es) 0 (typings_of first) want scope path) → Ok k ≡ root_of (body_in names ks body want scope path) → Ok last ≡ added new (body_in names ks body want scope path) → Ok last ≡ added_below old (let_typed names (typings_of es) want scope path)
let_places names es want scope path first others body ks may k old new last is also only found here gives then =
    there (root_of (body_in names ks body want scope path)) gives (let_places_by names body _ want scope path ks may old new last found here then) ∙
    (ap (λ xs. added_below old (then_found (founds_of (Let names) (length es) 0 (typings_of first) want scope path) (λ fs. body_typed names (typings_of xs) fs want scope path))) (sym only) ∙ ap (λ t. added_below old t) (sym (let_by names es want scope path first others is also)))
  where
    there : {Q : Type 0} (r : Node) → Ok k ≡ r → IfOk r (λ x. Q) → Q
    there (Ok x) same holds = holds
    there (Err e) same holds = absurd (cc)

-- each binding of a `let` with a body has its kind
abbrev Counts : ℕ → Result (List TypedNodes) TypeFault → Type 0
Counts n (Ok fs) = length fs ≡ n
Counts n (Err f) = Unit {0}

one_more : (n : ℕ) (t : Typed) (later : Result (List TypedNodes) TypeFault) → Counts n later → Counts (suc n) (and_found t later)
one_more n (Ok found) (Ok fs) h = ap suc h
one_more n (Ok found) (Err f) h = tt
one_more n (Err f) later h = tt

founds_count : (op : Operator) (m k : ℕ) (ts : List Typing) (want : Want) (scope : KindScope) (path : List PathPart) → Counts (length ts) (founds_of op m k ts want scope path)
founds_count op m k [] want scope path = refl
founds_count op m k (t ∷ ts) want scope path = one_more (length ts) (argument_typed op m k t want scope path) (founds_of op m (k + 1) ts want scope path) (founds_count op m (k + 1) ts want scope path)

counted : (n : ℕ) (founds : Result (List TypedNodes) TypeFault) (ks : List Kind) (may : FaultSet) → Counts n founds → Ok (ks, may) ≡ kinds_after [] no_faults founds → length ks ≡ n
counted n (Ok fs) ks may h is = ap length (kinds_are fs ks may is) ∙ (length-map fs (λ (found : TypedNodes). found.node.kind) ∙ h)
counted n (Err f) ks may h is = absurd (cc)

all_taken : (n : ℕ) (es : List Expr) → 0 < length (drop n es) → length (take n es) ≡ n
all_taken zero [] some = refl
all_taken zero (e ∷ es) some = refl
all_taken (suc n) [] some = absurd (omega (arith, some))
all_taken (suc n) (e ∷ es) some = ap suc (all_taken n es some)

pub each_has_kind : (op : Operator) (m n : ℕ) (es first others : List Expr) (want : Want) (scope : KindScope) (path : List PathPart) (ks : List Kind) (may : FaultSet) → first ≡ take n es → others ≡ drop n es → 0 < length others → Ok (ks, may) ≡ kinds_after [] no_faults (founds_of op m 0 (typings_of first) want scope path) → n ≡ length ks
each_has_kind op m n es first others want scope path ks may is also some found =
    let whole : length first ≡ n = ap length is ∙ all_taken n es (omega (arith, ap length also, some)) in
    sym (counted (length (typings_of first)) (founds_of op m 0 (typings_of first) want scope path) ks may (founds_count op m 0 (typings_of first) want scope path) found ∙ (typings_length first ∙ whole))
