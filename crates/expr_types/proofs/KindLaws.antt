-- The common kind of kinds, as they are found one after the other.
use Rattle.std.specs.Prelude.{List, ◌∷◌, Bool, true, false, ◌&&◌, Option, Some, None, if◌then◌else◌}
use Rattle.std.proofs.Common.{◌≡◌, ℕ, ◌+◌, ◌<◌, ◌∙◌, length, drop, get_or, drop-cons, ap, sym, refl, suc, arith, subst}
use Rattle.expr_types.specs.OwnTable.{is_output, output_kinds}
use Rattle.prop_values.specs.declared.kinds.Kind.{Kind}
use Rattle.prop_values.specs.declared.kinds.Kind.TheVariants as kinds
use Rattle.expr_types.specs.Fits.{same_kind}
use Rattle.expr_types.specs.Own.{common_with, all_kinds}
use Rattle.expr_types.specs.CommonKinds.{joined, noted, common_after}

same_either : (b : Bool) → (if b then kinds.Any else kinds.Any) ≡ kinds.Any
same_either true = refl
same_either false = refl

step_by : (b : Bool) (j : Kind) (ks : List Kind) → common_with (if b then j else kinds.Any) ks ≡ (if b && all_kinds j ks then j else kinds.Any)
step_by true j ks = refl
step_by false j ks = same_either (all_kinds kinds.Any ks)

pub join_step : (c : Option Kind) (k : Kind) (ks : List Kind) → common_after (Some (joined c k)) ks ≡ common_after c (k ∷ ks)
join_step None k ks = refl
join_step (Some j) k ks = step_by (same_kind j k) j ks

pub noted_step : (c : Option Kind) (b : Bool) (k : Kind) (ks : List Kind) → common_after (noted c b k) ks ≡ common_after c (if b then k ∷ ks else ks)
noted_step c true k ks = join_step c k ks
noted_step c false k ks = refl

-- a turn of the walk over the arguments of a `case`
pub output_turn : (ks : List Kind) (m i : ℕ) (d : Kind) (c : Option Kind) (b : Bool) (all : Kind) → common_after c (output_kinds m i (drop i ks)) ≡ all → i < length ks → b ≡ is_output m i → common_after (noted c b (get_or ks i d)) (output_kinds m (i + 1) (drop (i + 1) ks)) ≡ all
output_turn ks m i d c b all inv there same =
    let one : suc i ≡ i + 1 = omega arith in
    let here : drop i ks ≡ get_or ks i d ∷ drop (i + 1) ks = subst (λ j. drop i ks ≡ get_or ks i d ∷ drop j ks) one (drop-cons ks i d there) in
    ap (λ o. common_after (noted c o (get_or ks i d)) (output_kinds m (i + 1) (drop (i + 1) ks))) same ∙
    (noted_step c (is_output m i) (get_or ks i d) (output_kinds m (i + 1) (drop (i + 1) ks)) ∙
    (ap (λ xs. common_after c (output_kinds m i xs)) (sym here) ∙ inv))
