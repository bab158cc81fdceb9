-- Items are as many as the values that they are of, and lists of other lengths are not near.
use Rattle.std.proofs.Common.{◌≡◌, ◌≢◌, ◌<◌, suc, List, [], ◌∷◌, length, refl, ap, arith, false, true, ◌∙◌, ℤ}
use Rattle.std.specs.Prelude.{Bool, ◌&&◌, Option, Some}
use Rattle.prop_values.specs.Data.{list}
use Rattle.prop_values.specs.View.{data_of}
use Rattle.prop_values.specs.ViewParts.{items}
use Rattle.prop_values.specs.declared.kinds.Item.TheVariants as any
use Rattle.prop_values.specs.declared.kinds.Kind.TheVariants as kinds
use Rattle.prop_values.specs.declared.value.Value.{Value}
use Rattle.property_tables.specs.Fitting.{item_count}
use Rattle.expr_types.specs.Literals.{item_of, literal_kind}
use Rattle.expr_types.specs.LiteralView.{some_item_of}
use Rattle.expr_types.specs.Ramping.{is_item_near, are_items_near}

pub count_items : (vs : List Value) → item_count (items vs) ≡ length vs
count_items [] = refl
count_items (v ∷ vs) = omega (arith, count_items vs)

pub some_items : (vs : List Value) → 0 < length vs → some_item_of (list (items vs)) ≡ item_of (items vs)
some_items [] some = absurd (omega (arith, some))
some_items (v ∷ vs) some = refl

pub no_items_kind : (vs : List Value) → length vs ≡ 0 → kinds.List any.Any (Some 0) ≡ literal_kind (list (items vs))
no_items_kind [] none = refl
no_items_kind (v ∷ vs) none = absurd (omega (arith, none))

and_false : (b : Bool) → (b && false) ≡ false
and_false true = refl
and_false false = refl

pub unequal_lengths : (x0 x1 : ℤ) (vs ws : List Value) → length vs ≢ length ws → are_items_near x0 (items vs) x1 (items ws) ≡ false
unequal_lengths x0 x1 [] [] other = absurd (other refl)
unequal_lengths x0 x1 [] (w ∷ ws) other = refl
unequal_lengths x0 x1 (v ∷ vs) [] other = refl
unequal_lengths x0 x1 (v ∷ vs) (w ∷ ws) other =
    ap (λ b. is_item_near x0 (data_of v) x1 (data_of w) && b) (unequal_lengths x0 x1 vs ws (λ same. other (ap suc same))) ∙ and_false (is_item_near x0 (data_of v) x1 (data_of w))
