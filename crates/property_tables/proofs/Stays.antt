-- A fitted value is left as it is by the same want.
use Rattle.std.specs.Prelude.{◌≡◌, ℕ, Bool, true, false, ◌&&◌, Option, Some, None, refl, Ok, Err, if◌then◌else◌}
use Rattle.std.proofs.Common.{subst}
use Rattle.fixed_num.specs.declared.color.Color.{Color}
use Rattle.prop_values.specs.Data.{Data, null, boolean, number, text, color, list, map, Items}
use Rattle.prop_values.specs.Choices.{choice_holds}
use Rattle.prop_values.specs.declared.choice.Choice.{Choice}
use Rattle.prop_values.specs.declared.fault.EvalFault.{EvalFault}
use Rattle.prop_values.specs.declared.fault.EvalFault.TheVariants.{WrongType, NotInEnum}
use Rattle.prop_values.specs.declared.kinds.Item.{Item}
use Rattle.prop_values.specs.declared.kinds.Item.TheVariants as items
use Rattle.prop_values.specs.declared.kinds.Want.{Want}
use Rattle.prop_values.specs.declared.kinds.Want.TheVariants as wants
use Rattle.prop_values.specs.ValueText.{shown_text}
use Rattle.color_values.specs.ColorOf.{color_of}
use Rattle.property_tables.specs.Fitting.{fit, fit_boolean, fit_number, fit_text, fit_object, fit_color, read_as_color, fit_image, fit_list, has_count, are_items, fit_choice, are_choices, fit_choices}
use Rattle.property_tables.specs.Stays.{FittedValuesStay}

-- Most wants give the very value that they take.
stays : (want : Want) (d e : Data) → fit want d ≡ Ok e → d ≡ e → fit want e ≡ Ok e
stays want d e fits same = subst (λ x. fit want x ≡ Ok e) same fits

same_boolean : (d e : Data) → fit_boolean d ≡ Ok e → d ≡ e
same_boolean (boolean b) e p = cc
same_boolean _ e p = absurd (cc)

same_number : (d e : Data) → fit_number d ≡ Ok e → d ≡ e
same_number (number z) e p = cc
same_number _ e p = absurd (cc)

same_text : (d e : Data) → fit_text d ≡ Ok e → d ≡ e
same_text (text s) e p = cc
same_text _ e p = absurd (cc)

same_object : (d e : Data) → fit_object d ≡ Ok e → d ≡ e
same_object (map ps) e p = cc
same_object _ e p = absurd (cc)

same_image : (d e : Data) → fit_image d ≡ Ok e → d ≡ e
same_image null e p = cc
same_image (text s) e p = cc
same_image _ e p = absurd (cc)

-- what a test lets through is what came
same_if : (test : Bool) (fault : EvalFault) (d e : Data) → (if test then Ok d else Err fault) ≡ Ok e → d ≡ e
same_if true fault d e p = cc
same_if false fault d e p = absurd (cc)

same_list : (i : Item) (n : Option ℕ) (d e : Data) → fit_list i n d ≡ Ok e → d ≡ e
same_list i n (list ds) e p = same_if (has_count n ds && are_items i ds) WrongType (list ds) e p
same_list i n _ e p = absurd (cc)

same_choice : (c : Choice) (d e : Data) → fit_choice c d ≡ Ok e → d ≡ e
same_choice c (text s) e p = same_if (choice_holds c s) NotInEnum (text s) e p
same_choice c _ e p = absurd (cc)

same_texts : (are : Bool) (c : Choice) (ds : Items) (e : Data) → (if are then (if are_choices c ds then Ok (list ds) else Err NotInEnum) else Err WrongType) ≡ Ok e → list ds ≡ e
same_texts true c ds e p = same_if (are_choices c ds) NotInEnum (list ds) e p
same_texts false c ds e p = absurd (cc)

same_choices : (c : Choice) (d e : Data) → fit_choices c d ≡ Ok e → d ≡ e
same_choices c (list ds) e p = same_texts (are_items items.Text ds) c ds e p
same_choices c _ e p = absurd (cc)

-- a color that was read is a color
color_stays : (read : Option Color) (e : Data) → read_as_color read ≡ Ok e → fit_color e ≡ Ok e
color_stays (Some c) e p = let same : color c ≡ e = cc in subst (λ x. fit_color x ≡ Ok x) same refl
color_stays None e p = absurd (cc)

fit_color_again : (d e : Data) → fit_color d ≡ Ok e → fit_color e ≡ Ok e
fit_color_again (color c) e p = color_stays (Some c) e p
fit_color_again (text s) e p = color_stays (color_of s) e p
fit_color_again _ e p = absurd (cc)

pub fit_again : FittedValuesStay
fit_again wants.Any d e p = refl
fit_again wants.Shown d e p = let same : text (shown_text d) ≡ e = cc in subst (λ x. fit wants.Shown x ≡ Ok x) same refl
fit_again wants.Boolean d e p = stays wants.Boolean d e p (same_boolean d e p)
fit_again wants.Number d e p = stays wants.Number d e p (same_number d e p)
fit_again wants.Text d e p = stays wants.Text d e p (same_text d e p)
fit_again wants.Color d e p = fit_color_again d e p
fit_again wants.Object d e p = stays wants.Object d e p (same_object d e p)
fit_again wants.Image d e p = stays wants.Image d e p (same_image d e p)
fit_again (wants.List i n) d e p = stays (wants.List i n) d e p (same_list i n d e p)
fit_again (wants.Enum c) d e p = stays (wants.Enum c) d e p (same_choice c d e p)
fit_again (wants.EnumList c) d e p = stays (wants.EnumList c) d e p (same_choices c d e p)
