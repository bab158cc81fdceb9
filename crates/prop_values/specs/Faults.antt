-- The faults of evaluation, their names, and sets of them.
use Rattle.std.specs.Prelude.{ℕ, List, Bool, true, false, ◌||◌, codes}
use Rattle.fixed_num.specs.declared.fixed.Arith.{Arith}
use Rattle.fixed_num.specs.declared.fixed.Arith.TheVariants as arith
use Rattle.prop_values.specs.declared.fault.EvalFault.{EvalFault}
use Rattle.prop_values.specs.declared.fault.EvalFault.TheVariants.{WrongType, NotColor, NotNumberText, IndexOutside}
use Rattle.prop_values.specs.declared.fault.EvalFault.TheVariants.{IndexNotWhole, DivideByZero, Overflow, ColorRange}
use Rattle.prop_values.specs.declared.fault.EvalFault.TheVariants.{NotOrdered, NotInEnum}
use Rattle.prop_values.specs.declared.fault.FaultSet.{FaultSet}

-- The name that is printed for a fault. Source: own.
abbrev pub fault_name : EvalFault → List ℕ
fault_name WrongType = codes "WrongType"
fault_name NotColor = codes "NotColor"
fault_name NotNumberText = codes "NotNumberText"
fault_name IndexOutside = codes "IndexOutside"
fault_name IndexNotWhole = codes "IndexNotWhole"
fault_name DivideByZero = codes "DivideByZero"
fault_name Overflow = codes "Overflow"
fault_name ColorRange = codes "ColorRange"
fault_name NotOrdered = codes "NotOrdered"
fault_name NotInEnum = codes "NotInEnum"

-- The fault that an operation on numbers leaves. Source: own.
abbrev pub fault_of : Arith → EvalFault
fault_of arith.Overflow = Overflow
fault_of arith.DivideByZero = DivideByZero

-- Whether a fault is in the set: each has a field of its name.
abbrev pub holds : FaultSet → EvalFault → Bool
holds s WrongType = s.wrong_type
holds s NotColor = s.not_color
holds s NotNumberText = s.not_number_text
holds s IndexOutside = s.index_outside
holds s IndexNotWhole = s.index_not_whole
holds s DivideByZero = s.divide_by_zero
holds s Overflow = s.overflow
holds s ColorRange = s.color_range
holds s NotOrdered = s.not_ordered
holds s NotInEnum = s.not_in_enum

-- The set of the faults that pass a test.
abbrev pub set_by : (EvalFault → Bool) → FaultSet
set_by test = record {
  wrong_type = test WrongType;
  not_color = test NotColor;
  not_number_text = test NotNumberText;
  index_outside = test IndexOutside;
  index_not_whole = test IndexNotWhole;
  divide_by_zero = test DivideByZero;
  overflow = test Overflow;
  color_range = test ColorRange;
  not_ordered = test NotOrdered;
  not_in_enum = test NotInEnum;
}

abbrev pub same_fault : EvalFault → EvalFault → Bool
same_fault WrongType WrongType = true
same_fault NotColor NotColor = true
same_fault NotNumberText NotNumberText = true
same_fault IndexOutside IndexOutside = true
same_fault IndexNotWhole IndexNotWhole = true
same_fault DivideByZero DivideByZero = true
same_fault Overflow Overflow = true
same_fault ColorRange ColorRange = true
same_fault NotOrdered NotOrdered = true
same_fault NotInEnum NotInEnum = true
same_fault _ _ = false

-- no fault, one fault, and the faults of either set
abbrev pub no_faults : FaultSet
no_faults = set_by (λ f. false)

abbrev pub one_fault : EvalFault → FaultSet
one_fault f = set_by (same_fault f)

abbrev pub union : FaultSet → FaultSet → FaultSet
union s t = set_by (λ f. holds s f || holds t f)
