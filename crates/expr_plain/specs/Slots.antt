-- The slots of bindings.
use Rattle.std.specs.Prelude.{List, [], ◌∷◌, Option, Some, None}
use Rattle.prop_values.specs.Data.{Data}
use Rattle.prop_values.specs.View.{data_of}
use Rattle.expr_plain.specs.declared.evaluation.BindingSlot.{BindingSlot}
use Rattle.expr_plain.specs.declared.evaluation.BindingSlot.TheVariants.{Waiting, Done}

-- what a slot holds
abbrev pub done_in : Option BindingSlot → Option Data
done_in (Some (Done v)) = Some (data_of v)
done_in (Some Waiting) = None
done_in None = None

-- a slot for each of some bindings
abbrev pub waiting : {A : Type 0} → List A → List BindingSlot
waiting [] = []
waiting (x ∷ xs) = Waiting ∷ waiting xs
