-- What the slots of a pool are.
use Rattle.std.specs.Prelude.{◌≡◌, ◌<◌, ◌≤◌, ℕ, List, Some, Err}
use Rattle.std.specs.List.{slice_get}
use Rattle.std.specs.Coded.{Coded-set, coded_result, le_prop, Π_prop, ×_prop}
use Rattle.prop_values.specs.DataCode.{data_code}
use Rattle.prop_values.specs.contracts.fault.EvalFault as eval_fault
use Rattle.std.specs.Prelude.{slice_index_or}
use Rattle.prop_values.specs.declared.fault.EvalFault.TheVariants.{WrongType}
use Rattle.eval_face.specs.World.{World}
use Rattle.expr_nodes.specs.Evaluators.{Sized}
use Rattle.tile_reader.specs.declared.tile.Feature.{Feature}
use Rattle.form_pool.specs.LegacyForms.{form_value, sized_form}
use Rattle.form_pool.specs.declared.legacy_form.LegacyForm.{LegacyForm}
use Rattle.form_pool.specs.declared.form_pool.PooledForm.{PooledForm}
use Rattle.form_pool.specs.declared.form_pool.PooledForm.TheVariants.{Legacy, Nodes}

abbrev pub no_expression : Sized
no_expression = ((λ world. Err WrongType), 0)

-- what a slot gives, by what the expressions of the nodes give
abbrev pub sized_slot : List Sized → PooledForm → Sized
sized_slot nodes (Nodes n) = slice_index_or nodes n no_expression
sized_slot nodes (Legacy form) = sized_form form

-- the expression of each number is there
abbrev pub NodesAreThere : ℕ → List PooledForm → Type 0
NodesAreThere count slots = (i n : ℕ) → slice_get slots i ≡ Some (Nodes n) → n < count

-- the feature of a world
abbrev pub in_world : World → Feature
in_world world = record { id = world.id; shape = world.shape; properties = world.properties }

-- a form gives in each world what its expression means, which has a node
abbrev pub IsFaithful : LegacyForm → Type 0
IsFaithful form = ((world : World) → form_value form world.zoom (in_world world) ≡ (sized_form form).0 world)
    × (1 ≤ (sized_form form).1)

abbrev pub AreFaithful : List PooledForm → Type 0
AreFaithful slots = (i : ℕ) (form : LegacyForm) → slice_get slots i ≡ Some (Legacy form) → IsFaithful form

pub faithful_prop : (slots : List PooledForm) → IsProp (AreFaithful slots)
faithful_prop slots = Π_prop λ i. Π_prop λ form. Π_prop λ is.
    ×_prop (Π_prop λ world. Coded-set (coded_result data_code (eval_fault.the_row).coded) _ _) le_prop

-- a feature has what a world says of its feature
pub record IsFeatureIn (world : World) (feature : Feature) : Type 0 where
  pub id : feature.id ≡ world.id
  pub shape : feature.shape ≡ world.shape
  pub properties : feature.properties ≡ world.properties
