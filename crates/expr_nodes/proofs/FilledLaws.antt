-- A node with what its bindings gave: it gives the same, has as many nodes, and asks for nothing that was given.
use Rattle.std.proofs.Common.{◌≡◌, ℕ, ◌+◌, ◌<◌, zero, suc, List, [], ◌∷◌, length, map, Option, Some, None, refl, arith, sym, ap, ◌∙◌, subst}
use Rattle.std.specs.List.{slice_get}
use Rattle.std.specs.Option.{option_map}
use Rattle.std.proofs.lemmas.List.{length-map}
use Rattle.std.proofs.lemmas.Option.{slice_get-map}
use Rattle.prop_values.specs.declared.kinds.Want.{Want}
use Rattle.property_tables.specs.Fitting.{fit}
use Rattle.expr_syntax.specs.declared.expression.Operator.{Operator}
use Rattle.operator_values.specs.Evaluated.{Evaluated, then_value}
use Rattle.eval_face.specs.Meaning.{node_meaning}
use Rattle.eval_face.specs.World.{World}
use Rattle.expr_nodes.specs.Node.{Node, constant, asked, property, inner, Children, childless, child, listed, children_of, children, size, children_size}
use Rattle.expr_nodes.specs.NodeForms.{IsForm}
use Rattle.expr_nodes.specs.Outcome.{outcome, outcomes, all_known, promised}
use Rattle.expr_nodes.specs.Limits.{AsksBelow, AllAskBelow}
use Rattle.expr_nodes.specs.Filled.{given_or_asked, filled, filled_children}
use Rattle.expr_nodes.specs.declared.access.NodeForm.{NodeForm}
use Rattle.expr_nodes.specs.declared.access.NodeForm.TheVariants.{Constant, Given, Faulty, Asked, Property, Inner}

-- ---- what is asked for

given_at : (given : List Evaluated) (slot : ℕ) → slot < length given →
    (outcome : Evaluated) × (slice_get given slot ≡ Some outcome)
given_at [] slot h = absurd (omega arith)
given_at (o ∷ given) zero h = (o, refl)
given_at (o ∷ given) (suc slot) h = given_at given slot (omega arith)

given_outcome : (o : Option Evaluated) (known : Evaluated) (slot : ℕ) (want : Want) (later : List Evaluated)
    (world : World) → o ≡ Some known →
    outcome (given_or_asked o slot want) later world ≡ then_value (promised o) (fit want)
given_outcome (Some o) known slot want later world h = refl
given_outcome None known slot want later world h = absurd (cc)

given_below : (o : Option Evaluated) (known : Evaluated) (slot : ℕ) (want : Want) → o ≡ Some known →
    AsksBelow 0 (given_or_asked o slot want)
given_below (Some o) known slot want h = tt
given_below None known slot want h = absurd (cc)

given_size : (o : Option Evaluated) (slot : ℕ) (want : Want) → size (given_or_asked o slot want) ≡ 1
given_size (Some o) slot want = refl
given_size None slot want = refl

given_children : (o : Option Evaluated) (slot : ℕ) (want : Want) → children (given_or_asked o slot want) ≡ []
given_children (Some o) slot want = refl
given_children None slot want = refl

-- ---- the whole node

mutual
  pub filled_outcome : (n : Node) (given later : List Evaluated) (world : World) → AsksBelow (length given) n →
      outcome (filled given n) later world ≡ outcome n given world
  filled_outcome (constant known) given later world h = refl
  filled_outcome (asked slot want) given later world h =
      let o = given_at given slot h in given_outcome (slice_get given slot) o.0 slot want later world o.1
  filled_outcome (property key want) given later world h = refl
  filled_outcome (inner op want ns) given later world h =
      ap (λ os. node_meaning op (all_known os) want [] world) (filled_outcomes ns given later world h.1)

  filled_outcomes : (ns : Children) (given later : List Evaluated) (world : World) →
      AllAskBelow (length given) ns →
      outcomes (filled_children given ns) later world ≡ outcomes ns given world
  filled_outcomes childless given later world h = refl
  filled_outcomes (child n ns) given later world h =
      λ i. filled_outcome n given later world h.0 i ∷ filled_outcomes ns given later world h.1 i

mutual
  pub filled_below : (n : Node) (given : List Evaluated) → AsksBelow (length given) n → AsksBelow 0 (filled given n)
  filled_below (constant known) given h = tt
  filled_below (asked slot want) given h =
      let o = given_at given slot h in given_below (slice_get given slot) o.0 slot want o.1
  filled_below (property key want) given h = tt
  filled_below (inner op want ns) given h = (h.0, all_filled_below ns given h.1)

  all_filled_below : (ns : Children) (given : List Evaluated) → AllAskBelow (length given) ns →
      AllAskBelow 0 (filled_children given ns)
  all_filled_below childless given h = tt
  all_filled_below (child n ns) given h = (filled_below n given h.0, all_filled_below ns given h.1)

mutual
  pub filled_size : (n : Node) (given : List Evaluated) → size (filled given n) ≡ size n
  filled_size (constant known) given = refl
  filled_size (asked slot want) given = given_size (slice_get given slot) slot want
  filled_size (property key want) given = refl
  filled_size (inner op want ns) given = ap (λ x. 1 + x) (filled_sizes ns given)

  filled_sizes : (ns : Children) (given : List Evaluated) →
      children_size (filled_children given ns) ≡ children_size ns
  filled_sizes childless given = refl
  filled_sizes (child n ns) given = λ i. filled_size n given i + filled_sizes ns given i

-- ---- its arguments

filled_listed : (given : List Evaluated) (ns : Children) →
    listed (filled_children given ns) ≡ map (filled given) (listed ns)
filled_listed given childless = refl
filled_listed given (child n ns) = ap (λ xs. filled given n ∷ xs) (filled_listed given ns)

filled_arguments : (given : List Evaluated) (n : Node) →
    children (filled given n) ≡ map (filled given) (children n)
filled_arguments given (constant known) = refl
filled_arguments given (asked slot want) = given_children (slice_get given slot) slot want
filled_arguments given (property key want) = refl
filled_arguments given (inner op want ns) = filled_listed given ns

pub filled_count : (given : List Evaluated) (n : Node) → length (children n) ≡ length (children (filled given n))
filled_count given n = sym (ap length (filled_arguments given n) ∙ length-map (children n) (filled given))

pub filled_child : (given : List Evaluated) (n : Node) (place : ℕ) (c : Node) → slice_get (children n) place ≡ Some c →
    slice_get (children (filled given n)) place ≡ Some (filled given c)
filled_child given n place c e =
    ap (λ xs. slice_get xs place) (filled_arguments given n)
    ∙ (slice_get-map (filled given) (children n) place ∙ ap (option_map (filled given)) e)

filled_children_of : (given : List Evaluated) (ns : List Node) →
    filled_children given (children_of ns) ≡ children_of (map (filled given) ns)
filled_children_of given [] = refl
filled_children_of given (n ∷ ns) = ap (λ xs. child (filled given n) xs) (filled_children_of given ns)

pub filled_inner : (given : List Evaluated) (n : Node) (op : Operator) (want : Want) →
    n ≡ inner op want (children_of (children n)) →
    filled given n ≡ inner op want (children_of (children (filled given n)))
filled_inner given n op want e =
    ap (filled given) e
    ∙ (ap (inner op want) (filled_children_of given (children n))
    ∙ ap (λ xs. inner op want (children_of xs)) (sym (filled_arguments given n)))

-- ---- as the program reads it

pub filled_asked : (given : List Evaluated) (n : Node) (slot : ℕ) (want : Want) (f : NodeForm) → n ≡ asked slot want →
    IsForm f (given_or_asked (slice_get given slot) slot want) → IsForm f (filled given n)
filled_asked given n slot want f e h = subst (IsForm f) (sym (ap (filled given) e)) h

-- what asks for no binding stays
pub filled_form : (given : List Evaluated) (n : Node) (f : NodeForm) →
    ((slot : ℕ) (want : Want) → f ≡ Asked slot want → ⊥) → IsForm f n → IsForm f (filled given n)
filled_form given n (Constant value) other e = ap (filled given) e
filled_form given n (Given value want) other e = ap (filled given) e
filled_form given n (Faulty fault) other e = ap (filled given) e
filled_form given n (Asked slot want) other e = absurd (other slot want refl)
filled_form given n (Property key want) other e = ap (filled given) e
filled_form given n (Inner op want) other e = filled_inner given n op.now want e
