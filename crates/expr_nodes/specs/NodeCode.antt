-- A node as a ghost value, which gives the node back.
use Rattle.std.specs.Prelude.{◌≡◌, ℕ, List, Ok, Err, refl}
use Rattle.std.proofs.Common.{ap}
use Rattle.std.specs.Coded.{code_by}
use base.Stored.{Gv, gnil, gnum, gcons, Coded, coded_ℕ, coded_list, coded×}
use Rattle.prop_values.specs.DataCode.{data_code}
use Rattle.prop_values.specs.contracts.fault.EvalFault as eval_fault
use Rattle.prop_values.specs.declared.fault.EvalFault.{EvalFault}
use Rattle.prop_values.specs.contracts.kinds.Want as want
use Rattle.prop_values.specs.declared.kinds.Want.{Want}
use Rattle.expr_syntax.specs.TermCode.{operator_code}
use Rattle.operator_values.specs.Evaluated.{Evaluated}
use Rattle.expr_nodes.specs.Node.{Node, constant, asked, property, inner, Children, childless, child}

abbrev pub fault_code : Coded EvalFault
fault_code = (eval_fault.the_row).coded

abbrev pub want_code : Coded Want
want_code = (want.the_row).coded

abbrev pub code_outcome : Evaluated → Gv
code_outcome (Ok d) = gcons (gnum 0) (data_code.code d)
code_outcome (Err fault) = gcons (gnum 1) (fault_code.code fault)

abbrev mutual
  pub code_node : Node → Gv
  code_node (constant outcome) = gcons (gnum 0) (code_outcome outcome)
  code_node (asked slot w) = gcons (gnum 2) (gcons (gnum slot) (want_code.code w))
  code_node (property key w) = gcons (gnum 3) (gcons ((coded_list coded_ℕ).code key) (want_code.code w))
  code_node (inner op w ns) =
      gcons (gnum 4) (gcons (operator_code.code op) (gcons (want_code.code w) (code_children ns)))

  pub code_children : Children → Gv
  code_children childless = gnil
  code_children (child n ns) = gcons (code_node n) (code_children ns)

abbrev tag : Gv → ℕ
tag gnil = 0
tag (gnum n) = n
tag (gcons a b) = tag a

abbrev head : Gv → Gv
head gnil = gnil
head (gnum n) = gnil
head (gcons a b) = a

abbrev tail : Gv → Gv
tail gnil = gnil
tail (gnum n) = gnil
tail (gcons a b) = b

pub inj_outcome : (x y : Evaluated) → code_outcome x ≡ code_outcome y → x ≡ y
inj_outcome (Ok a) (Ok b) p = ap Ok (data_code.inj a b (ap tail p))
inj_outcome (Err a) (Err b) p = ap Err (fault_code.inj a b (ap tail p))
inj_outcome (Ok a) (Err b) p = absurd (let q = ap tag p in cc)
inj_outcome (Err a) (Ok b) p = absurd (let q = ap tag p in cc)

mutual
  pub inj_node : (x y : Node) → code_node x ≡ code_node y → x ≡ y
  inj_node (constant a) (constant b) p = ap constant (inj_outcome a b (ap tail p))
  inj_node (asked a v) (asked b w) p = λ i.
      asked (tag (head (tail (p i))))
      (want_code.inj v w (ap (λ x. tail (tail x)) p) i)
  inj_node (property a v) (property b w) p = λ i.
      property ((coded_list coded_ℕ).inj a b (ap (λ x. head (tail x)) p) i)
      (want_code.inj v w (ap (λ x. tail (tail x)) p) i)
  inj_node (inner f v a) (inner g w b) p = λ i.
      inner (operator_code.inj f g (ap (λ x. head (tail x)) p) i)
      (want_code.inj v w (ap (λ x. head (tail (tail x))) p) i)
      (inj_children a b (ap (λ x. tail (tail (tail x))) p) i)
  inj_node (constant a) _ p = absurd (let q = ap tag p in cc)
  inj_node (asked a v) _ p = absurd (let q = ap tag p in cc)
  inj_node (property a v) _ p = absurd (let q = ap tag p in cc)
  inj_node (inner f v a) _ p = absurd (let q = ap tag p in cc)

  pub inj_children : (x y : Children) → code_children x ≡ code_children y → x ≡ y
  inj_children childless childless p = refl
  inj_children (child n ns) (child m ms) p = λ i. child (inj_node n m (ap head p) i) (inj_children ns ms (ap tail p) i)
  inj_children childless (child m ms) p = absurd (cc)
  inj_children (child n ns) childless p = absurd (cc)

abbrev pub node_code : Coded Node
node_code = record { code = code_node; inj = inj_node }

-- a node with its bindings, and a number
abbrev pub BoundNode : Type 0
BoundNode = Node × List Node × ℕ

abbrev pub bound_node_code : Coded BoundNode
bound_node_code =
    code_by (Node × (List Node × ℕ))
    (coded× node_code (coded× (coded_list node_code) coded_ℕ))
    (λ n. (n.0, (n.1, n.2)))
    (λ p. (p.0, p.1.0, p.1.1))
    (λ _. refl)
