-- The elements of a simplified node: as they are written, and what is known of those that are arguments.
-- Source: own.
use Rattle.std.specs.Prelude.{ℕ, List, [], ◌∷◌, ◌++◌, map, Bool, true, false, ◌||◌, is_some, Option, Some, None}
use Rattle.std.specs.Prelude.{if◌then◌else◌}
use Rattle.decimal_json.specs.Tree.{Tree, list, trees_of}
use Rattle.prop_values.specs.declared.kinds.Kind.{Kind}
use Rattle.prop_values.specs.declared.kinds.Want.{Want}
use Rattle.expr_syntax.specs.declared.expression.Operator.{Operator}
use Rattle.expr_syntax.specs.NameIndex.{last_place}
use Rattle.expr_types.specs.Fits.{branch_kind}
use Rattle.expr_types.specs.NodeKinds.{node_kind}

pub record SimpleElement : Type 0 where
  pub tree : Tree
  -- whether it is a part of the operator, and no argument
  pub is_part : Bool
  -- its kind under its want, none where it has a type fault
  pub kind : Option Kind
  -- the names that it asks for and does not bind itself
  pub asks : List (List ℕ)
  -- whether it reads anything outside of it beside names: the zoom, the feature, its state, the global state, or a
  -- test of images or scripts
  pub reads : Bool

-- a part, or what is not looked into
abbrev pub part : Tree → SimpleElement
part t = record { tree = t; is_part = true; kind = None; asks = []; reads = true }

abbrev pub tree_in : SimpleElement → Tree
tree_in e = e.tree

-- ---- what is known of several

abbrev pub and_kind : Option Kind → Option (List Kind) → Option (List Kind)
and_kind (Some k) (Some ks) = Some (k ∷ ks)
and_kind _ _ = None

-- the kinds of the arguments, none where one has a type fault
abbrev pub argument_kinds : List SimpleElement → Option (List Kind)
argument_kinds [] = Some []
argument_kinds (e ∷ es) = if e.is_part then argument_kinds es else and_kind e.kind (argument_kinds es)

abbrev pub all_asks : List SimpleElement → List (List ℕ)
all_asks [] = []
all_asks (e ∷ es) = e.asks ++ all_asks es

abbrev pub is_reading : SimpleElement → Bool
is_reading e = if e.is_part then false else e.reads

abbrev pub some_reads : List SimpleElement → Bool
some_reads [] = false
some_reads (e ∷ es) = is_reading e || some_reads es

-- ---- a node of elements, its name first

abbrev pub kind_by : Operator → Want → Option (List Kind) → Option Kind
kind_by op want (Some ks) = node_kind op want ks
kind_by op want None = None

-- `reads` says whether the operator itself reads anything
abbrev pub node_of : Operator → Want → Bool → List SimpleElement → SimpleElement
node_of op want reads es = record {
  tree = list (trees_of (map tree_in es));
  is_part = false;
  kind = kind_by op want (argument_kinds es);
  asks = all_asks es;
  reads = reads || some_reads es;
}

-- ---- a `let`: the elements before its body, and its body

-- the names that are asked for, without those that are bound
abbrev pub without : List (List ℕ) → List (List ℕ) → List (List ℕ)
without names [] = []
without names (asked ∷ others) =
    if is_some (last_place 0 names asked) then without names others else asked ∷ without names others

abbrev pub body_kind : Want → Option (List Kind) → Option Kind → Option Kind
body_kind want (Some ks) (Some k) = Some (branch_kind want k)
body_kind want _ _ = None

abbrev pub let_of : List (List ℕ) → Want → List SimpleElement → SimpleElement → SimpleElement
let_of names want bindings body = record {
  tree = list (trees_of (map tree_in (bindings ++ body ∷ [])));
  is_part = false;
  kind = body_kind want (argument_kinds bindings) body.kind;
  asks = all_asks bindings ++ without names body.asks;
  reads = some_reads bindings || body.reads;
}
