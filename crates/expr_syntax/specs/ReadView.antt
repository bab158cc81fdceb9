-- What was read, as definitions see it.
use Rattle.std.specs.Prelude.{ℕ, List, length, option_map, Option, Some, None, Result, Ok, Err, Bool, true}
use Rattle.std.specs.Borrow.{Bor}
use Rattle.decimal_json.specs.View.{path_of, trees, fields}
use Rattle.decimal_json.specs.declared.paths.Here.{Here}
use Rattle.decimal_json.specs.declared.paths.PathPart.{PathPart}
use Rattle.decimal_json.specs.declared.tree.Json.{Json}
use Rattle.decimal_json.specs.declared.tree.Member.{Member}
use Rattle.prop_values.specs.Data.{Data}
use Rattle.prop_values.specs.View.{data_of}
use Rattle.prop_values.specs.declared.value.Value.{Value}
use Rattle.expr_syntax.specs.declared.expression.Expr.{Expr}
use Rattle.expr_syntax.specs.declared.expression.Operator.{Operator}
use Rattle.expr_syntax.specs.declared.fault.SynFault.{SynFault}
use Rattle.expr_syntax.specs.declared.reading.Reading.{Reading as CodeReading}
use Rattle.expr_syntax.specs.declared.reading.Reading.TheVariants.{Inside, Outside}
use Rattle.expr_syntax.specs.declared.rows.ElementLayout.{ElementLayout}
use Rattle.expr_syntax.specs.declared.scope.Scope.{Scope as CodeScope, Globals, Inside'}
use Rattle.expr_syntax.specs.Elements.{Element}
use Rattle.expr_syntax.specs.Reading.{Read, Reader, Reading, elements, members, arguments, names_in, node_read, options}
use Rattle.expr_syntax.specs.Reading.{read, section_read}
use Rattle.expr_syntax.specs.Scopes.{Scope, frame, globals}
use Rattle.expr_syntax.specs.Term.{Term}
use Rattle.expr_syntax.specs.TermView.{term_of}
use Rattle.decimal_json.specs.Tree.{Tree, Trees}
use Rattle.expr_syntax.specs.declared.names.Name.{Name}
use Rattle.expr_syntax.specs.declared.sections.FormatArguments.{FormatArguments}
use Rattle.expr_syntax.specs.declared.rows.OperatorRow.{OperatorRow as CodeRow}
use Rattle.expr_syntax.specs.Rows.{OperatorRow}
use Rattle.expr_syntax.specs.declared.standing.Sought.TheVariants.{Global}
use Rattle.expr_syntax.specs.Standing.{stands}

-- the scope of the program's own
abbrev pub scope_of : CodeScope → Scope
scope_of (Globals values) = globals values.now
scope_of (Inside' bound p outer) = frame bound.now (scope_of outer)

abbrev pub read_of : Result Expr SynFault → Read
read_of (Ok e) = Ok (term_of e)
read_of (Err f) = Err f

abbrev pub reading_of : Result CodeReading SynFault → Reading
reading_of (Ok (Inside e)) = Ok (Some (term_of e))
reading_of (Ok Outside) = Ok None
reading_of (Err f) = Err f

-- the elements of a node, each as what reads it
abbrev pub elements_of : List Json → List (Element Reader)
elements_of items = elements (trees items)

-- the arguments of a node, the last inside of other names
abbrev pub arguments_of : ElementLayout → List Json → Scope → Scope → List PathPart → Result (List Term) SynFault
arguments_of layout items inner scope path = arguments layout (length items) 0 (elements_of items) inner scope path

-- the arguments of a node of an operator, the last inside of the names that it binds
abbrev pub arguments_within : ElementLayout → Operator → List Json → Scope → List PathPart → Result (List Term) SynFault
arguments_within layout op items scope path = arguments_of layout items (names_in op scope) scope path

abbrev pub members_of : List Member → List (List ℕ × Reader)
members_of options = members (fields options)

-- what is read at a place, inside the names around it
abbrev pub read_at : {A : Type 0} → (Scope → List PathPart → A) → CodeScope → Here → A
read_at reader scope here = reader (scope_of scope) (path_of here)

-- the value of a name of the global state, where it has one
abbrev pub value_view : Option (Bor Value) → Option Data
value_view = option_map (λ v. data_of v.now)

-- a node of this name
abbrev pub node_of : Name → Trees → Reader
node_of name ts = node_read name ts (elements ts)

-- an element of a `format`
abbrev pub section_of : ℕ → Bool → Tree → Scope → List PathPart → FormatArguments → Result FormatArguments SynFault
section_of i follows t scope path found = section_read i follows (options t) (read t) scope path found

abbrev pub row_view : CodeRow → OperatorRow
row_view r = record {
  text = r.text.now;
  is_outside = r.is_outside;
  arity = r.arity;
  layout = r.layout;
  wants = r.wants;
  sequence = r.sequence;
  manner = r.manner;
  reads = r.reads;
}

-- whether an expression contains a `global-state` node
abbrev pub uses_globals : Tree → Bool
uses_globals t = stands t Global true
