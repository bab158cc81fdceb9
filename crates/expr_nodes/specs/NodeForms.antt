-- A node as the program reads it.
use Rattle.std.specs.Prelude.{◌≡◌, Ok, Err}
use Rattle.prop_values.specs.View.{data_of}
use Rattle.property_tables.specs.Fitting.{fit}
use Rattle.expr_nodes.specs.Node.{Node, constant, asked, property, inner, children, children_of}
use Rattle.expr_nodes.specs.declared.access.NodeForm.{NodeForm}
use Rattle.expr_nodes.specs.declared.access.NodeForm.TheVariants.{Constant, Given, Faulty, Asked, Property, Inner}

abbrev pub IsForm : NodeForm → Node → Type 0
IsForm (Constant value) n = n ≡ constant (Ok (data_of value.now))
IsForm (Given value want) n = n ≡ constant (fit want (data_of value.now))
IsForm (Faulty fault) n = n ≡ constant (Err fault)
IsForm (Asked slot want) n = n ≡ asked slot want
IsForm (Property key want) n = n ≡ property key.now want
IsForm (Inner op want) n = n ≡ inner op.now want (children_of (children n))
