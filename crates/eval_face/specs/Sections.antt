-- `format`: the list of its sections, each its content and the options that follow it. Source: MapLibre style
-- specification, version 8, expressions.
use Rattle.std.specs.Prelude.{List, [], ◌∷◌, ◌++◌, Some, Result, Ok, Err}
use Rattle.prop_values.specs.Data.{Data, number, text, color, list, items_of}
use Rattle.prop_values.specs.View.{value_of}
use Rattle.prop_values.specs.declared.fault.EvalFault.{EvalFault}
use Rattle.prop_values.specs.declared.fault.EvalFault.TheVariants.{WrongType}
use Rattle.expr_syntax.specs.declared.parts.FormatPiece.{FormatPiece}
use Rattle.expr_syntax.specs.declared.parts.Role.{Role}
use Rattle.expr_syntax.specs.declared.parts.Role.TheVariants.{Content, Scale, Font, Color}
use Rattle.format_text.specs.Sections.{section_with, section_of}
use Rattle.format_text.specs.declared.formatted.Section.{Section}
use Rattle.operator_values.specs.Evaluated.{Evaluated}

-- the values of the sections before the open one, and the open one
abbrev pub Open : Type 0
Open = List Data × Section

-- one argument more: a content opens a section, and an option is one of the open section
abbrev pub add_piece : Role → Data → Open → Result Open EvalFault
add_piece Content (text s) (before, current) = Ok (before ++ section_of current ∷ [], section_with s)
add_piece Scale (number z) (before, current) = Ok (before, record current { scale = Some z })
add_piece Font d (before, current) = Ok (before, record current { font = Some (value_of d) })
add_piece Color (color c) (before, current) = Ok (before, record current { color = Some c })
add_piece _ _ _ = Err WrongType

-- goes on with the sections, unless there is a fault
abbrev pub then_open : Result Open EvalFault → (Open → Result Open EvalFault) → Result Open EvalFault
then_open (Ok sections) go = go sections
then_open (Err fault) go = Err fault

abbrev pub add_pieces : List FormatPiece → List Data → Open → Result Open EvalFault
add_pieces (p ∷ ps) (d ∷ ds) sections = then_open (add_piece p.role d sections) (add_pieces ps ds)
add_pieces _ _ sections = Ok sections

-- the value of all sections
abbrev pub closed : Result Open EvalFault → Evaluated
closed (Ok (before, current)) = Ok (list (items_of (before ++ section_of current ∷ [])))
closed (Err fault) = Err fault

-- the first argument is a content
abbrev pub format_of : List FormatPiece → List Data → Evaluated
format_of (p ∷ ps) (text s ∷ ds) = closed (add_pieces ps ds ([], section_with s))
format_of _ _ = Err WrongType
