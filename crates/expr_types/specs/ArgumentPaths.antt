-- The places of the arguments of a node among its elements.
use Rattle.std.specs.Prelude.{ℕ, ◌+◌, ◌*◌, List, [], ◌∷◌, ◌++◌, Bool, nat_eq, codes, Option, Some, None, if◌then◌else◌}
use Rattle.std.specs.List.{slice_get}
use Rattle.decimal_json.specs.declared.paths.PathPart.{PathPart}
use Rattle.decimal_json.specs.declared.paths.PathPart.TheVariants as parts
use Rattle.prop_values.specs.declared.kinds.Item.{Item}
use Rattle.expr_syntax.specs.declared.expression.Operator.{Operator}
use Rattle.expr_syntax.specs.declared.expression.Operator.TheVariants.{Array, Format}
use Rattle.expr_syntax.specs.declared.parts.FormatPiece.{FormatPiece}
use Rattle.expr_syntax.specs.declared.parts.Role.{Role}
use Rattle.expr_syntax.specs.declared.parts.Role.TheVariants.{Content, Scale, Font, Color}
use Rattle.expr_syntax.specs.declared.rows.ElementLayout.{ElementLayout}
use Rattle.expr_syntax.specs.declared.rows.ElementLayout.TheVariants.{Labels, Stops, Ramp, Bindings}
use Rattle.expr_syntax.specs.Names.{row}
use Rattle.expr_syntax.specs.Operators.{operator_name}
use Rattle.expr_syntax.specs.Rows.{is_last}

-- The element that is the argument k of m arguments. The name is element 0, and parts are between arguments.
abbrev pub element_of : ElementLayout → ℕ → ℕ → ℕ
element_of Labels m k = if nat_eq k 0 then 1 else if is_last m k then 2 * k else 2 * k + 1
element_of Stops m k = if nat_eq k 0 then 1 else 2 * k
element_of Ramp m k = 2 * k + 2
element_of Bindings m k = if is_last m k then 2 * k + 1 else 2 * k + 2
element_of layout m k = k + 1

abbrev pub one_if_item : Option Item → ℕ
one_if_item (Some i) = 1
one_if_item None = 0

abbrev pub one_if_count : Option ℕ → ℕ
one_if_count (Some n) = 1
one_if_count None = 0

abbrev pub at_piece : Option FormatPiece → ℕ
at_piece (Some piece) = piece.at
at_piece None = 0

abbrev pub element_at : Operator → ℕ → ℕ → ℕ
element_at (Array i n) m k = k + (1 + (one_if_item i + one_if_count n))
element_at (Format pieces) m k = at_piece (slice_get pieces k)
element_at op m k = element_of (row (operator_name op)).layout m k

-- an option of `format` is a member of its element
abbrev pub role_key : Role → Option (List ℕ)
role_key Content = None
role_key Scale = Some (codes "font-scale")
role_key Font = Some (codes "text-font")
role_key Color = Some (codes "text-color")

abbrev pub piece_key : Option FormatPiece → Option (List ℕ)
piece_key (Some piece) = role_key piece.role
piece_key None = None

abbrev pub key_at : Operator → ℕ → Option (List ℕ)
key_at (Format pieces) k = piece_key (slice_get pieces k)
key_at op k = None

abbrev pub with_key : Option (List ℕ) → List PathPart → List PathPart
with_key (Some key) path = path ++ parts.Key key ∷ []
with_key None path = path

-- the path of the argument k of m arguments
abbrev pub argument_path : Operator → ℕ → ℕ → List PathPart → List PathPart
argument_path op m k path = with_key (key_at op k) (path ++ parts.Index (element_at op m k) ∷ [])
