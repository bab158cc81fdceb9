-- The contents of what a `format` means, joined, are what `concat` means of them.
use Rattle.std.specs.Prelude.{◌≡◌, List, ◌∷◌, Ok}
use Rattle.prop_values.specs.Data.{Data, text}
use Rattle.prop_values.specs.declared.kinds.Want.TheVariants as wants
use Rattle.expr_syntax.specs.Term.{Term, node, Terms, no_terms, term}
use Rattle.expr_syntax.specs.declared.expression.Operator.TheVariants.{Concat, Format}
use Rattle.expr_syntax.specs.declared.parts.FormatPiece.{FormatPiece}
use Rattle.expr_syntax.specs.declared.parts.Role.{Role}
use Rattle.expr_syntax.specs.declared.parts.Role.TheVariants.{Content, Scale, Font, Color}
use Rattle.format_text.specs.SectionLists.{sections_data, plain_text}
use Rattle.format_text.specs.declared.formatted.Section.{Section}
use Rattle.operator_values.specs.Evaluated.{Evaluated}
use Rattle.eval_face.specs.Meaning.{mean}
use Rattle.eval_face.specs.Names.{BoundOutcomes}
use Rattle.eval_face.specs.World.{World}

-- the contents among the arguments of a `format`
abbrev pub content_first : Role → Term → Terms → Terms
content_first Content t ts = term t ts
content_first Scale t ts = ts
content_first Font t ts = ts
content_first Color t ts = ts

abbrev pub contents : List FormatPiece → Terms → Terms
contents (p ∷ ps) (term t ts) = content_first p.role t (contents ps ts)
contents _ _ = no_terms

-- The data are the value of sections, and the outcome is the text of their contents joined. Source: own.
pub record IsOfContents (d : Data) (joined : Evaluated) : Type 0 where
  pub sections : List Section
  pub value : d ≡ sections_data sections
  pub plain : joined ≡ Ok (text (plain_text sections))

abbrev pub FormatsJoinTheirContents : Type 0
FormatsJoinTheirContents =
    (ps : List FormatPiece) (ts : Terms) (names : BoundOutcomes) (world : World) (d : Data) →
    mean (node (Format ps) ts) wants.Any names world ≡ Ok d →
    IsOfContents d (mean (node Concat (contents ps ts)) wants.Any names world)
