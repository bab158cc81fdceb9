-- The sections that are read from the text of a `format`, and their contents. Source: own.
use Rattle.std.specs.Prelude.{◌≡◌, ℕ, List, Option, Some, None, Ok}
use Rattle.prop_values.specs.Data.{text}
use Rattle.prop_values.specs.declared.kinds.Want.TheVariants as wants
use Rattle.expr_syntax.specs.Term.{node, Terms}
use Rattle.expr_syntax.specs.declared.expression.Operator.TheVariants.{Concat, Format}
use Rattle.expr_syntax.specs.declared.parts.FormatPiece.{FormatPiece}
use Rattle.format_text.specs.ReadText.{AreSections, ReadsSections}
use Rattle.format_text.specs.SectionLists.{plain_text, sections_text}
use Rattle.format_text.specs.declared.formatted.Section.{Section}
use Rattle.operator_values.specs.Evaluated.{Evaluated}
use Rattle.eval_face.specs.JoinedContents.{contents}
use Rattle.eval_face.specs.Meaning.{mean}
use Rattle.eval_face.specs.Names.{BoundOutcomes}
use Rattle.eval_face.specs.World.{World}

-- What is read from a text: sections whose contents, joined, are the text that is meant.
abbrev pub IsReadAs : Evaluated → Option (List Section) → Type 0
IsReadAs meant (Some ss) = AreSections ss → meant ≡ Ok (text (plain_text ss))
IsReadAs meant None = ⊥

-- The text is that of sections, and what is read from it joins to what is meant, where they are sections as
-- programs have them.
pub record IsTextOf (s : List ℕ) (meant : Evaluated) : Type 0 where
  pub sections : List Section
  pub text_of : s ≡ sections_text sections
  pub is_read : AreSections sections → (read : Option (List Section)) → ReadsSections s read → IsReadAs meant read

-- Where a `format` is shown, its text is that of sections, and the sections that are read from the text join
-- to what the `concat` of its contents means.
abbrev pub FormatsAreReadAsTheirContents : Type 0
FormatsAreReadAsTheirContents =
    (ps : List FormatPiece) (ts : Terms) (names : BoundOutcomes) (world : World) (s : List ℕ) →
    mean (node (Format ps) ts) wants.Shown names world ≡ Ok (text s) →
    IsTextOf s (mean (node Concat (contents ps ts)) wants.Any names world)
