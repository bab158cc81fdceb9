-- The pieces of a text without their type: of each, whether it is a token, and its text or its name.
use Rattle.std.proofs.Common.{◌≡◌, ℕ, List, [], ◌∷◌, ◌++◌, refl, ap, true, false}
use Rattle.std.specs.Prelude.{Bool, map, flat_map, codes}
use Rattle.decimal_json.specs.Tree.{Tree, text}
use Rattle.tile_reader.specs.declared.tile.Feature.{Feature}
use Rattle.legacy_functions.specs.declared.tokens.TokenPiece.{TokenPiece}
use Rattle.legacy_functions.specs.declared.tokens.TokenPiece.TheVariants.{Plain, Token}
use Rattle.legacy_functions.specs.Tokens.{pieces, property_text, piece_text, token_text, call, property_expression, piece_expression, token_expression}

abbrev pub Part : Type 0
Part = Bool × List ℕ

abbrev pub part_of : TokenPiece → Part
part_of (Plain s) = (false, s)
part_of (Token name) = (true, name)

abbrev pub parts : List ℕ → List Part
parts s = map part_of (pieces s)

abbrev pub part_text : Feature → Part → List ℕ
part_text feature (false, s) = s
part_text feature (true, name) = property_text name feature

abbrev pub part_expression : Part → Tree
part_expression (false, s) = text s
part_expression (true, name) = property_expression name

texts_by_parts : (feature : Feature) (ps : List TokenPiece)
    → flat_map (piece_text feature) ps ≡ flat_map (part_text feature) (map part_of ps)
texts_by_parts feature [] = refl
texts_by_parts feature (Plain s ∷ ps) = ap (λ later. s ++ later) (texts_by_parts feature ps)
texts_by_parts feature (Token name ∷ ps) = ap (λ later. property_text name feature ++ later) (texts_by_parts feature ps)

pub text_by_parts : (s : List ℕ) (feature : Feature) → token_text s feature ≡ flat_map (part_text feature) (parts s)
text_by_parts s feature = texts_by_parts feature (pieces s)

expressions_by_parts : (ps : List TokenPiece) → map piece_expression ps ≡ map part_expression (map part_of ps)
expressions_by_parts [] = refl
expressions_by_parts (Plain s ∷ ps) = ap (λ later. text s ∷ later) (expressions_by_parts ps)
expressions_by_parts (Token name ∷ ps) = ap (λ later. property_expression name ∷ later) (expressions_by_parts ps)

pub expression_by_parts : (s : List ℕ) → token_expression s ≡ call (codes "concat") (map part_expression (parts s))
expression_by_parts s = ap (call (codes "concat")) (expressions_by_parts (pieces s))
