-- The expression of a token text reads as its term, and gives the text.
use Rattle.std.proofs.Common.{◌≡◌, ◌∙◌, ℕ, ◌+◌, ℤ, List, [], ◌∷◌, ◌++◌, length, refl, ap, sym, subst, true, false}
use Rattle.std.specs.Prelude.{Bool, map, flat_map, Option, Some, None, option_map, unwrap_or, Ok}
use Rattle.prop_values.specs.Data.{Data, null, text, pairs_of}
use Rattle.prop_values.specs.Equality.{at_key}
use Rattle.prop_values.specs.ValueText.{shown_text}
use Rattle.prop_values.specs.declared.kinds.Want.{Want}
use Rattle.property_tables.specs.Fitting.{fit}
use Rattle.tile_reader.specs.declared.tile.Feature.{Feature}
use Rattle.expr_syntax.specs.declared.expression.Operator.TheVariants as operators
use Rattle.expr_syntax.specs.Scopes.{globals}
use Rattle.expr_syntax.specs.Term.{Term, terms_of}
use Rattle.decimal_json.specs.Tree.{Tree}
use Rattle.operator_values.specs.Evaluated.{then_value}
use Rattle.operator_values.specs.Texts.{joined, concat_of}
use Rattle.eval_face.specs.Meaning.{mean, means}
use Rattle.eval_face.specs.Meanings.{then_values, and_values, values_of}
use Rattle.eval_face.specs.World.{World, feature_world}
use Rattle.legacy_functions.specs.Tokens.{token_text, token_expression}
use Rattle.legacy_functions.proofs.PieceViews.{Part, parts, part_text, part_expression, text_by_parts, expression_by_parts}
use Rattle.legacy_laws.specs.LegacyFunctionLaw.{ReadsAlways, GivesAlways, TokenExpressionsMeanTheirTexts}
use Rattle.legacy_laws.proofs.FilterReading.{IsReadAs, AreReadAs, outside_nowhere, reading_by, read_text_as}
use Rattle.legacy_laws.proofs.FunctionTerms.{part_term, token_term}
use Rattle.legacy_laws.proofs.FunctionReading.{read_concat, read_property}

-- ---- reading

read_part : (p : Part) → IsReadAs (part_expression p) (part_term p)
read_part (false, s) = read_text_as s
read_part (true, name) = read_property name

read_parts : (ps : List Part) → AreReadAs (map part_expression ps) (map part_term ps)
read_parts [] = tt
read_parts (p ∷ ps) = (read_part p, read_parts ps)

pub read_tokens : (s : List ℕ) → IsReadAs (token_expression s) (token_term s)
read_tokens s =
    let by_parts = read_concat (map part_expression (parts s)) (map part_term (parts s)) (read_parts (parts s)) in
    subst (λ t. IsReadAs t (token_term s)) (sym (expression_by_parts s)) by_parts

-- a tree that reads as a term in all scopes and at all paths
pub reads_always : (t : Tree) (e : Term) → IsReadAs t e → ReadsAlways t e
reads_always t e h values =
    let inside = outside_nowhere t h.inside in
    λ i. reading_by (inside i) (h.reads (globals values) [] i)

-- ---- meaning

shown_or_empty : (found : Option Data) → shown_text (unwrap_or found null) ≡ unwrap_or (option_map shown_text found) []
shown_or_empty (Some d) = refl
shown_or_empty None = refl

module _ (zoom : ℤ) (feature : Feature) (state : List (List ℕ × Data)) (images scripts : List ℕ → Bool) where
  abbrev here : World
  here = feature_world zoom feature state images scripts

  abbrev part_data : Part → Data
  part_data (false, s) = text s
  part_data (true, name) = unwrap_or (at_key name (pairs_of feature.properties)) null

  values_given : (ps : List Part) (m k : ℕ) (want : Want)
      → values_of operators.Concat m k (means (terms_of (map part_term ps))) want [] here ≡ Ok (map part_data ps)
  values_given [] m k want = refl
  values_given ((false, s) ∷ ps) m k want = λ i. and_values (Ok (text s)) (values_given ps m (k + 1) want i)
  values_given ((true, name) ∷ ps) m k want =
      λ i. and_values (Ok (part_data (true, name))) (values_given ps m (k + 1) want i)

  parts_joined : (ps : List Part) → joined (map part_data ps) ≡ flat_map (part_text feature) ps
  parts_joined [] = refl
  parts_joined ((false, s) ∷ ps) = λ i. s ++ parts_joined ps i
  parts_joined ((true, name) ∷ ps) =
      let one = shown_or_empty (at_key name (pairs_of feature.properties)) in
      λ i. one i ++ parts_joined ps i

  pub tokens_given : (want : Want) (s : List ℕ) → mean (token_term s) want [] here ≡ fit want (text (token_text s feature))
  tokens_given want s =
      let ps = parts s in
      let given = values_given ps (length (means (terms_of (map part_term ps)))) 0 want in
      (λ i. then_values (given i) (λ ds. then_value (concat_of ds) (fit want)))
      ∙ ap (λ t. fit want (text t)) (parts_joined ps ∙ sym (text_by_parts s feature))

pub token_texts : TokenExpressionsMeanTheirTexts
token_texts s =
    let says : (want : Want) → GivesAlways (token_term s) want (λ zoom feature. fit want (text (token_text s feature))) =
    λ want zoom feature state images scripts. tokens_given zoom feature state images scripts want s in
    (token_term s, reads_always (token_expression s) (token_term s) (read_tokens s), says)
