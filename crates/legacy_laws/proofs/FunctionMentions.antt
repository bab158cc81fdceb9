-- What the terms of legacy functions and token texts mention.
use Rattle.std.proofs.Common.{◌≡◌, ◌∙◌, ℕ, List, [], ◌∷◌, refl, ap, sym, arith, true, false}
use Rattle.std.specs.Prelude.{Bool, ◌||◌, codes, map, Option, Some, None, is_some}
use Rattle.std.specs.List.{list_any}
use Rattle.prop_values.specs.Data.{text}
use Rattle.prop_values.specs.declared.kinds.Want.{Want}
use Rattle.prop_values.specs.declared.kinds.Want.TheVariants as wants
use Rattle.property_tables.specs.Rows.{RowData}
use Rattle.expr_syntax.specs.declared.expression.Operator.{Operator}
use Rattle.expr_syntax.specs.declared.expression.Operator.TheVariants as operators
use Rattle.expr_syntax.specs.declared.world_parts.Mentions.{Mentions}
use Rattle.expr_syntax.specs.Mentioned.{nothing, either, of_operator, count, mentions, all_mentions}
use Rattle.expr_syntax.specs.Term.{Term, literal, node, terms_of}
use Rattle.legacy_functions.specs.AskedParts.{asks_input, body_asks_zoom, output_asks_feature, outputs_ask_feature, stops_ask_feature}
use Rattle.legacy_functions.specs.Function.{Spelled, Input, Output, literal as literal_output, tokens, Way, even, curved, stepped}
use Rattle.legacy_functions.specs.Function.{PropertyRule, numeric, categorical, Body, plain, zoomed, identity}
use Rattle.legacy_functions.specs.Meaning.{zoom_way}
use Rattle.legacy_functions.specs.ToExpression.{form_name}
use Rattle.legacy_functions.specs.Tokens.{pieces, is_token, has_tokens}
use Rattle.legacy_functions.proofs.PieceViews.{Part, part_of, parts}
use Rattle.legacy_functions.proofs.SoundRules.{AreRulesOf, IsRuleOf, IsBodyOf}
use Rattle.legacy_laws.proofs.FilterTerms.{one_term, kind_term}
use Rattle.legacy_laws.proofs.FunctionTerms.{property_term, part_term, token_term, output_term, default_term}
use Rattle.legacy_laws.proofs.FunctionTerms.{TermBranches, branch_inputs, branch_terms, way_curve, ramp_term, step_term, way_term}
use Rattle.legacy_laws.proofs.FunctionTerms.{stop_terms, case_term, input_data, category_terms, rule_term, zoom_term, rule_terms}
use Rattle.legacy_laws.proofs.FunctionTerms.{identity_term, body_term}
use Rattle.legacy_laws.proofs.FunctionProperties.{GoesBy}

-- ---- terms that mention the feature, or nothing

abbrev seen : Bool → Bool → Mentions
seen zoom feature = record { zoom = zoom; feature = feature; state = false; image = false }

abbrev asks_feature : Term → Bool
asks_feature e = (mentions e).feature

abbrev IsStill : Term → Type 0
IsStill e = mentions e ≡ seen false (asks_feature e)

abbrev AreStill : List Term → Type 0
AreStill [] = Unit {0}
AreStill (x ∷ xs) = IsStill x × AreStill xs

abbrev some_feature : List Term → Bool
some_feature [] = false
some_feature (x ∷ xs) = asks_feature x || some_feature xs

all_still : (xs : List Term) → AreStill xs → all_mentions (terms_of xs) ≡ seen false (some_feature xs)
all_still [] h = refl
all_still (x ∷ xs) h = let rest = all_still xs h.1 in λ i. either (h.0 i) (rest i)

still_by : (e : Term) (b : Bool) → mentions e ≡ seen false b → IsStill e
still_by e b h = h ∙ ap (λ (m : Mentions). seen false m.feature) (sym h)

-- a node that mentions nothing itself
node_still : (op : Operator) (xs : List Term) → of_operator op (count (terms_of xs)) ≡ nothing → AreStill xs
    → IsStill (node op (terms_of xs))
node_still op xs own h =
    let all = all_still xs h in
    still_by (node op (terms_of xs)) (some_feature xs) (λ i. either (own i) (all i))

kind_still : (kind : List ℕ) (e : Term) → IsStill e → IsStill (kind_term kind e)
kind_still kind e h =
    node_still operators.Equal (one_term operators.TypeOf e ∷ literal (text kind) ∷ []) refl
    (node_still operators.TypeOf (e ∷ []) refl (h, tt), (refl, tt))

case_still : (kind : List ℕ) (property e default : Term) → IsStill property → IsStill e → IsStill default
    → IsStill (case_term kind property e default)
case_still kind property e default h k l =
    node_still operators.Case (kind_term kind property ∷ e ∷ default ∷ []) refl (kind_still kind property h, (k, (l, tt)))

-- ---- outputs

parts_still : (ps : List Part) → AreStill (map part_term ps)
parts_still [] = tt
parts_still ((false, s) ∷ ps) = (refl, parts_still ps)
parts_still ((true, name) ∷ ps) = (refl, parts_still ps)

tokens_still : (s : List ℕ) → IsStill (token_term s)
tokens_still s = node_still operators.Concat (map part_term (parts s)) refl (parts_still (parts s))

output_still : (o : Output) → IsStill (output_term o)
output_still (literal_output t d) = refl
output_still (tokens s) = tokens_still s

pub default_still : (o : Option Output) (row : RowData) → IsStill (default_term o row)
default_still (Some o) row = output_still o
default_still None row = refl

parts_ask : (ps : List Part) → (all_mentions (terms_of (map part_term ps))).feature ≡ list_any (λ (p : Part). p.0) ps
parts_ask [] = refl
parts_ask ((false, s) ∷ ps) = parts_ask ps
parts_ask ((true, name) ∷ ps) = refl

any_part : {A : Type 0} (part : A → Part) (test : A → Bool) → ((a : A) → (part a).0 ≡ test a)
    → (xs : List A) → list_any (λ (p : Part). p.0) (map part xs) ≡ list_any test xs
any_part part test same [] = refl
any_part part test same (x ∷ xs) =
    let one = same x in
    let rest = any_part part test same xs in
    λ i. one i || rest i

tokens_ask : (s : List ℕ) → asks_feature (token_term s) ≡ has_tokens s
tokens_ask s = parts_ask (parts s) ∙ any_part part_of is_token (λ p. grind arith) (pieces s)

pub tokens_mention : (s : List ℕ) → mentions (token_term s) ≡ record nothing { feature = has_tokens s }
tokens_mention s = tokens_still s ∙ ap (seen false) (tokens_ask s)

output_asks : (o : Output) → asks_feature (output_term o) ≡ output_asks_feature o
output_asks (literal_output t d) = refl
output_asks (tokens s) = tokens_ask s

-- ---- from stop to stop

stops_still : (ss : List (Spelled × Output)) → AreStill (branch_terms (stop_terms ss))
stops_still [] = tt
stops_still (s ∷ ss) = (output_still s.1, stops_still ss)

stops_ask : (ss : List (Spelled × Output)) → some_feature (branch_terms (stop_terms ss)) ≡ stops_ask_feature ss
stops_ask [] = refl
stops_ask (s ∷ ss) =
    let one = output_asks s.1 in
    let rest = stops_ask ss in
    λ i. one i || rest i

ramp_still : (way : Way) (x : Term) (xs : TermBranches) → IsStill x → AreStill (branch_terms xs) → IsStill (ramp_term way x xs)
ramp_still way x xs h k =
    node_still (operators.Interpolate (way_curve way, branch_inputs xs)) (x ∷ branch_terms xs) refl (h, k)

step_still : (x : Term) (xs : TermBranches) → IsStill x → AreStill (branch_terms xs) → IsStill (step_term x xs)
step_still x [] h k = refl
step_still x (b ∷ []) h k = k.0
step_still x (b ∷ c ∷ bs) h k =
    node_still (operators.Step (branch_inputs (c ∷ bs))) (x ∷ branch_terms (b ∷ c ∷ bs)) refl (h, k)

way_still : (way : Way) (x : Term) (xs : TermBranches) → IsStill x → AreStill (branch_terms xs) → IsStill (way_term way x xs)
way_still even x xs h k = ramp_still even x xs h k
way_still (curved base) x xs h k = ramp_still (curved base) x xs h k
way_still stepped x xs h k = step_still x xs h k

-- ---- over the zoom

or_false : (b : Bool) → b ≡ (b || false)
or_false true = refl
or_false false = refl

ramp_mentions : (way : Way) (xs : TermBranches) → AreStill (branch_terms xs)
    → mentions (ramp_term way zoom_term xs) ≡ seen true (some_feature (branch_terms xs))
ramp_mentions way xs h =
    let all = all_still (branch_terms xs) h in
    λ i. either nothing (either (mentions zoom_term) (all i))

step_mentions : (xs : TermBranches) → AreStill (branch_terms xs)
    → mentions (step_term zoom_term xs) ≡ seen (asks_input stepped xs) (some_feature (branch_terms xs))
step_mentions [] h = refl
step_mentions (b ∷ []) h = h.0 ∙ ap (seen false) (or_false (asks_feature b.1))
step_mentions (b ∷ c ∷ bs) h =
    let all = all_still (branch_terms (b ∷ c ∷ bs)) h in
    λ i. either nothing (either (mentions zoom_term) (all i))

way_mentions : (way : Way) (xs : TermBranches) → AreStill (branch_terms xs)
    → mentions (way_term way zoom_term xs) ≡ seen (asks_input way xs) (some_feature (branch_terms xs))
way_mentions even xs h = ramp_mentions even xs h
way_mentions (curved base) xs h = ramp_mentions (curved base) xs h
way_mentions stepped xs h = step_mentions xs h

stops_ask_input : (way : Way) (ss : List (Spelled × Output)) → asks_input way (stop_terms ss) ≡ asks_input way ss
stops_ask_input even ss = refl
stops_ask_input (curved base) ss = refl
stops_ask_input stepped [] = refl
stops_ask_input stepped (s ∷ []) = refl
stops_ask_input stepped (s ∷ t ∷ ss) = refl

rules_ask_input : (property default : Term) (way : Way) (rs : List (Spelled × PropertyRule))
    → asks_input way (rule_terms property default rs) ≡ asks_input way rs
rules_ask_input property default even rs = refl
rules_ask_input property default (curved base) rs = refl
rules_ask_input property default stepped [] = refl
rules_ask_input property default stepped (r ∷ []) = refl
rules_ask_input property default stepped (r ∷ s ∷ rs) = refl

-- ---- rules by a property

module _ (default : Term) (k : IsStill default) where
  categories_still : (property : Term) → IsStill property → (ss : List (Input × Output)) → AreStill (category_terms property default ss)
  categories_still property h [] = (k, tt)
  categories_still property h (s ∷ ss) = (
    node_still operators.Equal (property ∷ literal (input_data s.0) ∷ []) refl (h, (refl, tt)),
    (output_still s.1, categories_still property h ss),
  )

  rule_still : (property : Term) → IsStill property → (rule : PropertyRule) → IsStill (rule_term property default rule)
  rule_still property h (numeric way ss) =
      case_still (codes "number") property (way_term way property (stop_terms ss)) default h
      (way_still way property (stop_terms ss) h (stops_still ss)) k
  rule_still property h (categorical ss) =
      node_still operators.Case (category_terms property default ss) refl (categories_still property h ss)

  rules_still : (property : Term) → IsStill property → (rs : List (Spelled × PropertyRule))
      → AreStill (branch_terms (rule_terms property default rs))
  rules_still property h [] = tt
  rules_still property h (r ∷ rs) = (rule_still property h r.1, rules_still property h rs)

  identity_still : (property : Term) → IsStill property → (want : Want) → IsStill (identity_term want property default)
  identity_still property h wants.Shown = node_still operators.Coalesce (property ∷ default ∷ []) refl (h, (k, tt))
  identity_still property h wants.Any = case_still (form_name wants.Any) property property default h h k
  identity_still property h wants.Boolean = case_still (form_name wants.Boolean) property property default h h k
  identity_still property h wants.Number = case_still (form_name wants.Number) property property default h h k
  identity_still property h wants.Text = case_still (form_name wants.Text) property property default h h k
  identity_still property h wants.Color = case_still (form_name wants.Color) property property default h h k
  identity_still property h wants.Object = case_still (form_name wants.Object) property property default h h k
  identity_still property h wants.Image = case_still (form_name wants.Image) property property default h h k
  identity_still property h (wants.List i n) = case_still (form_name (wants.List i n)) property property default h h k
  identity_still property h (wants.Enum c) = case_still (form_name (wants.Enum c)) property property default h h k
  identity_still property h (wants.EnumList c) = case_still (form_name (wants.EnumList c)) property property default h h k

  module _ (row : RowData) (name : List ℕ) where
    abbrev property : Term
    property = property_term name

    rule_asks : (rule : PropertyRule) → IsRuleOf row rule → asks_feature (rule_term property default rule) ≡ true
    rule_asks (numeric way ss) is = refl
    rule_asks (categorical []) is = absurd is.1
    rule_asks (categorical (s ∷ ss)) is = refl

    rule_mentions : (rule : PropertyRule) → IsRuleOf row rule → mentions (rule_term property default rule) ≡ seen false true
    rule_mentions rule is = rule_still property refl rule ∙ ap (seen false) (rule_asks rule is)

    rules_mention : (way : Way) (r : Spelled × PropertyRule) (rs : List (Spelled × PropertyRule)) → AreRulesOf row (r ∷ rs)
        → mentions (way_term way zoom_term (rule_terms property default (r ∷ rs))) ≡ seen (asks_input way (r ∷ rs)) true
    rules_mention way r rs is =
        let later = some_feature (branch_terms (rule_terms property default rs)) in
        let input = rules_ask_input property default way (r ∷ rs) in
        let first = rule_asks r.1 is.0.1 in
        way_mentions way (rule_terms property default (r ∷ rs)) (rules_still property refl (r ∷ rs))
        ∙ (λ i. seen (input i) (first i || later))

    identity_asks : (want : Want) → asks_feature (identity_term want property default) ≡ true
    identity_asks wants.Shown = refl
    identity_asks wants.Any = refl
    identity_asks wants.Boolean = refl
    identity_asks wants.Number = refl
    identity_asks wants.Text = refl
    identity_asks wants.Color = refl
    identity_asks wants.Object = refl
    identity_asks wants.Image = refl
    identity_asks (wants.List i n) = refl
    identity_asks (wants.Enum c) = refl
    identity_asks (wants.EnumList c) = refl

    identity_mentions : (want : Want) → mentions (identity_term want property default) ≡ seen false true
    identity_mentions want = identity_still property refl want ∙ ap (seen false) (identity_asks want)

  -- ---- the whole

  over_zoom : (way : Way) (ss : List (Spelled × Output))
      → mentions (way_term way zoom_term (stop_terms ss)) ≡ seen (asks_input way ss) (outputs_ask_feature (plain (numeric way ss)))
  over_zoom way ss =
      let input = stops_ask_input way ss in
      let asked = stops_ask ss in
      way_mentions way (stop_terms ss) (stops_still ss) ∙ (λ i. seen (input i) (asked i))

  abbrev mentioned : RowData → Option (List ℕ) → Body → Mentions
  mentioned row property body = seen (body_asks_zoom row property body) (is_some property || outputs_ask_feature body)

  pub body_mentions : (row : RowData) (property : Option (List ℕ)) (body : Body) → IsBodyOf row body → GoesBy property body
      → mentions (body_term row default property body) ≡ mentioned row property body
  body_mentions row (Some name) (plain rule) is goes = rule_mentions row name rule is
  body_mentions row (Some name) (zoomed []) is goes = absurd is.1.0
  body_mentions row (Some name) (zoomed (r ∷ rs)) is goes = rules_mention row name (zoom_way row) r rs is.0
  body_mentions row (Some name) identity is goes = identity_mentions row name row.want
  body_mentions row None (plain (numeric way ss)) is goes = over_zoom way ss
  body_mentions row None (plain (categorical ss)) is goes = absurd goes
  body_mentions row None (zoomed rs) is goes = absurd goes
  body_mentions row None identity is goes = absurd goes
