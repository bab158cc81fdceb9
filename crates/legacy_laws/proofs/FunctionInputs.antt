-- What the nodes of the terms of legacy functions read, and the place of the zoom in them.
use Rattle.std.proofs.Common.{◌≡◌, ◌∙◌, ℕ, ◌+◌, List, [], ◌∷◌, ◌++◌, refl, ap, true, false}
use Rattle.std.specs.Prelude.{Bool, ◌&&◌, ◌||◌, codes, map, Option, Some, None, is_some, is_none, unwrap_or, if◌then◌else◌}
use Rattle.decimal_json.specs.declared.paths.PathPart.{PathPart}
use Rattle.prop_values.specs.Data.{Data, null, text}
use Rattle.prop_values.specs.JsonData.{json_data}
use Rattle.prop_values.specs.declared.kinds.Want.{Want}
use Rattle.prop_values.specs.declared.kinds.Want.TheVariants as wants
use Rattle.property_tables.specs.Defaults.{written_default}
use Rattle.property_tables.specs.Rows.{RowData}
use Rattle.expr_syntax.specs.declared.expression.Operator.{Operator}
use Rattle.expr_syntax.specs.declared.expression.Operator.TheVariants as operators
use Rattle.expr_syntax.specs.Mentioned.{nothing, of_operator, count}
use Rattle.expr_syntax.specs.Term.{Term, literal, node, terms_of}
use Rattle.expr_types.specs.Allowed.{row_allows, first_unread, first_zoom_after, first_stray_zoom}
use Rattle.expr_types.specs.ArgumentPaths.{argument_path}
use Rattle.expr_types.specs.Visits.{Visit, standing_of, all_visits, visits, visitings}
use Rattle.expr_types.specs.declared.standing.Standing.{Standing}
use Rattle.expr_types.specs.declared.standing.Standing.TheVariants.{Reached}
use Rattle.legacy_functions.specs.Function.{Spelled, Input, Output, literal as literal_output, tokens, Way, even}
use Rattle.legacy_functions.specs.Function.{curved, stepped, PropertyRule, numeric, categorical, Body, plain, zoomed}
use Rattle.legacy_functions.specs.Function.{identity, has_zoomed_stops}
use Rattle.legacy_functions.specs.Meaning.{zoom_way}
use Rattle.legacy_functions.specs.ToExpression.{form_name}
use Rattle.legacy_functions.proofs.PieceViews.{Part, parts}
use Rattle.legacy_functions.proofs.SoundRules.{OfSome, IsOutputOf, AreStops, AreNumberStops, IsRuleOf, AreRulesOf, IsBodyOf}
use Rattle.legacy_laws.proofs.FilterTerms.{one_term, kind_term}
use Rattle.legacy_laws.proofs.FilterTyping.{none_unread}
use Rattle.legacy_laws.proofs.FunctionTerms.{property_term, part_term, token_term, data_or_null, output_term}
use Rattle.legacy_laws.proofs.FunctionTerms.{default_term, TermBranches, branch_inputs, branch_terms, way_curve}
use Rattle.legacy_laws.proofs.FunctionTerms.{ramp_term, step_term, way_term, stop_terms, case_term, input_data}
use Rattle.legacy_laws.proofs.FunctionTerms.{category_terms, rule_term, zoom_term, rule_terms, identity_term}
use Rattle.legacy_laws.proofs.FunctionTerms.{named_term, plain_term, body_term}

-- ---- no node reads what the row does not allow, at any place

abbrev pub KeepsInputs : RowData → Term → Type 0
KeepsInputs row e =
    (standing : Standing) (path : List PathPart) → first_unread (row_allows row) (visits e standing path) ≡ None

-- and no node reads the zoom
abbrev pub HasNoZoom : Term → Type 0
HasNoZoom e = (standing : Standing) (path : List PathPart) → first_zoom_after (visits e standing path) ≡ None

abbrev pub IsCalm : RowData → Term → Type 0
IsCalm row e = KeepsInputs row e × HasNoZoom e

abbrev pub AreCalm : RowData → List Term → Type 0
AreCalm row [] = Unit {0}
AreCalm row (x ∷ xs) = IsCalm row x × AreCalm row xs

none_later : (b : Bool) (x y : Option (List PathPart)) (path : List PathPart) → (x ≡ None → y ≡ None)
    → (if b then Some path else x) ≡ None → (if b then Some path else y) ≡ None
none_later true x y path step h = h
none_later false x y path step h = step h

none_zoom : (vs ws : List Visit) → first_zoom_after vs ≡ None → first_zoom_after ws ≡ None
    → first_zoom_after (vs ++ ws) ≡ None
none_zoom [] ws h k = k
none_zoom (v ∷ vs) ws h k =
    none_later v.reads.zoom (first_zoom_after vs) (first_zoom_after (vs ++ ws)) v.path (λ p. none_zoom vs ws p k) h

-- where there is no zoom, none is astray
stray_if : (b : Bool) (x y z : Option (List PathPart)) (path : List PathPart) → (x ≡ None → z ≡ None)
    → (if b then Some path else x) ≡ None → (if b then y else z) ≡ None
stray_if true x y z path step h = absurd (cc)
stray_if false x y z path step h = step h

pub none_stray : (vs : List Visit) → first_zoom_after vs ≡ None → first_stray_zoom vs ≡ None
none_stray [] h = refl
none_stray (v ∷ vs) h =
    stray_if v.reads.zoom (first_zoom_after vs) _ (first_stray_zoom vs) v.path (none_stray vs) h

module _ (row : RowData) where
  all_keep : (xs : List Term) → AreCalm row xs → (op : Operator) (m k : ℕ) (standing : Standing) (path : List PathPart)
      → first_unread (row_allows row) (all_visits op m k (visitings (terms_of xs)) standing path) ≡ None
  all_keep [] h op m k standing path = refl
  all_keep (x ∷ xs) h op m k standing path =
      none_unread (row_allows row) (visits x (standing_of standing op m k) (argument_path op m k path))
      (all_visits op m (k + 1) (visitings (terms_of xs)) standing path)
      (h.0.0 (standing_of standing op m k) (argument_path op m k path)) (all_keep xs h.1 op m (k + 1) standing path)

  all_without_zoom : (xs : List Term) → AreCalm row xs → (op : Operator) (m k : ℕ) (standing : Standing) (path : List PathPart)
      → first_zoom_after (all_visits op m k (visitings (terms_of xs)) standing path) ≡ None
  all_without_zoom [] h op m k standing path = refl
  all_without_zoom (x ∷ xs) h op m k standing path =
      none_zoom (visits x (standing_of standing op m k) (argument_path op m k path))
      (all_visits op m (k + 1) (visitings (terms_of xs)) standing path)
      (h.0.1 (standing_of standing op m k) (argument_path op m k path)) (all_without_zoom xs h.1 op m (k + 1) standing path)

  or_true : (b : Bool) → (b || true) ≡ true
  or_true true = refl
  or_true false = refl

  -- what reads nothing is allowed on each row
  abbrev three : Bool → Bool → Bool → Bool
  three a b c = a && (b && c)

  nothing_allowed : row_allows row nothing ≡ true
  nothing_allowed =
      let a = or_true row.reads.zoom in
      let b = or_true row.reads.feature in
      let c = or_true row.reads.state in
      λ i. three (a i) (b i) (c i)

  abbrev unless_allowed : Bool → Option (List PathPart) → List PathPart → Option (List PathPart)
  unless_allowed is_allowed later path = if is_allowed then later else Some path

  abbrev unless_zoom : Bool → Option (List PathPart) → List PathPart → Option (List PathPart)
  unless_zoom is_zoom later path = if is_zoom then Some path else later

  -- a node that reads nothing itself
  node_keeps : (op : Operator) (xs : List Term) → of_operator op (count (terms_of xs)) ≡ nothing → AreCalm row xs
      → KeepsInputs row (node op (terms_of xs))
  node_keeps op xs own h standing path =
      let own_allowed : row_allows row (of_operator op (count (terms_of xs))) ≡ true = ap (row_allows row) own ∙ nothing_allowed in
      let rest = all_keep xs h op (count (terms_of xs)) 0 standing path in
      λ i. unless_allowed (own_allowed i) (rest i) path

  node_calm : (op : Operator) (xs : List Term) → of_operator op (count (terms_of xs)) ≡ nothing → AreCalm row xs
      → IsCalm row (node op (terms_of xs))
  node_calm op xs own h =
      let without : HasNoZoom (node op (terms_of xs)) = λ standing path.
      let rest = all_without_zoom xs h op (count (terms_of xs)) 0 standing path in
      λ i. unless_zoom (own i).zoom (rest i) path in
      (node_keeps op xs own h, without)

  literal_calm : (d : Data) → IsCalm row (literal d)
  literal_calm d = (λ standing path. refl, λ standing path. refl)

  -- ---- properties

  get_calm : (name : List ℕ) → row.reads.feature ≡ true → IsCalm row (property_term name)
  get_calm name h =
      let a = or_true row.reads.zoom in
      let c = or_true row.reads.state in
      (λ standing path i. unless_allowed (three (a i) (h i || false) (c i)) None path, λ standing path. refl)

  named_calm : (property : Option (List ℕ)) → (is_some property ≡ true → row.reads.feature ≡ true)
      → IsCalm row (named_term property)
  named_calm (Some name) h = get_calm name (h refl)
  named_calm None h = literal_calm null

  kind_calm : (kind : List ℕ) (e : Term) → IsCalm row e → IsCalm row (kind_term kind e)
  kind_calm kind e h =
      node_calm operators.Equal (one_term operators.TypeOf e ∷ literal (text kind) ∷ []) refl
      (node_calm operators.TypeOf (e ∷ []) refl (h, tt), (literal_calm (text kind), tt))

  case_calm : (kind : List ℕ) (property e default : Term) → IsCalm row property → IsCalm row e → IsCalm row default
      → IsCalm row (case_term kind property e default)
  case_calm kind property e default h k l =
      node_calm operators.Case (kind_term kind property ∷ e ∷ default ∷ []) refl (kind_calm kind property h, (k, (l, tt)))

  -- ---- token texts

  parts_calm : (ps : List Part) → row.reads.feature ≡ true → AreCalm row (map part_term ps)
  parts_calm [] h = tt
  parts_calm ((false, s) ∷ ps) h = (literal_calm (text s), parts_calm ps h)
  parts_calm ((true, name) ∷ ps) h = (get_calm name h, parts_calm ps h)

  pub tokens_calm : (s : List ℕ) → row.reads.feature ≡ true → IsCalm row (token_term s)
  tokens_calm s h = node_calm operators.Concat (map part_term (parts s)) refl (parts_calm (parts s) h)

  -- ---- from stop to stop

  abbrev BranchesAreCalm : TermBranches → Type 0
  BranchesAreCalm [] = Unit {0}
  BranchesAreCalm (x ∷ xs) = IsCalm row x.1 × BranchesAreCalm xs

  outputs_calm : (xs : TermBranches) → BranchesAreCalm xs → AreCalm row (branch_terms xs)
  outputs_calm [] h = tt
  outputs_calm (x ∷ xs) h = (h.0, outputs_calm xs h.1)

  ramp_calm : (way : Way) (x : Term) (xs : TermBranches) → IsCalm row x → BranchesAreCalm xs → IsCalm row (ramp_term way x xs)
  ramp_calm way x xs h k =
      node_calm (operators.Interpolate (way_curve way, branch_inputs xs)) (x ∷ branch_terms xs) refl (h, outputs_calm xs k)

  step_calm : (x : Term) (xs : TermBranches) → IsCalm row x → BranchesAreCalm xs → IsCalm row (step_term x xs)
  step_calm x [] h k = literal_calm null
  step_calm x (b ∷ []) h k = k.0
  step_calm x (b ∷ c ∷ bs) h k =
      node_calm (operators.Step (branch_inputs (c ∷ bs))) (x ∷ b.1 ∷ branch_terms (c ∷ bs)) refl
      (h, (k.0, (k.1.0, outputs_calm bs k.1.1)))

  way_calm : (way : Way) (x : Term) (xs : TermBranches) → IsCalm row x → BranchesAreCalm xs → IsCalm row (way_term way x xs)
  way_calm even x xs h k = ramp_calm even x xs h k
  way_calm (curved base) x xs h k = ramp_calm (curved base) x xs h k
  way_calm stepped x xs h k = step_calm x xs h k

  -- ---- by the zoom, at the root

  -- the zoom is an input that the row allows, and is the input of the root
  pub record IsAtRoot (e : Term) : Type 0 where
    pub keeps : KeepsInputs row e
    pub stray : (path : List PathPart) → first_stray_zoom (visits e Reached path) ≡ None

  pub calm_at_root : (e : Term) → IsCalm row e → IsAtRoot e
  calm_at_root e h = record { keeps = h.0; stray = λ path. none_stray (visits e Reached path) (h.1 Reached path) }

  zoom_keeps : row.reads.zoom ≡ true → KeepsInputs row zoom_term
  zoom_keeps h standing path =
      let b = or_true row.reads.feature in
      let c = or_true row.reads.state in
      λ i. unless_allowed (three (h i || false) (b i) (c i)) None path

  node_of_zoom : (op : Operator) (xs : List Term) → of_operator op (count (terms_of (zoom_term ∷ xs))) ≡ nothing → row.reads.zoom ≡ true
      → AreCalm row xs → KeepsInputs row (node op (terms_of (zoom_term ∷ xs)))
  node_of_zoom op xs own zoom h standing path =
      let m = count (terms_of (zoom_term ∷ xs)) in
      let own_allowed : row_allows row (of_operator op m) ≡ true = ap (row_allows row) own ∙ nothing_allowed in
      let first = zoom_keeps zoom (standing_of standing op m 0) (argument_path op m 0 path) in
      let rest = none_unread (row_allows row) (visits zoom_term (standing_of standing op m 0) (argument_path op m 0 path))
      (all_visits op m 1 (visitings (terms_of xs)) standing path) first (all_keep xs h op m 1 standing path) in
      λ i. unless_allowed (own_allowed i) (rest i) path

  ramp_at_root : (way : Way) (xs : TermBranches) → row.reads.zoom ≡ true → BranchesAreCalm xs → IsAtRoot (ramp_term way zoom_term xs)
  ramp_at_root way xs zoom h =
      let op = operators.Interpolate (way_curve way, branch_inputs xs) in
      let ys = branch_terms xs in
      record {
        keeps = node_of_zoom op ys refl zoom (outputs_calm xs h);
        stray = λ path. all_without_zoom ys (outputs_calm xs h) op (count (terms_of (zoom_term ∷ ys))) 1 Reached path;
      }

  step_at_root : (xs : TermBranches) → row.reads.zoom ≡ true → BranchesAreCalm xs → IsAtRoot (step_term zoom_term xs)
  step_at_root [] zoom h = calm_at_root (literal null) (literal_calm null)
  step_at_root (b ∷ []) zoom h = calm_at_root b.1 h.0
  step_at_root (b ∷ c ∷ bs) zoom h =
      let op = operators.Step (branch_inputs (c ∷ bs)) in
      let ys = branch_terms (b ∷ c ∷ bs) in
      record {
        keeps = node_of_zoom op ys refl zoom (outputs_calm (b ∷ c ∷ bs) h);
        stray = λ path. all_without_zoom ys (outputs_calm (b ∷ c ∷ bs) h) op (count (terms_of (zoom_term ∷ ys))) 1 Reached path;
      }

  way_at_root : (way : Way) (xs : TermBranches) → row.reads.zoom ≡ true → BranchesAreCalm xs → IsAtRoot (way_term way zoom_term xs)
  way_at_root even xs zoom h = ramp_at_root even xs zoom h
  way_at_root (curved base) xs zoom h = ramp_at_root (curved base) xs zoom h
  way_at_root stepped xs zoom h = step_at_root xs zoom h

-- ---- of a row

module _ (row : RowData) (tokens_read : row.takes_tokens ≡ true → row.reads.feature ≡ true) where
  output_calm : (o : Output) → IsOutputOf row o → IsCalm row (output_term o)
  output_calm (literal_output t d) h = literal_calm row (data_or_null (json_data t))
  output_calm (tokens s) h = tokens_calm row s (tokens_read h.0)

  pub default_calm : (o : Option Output) → OfSome (IsOutputOf row) o → IsCalm row (default_term o row)
  default_calm (Some o) h = output_calm o h
  default_calm None h = literal_calm row (unwrap_or (written_default row.fallback) null)

  stops_calm : (ss : List (Spelled × Output)) → AreNumberStops row ss → BranchesAreCalm row (stop_terms ss)
  stops_calm [] h = tt
  stops_calm (s ∷ ss) h = (output_calm s.1 h.0.1, stops_calm ss h.1)

  module _ (property default : Term) (h : IsCalm row property) (k : IsCalm row default) where
    categories_calm : (ss : List (Input × Output)) → AreStops row ss → AreCalm row (category_terms property default ss)
    categories_calm [] is = (k, tt)
    categories_calm (s ∷ ss) is = (
      node_calm row operators.Equal (property ∷ literal (input_data s.0) ∷ []) refl (h, (literal_calm row (input_data s.0), tt)),
      (output_calm s.1 is.0.1, categories_calm ss is.1),
    )

    rule_calm : (rule : PropertyRule) → IsRuleOf row rule → IsCalm row (rule_term property default rule)
    rule_calm (numeric way ss) is =
        case_calm row (codes "number") property (way_term way property (stop_terms ss)) default h
        (way_calm row way property (stop_terms ss) h (stops_calm ss is.1.0)) k
    rule_calm (categorical ss) is =
        node_calm row operators.Case (category_terms property default ss) refl (categories_calm ss is.0)

    rules_calm : (rs : List (Spelled × PropertyRule)) → AreRulesOf row rs → BranchesAreCalm row (rule_terms property default rs)
    rules_calm [] is = tt
    rules_calm (r ∷ rs) is = (rule_calm r.1 is.0.1, rules_calm rs is.1)

    form_calm : (want : Want) → IsCalm row (case_term (form_name want) property property default)
    form_calm want = case_calm row (form_name want) property property default h h k

    identity_calm : (want : Want) → IsCalm row (identity_term want property default)
    identity_calm wants.Shown = node_calm row operators.Coalesce (property ∷ default ∷ []) refl (h, (k, tt))
    identity_calm wants.Any = form_calm wants.Any
    identity_calm wants.Boolean = form_calm wants.Boolean
    identity_calm wants.Number = form_calm wants.Number
    identity_calm wants.Text = form_calm wants.Text
    identity_calm wants.Color = form_calm wants.Color
    identity_calm wants.Object = form_calm wants.Object
    identity_calm wants.Image = form_calm wants.Image
    identity_calm (wants.List i n) = form_calm (wants.List i n)
    identity_calm (wants.Enum c) = form_calm (wants.Enum c)
    identity_calm (wants.EnumList c) = form_calm (wants.EnumList c)

  -- ---- by the form of the function

  abbrev AllowsZoom : Option (List ℕ) → Body → Type 0
  AllowsZoom property body = (is_none property || has_zoomed_stops body) ≡ true → row.reads.zoom ≡ true

  abbrev AllowsFeature : Option (List ℕ) → Type 0
  AllowsFeature property = is_some property ≡ true → row.reads.feature ≡ true

  plain_at_root : (property : Option (List ℕ)) (default : Term) → IsCalm row default → AllowsFeature property
      → (rule : PropertyRule) → AllowsZoom property (plain rule) → IsRuleOf row rule
      → IsAtRoot row (plain_term property default rule)
  plain_at_root (Some name) default k feature rule zoom is =
      let property = property_term name in
      calm_at_root row (rule_term property default rule) (rule_calm property default (get_calm row name (feature refl)) k rule is)
  plain_at_root None default k feature (numeric way ss) zoom is =
      way_at_root row way (stop_terms ss) (zoom refl) (stops_calm ss is.1.0)
  plain_at_root None default k feature (categorical ss) zoom is = calm_at_root row default k

  pub body_at_root : (property : Option (List ℕ)) (default : Term) → IsCalm row default → AllowsFeature property
      → (body : Body) → AllowsZoom property body → IsBodyOf row body
      → IsAtRoot row (body_term row default property body)
  body_at_root property default k feature (plain rule) zoom is = plain_at_root property default k feature rule zoom is
  body_at_root property default k feature (zoomed rs) zoom is =
      let named = named_term property in
      way_at_root row (zoom_way row) (rule_terms named default rs) (by_zooms property rs zoom)
      (rules_calm named default (named_calm row property feature) k rs is.0)
    where
      by_zooms : (property : Option (List ℕ)) (rs : List (Spelled × PropertyRule)) → AllowsZoom property (zoomed rs)
          → row.reads.zoom ≡ true
      by_zooms (Some name) rs h = h refl
      by_zooms None rs h = h refl
  body_at_root property default k feature identity zoom is =
      let named = named_term property in
      calm_at_root row (identity_term row.want named default) (identity_calm named default (named_calm row property feature) k row.want)
