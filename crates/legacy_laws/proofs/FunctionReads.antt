-- Each function that was read, and is not outside, has an expression that reads as its term.
use Rattle.std.proofs.Common.{◌≡◌, ◌∙◌, ℕ, zero, suc, ◌+◌, ◌-◌, ◌<◌, ◌%◌, ℤ, pos, List, [], ◌∷◌, ◌++◌, length, refl}
use Rattle.std.proofs.Common.{sym, subst, arith, true, false}
use Rattle.std.proofs.lemmas.Bool.{leb-true, le-leb, eq-eqb}
use Rattle.std.specs.Prelude.{Bool, ◌&&◌, nat_eq, nat_le, codes, replicate, unsigned_abs, Option, Some, None}
use Rattle.std.specs.Prelude.{unwrap_or, Result, Ok, Err, if◌then◌else◌}
use Rattle.fixed_num.proofs.RoundTrip.{number_text_is_read}
use Rattle.fixed_num.specs.Decimal.{read_text, read_whole, read_fraction, read_exponent, value_of}
use Rattle.fixed_num.specs.Number.{bound}
use Rattle.fixed_num.specs.declared.decimal.NumFault.{NumFault}
use Rattle.decimal_json.specs.Tree as json
use Rattle.decimal_json.specs.Tree.{Tree, Trees, trees_of}
use Rattle.prop_values.specs.Data as values
use Rattle.prop_values.specs.Data.{Data, Items, Pairs, items_of, item}
use Rattle.prop_values.specs.JsonData.{json_data, trees_data, fields_data, then_data, then_items}
use Rattle.prop_values.specs.declared.kinds.Want.{Want}
use Rattle.prop_values.specs.declared.kinds.Want.TheVariants as wants
use Rattle.property_tables.specs.Defaults.{written_default, fitted}
use Rattle.property_tables.specs.Fitting.{fit}
use Rattle.property_tables.specs.Literals.{has_form, keeps_limits, literal_read}
use Rattle.property_tables.specs.Rows.{RowData, Default, absent, flag as flag_default, amount, word as word_default, zeros, fonts}
use Rattle.expr_syntax.specs.declared.expression.Operator.TheVariants as operators
use Rattle.expr_syntax.specs.declared.rows.Arity.TheVariants.{OddFrom}
use Rattle.expr_syntax.specs.Reading.{number_read, data_read}
use Rattle.expr_syntax.specs.Rows.{allows}
use Rattle.expr_syntax.specs.Term.{Term, literal}
use Rattle.legacy_functions.specs.Function.{Spelled, Input, flag, number, word, Output, literal as literal_output}
use Rattle.legacy_functions.specs.Function.{tokens, Way, even, curved, stepped, PropertyRule, numeric, categorical, Body}
use Rattle.legacy_functions.specs.Function.{plain, zoomed, identity, Function}
use Rattle.legacy_functions.specs.Meaning.{zoom_way}
use Rattle.legacy_functions.specs.Tokens.{call}
use Rattle.legacy_functions.specs.ToExpression.{as_literal, output_expression, written_tree, default_by}
use Rattle.legacy_functions.specs.ToExpression.{way_expression, stop_branches, kind_case, input_tree}
use Rattle.legacy_functions.specs.ToExpression.{category_elements, rule_expression, zoom_expression, rule_branches}
use Rattle.legacy_functions.specs.ToExpression.{form_name, identity_expression, named_property, plain_expression}
use Rattle.legacy_functions.specs.ToExpression.{body_expression, function_expression}
use Rattle.legacy_functions.proofs.ClimbLaws.{Climbs}
use Rattle.legacy_functions.proofs.SoundRules.{OfSome, HasSome, IsOutputOf, IsInput, IsWayOf, AreStops}
use Rattle.legacy_functions.proofs.SoundRules.{AreNumberStops, IsRuleOf, AreRulesOf, IsBodyOf}
use Rattle.legacy_functions.proofs.SoundFunctions.{IsFunctionOf}
use Rattle.legacy_laws.proofs.FilterReading.{IsReadAs, none_inside, read_equal, read_typeof, read_flag, read_null}
use Rattle.legacy_laws.proofs.FilterReading.{read_text_as, AreReadAs, readers}
use Rattle.legacy_laws.proofs.FilterTerms.{one_term, kind_term}
use Rattle.legacy_laws.proofs.FunctionReading.{read_case, read_coalesce, read_zoom, read_property}
use Rattle.legacy_laws.proofs.StopReading.{AreBranches, IsReadWay, read_way}
use Rattle.legacy_laws.proofs.FunctionTerms.{data_or_null, output_term, default_term, branch_inputs, way_term}
use Rattle.legacy_laws.proofs.FunctionTerms.{stop_terms, case_term, input_data, category_terms, rule_term, zoom_term}
use Rattle.legacy_laws.proofs.FunctionTerms.{rule_terms, identity_term, named_term, plain_term, body_term}
use Rattle.legacy_laws.proofs.FunctionTerms.{function_term, stops_go, rules_go}
use Rattle.legacy_laws.proofs.TableRows.{IsRegular, is_property_want, is_within_bound}
use Rattle.legacy_laws.proofs.TokenLaws.{read_tokens}

-- ---- literals: no object is one of a property

either_none : (b : Bool) (o : Option Data) → o ≡ None → (if b then o else None) ≡ None
either_none true o h = h
either_none false o h = refl

no_map : (want : Want) (ps : Pairs) (b : Bool) → is_property_want want ≡ true
    → (if has_form want (values.map ps) && b then fitted (fit want (values.map ps)) else None) ≡ None
no_map wants.Any ps b h = absurd (cc)
no_map wants.Text ps b h = absurd (cc)
no_map wants.Object ps b h = absurd (cc)
no_map wants.Shown ps b h = refl
no_map wants.Image ps b h = refl
no_map wants.Boolean ps b h = either_none b None refl
no_map wants.Number ps b h = either_none b None refl
no_map wants.Color ps b h = either_none b None refl
no_map (wants.List i n) ps b h = either_none b None refl
no_map (wants.Enum c) ps b h = either_none b None refl
no_map (wants.EnumList c) ps b h = either_none b None refl

no_object : (row : RowData) (r : Result Pairs NumFault) (d : Data) → is_property_want row.want ≡ true
    → literal_read row (then_data r (λ ps. Ok (values.map ps))) ≡ Some d → ⊥
no_object row (Ok ps) d h is =
    let none = no_map row.want ps (keeps_limits row.limits (values.map ps)) h in
    let same : None ≡ Some d = sym none ∙ is in
    absurd (cc)
no_object row (Err past) d h is = absurd (cc)

number_output : (row : RowData) (n : List ℕ) (r : Result ℤ NumFault) (d : Data) → read_text n ≡ r
    → literal_read row (then_data r (λ z. Ok (values.number z))) ≡ Some d
    → IsReadAs (json.number n) (literal (data_or_null (then_data r (λ z. Ok (values.number z)))))
number_output row n (Ok z) d is h = record { inside = refl; reads = λ scope path i. number_read (is i) path }
number_output row n (Err past) d is h = absurd (cc)

-- a list is in `literal`
abbrev list_literal : Trees → Tree
list_literal ts = call (codes "literal") (json.list ts ∷ [])

read_list : (ts : Trees) (d : Data) → json_data (json.list ts) ≡ Ok d → IsReadAs (list_literal ts) (literal d)
read_list ts d h = record { inside = none_inside; reads = λ scope path i. data_read (h i) path }

list_output : (row : RowData) (ts : Trees) (r : Result Data NumFault) (d : Data) → json_data (json.list ts) ≡ r
    → literal_read row r ≡ Some d → IsReadAs (list_literal ts) (literal (data_or_null r))
list_output row ts (Ok x) d is h = read_list ts x is
list_output row ts (Err past) d is h = absurd (cc)

read_output : (row : RowData) → is_property_want row.want ≡ true → (o : Output) → IsOutputOf row o
    → IsReadAs (output_expression o) (output_term o)
read_output row w (literal_output json.null d) h = read_null
read_output row w (literal_output (json.boolean b) d) h = read_flag b
read_output row w (literal_output (json.number n) d) h = number_output row n (read_text n) d refl h.0
read_output row w (literal_output (json.text s) d) h = read_text_as s
read_output row w (literal_output (json.list ts) d) h = list_output row ts (json_data (json.list ts)) d refl h.0
read_output row w (literal_output (json.object fs) d) h = absurd (no_object row (fields_data fs) d w h.0)
read_output row w (tokens s) h = read_tokens s

-- ---- the default of a row

zero_is_read : read_text (codes "0") ≡ Ok (pos 0)
unfolding read_text read_whole read_fraction read_exponent value_of
zero_is_read = refl

zeros_are_read : (n : ℕ)
    → trees_data (trees_of (replicate n (json.number (codes "0")))) ≡ Ok (items_of (replicate n (values.number (pos 0))))
zeros_are_read zero = refl
zeros_are_read (suc n) =
    let one : json_data (json.number (codes "0")) ≡ Ok (values.number (pos 0)) =
    λ i. then_data (zero_is_read i) (λ z. Ok (values.number z)) in
    let rest = zeros_are_read n in
    λ i. then_items (one i) (λ d. then_items (rest i) (λ ds. Ok (item d ds)))

read_written : (fallback : Default) → is_within_bound fallback ≡ true
    → IsReadAs (as_literal (written_tree fallback)) (literal (unwrap_or (written_default fallback) values.null))
read_written absent h = read_null
read_written (flag_default b) h = read_flag b
read_written (amount z) h =
    let read_back = number_text_is_read z (leb-true (unsigned_abs z) bound h) in
    record { inside = refl; reads = λ scope path i. number_read (read_back i) path }
read_written (word_default s) h = read_text_as s
read_written (zeros n) h =
    let zs = zeros_are_read n in
    read_list (trees_of (replicate n (json.number (codes "0")))) (values.list (items_of (replicate n (values.number (pos 0)))))
    (λ i. then_data (zs i) (λ ds. Ok (values.list ds)))
read_written fonts h = record { inside = none_inside; reads = λ scope path. refl }

-- ---- tests of a value's kind

read_kind_case : (kind : List ℕ) (property e default : Tree) (x y z : Term) → IsReadAs property x → IsReadAs e y
    → IsReadAs default z → IsReadAs (kind_case kind property e default) (case_term kind x y z)
read_kind_case kind property e default x y z h k l =
    let kinds = call (codes "typeof") (property ∷ []) in
    let test = call (codes "==") (kinds ∷ json.text kind ∷ []) in
    let kind_is = read_typeof property x h in
    let test_is =
    read_equal kinds (json.text kind) (one_term operators.TypeOf x) (literal (values.text kind)) kind_is (read_text_as kind) in
    read_case (test ∷ e ∷ default ∷ []) (kind_term kind x ∷ y ∷ z ∷ []) (test_is, (k, (l, tt))) refl

read_input : (i : Input) → IsInput i → IsReadAs (input_tree i) (literal (input_data i))
read_input (flag b) h = read_flag b
read_input (number n) h = record { inside = refl; reads = λ scope path i. number_read (h i) path }
read_input (word s) h = read_text_as s

-- ---- of a row

module _ (row : RowData) (regular : IsRegular row) where
  read_default : (o : Option Output) → OfSome (IsOutputOf row) o → IsReadAs (default_by o row) (default_term o row)
  read_default (Some o) h = read_output row regular.want o h
  read_default None h = read_written row.fallback regular.amount

  read_stops : (ss : List (Spelled × Output)) → AreNumberStops row ss → AreBranches (stop_branches ss) (stop_terms ss)
  read_stops [] h = tt
  read_stops (s ∷ ss) h = ((h.0.0, read_output row regular.want s.1 h.0.1), read_stops ss h.1)

  stops_some : (ss : List (Spelled × Output)) → HasSome ss → 0 < length (stop_branches ss)
  stops_some [] h = absurd h
  stops_some (s ∷ ss) h = omega arith

  way_is_read : (way : Way) → IsWayOf row way → IsReadWay way
  way_is_read even h = tt
  way_is_read (curved base) h = h.1
  way_is_read stepped h = tt

  read_numeric : (way : Way) (ss : List (Spelled × Output)) (a : Tree) (x : Term) → IsReadAs a x
      → IsRuleOf row (numeric way ss) → IsReadAs (way_expression way a (stop_branches ss)) (way_term way x (stop_terms ss))
  read_numeric way ss a x h is =
      let climbs : Climbs None (branch_inputs (stop_terms ss)) = subst (λ zs. Climbs None zs) (sym (stops_go ss)) is.1.1.1 in
      read_way way a x (stop_branches ss) (stop_terms ss) (way_is_read way is.0) h (read_stops ss is.1.0)
      (stops_some ss is.1.1.0) climbs

  module _ (property default : Tree) (x y : Term) (h : IsReadAs property x) (k : IsReadAs default y) where
    read_categories : (ss : List (Input × Output)) → AreStops row ss
        → AreReadAs (category_elements property ss ++ default ∷ []) (category_terms x y ss)
    read_categories [] is = (k, tt)
    read_categories (s ∷ ss) is = (
      read_equal property (input_tree s.0) x (literal (input_data s.0)) h (read_input s.0 is.0.0),
      (read_output row regular.want s.1 is.0.1, read_categories ss is.1),
    )

    category_count : (ss : List (Input × Output))
        → length (readers (category_elements property ss ++ default ∷ [])) ≡ length ss + length ss + 1
    category_count [] = refl
    category_count (s ∷ ss) = let n = category_count ss in omega (arith, n)

    categories_some : (ss : List (Input × Output)) → HasSome ss → 0 < length ss
    categories_some [] some = absurd some
    categories_some (s ∷ ss) some = omega arith

    enough : (ss : List (Input × Output)) → HasSome ss
        → allows (OddFrom 3) (suc (length (readers (category_elements property ss ++ default ∷ []))) - 1) ≡ true
    enough ss some =
        let n = suc (length (readers (category_elements property ss ++ default ∷ []))) - 1 in
        let count = category_count ss in
        let first = categories_some ss some in
        let many : nat_le 3 n ≡ true = le-leb 3 n (omega (arith, count, first)) in
        let odd : nat_eq (n % 2) 1 ≡ true = eq-eqb (n % 2) 1 (omega (arith, count)) in
        λ i. many i && odd i

    read_rule : (rule : PropertyRule) → IsRuleOf row rule → IsReadAs (rule_expression property default rule) (rule_term x y rule)
    read_rule (numeric way ss) is =
        read_kind_case (codes "number") property (way_expression way property (stop_branches ss)) default x
        (way_term way x (stop_terms ss)) y h (read_numeric way ss property x h is) k
    read_rule (categorical ss) is =
        read_case (category_elements property ss ++ default ∷ []) (category_terms x y ss) (read_categories ss is.0)
        (enough ss is.1)

    read_rules : (rs : List (Spelled × PropertyRule)) → AreRulesOf row rs
        → AreBranches (rule_branches property default rs) (rule_terms x y rs)
    read_rules [] is = tt
    read_rules (r ∷ rs) is = ((is.0.0, read_rule r.1 is.0.1), read_rules rs is.1)

    rules_some : (rs : List (Spelled × PropertyRule)) → HasSome rs → 0 < length (rule_branches property default rs)
    rules_some [] some = absurd some
    rules_some (r ∷ rs) some = omega arith

    zoom_way_is_read : (b : Bool) → IsReadWay (if b then even else stepped)
    zoom_way_is_read true = tt
    zoom_way_is_read false = tt

    read_zoomed : (rs : List (Spelled × PropertyRule)) → IsBodyOf row (zoomed rs)
        → IsReadAs (way_expression (zoom_way row) zoom_expression (rule_branches property default rs))
        (way_term (zoom_way row) zoom_term (rule_terms x y rs))
    read_zoomed rs is =
        let climbs : Climbs None (branch_inputs (rule_terms x y rs)) = subst (λ zs. Climbs None zs) (sym (rules_go x y rs)) is.1.1 in
        read_way (zoom_way row) zoom_expression zoom_term (rule_branches property default rs) (rule_terms x y rs)
        (zoom_way_is_read row.reads.ramps) read_zoom (read_rules rs is.0) (rules_some rs is.1.0) climbs

    read_form : (want : Want)
        → IsReadAs (kind_case (form_name want) property property default) (case_term (form_name want) x x y)
    read_form want = read_kind_case (form_name want) property property default x x y h h k

    read_identity : (want : Want) → IsReadAs (identity_expression want property default) (identity_term want x y)
    read_identity wants.Shown = read_coalesce property default x y h k
    read_identity wants.Any = read_form wants.Any
    read_identity wants.Boolean = read_form wants.Boolean
    read_identity wants.Number = read_form wants.Number
    read_identity wants.Text = read_form wants.Text
    read_identity wants.Color = read_form wants.Color
    read_identity wants.Object = read_form wants.Object
    read_identity wants.Image = read_form wants.Image
    read_identity (wants.List i n) = read_form (wants.List i n)
    read_identity (wants.Enum c) = read_form (wants.Enum c)
    read_identity (wants.EnumList c) = read_form (wants.EnumList c)

  read_named : (property : Option (List ℕ)) → IsReadAs (named_property property) (named_term property)
  read_named (Some name) = read_property name
  read_named None = read_null

  read_plain : (property : Option (List ℕ)) (default : Tree) (y : Term) → IsReadAs default y → (rule : PropertyRule) → IsRuleOf row rule
      → IsReadAs (plain_expression property default rule) (plain_term property y rule)
  read_plain (Some name) default y k rule is =
      read_rule (named_property (Some name)) default (named_term (Some name)) y (read_property name) k rule is
  read_plain None default y k (numeric way ss) is = read_numeric way ss zoom_expression zoom_term read_zoom is
  read_plain None default y k (categorical ss) is = k

  read_body : (property : Option (List ℕ)) (default : Tree) (y : Term) → IsReadAs default y → (body : Body) → IsBodyOf row body
      → IsReadAs (body_expression row default property body) (body_term row y property body)
  read_body property default y k (plain rule) is = read_plain property default y k rule is
  read_body property default y k (zoomed rs) is =
      read_zoomed (named_property property) default (named_term property) y (read_named property) k rs is
  read_body property default y k identity is =
      read_identity (named_property property) default (named_term property) y (read_named property) k row.want

  pub read_function : (f : Function) → IsFunctionOf row f → IsReadAs (function_expression row f) (function_term row f)
  read_function f is =
      read_body f.property (default_by f.fallback row) (default_term f.fallback row) (read_default f.fallback is.fallback)
      f.body is.body
