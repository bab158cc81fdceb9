-- Simplified values and filters mean what they meant.
use Rattle.std.proofs.Common.{◌≡◌, ◌∙◌, ◌≤◌, arith, ℕ, List, [], Bool, true, false, Option, Some, None, Result, Ok, Err, refl, ap, sym, subst}
use Rattle.std.proofs.lemmas.Bool.{and_parts, not-true}
use Rattle.std.specs.Prelude.{is_some, not, ◌&&◌, ◌||◌, if◌then◌else◌}
use Rattle.decimal_json.specs.Sound.{IsSound}
use Rattle.decimal_json.specs.Tree.{Tree, null, boolean, number, text, list, object, Trees, no_trees, tree}
use Rattle.prop_values.specs.Data as values
use Rattle.prop_values.specs.Data.{Data}
use Rattle.prop_values.specs.JsonData.{json_data, then_data}
use Rattle.prop_values.specs.declared.outcome.Outcome.{Outcome}
use Rattle.prop_values.specs.declared.kinds.Want.{Want}
use Rattle.prop_values.specs.declared.kinds.Want.TheVariants as wants
use Rattle.prop_values.specs.declared.fault.EvalFault.{EvalFault}
use Rattle.property_tables.specs.Defaults.{default_of, fitted}
use Rattle.property_tables.specs.Fitting.{fit}
use Rattle.property_tables.specs.Literals.{has_form, keeps_limits, literal_data, literal_of, literal_read}
use Rattle.property_tables.specs.Rows.{RowData}
use Rattle.expr_syntax.specs.Elements.{head_name}
use Rattle.expr_syntax.specs.Reading.{Read, Reading, inside, read, reading, reading_with}
use Rattle.expr_syntax.specs.Scopes.{globals}
use Rattle.expr_syntax.specs.Standing.{is_outside}
use Rattle.expr_syntax.specs.Term.{Term, literal, node}
use Rattle.expr_syntax.specs.TermSize.{nodes}
use Rattle.expr_syntax.specs.declared.expression.Operator.{Operator}
use Rattle.expr_syntax.specs.declared.expression.Operator.TheVariants.{Let, Var, Format}
use Rattle.expr_syntax.specs.declared.names.Name.{Name}
use Rattle.expr_types.specs.Typing.{KindScope}
use Rattle.eval_face.specs.Meaning.{mean}
use Rattle.eval_face.specs.World.{World}
use Rattle.eval_face.specs.Resolved.{passes, resolved}
use Rattle.legacy_filters.specs.Form as filters
use Rattle.legacy_filters.specs.Split.{is_array, is_legacy}
use Rattle.value_forms.specs.Forms.{form_of, is_expression, is_function, is_token_text, takes_literals_alone}
use Rattle.value_forms.specs.declared.forms.Form.{Form}
use Rattle.value_forms.specs.declared.forms.Form.TheVariants as forms
use Rattle.style_layout.specs.Forms as layouts
use Rattle.style_layout.specs.Forms.{condition_of, expression_value, formed_value, layer_filter, legacy_of, lets_pass, literal_value, outcome_by, outcome_of, property_of}
use Rattle.style_simplify.specs.Choices.{NodeChoices, chosen}
use Rattle.style_simplify.specs.Simple.{Simple, as_it_is, choices, choices_in, global_element, is_global_name, let_choices, listed, simples}
use Rattle.style_simplify.specs.SimpleElements.{SimpleElement}
use Rattle.style_simplify.specs.SimplifiedStyle.{accepted_or_node, expression_read, filter_read, is_accepted, simplified_filter, value_by_form}
use Rattle.simplify_laws.proofs.ParsedTrees.{Parsed, Values}
use Rattle.simplify_laws.proofs.ReadBack.{in_globals, parsed_reads}
use Rattle.simplify_laws.proofs.Inside.{parsed_inside}
use Rattle.simplify_laws.proofs.Parsing.{tree_parses}
use Rattle.simplify_laws.specs.MeaningLaw.{SimplifiedFiltersHaveNoMoreNodes, SimplifiedFiltersAreOutsideAlike, SimplifiedFiltersPassTheSame, SimplifiedValuesHaveNoMoreNodes, SimplifiedValuesMeanTheSame}
use Rattle.simplify_laws.proofs.Measures.{measured_nodes, node_weights}
use Rattle.simplify_laws.proofs.GoodElements.{Good, GoodChoices, chosen_good}
use Rattle.simplify_laws.proofs.TreesGood.{tree_good}

abbrev type_of : {A : Type 0} → A → Type 0
type_of {A} x = A

-- ---- readings

reads_of : (b : Bool) (r : Read) (e : Term) → (if b then Ok None else inside r) ≡ Ok (Some e) → (b ≡ false) × (r ≡ Ok e)
reads_of true r e h = absurd (cc)
reads_of false (Ok x) e h = let same : x ≡ e = cc in (refl, ap Ok same)
reads_of false (Err f) e h = absurd (cc)

module _ (g : Values) where
  -- what was read without values of the global state is read with them
  pub parsed_now : (t : Tree) (e : Term) → reading t ≡ Ok (Some e) → (b : Term) × Parsed g t [] true e b
  parsed_now t e h =
      let (outside, reads) = reads_of (is_outside t) (read t (globals []) []) e h in
      tree_parses g _ refl t [] true e (globals []) [] (in_globals []) reads outside

  pub read_now : (t : Tree) (a b : Term) → Parsed g t [] true a b → reading_with t g ≡ Ok (Some b)
  read_now t a b p =
      let outside : is_outside t ≡ false = parsed_inside _ refl g t [] true a b p in
      ap (λ x. if x then Ok None else inside (read t (globals g) [])) outside ∙ ap inside (parsed_reads g false t [] true a b p (globals g) [] (in_globals g))

  pub head_is_name : (ts : Trees) (name : Name) → head_name ts ≡ Some name → is_expression (list ts) ≡ true
  head_is_name no_trees name h = absurd (cc)
  head_is_name (tree (text s) ts) name h = ap is_some h
  head_is_name (tree null ts) name h = absurd (cc)
  head_is_name (tree (boolean b) ts) name h = absurd (cc)
  head_is_name (tree (number n) ts) name h = absurd (cc)
  head_is_name (tree (list us) ts) name h = absurd (cc)
  head_is_name (tree (object fs) ts) name h = absurd (cc)

  -- ---- the node of an array is an array

  let_array : (names : List (List ℕ)) (want : Want) (es : List SimpleElement) (o : Option SimpleElement) (t : Trees) → is_array (let_choices names want es o (list t)).node.tree ≡ true
  let_array names want es (Some body) t = refl
  let_array names want es None t = refl

  in_array : (op : Operator) (ss : List Simple) (ts : List Tree) (want : Want) (ks : KindScope) → is_array (choices_in op ss ts want ks).node.tree ≡ true
  in_array (Let names) ss ts want ks = let_array names want _ _ _
  in_array (Var s) ss ts want ks = refl
  in_array (Format ps) ss ts want ks = refl
  in_array op ss ts want ks = refl

  node_array : (e : Term) (ts : Trees) (want : Want) (ks : KindScope) → is_array (choices e (list ts) want ks).node.tree ≡ true
  node_array (literal d) ts want ks = refl
  node_array (node op us) ts want ks = by (is_global_name (head_name ts))
    where
      by : (b : Bool) → is_array (if b then as_it_is want (global_element want (list ts)) else choices_in op (simples us) (listed ts) want ks).node.tree ≡ true
      by true = refl
      by false = in_array op (simples us) (listed ts) want ks

  -- ---- values

  module _ (row : RowData) (w : World) where
    abbrev listed_as : Tree → Outcome
    listed_as t = outcome_of (property_of row g t) w

    abbrev fallback : Option Data
    fallback = default_of row

    pub array_form : (u : Trees) → takes_literals_alone row ≡ false → is_expression (list u) ≡ true → form_of row (list u) ≡ forms.Expression
    array_form u alone is = λ i. if alone i then forms.Literal else if is i then forms.Expression else if is_function (list u) then forms.Function else if is_token_text row (list u) then forms.TokenText else forms.Literal

    array_listed : (u : Tree) (a b : Term) → takes_literals_alone row ≡ false → Parsed g u [] true a b → is_array u ≡ true → listed_as u ≡ resolved fallback (mean b row.want [] w)
    array_listed (list ts) a b alone p h =
        ap (λ f. outcome_by (formed_value f row g (list ts)) row fallback w) (array_form ts alone (head_is_name ts p.0 p.1))
        ∙ ap (λ r. outcome_by (expression_value r) row fallback w) (read_now (list ts) a b p)
    array_listed null a b alone p h = absurd (cc)
    array_listed (boolean c) a b alone p h = absurd (cc)
    array_listed (number n) a b alone p h = absurd (cc)
    array_listed (text s) a b alone p h = absurd (cc)
    array_listed (object fs) a b alone p h = absurd (cc)

    fitted_is : (r : Result Data EvalFault) (d : Data) → fitted r ≡ Some d → r ≡ Ok d
    fitted_is (Ok x) d h = let same : x ≡ d = cc in ap Ok same
    fitted_is (Err f) d h = absurd (cc)

    data_fits : (d e : Data) → literal_data row d ≡ Some e → fit row.want d ≡ Ok e
    data_fits d e h = by (has_form row.want d && keeps_limits row.limits d) h
      where
        by : (b : Bool) → (if b then fitted (fit row.want d) else None) ≡ Some e → fit row.want d ≡ Ok e
        by true q = fitted_is (fit row.want d) e q
        by false q = absurd (cc)

    -- a literal of the row
    literal_listed : (u : Tree) (d : Data) (b : Term) → form_of row u ≡ forms.Literal → json_data u ≡ Ok d → b ≡ literal d → is_some (literal_of u row) ≡ true → listed_as u ≡ resolved fallback (mean b row.want [] w)
    literal_listed u d b form is b_is accepted = by (literal_of u row) refl accepted
      where
        by : (o : Option Data) → literal_of u row ≡ o → is_some o ≡ true → listed_as u ≡ resolved fallback (mean b row.want [] w)
        by None q h = absurd (cc)
        by (Some e) q h =
            let fits : fit row.want d ≡ Ok e = data_fits d e (sym (ap (literal_read row) is) ∙ q) in
            ap (λ f. outcome_by (formed_value f row g u) row fallback w) form
            ∙ (ap (λ o. outcome_by (literal_value o) row fallback w) q
            ∙ sym (ap (λ x. resolved fallback (mean x row.want [] w)) b_is ∙ ap (resolved fallback) fits))

    pub bare_form : (u : Tree) → takes_literals_alone row ≡ false → is_expression u ≡ false → is_function u ≡ false → is_token_text row u ≡ false → form_of row u ≡ forms.Literal
    bare_form u alone expression function tokens = λ i. if alone i then forms.Literal else if expression i then forms.Expression else if function i then forms.Function else if tokens i then forms.TokenText else forms.Literal

    bare_listed : (u : Tree) (a b : Term) → takes_literals_alone row ≡ false → Parsed g u [] true a b → is_array u ≡ false → (is_some (literal_of u row) && not (is_token_text row u)) ≡ true → listed_as u ≡ resolved fallback (mean b row.want [] w)
    bare_listed null a b alone p no_array h =
        let (one, two) = and_parts (is_some (literal_of null row)) (not (is_token_text row null)) h in
        literal_listed null values.null b (bare_form null alone refl refl (not-true (is_token_text row null) two)) refl p.1 one
    bare_listed (boolean c) a b alone p no_array h =
        let (one, two) = and_parts (is_some (literal_of (boolean c) row)) (not (is_token_text row (boolean c))) h in
        literal_listed (boolean c) (values.boolean c) b (bare_form (boolean c) alone refl refl (not-true (is_token_text row (boolean c)) two)) refl p.1 one
    bare_listed (number n) a b alone p no_array h =
        let (one, two) = and_parts (is_some (literal_of (number n) row)) (not (is_token_text row (number n))) h in
        literal_listed (number n) (values.number p.0) b (bare_form (number n) alone refl refl (not-true (is_token_text row (number n)) two)) (ap (λ r. then_data r (λ z. Ok (values.number z))) p.1) p.3 one
    bare_listed (text s) a b alone p no_array h =
        let (one, two) = and_parts (is_some (literal_of (text s) row)) (not (is_token_text row (text s))) h in
        literal_listed (text s) (values.text s) b (bare_form (text s) alone refl refl (not-true (is_token_text row (text s)) two)) refl p.1 one
    bare_listed (list ts) a b alone p no_array h = absurd (cc)
    bare_listed (object fs) a b alone p no_array h = absurd p

    accepted_listed : (u : Tree) (a b : Term) → takes_literals_alone row ≡ false → Parsed g u [] true a b → is_accepted row u ≡ true → listed_as u ≡ resolved fallback (mean b row.want [] w)
    accepted_listed u a b alone p h = by (is_array u) refl h
      where
        by : (c : Bool) → is_array u ≡ c → (c || (is_some (literal_of u row) && not (is_token_text row u))) ≡ true → listed_as u ≡ resolved fallback (mean b row.want [] w)
        by true q k = array_listed u a b alone p q
        by false q k = bare_listed u a b alone p q k

    choice_listed : (c : NodeChoices) (b : Term) → takes_literals_alone row ≡ false → GoodChoices g [] row.want [] true b c → is_array c.node.tree ≡ true → listed_as (accepted_or_node row c) ≡ resolved fallback (mean b row.want [] w)
    choice_listed c b alone good array = by (is_accepted row (chosen false c).tree) refl
      where
        by : (x : Bool) → is_accepted row (chosen false c).tree ≡ x → listed_as (if x then (chosen false c).tree else c.node.tree) ≡ resolved fallback (mean b row.want [] w)
        by true q =
            let one = chosen_good g [] row.want [] true b false c good in
            accepted_listed (chosen false c).tree one.first one.second alone one.parsed q ∙ ap (resolved fallback) (one.same [] w)
        by false q =
            let one = good.node in
            array_listed c.node.tree one.first one.second alone one.parsed array ∙ ap (resolved fallback) (one.same [] w)

    pub expression_parts : (t : Tree) → form_of row t ≡ forms.Expression → (takes_literals_alone row ≡ false) × (is_expression t ≡ true)
    expression_parts t h = by (takes_literals_alone row) (is_expression t) (is_function t) (is_token_text row t) h
      where
        by : (a b c d : Bool) → (if a then forms.Literal else if b then forms.Expression else if c then forms.Function else if d then forms.TokenText else forms.Literal) ≡ forms.Expression → (a ≡ false) × (b ≡ true)
        by true b c d q = absurd (cc)
        by false true c d q = (refl, refl)
        by false false true d q = absurd (cc)
        by false false false true q = absurd (cc)
        by false false false false q = absurd (cc)

    pub tree_array : (e : Term) (t : Tree) → is_expression t ≡ true → is_array (choices e t row.want []).node.tree ≡ true
    tree_array e (list ts) h = node_array e ts row.want []
    tree_array e null h = absurd (cc)
    tree_array e (boolean b) h = absurd (cc)
    tree_array e (number n) h = absurd (cc)
    tree_array e (text s) h = absurd (cc)
    tree_array e (object fs) h = absurd (cc)

    expression_listed : (l : ℕ) (t : Tree) → IsSound l t → form_of row t ≡ forms.Expression → (r : Reading) → reading t ≡ r → listed_as (expression_read row t r) ≡ listed_as t
    expression_listed l t sound form (Ok None) q = refl
    expression_listed l t sound form (Err f) q = refl
    expression_listed l t sound form (Ok (Some e)) q =
        let (alone, is) = expression_parts t form in
        let (b, parsed) = parsed_now t e q in
        choice_listed (choices e t row.want []) b alone (tree_good g l t sound [] true e b parsed row.want []).0 (tree_array e t is)
        ∙ sym (ap (λ f. outcome_by (formed_value f row g t) row fallback w) form ∙ ap (λ r. outcome_by (expression_value r) row fallback w) (read_now t e b parsed))

    value_listed : (l : ℕ) (t : Tree) → IsSound l t → (f : Form) → form_of row t ≡ f → listed_as (value_by_form f row t) ≡ listed_as t
    value_listed l t sound forms.Expression form = expression_listed l t sound form (reading t) refl
    value_listed l t sound forms.Function form = refl
    value_listed l t sound forms.TokenText form = refl
    value_listed l t sound forms.Literal form = refl

  -- ---- filters

  module _ (w : World) where
    abbrev passing : Tree → Bool
    passing t = lets_pass (layer_filter g (Some t)) w

    condition_passes : (t : Tree) (a b : Term) → is_legacy t ≡ false → Parsed g t [] true a b → passing t ≡ passes (mean b wants.Boolean [] w)
    condition_passes t a b legacy p =
        ap (λ x. lets_pass (if x then layer_filter_legacy t else condition_of (reading_with t g)) w) legacy
        ∙ ap (λ r. lets_pass (condition_of r) w) (read_now t a b p)
      where
        layer_filter_legacy : Tree → type_of (layer_filter g None)
        layer_filter_legacy t = legacy_of (filters.reading t)

    filter_passes : (l : ℕ) (t : Tree) → IsSound l t → is_legacy t ≡ false → (r : Reading) → reading t ≡ r → passing (filter_read t r) ≡ passing t
    filter_passes l t sound legacy (Ok None) q = refl
    filter_passes l t sound legacy (Err f) q = refl
    filter_passes l t sound legacy (Ok (Some e)) q = by (is_legacy u) refl
      where
        u : Tree
        u = (chosen false (choices e t wants.Boolean [])).tree

        by : (b : Bool) → is_legacy u ≡ b → passing (if b then t else u) ≡ passing t
        by true k = refl
        by false k =
            let (b, parsed) = parsed_now t e q in
            let one = chosen_good g [] wants.Boolean [] true b false (choices e t wants.Boolean []) (tree_good g l t sound [] true e b parsed wants.Boolean []).0 in
            condition_passes u one.first one.second k one.parsed ∙ (ap passes (one.same [] w) ∙ sym (condition_passes t e b legacy parsed))

    pub filter_same : (l : ℕ) (t : Tree) → IsSound l t → passing (simplified_filter t) ≡ passing t
    filter_same l t sound = by (is_legacy t) refl
      where
        by : (b : Bool) → is_legacy t ≡ b → passing (if b then t else filter_read t (reading t)) ≡ passing t
        by true q = refl
        by false q = filter_passes l t sound q (reading t) refl

  -- a filter that is read is not outside
  abbrev is_shown_outside : Tree → Bool
  is_shown_outside t = layouts.is_outside (layer_filter g (Some t))

  condition_inside : (t : Tree) (a b : Term) → is_legacy t ≡ false → Parsed g t [] true a b → is_shown_outside t ≡ false
  condition_inside t a b legacy p =
      ap (λ x. layouts.is_outside (if x then legacy_of (filters.reading t) else condition_of (reading_with t g))) legacy
      ∙ ap (λ r. layouts.is_outside (condition_of r)) (read_now t a b p)

  filter_inside : (l : ℕ) (t : Tree) → IsSound l t → is_legacy t ≡ false → (r : Reading) → reading t ≡ r → is_shown_outside (filter_read t r) ≡ is_shown_outside t
  filter_inside l t sound legacy (Ok None) q = refl
  filter_inside l t sound legacy (Err f) q = refl
  filter_inside l t sound legacy (Ok (Some e)) q = by (is_legacy u) refl
    where
      u : Tree
      u = (chosen false (choices e t wants.Boolean [])).tree

      by : (b : Bool) → is_legacy u ≡ b → is_shown_outside (if b then t else u) ≡ is_shown_outside t
      by true k = refl
      by false k =
          let (b, parsed) = parsed_now t e q in
          let one = chosen_good g [] wants.Boolean [] true b false (choices e t wants.Boolean []) (tree_good g l t sound [] true e b parsed wants.Boolean []).0 in
          condition_inside u one.first one.second k one.parsed ∙ sym (condition_inside t e b legacy parsed)

  pub outside_same : (l : ℕ) (t : Tree) → IsSound l t → is_shown_outside (simplified_filter t) ≡ is_shown_outside t
  outside_same l t sound = by (is_legacy t) refl
    where
      by : (b : Bool) → is_legacy t ≡ b → is_shown_outside (if b then t else filter_read t (reading t)) ≡ is_shown_outside t
      by true q = refl
      by false q = filter_inside l t sound q (reading t) refl

pub filters_stay_outside : SimplifiedFiltersAreOutsideAlike
filters_stay_outside g l t sound = outside_same g l t sound

pub values_mean_the_same : SimplifiedValuesMeanTheSame
values_mean_the_same row g l t sound w = value_listed g row w l t sound (form_of row t) refl

pub filters_pass_the_same : SimplifiedFiltersPassTheSame
filters_pass_the_same g l t sound w = filter_same g w l t sound

-- ---- no more nodes

pub same_reading : (r : Reading) (x y : Term) → r ≡ Ok (Some x) → r ≡ Ok (Some y) → x ≡ y
same_reading r x y p q = let both : Ok (Some x) ≡ Ok (Some y) = sym p ∙ q in cc

good_fewer : (want : Want) (t : Tree) (e b : Term) (s : SimpleElement) (x : Term) → reading t ≡ Ok (Some e) → Parsed [] t [] true e b → Good [] [] want [] true b s → reading s.tree ≡ Ok (Some x) → nodes x ≤ nodes e
good_fewer want t e b s x h parsed good q =
    let old : b ≡ e = same_reading (reading t) b e (read_now [] t e b parsed) h in
    let new : good.second ≡ x = same_reading (reading s.tree) good.second x (read_now [] s.tree good.first good.second good.parsed) q in
    let less = good.lighter node_weights in
    subst (λ z. nodes z ≤ nodes e) new (subst (λ z. nodes good.second ≤ nodes z) old (omega (arith, less, measured_nodes good.second, measured_nodes b)))

accepted_fewer : (row : RowData) (l : ℕ) (t : Tree) (e : Term) → IsSound l t → reading t ≡ Ok (Some e) → (x : Term) → reading (accepted_or_node row (choices e t row.want [])) ≡ Ok (Some x) → nodes x ≤ nodes e
accepted_fewer row l t e sound h x q =
    let (b, parsed) = parsed_now [] t e h in
    let good = (tree_good [] l t sound [] true e b parsed row.want []).0 in
    by b parsed good (is_accepted row (chosen false (choices e t row.want [])).tree) q
  where
    by : (b : Term) → Parsed [] t [] true e b → GoodChoices [] [] row.want [] true b (choices e t row.want []) → (c : Bool) → reading (if c then (chosen false (choices e t row.want [])).tree else (choices e t row.want []).node.tree) ≡ Ok (Some x) → nodes x ≤ nodes e
    by b parsed good true q = good_fewer row.want t e b (chosen false (choices e t row.want [])) x h parsed (chosen_good [] [] row.want [] true b false (choices e t row.want []) good) q
    by b parsed good false q = good_fewer row.want t e b (choices e t row.want []).node x h parsed good.node q

stays_fewer : (t : Tree) (e x : Term) → reading t ≡ Ok (Some e) → reading t ≡ Ok (Some x) → nodes x ≤ nodes e
stays_fewer t e x h q = subst (λ z. nodes z ≤ nodes e) (same_reading (reading t) e x h q) (omega arith)

pub values_have_no_more : SimplifiedValuesHaveNoMoreNodes
values_have_no_more row l t e x sound h q = by (form_of row t) q
  where
    read_by : (r : Reading) → reading t ≡ r → reading (expression_read row t r) ≡ Ok (Some x) → nodes x ≤ nodes e
    read_by (Ok (Some y)) k q =
        let same : e ≡ y = same_reading (reading t) e y h k in
        accepted_fewer row l t e sound h x (ap (λ z. reading (accepted_or_node row (choices z t row.want []))) same ∙ q)
    read_by (Ok None) k q = stays_fewer t e x h q
    read_by (Err f) k q = stays_fewer t e x h q

    by : (f : Form) → reading (value_by_form f row t) ≡ Ok (Some x) → nodes x ≤ nodes e
    by forms.Expression q = read_by (reading t) refl q
    by forms.Function q = stays_fewer t e x h q
    by forms.TokenText q = stays_fewer t e x h q
    by forms.Literal q = stays_fewer t e x h q

pub filters_have_no_more : SimplifiedFiltersHaveNoMoreNodes
filters_have_no_more l t e x sound h q = by (is_legacy t) q
  where
    u_of : Term → Tree
    u_of y = (chosen false (choices y t wants.Boolean [])).tree

    unless_by : (y : Term) → e ≡ y → (b : Bool) → reading (if b then t else u_of y) ≡ Ok (Some x) → nodes x ≤ nodes e
    unless_by y same true q = stays_fewer t e x h q
    unless_by y same false q =
        let (b, parsed) = parsed_now [] t e h in
        let good = chosen_good [] [] wants.Boolean [] true b false (choices e t wants.Boolean []) (tree_good [] l t sound [] true e b parsed wants.Boolean []).0 in
        good_fewer wants.Boolean t e b (chosen false (choices e t wants.Boolean [])) x h parsed good (ap (λ z. reading (u_of z)) same ∙ q)

    read_by : (r : Reading) → reading t ≡ r → reading (filter_read t r) ≡ Ok (Some x) → nodes x ≤ nodes e
    read_by (Ok (Some y)) k q = unless_by y (same_reading (reading t) e y h k) (is_legacy (u_of y)) q
    read_by (Ok None) k q = stays_fewer t e x h q
    read_by (Err f) k q = stays_fewer t e x h q

    by : (b : Bool) → reading (if b then t else filter_read t (reading t)) ≡ Ok (Some x) → nodes x ≤ nodes e
    by true q = stays_fewer t e x h q
    by false q = read_by (reading t) refl q
