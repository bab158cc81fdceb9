-- Simplified values and filters read no more of the world.
use Rattle.std.proofs.Common.{◌≡◌, ◌∙◌, ℕ, [], Bool, true, false, Option, Some, None, Ok, Err, refl, ap, sym, subst}
use Rattle.std.proofs.lemmas.Bool.{and_parts, not-true}
use Rattle.std.specs.Prelude.{is_some, not, ◌&&◌, ◌||◌, if◌then◌else◌}
use Rattle.decimal_json.specs.Sound.{IsSound}
use Rattle.decimal_json.specs.Tree.{Tree, null, boolean, number, text, list, object}
use Rattle.prop_values.specs.Data.{Data}
use Rattle.prop_values.specs.declared.kinds.Want.TheVariants as wants
use Rattle.property_tables.specs.Literals.{literal_of}
use Rattle.property_tables.specs.Rows.{RowData}
use Rattle.expr_syntax.specs.Mentioned.{mentions, nothing}
use Rattle.expr_syntax.specs.Reading.{Reading, reading, reading_with}
use Rattle.expr_syntax.specs.Term.{Term}
use Rattle.expr_syntax.specs.declared.world_parts.Mentions.{Mentions}
use Rattle.legacy_filters.specs.Form as filters
use Rattle.legacy_filters.specs.Split.{is_array, is_legacy}
use Rattle.value_forms.specs.Forms.{form_of, is_token_text, takes_literals_alone}
use Rattle.value_forms.specs.declared.forms.Form.{Form}
use Rattle.value_forms.specs.declared.forms.Form.TheVariants as forms
use Rattle.style_layout.specs.Forms.{condition_of, expression_value, formed_value, layer_filter, legacy_of, literal_value, property_value, value_mentions}
use Rattle.migrate_laws.specs.MigratedLaw.{filter_mentions}
use Rattle.style_simplify.specs.Choices.{NodeChoices, chosen}
use Rattle.style_simplify.specs.Folding.{unread_world}
use Rattle.style_simplify.specs.Simple.{choices}
use Rattle.style_simplify.specs.SimplifiedStyle.{accepted_or_node, expression_read, filter_read, is_accepted, simplified_filter, value_by_form}
use Rattle.simplify_laws.specs.MeaningLaw.{ReadsNoMore, SimplifiedFiltersReadNoMore, SimplifiedValuesReadNoMore}
use Rattle.simplify_laws.proofs.ParsedTrees.{Parsed, Values}
use Rattle.simplify_laws.proofs.Measures.{reads_no_more}
use Rattle.simplify_laws.proofs.GoodElements.{GoodChoices, chosen_good}
use Rattle.simplify_laws.proofs.TreesGood.{tree_good}
use Rattle.simplify_laws.proofs.MeaningLaws.{array_form, bare_form, expression_parts, head_is_name, parsed_now, read_now, tree_array}

reads_itself : (m : Mentions) → ReadsNoMore m m
reads_itself m = record { zoom = λ h. h; feature = λ h. h; state = λ h. h; image = λ h. h }

reads_nothing : (m : Mentions) → ReadsNoMore nothing m
reads_nothing m = record { zoom = λ h. absurd (cc); feature = λ h. absurd (cc); state = λ h. absurd (cc); image = λ h. absurd (cc) }

then_no_more : (a b c : Mentions) → ReadsNoMore a b → ReadsNoMore b c → ReadsNoMore a c
then_no_more a b c h k = record {
  zoom = λ x. k.zoom (h.zoom x);
  feature = λ x. k.feature (h.feature x);
  state = λ x. k.state (h.state x);
  image = λ x. k.image (h.image x);
}

module _ (g : Values) where
  -- ---- values

  module _ (row : RowData) where
    abbrev read_by : Tree → Mentions
    read_by t = value_mentions g (property_value row g t)

    array_reads : (u : Tree) (a b : Term) → takes_literals_alone row ≡ false → Parsed g u [] true a b → is_array u ≡ true → read_by u ≡ mentions b
    array_reads (list ts) a b alone p h =
        ap (λ f. value_mentions g (formed_value f row g (list ts))) (array_form g row unread_world ts alone (head_is_name g ts p.0 p.1))
        ∙ ap (λ r. value_mentions g (expression_value r)) (read_now g (list ts) a b p)
    array_reads null a b alone p h = absurd (cc)
    array_reads (boolean c) a b alone p h = absurd (cc)
    array_reads (number n) a b alone p h = absurd (cc)
    array_reads (text s) a b alone p h = absurd (cc)
    array_reads (object fs) a b alone p h = absurd (cc)

    literal_reads : (u : Tree) → form_of row u ≡ forms.Literal → read_by u ≡ nothing
    literal_reads u form = ap (λ f. value_mentions g (formed_value f row g u)) form ∙ by (literal_of u row)
      where
        by : (o : Option Data) → value_mentions g (literal_value o) ≡ nothing
        by None = refl
        by (Some d) = refl

    bare_reads : (u : Tree) (a b : Term) → takes_literals_alone row ≡ false → Parsed g u [] true a b → is_array u ≡ false → (is_some (literal_of u row) && not (is_token_text row u)) ≡ true → read_by u ≡ nothing
    bare_reads u a b alone p apart h = by u apart p (not-true (is_token_text row u) (and_parts (is_some (literal_of u row)) (not (is_token_text row u)) h).1)
      where
        by : (u : Tree) → is_array u ≡ false → Parsed g u [] true a b → is_token_text row u ≡ false → read_by u ≡ nothing
        by null apart p tokens = literal_reads null (bare_form g row unread_world null alone refl refl tokens)
        by (boolean c) apart p tokens = literal_reads (boolean c) (bare_form g row unread_world (boolean c) alone refl refl tokens)
        by (number n) apart p tokens = literal_reads (number n) (bare_form g row unread_world (number n) alone refl refl tokens)
        by (text s) apart p tokens = literal_reads (text s) (bare_form g row unread_world (text s) alone refl refl tokens)
        by (list ts) apart p tokens = absurd (cc)
        by (object fs) apart p tokens = absurd p

    accepted_reads : (u : Tree) (a b : Term) → takes_literals_alone row ≡ false → Parsed g u [] true a b → is_accepted row u ≡ true → ReadsNoMore (read_by u) (mentions b)
    accepted_reads u a b alone p h = by (is_array u) refl h
      where
        by : (c : Bool) → is_array u ≡ c → (c || (is_some (literal_of u row) && not (is_token_text row u))) ≡ true → ReadsNoMore (read_by u) (mentions b)
        by true q k = subst (λ m. ReadsNoMore m (mentions b)) (sym (array_reads u a b alone p q)) (reads_itself (mentions b))
        by false q k = subst (λ m. ReadsNoMore m (mentions b)) (sym (bare_reads u a b alone p q k)) (reads_nothing (mentions b))

    choice_reads : (c : NodeChoices) (b : Term) → takes_literals_alone row ≡ false → GoodChoices g [] row.want [] true b c → is_array c.node.tree ≡ true → ReadsNoMore (read_by (accepted_or_node row c)) (mentions b)
    choice_reads c b alone good array = by (is_accepted row (chosen false c).tree) refl
      where
        by : (x : Bool) → is_accepted row (chosen false c).tree ≡ x → ReadsNoMore (read_by (if x then (chosen false c).tree else c.node.tree)) (mentions b)
        by true q =
            let one = chosen_good g [] row.want [] true b false c good in
            then_no_more (read_by (chosen false c).tree) (mentions one.second) (mentions b) (accepted_reads (chosen false c).tree one.first one.second alone one.parsed q) (reads_no_more one.second b one.lighter)
        by false q =
            let one = good.node in
            subst (λ m. ReadsNoMore m (mentions b)) (sym (array_reads c.node.tree one.first one.second alone one.parsed array)) (reads_no_more one.second b one.lighter)

    expression_reads : (l : ℕ) (t : Tree) → IsSound l t → form_of row t ≡ forms.Expression → (r : Reading) → reading t ≡ r → ReadsNoMore (read_by (expression_read row t r)) (read_by t)
    expression_reads l t sound form (Ok None) q = reads_itself (read_by t)
    expression_reads l t sound form (Err f) q = reads_itself (read_by t)
    expression_reads l t sound form (Ok (Some e)) q =
        let (alone, is) = expression_parts g row unread_world t form in
        let (b, parsed) = parsed_now g t e q in
        let whole : mentions b ≡ read_by t = sym (ap (λ f. value_mentions g (formed_value f row g t)) form ∙ ap (λ r. value_mentions g (expression_value r)) (read_now g t e b parsed)) in
        subst (ReadsNoMore (read_by (accepted_or_node row (choices e t row.want [])))) whole
        (choice_reads (choices e t row.want []) b alone (tree_good g l t sound [] true e b parsed row.want []).0 (tree_array g row unread_world e t is))

    value_reads : (l : ℕ) (t : Tree) → IsSound l t → (f : Form) → form_of row t ≡ f → ReadsNoMore (read_by (value_by_form f row t)) (read_by t)
    value_reads l t sound forms.Expression form = expression_reads l t sound form (reading t) refl
    value_reads l t sound forms.Function form = reads_itself (read_by t)
    value_reads l t sound forms.TokenText form = reads_itself (read_by t)
    value_reads l t sound forms.Literal form = reads_itself (read_by t)

  -- ---- filters

  abbrev filter_read_by : Tree → Mentions
  filter_read_by t = filter_mentions g (layer_filter g (Some t))

  condition_reads : (t : Tree) (a b : Term) → is_legacy t ≡ false → Parsed g t [] true a b → filter_read_by t ≡ mentions b
  condition_reads t a b legacy p =
      ap (λ x. filter_mentions g (if x then legacy_of (filters.reading t) else condition_of (reading_with t g))) legacy
      ∙ ap (λ r. filter_mentions g (condition_of r)) (read_now g t a b p)

  filter_reads : (l : ℕ) (t : Tree) → IsSound l t → is_legacy t ≡ false → (r : Reading) → reading t ≡ r → ReadsNoMore (filter_read_by (filter_read t r)) (filter_read_by t)
  filter_reads l t sound legacy (Ok None) q = reads_itself (filter_read_by t)
  filter_reads l t sound legacy (Err f) q = reads_itself (filter_read_by t)
  filter_reads l t sound legacy (Ok (Some e)) q = by (is_legacy u) refl
    where
      u : Tree
      u = (chosen false (choices e t wants.Boolean [])).tree

      by : (b : Bool) → is_legacy u ≡ b → ReadsNoMore (filter_read_by (if b then t else u)) (filter_read_by t)
      by true k = reads_itself (filter_read_by t)
      by false k =
          let (b, parsed) = parsed_now g t e q in
          let one = chosen_good g [] wants.Boolean [] true b false (choices e t wants.Boolean []) (tree_good g l t sound [] true e b parsed wants.Boolean []).0 in
          subst (ReadsNoMore (filter_read_by u)) (sym (condition_reads t e b legacy parsed))
          (subst (λ m. ReadsNoMore m (mentions b)) (sym (condition_reads u one.first one.second k one.parsed)) (reads_no_more one.second b one.lighter))

  filter_no_more : (l : ℕ) (t : Tree) → IsSound l t → ReadsNoMore (filter_read_by (simplified_filter t)) (filter_read_by t)
  filter_no_more l t sound = by (is_legacy t) refl
    where
      by : (b : Bool) → is_legacy t ≡ b → ReadsNoMore (filter_read_by (if b then t else filter_read t (reading t))) (filter_read_by t)
      by true q = reads_itself (filter_read_by t)
      by false q = filter_reads l t sound q (reading t) refl

pub values_read_no_more : SimplifiedValuesReadNoMore
values_read_no_more row g l t sound = value_reads g row l t sound (form_of row t) refl

pub filters_read_no_more : SimplifiedFiltersReadNoMore
filters_read_no_more g l t sound = filter_no_more g l t sound
