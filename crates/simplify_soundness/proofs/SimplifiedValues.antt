-- A simplified value, and a simplified filter, breaks no rule where the value or the filter broke none.
use Rattle.std.proofs.Common.{◌≡◌, ◌∙◌, ℕ, [], Bool, true, false, Option, Some, None, Ok, Err, refl, ap, subst}
use Rattle.std.proofs.lemmas.Bool.{and_parts, not-true}
use Rattle.std.specs.Prelude.{is_some, not, ◌&&◌, ◌||◌, if◌then◌else◌}
use Rattle.decimal_json.specs.Sound.{IsSound}
use Rattle.decimal_json.specs.Tree.{Tree, null, boolean, number, text, list, object}
use Rattle.prop_values.specs.Data.{Data}
use Rattle.prop_values.specs.declared.kinds.Want.{Want}
use Rattle.prop_values.specs.declared.kinds.Want.TheVariants as wants
use Rattle.property_tables.specs.Literals.{literal_of}
use Rattle.property_tables.specs.Rows.{RowData}
use Rattle.expr_syntax.specs.Reading.{Reading, reading}
use Rattle.expr_syntax.specs.Term.{Term}
use Rattle.expr_types.specs.Checked.{checked}
use Rattle.expr_types.specs.Typing.{TypedNodes, Typed}
use Rattle.legacy_filters.specs.Form as filters
use Rattle.legacy_filters.specs.Split.{is_array, is_legacy}
use Rattle.value_forms.specs.Forms.{form_of, is_token_text, takes_literals_alone}
use Rattle.value_forms.specs.declared.forms.Form.{Form}
use Rattle.value_forms.specs.declared.forms.Form.TheVariants as forms
use Rattle.style_rules.specs.Values.{expression_mark, filter_mark, form_mark, legacy_mark, literal_mark, read_mark, typed_mark, value_mark}
use Rattle.style_simplify.specs.Choices.{NodeChoices, chosen}
use Rattle.style_simplify.specs.Folding.{unread_world}
use Rattle.style_simplify.specs.Simple.{choices}
use Rattle.style_simplify.specs.SimpleElements.{SimpleElement}
use Rattle.style_simplify.specs.SimplifiedStyle.{accepted_or_node, expression_read, filter_read, is_accepted, simplified_filter, simplified_value, value_by_form}
use Rattle.migrate_soundness.proofs.ReportedAlike.{IsMarkedAlike, IsSound as IsSoundMark, marked_same, sound_alike}
use Rattle.migrate_soundness.proofs.SoundParts.{call_is_sound, literal_is_sound, marked_from, read_is_sound, sound_from}
use Rattle.simplify_laws.proofs.GoodElements.{Good, GoodChoices, chosen_good, chosen_kept, same_kinds}
use Rattle.simplify_laws.proofs.MeaningLaws.{bare_form, expression_parts, head_is_name, parsed_now, read_now, same_reading, tree_array}
use Rattle.simplify_laws.proofs.ParsedTrees.{Parsed}
use Rattle.simplify_laws.proofs.TermKinds.{IsTyped}
use Rattle.simplify_laws.proofs.TreesGood.{tree_good}
use Rattle.simplify_soundness.proofs.KeptChecks.{checked_kept, checked_kind}

-- an element of the kind of an expression that is checked without fault
element_checked : (want : Want) (row : Option RowData) (t : Term) (e : SimpleElement) (good : Good [] [] want [] true t e) (found : TypedNodes) → checked t want row ≡ Ok found → e.kind ≡ Some found.node.kind →
    (x : TypedNodes) × (checked good.second want row ≡ Ok x)
element_checked want row t e good found h kind =
    checked_kept good.second t good.lighter good.calmer want row found
    ((good.known found.node.kind kind).typed [] (same_kinds e.asks []) found.node.kind kind) h

-- an expression is read as it was parsed
parsed_again : (t : Tree) (e : Term) → reading t ≡ Ok (Some e) → Parsed [] t [] true e e
parsed_again t e h =
    let (b, parsed) = parsed_now [] t e h in
    subst (Parsed [] t [] true e) (same_reading (reading t) b e (read_now [] t e b parsed) h) parsed

-- ---- values

module _ (row : RowData) where
  array_sound : (u : Tree) (a b : Term) (x : TypedNodes) → takes_literals_alone row ≡ false → Parsed [] u [] true a b → is_array u ≡ true → checked b row.want (Some row) ≡ Ok x → IsSoundMark (value_mark row u)
  array_sound (list ts) a b x alone p h typed = call_is_sound row (list ts) b x alone (head_is_name [] ts p.0 p.1) (read_now [] (list ts) a b p) typed
  array_sound null a b x alone p h typed = absurd (cc)
  array_sound (boolean c) a b x alone p h typed = absurd (cc)
  array_sound (number n) a b x alone p h typed = absurd (cc)
  array_sound (text s) a b x alone p h typed = absurd (cc)
  array_sound (object fs) a b x alone p h typed = absurd (cc)

  literal_sound : (u : Tree) → form_of row u ≡ forms.Literal → is_some (literal_of u row) ≡ true → IsSoundMark (value_mark row u)
  literal_sound u form h = sound_from (literal_mark row u) (value_mark row u) (marked_from row u forms.Literal form) (by (literal_of u row) refl h)
    where
      by : (o : Option Data) → literal_of u row ≡ o → is_some o ≡ true → IsSoundMark (literal_mark row u)
      by (Some d) q h = literal_is_sound row u d q
      by None q h = absurd (cc)

  bare_sound : (u : Tree) (a b : Term) → takes_literals_alone row ≡ false → Parsed [] u [] true a b → is_array u ≡ false → (is_some (literal_of u row) && not (is_token_text row u)) ≡ true → IsSoundMark (value_mark row u)
  bare_sound u a b alone p apart h =
      let (one, two) = and_parts (is_some (literal_of u row)) (not (is_token_text row u)) h in
      literal_sound u (by u apart p (not-true (is_token_text row u) two)) one
    where
      by : (u : Tree) → is_array u ≡ false → Parsed [] u [] true a b → is_token_text row u ≡ false → form_of row u ≡ forms.Literal
      by null apart p tokens = bare_form [] row unread_world null alone refl refl tokens
      by (boolean c) apart p tokens = bare_form [] row unread_world (boolean c) alone refl refl tokens
      by (number n) apart p tokens = bare_form [] row unread_world (number n) alone refl refl tokens
      by (text s) apart p tokens = bare_form [] row unread_world (text s) alone refl refl tokens
      by (list ts) apart p tokens = absurd (cc)
      by (object fs) apart p tokens = absurd p

  accepted_sound : (u : Tree) (a b : Term) (x : TypedNodes) → takes_literals_alone row ≡ false → Parsed [] u [] true a b → is_accepted row u ≡ true → checked b row.want (Some row) ≡ Ok x → IsSoundMark (value_mark row u)
  accepted_sound u a b x alone p h typed = by (is_array u) refl h
    where
      by : (c : Bool) → is_array u ≡ c → (c || (is_some (literal_of u row) && not (is_token_text row u))) ≡ true → IsSoundMark (value_mark row u)
      by true q k = array_sound u a b x alone p q typed
      by false q k = bare_sound u a b alone p q k

  choice_sound : (c : NodeChoices) (b : Term) (found : TypedNodes) → takes_literals_alone row ≡ false → GoodChoices [] [] row.want [] true b c → is_array c.node.tree ≡ true → checked b row.want (Some row) ≡ Ok found →
      IsSoundMark (value_mark row (accepted_or_node row c))
  choice_sound c b found alone good array h = by (is_accepted row (chosen false c).tree) refl
    where
      typed : IsTyped b row.want [] found.node.kind
      typed = checked_kind row.want (Some row) b found h

      by : (x : Bool) → is_accepted row (chosen false c).tree ≡ x → IsSoundMark (value_mark row (if x then (chosen false c).tree else c.node.tree))
      by true q =
          let one = chosen_good [] [] row.want [] true b false c good in
          let (x, is) = element_checked row.want (Some row) b (chosen false c) one found h (chosen_kept [] [] row.want [] true b false c good found.node.kind typed) in
          accepted_sound (chosen false c).tree one.first one.second x alone one.parsed q is
      by false q =
          let one = good.node in
          let (x, is) = element_checked row.want (Some row) b c.node one found h (good.kept found.node.kind typed) in
          array_sound c.node.tree one.first one.second x alone one.parsed array is

  expression_alike : (l : ℕ) (t : Tree) → IsSound l t → form_of row t ≡ forms.Expression → (r : Reading) → reading t ≡ r → IsMarkedAlike (read_mark row.want (Some row) r) (value_mark row (expression_read row t r))
  expression_alike l t sound form (Ok None) q =
      marked_same (read_mark row.want (Some row) (Ok None)) (value_mark row t) (marked_from row t forms.Expression form ∙ ap (read_mark row.want (Some row)) q)
  expression_alike l t sound form (Err fault) q = λ path none. absurd (cc)
  expression_alike l t sound form (Ok (Some e)) q = by (checked e row.want (Some row)) refl
    where
      new : Tree
      new = accepted_or_node row (choices e t row.want [])

      by : (r : Typed) → checked e row.want (Some row) ≡ r → IsMarkedAlike (typed_mark r) (value_mark row new)
      by (Err fault) h = λ path none. absurd (cc)
      by (Ok found) h =
          let (alone, is) = expression_parts [] row unread_world t form in
          sound_alike (typed_mark (Ok found)) (value_mark row new) (λ path. (refl, refl))
          (choice_sound (choices e t row.want []) e found alone (tree_good [] l t sound [] true e e (parsed_again t e q) row.want []).0 (tree_array [] row unread_world e t is) h)

  formed_alike : (l : ℕ) (t : Tree) → IsSound l t → (f : Form) → form_of row t ≡ f → IsMarkedAlike (form_mark f row t) (value_mark row (value_by_form f row t))
  formed_alike l t sound forms.Expression form = expression_alike l t sound form (reading t) refl
  formed_alike l t sound forms.Function form = marked_same (form_mark forms.Function row t) (value_mark row t) (marked_from row t forms.Function form)
  formed_alike l t sound forms.TokenText form = marked_same (form_mark forms.TokenText row t) (value_mark row t) (marked_from row t forms.TokenText form)
  formed_alike l t sound forms.Literal form = marked_same (form_mark forms.Literal row t) (value_mark row t) (marked_from row t forms.Literal form)

  -- a value of a row
  pub value_alike : (l : ℕ) (t : Tree) → IsSound l t → IsMarkedAlike (value_mark row t) (value_mark row (simplified_value row t))
  value_alike l t sound = formed_alike l t sound (form_of row t) refl

-- ---- filters

-- what is no legacy filter is an expression
condition_mark : (t : Tree) → is_legacy t ≡ false → filter_mark t ≡ expression_mark wants.Boolean None t
condition_mark t h = ap (λ b. if b then legacy_mark (filters.reading t) else expression_mark wants.Boolean None t) h

condition_alike : (l : ℕ) (t : Tree) → IsSound l t → is_legacy t ≡ false → (r : Reading) → reading t ≡ r → IsMarkedAlike (read_mark wants.Boolean None r) (filter_mark (filter_read t r))
condition_alike l t sound legacy (Ok None) q = marked_same (read_mark wants.Boolean None (Ok None)) (filter_mark t) (condition_mark t legacy ∙ ap (read_mark wants.Boolean None) q)
condition_alike l t sound legacy (Err fault) q = λ path none. absurd (cc)
condition_alike l t sound legacy (Ok (Some e)) q = by (checked e wants.Boolean None) refl
  where
    u : Tree
    u = (chosen false (choices e t wants.Boolean [])).tree

    unless : (found : TypedNodes) → checked e wants.Boolean None ≡ Ok found → (b : Bool) → is_legacy u ≡ b → IsSoundMark (filter_mark (if b then t else u))
    unless found h true k =
        sound_from (typed_mark (Ok found)) (filter_mark t) (condition_mark t legacy ∙ (ap (read_mark wants.Boolean None) q ∙ ap typed_mark h)) (λ path. (refl, refl))
    unless found h false k =
        let c = choices e t wants.Boolean [] in
        let good = (tree_good [] l t sound [] true e e (parsed_again t e q) wants.Boolean []).0 in
        let one = chosen_good [] [] wants.Boolean [] true e false c good in
        let (x, is) = element_checked wants.Boolean None e (chosen false c) one found h (chosen_kept [] [] wants.Boolean [] true e false c good found.node.kind (checked_kind wants.Boolean None e found h)) in
        sound_from (expression_mark wants.Boolean None u) (filter_mark u) (condition_mark u k) (read_is_sound wants.Boolean None u one.second x (read_now [] u one.first one.second one.parsed) is)

    by : (r : Typed) → checked e wants.Boolean None ≡ r → IsMarkedAlike (typed_mark r) (filter_mark (filter_read t (Ok (Some e))))
    by (Err fault) h = λ path none. absurd (cc)
    by (Ok found) h = sound_alike (typed_mark (Ok found)) (filter_mark (filter_read t (Ok (Some e)))) (λ path. (refl, refl)) (unless found h (is_legacy u) refl)

split_alike : (l : ℕ) (t : Tree) → IsSound l t → (b : Bool) → is_legacy t ≡ b → IsMarkedAlike (if b then legacy_mark (filters.reading t) else expression_mark wants.Boolean None t) (filter_mark (if b then t else filter_read t (reading t)))
split_alike l t sound true is =
    marked_same (legacy_mark (filters.reading t)) (filter_mark t) (ap (λ b. if b then legacy_mark (filters.reading t) else expression_mark wants.Boolean None t) is)
split_alike l t sound false is = condition_alike l t sound is (reading t) refl

-- each filter
pub filter_alike : (l : ℕ) (t : Tree) → IsSound l t → IsMarkedAlike (filter_mark t) (filter_mark (simplified_filter t))
filter_alike l t sound = split_alike l t sound (is_legacy t) refl
