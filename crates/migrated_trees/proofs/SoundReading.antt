-- A function that was read of a sound tree has sound parts: numbers and texts are in it as they were in the
-- tree.
use Rattle.std.proofs.Common.{◌≡◌, ℕ, suc, ℤ, pos, List, [], ◌∷◌, refl, sym, subst, arith, true, false, ◌⊎◌}
use Rattle.std.proofs.Common.{inl, inr}
use Rattle.std.specs.Prelude.{Bool, ◌&&◌, ◌||◌, codes, IsUtf8, Option, Some, None, is_some, is_none, option_map, option_and_then}
use Rattle.std.specs.Prelude.{Result, Ok, Err, if◌then◌else◌}
use Rattle.std.specs.Ordering.{int_eq}
use Rattle.std.specs.Str.{bytes_eq}
use Rattle.fixed_num.specs.Decimal.{read_text}
use Rattle.fixed_num.specs.declared.decimal.NumFault.{NumFault}
use Rattle.decimal_json.specs.Accessors.{text_in}
use Rattle.decimal_json.specs.Sound.{IsSound, AreSound, HasSoundMembers}
use Rattle.decimal_json.specs.Tree as json
use Rattle.decimal_json.specs.Tree.{Tree, Trees, no_trees, tree, Fields, no_fields, field, field_at}
use Rattle.prop_values.specs.Data.{Data}
use Rattle.property_tables.specs.Literals.{literal_of}
use Rattle.property_tables.specs.Rows.{RowData}
use Rattle.legacy_functions.specs.Function.{Spelled, Input, flag, number, word, Output, Way, even, curved}
use Rattle.legacy_functions.specs.Function.{stepped}
use Rattle.legacy_functions.specs.Function.{PropertyRule, numeric, categorical, Body, plain, zoomed, identity, Function}
use Rattle.legacy_functions.specs.Form.{member_form, kind_form, spelled_number, number_form}
use Rattle.legacy_functions.specs.Form.{literal_form, text_output, output_form, input_form}
use Rattle.legacy_functions.specs.Form.{PlacedInput, has_two_fields, zoomed_input, placed_input}
use Rattle.legacy_functions.specs.Form.{PlacedStop, stop_form, each_stop, stops_form, Stop}
use Rattle.legacy_functions.specs.Form.{plain_stop, plain_stops}
use Rattle.legacy_functions.specs.Form.{zoomed_stop, zoomed_stops, never_descend, all_differ, number_stops}
use Rattle.legacy_functions.specs.Form.{equals_before}
use Rattle.legacy_functions.specs.Form.{without_repeated, some_of, rule_form, zooms_never_descend}
use Rattle.legacy_functions.specs.Form.{with_group, by_zoom}
use Rattle.legacy_functions.specs.Form.{group_form, rules_form, zoomed_body, zoomed_form, plain_form}
use Rattle.legacy_functions.specs.Form.{begins_with_zoom, body_of}
use Rattle.legacy_functions.specs.Form.{FunctionMembers, has_known_members, members_form, base_way, way_by}
use Rattle.legacy_functions.specs.Form.{is_categories}
use Rattle.legacy_functions.specs.Form.{stops_body, kind_body, is_zoomed, is_outside_way, inside}
use Rattle.legacy_functions.specs.Form.{function_form, form}
use Rattle.legacy_functions.specs.GroupView.{Zoomed, StopGroup}
use Rattle.legacy_functions.specs.Tokens.{has_tokens}
use Rattle.legacy_functions.specs.ToExpression.{output_expression}
use Rattle.legacy_functions.proofs.SoundRules.{OfSome, of_then, of_map, of_where, of_any, of_first}
use Rattle.migrated_trees.proofs.SoundLiterals.{is_flat_want, IsSoundUpTo, literal_sound}
use Rattle.migrated_trees.proofs.SoundTexts.{tokens_sound}

-- ---- parts

abbrev pub IsSoundNumber : Spelled → Type 0
IsSoundNumber n = IsSound 0 (json.number n.spelled)

abbrev pub IsSoundInput : Input → Type 0
IsSoundInput (flag b) = Unit {0}
IsSoundInput (number n) = IsSoundNumber n
IsSoundInput (word s) = IsUtf8 s

abbrev pub IsSoundOutput : Output → Type 0
IsSoundOutput o = IsSoundUpTo 50 (output_expression o)

abbrev pub IsSoundWay : Way → Type 0
IsSoundWay even = Unit {0}
IsSoundWay (curved base) = IsSoundNumber base
IsSoundWay stepped = Unit {0}

abbrev pub AreSoundStops : List Stop → Type 0
AreSoundStops [] = Unit {0}
AreSoundStops (s ∷ ss) = (IsSoundInput s.0 × IsSoundOutput s.1) × AreSoundStops ss

abbrev pub AreSoundNumbers : List (Spelled × Output) → Type 0
AreSoundNumbers [] = Unit {0}
AreSoundNumbers (s ∷ ss) = (IsSoundNumber s.0 × IsSoundOutput s.1) × AreSoundNumbers ss

abbrev pub IsSoundRule : PropertyRule → Type 0
IsSoundRule (numeric way stops) = IsSoundWay way × AreSoundNumbers stops
IsSoundRule (categorical stops) = AreSoundStops stops

abbrev pub AreSoundRules : List (Spelled × PropertyRule) → Type 0
AreSoundRules [] = Unit {0}
AreSoundRules (r ∷ rs) = (IsSoundNumber r.0 × IsSoundRule r.1) × AreSoundRules rs

abbrev pub IsSoundBody : Body → Type 0
IsSoundBody (plain rule) = IsSoundRule rule
IsSoundBody (zoomed rules) = AreSoundRules rules
IsSoundBody identity = Unit {0}

pub record HasSoundParts (f : Function) : Type 0 where
  pub property : OfSome IsUtf8 f.property
  pub fallback : OfSome IsSoundOutput f.fallback
  pub body : IsSoundBody f.body

-- ---- what is at a name

found_if : (b : Bool) (k : ℕ) (t : Tree) (later : Option Tree) → IsSound k t → OfSome (IsSound k) later
    → OfSome (IsSound k) (if b then Some t else later)
found_if true k t later h rest = h
found_if false k t later h rest = rest

member_sound : (k : ℕ) (key : List ℕ) (fs : Fields) → HasSoundMembers k fs → OfSome (IsSound k) (field_at key fs)
member_sound k key no_fields h = tt
member_sound k key (field name t fs) h =
    found_if (bytes_eq name key) k t (field_at key fs) h.1 (member_sound k key fs h.2)

formed : {A : Type 0} (P : A → Type 0) (k : ℕ) (form : Tree → Option A) (o : Option Tree) → OfSome (IsSound k) o
    → ((t : Tree) → IsSound k t → OfSome P (form t)) → OfSome (OfSome P) (member_form form o)
formed P k form (Some t) h each = of_map P (OfSome P) Some (form t) (each t h) (λ a p. p)
formed P k form None h each = tt

-- ---- numbers, texts, outputs and inputs

spelled_sound : (n : List ℕ) (r : Result ℤ NumFault) → IsSound 0 (json.number n)
    → OfSome IsSoundNumber (spelled_number n r)
spelled_sound n (Ok z) h = h
spelled_sound n (Err past) h = tt

number_sound : (k : ℕ) (t : Tree) → IsSound k t → OfSome IsSoundNumber (number_form t)
number_sound k json.null h = tt
number_sound k (json.boolean b) h = tt
number_sound k (json.number n) h = spelled_sound n (read_text n) h
number_sound k (json.text s) h = tt
number_sound k (json.list ts) h = tt
number_sound k (json.object fs) h = tt

text_sound : (k : ℕ) (t : Tree) → IsSound k t → OfSome IsUtf8 (text_in t)
text_sound k json.null h = tt
text_sound k (json.boolean b) h = tt
text_sound k (json.number n) h = tt
text_sound k (json.text s) h = h
text_sound k (json.list ts) h = tt
text_sound k (json.object fs) h = tt

input_sound : (any : Bool) (k : ℕ) (t : Tree) → IsSound k t → OfSome IsSoundInput (input_form any t)
input_sound any k json.null h = tt
input_sound any k (json.boolean b) h = of_where IsSoundInput any (Some (flag b)) (λ p. tt)
input_sound any k (json.number n) h =
    of_map IsSoundNumber IsSoundInput number (spelled_number n (read_text n))
    (spelled_sound n (read_text n) h) (λ m p. p)
input_sound any k (json.text s) h = of_where IsSoundInput any (Some (word s)) (λ p. h)
input_sound any k (json.list ts) h = tt
input_sound any k (json.object fs) h = tt

abbrev IsSoundPlaced : PlacedInput → Type 0
IsSoundPlaced p = OfSome IsSoundNumber p.0 × IsSoundInput p.1

without_zoom : (any : Bool) (k : ℕ) (t : Tree) → IsSound k t
    → OfSome IsSoundPlaced (option_map (λ i. (None, i)) (input_form any t))
without_zoom any k t h =
    of_map IsSoundInput IsSoundPlaced (λ i. (None, i)) (input_form any t) (input_sound any k t h) (λ i p. (tt, p))

with_zoom : (any : Bool) (k : ℕ) (zoom value : Option Tree) → OfSome (IsSound k) zoom → OfSome (IsSound k) value
    → OfSome IsSoundPlaced (zoomed_input any zoom value)
with_zoom any k (Some zoom) (Some value) h v =
    of_then IsSoundNumber IsSoundPlaced (number_form zoom)
    (λ z. option_map (λ i. (Some z, i)) (input_form any value))
    (number_sound k zoom h)
    (λ z p. of_map IsSoundInput IsSoundPlaced (λ i. (Some z, i)) (input_form any value)
    (input_sound any k value v) (λ i q. (p, q)))
with_zoom any k (Some zoom) None h v = tt
with_zoom any k None value h v = tt

placed_sound : (any : Bool) (k : ℕ) (t : Tree) → IsSound k t → OfSome IsSoundPlaced (placed_input any t)
placed_sound any k json.null h = without_zoom any k json.null h
placed_sound any k (json.boolean b) h = without_zoom any k (json.boolean b) h
placed_sound any k (json.number n) h = without_zoom any k (json.number n) h
placed_sound any k (json.text s) h = without_zoom any k (json.text s) h
placed_sound any k (json.list ts) h = without_zoom any k (json.list ts) h
placed_sound any k (json.object fs) h =
    let zoom = field_at (codes "zoom") fs in
    let value = field_at (codes "value") fs in
    of_where IsSoundPlaced (has_two_fields fs) (zoomed_input any zoom value) (λ p.
    with_zoom any (suc k) zoom value (member_sound (suc k) (codes "zoom") fs h.2)
    (member_sound (suc k) (codes "value") fs h.2))

module _ (row : RowData) (flat : is_flat_want row.want ≡ true) where
  as_literal_sound : (k : ℕ) (t : Tree) (o : Option Data) → literal_of t row ≡ o → IsSound k t
      → OfSome IsSoundOutput (literal_form t o)
  as_literal_sound k t (Some d) is h = literal_sound row t d k flat is h
  as_literal_sound k t None is h = tt

  text_output_sound : (b : Bool) (k : ℕ) (s : List ℕ) (o : Option Data) → literal_of (json.text s) row ≡ o
      → IsUtf8 s → OfSome IsSoundOutput (text_output b s o)
  text_output_sound true k s (Some d) is h = λ m low. tokens_sound s m low h
  text_output_sound true k s None is h = tt
  text_output_sound false k s o is h = as_literal_sound k (json.text s) o is h

  output_sound : (k : ℕ) (t : Tree) → IsSound k t → OfSome IsSoundOutput (output_form row t)
  output_sound k json.null h = as_literal_sound k json.null (literal_of json.null row) refl h
  output_sound k (json.boolean b) h =
      as_literal_sound k (json.boolean b) (literal_of (json.boolean b) row) refl h
  output_sound k (json.number n) h =
      as_literal_sound k (json.number n) (literal_of (json.number n) row) refl h
  output_sound k (json.text s) h =
      text_output_sound (row.takes_tokens && has_tokens s) k s (literal_of (json.text s) row) refl h
  output_sound k (json.list ts) h =
      as_literal_sound k (json.list ts) (literal_of (json.list ts) row) refl h
  output_sound k (json.object fs) h =
      as_literal_sound k (json.object fs) (literal_of (json.object fs) row) refl h

  -- ---- stops

  abbrev IsSoundStop : PlacedStop → Type 0
  IsSoundStop s = IsSoundPlaced s.0 × IsSoundOutput s.1

  abbrev AreSoundPlaced : List PlacedStop → Type 0
  AreSoundPlaced [] = Unit {0}
  AreSoundPlaced (s ∷ ss) = IsSoundStop s × AreSoundPlaced ss

  pair_sound : (any : Bool) (k : ℕ) (i o : Tree) → IsSound k i → IsSound k o
      → OfSome IsSoundStop (option_and_then (λ p. option_map (λ out. (p, out)) (output_form row o)) (placed_input any i))
  pair_sound any k i o h j =
      of_then IsSoundPlaced IsSoundStop (placed_input any i)
      (λ p. option_map (λ out. (p, out)) (output_form row o))
      (placed_sound any k i h)
      (λ p q. of_map IsSoundOutput IsSoundStop (λ out. (p, out)) (output_form row o) (output_sound k o j)
      (λ out r. (q, r)))

  stop_sound : (any : Bool) (k : ℕ) (t : Tree) → IsSound k t → OfSome IsSoundStop (stop_form row any t)
  stop_sound any k json.null h = tt
  stop_sound any k (json.boolean b) h = tt
  stop_sound any k (json.number n) h = tt
  stop_sound any k (json.text s) h = tt
  stop_sound any k (json.list no_trees) h = tt
  stop_sound any k (json.list (tree i no_trees)) h = tt
  stop_sound any k (json.list (tree i (tree o no_trees))) h = pair_sound any (suc k) i o h.1.0 h.1.1.0
  stop_sound any k (json.list (tree i (tree o (tree t ts)))) h = tt
  stop_sound any k (json.object fs) h = tt

  each_sound : (any : Bool) (k : ℕ) (ts : Trees) → AreSound k ts → OfSome AreSoundPlaced (each_stop row any ts)
  each_sound any k no_trees h = tt
  each_sound any k (tree t ts) h =
      of_first IsSoundStop AreSoundPlaced (stop_form row any t) (each_stop row any ts) (stop_sound any k t h.0)
      (each_sound any k ts h.1) (λ s ss p rest. (p, rest))

  stops_sound : (any : Bool) (k : ℕ) (t : Tree) → IsSound k t → OfSome AreSoundPlaced (stops_form row any t)
  stops_sound any k json.null h = tt
  stops_sound any k (json.boolean b) h = tt
  stops_sound any k (json.number n) h = tt
  stops_sound any k (json.text s) h = tt
  stops_sound any k (json.list no_trees) h = tt
  stops_sound any k (json.list (tree t ts)) h = each_sound any (suc k) (tree t ts) h.1
  stops_sound any k (json.object fs) h = tt

  -- ---- stops without zooms, and with

  abbrev IsSoundPlain : Stop → Type 0
  IsSoundPlain s = IsSoundInput s.0 × IsSoundOutput s.1

  plain_sound : (ss : List PlacedStop) → AreSoundPlaced ss → OfSome AreSoundStops (plain_stops ss)
  plain_sound [] h = tt
  plain_sound (s ∷ ss) h =
      of_first IsSoundPlain AreSoundStops (plain_stop s) (plain_stops ss)
      (of_where IsSoundPlain (is_none s.0.0) (Some (s.0.1, s.1)) (λ none. (h.0.0.1, h.0.1)))
      (plain_sound ss h.1) (λ s ss p rest. (p, rest))

  abbrev IsSoundZoomed : Zoomed → Type 0
  IsSoundZoomed s = IsSoundNumber s.0 × IsSoundPlain s.1

  abbrev AreSoundZoomed : List Zoomed → Type 0
  AreSoundZoomed [] = Unit {0}
  AreSoundZoomed (s ∷ ss) = IsSoundZoomed s × AreSoundZoomed ss

  zoomed_sound : (ss : List PlacedStop) → AreSoundPlaced ss → OfSome AreSoundZoomed (zoomed_stops ss)
  zoomed_sound [] h = tt
  zoomed_sound (s ∷ ss) h =
      of_first IsSoundZoomed AreSoundZoomed (zoomed_stop s) (zoomed_stops ss)
      (of_map IsSoundNumber IsSoundZoomed (λ zoom. (zoom, (s.0.1, s.1))) s.0.0 h.0.0.0 (λ zoom z. (z, (h.0.0.1, h.0.1))))
      (zoomed_sound ss h.1) (λ s ss p rest. (p, rest))

  -- ---- groups of one zoom each

  abbrev AreSoundGroups : List StopGroup → Type 0
  AreSoundGroups [] = Unit {0}
  AreSoundGroups (g ∷ gs) = (IsSoundNumber g.0 × AreSoundStops g.1) × AreSoundGroups gs

  grouped_if : (b : Bool) (s : Zoomed) (g : StopGroup) (gs : List StopGroup)
      → IsSoundZoomed s → AreSoundGroups (g ∷ gs)
      → AreSoundGroups (if b then (s.0, s.1 ∷ g.1) ∷ gs else (s.0, s.1 ∷ []) ∷ g ∷ gs)
  grouped_if true s g gs h rest = ((h.0, (h.1, rest.0.1)), rest.1)
  grouped_if false s g gs h rest = ((h.0, (h.1, tt)), rest)

  with_group_sound : (s : Zoomed) (gs : List StopGroup) → IsSoundZoomed s → AreSoundGroups gs
      → AreSoundGroups (with_group s gs)
  with_group_sound s [] h rest = ((h.0, (h.1, tt)), tt)
  with_group_sound s (g ∷ gs) h rest = grouped_if (int_eq s.0.value g.0.value) s g gs h rest

  groups_sound : (ss : List Zoomed) → AreSoundZoomed ss → AreSoundGroups (by_zoom ss)
  groups_sound [] h = tt
  groups_sound (s ∷ ss) h = with_group_sound s (by_zoom ss) h.0 (groups_sound ss h.1)

  -- ---- rules

  numbers_sound : (ss : List Stop) → AreSoundStops ss → AreSoundNumbers (number_stops ss)
  numbers_sound [] h = tt
  numbers_sound ((flag b, o) ∷ ss) h = numbers_sound ss h.1
  numbers_sound ((number n, o) ∷ ss) h = (h.0, numbers_sound ss h.1)
  numbers_sound ((word s, o) ∷ ss) h = numbers_sound ss h.1

  kept_if : (b : Bool) (s : Spelled × Output) (xs ys : List (Spelled × Output)) → AreSoundNumbers xs
      → AreSoundNumbers (s ∷ ys) → AreSoundNumbers (if b then xs else s ∷ ys)
  kept_if true s xs ys h rest = h
  kept_if false s xs ys h rest = rest

  kept_sound : (before : Option ℤ) (ss : List (Spelled × Output)) → AreSoundNumbers ss
      → AreSoundNumbers (without_repeated before ss)
  kept_sound before [] h = tt
  kept_sound before (s ∷ ss) h =
      kept_if (equals_before before s.0.value) s (without_repeated before ss)
      (without_repeated (Some s.0.value) ss)
      (kept_sound before ss h.1) (h.0, kept_sound (Some s.0.value) ss h.1)

  numeric_sound : (way : Way) (ss : List (Spelled × Output)) → IsSoundWay way → AreSoundNumbers ss
      → OfSome IsSoundRule (option_map (numeric way) (some_of ss))
  numeric_sound way [] w h = tt
  numeric_sound way (s ∷ ss) w h = (w, h)

  rule_sound : (way : Option Way) (ss : List Stop) → OfSome IsSoundWay way → AreSoundStops ss
      → OfSome IsSoundRule (rule_form way ss)
  rule_sound (Some way) ss w h =
      let kept = without_repeated None (number_stops ss) in
      of_where IsSoundRule (never_descend None ss) (option_map (numeric way) (some_of kept))
      (λ p. numeric_sound way kept w (kept_sound None (number_stops ss) (numbers_sound ss h)))
  rule_sound None ss w h =
      of_where IsSoundRule (never_descend None ss && all_differ (λ i. false) ss) (Some (categorical ss)) (λ p. h)

  abbrev IsSoundZoomRule : Spelled × PropertyRule → Type 0
  IsSoundZoomRule r = IsSoundNumber r.0 × IsSoundRule r.1

  rules_sound : (way : Option Way) (gs : List StopGroup) → OfSome IsSoundWay way → AreSoundGroups gs
      → OfSome AreSoundRules (rules_form way gs)
  rules_sound way [] w h = tt
  rules_sound way (g ∷ gs) w h =
      of_first IsSoundZoomRule AreSoundRules (group_form way g) (rules_form way gs)
      (of_map IsSoundRule IsSoundZoomRule (λ rule. (g.0, rule)) (rule_form way g.1) (rule_sound way g.1 w h.0.1)
      (λ rule p. (h.0.0, p))) (rules_sound way gs w h.1) (λ r rs p rest. (p, rest))

  -- ---- bodies

  zoomed_body_sound : (found : Option (List (Spelled × PropertyRule))) → OfSome AreSoundRules found
      → OfSome IsSoundBody (zoomed_body found)
  zoomed_body_sound (Some []) h = tt
  zoomed_body_sound (Some (r ∷ rs)) h = h
  zoomed_body_sound None h = tt

  zoomed_form_sound : (way : Option Way) (ss : List Zoomed) → OfSome IsSoundWay way → AreSoundZoomed ss
      → OfSome IsSoundBody (zoomed_form way ss)
  zoomed_form_sound way ss w h =
      let found = rules_form way (by_zoom ss) in
      of_where IsSoundBody (zooms_never_descend None ss) (zoomed_body found)
      (λ p. zoomed_body_sound found (rules_sound way (by_zoom ss) w (groups_sound ss h)))

  plain_form_sound : (way : Option Way) (ss : List PlacedStop) → OfSome IsSoundWay way → AreSoundPlaced ss
      → OfSome IsSoundBody (plain_form way ss)
  plain_form_sound way ss w h =
      let found = option_and_then (rule_form way) (plain_stops ss) in
      let rule : OfSome IsSoundRule found =
      of_then AreSoundStops IsSoundRule (plain_stops ss) (rule_form way) (plain_sound ss h)
      (λ xs p. rule_sound way xs w p) in
      of_map IsSoundRule IsSoundBody plain found rule (λ r p. p)

  body_if : (b : Bool) (x y : Option Body) → OfSome IsSoundBody x → OfSome IsSoundBody y
      → OfSome IsSoundBody (if b then x else y)
  body_if true x y h rest = h
  body_if false x y h rest = rest

  body_sound : (way : Option Way) (has_property : Bool) (ss : List PlacedStop) → OfSome IsSoundWay way
      → AreSoundPlaced ss → OfSome IsSoundBody (body_of way has_property ss)
  body_sound way has_property ss w h =
      body_if (has_property && begins_with_zoom ss) (option_and_then (zoomed_form way) (zoomed_stops ss))
      (plain_form way ss)
      (of_then AreSoundZoomed IsSoundBody (zoomed_stops ss) (zoomed_form way) (zoomed_sound ss h)
      (λ xs p. zoomed_form_sound way xs w p))
      (plain_form_sound way ss w h)

  -- ---- members

  record HasSoundForms (k : ℕ) (ms : FunctionMembers) : Type 0 where
    base : OfSome IsSoundNumber ms.base
    property : OfSome IsUtf8 ms.property
    fallback : OfSome IsSoundOutput ms.fallback
    stops : OfSome (IsSound k) ms.stops

  members_sound : (k : ℕ) (fs : Fields) → HasSoundMembers k fs → OfSome (HasSoundForms k) (members_form row fs)
  members_sound k fs h =
      let P = HasSoundForms k in
      of_where P (has_known_members fs) _ (λ known.
      of_then (λ n. Unit {0}) P (kind_form row (field_at (codes "type") fs)) _
      (of_any (kind_form row (field_at (codes "type") fs))) (λ kind n.
      of_then (OfSome IsSoundNumber) P (member_form number_form (field_at (codes "base") fs)) _
      (formed IsSoundNumber k number_form (field_at (codes "base") fs) (member_sound k (codes "base") fs h)
      (number_sound k))
      (λ base b.
      of_then (OfSome IsUtf8) P (member_form text_in (field_at (codes "property") fs)) _
      (formed IsUtf8 k text_in (field_at (codes "property") fs) (member_sound k (codes "property") fs h)
      (text_sound k))
      (λ property p.
      of_then (OfSome IsSoundOutput) P (member_form (output_form row) (field_at (codes "default") fs)) _
      (formed IsSoundOutput k (output_form row) (field_at (codes "default") fs)
      (member_sound k (codes "default") fs h) (output_sound k))
      (λ fallback o. record {
        base = b;
        property = p;
        fallback = o;
        stops = member_sound k (codes "stops") fs h;
      })))))

  even_or_curved : (b : Bool) (base : Spelled) → IsSoundNumber base → IsSoundWay (if b then even else curved base)
  even_or_curved true base h = tt
  even_or_curved false base h = h

  base_sound : (base : Option Spelled) → OfSome IsSoundNumber base → IsSoundWay (base_way base)
  base_sound (Some base) h = even_or_curved (int_eq base.value (pos 1000000)) base h
  base_sound None h = tt

  -- evenly or by a base, by steps, or not at all
  way_cases : (ms : FunctionMembers) → (way_by ms.kind ms.base ≡ Some (base_way ms.base))
      ⊎ ((way_by ms.kind ms.base ≡ Some stepped) ⊎ (way_by ms.kind ms.base ≡ None))
  way_cases ms = grind (arith)

  way_sound : (ms : FunctionMembers) → OfSome IsSoundNumber ms.base → OfSome IsSoundWay (way_by ms.kind ms.base)
  way_sound ms h = elim (way_cases ms) [
    | inl is ↦ subst (OfSome IsSoundWay) (sym is) (base_sound ms.base h)
    | inr other ↦ elim other [
      | inl is ↦ subst (OfSome IsSoundWay) (sym is) tt
      | inr is ↦ subst (OfSome IsSoundWay) (sym is) tt
    ]
  ]

  stops_body_sound : (k : ℕ) (ms : FunctionMembers) → HasSoundForms k ms → OfSome IsSoundBody (stops_body row ms)
  stops_body_sound k ms h =
      let any = is_categories ms.kind in
      of_then (IsSound k) IsSoundBody ms.stops _ h.stops (λ t s.
      of_then AreSoundPlaced IsSoundBody (stops_form row any t) _ (stops_sound any k t s)
      (λ placed p. body_sound (way_by ms.kind ms.base) (is_some ms.property) placed (way_sound ms h.base) p))

  abbrev read_body : FunctionMembers → Option Body
  read_body ms = kind_body ms.kind row ms

  -- what the stops say, the property itself, or nothing
  body_cases : (ms : FunctionMembers) → (read_body ms ≡ stops_body row ms)
      ⊎ ((read_body ms ≡ Some identity) ⊎ (read_body ms ≡ None))
  body_cases ms = grind (arith)

  read_body_sound : (k : ℕ) (ms : FunctionMembers) → HasSoundForms k ms → OfSome IsSoundBody (read_body ms)
  read_body_sound k ms h = elim (body_cases ms) [
    | inl is ↦ subst (OfSome IsSoundBody) (sym is) (stops_body_sound k ms h)
    | inr other ↦ elim other [
      | inl is ↦ subst (OfSome IsSoundBody) (sym is) tt
      | inr is ↦ subst (OfSome IsSoundBody) (sym is) tt
    ]
  ]

  -- ---- functions

  abbrev IsSoundInside : Option Function → Type 0
  IsSoundInside found = OfSome HasSoundParts found

  none_or : (b : Bool) (f : Function) → HasSoundParts f → IsSoundInside (if b then None else Some f)
  none_or true f h = tt
  none_or false f h = h

  inside_sound : (k : ℕ) (ms : FunctionMembers) (body : Body) → HasSoundForms k ms → IsSoundBody body
      → IsSoundInside (inside ms body)
  inside_sound k ms body h b =
      none_or (ms.has_space || is_outside_way (way_by ms.kind ms.base) (is_zoomed body))
      (record { property = ms.property; fallback = ms.fallback; body = body })
      (record { property = h.property; fallback = h.fallback; body = b })

  function_sound : (k : ℕ) (fs : Fields) → HasSoundMembers k fs → OfSome IsSoundInside (function_form row fs)
  function_sound k fs h =
      of_then (HasSoundForms k) IsSoundInside (members_form row fs)
      (λ ms. option_map (inside ms) (kind_body ms.kind row ms)) (members_sound k fs h)
      (λ ms p. of_map IsSoundBody IsSoundInside (inside ms) (kind_body ms.kind row ms)
      (read_body_sound k ms p) (λ body b. inside_sound k ms body p b))

  pub form_sound : (k : ℕ) (t : Tree) → IsSound k t → OfSome IsSoundInside (form row t)
  form_sound k json.null h = tt
  form_sound k (json.boolean b) h = tt
  form_sound k (json.number n) h = tt
  form_sound k (json.text s) h = tt
  form_sound k (json.list ts) h = tt
  form_sound k (json.object fs) h = function_sound (suc k) fs h.2
