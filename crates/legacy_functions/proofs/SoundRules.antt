-- What holds of the stops and rules of each function that was read: texts of numbers are those of their
-- numbers, outputs are literals of the row or token texts, and inputs ascend.
use Rattle.std.proofs.Common.{◌≡◌, ℕ, ℤ, pos, List, [], ◌∷◌, refl, sym, subst, true, false}
use Rattle.std.specs.Prelude.{Bool, ◌&&◌, codes, int_lt, Option, Some, None, is_none, option_map, option_and_then, Result, Ok, Err, if◌then◌else◌}
use Rattle.std.specs.Ordering.{int_eq}
use Rattle.fixed_num.specs.Decimal.{read_text}
use Rattle.fixed_num.specs.declared.decimal.NumFault.{NumFault}
use Rattle.decimal_json.specs.Tree as json
use Rattle.decimal_json.specs.Tree.{Tree, Trees, no_trees, tree, field_at}
use Rattle.prop_values.specs.Data.{Data}
use Rattle.property_tables.specs.Literals.{literal_of}
use Rattle.property_tables.specs.Rows.{RowData}
use Rattle.legacy_functions.specs.Function.{Spelled, Input, flag, number, word, Output, literal, tokens, Way, even, curved, stepped, PropertyRule, numeric, categorical, Body, plain, zoomed, identity}
use Rattle.legacy_functions.specs.Form.{where_true, and_first, spelled_number, number_form, literal_form, text_output, output_form, input_form, PlacedInput, has_two_fields, zoomed_input, placed_input, PlacedStop, stop_form, each_stop, stops_form, Stop, plain_stop, plain_stops, zoomed_stop, zoomed_stops, never_descend, all_differ, number_stops, equals_before, without_repeated, some_of, rule_form, zooms_never_descend, with_group, by_zoom, group_form, rules_form, zoomed_body, zoomed_form, plain_form, begins_with_zoom, body_of}
use Rattle.legacy_functions.specs.GroupView.{Zoomed, StopGroup}
use Rattle.legacy_functions.specs.Meaning.{stop_inputs, rule_zooms}
use Rattle.legacy_functions.specs.Tokens.{has_tokens}
use Rattle.legacy_functions.proofs.ClimbLaws.{Climbs, stops_climb, group_zooms, Rises, zooms_rise, ZoomsAre, rules_zooms}

-- ---- parts

abbrev pub OfSome : {A : Type 0} → (A → Type 0) → Option A → Type 0
OfSome P (Some a) = P a
OfSome P None = Unit {0}

abbrev pub HasSome : {A : Type 0} → List A → Type 0
HasSome [] = ⊥
HasSome (x ∷ xs) = Unit {0}

abbrev pub IsSpelled : Spelled → Type 0
IsSpelled n = read_text n.spelled ≡ Ok n.value

abbrev pub is_token_output : RowData → Tree → Bool
is_token_output row (json.text s) = row.takes_tokens && has_tokens s
is_token_output row _ = false

-- a literal of the row, and no token text; a token text is one too, where the row takes token texts
abbrev pub IsOutputOf : RowData → Output → Type 0
IsOutputOf row (literal t d) = (literal_of t row ≡ Some d) × (is_token_output row t ≡ false)
IsOutputOf row (tokens s) =
    (row.takes_tokens ≡ true) × ((d : Data) × (literal_of (json.text s) row ≡ Some d))

abbrev pub IsInput : Input → Type 0
IsInput (flag b) = Unit {0}
IsInput (number n) = IsSpelled n
IsInput (word s) = Unit {0}

-- from stop to stop it goes otherwise than by steps only where the row ramps, and by a base only where that
-- is above 0
abbrev pub IsWayOf : RowData → Way → Type 0
IsWayOf row even = row.reads.ramps ≡ true
IsWayOf row (curved base) = (row.reads.ramps ≡ true) × (IsSpelled base × (int_lt (pos 0) base.value ≡ true))
IsWayOf row stepped = Unit {0}

-- ---- the whole

abbrev pub AreStops : RowData → List Stop → Type 0
AreStops row [] = Unit {0}
AreStops row (s ∷ ss) = (IsInput s.0 × IsOutputOf row s.1) × AreStops row ss

abbrev pub AreNumberStops : RowData → List (Spelled × Output) → Type 0
AreNumberStops row [] = Unit {0}
AreNumberStops row (s ∷ ss) = (IsSpelled s.0 × IsOutputOf row s.1) × AreNumberStops row ss

abbrev pub IsRuleOf : RowData → PropertyRule → Type 0
IsRuleOf row (numeric way stops) =
    IsWayOf row way × (AreNumberStops row stops × (HasSome stops × Climbs None (stop_inputs stops)))
IsRuleOf row (categorical stops) = AreStops row stops × HasSome stops

abbrev pub AreRulesOf : RowData → List (Spelled × PropertyRule) → Type 0
AreRulesOf row [] = Unit {0}
AreRulesOf row (r ∷ rs) = (IsSpelled r.0 × IsRuleOf row r.1) × AreRulesOf row rs

abbrev pub IsBodyOf : RowData → Body → Type 0
IsBodyOf row (plain rule) = IsRuleOf row rule
IsBodyOf row (zoomed rules) = AreRulesOf row rules × (HasSome rules × Climbs None (rule_zooms rules))
IsBodyOf row identity = Unit {0}

-- ---- options

pub of_then : {A B : Type 0} (P : A → Type 0) (Q : B → Type 0) (o : Option A) (go : A → Option B) → OfSome P o
    → ((a : A) → P a → OfSome Q (go a)) → OfSome Q (option_and_then go o)
of_then P Q (Some a) go h step = step a h
of_then P Q None go h step = tt

pub of_map : {A B : Type 0} (P : A → Type 0) (Q : B → Type 0) (make : A → B) (o : Option A) → OfSome P o
    → ((a : A) → P a → Q (make a)) → OfSome Q (option_map make o)
of_map P Q make (Some a) h step = step a h
of_map P Q make None h step = tt

pub of_where : {A : Type 0} (P : A → Type 0) (b : Bool) (o : Option A) → (b ≡ true → OfSome P o) → OfSome P (where_true b o)
of_where P true o h = h refl
of_where P false o h = tt

pub of_any : {A : Type 0} (o : Option A) → OfSome (λ a. Unit {0}) o
of_any (Some a) = tt
of_any None = tt

pub of_both : {A : Type 0} (P Q : A → Type 0) (o : Option A) → OfSome P o → OfSome Q o → OfSome (λ a. P a × Q a) o
of_both P Q (Some a) h k = (h, k)
of_both P Q None h k = tt

pub of_first : {A : Type 0} (P : A → Type 0) (Q : List A → Type 0) (o : Option A) (later : Option (List A)) → OfSome P o
    → OfSome Q later → ((x : A) (xs : List A) → P x → Q xs → Q (x ∷ xs)) → OfSome Q (and_first o later)
of_first P Q (Some x) (Some xs) h k both = both x xs h k
of_first P Q (Some x) None h k both = tt
of_first P Q None later h k both = tt

some_first : {A : Type 0} (o : Option A) (later : Option (List A)) → OfSome HasSome (and_first o later)
some_first (Some x) (Some xs) = tt
some_first (Some x) None = tt
some_first None later = tt

pub left_true : (a b : Bool) → (a && b) ≡ true → a ≡ true
left_true true b h = refl
left_true false b h = h

-- ---- numbers, outputs and inputs

spelled_is : (n : List ℕ) (r : Result ℤ NumFault) → read_text n ≡ r → OfSome IsSpelled (spelled_number n r)
spelled_is n (Ok z) h = h
spelled_is n (Err past) h = tt

pub number_is : (t : Tree) → OfSome IsSpelled (number_form t)
number_is json.null = tt
number_is (json.boolean b) = tt
number_is (json.number n) = spelled_is n (read_text n) refl
number_is (json.text s) = tt
number_is (json.list ts) = tt
number_is (json.object fs) = tt

module _ (row : RowData) where
  literal_is : (t : Tree) (o : Option Data) → literal_of t row ≡ o → is_token_output row t ≡ false
      → OfSome (IsOutputOf row) (literal_form t o)
  literal_is t (Some d) h k = (h, k)
  literal_is t None h k = tt

  text_is : (b : Bool) (s : List ℕ) (o : Option Data) → (row.takes_tokens && has_tokens s) ≡ b
      → literal_of (json.text s) row ≡ o → OfSome (IsOutputOf row) (text_output b s o)
  text_is true s (Some d) is h = (left_true row.takes_tokens (has_tokens s) is, (d, h))
  text_is true s None is h = tt
  text_is false s o is h = literal_is (json.text s) o h is

  pub output_is : (t : Tree) → OfSome (IsOutputOf row) (output_form row t)
  output_is json.null = literal_is json.null (literal_of json.null row) refl refl
  output_is (json.boolean b) = literal_is (json.boolean b) (literal_of (json.boolean b) row) refl refl
  output_is (json.number n) = literal_is (json.number n) (literal_of (json.number n) row) refl refl
  output_is (json.text s) =
      text_is (row.takes_tokens && has_tokens s) s (literal_of (json.text s) row) refl refl
  output_is (json.list ts) = literal_is (json.list ts) (literal_of (json.list ts) row) refl refl
  output_is (json.object fs) = literal_is (json.object fs) (literal_of (json.object fs) row) refl refl

  input_is : (any : Bool) (t : Tree) → OfSome IsInput (input_form any t)
  input_is any json.null = tt
  input_is any (json.boolean b) = of_where IsInput any (Some (flag b)) (λ h. tt)
  input_is any (json.number n) =
      of_map IsSpelled IsInput number (spelled_number n (read_text n)) (spelled_is n (read_text n) refl) (λ m h. h)
  input_is any (json.text s) = of_where IsInput any (Some (word s)) (λ h. tt)
  input_is any (json.list ts) = tt
  input_is any (json.object fs) = tt

  abbrev pub IsPlaced : PlacedInput → Type 0
  IsPlaced p = OfSome IsSpelled p.0 × IsInput p.1

  without_zoom : (any : Bool) (t : Tree) → OfSome IsPlaced (option_map (λ i. (None, i)) (input_form any t))
  without_zoom any t = of_map IsInput IsPlaced (λ i. (None, i)) (input_form any t) (input_is any t) (λ i h. (tt, h))

  with_zoom : (any : Bool) (zoom value : Option Tree) → OfSome IsPlaced (zoomed_input any zoom value)
  with_zoom any (Some zoom) (Some value) =
      of_then IsSpelled IsPlaced (number_form zoom) (λ z. option_map (λ i. (Some z, i)) (input_form any value)) (number_is zoom)
      (λ z h. of_map IsInput IsPlaced (λ i. (Some z, i)) (input_form any value) (input_is any value) (λ i k. (h, k)))
  with_zoom any (Some zoom) None = tt
  with_zoom any None value = tt

  placed_is : (any : Bool) (t : Tree) → OfSome IsPlaced (placed_input any t)
  placed_is any json.null = without_zoom any json.null
  placed_is any (json.boolean b) = without_zoom any (json.boolean b)
  placed_is any (json.number n) = without_zoom any (json.number n)
  placed_is any (json.text s) = without_zoom any (json.text s)
  placed_is any (json.list ts) = without_zoom any (json.list ts)
  placed_is any (json.object fs) =
      let zoom = field_at (codes "zoom") fs in
      let value = field_at (codes "value") fs in
      of_where IsPlaced (has_two_fields fs) (zoomed_input any zoom value) (λ h. with_zoom any zoom value)

  -- ---- stops

  abbrev pub IsPlacedStop : PlacedStop → Type 0
  IsPlacedStop s = IsPlaced s.0 × IsOutputOf row s.1

  abbrev pub ArePlaced : List PlacedStop → Type 0
  ArePlaced [] = Unit {0}
  ArePlaced (s ∷ ss) = IsPlacedStop s × ArePlaced ss

  pair_is : (any : Bool) (i o : Tree)
      → OfSome IsPlacedStop (option_and_then (λ p. option_map (λ out. (p, out)) (output_form row o)) (placed_input any i))
  pair_is any i o =
      of_then IsPlaced IsPlacedStop (placed_input any i) (λ p. option_map (λ out. (p, out)) (output_form row o)) (placed_is any i)
      (λ p h. of_map (IsOutputOf row) IsPlacedStop (λ out. (p, out)) (output_form row o) (output_is o) (λ out k. (h, k)))

  stop_is : (any : Bool) (t : Tree) → OfSome IsPlacedStop (stop_form row any t)
  stop_is any json.null = tt
  stop_is any (json.boolean b) = tt
  stop_is any (json.number n) = tt
  stop_is any (json.text s) = tt
  stop_is any (json.list no_trees) = tt
  stop_is any (json.list (tree i no_trees)) = tt
  stop_is any (json.list (tree i (tree o no_trees))) = pair_is any i o
  stop_is any (json.list (tree i (tree o (tree t ts)))) = tt
  stop_is any (json.object fs) = tt

  each_is : (any : Bool) (ts : Trees) → OfSome ArePlaced (each_stop row any ts)
  each_is any no_trees = tt
  each_is any (tree t ts) =
      of_first IsPlacedStop ArePlaced (stop_form row any t) (each_stop row any ts) (stop_is any t) (each_is any ts) (λ s ss h k. (h, k))

  abbrev pub AreSomePlaced : List PlacedStop → Type 0
  AreSomePlaced ss = ArePlaced ss × HasSome ss

  pub stops_are : (any : Bool) (t : Tree) → OfSome AreSomePlaced (stops_form row any t)
  stops_are any json.null = tt
  stops_are any (json.boolean b) = tt
  stops_are any (json.number n) = tt
  stops_are any (json.text s) = tt
  stops_are any (json.list no_trees) = tt
  stops_are any (json.list (tree t ts)) =
      of_both ArePlaced HasSome (each_stop row any (tree t ts)) (each_is any (tree t ts))
      (some_first (stop_form row any t) (each_stop row any ts))
  stops_are any (json.object fs) = tt

  -- ---- stops without zooms, and with

  abbrev IsStop : Stop → Type 0
  IsStop s = IsInput s.0 × IsOutputOf row s.1

  plain_are : (ss : List PlacedStop) → ArePlaced ss → OfSome (AreStops row) (plain_stops ss)
  plain_are [] h = tt
  plain_are (s ∷ ss) h =
      of_first IsStop (AreStops row) (plain_stop s) (plain_stops ss)
      (of_where IsStop (is_none s.0.0) (Some (s.0.1, s.1)) (λ none. (h.0.0.1, h.0.1))) (plain_are ss h.1) (λ s ss h k. (h, k))

  plain_some : (ss : List PlacedStop) → HasSome ss → OfSome HasSome (plain_stops ss)
  plain_some [] h = absurd h
  plain_some (s ∷ ss) h = some_first (plain_stop s) (plain_stops ss)

  abbrev IsZoomedStop : Zoomed → Type 0
  IsZoomedStop s = IsSpelled s.0 × (IsInput s.1.0 × IsOutputOf row s.1.1)

  abbrev AreZoomed : List Zoomed → Type 0
  AreZoomed [] = Unit {0}
  AreZoomed (s ∷ ss) = IsZoomedStop s × AreZoomed ss

  zoomed_are : (ss : List PlacedStop) → ArePlaced ss → OfSome AreZoomed (zoomed_stops ss)
  zoomed_are [] h = tt
  zoomed_are (s ∷ ss) h =
      of_first IsZoomedStop AreZoomed (zoomed_stop s) (zoomed_stops ss)
      (of_map IsSpelled IsZoomedStop (λ zoom. (zoom, (s.0.1, s.1))) s.0.0 h.0.0.0 (λ zoom z. (z, (h.0.0.1, h.0.1))))
      (zoomed_are ss h.1) (λ s ss h k. (h, k))

  -- ---- groups of one zoom each

  abbrev AreGroups : List StopGroup → Type 0
  AreGroups [] = Unit {0}
  AreGroups (g ∷ gs) = (IsSpelled g.0 × (AreStops row g.1 × HasSome g.1)) × AreGroups gs

  grouped_if : (b : Bool) (s : Zoomed) (g : StopGroup) (gs : List StopGroup) → IsZoomedStop s → AreGroups (g ∷ gs)
      → AreGroups (if b then (s.0, s.1 ∷ g.1) ∷ gs else (s.0, s.1 ∷ []) ∷ g ∷ gs)
  grouped_if true s g gs h k = ((h.0, ((h.1, k.0.1.0), tt)), k.1)
  grouped_if false s g gs h k = ((h.0, ((h.1, tt), tt)), k)

  with_group_is : (s : Zoomed) (gs : List StopGroup) → IsZoomedStop s → AreGroups gs → AreGroups (with_group s gs)
  with_group_is s [] h k = ((h.0, ((h.1, tt), tt)), tt)
  with_group_is s (g ∷ gs) h k = grouped_if (int_eq s.0.value g.0.value) s g gs h k

  groups_are : (ss : List Zoomed) → AreZoomed ss → AreGroups (by_zoom ss)
  groups_are [] h = tt
  groups_are (s ∷ ss) h = with_group_is s (by_zoom ss) h.0 (groups_are ss h.1)

  -- ---- rules

  numbers_are : (ss : List Stop) → AreStops row ss → AreNumberStops row (number_stops ss)
  numbers_are [] h = tt
  numbers_are ((flag b, o) ∷ ss) h = numbers_are ss h.1
  numbers_are ((number n, o) ∷ ss) h = (h.0, numbers_are ss h.1)
  numbers_are ((word s, o) ∷ ss) h = numbers_are ss h.1

  kept_if : (b : Bool) (s : Spelled × Output) (xs ys : List (Spelled × Output)) → AreNumberStops row xs
      → AreNumberStops row (s ∷ ys) → AreNumberStops row (if b then xs else s ∷ ys)
  kept_if true s xs ys h k = h
  kept_if false s xs ys h k = k

  kept_are : (before : Option ℤ) (ss : List (Spelled × Output)) → AreNumberStops row ss
      → AreNumberStops row (without_repeated before ss)
  kept_are before [] h = tt
  kept_are before (s ∷ ss) h =
      kept_if (equals_before before s.0.value) s (without_repeated before ss) (without_repeated (Some s.0.value) ss)
      (kept_are before ss h.1) (h.0, kept_are (Some s.0.value) ss h.1)

  numeric_is : (way : Way) (ss : List (Spelled × Output)) → IsWayOf row way → AreNumberStops row ss
      → Climbs None (stop_inputs ss) → OfSome (IsRuleOf row) (option_map (numeric way) (some_of ss))
  numeric_is way [] w h climbs = tt
  numeric_is way (s ∷ ss) w h climbs = (w, (h, (tt, climbs)))

  rule_is : (way : Option Way) (ss : List Stop) → OfSome (IsWayOf row) way → AreStops row ss → HasSome ss
      → OfSome (IsRuleOf row) (rule_form way ss)
  rule_is (Some way) ss w h some =
      let kept = without_repeated None (number_stops ss) in
      of_where (IsRuleOf row) (never_descend None ss) (option_map (numeric way) (some_of kept))
      (λ p. numeric_is way kept w (kept_are None (number_stops ss) (numbers_are ss h)) (stops_climb None ss p))
  rule_is None ss w h some =
      of_where (IsRuleOf row) (never_descend None ss && all_differ (λ i. false) ss) (Some (categorical ss)) (λ p. (h, some))

  abbrev IsZoomRule : Spelled × PropertyRule → Type 0
  IsZoomRule r = IsSpelled r.0 × IsRuleOf row r.1

  rules_are : (way : Option Way) (gs : List StopGroup) → OfSome (IsWayOf row) way → AreGroups gs
      → OfSome (AreRulesOf row) (rules_form way gs)
  rules_are way [] w h = tt
  rules_are way (g ∷ gs) w h =
      of_first IsZoomRule (AreRulesOf row) (group_form way g) (rules_form way gs)
      (of_map (IsRuleOf row) IsZoomRule (λ rule. (g.0, rule)) (rule_form way g.1) (rule_is way g.1 w h.0.1.0 h.0.1.1)
      (λ rule k. (h.0.0, k))) (rules_are way gs w h.1) (λ r rs h k. (h, k))

  -- ---- bodies

  climbs_from : (zs : List ℤ) → Rises None zs → Climbs None zs
  climbs_from [] h = tt
  climbs_from (z ∷ zs) h = (tt, h.1)

  zoomed_is : (found : Option (List (Spelled × PropertyRule))) (zs : List ℤ) → OfSome (AreRulesOf row) found → ZoomsAre found zs
      → Climbs None zs → OfSome (IsBodyOf row) (zoomed_body found)
  zoomed_is (Some []) zs h same climbs = tt
  zoomed_is (Some (r ∷ rs)) zs h same climbs = (h, (tt, subst (λ ys. Climbs None ys) (sym same) climbs))
  zoomed_is None zs h same climbs = tt

  zoomed_form_is : (way : Option Way) (ss : List Zoomed) → OfSome (IsWayOf row) way → AreZoomed ss
      → OfSome (IsBodyOf row) (zoomed_form way ss)
  zoomed_form_is way ss w h =
      let gs = by_zoom ss in
      of_where (IsBodyOf row) (zooms_never_descend None ss) (zoomed_body (rules_form way gs))
      (λ p. zoomed_is (rules_form way gs) (group_zooms gs) (rules_are way gs w (groups_are ss h)) (rules_zooms way gs)
      (climbs_from (group_zooms gs) (zooms_rise None ss p)))

  plain_form_is : (way : Option Way) (ss : List PlacedStop) → OfSome (IsWayOf row) way → AreSomePlaced ss
      → OfSome (IsBodyOf row) (plain_form way ss)
  plain_form_is way ss w h =
      let found = option_and_then (rule_form way) (plain_stops ss) in
      let rule : OfSome (IsRuleOf row) found =
      of_then (λ xs. AreStops row xs × HasSome xs) (IsRuleOf row) (plain_stops ss) (rule_form way)
      (of_both (AreStops row) HasSome (plain_stops ss) (plain_are ss h.0) (plain_some ss h.1))
      (λ xs k. rule_is way xs w k.0 k.1) in
      of_map (IsRuleOf row) (IsBodyOf row) plain found rule (λ r k. k)

  of_if : (b : Bool) (x y : Option Body) → OfSome (IsBodyOf row) x → OfSome (IsBodyOf row) y
      → OfSome (IsBodyOf row) (if b then x else y)
  of_if true x y h k = h
  of_if false x y h k = k

  pub body_is : (way : Option Way) (has_property : Bool) (ss : List PlacedStop) → OfSome (IsWayOf row) way → AreSomePlaced ss
      → OfSome (IsBodyOf row) (body_of way has_property ss)
  body_is way has_property ss w h =
      of_if (has_property && begins_with_zoom ss) (option_and_then (zoomed_form way) (zoomed_stops ss)) (plain_form way ss)
      (of_then AreZoomed (IsBodyOf row) (zoomed_stops ss) (zoomed_form way) (zoomed_are ss h.0)
      (λ xs k. zoomed_form_is way xs w k))
      (plain_form_is way ss w h)
