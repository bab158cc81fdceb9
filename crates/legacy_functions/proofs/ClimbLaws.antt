-- Numbers of which each is above the one before.
use Rattle.std.proofs.Common.{◌≡◌, ℕ, zero, suc, ◌<◌, ℤ, List, [], ◌∷◌, length, get_or, refl, ap, sym, subst, ◌∙◌, arith, true, false}
use Rattle.std.proofs.lemmas.Int.{ints}
use Rattle.std.specs.Prelude.{Bool, ◌&&◌, ◌<ℤ◌, int_le, Option, Some, None, map, option_map, if◌then◌else◌}
use Rattle.std.specs.Ordering.{int_eq}
use Rattle.interpolate_fixed.specs.PlaceFacts.{IsAscending}
use Rattle.std.proofs.lemmas.Bool.Decides.{Decides-int_eq}
use Rattle.legacy_functions.specs.declared.function.NumberStop.{NumberStop}
use Rattle.legacy_functions.specs.declared.function.ZoomRule.{ZoomRule}
use Rattle.legacy_functions.specs.Function.{Spelled, flag, number, word, Output, Way, PropertyRule}
use Rattle.legacy_functions.specs.Form.{Stop, is_not_below, never_descend, number_stops, equals_before, without_repeated, zooms_never_descend, with_group, by_zoom, and_first, rules_form, rule_form}
use Rattle.legacy_functions.specs.GroupView.{Zoomed, StopGroup}
use Rattle.legacy_functions.specs.Meaning.{stop_inputs, rule_zooms}
use Rattle.legacy_functions.specs.Parts.{stop_seen}
use Rattle.legacy_functions.specs.Stops.{inputs_in}
use Rattle.legacy_functions.specs.Zooms.{zooms_seen}
use Rattle.legacy_functions.specs.View.{zoom_rule_seen}

-- above the number before, where there is one
abbrev pub IsAbove : Option ℤ → ℤ → Type 0
IsAbove None z = Unit {0}
IsAbove (Some y) z = y <ℤ z

abbrev pub Climbs : Option ℤ → List ℤ → Type 0
Climbs before [] = Unit {0}
Climbs before (z ∷ zs) = IsAbove before z × Climbs (Some z) zs

-- each is above those before it
all_above : (y : ℤ) (zs : List ℤ) → Climbs (Some y) zs → (k : ℕ) (d : ℤ) → k < length zs → y <ℤ get_or zs k d
all_above y [] c k d h = absurd (omega arith)
all_above y (z ∷ zs) c zero d h = c.0
all_above y (z ∷ zs) c (suc k) d h = let later = all_above z zs c.1 k d (omega arith) in let first = c.0 in omega (arith, ints, first, later)

pub ascends : (before : Option ℤ) (zs : List ℤ) → Climbs before zs → IsAscending zs
ascends before [] c i j d h k = absurd (omega arith)
ascends before (z ∷ zs) c zero zero d h k = absurd (omega arith)
ascends before (z ∷ zs) c zero (suc j) d h k = all_above z zs c.1 j d (omega arith)
ascends before (z ∷ zs) c (suc i) zero d h k = absurd (omega arith)
ascends before (z ∷ zs) c (suc i) (suc j) d h k = ascends (Some z) zs c.1 i j d (omega arith) (omega arith)

left_true : (a b : Bool) → (a && b) ≡ true → a ≡ true
left_true true b h = refl
left_true false b h = h

right_true : (a b : Bool) → (a && b) ≡ true → b ≡ true
right_true true b h = h
right_true false b h = absurd (cc)

-- not below and not equal
above : (before : Option ℤ) (z : ℤ) → is_not_below before z ≡ true → equals_before before z ≡ false → IsAbove before z
above None z h e = tt
above (Some y) z h e = not_equal y z h e
  where
    not_equal : (y z : ℤ) → int_le y z ≡ true → int_eq y z ≡ false → y <ℤ z
    not_equal y z h e = grind (arith, ints, Decides-int_eq y z, h, e)

equal : (before : Option ℤ) (z : ℤ) → equals_before before z ≡ true → Some z ≡ before
equal None z e = absurd (cc)
equal (Some y) z e = ap Some (sym ((Decides-int_eq y z).0 e))

-- ---- stops over numbers that never descend

climbs_if : (before : Option ℤ) (n : Spelled) (o : Output) (ss : List Stop) (b : Bool) → equals_before before n.value ≡ b → is_not_below before n.value ≡ true
    → ((at : Option ℤ) → at ≡ Some n.value → Climbs at (stop_inputs (without_repeated at (number_stops ss))))
    → Climbs before (stop_inputs (if b then without_repeated before (number_stops ss) else (n, o) ∷ without_repeated (Some n.value) (number_stops ss)))
climbs_if before n o ss true e h later = later before (sym (equal before n.value e))
climbs_if before n o ss false e h later = (above before n.value h e, later (Some n.value) refl)

pub stops_climb : (before : Option ℤ) (ss : List Stop) → never_descend before ss ≡ true → Climbs before (stop_inputs (without_repeated before (number_stops ss)))
stops_climb before [] h = tt
stops_climb before ((number n, o) ∷ ss) h =
    climbs_if before n o ss (equals_before before n.value) refl (left_true (is_not_below before n.value) (never_descend (Some n.value) ss) h)
    (λ at is. stops_climb at ss (subst (λ x. never_descend x ss ≡ true) (sym is) (right_true (is_not_below before n.value) (never_descend (Some n.value) ss) h)))
stops_climb before ((flag b, o) ∷ ss) h = stops_climb before ss h
stops_climb before ((word s, o) ∷ ss) h = stops_climb before ss h

-- ---- zooms that never descend

abbrev pub group_zooms : List StopGroup → List ℤ
group_zooms gs = map (λ (g : StopGroup). g.0.value) gs

-- the first is not below the number before, and each later one is above the one before it
abbrev pub Rises : Option ℤ → List ℤ → Type 0
Rises before [] = Unit {0}
Rises before (z ∷ zs) = (is_not_below before z ≡ true) × Climbs (Some z) zs

with_group_rises : (before : Option ℤ) (s : Zoomed) (gs : List StopGroup) → is_not_below before s.0.value ≡ true → Rises (Some s.0.value) (group_zooms gs) → Rises before (group_zooms (with_group s gs))
with_group_rises before s [] h c = (h, tt)
with_group_rises before s (g ∷ gs) h c = group_if (int_eq s.0.value g.0.value) refl
  where
    group_if : (b : Bool) → int_eq s.0.value g.0.value ≡ b → Rises before (group_zooms (if b then (s.0, s.1 ∷ g.1) ∷ gs else (s.0, s.1 ∷ []) ∷ g ∷ gs))
    group_if true e = (h, subst (λ z. Climbs (Some z) (group_zooms gs)) (sym ((Decides-int_eq s.0.value g.0.value).0 e)) c.1)
    group_if false e = (h, (above (Some s.0.value) g.0.value c.0 e, c.1))

pub zooms_rise : (before : Option ℤ) (ss : List Zoomed) → zooms_never_descend before ss ≡ true → Rises before (group_zooms (by_zoom ss))
zooms_rise before [] h = tt
zooms_rise before (s ∷ ss) h =
    with_group_rises before s (by_zoom ss) (left_true (is_not_below before s.0.value) (zooms_never_descend (Some s.0.value) ss) h)
    (zooms_rise (Some s.0.value) ss (right_true (is_not_below before s.0.value) (zooms_never_descend (Some s.0.value) ss) h))

rise_ascends : (zs : List ℤ) → Rises None zs → IsAscending zs
rise_ascends [] c = ascends None [] tt
rise_ascends (z ∷ zs) c = ascends None (z ∷ zs) (tt, c.1)

-- rules keep the zooms of their groups
abbrev pub ZoomsAre : Option (List (Spelled × PropertyRule)) → List ℤ → Type 0
ZoomsAre (Some rs) zs = rule_zooms rs ≡ zs
ZoomsAre None zs = Unit {0}

first_zooms : (zoom : Spelled) (rule : Option PropertyRule) (later : Option (List (Spelled × PropertyRule))) (zs : List ℤ) → ZoomsAre later zs
    → ZoomsAre (and_first (option_map (λ r. (zoom, r)) rule) later) (zoom.value ∷ zs)
first_zooms zoom (Some rule) (Some rs) zs h = ap (λ ys. zoom.value ∷ ys) h
first_zooms zoom (Some rule) None zs h = tt
first_zooms zoom None later zs h = tt

pub rules_zooms : (way : Option Way) (gs : List StopGroup) → ZoomsAre (rules_form way gs) (group_zooms gs)
rules_zooms way [] = refl
rules_zooms way (g ∷ gs) = first_zooms g.0 (rule_form way g.1) (rules_form way gs) (group_zooms gs) (rules_zooms way gs)

pub zooms_of_rules : (kept : Way) (rules : List ZoomRule) → rule_zooms (map (zoom_rule_seen kept) rules) ≡ zooms_seen rules
zooms_of_rules kept [] = refl
zooms_of_rules kept (r ∷ rules) = ap (λ zs. r.zoom.value ∷ zs) (zooms_of_rules kept rules)

pub zooms_ascend : (way : Option Way) (kept : Way) (ss : List Zoomed) (rules : List ZoomRule) → zooms_never_descend None ss ≡ true → Some (map (zoom_rule_seen kept) rules) ≡ rules_form way (by_zoom ss) → IsAscending (zooms_seen rules)
zooms_ascend way kept ss rules h is =
    let same : rule_zooms (map (zoom_rule_seen kept) rules) ≡ group_zooms (by_zoom ss) = subst (λ found. ZoomsAre found (group_zooms (by_zoom ss))) (sym is) (rules_zooms way (by_zoom ss)) in
    subst IsAscending (sym same ∙ zooms_of_rules kept rules) (rise_ascends (group_zooms (by_zoom ss)) (zooms_rise None ss h))

pub kept_ascend : (kept : List NumberStop) (ss : List Stop) → never_descend None ss ≡ true → map stop_seen kept ≡ without_repeated None (number_stops ss) → IsAscending (inputs_in kept)
kept_ascend kept ss h is = subst (λ stops. IsAscending (stop_inputs stops)) (sym is) (ascends None (stop_inputs (without_repeated None (number_stops ss))) (stops_climb None ss h))
