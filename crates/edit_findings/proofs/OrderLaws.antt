-- What is found of the layers of a document of which nothing was found, once one of them is taken out, put in or moved.
use Rattle.std.proofs.Common.{◌≡◌, ◌∙◌, ℕ, zero, suc, ◌+◌, ◌<◌, ◌≤◌, List, [], ◌∷◌, ◌++◌, length, drop, take, get_or, refl, ap, sym, subst, arith, Bool, true, false, inl, inr}
use Rattle.std.proofs.lemmas.Bool.{cases_Bool, both_ways}
use Rattle.std.proofs.lemmas.List.{append_assoc, append-nil, length-append, length-take, take-append-drop}
use Rattle.std.proofs.lemmas.Slice.Eq.{bytes_eq-Decides}
use Rattle.std.specs.List.{list_any}
use Rattle.std.specs.Prelude.{insert, remove, not, ◌||◌, Option, Some, None, if◌then◌else◌}
use Rattle.std.specs.Str.{bytes_eq}
use Rattle.decimal_json.specs.Tree.{Tree, null, Trees, trees_of, Fields}
use Rattle.decimal_json.specs.View.{moved_items}
use Rattle.decimal_json.specs.declared.paths.PathPart.TheVariants.{Key}
use Rattle.style_parts.specs.Parts.{is_id_of}
use Rattle.style_rules.specs.Findings.{findings_in}
use Rattle.style_rules.specs.Levels.{layer_reports, layers_reports, HasDistinctMembers}
use Rattle.style_rules.specs.Places.{used_in}
use Rattle.style_rules.specs.Rules
use Rattle.style_rules.proofs.QuietLaws.{IsQuiet, findings_of_parts, none_of_both}
use Rattle.edit_findings.proofs.MarkLaws.{UsesLess, none_used, not_true, layer_follows}
use Rattle.edit_findings.proofs.IdLaws.{is_key, layer_unused, layer_exact}
use Rattle.edit_findings.specs.FoundAfter.{Found, Each, AreKeyed, differs, id_key, id_of, layers_path, layer_path, later_found}

-- ---- what holds of each layer, and of each two

abbrev pub IsApart : Tree → Tree → Type 0
IsApart t u = differs (id_of t) (id_of u) ≡ true

abbrev pub AreApart : List Tree → Type 0
AreApart [] = Unit {0}
AreApart (t ∷ ts) = Each (IsApart t) ts × AreApart ts

pub other_way : (a b : List ℕ) → not (bytes_eq a b) ≡ true → not (bytes_eq b a) ≡ true
other_way a b h = elim (cases_Bool (bytes_eq b a)) [
  | inl same ↦ absurd (both_ways (bytes_eq a b) (not_true (bytes_eq a b) h) ((bytes_eq-Decides a b).1 (sym (is_key b a same))))
  | inr other ↦ ap not other
]

turned : (a b : Option (List ℕ)) → differs a b ≡ true → differs b a ≡ true
turned None None h = refl
turned None (Some b) h = refl
turned (Some a) None h = refl
turned (Some a) (Some b) h = other_way a b h

module _ (P : Tree → Type 0) where
  each_both : (xs ys : List Tree) → Each P xs → Each P ys → Each P (xs ++ ys)
  each_both [] ys h k = k
  each_both (x ∷ xs) ys h k = (h.0, each_both xs ys h.1 k)

  each_later : (xs ys : List Tree) → Each P (xs ++ ys) → Each P ys
  each_later [] ys h = h
  each_later (x ∷ xs) ys h = each_later xs ys h.1

  each_left : (ts : List Tree) (k : ℕ) → Each P ts → Each P (remove ts k)
  each_left [] zero h = tt
  each_left [] (suc k) h = tt
  each_left (t ∷ ts) zero h = h.1
  each_left (t ∷ ts) (suc k) h = (h.0, each_left ts k h.1)

  each_put : (ts : List Tree) (k : ℕ) (t : Tree) → P t → Each P ts → Each P (insert ts k t)
  each_put [] zero t p h = (p, tt)
  each_put [] (suc k) t p h = (p, tt)
  each_put (u ∷ ts) zero t p h = (p, h)
  each_put (u ∷ ts) (suc k) t p h = (h.0, each_put ts k t p h.1)

  each_at : (ts : List Tree) (k : ℕ) → k < length ts → Each P ts → P (get_or ts k null)
  each_at [] k w h = absurd (omega (arith, w))
  each_at (t ∷ ts) zero w h = h.0
  each_at (t ∷ ts) (suc k) w h = each_at ts k (omega (arith, w)) h.1

apart_left : (ts : List Tree) (k : ℕ) → AreApart ts → AreApart (remove ts k)
apart_left [] zero h = tt
apart_left [] (suc k) h = tt
apart_left (t ∷ ts) zero h = h.1
apart_left (t ∷ ts) (suc k) h = (each_left (IsApart t) ts k h.0, apart_left ts k h.1)

apart_put : (ts : List Tree) (k : ℕ) (t : Tree) → Each (IsApart t) ts → AreApart ts → AreApart (insert ts k t)
apart_put [] zero t p h = (tt, tt)
apart_put [] (suc k) t p h = (tt, tt)
apart_put (u ∷ ts) zero t p h = (p, h)
apart_put (u ∷ ts) (suc k) t p h = (each_put (IsApart u) ts k t (turned (id_of t) (id_of u) p.0) h.0, apart_put ts k t p.1 h.1)

-- each is apart from those that are left without it
apart_at : (ts : List Tree) (k : ℕ) → k < length ts → AreApart ts → Each (IsApart (get_or ts k null)) (remove ts k)
apart_at [] k w h = absurd (omega (arith, w))
apart_at (t ∷ ts) zero w h = h.0
apart_at (t ∷ ts) (suc k) w h =
    (turned (id_of t) (id_of (get_or ts k null)) (each_at (IsApart t) ts k (omega (arith, w)) h.0), apart_at ts k (omega (arith, w)) h.1)

-- ---- what is found of layers after others

-- one of these layers has an id
abbrev pub has_id_among : List Tree → List ℕ → Bool
has_id_among front id = list_any (is_id_of id) front

-- of layers that follow others
abbrev pub found_after : Option Fields → List Tree → List Tree → Found
found_after sources front [] = []
found_after sources front (t ∷ ts) =
    findings_in (layer_reports sources (has_id_among front) (layer_path (length front)) t) ++ found_after sources (front ++ t ∷ []) ts

abbrev pub layers_found : Option Fields → (ℕ → List ℕ → Bool) → ℕ → Trees → Found
layers_found sources used i ts = findings_in (layers_reports sources used layers_path i ts)

-- What is found of the layers of a document, by its sources.
abbrev pub of_list : Option Fields → List Tree → Found
of_list sources ts = layers_found sources (used_in (trees_of ts)) 0 (trees_of ts)

neither_of : (a b : Bool) → (a || b) ≡ false → (a ≡ false) × (b ≡ false)
neither_of true b h = absurd (cc)
neither_of false b h = (refl, h)

used_first : (ts : List Tree) (id : List ℕ) → used_in (trees_of ts) 0 id ≡ false
used_first [] id = refl
used_first (t ∷ ts) id = refl

used_among : (front ts : List Tree) (id : List ℕ) → used_in (trees_of (front ++ ts)) (length front) id ≡ has_id_among front id
used_among [] ts id = used_first ts id
used_among (f ∷ front) ts id = ap (λ b. is_id_of id f || b) (used_among front ts id)

module _ (sources : Option Fields) where
  found_from : (front ts : List Tree) →
      layers_found sources (used_in (trees_of (front ++ ts))) (length front) (trees_of ts) ≡ found_after sources front ts
  found_from front [] = refl
  found_from front (t ∷ ts) =
      let used = used_in (trees_of (front ++ t ∷ ts)) in
      let here = layer_reports sources (used (length front)) (layer_path (length front)) t in
      let whole : (front ++ t ∷ []) ++ ts ≡ front ++ t ∷ ts = append_assoc front (t ∷ []) ts in
      findings_of_parts here (layers_reports sources used layers_path (length front + 1) (trees_of ts))
      ∙ (λ i. findings_in (layer_reports sources (λ id. used_among front (t ∷ ts) id i) (layer_path (length front)) t)
      ++ layers_found sources (used_in (trees_of (sym whole i))) (sym (length-append front (t ∷ [])) i) (trees_of ts))
      ∙ ap (λ fs. findings_in (layer_reports sources (has_id_among front) (layer_path (length front)) t) ++ fs) (found_from (front ++ t ∷ []) ts)

  pub listed : (ts : List Tree) → of_list sources ts ≡ found_after sources [] ts
  listed ts = found_from [] ts

  -- Of layers in two parts.
  found_parts : (front xs ys : List Tree) →
      found_after sources front (xs ++ ys) ≡ found_after sources front xs ++ found_after sources (front ++ xs) ys
  found_parts front [] ys = ap (λ zs. found_after sources zs ys) (sym (append-nil front))
  found_parts front (x ∷ xs) ys =
      let here = findings_in (layer_reports sources (has_id_among front) (layer_path (length front)) x) in
      let next = front ++ x ∷ [] in
      ap (λ fs. here ++ fs)
      (found_parts next xs ys ∙ ap (λ zs. found_after sources next xs ++ found_after sources zs ys) (append_assoc front (x ∷ []) xs))
      ∙ sym (append_assoc here (found_after sources next xs) (found_after sources (front ++ x ∷ xs) ys))

  -- nothing is found of a layer where no id is used
  abbrev pub IsSoundAlone : Tree → Type 0
  IsSoundAlone t = IsQuiet (layer_reports sources none_used [] t)

  -- each layer is apart from those before it
  abbrev FollowApart : List Tree → List Tree → Type 0
  FollowApart front [] = Unit {0}
  FollowApart front (t ∷ ts) = Each (λ u. IsApart u t) front × FollowApart (front ++ t ∷ []) ts

  apart_by : (front : List Tree) (id : Option (List ℕ)) → Rules.is_unused (has_id_among front) id ≡ true → Each (λ u. differs (id_of u) id ≡ true) front
  apart_by [] id h = tt
  apart_by (f ∷ front) None h = (refl, apart_by front None refl)
  apart_by (f ∷ front) (Some id) h =
      let (first, rest) = neither (is_id_of id f) (has_id_among front id) h in (first, apart_by front (Some id) rest)
    where
      neither : (a b : Bool) → not (a || b) ≡ true → (not a ≡ true) × (not b ≡ true)
      neither true b h = absurd (cc)
      neither false b h = (refl, h)

  unused_by : (front : List Tree) (id : Option (List ℕ)) → Each (λ u. differs (id_of u) id ≡ true) front → Rules.is_unused (has_id_among front) id ≡ true
  unused_by front None h = refl
  unused_by [] (Some id) h = refl
  unused_by (f ∷ front) (Some id) h = both (is_id_of id f) (has_id_among front id) h.0 (unused_by front (Some id) h.1)
    where
      both : (a b : Bool) → not a ≡ true → not b ≡ true → not (a || b) ≡ true
      both true b h k = absurd (cc)
      both false b h k = k

  -- what follows from nothing found
  each_sound : (front ts : List Tree) → found_after sources front ts ≡ [] → Each IsSoundAlone ts × FollowApart front ts
  each_sound front [] h = (tt, tt)
  each_sound front (t ∷ ts) h =
      let (here, later) = none_of_both (findings_in (layer_reports sources (has_id_among front) (layer_path (length front)) t)) (found_after sources (front ++ t ∷ []) ts) h in
      let (sound, apart) = each_sound (front ++ t ∷ []) ts later in (
        (layer_follows sources (has_id_among front) none_used (λ id k. refl) (layer_path (length front)) [] t here, sound),
        (apart_by front (id_of t) (layer_unused sources (has_id_among front) (layer_path (length front)) t here), apart),
      )

  apart_last : (front : List Tree) (t : Tree) → AreApart front → Each (λ u. IsApart u t) front → AreApart (front ++ t ∷ [])
  apart_last [] t h k = (tt, tt)
  apart_last (f ∷ front) t h k = (each_both (IsApart f) front (t ∷ []) h.0 (k.0, tt), apart_last front t h.1 k.1)

  all_apart : (front ts : List Tree) → AreApart front → FollowApart front ts → AreApart (front ++ ts)
  all_apart front [] h k = subst AreApart (sym (append-nil front)) h
  all_apart front (t ∷ ts) h k =
      subst AreApart (append_assoc front (t ∷ []) ts) (all_apart (front ++ t ∷ []) ts (apart_last front t h k.0) k.1)

  apart_before : (front : List Tree) (t : Tree) (ts : List Tree) → AreApart (front ++ t ∷ ts) → Each (λ u. IsApart u t) front
  apart_before [] t ts h = tt
  apart_before (f ∷ front) t ts h = ((each_later (IsApart f) front (t ∷ ts) h.0).0, apart_before front t ts h.1)

  follow_apart : (front ts : List Tree) → AreApart (front ++ ts) → FollowApart front ts
  follow_apart front [] h = tt
  follow_apart front (t ∷ ts) h =
      (apart_before front t ts h, follow_apart (front ++ t ∷ []) ts (subst AreApart (sym (append_assoc front (t ∷ []) ts)) h))

  nothing_found : (front ts : List Tree) → AreKeyed ts → Each IsSoundAlone ts → FollowApart front ts → found_after sources front ts ≡ []
  nothing_found front [] keyed sound apart = refl
  nothing_found front (t ∷ ts) keyed sound apart =
      let here = layer_exact sources (has_id_among front) (layer_path (length front)) [] t keyed.0 sound.0 in
      let free = unused_by front (id_of t) apart.0 in
      λ i. (here ∙ ap (λ (b : Bool). if b then [] else (layer_path (length front) ++ Key id_key ∷ [], 8) ∷ []) free) i
      ++ nothing_found (front ++ t ∷ []) ts keyed.1 sound.1 apart.1 i

  -- ---- layers of which nothing is found

  -- nothing is found of each alone, and no two have one id
  abbrev pub AreSound : List Tree → Type 0
  AreSound ts = Each IsSoundAlone ts × AreApart ts

  pub sound_layers : (ts : List Tree) → of_list sources ts ≡ [] → AreSound ts
  sound_layers ts h =
      let (sound, apart) = each_sound [] ts (sym (listed ts) ∙ h) in (sound, all_apart [] ts tt apart)

  pub layers_sound : (ts : List Tree) → AreKeyed ts → AreSound ts → of_list sources ts ≡ []
  layers_sound ts keyed h = listed ts ∙ nothing_found [] ts keyed h.0 (follow_apart [] ts h.1)

  -- ---- one is taken out, or moved

  among_last : (front : List Tree) (t : Tree) (id : List ℕ) → has_id_among (front ++ t ∷ []) id ≡ (has_id_among front id || is_id_of id t)
  among_last [] t id = or_none (is_id_of id t)
    where
      or_none : (b : Bool) → (b || false) ≡ b
      or_none true = refl
      or_none false = refl
  among_last (f ∷ front) t id = ap (λ b. is_id_of id f || b) (among_last front t id) ∙ or_assoc (is_id_of id f) (has_id_among front id) (is_id_of id t)
    where
      or_assoc : (a b c : Bool) → (a || (b || c)) ≡ ((a || b) || c)
      or_assoc true b c = refl
      or_assoc false b c = refl

  less_last : (front other : List Tree) (t : Tree) → UsesLess (has_id_among front) (has_id_among other) →
      UsesLess (has_id_among (front ++ t ∷ [])) (has_id_among (other ++ t ∷ []))
  less_last front other t less id h =
      let (first, own) = neither_of (has_id_among front id) (is_id_of id t) (sym (among_last front t id) ∙ h) in
      among_last other t id ∙ (λ i. less id first i || own i)

  -- after fewer layers nothing more is found
  found_less : (front other ts : List Tree) → UsesLess (has_id_among front) (has_id_among other) → found_after sources front ts ≡ [] →
      found_after sources other ts ≡ []
  found_less front other [] less h = refl
  found_less front other (t ∷ ts) less h =
      let (here, later) = none_of_both (findings_in (layer_reports sources (has_id_among front) (layer_path (length front)) t)) (found_after sources (front ++ t ∷ []) ts) h in
      λ i. layer_follows sources (has_id_among front) (has_id_among other) less (layer_path (length front)) (layer_path (length other)) t here i
      ++ found_less (front ++ t ∷ []) (other ++ t ∷ []) ts (less_last front other t less) later i

  found_left : (front ts : List Tree) (k : ℕ) → found_after sources front ts ≡ [] → found_after sources front (remove ts k) ≡ []
  found_left front [] zero h = refl
  found_left front [] (suc k) h = refl
  found_left front (t ∷ ts) zero h =
      let (here, later) = none_of_both (findings_in (layer_reports sources (has_id_among front) (layer_path (length front)) t)) (found_after sources (front ++ t ∷ []) ts) h in
      found_less (front ++ t ∷ []) front ts
      (λ id used. (neither_of (has_id_among front id) (is_id_of id t) (sym (among_last front t id) ∙ used)).0) later
  found_left front (t ∷ ts) (suc k) h =
      let (here, later) = none_of_both (findings_in (layer_reports sources (has_id_among front) (layer_path (length front)) t)) (found_after sources (front ++ t ∷ []) ts) h in
      λ i. here i ++ found_left (front ++ t ∷ []) ts k later i

  pub after_removal : (ts : List Tree) (k : ℕ) → of_list sources ts ≡ [] → of_list sources (remove ts k) ≡ []
  after_removal ts k h = listed (remove ts k) ∙ found_left [] ts k (sym (listed ts) ∙ h)

  pub after_move : (ts : List Tree) (from to : ℕ) → from < length ts → AreKeyed ts → of_list sources ts ≡ [] →
      of_list sources (moved_items from to ts) ≡ []
  after_move ts from to within keyed h =
      let all = sound_layers ts h in
      let t = get_or ts from null in
      let left = remove ts from in
      layers_sound (insert left to t) (each_put HasDistinctMembers left to t (each_at HasDistinctMembers ts from within keyed) (each_left HasDistinctMembers ts from keyed)) (
        each_put IsSoundAlone left to t (each_at IsSoundAlone ts from within all.0) (each_left IsSoundAlone ts from all.0),
        apart_put left to t (apart_at ts from within all.1) (apart_left ts from all.1),
      )

  -- ---- one is put in

  only_new : (l : Tree) (front mid : List Tree) (id : Option (List ℕ)) → Each (λ u. differs (id_of u) id ≡ true) (front ++ mid) →
      Rules.is_unused (has_id_among ((front ++ l ∷ []) ++ mid)) id ≡ differs (id_of l) id
  only_new l front mid None h = refl
  only_new l [] mid (Some id) h = or_unused (is_id_of id l) (has_id_among mid id) (unused_by mid (Some id) h)
    where
      or_unused : (a b : Bool) → not b ≡ true → not (a || b) ≡ not a
      or_unused true b k = refl
      or_unused false b k = k
  only_new l (f ∷ front) mid (Some id) h =
      ap (λ a. not (a || has_id_among ((front ++ l ∷ []) ++ mid) id)) (not_true (is_id_of id f) h.0) ∙ only_new l front mid (Some id) h.1

  later_exact : (l : Tree) (front mid back : List Tree) (i : ℕ) → length ((front ++ l ∷ []) ++ mid) ≡ i → AreKeyed back →
      Each IsSoundAlone back → FollowApart (front ++ mid) back → found_after sources ((front ++ l ∷ []) ++ mid) back ≡ later_found (id_of l) i back
  later_exact l front mid [] i e keyed sound apart = refl
  later_exact l front mid (t ∷ ts) i e keyed sound apart =
      let before = (front ++ l ∷ []) ++ mid in
      let whole : before ++ t ∷ [] ≡ (front ++ l ∷ []) ++ (mid ++ t ∷ []) = append_assoc (front ++ l ∷ []) mid (t ∷ []) in
      let next : length ((front ++ l ∷ []) ++ (mid ++ t ∷ [])) ≡ i + 1 =
      ap length (sym whole) ∙ length-append before (t ∷ []) ∙ ap (λ n. n + 1) e in
      let here : findings_in (layer_reports sources (has_id_among before) (layer_path (length before)) t)
      ≡ (if differs (id_of l) (id_of t) then [] else (layer_path i ++ Key id_key ∷ [], 8) ∷ []) =
      layer_exact sources (has_id_among before) (layer_path (length before)) [] t keyed.0 sound.0
      ∙ (λ j. if only_new l front mid (id_of t) apart.0 j then [] else (layer_path (e j) ++ Key id_key ∷ [], 8) ∷ []) in
      (λ j. here j ++ found_after sources (whole j) ts)
      ∙ ap (λ fs. (if differs (id_of l) (id_of t) then [] else (layer_path i ++ Key id_key ∷ [], 8) ∷ []) ++ fs)
      (later_exact l front (mid ++ t ∷ []) ts (i + 1) next keyed.1 sound.1
      (subst (λ zs. FollowApart zs ts) (append_assoc front mid (t ∷ [])) apart.1))

  -- a layer between two parts
  between : (l : Tree) (front back : List Tree) → AreKeyed (front ++ back) → of_list sources (front ++ back) ≡ [] →
      of_list sources (front ++ l ∷ back)
      ≡ findings_in (layer_reports sources (used_in (trees_of (front ++ back)) (length front)) (layer_path (length front)) l)
      ++ later_found (id_of l) (length front + 1) back
  between l front back keyed h =
      let all = sound_layers (front ++ back) h in
      let first = (none_of_both (found_after sources [] front) (found_after sources front back)
      (sym (found_parts [] front back) ∙ (sym (listed (front ++ back)) ∙ h))).0 in
      let apart = follow_apart front back all.1 in
      let one = front ++ l ∷ [] in
      let count : length (one ++ []) ≡ length front + 1 = ap length (append-nil one) ∙ length-append front (l ∷ []) in
      let later : found_after sources one back ≡ later_found (id_of l) (length front + 1) back =
      ap (λ zs. found_after sources zs back) (sym (append-nil one))
      ∙ later_exact l front [] back (length front + 1) count (each_later HasDistinctMembers front back keyed)
      (each_later IsSoundAlone front back all.0) (subst (λ zs. FollowApart zs back) (sym (append-nil front)) apart) in
      listed (front ++ l ∷ back)
      ∙ found_parts [] front (l ∷ back)
      ∙ (λ i. first i ++ (findings_in (layer_reports sources (λ id. sym (used_among front back id) i) (layer_path (length front)) l) ++ later i))

  put_in : (ts : List Tree) (k : ℕ) (l : Tree) → k ≤ length ts → insert ts k l ≡ take k ts ++ l ∷ drop k ts
  put_in [] zero l w = refl
  put_in [] (suc k) l w = absurd (omega (arith, w))
  put_in (t ∷ ts) zero l w = refl
  put_in (t ∷ ts) (suc k) l w = ap (λ zs. t ∷ zs) (put_in ts k l (omega (arith, w)))

  -- Of layers of which nothing is found, with a new one: what is found of that one, and its id in those after it.
  pub after_addition : (ts : List Tree) (k : ℕ) (l : Tree) → k ≤ length ts → AreKeyed ts → of_list sources ts ≡ [] →
      of_list sources (insert ts k l)
      ≡ findings_in (layer_reports sources (used_in (trees_of ts) k) (layer_path k) l) ++ later_found (id_of l) (k + 1) (drop k ts)
  after_addition ts k l within keyed h =
      let parts : take k ts ++ drop k ts ≡ ts = take-append-drop k ts in
      let count : length (take k ts) ≡ k = omega (arith, length-take k ts, within) in
      ap (of_list sources) (put_in ts k l within)
      ∙ between l (take k ts) (drop k ts) (subst AreKeyed (sym parts) keyed) (ap (of_list sources) parts ∙ h)
      ∙ (λ i. findings_in (layer_reports sources (used_in (trees_of (parts i)) (count i)) (layer_path (count i)) l) ++ later_found (id_of l) (count i + 1) (drop k ts))
