-- Equality of maps key by key, and that equality is reflexive and symmetric.
use Rattle.std.proofs.Common.{◌≡◌, ℕ, List, refl, ap, sym, ◌∙◌, subst, Bool, true, false}
use Rattle.std.specs.Prelude.{◌&&◌, ℤ, Option, Some, None, option_map, unwrap_or, is_some, if◌then◌else◌}
use Rattle.std.specs.Ordering.{int_eq}
use Rattle.std.proofs.lemmas.Bool.{cond-true, cond-false}
use Rattle.std.proofs.lemmas.Bool.Decides.{Decides-int_eq}
use Rattle.fixed_num.specs.declared.color.Color.{Color}
use Rattle.prop_values.specs.Data.{Data, null, boolean, number, text, color, list, map, Items, no_items, item, Pairs, no_pairs, pair, pairs_of, entries_of}
use Rattle.prop_values.specs.Keys.{LacksKey, HasDistinctKeys}
use Rattle.prop_values.specs.Equality.{same_flag, same_text, same_color, at_key, keys_in, equal, items_equal, pairs_in}
use Rattle.prop_values.specs.EqualityLaws.{IsKeyed, AreKeyed, HasKeyedData, both_equal, MapsAreEqualByKeys, EqualityIsReflexive, EqualityIsSymmetric}
use Rattle.prop_values.proofs.KeyLaws.{texts_same, same_texts, texts_differ}
use Rattle.prop_values.proofs.ViewLaws.{entries_of-pairs_of}

parts_true : (x y : Bool) → (x && y) ≡ true → (x ≡ true) × (y ≡ true)
parts_true true true h = (refl, refl)
parts_true true false h = absurd (cc)
parts_true false true h = absurd (cc)
parts_true false false h = absurd (cc)

all_true : (x y : Bool) → x ≡ true → y ≡ true → (x && y) ≡ true
all_true true true h k = refl
all_true true false h k = absurd (cc)
all_true false true h k = absurd (cc)
all_true false false h k = absurd (cc)

-- equality of data with what is at a key
abbrev stands_equal : Data → Option Data → Bool
stands_equal d found = unwrap_or (option_map (equal d) found) false

stands_both : (d : Data) (found : Option Data) → both_equal (Some d) found ≡ stands_equal d found
stands_both d None = refl
stands_both d (Some e) = refl

stands_some : (d : Data) (found : Option Data) → stands_equal d found ≡ true → is_some found ≡ true
stands_some d None h = absurd (cc)
stands_some d (Some e) h = refl

first_some : (found : Option Data) (e : Data) → both_equal found (Some e) ≡ true → is_some found ≡ true
first_some None e h = absurd (cc)
first_some (Some d) e h = refl

-- What is at a key of the first has an equal in the second.
in_step : (k key : List ℕ) (x d : Data) (rest : Option Data) (b : Pairs) (same : Bool) → same_text k key ≡ same → (if same then Some x else rest) ≡ Some d → stands_equal x (at_key k b) ≡ true → (rest ≡ Some d → stands_equal d (at_key key b) ≡ true) → stands_equal d (at_key key b) ≡ true
in_step k key x d rest b true e f h go =
    let one : x ≡ d = cc in
    subst (λ y. stands_equal y (at_key key b) ≡ true) one (subst (λ q. stands_equal x (at_key q b) ≡ true) (same_texts k key e) h)
in_step k key x d rest b false e f h go = go f

at_in : (a b : Pairs) (key : List ℕ) (d : Data) → pairs_in a b ≡ true → at_key key a ≡ Some d → stands_equal d (at_key key b) ≡ true
at_in no_pairs b key d h e = absurd (cc)
at_in (pair k x ps) b key d h e =
    let both = parts_true (stands_equal x (at_key k b)) (pairs_in ps b) h in
    in_step k key x d (at_key key ps) b (same_text k key) refl e both.0 (λ f. at_in ps b key d both.1 f)

-- And each key of the first has something in the second.
key_step : (k key : List ℕ) (x d : Data) (rest : Option Data) (b : Pairs) (same : Bool) → same_text k key ≡ same → (if same then Some x else rest) ≡ Some d → is_some (at_key k b) ≡ true → (rest ≡ Some d → is_some (at_key key b) ≡ true) → is_some (at_key key b) ≡ true
key_step k key x d rest b true e f h go = subst (λ q. is_some (at_key q b) ≡ true) (same_texts k key e) h
key_step k key x d rest b false e f h go = go f

key_in : (a b : Pairs) (key : List ℕ) (d : Data) → keys_in a b ≡ true → at_key key a ≡ Some d → is_some (at_key key b) ≡ true
key_in no_pairs b key d h e = absurd (cc)
key_in (pair k x ps) b key d h e =
    let both = parts_true (is_some (at_key k b)) (keys_in ps b) h in
    key_step k key x d (at_key key ps) b (same_text k key) refl e both.0 (λ f. key_in ps b key d both.1 f)

-- Each pair is at its key.
abbrev Stands : Pairs → Pairs → Type 0
Stands no_pairs whole = Unit {0}
Stands (pair k d ps) whole = (at_key k whole ≡ Some d) × Stands ps whole

stands_under : (k : List ℕ) (d : Data) (whole ps : Pairs) → LacksKey k (entries_of ps) → Stands ps whole → Stands ps (pair k d whole)
stands_under k d whole no_pairs h s = tt
stands_under k d whole (pair l e ps) h s = (cond-false (same_text k l) (Some d) (at_key l whole) (texts_differ k l (λ q. h.0 (sym q))) ∙ s.0, stands_under k d whole ps h.1 s.1)

stands_self : (ps : Pairs) → HasDistinctKeys (entries_of ps) → Stands ps ps
stands_self no_pairs h = tt
stands_self (pair k d ps) h = (cond-true (same_text k k) (Some d) (at_key k ps) (texts_same k k refl), stands_under k d ps ps h.0 (stands_self ps h.1))

abbrev AgreeAtKeys : Pairs → Pairs → Type 0
AgreeAtKeys a b = (key : List ℕ) → both_equal (at_key key a) (at_key key b) ≡ true

agree : (a b : Pairs) (key : List ℕ) (x y : Option Data) → at_key key a ≡ x → at_key key b ≡ y → pairs_in a b ≡ true → keys_in b a ≡ true → both_equal x y ≡ true
agree a b key None None e f h k = refl
agree a b key None (Some d) e f h k = absurd (let q = key_in b a key d k f in cc)
agree a b key (Some d) y e f h k = stands_both d y ∙ (ap (stands_equal d) (sym f) ∙ at_in a b key d h e)

pairs_agree : (ps a b : Pairs) → Stands ps a → AgreeAtKeys a b → pairs_in ps b ≡ true
pairs_agree no_pairs a b s h = refl
pairs_agree (pair k d ps) a b s h =
    all_true (stands_equal d (at_key k b)) (pairs_in ps b) (sym (stands_both d (at_key k b)) ∙ (ap (λ x. both_equal x (at_key k b)) (sym s.0) ∙ h k)) (pairs_agree ps a b s.1 h)

keys_agree : (qs a b : Pairs) → Stands qs b → AgreeAtKeys a b → keys_in qs a ≡ true
keys_agree no_pairs a b s h = refl
keys_agree (pair k e qs) a b s h =
    all_true (is_some (at_key k a)) (keys_in qs a) (first_some (at_key k a) e (ap (both_equal (at_key k a)) (sym s.0) ∙ h k)) (keys_agree qs a b s.1 h)

pub maps_by_keys : MapsAreEqualByKeys
maps_by_keys a b h k = (
  λ e.
      let both = parts_true (pairs_in (pairs_of a) (pairs_of b)) (keys_in (pairs_of b) (pairs_of a)) e in
      λ key. agree (pairs_of a) (pairs_of b) key (at_key key (pairs_of a)) (at_key key (pairs_of b)) refl refl both.0 both.1,
  λ all.
      let first = stands_self (pairs_of a) (subst HasDistinctKeys (sym (entries_of-pairs_of a)) h) in
      let second = stands_self (pairs_of b) (subst HasDistinctKeys (sym (entries_of-pairs_of b)) k) in
      all_true (pairs_in (pairs_of a) (pairs_of b)) (keys_in (pairs_of b) (pairs_of a)) (pairs_agree (pairs_of a) (pairs_of a) (pairs_of b) first all) (keys_agree (pairs_of b) (pairs_of a) (pairs_of b) second all),
)

same_int : (n : ℤ) → int_eq n n ≡ true
same_int n = (Decides-int_eq n n).1 refl

keys_same : (ps whole : Pairs) → Stands ps whole → keys_in ps whole ≡ true
keys_same no_pairs whole s = refl
keys_same (pair k d ps) whole s = all_true (is_some (at_key k whole)) (keys_in ps whole) (ap is_some s.0) (keys_same ps whole s.1)

flag_same : (b : Bool) → same_flag b b ≡ true
flag_same true = refl
flag_same false = refl

color_same : (c : Color) → same_color c c ≡ true
color_same c =
    all_true (int_eq c.r c.r) _ (same_int c.r) (all_true (int_eq c.g c.g) _ (same_int c.g) (all_true (int_eq c.b c.b) (int_eq c.a c.a) (same_int c.b) (same_int c.a)))

mutual
  pub equal_self : (a : Data) → IsKeyed a → equal a a ≡ true
  equal_self null k = refl
  equal_self (boolean b) k = flag_same b
  equal_self (number n) k = same_int n
  equal_self (text s) k = texts_same s s refl
  equal_self (color c) k = color_same c
  equal_self (list ds) k = items_self ds k
  equal_self (map ps) k =
      let stands = stands_self ps k.0 in
      all_true (pairs_in ps ps) (keys_in ps ps) (pairs_self ps ps stands k.1) (keys_same ps ps stands)

  items_self : (ds : Items) → AreKeyed ds → items_equal ds ds ≡ true
  items_self no_items k = refl
  items_self (item d ds) k = all_true (equal d d) (items_equal ds ds) (equal_self d k.0) (items_self ds k.1)

  pairs_self : (ps whole : Pairs) → Stands ps whole → HasKeyedData ps → pairs_in ps whole ≡ true
  pairs_self no_pairs whole s k = refl
  pairs_self (pair l d ps) whole s k = all_true (stands_equal d (at_key l whole)) (pairs_in ps whole) (ap (stands_equal d) s.0 ∙ equal_self d k.0) (pairs_self ps whole s.1 k.1)

pub reflexive : EqualityIsReflexive
reflexive = equal_self

-- What is equal to data is so from the other side.
abbrev TurnsOver : Data → Type 0
TurnsOver d = (e : Data) → IsKeyed e → equal d e ≡ true → equal e d ≡ true

abbrev AllTurnOver : Pairs → Type 0
AllTurnOver no_pairs = Unit {0}
AllTurnOver (pair k d ps) = TurnsOver d × AllTurnOver ps

turn_step : (x d : Data) (rest : Option Data) (same : Bool) → (if same then Some x else rest) ≡ Some d → TurnsOver x → (rest ≡ Some d → TurnsOver d) → TurnsOver d
turn_step x d rest true e t go = let one : x ≡ d = cc in subst TurnsOver one t
turn_step x d rest false e t go = go e

turn_at : (ps : Pairs) (key : List ℕ) (d : Data) → AllTurnOver ps → at_key key ps ≡ Some d → TurnsOver d
turn_at no_pairs key d t e = absurd (cc)
turn_at (pair k x ps) key d t e = turn_step x d (at_key key ps) (same_text k key) e t.0 (λ f. turn_at ps key d t.1 f)

back_step : (a b : Pairs) (key : List ℕ) (e : Data) (found : Option Data) → at_key key a ≡ found → is_some found ≡ true → at_key key b ≡ Some e → pairs_in a b ≡ true → AllTurnOver a → IsKeyed e → stands_equal e found ≡ true
back_step a b key e None f some at h t k = absurd (cc)
back_step a b key e (Some d) f some at h t k =
    let equals : equal d e ≡ true = ap (stands_equal d) (sym at) ∙ at_in a b key d h f in
    turn_at a key d t f e k equals

pairs_back : (ps a b : Pairs) → Stands ps b → HasKeyedData ps → AllTurnOver a → pairs_in a b ≡ true → keys_in ps a ≡ true → pairs_in ps a ≡ true
pairs_back no_pairs a b s k t h j = refl
pairs_back (pair l e ps) a b s k t h j =
    let both = parts_true (is_some (at_key l a)) (keys_in ps a) j in
    all_true (stands_equal e (at_key l a)) (pairs_in ps a) (back_step a b l e (at_key l a) refl both.0 s.0 h t k.0) (pairs_back ps a b s.1 k.1 t h both.1)

keys_back : (ps b : Pairs) → pairs_in ps b ≡ true → keys_in ps b ≡ true
keys_back no_pairs b h = refl
keys_back (pair k d ps) b h =
    let both = parts_true (stands_equal d (at_key k b)) (pairs_in ps b) h in
    all_true (is_some (at_key k b)) (keys_in ps b) (stands_some d (at_key k b) both.0) (keys_back ps b both.1)

flag_back : (a b : Bool) → same_flag a b ≡ true → same_flag b a ≡ true
flag_back true true h = refl
flag_back true false h = absurd (cc)
flag_back false true h = absurd (cc)
flag_back false false h = refl

int_back : (m n : ℤ) → int_eq m n ≡ true → int_eq n m ≡ true
int_back m n h = (Decides-int_eq n m).1 (sym ((Decides-int_eq m n).0 h))

color_back : (c d : Color) → same_color c d ≡ true → same_color d c ≡ true
color_back c d h =
    let r = parts_true (int_eq c.r d.r) _ h in
    let g = parts_true (int_eq c.g d.g) _ r.1 in
    let b = parts_true (int_eq c.b d.b) (int_eq c.a d.a) g.1 in
    all_true (int_eq d.r c.r) _ (int_back c.r d.r r.0) (all_true (int_eq d.g c.g) _ (int_back c.g d.g g.0) (all_true (int_eq d.b c.b) (int_eq d.a c.a) (int_back c.b d.b b.0) (int_back c.a d.a b.1)))

mutual
  turns_over : (a b : Data) → IsKeyed b → equal a b ≡ true → equal b a ≡ true
  turns_over null null k h = refl
  turns_over (boolean a) (boolean b) k h = flag_back a b h
  turns_over (number a) (number b) k h = int_back a b h
  turns_over (text a) (text b) k h = texts_same b a (sym (same_texts a b h))
  turns_over (color a) (color b) k h = color_back a b h
  turns_over (list a) (list b) k h = items_turn_over a b k h
  turns_over (map a) (map b) k h =
      let both = parts_true (pairs_in a b) (keys_in b a) h in
      all_true (pairs_in b a) (keys_in a b) (pairs_back b a b (stands_self b k.0) k.1 (all_turn_over a) both.0 both.1) (keys_back a b both.0)
  turns_over null _ k h = absurd (cc)
  turns_over (boolean a) _ k h = absurd (cc)
  turns_over (number a) _ k h = absurd (cc)
  turns_over (text a) _ k h = absurd (cc)
  turns_over (color a) _ k h = absurd (cc)
  turns_over (list a) _ k h = absurd (cc)
  turns_over (map a) _ k h = absurd (cc)

  items_turn_over : (a b : Items) → AreKeyed b → items_equal a b ≡ true → items_equal b a ≡ true
  items_turn_over no_items no_items k h = refl
  items_turn_over (item a ats) (item b bs) k h =
      let both = parts_true (equal a b) (items_equal ats bs) h in
      all_true (equal b a) (items_equal bs ats) (turns_over a b k.0 both.0) (items_turn_over ats bs k.1 both.1)
  items_turn_over no_items (item b bs) k h = absurd (cc)
  items_turn_over (item a ats) no_items k h = absurd (cc)

  all_turn_over : (ps : Pairs) → AllTurnOver ps
  all_turn_over no_pairs = tt
  all_turn_over (pair k d ps) = (λ e j h. turns_over d e j h, all_turn_over ps)

one_truth : (x y : Bool) → (x ≡ true → y ≡ true) → (y ≡ true → x ≡ true) → x ≡ y
one_truth true true h k = refl
one_truth true false h k = sym (h refl)
one_truth false true h k = k refl
one_truth false false h k = refl

pub symmetric : EqualityIsSymmetric
symmetric a b k j = one_truth (equal a b) (equal b a) (turns_over a b j) (turns_over b a k)
