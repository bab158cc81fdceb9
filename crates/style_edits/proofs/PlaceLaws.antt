-- The layers after an edit, by the places of the layers that it names.
use Rattle.std.proofs.Common.{◌≡◌, ◌<◌, ℕ, zero, suc, ◌-◌, ◌+◌, List, [], ◌∷◌, ◌++◌, length, get_or, refl, ap, sym, ◌∙◌, subst, arith, Bool, true, false}
use Rattle.std.specs.Prelude.{insert, remove, nat_lt, nat_eq, slice_get, Option, Some, None, not, IfSome, option_map, if◌then◌else◌}
use Rattle.std.specs.List.{position, position_from, position_or_len}
use Rattle.std.specs.Option.{option_and_then}
use Rattle.std.specs.Str.{bytes_eq}
use Rattle.std.proofs.lemmas.Bool.{cond-false, true≢false, false_from_ne_true}
use Rattle.std.proofs.lemmas.Iterator.Adapters.{position_from-zero}
use Rattle.std.proofs.lemmas.List.{length-map}
use Rattle.std.proofs.lemmas.List.Edits.{length-remove}
use Rattle.std.proofs.lemmas.Slice.Eq.{bytes_eq-Decides}
use Rattle.decimal_json.specs.View.{moved_items, tree_of, items_view}
use Rattle.decimal_json.specs.Tree.{Tree, null}
use Rattle.decimal_json.specs.declared.tree.Json.{Json}
use Rattle.style_edits.specs.ByPlace.{layer_at, changed_at, removed_at, inserted_at, place_moved_to, is_own_place, moved_at}
use Rattle.style_edits.specs.Places.{layer_place}
use Rattle.style_edits.specs.Layers.{layer_named, changed_layer, without_layer, layer_before, with_layer, is_itself, moved_if_there, moved_layer}
use Rattle.style_edits.proofs.ListLaws.{insert_last}
use Rattle.style_parts.specs.Parts.{equals_id, is_id_of}

from_step : (i : ℕ) (same : Bool) (o r : Option ℕ) → r ≡ option_map (λ k. (i + 1) + k) o → (if same then Some i else r) ≡ option_map (λ k. i + k) (if same then Some 0 else option_map suc o)
from_step i true o r h = ap Some (omega arith)
from_step i false None r h = h
from_step i false (Some k) r h = h ∙ ap Some (omega arith)

plus_none : (o : Option ℕ) → option_map (λ k. 0 + k) o ≡ o
plus_none None = refl
plus_none (Some k) = ap Some (omega arith)

-- the place of the first that passes a test, from the front on
module _ {X : Type 0} (test : X → Bool) where
  abbrev pub first_place : List X → Option ℕ
  first_place [] = None
  first_place (x ∷ xs) = if test x then Some 0 else option_map suc (first_place xs)

  from_first : (i : ℕ) (xs : List X) → position_from test i xs ≡ option_map (λ k. i + k) (first_place xs)
  from_first i [] = refl
  from_first i (x ∷ xs) = from_step i (test x) (first_place xs) (position_from test (i + 1) xs) (from_first (i + 1) xs)

  pub first_is : (xs : List X) → position test xs ≡ first_place xs
  first_is xs = position_from-zero test xs ∙ (from_first 0 xs ∙ plus_none (first_place xs))

-- the place of the first that has an id
abbrev pub place : List ℕ → List Tree → Option ℕ
place id ts = first_place (is_id_of id) ts

pub place_is : (ts : List Tree) (id : List ℕ) → layer_place ts id ≡ place id ts
place_is ts id = first_is (is_id_of id) ts

-- ---- each change of the layers, at the first that has an id

-- What goes through the layers up to the first that has an id is what is done at its place.
module _ {R : Type 0} (id : List ℕ) (through : List Tree → R) (at : Option ℕ → List Tree → R) (hit : Tree → List Tree → R) (miss : Tree → R → R)
    (end : through [] ≡ at None [])
    (turn : (t : Tree) (ts : List Tree) → through (t ∷ ts) ≡ (if is_id_of id t then hit t ts else miss t (through ts)))
    (here : (t : Tree) (ts : List Tree) → hit t ts ≡ at (Some 0) (t ∷ ts))
    (later : (t : Tree) (ts : List Tree) (o : Option ℕ) → miss t (at o ts) ≡ at (option_map suc o) (t ∷ ts)) where
  turn_at : (t : Tree) (ts : List Tree) (o : Option ℕ) (r : R) (same : Bool) → r ≡ at o ts
      → (if same then hit t ts else miss t r) ≡ at (if same then Some 0 else option_map suc o) (t ∷ ts)
  turn_at t ts o r true h = here t ts
  turn_at t ts o r false h = ap (miss t) h ∙ later t ts o

  through_at : (ts : List Tree) → through ts ≡ at (place id ts) ts
  through_at [] = end
  through_at (t ∷ ts) = turn t ts ∙ turn_at t ts (place id ts) (through ts) (is_id_of id t) (through_at ts)

named_later : (t : Tree) (ts : List Tree) (o : Option ℕ) → layer_at o ts ≡ layer_at (option_map suc o) (t ∷ ts)
named_later t ts None = refl
named_later t ts (Some i) = refl

pub named_at : (id : List ℕ) (ts : List Tree) → layer_named id ts ≡ layer_at (place id ts) ts
named_at id = through_at id (layer_named id) layer_at (λ t ts. Some t) (λ t r. r) refl (λ t ts. refl) (λ t ts. refl) named_later

changed_later : (change : Tree → Tree) (t : Tree) (ts : List Tree) (o : Option ℕ) → t ∷ changed_at o change ts ≡ changed_at (option_map suc o) change (t ∷ ts)
changed_later change t ts None = refl
changed_later change t ts (Some i) = refl

pub changed_is : (id : List ℕ) (change : Tree → Tree) (ts : List Tree) → changed_layer id change ts ≡ changed_at (place id ts) change ts
changed_is id change =
    through_at id (changed_layer id change) (λ o. changed_at o change) (λ t ts. change t ∷ ts) (λ t r. t ∷ r) refl (λ t ts. refl) (λ t ts. refl) (changed_later change)

removed_later : (t : Tree) (ts : List Tree) (o : Option ℕ) → t ∷ removed_at o ts ≡ removed_at (option_map suc o) (t ∷ ts)
removed_later t ts None = refl
removed_later t ts (Some i) = refl

pub removed_is : (id : List ℕ) (ts : List Tree) → without_layer id ts ≡ removed_at (place id ts) ts
removed_is id =
    through_at id (without_layer id) removed_at (λ t ts. ts) (λ t r. t ∷ r) refl (λ t ts. refl) (λ t ts. refl) removed_later

before_later : (layer t : Tree) (ts : List Tree) (o : Option ℕ) → t ∷ inserted_at o layer ts ≡ inserted_at (option_map suc o) layer (t ∷ ts)
before_later layer t ts None = refl
before_later layer t ts (Some i) = refl

before_is : (id : List ℕ) (layer : Tree) (ts : List Tree) → layer_before id layer ts ≡ inserted_at (place id ts) layer ts
before_is id layer =
    through_at id (layer_before id layer) (λ o. inserted_at o layer) (λ t ts. layer ∷ t ∷ ts) (λ t r. t ∷ r) refl (λ t ts. refl) (λ t ts. refl) (before_later layer)

-- the place of a layer that may be named
abbrev pub place_if : Option (List ℕ) → List Tree → Option ℕ
place_if (Some id) ts = place id ts
place_if None ts = None

pub inserted_is : (before : Option (List ℕ)) (layer : Tree) (ts : List Tree) → with_layer before layer ts ≡ inserted_at (place_if before ts) layer ts
inserted_is (Some id) layer ts = before_is id layer ts
inserted_is None layer ts = refl

-- ---- what is at a place

-- there is a layer at a place, and it has the id
pub record IsThere (id : List ℕ) (ts : List Tree) (i : ℕ) : Type 0 where
  pub within : i < length ts
  pub named : is_id_of id (get_or ts i null) ≡ true

there_step : (id : List ℕ) (t : Tree) (ts : List Tree) (o : Option ℕ) (i : ℕ) (same : Bool) → is_id_of id t ≡ same → ((k : ℕ) → o ≡ Some k → IsThere id ts k) → (if same then Some 0 else option_map suc o) ≡ Some i → IsThere id (t ∷ ts) i
there_step id t ts o zero true e go h = record { within = omega arith; named = e }
there_step id t ts o (suc i) true e go h = absurd (cc)
there_step id t ts None i false e go h = absurd (cc)
there_step id t ts (Some k) zero false e go h = absurd (cc)
there_step id t ts (Some k) (suc i) false e go h =
    let same : k ≡ i = cc in
    let there = go i (ap Some same) in
    record { within = omega (arith, there.within); named = there.named }

pub there : (id : List ℕ) (ts : List Tree) (i : ℕ) → place id ts ≡ Some i → IsThere id ts i
there id [] i h = absurd (cc)
there id (t ∷ ts) i h = there_step id t ts (place id ts) i (is_id_of id t) refl (there id ts) h

-- ---- a layer that is moved

-- a place after the one before it was taken out
abbrev lowered : ℕ → Option ℕ → Option ℕ
lowered i None = None
lowered i (Some j) = Some (if nat_lt i j then j - 1 else j)

lowered_first : (o : Option ℕ) → o ≡ lowered 0 (option_map suc o)
lowered_first None = refl
lowered_first (Some j) = ap Some (grind arith)

lowered_later : (i : ℕ) (o : Option ℕ) → option_map suc (lowered i o) ≡ lowered (suc i) (option_map suc o)
lowered_later i None = refl
lowered_later i (Some j) = ap Some (grind arith)

left_step : (i : ℕ) (same : Bool) (o r : Option ℕ) → r ≡ lowered i o → (if same then Some 0 else option_map suc r) ≡ lowered (suc i) (if same then Some 0 else option_map suc o)
left_step i true o r h = ap Some (grind arith)
left_step i false o r h = ap (option_map suc) h ∙ lowered_later i o

-- the place of another layer in the layers that are left
left_place : (id : List ℕ) (ts : List Tree) (i : ℕ) → i < length ts → is_id_of id (get_or ts i null) ≡ false → place id (remove ts i) ≡ lowered i (place id ts)
left_place id [] i h other = absurd (omega arith)
left_place id (t ∷ ts) zero h other =
    lowered_first (place id ts) ∙ ap (lowered 0) (sym (cond-false (is_id_of id t) (Some 0) (option_map suc (place id ts)) other))
left_place id (t ∷ ts) (suc i) h other = left_step i (is_id_of id t) (place id ts) (place id (remove ts i)) (left_place id ts i (omega arith) other)

-- a layer has one id
one_id : (id other : List ℕ) (own : Option (List ℕ)) → equals_id id own ≡ true → equals_id other own ≡ true → bytes_eq id other ≡ true
one_id id other None h k = absurd (cc)
one_id id other (Some s) h k = (bytes_eq-Decides id other).1 (sym ((bytes_eq-Decides s id).0 h) ∙ (bytes_eq-Decides s other).0 k)

same_place : (i : ℕ) → nat_eq i i ≡ true
same_place i = grind arith

other_place : (i j : ℕ) → (j ≡ i → ⊥) → nat_eq j i ≡ false
other_place i j h = grind arith

-- a layer with another id is at another place
apart : (id other : List ℕ) (ts : List Tree) (i : ℕ) (o : Option ℕ) → place id ts ≡ Some i → bytes_eq id other ≡ false → place other ts ≡ o → is_own_place i o ≡ false
apart id other ts i None h e p = refl
apart id other ts i (Some j) h e p =
    other_place i j (λ same. true≢false (sym (one_id id other _ (there id ts i h).named (subst (λ k. is_id_of other (get_or ts k null) ≡ true) same (there other ts j p).named)) ∙ e))

itself_step : (id other : List ℕ) (ts : List Tree) (i : ℕ) (same : Bool) → place id ts ≡ Some i → bytes_eq id other ≡ same → same ≡ is_own_place i (place other ts)
itself_step id other ts i true h e =
    sym (ap (is_own_place i) (sym (ap (λ s. place s ts) ((bytes_eq-Decides id other).0 e)) ∙ h) ∙ same_place i)
itself_step id other ts i false h e = sym (apart id other ts i (place other ts) h e refl)

itself_is : (id : List ℕ) (before : Option (List ℕ)) (ts : List Tree) (i : ℕ) → place id ts ≡ Some i → is_itself id before ≡ is_own_place i (place_if before ts)
itself_is id None ts i h = refl
itself_is id (Some other) ts i h = itself_step id other ts i (bytes_eq id other) h refl

last_inserted : (layer : Tree) (ts : List Tree) (i : ℕ) → i < length ts → remove ts i ++ layer ∷ [] ≡ insert (remove ts i) (length ts - 1) layer
last_inserted layer ts i h =
    let e : length (remove ts i) ≡ length ts - 1 = omega (arith, length-remove ts i h) in
    sym (insert_last (remove ts i) layer) ∙ ap (λ n. insert (remove ts i) n layer) e

lowered_inserted : (layer : Tree) (ts : List Tree) (i : ℕ) (o : Option ℕ) → i < length ts → inserted_at (lowered i o) layer (remove ts i) ≡ insert (remove ts i) (place_moved_to i o (length ts)) layer
lowered_inserted layer ts i None h = last_inserted layer ts i h
lowered_inserted layer ts i (Some j) h = refl

other_named : (id other : List ℕ) (ts : List Tree) (i : ℕ) → place id ts ≡ Some i → bytes_eq id other ≡ false → is_id_of other (get_or ts i null) ≡ false
other_named id other ts i h e =
    false_from_ne_true (is_id_of other (get_or ts i null)) (λ k. true≢false (sym (one_id id other _ (there id ts i h).named k) ∙ e))

moved_there : (id : List ℕ) (before : Option (List ℕ)) (ts : List Tree) (i : ℕ) → place id ts ≡ Some i → is_itself id before ≡ false
    → with_layer before (get_or ts i null) (remove ts i) ≡ moved_items i (place_moved_to i (place_if before ts) (length ts)) ts
moved_there id None ts i h e = last_inserted (get_or ts i null) ts i (there id ts i h).within
moved_there id (Some other) ts i h e =
    let within = (there id ts i h).within in
    before_is other (get_or ts i null) (remove ts i)
    ∙ (ap (λ o. inserted_at o (get_or ts i null) (remove ts i)) (left_place other ts i within (other_named id other ts i h e))
    ∙ lowered_inserted (get_or ts i null) ts i (place other ts) within)

got : (ts : List Tree) (i : ℕ) → i < length ts → slice_get ts i ≡ Some (get_or ts i null)
got [] i h = absurd (omega arith)
got (t ∷ ts) zero h = refl
got (t ∷ ts) (suc i) h = got ts i (omega arith)

either_same : {A : Type 0} (b : Bool) (x : A) → (if b then x else x) ≡ x
either_same true x = refl
either_same false x = refl

either : {A : Type 0} (b : Bool) (x y z : A) → (b ≡ false → y ≡ z) → (if b then x else y) ≡ (if b then x else z)
either true x y z h = refl
either false x y z h = h refl

moved_by : (id : List ℕ) (before : Option (List ℕ)) (ts : List Tree) (o : Option ℕ) → place id ts ≡ o → moved_layer id before ts ≡ moved_at o (place_if before ts) ts
moved_by id before ts None h =
    let gone : layer_named id ts ≡ None = named_at id ts ∙ ap (λ o. layer_at o ts) h in
    ap (λ found. if is_itself id before then ts else moved_if_there found id before ts) gone ∙ either_same (is_itself id before) ts
moved_by id before ts (Some i) h =
    let found : layer_named id ts ≡ Some (get_or ts i null) = named_at id ts ∙ (ap (λ o. layer_at o ts) h ∙ got ts i (there id ts i h).within) in
    let left : without_layer id ts ≡ remove ts i = removed_is id ts ∙ ap (λ o. removed_at o ts) h in
    let here = itself_is id before ts i h in
    (λ k. if here k then ts else moved_if_there (found k) id before ts)
    ∙ either (is_own_place i (place_if before ts)) ts _ _ (λ e. ap (with_layer before (get_or ts i null)) left ∙ moved_there id before ts i h (here ∙ e))

pub moved_is : (id : List ℕ) (before : Option (List ℕ)) (ts : List Tree) → moved_layer id before ts ≡ moved_at (place id ts) (place_if before ts) ts
moved_is id before ts = moved_by id before ts (place id ts) refl

-- ---- places of layers of the program

or_len_seen : (p : Tree → Bool) (js : List Json) → position_or_len p (items_view js) ≡ position_or_len (λ j. p (tree_of j)) js
or_len_seen p [] = refl
or_len_seen p (j ∷ js) = ap (λ n. if not (p (tree_of j)) then 1 + n else 0) (or_len_seen p js)

pub place_seen : (js : List Json) (id : List ℕ) → layer_place (items_view js) id ≡ position (λ j. is_id_of id (tree_of j)) js
place_seen js id = λ i. if nat_lt (or_len_seen (is_id_of id) js i) (length-map js tree_of i) then Some (or_len_seen (is_id_of id) js i) else None

placed_by : (id : List ℕ) (ts : List Tree) (o : Option ℕ) → place id ts ≡ o → IfSome o (λ i. i < length ts)
placed_by id ts None h = tt
placed_by id ts (Some i) h = (there id ts i h).within

-- the place of a layer that is named is one of a layer
pub placed_within : (ts : List Tree) (name : Option (List ℕ)) → IfSome (option_and_then (layer_place ts) name) (λ i. i < length ts)
placed_within ts None = tt
placed_within ts (Some id) = subst (λ (o : Option ℕ). IfSome o (λ i. i < length ts)) (sym (place_is ts id)) (placed_by id ts (place id ts) refl)
