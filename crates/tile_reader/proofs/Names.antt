-- The layer of a name, and the names of layers as the keys of an index.
use Rattle.std.proofs.Common.{◌≡◌, ◌≢◌, ℕ, suc, ◌+◌, ◌<◌, List, [], ◌∷◌, ◌++◌, length, get_or, refl, ap, sym, ◌∙◌, subst, arith, Bool, true, false, Bor}
use Rattle.std.specs.Prelude.{Option, Some, None, option_map, Ok, is_some, if◌then◌else◌, ◌||◌}
use Rattle.std.specs.List.{list_any}
use Rattle.std.specs.Str.{bytes_eq}
use Rattle.std.proofs.lemmas.Bool.{cond-true, cond-false}
use Rattle.std.proofs.lemmas.Bool.Decides.{same_from_decides}
use Rattle.std.proofs.lemmas.Slice.Eq.{bytes_eq-Decides}
use Rattle.std.proofs.lemmas.List.{map-append}
use Rattle.key_index.specs.Keys.{place_from, LacksKey, HasDistinctKeys}
use Rattle.tile_reader.specs.declared.fault.TileKind.TheVariants.{RepeatedName}
use Rattle.tile_reader.specs.declared.tile.TileLayer.{TileLayer}
use Rattle.tile_reader.specs.Read.{refused}
use Rattle.tile_reader.specs.Layer.{new_name}
use Rattle.tile_reader.specs.Names.{names, layer_named}

-- ---- names that differ

lacks_push : (name : List ℕ) (earlier : List (List ℕ)) (last : List ℕ) → LacksKey name earlier → last ≢ name → LacksKey name (earlier ++ last ∷ [])
lacks_push name [] last h d = (d, tt)
lacks_push name (x ∷ earlier) last h d = (h.0, lacks_push name earlier last h.1 d)

distinct_push : (earlier : List (List ℕ)) (last : List ℕ) → HasDistinctKeys earlier → LacksKey last earlier → HasDistinctKeys (earlier ++ last ∷ [])
distinct_push [] last h k = (tt, tt)
distinct_push (x ∷ earlier) last h k = (lacks_push x earlier last h.0 (λ e. k.0 (sym e)), distinct_push earlier last h.1 k.1)

-- the names with one layer more
pub names_more : (layers : List TileLayer) (layer : TileLayer) → names (layers ++ layer ∷ []) ≡ names layers ++ layer.name ∷ []
names_more layers layer = map-append (λ (l : TileLayer). l.name) layers (layer ∷ [])

-- A layer whose name is not there may be added at the end.
pub names_differ : (layers : List TileLayer) (layer : TileLayer) → HasDistinctKeys (names layers) → LacksKey layer.name (names layers) → HasDistinctKeys (names (layers ++ layer ∷ []))
names_differ layers layer h k = subst HasDistinctKeys (sym (names_more layers layer)) (distinct_push (names layers) layer.name h k)

-- ---- the layer at the place of a name

none_step : (i : ℕ) (rest : Option ℕ) (same : Bool) → (if same then Some i else rest) ≡ None → (same ≡ false) × (rest ≡ None)
none_step i rest true e = absurd (cc)
none_step i rest false e = (refl, e)

-- no layer has a name with no place
pub none_named : (i : ℕ) (name : List ℕ) (layers : List TileLayer) → place_from i name (names layers) ≡ None → layer_named name layers ≡ None
none_named i name [] e = refl
none_named i name (layer ∷ layers) e =
    let parts = none_step i (place_from (i + 1) name (names layers)) (bytes_eq layer.name name) e in
    cond-false (bytes_eq layer.name name) (Some layer) (layer_named name layers) parts.0 ∙ none_named (i + 1) name layers parts.1

-- the place of a name, and which layer is there
record StandsAt (i : ℕ) (name : List ℕ) (layers : List TileLayer) (place : ℕ) : Type 0 where
  offset : ℕ
  at : place ≡ i + offset
  within : offset < length layers
  is : (d : TileLayer) → layer_named name layers ≡ Some (get_or layers offset d)

stands_step : (i : ℕ) (name : List ℕ) (layer : TileLayer) (layers : List TileLayer) (place : ℕ) (same : Bool) → bytes_eq layer.name name ≡ same → (if same then Some i else place_from (i + 1) name (names layers)) ≡ Some place → (place_from (i + 1) name (names layers) ≡ Some place → StandsAt (i + 1) name layers place) → StandsAt i name (layer ∷ layers) place
stands_step i name layer layers place true e f go =
    let here : i ≡ place = cc in
    record { offset = 0; at = omega arith; within = omega arith; is = λ d. cond-true (bytes_eq layer.name name) (Some layer) (layer_named name layers) e }
stands_step i name layer layers place false e f go =
    let later = go f in
    record { offset = suc later.offset; at = omega (arith, later.at); within = omega (arith, later.within); is = λ d. cond-false (bytes_eq layer.name name) (Some layer) (layer_named name layers) e ∙ later.is d }

stands : (i : ℕ) (name : List ℕ) (layers : List TileLayer) (place : ℕ) → place_from i name (names layers) ≡ Some place → StandsAt i name layers place
stands i name [] place e = absurd (cc)
stands i name (layer ∷ layers) place e = stands_step i name layer layers place (bytes_eq layer.name name) refl e (λ f. stands (i + 1) name layers place f)

-- the place of a name is one of a layer,
pub place_within : (name : List ℕ) (layers : List TileLayer) (place : ℕ) → place_from 0 name (names layers) ≡ Some place → place < length layers
place_within name layers place e = let found = stands 0 name layers place e in omega (arith, found.at, found.within)

-- and that layer has the name
pub named_at : (name : List ℕ) (layers : List TileLayer) (place : ℕ) (layer : TileLayer) → place_from 0 name (names layers) ≡ Some place → layer ≡ get_or layers place layer → layer_named name layers ≡ Some layer
named_at name layers place layer e is =
    let found = stands 0 name layers place e in
    let here : found.offset ≡ place = omega (arith, found.at) in
    found.is layer ∙ (ap (λ (n : ℕ). Some (get_or layers n layer)) here ∙ ap Some (sym is))

-- ---- a name that is there

bytes_eq_comm : (a b : List ℕ) → bytes_eq a b ≡ bytes_eq b a
bytes_eq_comm a b = same_from_decides {P = a ≡ b} (bytes_eq a b) (bytes_eq b a) (bytes_eq-Decides a b) (λ e. sym ((bytes_eq-Decides b a).0 e), λ p. (bytes_eq-Decides b a).1 (sym p))

some_step : (same : Bool) (layer : TileLayer) (rest : Option TileLayer) → is_some (if same then Some layer else rest) ≡ (same || is_some rest)
some_step true layer rest = refl
some_step false layer rest = refl

-- a layer has the name where it is one of their names
some_named : (name : List ℕ) (layers : List TileLayer) → is_some (layer_named name layers) ≡ list_any (bytes_eq name) (names layers)
some_named name [] = refl
some_named name (layer ∷ layers) =
    some_step (bytes_eq layer.name name) layer (layer_named name layers)
    ∙ (ap (λ (b : Bool). b || is_some (layer_named name layers)) (bytes_eq_comm layer.name name) ∙ ap (λ (b : Bool). bytes_eq name layer.name || b) (some_named name layers))

same_some : (found : Option (Bor TileLayer)) → is_some (option_map (λ (layer : Bor TileLayer). layer.now) found) ≡ is_some found
same_some None = refl
same_some (Some layer) = refl

-- a name is one of the names where its layer is found
pub any_found : (name : List ℕ) (layers : List TileLayer) (found : Option (Bor TileLayer)) → option_map (λ (layer : Bor TileLayer). layer.now) found ≡ layer_named name layers → list_any (bytes_eq name) (names layers) ≡ is_some found
any_found name layers found e = sym (some_named name layers) ∙ (ap is_some (sym e) ∙ same_some found)

lacks_step : (name x : List ℕ) (earlier : List (List ℕ)) (same : Bool) → bytes_eq name x ≡ same → (same || list_any (bytes_eq name) earlier) ≡ false → (list_any (bytes_eq name) earlier ≡ false → LacksKey name earlier) → LacksKey name (x ∷ earlier)
lacks_step name x earlier true is e go = absurd (cc)
lacks_step name x earlier false is e go = (λ q. let yes : bytes_eq name x ≡ true = (bytes_eq-Decides name x).1 (sym q) in cc, go e)

lacks_all : (name : List ℕ) (earlier : List (List ℕ)) → list_any (bytes_eq name) earlier ≡ false → LacksKey name earlier
lacks_all name [] e = tt
lacks_all name (x ∷ earlier) e = lacks_step name x earlier (bytes_eq name x) refl e (lacks_all name earlier)

lacks_new : (at : ℕ) (name new : List ℕ) (earlier : List (List ℕ)) (known : Bool) → list_any (bytes_eq name) earlier ≡ known → (if known then refused RepeatedName at else Ok name) ≡ Ok new → LacksKey new earlier
lacks_new at name new earlier true is e = absurd (cc)
lacks_new at name new earlier false is e = let same : name ≡ new = cc in subst (λ (n : List ℕ). LacksKey n earlier) same (lacks_all name earlier is)

-- a name that is new is none of the others
pub new_names_lack : (at : ℕ) (name new : List ℕ) (earlier : List (List ℕ)) → new_name at earlier name ≡ Ok new → LacksKey new earlier
new_names_lack at name new earlier e = lacks_new at name new earlier (list_any (bytes_eq name) earlier) refl e
