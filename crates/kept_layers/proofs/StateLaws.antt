-- The cells of a layer's features that have an id.
use Rattle.std.proofs.Common.{◌≡◌, ◌≢◌, ℕ, zero, suc, ◌+◌, ◌<◌, List, [], ◌∷◌, Bool, true, false, ◌&&◌, ◌||◌, nat_eq, get_or, Option, Some, None, refl, sym, ap, ◌∙◌, arith, if◌then◌else◌}
use Rattle.std.specs.List.{slice_get}
use Rattle.std.specs.Option.{option_and_then, option_eq}
use Rattle.std.proofs.lemmas.Bool.Decides.{nat_tests}
use Rattle.std.specs.Str.{bytes_eq}
use Rattle.tile_reader.specs.declared.tile.Feature.{Feature}
use Rattle.operator_values.specs.Evaluated.{Evaluated}
use Rattle.layer_buckets.specs.Cells.{feature_eq}
use Rattle.style_layout.specs.Layers.{StyleLayer}
use Rattle.style_layout.specs.Shown.{SourceTile, layer_features, numbered}
use Rattle.kept_layers.specs.KeptLayers.{id_at, is_feature}
use Rattle.kept_layers.specs.Turning.{is_listed}
use Rattle.feature_index.specs.Ids.{IsIndexed, is_among, is_id, numbers_of}
use Rattle.feature_index.specs.Indexes.{ids_of}
use Rattle.feature_index.specs.declared.ids.IdIndex.{IdIndex}
use Rattle.feature_index.proofs.ChainLaws.{among_all, numbers_found}

-- a feature among these has an id and this number
abbrev pub hits : ℕ → List (ℕ × Feature) → Option ℕ → Bool
hits id [] f = false
hits id (nf ∷ nfs) f = (is_id id nf.1.id && feature_eq (Some nf.0) f) || hits id nfs f

other_number : (b : Bool) (k n : ℕ) → k ≢ n → (b && nat_eq k n) ≡ false
other_number true k n e = grind (arith, nat_tests)
other_number false k n e = refl

this_number : (b : Bool) (k n : ℕ) → k ≡ n → (b && nat_eq k n) ≡ b
this_number true k n e = grind (arith, nat_tests)
this_number false k n e = refl

or_none : (a b : Bool) → b ≡ false → (a || b) ≡ a
or_none true b e = refl
or_none false b e = e

first_none : (a b : Bool) → a ≡ false → (a || b) ≡ b
first_none true b e = cc
first_none false b e = refl

-- numbers below the first
hits_below : (id k n : ℕ) (fs : List Feature) → n < k → hits id (numbered k fs) (Some n) ≡ false
hits_below id k n [] h = refl
hits_below id k n (f ∷ fs) h =
    first_none (is_id id f.id && nat_eq k n) (hits id (numbered (k + 1) fs) (Some n)) (other_number (is_id id f.id) k n (λ e. absurd (omega (arith, h, e))))
    ∙ hits_below id (k + 1) n fs (omega (arith, h))

hits_at : (id k m n : ℕ) (fs : List Feature) → n ≡ k + m
    → hits id (numbered k fs) (Some n) ≡ is_id id (option_and_then (λ (f : Feature). f.id) (slice_get fs m))
hits_at id k m n [] e = refl
hits_at id k zero n (f ∷ fs) e =
    or_none (is_id id f.id && nat_eq k n) (hits id (numbered (k + 1) fs) (Some n)) (hits_below id (k + 1) n fs (omega (arith, e)))
    ∙ this_number (is_id id f.id) k n (omega (arith, e))
hits_at id k (suc m) n (f ∷ fs) e =
    first_none (is_id id f.id && nat_eq k n) (hits id (numbered (k + 1) fs) (Some n)) (other_number (is_id id f.id) k n (λ same. absurd (omega (arith, e, same))))
    ∙ hits_at id (k + 1) m n fs (omega (arith, e))

no_feature_of : (id : ℕ) (nfs : List (ℕ × Feature)) → hits id nfs None ≡ false
no_feature_of id [] = refl
no_feature_of id (nf ∷ nfs) = first_none (is_id id nf.1.id && false) (hits id nfs None) (and_none (is_id id nf.1.id)) ∙ no_feature_of id nfs where
  and_none : (b : Bool) → (b && false) ≡ false
  and_none true = refl
  and_none false = refl

-- among all features of a layer
pub hits_all : (id : ℕ) (tiles : List SourceTile) (layer : StyleLayer) (f : Option ℕ)
    → hits id (numbered 0 (layer_features tiles layer)) f ≡ is_id id (id_at tiles layer f)
hits_all id tiles layer (Some n) = hits_at id 0 n n (layer_features tiles layer) (omega arith)
hits_all id tiles layer None = no_feature_of id (numbered 0 (layer_features tiles layer))

-- ---- one feature after another

-- what is left of a kept value once the features of a walk are dropped
abbrev pub left_by : (here hit reads : Bool) → Option Evaluated → Option Evaluated
left_by here hit reads o = if (here && hit) && reads then None else o

pub left_next : (here reads this later : Bool) (o : Option Evaluated)
    → left_by here later reads (left_by here this reads o) ≡ left_by here (this || later) reads o
left_next true true true true o = refl
left_next true true true false o = refl
left_next true true false true o = refl
left_next true true false false o = refl
left_next true false true true o = refl
left_next true false true false o = refl
left_next true false false true o = refl
left_next true false false false o = refl
left_next false reads this later o = refl

pub left_none : (here reads : Bool) (o : Option Evaluated) → left_by here false reads o ≡ o
left_none true reads o = refl
left_none false reads o = refl

pub hit_first : (id : ℕ) (nf : ℕ × Feature) (nfs : List (ℕ × Feature)) (f : Option ℕ) → is_id id nf.1.id ≡ true
    → hits id (nf ∷ nfs) f ≡ (feature_eq (Some nf.0) f || hits id nfs f)
hit_first id nf nfs f e = ap (λ b. (b && feature_eq (Some nf.0) f) || hits id nfs f) e

-- ---- the layers that show a source layer

pub feature_is : (source layer : List ℕ) (id : ℕ) (shown : StyleLayer) (i : Option ℕ)
    → bytes_eq source shown.source ≡ true → bytes_eq layer shown.source_layer ≡ true → is_feature source layer id shown i ≡ is_id id i
feature_is source layer id shown (Some i) e f = ap (λ b. b && (bytes_eq layer shown.source_layer && nat_eq id i)) e ∙ ap (λ b. b && nat_eq id i) f
feature_is source layer id shown None e f = refl

-- a feature is found by its id
pub found_by : (id : ℕ) (o : Option ℕ) → true ≡ option_eq nat_eq o (Some id) → is_id id o ≡ true
found_by id None h = cc
found_by id (Some i) h = turned (nat_eq i id) refl (sym h) where
  turned : (t : Bool) → nat_eq i id ≡ t → nat_eq i id ≡ true → nat_eq id i ≡ true
  turned t is e = grind (arith, nat_tests, e)

-- a layer of another source or source layer
pub not_shown : (source layer : List ℕ) (id : ℕ) (shown : StyleLayer) (i : Option ℕ)
    → (bytes_eq source shown.source && bytes_eq layer shown.source_layer) ≡ false → is_feature source layer id shown i ≡ false
not_shown source layer id shown None e = refl
not_shown source layer id shown (Some i) e = by_tests (bytes_eq source shown.source) (bytes_eq layer shown.source_layer) (nat_eq id i) e where
  by_tests : (a b t : Bool) → (a && b) ≡ false → (a && (b && t)) ≡ false
  by_tests true true t h = cc
  by_tests true false t h = refl
  by_tests false b t h = refl

-- ---- features by an index

pub listed_none : (f : Option ℕ) → is_listed [] f ≡ false
listed_none (Some m) = refl
listed_none None = refl

pub listed_first : (n : ℕ) (ns : List ℕ) (f : Option ℕ) → is_listed (n ∷ ns) f ≡ (feature_eq (Some n) f || is_listed ns f)
listed_first n ns (Some m) = refl
listed_first n ns None = refl

id_of_feature : (fs : List Feature) (n : ℕ) → get_or (ids_of fs) n None ≡ option_and_then (λ (f : Feature). f.id) (slice_get fs n)
id_of_feature [] zero = refl
id_of_feature [] (suc n) = refl
id_of_feature (f ∷ fs) zero = refl
id_of_feature (f ∷ fs) (suc n) = id_of_feature fs n

-- those that the index of a layer's features gives are those that have the id
pub listed_all : (index : IdIndex) (id : ℕ) (tiles : List SourceTile) (layer : StyleLayer) (f : Option ℕ)
    → IsIndexed index (ids_of (layer_features tiles layer)) → is_listed (numbers_of index id) f ≡ is_id id (id_at tiles layer f)
listed_all index id tiles layer (Some n) is =
    ap (is_among n) (numbers_found index (ids_of (layer_features tiles layer)) id is)
    ∙ (among_all (ids_of (layer_features tiles layer)) id n ∙ ap (is_id id) (id_of_feature (layer_features tiles layer) n))
listed_all index id tiles layer None is = refl
