-- The indexes of source layers.
use Rattle.std.proofs.Common.{◌≡◌, ℕ, zero, suc, ◌+◌, ◌<◌, List, [], ◌∷◌, ◌++◌, length, get_or, set, take, drop, map, Bool, true, false, Option, refl, sym, ap, ◌∙◌, subst, arith, if◌then◌else◌}
use Rattle.std.specs.List.{swap}
use Rattle.std.specs.Prelude.{flat_map, None, Some, option_map, IfSome}
use Rattle.tile_reader.specs.declared.tile.Feature.{Feature}
use Rattle.style_layout.specs.Layers.{StyleLayer, has_features}
use Rattle.style_layout.specs.Shown.{SourceTile, layer_features, numbered, tile_features}
use Rattle.feature_index.specs.Indexes.{AreEntries, IsEntryOf, IsOfLayer, features_in, ids_of}
use Rattle.feature_index.specs.declared.indexes.SearchedLayer.{SearchedLayer}

module _ (tiles : List SourceTile) where
  pub entry_at : (es : List SearchedLayer) (place : ℕ) (d : SearchedLayer) → place < length es → AreEntries tiles es → IsEntryOf tiles (get_or es place d)
  entry_at [] place d h are = absurd (omega (arith, h))
  entry_at (e ∷ es) zero d h are = are.0
  entry_at (e ∷ es) (suc place) d h are = entry_at es place d (omega (arith, h)) are.1

  pub entries_set : (es : List SearchedLayer) (place : ℕ) (e : SearchedLayer) → AreEntries tiles es → IsEntryOf tiles e → AreEntries tiles (set es place e)
  entries_set [] place e are is = tt
  entries_set (x ∷ es) zero e are is = (is, are.1)
  entries_set (x ∷ es) (suc place) e are is = (are.0, entries_set es place e are.1 is)

  pub entries_last : (es : List SearchedLayer) (e : SearchedLayer) → AreEntries tiles es → IsEntryOf tiles e → AreEntries tiles (es ++ e ∷ [])
  entries_last [] e are is = (is, tt)
  entries_last (x ∷ es) e are is = (are.0, entries_last es e are.1 is)

  pub entries_swapped : (es : List SearchedLayer) (i j : ℕ) → i < length es → j < length es → AreEntries tiles es → AreEntries tiles (swap es i j)
  entries_swapped [] i j h k are = tt
  entries_swapped (d ∷ es) i j h k are =
      entries_set (set (d ∷ es) i (get_or (d ∷ es) j d)) j (get_or (d ∷ es) i d)
      (entries_set (d ∷ es) i (get_or (d ∷ es) j d) are (entry_at (d ∷ es) j d k are)) (entry_at (d ∷ es) i d h are)

  -- the features of a layer's source layer are those that it shows
  pub features_shown : (layer : StyleLayer) (entry : SearchedLayer) → IsOfLayer layer entry → has_features layer.type ≡ true
      → flat_map (features_in entry.source entry.source_layer) tiles ≡ layer_features tiles layer
  features_shown layer entry is has =
      (λ i. flat_map (features_in (is.0 i) (is.1 i)) tiles)
      ∙ sym (ap (λ b. flat_map (tile_features layer) (if b then tiles else [])) has)

  -- a layer with a feature is of a type that shows some
  pub has_some : (layer : StyleLayer) (first : ℕ × Feature) (later : List (ℕ × Feature))
      → numbered 0 (layer_features tiles layer) ≡ first ∷ later → has_features layer.type ≡ true
  has_some layer first later is = by_type (has_features layer.type) is where
    by_type : (b : Bool) → numbered 0 (flat_map (tile_features layer) (if b then tiles else [])) ≡ first ∷ later → b ≡ true
    by_type true e = refl
    by_type false e = cc

-- ---- an index is made

-- the ids of numbered features
abbrev pub ids_left : List (ℕ × Feature) → List (Option ℕ)
ids_left nfs = map (λ (nf : ℕ × Feature). nf.1.id) nfs

pub ids_numbered : (n : ℕ) (fs : List Feature) → ids_left (numbered n fs) ≡ ids_of fs
ids_numbered n [] = refl
ids_numbered n (f ∷ fs) = ap (λ ids. f.id ∷ ids) (ids_numbered (n + 1) fs)

pub take_more : (all : List (Option ℕ)) (n : ℕ) (id : Option ℕ) (later : List (Option ℕ)) → id ∷ later ≡ drop n all → take n all ++ id ∷ [] ≡ take (suc n) all
take_more [] zero id later e = cc
take_more [] (suc n) id later e = cc
take_more (x ∷ all) zero id later e = ap (λ ids. take 1 ids) e
take_more (x ∷ all) (suc n) id later e = ap (λ ids. x ∷ ids) (take_more all n id later e)

pub drop_more : (all : List (Option ℕ)) (n : ℕ) (id : Option ℕ) (later : List (Option ℕ)) → id ∷ later ≡ drop n all → later ≡ drop (suc n) all
drop_more [] zero id later e = cc
drop_more [] (suc n) id later e = cc
drop_more (x ∷ all) zero id later e = ap (λ ids. drop 1 ids) e
drop_more (x ∷ all) (suc n) id later e = drop_more all n id later e

pub take_all : (all : List (Option ℕ)) (n : ℕ) → [] ≡ drop n all → take n all ≡ all
take_all [] zero e = refl
take_all [] (suc n) e = refl
take_all (x ∷ all) zero e = cc
take_all (x ∷ all) (suc n) e = ap (λ ids. x ∷ ids) (take_all all n e)

-- ---- what a reference refers to

pub some_of : {A B : Type 0} (f : A → B) (Q : B → Type 0) (o : Option A) (p : Option B) → option_map f o ≡ p → IfSome p Q → IfSome o (λ a. Q (f a))
some_of f Q None p e q = tt
some_of f Q (Some a) p e q = subst (λ x. IfSome x Q) (sym e) q
