-- A listed path is that of a filter that is false.
use Rattle.std.proofs.Common.{◌≡◌, ◌∙◌, ◌+◌, ℕ, zero, suc, List, [], ◌∷◌, refl, ap, sym}
use Rattle.std.specs.Prelude.{Bool, true, false, not, ◌&&◌, if◌then◌else◌, Option, Some, None}
use Rattle.std.specs.List.{slice_get}
use Rattle.decimal_json.specs.Tree.{Tree, null, boolean, number, text, list, object}
use Rattle.decimal_json.specs.declared.paths.PathPart.{PathPart}
use Rattle.prop_values.specs.Data.{Data}
use Rattle.eval_face.specs.World.{World}
use Rattle.style_layout.specs.Forms.{layer_filter, lets_pass}
use Rattle.style_parts.specs.Parts.{layers_of}
use Rattle.style_simplify.specs.Simple.{listed}
use Rattle.style_simplify.specs.SimplifiedStyle.{became_false, filter_of, filter_path, is_false, never_from, simplified}
use Rattle.simplify_laws.specs.NeverLaw.{ListedFiltersPassNothing}

-- the layer after it whose filter became false
record Listed (after : List Tree) (path : List PathPart) : Type 0 where
  number : ℕ
  before : Tree
  place : path ≡ filter_path number
  became : became_false before (slice_get after number) ≡ true

listed_here : (i : ℕ) (layer : Tree) (after : List Tree) (rest : List (List PathPart)) (k : ℕ) (path : List PathPart) (b : Bool) → became_false layer (slice_get after i) ≡ b →
    ((n : ℕ) → slice_get rest n ≡ Some path → Listed after path) → slice_get (if b then filter_path i ∷ rest else rest) k ≡ Some path → Listed after path
listed_here i layer after rest zero path true q later h = let same : filter_path i ≡ path = cc in record { number = i; before = layer; place = sym same; became = q }
listed_here i layer after rest (suc k) path true q later h = later k h
listed_here i layer after rest k path false q later h = later k h

listed_in : (i : ℕ) (before after : List Tree) (k : ℕ) (path : List PathPart) → slice_get (never_from i before after) k ≡ Some path → Listed after path
listed_in i [] after k path h = absurd (cc)
listed_in i (layer ∷ layers) after k path h =
    listed_here i layer after (never_from (i + 1) layers after) k path (became_false layer (slice_get after i)) refl (λ n g. listed_in (i + 1) layers after n path g) h

is_false_of : (o : Option Tree) → is_false o ≡ true → o ≡ Some (boolean false)
is_false_of None h = absurd (cc)
is_false_of (Some null) h = absurd (cc)
is_false_of (Some (boolean true)) h = absurd (cc)
is_false_of (Some (boolean false)) h = refl
is_false_of (Some (number n)) h = absurd (cc)
is_false_of (Some (text s)) h = absurd (cc)
is_false_of (Some (list ts)) h = absurd (cc)
is_false_of (Some (object fs)) h = absurd (cc)

first_is : (a b : Bool) → (a && b) ≡ true → a ≡ true
first_is true b h = refl
first_is false b h = absurd (cc)

became_of : (before : Tree) (after : Option Tree) → became_false before after ≡ true → (layer : Tree) × (after ≡ Some layer) × (filter_of layer ≡ Some (boolean false))
became_of before None h = absurd (cc)
became_of before (Some layer) h = (layer, refl, is_false_of (filter_of layer) (first_is (is_false (filter_of layer)) (not (is_false (filter_of before))) h))

-- false is an expression that no feature passes
false_passes_none : (globals : List (List ℕ × Data)) (world : World) → lets_pass (layer_filter globals (Some (boolean false))) world ≡ false
false_passes_none globals world = refl

pub listed_filters : ListedFiltersPassNothing
listed_filters document k path h =
    let l = listed_in 0 (listed (layers_of document)) (listed (layers_of (simplified document))) k path h in
    let b = became_of l.before (slice_get (listed (layers_of (simplified document))) l.number) l.became in
    record {
      number = l.number;
      layer = b.0;
      place = l.place;
      found = b.1;
      passes = λ globals world. ap (λ o. lets_pass (layer_filter globals o) world) b.2 ∙ false_passes_none globals world;
    }
