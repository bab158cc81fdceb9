-- What a map by names shows once the value at one name has changed.
use Rattle.std.proofs.Common.{◌≡◌, ℕ, List, [], refl, ap, ◌∙◌, Bool, true, false}
use Rattle.std.specs.Prelude.{◌&&◌, Option, Some, option_map, unwrap_or, string_bytes, nat_eq, if◌then◌else◌}
use Rattle.indexmap.specs.IndexMap.{IndexMap}
use Rattle.std.specs.Map.{lookup}
use Rattle.std.specs.Str.{bytes_eq}
use Rattle.std.proofs.lemmas.Slice.Eq.{bytes_eq-Decides}
use Rattle.std.specs.declared.string.String.{String}
use Rattle.std.specs.declared.alloc.Global.{Global}
use Rattle.feature_states.specs.declared.feature_members.FeatureMembers.{FeatureMembers}
use Rattle.feature_states.specs.Members.{members_of_id, members_in_layer}

-- what is seen inside the value at a name, or d where there is none
abbrev pub seen : {X L : Type 0} → (X → L) → L → Option X → L
seen inner d found = unwrap_or (option_map inner found) d

changed_by : {X L : Type 0} (inner : X → L) (t : Bool) (f : L → L) (d : L) (old new : List ℕ → Option X) (name q : List ℕ) (x : X) (same : Bool) → bytes_eq name q ≡ same → inner x ≡ (if t then f (seen inner d (old name)) else seen inner d (old name)) → new q ≡ (if same then Some x else old q) → seen inner d (new q) ≡ (if same && t then f (seen inner d (old q)) else seen inner d (old q))
changed_by inner t f d old new name q x true e h n =
    ap (seen inner d) n ∙ (h ∙ ap (λ k. if t then f (seen inner d (old k)) else seen inner d (old k)) ((bytes_eq-Decides name q).0 e))
changed_by inner t f d old new name q x false e h n = ap (seen inner d) n

-- The value x at a name, which differs from the old one by f where the test t holds, is seen there alone.
pub changed : {X L : Type 0} (inner : X → L) (t : Bool) (f : L → L) (d : L) (old new : List ℕ → Option X) (name : List ℕ) (x : X) → inner x ≡ (if t then f (seen inner d (old name)) else seen inner d (old name)) → ((q : List ℕ) → new q ≡ (if bytes_eq name q then Some x else old q)) → (q : List ℕ) → seen inner d (new q) ≡ (if bytes_eq name q && t then f (seen inner d (old q)) else seen inner d (old q))
changed inner t f d old new name x h n q = changed_by inner t f d old new name q x (bytes_eq name q) refl h (n q)

unchanged_by : {X L : Type 0} (inner : X → L) (d : L) (old new : List ℕ → Option X) (name q : List ℕ) (x : X) (same : Bool) → bytes_eq name q ≡ same → inner x ≡ seen inner d (old name) → new q ≡ (if same then Some x else old q) → seen inner d (new q) ≡ seen inner d (old q)
unchanged_by inner d old new name q x true e h n = ap (seen inner d) n ∙ (h ∙ ap (λ k. seen inner d (old k)) ((bytes_eq-Decides name q).0 e))
unchanged_by inner d old new name q x false e h n = ap (seen inner d) n

-- A value that is seen as the old one changes nothing.
pub unchanged : {X L : Type 0} (inner : X → L) (d : L) (old new : List ℕ → Option X) (name : List ℕ) (x : X) → inner x ≡ seen inner d (old name) → ((q : List ℕ) → new q ≡ (if bytes_eq name q then Some x else old q)) → (q : List ℕ) → seen inner d (new q) ≡ seen inner d (old q)
unchanged inner d old new name x h n q = unchanged_by inner d old new name q x (bytes_eq name q) refl h (n q)

-- An empty map has no members.
pub none_of_id : {S : Type 0} (ids : IndexMap ℕ FeatureMembers S) (i : ℕ) → ids.entries ≡ [] → members_of_id ids i ≡ []
none_of_id ids i e = ap (λ es. unwrap_or (lookup (nat_eq i) es) []) e

pub none_in_layer : {S T : Type 0} (layers : IndexMap (String Global) (IndexMap ℕ FeatureMembers S) T) (l : List ℕ) (i : ℕ) → layers.entries ≡ [] → members_in_layer layers l i ≡ []
none_in_layer layers l i e = ap (λ es. seen (λ ids. members_of_id ids i) [] (lookup (λ k. bytes_eq l (string_bytes k)) es)) e
