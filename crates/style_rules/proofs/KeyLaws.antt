-- What is reported of a member, by what its key names.
use Rattle.std.specs.Prelude.{◌≡◌, ℕ, List, [], ◌∷◌, ◌++◌, codes, Bool, true, false, Some}
use Rattle.std.specs.Str.{bytes_eq}
use Rattle.std.proofs.Common.{refl, sym, ap, subst, ◌∙◌, inl, inr}
use Rattle.std.proofs.lemmas.Bool.{cases_Bool}
use Rattle.std.proofs.lemmas.Slice.Eq.{bytes_eq-Decides}
use Rattle.decimal_json.specs.Tree.{Tree, null, boolean, number, text, list, object}
use Rattle.decimal_json.specs.declared.paths.PathPart.{PathPart}
use Rattle.decimal_json.specs.declared.paths.PathPart.TheVariants.{Key}
use Rattle.decimal_json.specs.Accessors.{member, trees_in}
use Rattle.style_parts.specs.Parts.{layers_of, sources_of}
use Rattle.style_rules.specs.Findings.{reports_or}
use Rattle.style_rules.specs.LayerContext.{LayerContext}
use Rattle.style_rules.specs.Keys.{root_key, member_key, root_keyed_reports, keyed_reports}
use Rattle.style_rules.specs.Levels.{items_or_none, layers_reports, member_reports, root_member_reports}
use Rattle.style_rules.specs.Places.{unless_broken, used_in}
use Rattle.style_rules.specs.Rules.{are_layers}

is_key : (k key : List ℕ) → bytes_eq k key ≡ true → key ≡ k
is_key k key h = sym ((bytes_eq-Decides k key).0 h)

-- ---- a member of a layer

module _ (context : LayerContext) (used : List ℕ → Bool) (path : List PathPart) (t : Tree) where
  abbrev Keyed : List ℕ → Type 0
  Keyed m = keyed_reports context used (member_key m) (path ++ Key m ∷ []) t ≡ member_reports context used path m t

  -- where the key is this one, and where it is not
  by_key : (m key : List ℕ) → Keyed key → (bytes_eq m key ≡ false → Keyed m) → Keyed m
  by_key m key same other = elim (cases_Bool (bytes_eq m key)) [ inl is ↦ subst Keyed (is_key m key is) same | inr not_ ↦ other not_ ]

  pub member_by_key : (m : List ℕ) → keyed_reports context used (member_key m) (path ++ Key m ∷ []) t ≡ member_reports context used path m t
  member_by_key m =
      by_key m (codes "id") refl (λ a.
      by_key m (codes "type") refl (λ b.
      by_key m (codes "source") refl (λ c.
      by_key m (codes "source-layer") refl (λ d.
      by_key m (codes "minzoom") refl (λ e.
      by_key m (codes "maxzoom") refl (λ f.
      by_key m (codes "layout") refl (λ g.
      by_key m (codes "paint") refl (λ h.
      by_key m (codes "filter") refl (λ i. rw (a, b, c, d, e, f, g, h, i) refl)))))))))

-- ---- a member of the document

items_are : (t : Tree) → items_or_none t ≡ trees_in (Some t)
items_are null = refl
items_are (boolean b) = refl
items_are (number n) = refl
items_are (text s) = refl
items_are (list ts) = refl
items_are (object fs) = refl

module _ (document : Tree) (t : Tree) where
  abbrev RootKeyed : List ℕ → Type 0
  RootKeyed k = member k document ≡ Some t → root_keyed_reports (sources_of document) (root_key k) (Key k ∷ []) t ≡ root_member_reports document k t

  by_root_key : (k key : List ℕ) → RootKeyed key → (bytes_eq k key ≡ false → RootKeyed k) → RootKeyed k
  by_root_key k key same other = elim (cases_Bool (bytes_eq k key)) [ inl is ↦ subst RootKeyed (is_key k key is) same | inr not_ ↦ other not_ ]

  layers_keyed : RootKeyed (codes "layers")
  layers_keyed found =
      let same : items_or_none t ≡ layers_of document = items_are t ∙ sym (ap trees_in found) in
      let path = Key (codes "layers") ∷ [] in
      ap (λ ts. reports_or (unless_broken 5 (are_layers t)) path (layers_reports (sources_of document) (used_in ts) path 0 (items_or_none t))) same

  pub root_by_key : (k : List ℕ) → member k document ≡ Some t → root_keyed_reports (sources_of document) (root_key k) (Key k ∷ []) t ≡ root_member_reports document k t
  root_by_key k =
      by_root_key k (codes "version") (λ found. refl) (λ a.
      by_root_key k (codes "sources") (λ found. refl) (λ b.
      by_root_key k (codes "layers") layers_keyed (λ c.
      by_root_key k (codes "state") (λ found. refl) (λ d found. rw (a, b, c, d) refl))))
