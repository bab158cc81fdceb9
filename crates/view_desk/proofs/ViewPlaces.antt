-- The view of a name by its place among the views of a desk.
use Rattle.std.proofs.Common.{◌≡◌, ◌∙◌, ℕ, zero, suc, List, [], ◌∷◌, get_or, set, map, refl, ap, sym, Bool, true, false, Option, Some, None}
use Rattle.std.specs.List.{position}
use Rattle.std.specs.Prelude.{is_some, option_map, remove, if◌then◌else◌}
use Rattle.std.specs.Str.{bytes_eq}
use Rattle.edit_session.specs.OpenViews.{OpenView}
use Rattle.edit_session.specs.View.{view_seen}
use Rattle.edit_session.specs.declared.view.View.{View}
use Rattle.style_edits.proofs.PlaceLaws.{first_place, first_is}
use Rattle.view_desk.specs.DeskState.{view_named, with_view, without_view}

module _ (name : List ℕ) where
  abbrev pub has_name : View → Bool
  has_name v = bytes_eq v.name name

  abbrev first : List View → Option ℕ
  first = first_place has_name

  none_step : (x : View) (xs : List View) (b : Bool) (o : Option ℕ) → (if b then Some 0 else option_map suc o) ≡ None
      → (o ≡ None → view_named name (map view_seen xs) ≡ None) → (if b then Some (view_seen x) else view_named name (map view_seen xs)) ≡ None
  none_step x xs true o h go = absurd (cc)
  none_step x xs false (Some k) h go = absurd (cc)
  none_step x xs false None h go = go refl

  nowhere : (vs : List View) → first vs ≡ None → view_named name (map view_seen vs) ≡ None
  nowhere [] h = refl
  nowhere (x ∷ xs) h = none_step x xs (has_name x) (first xs) h (nowhere xs)

  pub is_nowhere : (vs : List View) → None ≡ position has_name vs → view_named name (map view_seen vs) ≡ None
  is_nowhere vs h = nowhere vs (sym (h ∙ first_is has_name vs))

  -- what the view of the name is, which is at this place, and what the views are with another one there or without it
  pub record IsAt (vs : List View) (i : ℕ) : Type 0 where
    pub view : OpenView
    pub named : view_named name (map view_seen vs) ≡ Some view
    pub seen : (d : View) → view_seen (get_or vs i d) ≡ view
    pub without : map view_seen (remove vs i) ≡ without_view name (map view_seen vs)
    pub changed : (u : View) → map view_seen (set vs i u) ≡ with_view name (view_seen u) (map view_seen vs)

  at_step : (x : View) (xs : List View) (b : Bool) (o : Option ℕ) (i : ℕ) → has_name x ≡ b → (if b then Some 0 else option_map suc o) ≡ Some i
      → ((k : ℕ) → o ≡ Some k → IsAt xs k) → IsAt (x ∷ xs) i
  at_step x xs true o zero is h go = record {
    view = view_seen x;
    named = ap (λ (c : Bool). if c then Some (view_seen x) else view_named name (map view_seen xs)) is;
    seen = λ d. refl;
    without = sym (ap (λ (c : Bool). if c then map view_seen xs else view_seen x ∷ without_view name (map view_seen xs)) is);
    changed = λ u. sym (ap (λ (c : Bool). if c then view_seen u ∷ map view_seen xs else view_seen x ∷ with_view name (view_seen u) (map view_seen xs)) is);
  }
  at_step x xs true o (suc i) is h go = absurd (cc)
  at_step x xs false None i is h go = absurd (cc)
  at_step x xs false (Some k) zero is h go = absurd (cc)
  at_step x xs false (Some k) (suc i) is h go =
      let same : k ≡ i = cc in
      let rest = go i (ap Some same) in
      record {
        view = rest.view;
        named = ap (λ (c : Bool). if c then Some (view_seen x) else view_named name (map view_seen xs)) is ∙ rest.named;
        seen = λ d. rest.seen d;
        without = ap (λ vs. view_seen x ∷ vs) rest.without
            ∙ sym (ap (λ (c : Bool). if c then map view_seen xs else view_seen x ∷ without_view name (map view_seen xs)) is);
        changed = λ u. ap (λ vs. view_seen x ∷ vs) (rest.changed u)
            ∙ sym (ap (λ (c : Bool). if c then view_seen u ∷ map view_seen xs else view_seen x ∷ with_view name (view_seen u) (map view_seen xs)) is);
      }

  at : (vs : List View) (i : ℕ) → first vs ≡ Some i → IsAt vs i
  at [] i h = absurd (cc)
  at (x ∷ xs) i h = at_step x xs (has_name x) (first xs) i refl h (at xs)

  pub is_at : (vs : List View) (i : ℕ) → Some i ≡ position has_name vs → IsAt vs i
  is_at vs i h = at vs i (sym (h ∙ first_is has_name vs))

  pub is_there : (vs : List View) (o : Option ℕ) → o ≡ position has_name vs → is_some o ≡ is_some (view_named name (map view_seen vs))
  is_there vs None h = sym (ap is_some (is_nowhere vs h))
  is_there vs (Some i) h = sym (ap is_some (is_at vs i h).named)
