-- What is kept of several views follows an edit of their style, one view after another.
use Rattle.std.proofs.Common.{◌≡◌, ℕ, zero, suc, ◌+◌, ◌<◌, ◌≤◌, List, [], ◌∷◌, length, get_or, Bool, refl, sym, ap, subst, arith}
use Rattle.std.specs.Prelude.{slice_set}
use Rattle.decimal_json.specs.Tree.{Tree}
use Rattle.edit_script.specs.Edit.{Edit}
use Rattle.kept_layers.specs.Holding.{Pairwise}
use Rattle.kept_layers.specs.View.{globals_in, tiles_in, trees_in}
use Rattle.kept_layers.specs.declared.kept_layers.KeptLayers.{KeptLayers}
use Rattle.kept_layers.specs.declared.style_layers.StyleLayers.{StyleLayers}
use Rattle.prop_values.specs.Data.{Data}
use Rattle.style_layout.specs.Shown.{SourceTile}
use Rattle.edit_session.specs.Answering.{AreAccepted, FollowsEdit, IsAccepted, IsFollowed}
use Rattle.edit_session.specs.OpenViews.{shown_in}
use Rattle.edit_session.specs.SessionState.{SessionState}
use Rattle.edit_session.specs.View.{view_seen}
use Rattle.edit_session.specs.declared.following.BeforeEdit.{BeforeEdit}
use Rattle.edit_session.specs.declared.view.View.{View}

-- ---- one view after another

module _ (tiles : List SourceTile) (scripts : List ℕ → Bool) (p : SessionState) (edit : Edit) where
  -- what is kept of the first views has followed, and the other views are as they were
  abbrev pub FirstFollowed : ℕ → List View → List View → Type 0
  FirstFollowed zero olds news = news ≡ olds
  FirstFollowed (suc n) [] news = ⊥
  FirstFollowed (suc n) (o ∷ olds) [] = ⊥
  FirstFollowed (suc n) (o ∷ olds) (v ∷ news) = IsFollowed tiles scripts p edit o v × FirstFollowed n olds news

  -- the next view is as it was
  pub next_same : (n : ℕ) (olds news : List View) (d : View) → FirstFollowed n olds news → get_or news n d ≡ get_or olds n d
  next_same zero olds news d first = ap (λ vs. get_or vs 0 d) first
  next_same (suc n) [] news d first = absurd first
  next_same (suc n) (o ∷ olds) [] d first = absurd first
  next_same (suc n) (o ∷ olds) (v ∷ news) d first = next_same n olds news d first.1

  -- what is kept of it follows too
  next_set : (n : ℕ) (olds news : List View) (d v : View) → n < length olds → FirstFollowed n olds news
      → IsFollowed tiles scripts p edit (get_or olds n d) v → FirstFollowed (suc n) olds (slice_set news n v)
  next_set n [] news d v within first is = absurd (omega (arith, within))
  next_set zero (o ∷ olds) news d v within first is =
      subst (λ vs. FirstFollowed 1 (o ∷ olds) (slice_set vs 0 v)) (sym first) (is, refl)
  next_set (suc n) (o ∷ olds) [] d v within first is = absurd first
  next_set (suc n) (o ∷ olds) (w ∷ news) d v within first is =
      (first.0, next_set n olds news d v (omega (arith, within)) first.1 is)

  view_followed : (old : View) (kept : KeptLayers) → FollowsEdit tiles scripts (shown_in p (view_seen old)) edit kept
      → IsFollowed tiles scripts p edit old (record old { kept = kept })
  view_followed old kept followed = record {
    seen = ap (λ ks. record (view_seen old) { kept = ks }) followed.seen;
    right = followed.right;
  }

  pub next_followed : (n : ℕ) (olds news : List View) (d : View) (kept : KeptLayers) → n < length olds → FirstFollowed n olds news
      → FollowsEdit tiles scripts (shown_in p (view_seen (get_or olds n d))) edit kept
      → FirstFollowed (n + 1) olds (slice_set news n (record (get_or news n d) { kept = kept }))
  next_followed n olds news d kept within first followed =
      let more : suc n ≡ n + 1 = omega arith in
      let this : IsFollowed tiles scripts p edit (get_or olds n d) (record (get_or news n d) { kept = kept }) =
      subst (λ v. IsFollowed tiles scripts p edit (get_or olds n d) (record v { kept = kept })) (sym (next_same n olds news d first))
      (view_followed (get_or olds n d) kept followed) in
      subst (λ m. FirstFollowed m olds (slice_set news n (record (get_or news n d) { kept = kept }))) more
      (next_set n olds news d (record (get_or news n d) { kept = kept }) within first this)

  -- what is kept of all has followed
  pub all_followed : (n : ℕ) (olds news : List View) → length olds ≤ n → FirstFollowed n olds news
      → Pairwise (IsFollowed tiles scripts p edit) olds news
  all_followed zero [] news past first = subst (Pairwise (IsFollowed tiles scripts p edit) []) (sym first) tt
  all_followed zero (o ∷ olds) news past first = absurd (omega (arith, past))
  all_followed (suc n) [] news past first = absurd first
  all_followed (suc n) (o ∷ olds) [] past first = absurd first
  all_followed (suc n) (o ∷ olds) (v ∷ news) past first = (first.0, all_followed n olds news (omega (arith, past)) first.1)

  module _ (globals : List (List ℕ × Data)) (ts : List Tree) (before : BeforeEdit) where
    accepted_at : (n : ℕ) (vs : List View) (d : View) → n < length vs → AreAccepted tiles globals ts scripts p edit before vs
        → IsAccepted tiles globals ts scripts (shown_in p (view_seen (get_or vs n d))) edit before (get_or vs n d).kept
    accepted_at n [] d within accepted = absurd (omega (arith, within))
    accepted_at zero (v ∷ vs) d within accepted = accepted.0
    accepted_at (suc n) (v ∷ vs) d within accepted = accepted_at n vs d (omega (arith, within)) accepted.1

    -- the edit was accepted by what is kept of the next view
    pub next_accepted : (n : ℕ) (olds news : List View) (d : View) → n < length olds → FirstFollowed n olds news
        → AreAccepted tiles globals ts scripts p edit before olds
        → IsAccepted tiles globals ts scripts (shown_in p (view_seen (get_or olds n d))) edit before (get_or news n d).kept
    next_accepted n olds news d within first accepted =
        subst (λ v. IsAccepted tiles globals ts scripts (shown_in p (view_seen (get_or olds n d))) edit before v.kept)
        (sym (next_same n olds news d first)) (accepted_at n olds d within accepted)

-- ---- the layers that a style shows

module _ (style : StyleLayers) (tiles : List SourceTile) (globals : List (List ℕ × Data)) (ts : List Tree)
    (over : tiles_in style ≡ tiles) (shown_by : globals_in style ≡ globals) (layers : trees_in style ≡ ts)
    (scripts : List ℕ → Bool) (p : SessionState) (edit : Edit) (kept : KeptLayers) where
  pub accepted_in : (before : BeforeEdit) → IsAccepted tiles globals ts scripts p edit before kept
      → IsAccepted (tiles_in style) (globals_in style) (trees_in style) scripts p edit before kept
  accepted_in before accepted =
      subst (λ x. IsAccepted x (globals_in style) (trees_in style) scripts p edit before kept) (sym over)
      (subst (λ x. IsAccepted tiles x (trees_in style) scripts p edit before kept) (sym shown_by)
      (subst (λ x. IsAccepted tiles globals x scripts p edit before kept) (sym layers) accepted))

  pub followed_in : FollowsEdit (tiles_in style) scripts p edit kept → FollowsEdit tiles scripts p edit kept
  followed_in followed = subst (λ x. FollowsEdit x scripts p edit kept) over followed
