-- One feature more.
use Rattle.std.proofs.Common.{◌≡◌, ◌∙◌, sym, ap, ℕ, suc, ◌+◌, ◌-◌, ◌<◌, List, [], ◌∷◌, ◌++◌, arith}
use Rattle.std.proofs.lemmas.List.{append_assoc}
use Rattle.tile_reader.specs.declared.tile.Feature.{Feature}
use Rattle.generated_runs.specs.GeneratedTile.{ranked_point, ranked_points}
use Rattle.generated_runs.specs.Ranks.{next, rank}

pub one_more : (made new : List Feature) (n i x y : ℕ) (f : Feature) (all : List Feature) → i < n → y ≡ next x → f ≡ ranked_point (i + 1) (rank y)
    → new ≡ made ++ f ∷ [] → made ++ ranked_points (n - i) (i + 1) x ≡ all → new ++ ranked_points (n - (i + 1)) (i + 1 + 1) y ≡ all
one_more made new n i x y f all h p q e is =
    let m : n - i ≡ suc (n - (i + 1)) = omega (arith, h) in
    let later : i + 1 + 1 ≡ suc (i + 1) = omega arith in
    let first : f ≡ ranked_point (i + 1) (rank (next x)) = q ∙ ap (λ (z : ℕ). ranked_point (i + 1) (rank z)) p in
    ap (λ (xs : List Feature). xs ++ ranked_points (n - (i + 1)) (i + 1 + 1) y) e
    ∙ (append_assoc made (f ∷ []) (ranked_points (n - (i + 1)) (i + 1 + 1) y)
    ∙ ((λ j. made ++ first j ∷ ranked_points (n - (i + 1)) (later j) (p j))
    ∙ (ap (λ (k : ℕ). made ++ ranked_points k (i + 1) x) (sym m) ∙ is)))
