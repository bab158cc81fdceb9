-- Lists in order.
use Rattle.std.proofs.Common.{◌≡◌, ◌∙◌, List, [], ◌∷◌, map, refl, ap}
use Rattle.std.specs.Prelude.{Bool, true, false, if◌then◌else◌}
use Rattle.stable_order.specs.InOrder.{put, in_order}

-- what is made of each of a list in order is in the order that agrees
module _ {X Y : Type 0} (f : X → Y) (a : X → X → Bool) (b : Y → Y → Bool) (agree : (x y : X) → a x y ≡ b (f x) (f y)) where
  put_where : (x y : X) (ys : List X) (test : Bool) → map f (put a x ys) ≡ put b (f x) (map f ys)
      → map f (if test then y ∷ put a x ys else x ∷ y ∷ ys) ≡ (if test then f y ∷ put b (f x) (map f ys) else f x ∷ f y ∷ map f ys)
  put_where x y ys true later = ap (λ zs. f y ∷ zs) later
  put_where x y ys false later = refl

  map_put : (x : X) (ys : List X) → map f (put a x ys) ≡ put b (f x) (map f ys)
  map_put x [] = refl
  map_put x (y ∷ ys) =
      put_where x y ys (a y x) (map_put x ys) ∙ ap (λ test. if test then f y ∷ put b (f x) (map f ys) else f x ∷ f y ∷ map f ys) (agree y x)

  pub map_in_order : (xs : List X) → map f (in_order a xs) ≡ in_order b (map f xs)
  map_in_order [] = refl
  map_in_order (x ∷ xs) = map_put x (in_order a xs) ∙ ap (put b (f x)) (map_in_order xs)
