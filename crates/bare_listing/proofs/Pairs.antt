-- Lists in which a relation holds of each element and each later one, by recursion.
use Rattle.std.proofs.Common.{List, [], ◌∷◌, ◌++◌, map, arith}
use Rattle.std.specs.Prelude.{AllPairs}
use Rattle.std.specs.List.{AllByRecursion}
use Rattle.std.proofs.lemmas.List.Elements.{All-from_recursion}
use Rattle.std.proofs.lemmas.List.Kept.{AllPairs-cons}

abbrev pub PairsByRecursion : {X : Type 0} → (X → X → Type 0) → List X → Type 0
PairsByRecursion R [] = Unit {0}
PairsByRecursion R (x ∷ xs) = AllByRecursion (R x) xs × PairsByRecursion R xs

module _ {X : Type 0} where
  pub each_so : (P Q : X → Type 0) → ((x : X) → P x → Q x) → (xs : List X) → AllByRecursion P xs → AllByRecursion Q xs
  each_so P Q f [] h = tt
  each_so P Q f (x ∷ xs) h = (f x h.0, each_so P Q f xs h.1)

  pub each_append : (P : X → Type 0) (xs ys : List X) → AllByRecursion P xs → AllByRecursion P ys → AllByRecursion P (xs ++ ys)
  each_append P [] ys h k = k
  each_append P (x ∷ xs) ys h k = (h.0, each_append P xs ys h.1 k)

  module _ (R : X → X → Type 0) where
    pub pairs_all : (xs : List X) → PairsByRecursion R xs → AllPairs R xs
    pairs_all [] h = λ i j d less within. absurd (omega (arith, within))
    pairs_all (x ∷ xs) h = AllPairs-cons R x xs (All-from_recursion (R x) xs h.0) (pairs_all xs h.1)

    -- two lists whose elements differ by properties of theirs
    pub pairs_append : (P Q : X → Type 0) → ((x y : X) → P x → Q y → R x y) → (xs ys : List X) → AllByRecursion P xs
        → AllByRecursion Q ys → PairsByRecursion R xs → PairsByRecursion R ys → PairsByRecursion R (xs ++ ys)
    pairs_append P Q apart [] ys p q h k = k
    pairs_append P Q apart (x ∷ xs) ys p q h k = (
      each_append (R x) xs ys h.0 (each_so Q (R x) (λ y. apart x y p.0) ys q),
      pairs_append P Q apart xs ys p.1 q h.1 k,
    )

module _ {X Y : Type 0} (f : X → Y) where
  pub each_map : (P : X → Type 0) (Q : Y → Type 0) → ((x : X) → P x → Q (f x)) → (xs : List X) → AllByRecursion P xs
      → AllByRecursion Q (map f xs)
  each_map P Q so [] h = tt
  each_map P Q so (x ∷ xs) h = (so x h.0, each_map P Q so xs h.1)

  pub pairs_map : (R : X → X → Type 0) (S : Y → Y → Type 0) → ((x y : X) → R x y → S (f x) (f y)) → (xs : List X)
      → PairsByRecursion R xs → PairsByRecursion S (map f xs)
  pairs_map R S so [] h = tt
  pairs_map R S so (x ∷ xs) h = (each_map (R x) (S (f x)) (so x) xs h.0, pairs_map R S so xs h.1)
