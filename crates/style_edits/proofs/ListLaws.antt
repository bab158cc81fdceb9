-- Lists from which an edit is taken back.
use Rattle.std.proofs.Common.{◌≡◌, ◌<◌, ◌≤◌, ℕ, zero, suc, List, [], ◌∷◌, ◌++◌, length, get_or, set, refl, ap, ◌∙◌, arith}
use Rattle.std.specs.Prelude.{insert, remove}
use Rattle.std.proofs.lemmas.List.{set-set, set-get_or}
use Rattle.std.proofs.lemmas.List.Edits.{length-remove, get_or-insert_at}
use Rattle.decimal_json.specs.View.{moved_items}
use Rattle.decimal_json.specs.Tree.{Tree, null}

module _ {X : Type 0} where
  pub set_back : (xs : List X) (i : ℕ) (x d : X) → set (set xs i x) i (get_or xs i d) ≡ xs
  set_back xs i x d = set-set xs i x (get_or xs i d) ∙ set-get_or xs i d

  pub remove_inserted : (xs : List X) (i : ℕ) (x : X) → i ≤ length xs → remove (insert xs i x) i ≡ xs
  remove_inserted [] zero x h = refl
  remove_inserted [] (suc i) x h = absurd (omega arith)
  remove_inserted (y ∷ ys) zero x h = refl
  remove_inserted (y ∷ ys) (suc i) x h = ap (λ zs. y ∷ zs) (remove_inserted ys i x (omega arith))

  pub insert_removed : (xs : List X) (i : ℕ) (d : X) → i < length xs → insert (remove xs i) i (get_or xs i d) ≡ xs
  insert_removed [] i d h = absurd (omega arith)
  insert_removed (y ∷ ys) zero d h = refl
  insert_removed (y ∷ ys) (suc i) d h = ap (λ zs. y ∷ zs) (insert_removed ys i d (omega arith))

  pub insert_last : (xs : List X) (x : X) → insert xs (length xs) x ≡ xs ++ x ∷ []
  insert_last [] x = refl
  insert_last (y ∷ ys) x = ap (λ zs. y ∷ zs) (insert_last ys x)

pub moved_back : (ts : List Tree) (from to : ℕ) → from < length ts → to < length ts → moved_items to from (moved_items from to ts) ≡ ts
moved_back ts from to h k =
    let left = remove ts from in
    let layer = get_or ts from null in
    let there : to ≤ length left = omega (arith, length-remove ts from h) in
    ap (λ zs. insert zs from (get_or (insert left to layer) to null)) (remove_inserted left to layer there)
    ∙ (ap (λ t. insert left from t) (get_or-insert_at left to layer null there) ∙ insert_removed ts from null h)
