-- Bytes that are tested in blocks.
use Rattle.std.proofs.Common.{◌≡◌, ℕ, ◌+◌, List, ◌++◌, take, drop, Bool, sym, ap, ◌∙◌, subst}
use Rattle.std.specs.Prelude.{IsTrue}
use Rattle.std.specs.List.{list_all}
use Rattle.std.proofs.Math.Seq.{take-add}
use Rattle.std.proofs.lemmas.List.Folds.{list_all-append}
use Rattle.std.proofs.lemmas.Bool.{and_from}

pub block_more : (p : ℕ → Bool) (b : List ℕ) (n m : ℕ) → IsTrue (list_all p (take n b)) → IsTrue (list_all p (take m (drop n b))) → IsTrue (list_all p (take (n + m) b))
block_more p b n m h k =
    let front = take n b in
    let block = take m (drop n b) in
    let e : list_all p (take (n + m) b) ≡ list_all p (front ++ block) = ap (list_all p) (take-add n m b) in
    subst IsTrue (sym (e ∙ list_all-append p front block)) (and_from (list_all p front) (list_all p block) h k)
