-- Texts that are appended one after another, and nothing at the end.
use Rattle.std.specs.Prelude.{◌≡◌, ℕ, List, [], ◌++◌}
use Rattle.std.proofs.Common.{sym, ap, ◌∙◌, append_assoc}
use Rattle.std.proofs.lemmas.List.{append-nil}

pub nothing_after : (text : List ℕ) → text ++ [] ≡ text
nothing_after text = append-nil text

-- `mid` and `new` are the texts after one and two pieces
pub two_pieces : (out mid new a b : List ℕ) → mid ≡ out ++ a → new ≡ mid ++ b → new ≡ out ++ (a ++ (b ++ []))
two_pieces out mid new a b p q =
    q ∙ (ap (λ (z : List ℕ). z ++ b) p ∙ (append_assoc out a b ∙ ap (λ (z : List ℕ). out ++ (a ++ z)) (sym (append-nil b))))

-- one piece more, in front of what was appended already
pub piece_before : (out mid new a rest : List ℕ) → mid ≡ out ++ a → new ≡ mid ++ rest → new ≡ out ++ (a ++ rest)
piece_before out mid new a rest p q = q ∙ (ap (λ (z : List ℕ). z ++ rest) p ∙ append_assoc out a rest)

-- a text of two pieces that is appended at once
pub at_once : (out new a b : List ℕ) → new ≡ out ++ (a ++ b) → new ≡ out ++ (a ++ (b ++ []))
at_once out new a b q = q ∙ ap (λ (z : List ℕ). out ++ (a ++ z)) (sym (append-nil b))
