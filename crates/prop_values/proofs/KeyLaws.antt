-- For callers: what is at a key of entries, and which keys are not there.
use Rattle.std.specs.Prelude.{◌≡◌, ◌≢◌, ℕ, List, [], ◌∷◌, Bool, true, false, Option, Some, None, if◌then◌else◌}
use Rattle.std.proofs.Common.{refl, ◌∙◌}
use Rattle.std.proofs.lemmas.Bool.{both_ways, false_from_ne_true, cond-false}
use Rattle.std.proofs.lemmas.Slice.Eq.{bytes_eq-Decides}
use Rattle.prop_values.specs.Data.{Data, pairs_of}
use Rattle.prop_values.specs.Keys.{LacksKey}
use Rattle.prop_values.specs.Equality.{same_text, at_key}

-- texts are the same exactly where they are equal
pub texts_same : (a b : List ℕ) → a ≡ b → same_text a b ≡ true
texts_same a b e = (bytes_eq-Decides a b).1 e

pub same_texts : (a b : List ℕ) → same_text a b ≡ true → a ≡ b
same_texts a b e = (bytes_eq-Decides a b).0 e

pub texts_differ : (a b : List ℕ) → a ≢ b → same_text a b ≡ false
texts_differ a b h = false_from_ne_true (same_text a b) (λ e. h (same_texts a b e))

-- Nothing is at a key that is not there.
pub none_at_lacking : (key : List ℕ) (ps : List (List ℕ × Data)) → LacksKey key ps → at_key key (pairs_of ps) ≡ None
none_at_lacking key [] h = refl
none_at_lacking key (p ∷ ps) h = cond-false (same_text p.0 key) (Some p.1) (at_key key (pairs_of ps)) (texts_differ p.0 key h.0) ∙ none_at_lacking key ps h.1

none_at_first : (key k : List ℕ) (d : Data) (rest : Option Data) (same : Bool) → same_text k key ≡ same → (if same then Some d else rest) ≡ None → (k ≢ key) × (rest ≡ None)
none_at_first key k d rest true e h = absurd (cc)
none_at_first key k d rest false e h = (λ q. both_ways (same_text k key) e (texts_same k key q), h)

-- A key at which there is nothing is not there.
pub lacking_from_none : (key : List ℕ) (ps : List (List ℕ × Data)) → at_key key (pairs_of ps) ≡ None → LacksKey key ps
lacking_from_none key [] h = tt
lacking_from_none key (p ∷ ps) h =
    let first = none_at_first key p.0 p.1 (at_key key (pairs_of ps)) (same_text p.0 key) refl h in
    (first.0, lacking_from_none key ps first.1)
