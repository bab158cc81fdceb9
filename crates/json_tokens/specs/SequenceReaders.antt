-- Productions with others before or after them, as readers of items and members meet them.
use Rattle.std.specs.Prelude.{◌≡◌, ℕ, List, ◌++◌, IsTrue}
use Rattle.std.specs.List.{list_all}
use Rattle.json_tokens.specs.Rules.{Rules}
use Rattle.json_tokens.specs.Runs.{Stops}
use Rattle.json_tokens.specs.Production.{Production, EndsNumber}
use Rattle.json_tokens.specs.Sequence.{Behind, InTurn, Padded, is_space}

-- The white space at the front is passed, all of it.
abbrev pub IsSkipped : List ℕ → List ℕ → Type 0
IsSkipped b left = (spaces : List ℕ) × (b ≡ spaces ++ left) × IsTrue (list_all is_space spaces) × Stops is_space left

-- The same of productions.
abbrev pub PaddedBy : {V : Type 0} → Production V → Production V
PaddedBy {V} P = λ r v b q. Padded (P r v) b q

abbrev pub BehindByte : {V : Type 0} → ℕ → Production V → Production V
BehindByte {V} byte P = λ r v b q. Behind byte (P r v) b q

-- A text of P, and then one of the production that its value chooses; the value is the pair.
abbrev pub Followed : {V W : Type 0} → Production V → (V → Production W) → Production (V × W)
Followed {V} {W} P Q = λ r x b q. InTurn (P r x.0) (Q x.0 r x.1) b q

-- Each text of the production ends a number before it. Source: own.
abbrev pub EndsNumbers : {V : Type 0} → Production V → Type 0
EndsNumbers {V} P = (r : Rules) (v : V) (b q : List ℕ) → P r v b q → EndsNumber b

-- Whatever the rules are, the production has a text that is some bytes, which end a number that is
-- before them. Source: own.
pub record IsCloser {V : Type 0} (P : Production V) : Type 0 where
  pub value : V
  pub text : List ℕ
  pub ends : (q : List ℕ) → EndsNumber (text ++ q)
  pub spelled : (r : Rules) (q : List ℕ) → EndsNumber q → P r value (text ++ q) q
