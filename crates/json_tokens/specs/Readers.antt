-- What a reader of a production answers: the value that it takes, or the fault that it meets.
use Rattle.std.specs.Prelude.{◌≡◌, ◌≢◌, ℕ, List, [], ◌∷◌, ◌++◌, take, Result, Ok, Err}
use Rattle.json_tokens.specs.declared.kind.JsonKind.{JsonKind}
use Rattle.json_tokens.specs.declared.kind.JsonKind.TheVariants.{Syntax}
use Rattle.halts.specs.declared.halt.Halt.{Halt}
use Rattle.halts.specs.declared.halt.Halt.TheVariants.{Fault, NoMemory}
use Rattle.json_tokens.specs.Rules.{Rules, all_rules, without}
use Rattle.json_tokens.specs.Production.{EndsNumber, Production}

-- The bytes begin a text of the production: some bytes more make them one, whatever follows it. Source: own.
abbrev pub CanEnd : {V : Type 0} → Production V → Rules → List ℕ → Type 0
CanEnd {V} P r b = (v : V) × (more : List ℕ) × ((q : List ℕ) → EndsNumber q → P r v (b ++ (more ++ q)) q)

-- The bytes begin no text of the production. Source: own.
abbrev pub CannotEnd : {V : Type 0} → Production V → Rules → List ℕ → Type 0
CannotEnd {V} P r b = (v : V) (more q : List ℕ) → P r v (b ++ more) q → ⊥

-- What the byte after the front of a fault decides: with it the bytes begin no text any more; where the kind
-- is a rule, they begin one once that rule is dropped; and they begin none once any other is. Source: own.
-- Source: own.
pub record IsTurn {V : Type 0} (P : Production V) (kind : JsonKind) (with_next : List ℕ) : Type 0 where
  pub longest : CannotEnd P all_rules with_next
  pub caused : kind ≢ Syntax → CanEnd P (without kind) with_next
  pub only : (other : JsonKind) → other ≢ kind → CannotEnd P (without other) with_next

-- A fault of the kind after the front, where these bytes are left: the front begins a text of the
-- production; at the end of the bytes it is none, and the kind is Syntax. Source: own.
abbrev pub IsStop : {V : Type 0} → Production V → JsonKind → List ℕ → List ℕ → Type 0
IsStop {V} P kind front [] = (kind ≡ Syntax) × ((v : V) (q : List ℕ) → P all_rules v front q → ⊥)
IsStop P kind front (c ∷ left) = IsTurn P kind (front ++ c ∷ [])

pub record IsFault {V : Type 0} (P : Production V) (kind : JsonKind) (front left : List ℕ) : Type 0 where
  pub begins : (r : Rules) → CanEnd P r front
  pub stops : IsStop P kind front left

-- The bytes are a text of the value under all rules, whatever follows them and does not go on a
-- number; and where what follows them begins as `left` does, no other text is there. Source: own.
pub record IsTaken {V : Type 0} (P : Production V) (v : V) (used left : List ℕ) : Type 0 where
  pub spelled : (r : Rules) (q : List ℕ) → EndsNumber q → P r v (used ++ q) q
  pub decided : (r : Rules) (w : V) (more q : List ℕ) → take 1 more ≡ take 1 left → P r w (used ++ more) q →
      (w ≡ v) × (q ≡ more)

-- The bytes begin with a text of the value, which is taken.
abbrev pub Takes : {V : Type 0} → Production V → V → List ℕ → List ℕ → Type 0
Takes {V} P v b left = (used : List ℕ) × (b ≡ used ++ left) × IsTaken P v used left

-- The bytes begin with no text, and what is left follows the front.
abbrev pub Fails : {V : Type 0} → Production V → JsonKind → List ℕ → List ℕ → Type 0
Fails {V} P kind b left = (front : List ℕ) × (b ≡ front ++ left) × IsFault P kind front left

-- A reader that ends early has met a fault, or failed to allocate.
abbrev pub Halts : {V : Type 0} → Production V → Halt JsonKind → List ℕ → List ℕ → Type 0
Halts {V} P (Fault kind) b left = Fails P kind b left
Halts P NoMemory b left = Unit {0}

-- What a reader of a production answers at these bytes, and what it leaves. Source: own.
abbrev pub Gives : {V A : Type 0} → Production V → (A → V) → List ℕ → Result A (Halt JsonKind) → List ℕ → Type 0
Gives P view b (Ok v) left = Takes P (view v) b left
Gives P view b (Err halt) left = Halts P halt b left

-- The same of a reader that takes no memory. Source: own.
abbrev pub GivesSurely : {V A : Type 0} → Production V → (A → V) → List ℕ → Result A JsonKind → List ℕ → Type 0
GivesSurely P view b (Ok v) left = Takes P (view v) b left
GivesSurely P view b (Err kind) left = Fails P kind b left

-- After these bytes, where what follows begins as `left` does, the texts of P are the texts of Q and no
-- others, each of the value that `made` makes. Source: own.
pub record Leads {V W : Type 0} (P : Production V) (Q : Production W) (made : W → V) (used left : List ℕ) : Type 0 where
  pub there : (r : Rules) (w : W) (b q : List ℕ) → Q r w b q → P r (made w) (used ++ b) q
  pub back : (r : Rules) (v : V) (b q : List ℕ) → take 1 b ≡ take 1 left → P r v (used ++ b) q →
      (w : W) × (v ≡ made w) × Q r w b q

-- From these bytes the reader has come to those that are left, and now reads Q for P. Source: own.
abbrev pub Reaches : {V W : Type 0} → Production V → Production W → (W → V) → List ℕ → List ℕ → Type 0
Reaches {V} {W} P Q made b left = (used : List ℕ) × (b ≡ used ++ left) × Leads P Q made used left
