-- Items with commas between them and a byte that closes them: what the reader of an array and that of an
-- object prove.
use Rattle.std.specs.Prelude.{◌≡◌, ◌≢◌, ℕ, List, [], ◌∷◌, ◌++◌, true, false, Result, Ok, Err, ◌||◌, ◌==◌, ◌⊎◌}
use Rattle.std.proofs.Common.{inl, inr, refl, ap, sym, ◌∙◌, subst, arith}
use Rattle.std.specs.List.{list_all}
use Rattle.std.proofs.lemmas.Bool.{and_parts}
use Rattle.json_tokens.specs.declared.kind.JsonKind.{JsonKind}
use Rattle.json_tokens.specs.declared.kind.JsonKind.TheVariants.{Syntax}
use Rattle.halts.specs.declared.halt.Halt.{Halt}
use Rattle.halts.specs.declared.halt.Halt.TheVariants.{Fault, NoMemory}
use Rattle.json_tokens.specs.Rules.{Rules}
use Rattle.json_tokens.specs.Number.{is_number_byte}
use Rattle.json_tokens.specs.Runs.{Stops}
use Rattle.json_tokens.specs.Production.{Production, EndsNumber}
use Rattle.json_tokens.specs.Readers.{Takes, Fails, Halts, Gives, Reaches}
use Rattle.json_tokens.specs.Sequence.{is_space, Padded, Behind, InTurn}
use Rattle.json_tokens.specs.SequenceReaders.{IsSkipped, PaddedBy, Followed, EndsNumbers, IsCloser}
use Rattle.json_tokens.proofs.Composed.{reaches_here, reaches_more, reaches_as, reaches_taken, reaches_fails, reaches_halts}
use Rattle.json_tokens.proofs.Sequences.{reaches_skipped, reaches_next, fails_first, fails_here}
use Rattle.decimal_json.specs.Reading.{GivesTurn}
use Rattle.decimal_json.proofs.Values.{not_first}

-- What arrays and objects have in common. After the items so far, `Item` is the next one, `Items` one item or
-- more up to the byte that closes, and `Rest` what follows an item. `Whole` is what follows the byte that
-- opens.
pub record CommaList (V L : Type 0) : Type 1 where
  pub close : ℕ
  pub none : L
  pub more : V → L → L
  pub list_of : List V → L
  pub Item : List V → Production V
  pub Items : List V → Production L
  pub Rest : List V → Production L
  pub Whole : Production L
  -- the value is that of the items in order
  pub of_none : list_of [] ≡ none
  pub of_more : (v : V) (vs : List V) → list_of (v ∷ vs) ≡ more v (list_of vs)
  -- the byte that closes is no comma, no white space and in no number
  pub no_comma : close ≢ 44
  pub no_space : is_space close ≡ false
  pub no_digit : is_number_byte close ≡ false
  -- an item begins with no white space and not with the byte that closes
  pub tight : (vs : List V) (r : Rules) (v : V) (b q : List ℕ) → Item vs r v b q → Stops is_space b
  pub apart : (vs : List V) (r : Rules) (v : V) (b q : List ℕ) → Item vs r v (close ∷ b) q → ⊥
  -- some items are an item and what follows it
  pub joins : (vs : List V) (r : Rules) (v : V) (l : L) (b q : List ℕ) → InTurn (Item vs r v) (Padded (Rest (vs ++ v ∷ []) r l)) b q → Items vs r (more v l) b q
  pub parts : (vs : List V) (r : Rules) (l : L) (b q : List ℕ) → Items vs r l b q → (p : V × L) × (l ≡ more p.0 p.1) × InTurn (Item vs r p.0) (Padded (Rest (vs ++ p.0 ∷ []) r p.1)) b q
  -- after an item there is the byte that closes, or a comma and some items
  pub ends : (vs : List V) (r : Rules) (q : List ℕ) → Rest vs r none (close ∷ q) q
  pub goes_on : (vs : List V) (r : Rules) (l : L) (b q : List ℕ) → Padded (Items vs r l) b q → Rest vs r l (44 ∷ b) q
  pub turns : (vs : List V) (r : Rules) (l : L) (b q : List ℕ) → Rest vs r l b q → ((l ≡ none) × (b ≡ close ∷ q)) ⊎ Behind 44 (Padded (Items vs r l)) b q
  -- after the byte that opens there is the byte that closes, or some items
  pub empty : (r : Rules) (q : List ℕ) → Whole r none (close ∷ q) q
  pub filled : (r : Rules) (l : L) (b q : List ℕ) → Items [] r l b q → Whole r l b q
  pub forms : (r : Rules) (l : L) (b q : List ℕ) → Whole r l b q → ((l ≡ none) × (b ≡ close ∷ q)) ⊎ Items [] r l b q

pub first_byte : (c d : ℕ) (x y : List ℕ) → c ∷ x ≡ d ∷ y → c ≡ d
first_byte c d x y e = cc

other_bytes : (c d : ℕ) (x y : List ℕ) → c ∷ x ≡ d ∷ y → x ≡ y
other_bytes c d x y e = cc

pub space_apart : (c : ℕ) → is_space c ≡ true → is_number_byte c ≡ false
space_apart c h = grind arith

-- ---- what follows an item
at_close : {V L : Type 0} (s : CommaList V L) (vs : List V) (r : Rules) (l : L) (b q : List ℕ) → s.Rest vs r l (s.close ∷ b) q → (l ≡ s.none) × (q ≡ b)
at_close s vs r l b q h = elim (s.turns vs r l (s.close ∷ b) q h) [
  | inl end ↦ (end.0, sym (other_bytes s.close s.close b q end.1))
  | inr next ↦ absurd (s.no_comma (first_byte s.close 44 b next.0 next.1))
]

at_comma : {V L : Type 0} (s : CommaList V L) (vs : List V) (r : Rules) (l : L) (b q : List ℕ) → s.Rest vs r l (44 ∷ b) q → Padded (s.Items vs r l) b q
at_comma s vs r l b q h = elim (s.turns vs r l (44 ∷ b) q h) [
  | inl end ↦ absurd (s.no_comma (sym (first_byte 44 s.close b q end.1)))
  | inr next ↦ subst (λ x. Padded (s.Items vs r l) x q) (sym (other_bytes 44 44 b next.0 next.1)) next.2
]

rest_tight : {V L : Type 0} (s : CommaList V L) (vs : List V) (r : Rules) (l : L) (b q : List ℕ) → s.Rest vs r l b q → Stops is_space b
rest_tight s vs r l b q h = elim (s.turns vs r l b q h) [
  | inl end ↦ subst (Stops is_space) (sym end.1) s.no_space
  | inr next ↦ subst (Stops is_space) (sym next.1) refl
]

ends_number : {V L : Type 0} (s : CommaList V L) (vs : List V) (r : Rules) (l : L) (b q : List ℕ) → s.Rest vs r l b q → EndsNumber b
ends_number s vs r l b q h = elim (s.turns vs r l b q h) [
  | inl end ↦ subst EndsNumber (sym end.1) s.no_digit
  | inr next ↦ subst EndsNumber (sym next.1) refl
]

-- White space, the comma and the byte that closes end a number.
rest_ends : {V L : Type 0} (s : CommaList V L) (vs : List V) → EndsNumbers (PaddedBy (s.Rest vs))
rest_ends s vs r l b q (c, ([], e, all), h) = subst EndsNumber (sym e) (ends_number s vs r l c q h)
rest_ends s vs r l b q (c, (x ∷ spaces, e, all), h) = subst EndsNumber (sym e) (space_apart x (and_parts (is_space x) (list_all is_space spaces) all).0)

rest_closer : {V L : Type 0} (s : CommaList V L) (vs : List V) → IsCloser (PaddedBy (s.Rest vs))
rest_closer s vs = record {
  value = s.none;
  text = s.close ∷ [];
  ends = λ q. s.no_digit;
  spelled = λ r q e. (s.close ∷ q, ([], refl, refl), s.ends vs r q);
}

-- At the byte that closes, the list ends.
rest_closed : {V L : Type 0} (s : CommaList V L) (vs : List V) (b left : List ℕ) → IsSkipped b (s.close ∷ left) → Takes (PaddedBy (s.Rest vs)) s.none b left
rest_closed {V} {L} s vs b left skipped =
    reaches_taken (PaddedBy (s.Rest vs)) (s.Rest vs) (λ (l : L). l) s.none b (s.close ∷ left) left (reaches_skipped (s.Rest vs) b (s.close ∷ left) (rest_tight s vs) skipped) (
      s.close ∷ [],
      refl,
      record {
        spelled = λ r q e. s.ends vs r q;
        decided = λ r l more q first h. at_close s vs r l more q h;
      },
    )

items_tight : {V L : Type 0} (s : CommaList V L) (vs : List V) (r : Rules) (l : L) (b q : List ℕ) → s.Items vs r l b q → Stops is_space b
items_tight s vs r l b q h = let (p, e, (c, item, rest)) = s.parts vs r l b q h in s.tight vs r p.0 b c item

-- After a comma there are some items.
rest_next : {V L : Type 0} (s : CommaList V L) (vs : List V) (b c left : List ℕ) → IsSkipped b (44 ∷ c) → IsSkipped c left → Reaches (PaddedBy (s.Rest vs)) (s.Items vs) (λ l. l) b left
rest_next {V} {L} s vs b c left first second =
    reaches_more (PaddedBy (s.Rest vs)) (s.Rest vs) (s.Items vs) (λ (l : L). l) (λ (l : L). l) b (44 ∷ c) left (reaches_skipped (s.Rest vs) b (44 ∷ c) (rest_tight s vs) first)
    (reaches_more (s.Rest vs) (PaddedBy (s.Items vs)) (s.Items vs) (λ (l : L). l) (λ (l : L). l) (44 ∷ c) c left comma (reaches_skipped (s.Items vs) c left (items_tight s vs) second))
  where
    comma : Reaches (s.Rest vs) (PaddedBy (s.Items vs)) (λ l. l) (44 ∷ c) c
    comma = (44 ∷ [], refl, record { there = λ r l x q h. s.goes_on vs r l x q h; back = λ r l x q first h. (l, refl, at_comma s vs r l x q h) })

-- Where there is neither, the fault is here.
rest_fails : {V L : Type 0} (s : CommaList V L) (vs : List V) (b left : List ℕ) → IsSkipped b left → ((c : ℕ) (x : List ℕ) → left ≡ c ∷ x → (c == 44 || c == s.close) ≡ false) → Fails (PaddedBy (s.Rest vs)) Syntax b left
rest_fails {V} {L} s vs b left skipped other =
    reaches_fails (PaddedBy (s.Rest vs)) (s.Rest vs) (λ (l : L). l) Syntax b left left (reaches_skipped (s.Rest vs) b left (rest_tight s vs) skipped)
    (fails_here (s.Rest vs) left (λ r. (s.none, s.close ∷ [], λ q e. s.ends vs r q)) at_end (λ r l c x y q e h. at_other r l c y q (other c x e) h))
  where
    at_end : (r : Rules) (l : L) (q : List ℕ) → s.Rest vs r l [] q → ⊥
    at_end r l q h = elim (s.turns vs r l [] q h) [
      | inl end ↦ (let e : [] ≡ s.close ∷ q = end.1 in absurd (cc))
      | inr next ↦ (let e : [] ≡ 44 ∷ next.0 = next.1 in absurd (cc))
    ]

    no_mark : (c d : ℕ) → (c == 44 || c == d) ≡ false → (c ≢ 44) × (c ≢ d)
    no_mark c d e = grind arith

    at_other : (r : Rules) (l : L) (c : ℕ) (y q : List ℕ) → (c == 44 || c == s.close) ≡ false → s.Rest vs r l (c ∷ y) q → ⊥
    at_other r l c y q none h = elim (s.turns vs r l (c ∷ y) q h) [
      | inl end ↦ (no_mark c s.close none).1 (first_byte c s.close y q end.1)
      | inr next ↦ (no_mark c s.close none).0 (first_byte c 44 y next.0 next.1)
    ]

-- ---- the items so far
-- The value of these items and then more.
abbrev pub joined : {V L : Type 0} → CommaList V L → List V → L → L
joined s [] l = l
joined s (v ∷ vs) l = s.more v (joined s vs l)

joined-nil : {V L : Type 0} (s : CommaList V L) (vs : List V) → joined s vs s.none ≡ s.list_of vs
joined-nil s [] = sym s.of_none
joined-nil s (v ∷ vs) = ap (s.more v) (joined-nil s vs) ∙ sym (s.of_more v vs)

joined-push : {V L : Type 0} (s : CommaList V L) (vs : List V) (v : V) (l : L) → joined s (vs ++ v ∷ []) l ≡ joined s vs (s.more v l)
joined-push s [] v l = refl
joined-push s (u ∷ vs) v l = ap (s.more u) (joined-push s vs v l)

-- What the items so far, and the reader's place, are to those that are still to come.
abbrev pub IsRead : {V L : Type 0} → CommaList V L → List ℕ → List V → List ℕ → Type 0
IsRead s start vs now = Reaches (s.Items []) (s.Items vs) (joined s vs) start now

pub none_yet : {V L : Type 0} (s : CommaList V L) (b : List ℕ) → IsRead s b [] b
none_yet s b = reaches_here (s.Items []) b

abbrev ItemFirst : {V L : Type 0} → CommaList V L → List V → Production (V × L)
ItemFirst s vs = Followed (s.Item vs) (λ v. PaddedBy (s.Rest (vs ++ v ∷ [])))

first_reaches : {V L : Type 0} (s : CommaList V L) (vs : List V) (b : List ℕ) → Reaches (s.Items vs) (ItemFirst s vs) (λ p. s.more p.0 p.1) b b
first_reaches s vs b = ([], refl, record { there = λ r p x q h. s.joins vs r p.0 p.1 x q h; back = λ r l x q first h. s.parts vs r l x q h })

item_reaches : {V L : Type 0} (s : CommaList V L) (vs : List V) (v : V) (b c : List ℕ) → Takes (s.Item vs) v b c → Reaches (s.Items vs) (PaddedBy (s.Rest (vs ++ v ∷ []))) (s.more v) b c
item_reaches {V} {L} s vs v b c taken =
    reaches_more (s.Items vs) (ItemFirst s vs) (PaddedBy (s.Rest (vs ++ v ∷ []))) (λ (p : V × L). s.more p.0 p.1) (λ (l : L). (v, l)) b b c (first_reaches s vs b)
    (reaches_next (s.Item vs) (λ w. PaddedBy (s.Rest (vs ++ w ∷ []))) v b c (rest_ends s (vs ++ v ∷ [])) taken)

-- A fault in an item is one of the items.
pub item_halts : {V L : Type 0} (s : CommaList V L) (halt : Halt JsonKind) (start now left : List ℕ) (vs : List V) → IsRead s start vs now → Halts (s.Item vs) halt now left → Halts (s.Items []) halt start left
item_halts s NoMemory start now left vs way fails = tt
item_halts {V} {L} s (Fault kind) start now left vs way fails =
    reaches_fails (s.Items []) (s.Items vs) (joined s vs) kind start now left way
    (reaches_fails (s.Items vs) (ItemFirst s vs) (λ (p : V × L). s.more p.0 p.1) kind now now left (first_reaches s vs now)
    (fails_first (s.Item vs) (λ w. PaddedBy (s.Rest (vs ++ w ∷ []))) kind now left (λ w. rest_closer s (vs ++ w ∷ [])) fails))

-- After an item there is neither a comma nor the byte that closes.
pub item_unmarked : {V L : Type 0} (s : CommaList V L) (kind : JsonKind) (start now mid left : List ℕ) (vs : List V) (v : V) → IsRead s start vs now → Takes (s.Item vs) v now mid → GivesTurn s.close mid (Err kind) left → Fails (s.Items []) kind start left
item_unmarked s kind start now mid left vs v way taken (syntax, skipped, other) =
    let on = vs ++ v ∷ [] in
    subst (λ w. Fails (s.Items []) w start left) (sym syntax)
    (reaches_fails (s.Items []) (s.Items vs) (joined s vs) Syntax start now left way
    (reaches_fails (s.Items vs) (PaddedBy (s.Rest on)) (s.more v) Syntax now mid left (item_reaches s vs v now mid taken) (rest_fails s on mid left skipped other)))

-- After an item there is the byte that closes.
pub item_last : {V L : Type 0} (s : CommaList V L) (start now mid left : List ℕ) (vs all : List V) (v : V) → IsRead s start vs now → Takes (s.Item vs) v now mid → GivesTurn s.close mid (Ok true) left → all ≡ vs ++ v ∷ [] → Takes (s.Items []) (s.list_of all) start left
item_last s start now mid left vs all v way taken skipped e =
    let on = vs ++ v ∷ [] in
    let value : joined s vs (s.more v s.none) ≡ s.list_of all = sym (joined-push s vs v s.none) ∙ (joined-nil s on ∙ ap s.list_of (sym e)) in
    subst (λ l. Takes (s.Items []) l start left) value
    (reaches_taken (s.Items []) (s.Items vs) (joined s vs) (s.more v s.none) start now left way
    (reaches_taken (s.Items vs) (PaddedBy (s.Rest on)) (s.more v) s.none now mid left (item_reaches s vs v now mid taken) (rest_closed s on mid left skipped)))

-- After an item there is a comma.
pub item_next : {V L : Type 0} (s : CommaList V L) (start now mid left : List ℕ) (vs all : List V) (v : V) → IsRead s start vs now → Takes (s.Item vs) v now mid → GivesTurn s.close mid (Ok false) left → all ≡ vs ++ v ∷ [] → IsRead s start all left
item_next {V} {L} s start now mid left vs all v way taken (c, first, second) e =
    let on = vs ++ v ∷ [] in
    subst (λ ws. IsRead s start ws left) (sym e)
    (reaches_as (s.Items []) (s.Items on) (λ (l : L). joined s vs (s.more v l)) (joined s on) start left (λ l. sym (joined-push s vs v l))
    (reaches_more (s.Items []) (s.Items vs) (s.Items on) (joined s vs) (s.more v) start now left way
    (reaches_more (s.Items vs) (PaddedBy (s.Rest on)) (s.Items on) (s.more v) (λ (l : L). l) now mid left (item_reaches s vs v now mid taken) (rest_next s on mid c left first second))))

-- ---- the whole
pub whole_tight : {V L : Type 0} (s : CommaList V L) (r : Rules) (l : L) (b q : List ℕ) → s.Whole r l b q → Stops is_space b
whole_tight s r l b q h = elim (s.forms r l b q h) [
  | inl end ↦ subst (Stops is_space) (sym end.1) s.no_space
  | inr some ↦ items_tight s [] r l b q some
]

no_items : {V L : Type 0} (s : CommaList V L) (r : Rules) (l : L) (b q : List ℕ) → s.Items [] r l (s.close ∷ b) q → ⊥
no_items s r l b q h = let (p, e, (c, item, rest)) = s.parts [] r l (s.close ∷ b) q h in s.apart [] r p.0 b c item

-- The byte that closes follows the one that opens.
pub whole_empty : {V L : Type 0} (s : CommaList V L) (vs : List V) (b left : List ℕ) → vs ≡ [] → b ≡ s.close ∷ left → Takes s.Whole (s.list_of vs) b left
whole_empty {V} {L} s vs b left none mark =
    subst (λ l. Takes s.Whole l b left) (sym (ap s.list_of none ∙ s.of_none))
    (subst (λ x. Takes s.Whole s.none x left) (sym mark) (s.close ∷ [], refl, record { spelled = λ r q e. s.empty r q; decided = λ r l more q first h. closed r l more q h }))
  where
    closed : (r : Rules) (l : L) (more q : List ℕ) → s.Whole r l (s.close ∷ more) q → (l ≡ s.none) × (q ≡ more)
    closed r l more q h = elim (s.forms r l (s.close ∷ more) q h) [
      | inl end ↦ (end.0, sym (other_bytes s.close s.close more q end.1))
      | inr some ↦ absurd (no_items s r l more q some)
    ]

-- Where there is another byte, there are some items.
some_reaches : {V L : Type 0} (s : CommaList V L) (b : List ℕ) → ((x : List ℕ) → b ≡ s.close ∷ x → ⊥) → Reaches s.Whole (s.Items []) (λ l. l) b b
some_reaches {V} {L} s b other = ([], refl, record { there = λ r l x q h. s.filled r l x q h; back = λ r l x q first h. some r l x q (λ y e. not_first x b y s.close first e other) h }) where
  some : (r : Rules) (l : L) (x q : List ℕ) → ((y : List ℕ) → x ≡ s.close ∷ y → ⊥) → s.Whole r l x q → (m : L) × (l ≡ m) × s.Items [] r m x q
  some r l x q apart h = elim (s.forms r l x q h) [
    | inl end ↦ absurd (apart q end.1)
    | inr items ↦ (l, refl, items)
  ]

pub whole_gives : {V L : Type 0} (s : CommaList V L) (b c left : List ℕ) (answer : Result (List V) (Halt JsonKind)) → c ≡ b → ((x : List ℕ) → b ≡ s.close ∷ x → ⊥) → Gives (s.Items []) s.list_of c answer left → Gives s.Whole s.list_of b answer left
whole_gives {V} {L} s b c left (Ok vs) same other given = reaches_taken s.Whole (s.Items []) (λ (l : L). l) (s.list_of vs) b b left (some_reaches s b other) (subst (λ x. Takes (s.Items []) (s.list_of vs) x left) same given)
whole_gives {V} {L} s b c left (Err halt) same other given = reaches_halts s.Whole (s.Items []) (λ (l : L). l) halt b b left (some_reaches s b other) (subst (λ x. Halts (s.Items []) halt x left) same given)
