-- Where a text stops outside an escape.
use Rattle.std.proofs.Common.{◌≡◌, ◌≢◌, ℕ, ◌<◌, ◌≤◌, List, [], ◌∷◌, ◌++◌, Bool, true, false, IsUtf8, refl, sym, ap, ◌∙◌, subst, append_assoc, append-nil, arith, inl, inr}
use Rattle.std.specs.Prelude.{IsTrue, Option, Some, None, ◌⊎◌, nat_le, if◌then◌else◌}
use Rattle.std.specs.List.{list_all}
use Rattle.std.proofs.lemmas.Bool.{and_parts, and_from, both_ways, cases_lt, cases_eq}
use Rattle.std.proofs.lemmas.Str.{IsUtf8-append, IsUtf8-nil}
use Rattle.json_tokens.specs.declared.kind.JsonKind.TheVariants.{Syntax, Utf8, LoneSurrogate}
use Rattle.json_tokens.specs.RunLengths.{first_of}
use Rattle.json_tokens.specs.Rules.{Rules, all_rules, without}
use Rattle.json_tokens.specs.Readers.{CanEnd, CannotEnd, IsFault, IsStop}
use Rattle.json_tokens.specs.TextToken.{Piece, plain, escaped, is_unescaped, by_letter, SpellsPieces, is_high, are_paired, meant}
use Rattle.decimal_json.specs.Follows.{is_due, IsDueHigh, FollowsText, FollowsLong}
use Rattle.decimal_json.specs.Chars.{is_beyond_ascii, IsBeyondAscii, IsCut}
use Rattle.decimal_json.specs.TextParts.{cut_kind, due_kind, begins_plain}
use Rattle.decimal_json.proofs.Pieces.{plains, ArePlain, more_plains, first_plains}
use Rattle.decimal_json.proofs.Utf8.{ascii_then, lone_bytes, cut_none, cut_one}
use Rattle.decimal_json.proofs.Steps.{paired_plains}
use Rattle.decimal_json.proofs.Ends.{long_ends, mark_ends, plains_paired}
use Rattle.decimal_json.proofs.Escapes.{open_ends}
use Rattle.decimal_json.proofs.Turns.{syntax_turn, both_turn, utf8_turn, lone_turn}
use Rattle.decimal_json.proofs.Firsts.{First, is_mark, is_plain, is_escape, first_of_text, no_text, control_first}

-- ---- where nothing has begun
pub stops_open : (due : Option ℕ) (b : List ℕ) → first_of b ≡ None → (bound : ℕ) → IsFault (FollowsLong due bound) Syntax [] b
stops_open due [] e bound = record { begins = λ r. open_ends due bound r; stops = (refl, λ v q f. no_text due all_rules v q f.0) }
stops_open due (c ∷ b) e bound = cc

pub stops_control : (due : Option ℕ) (b : List ℕ) (c : ℕ) → first_of b ≡ Some c → c < 32 → (bound : ℕ) → IsFault (FollowsLong due bound) Syntax [] b
stops_control due [] c e low bound = cc
stops_control due (d ∷ b) c e low bound =
    let same : d ≡ c = cc in
    record { begins = λ r. open_ends due bound r; stops = syntax_turn due bound (d ∷ []) (λ r v more q f. control_first due r v d more q (omega arith) f) }

-- the closing mark where a second surrogate is due
due_mark : (r : Rules) (more : List ℕ) → r.surrogate ≡ true → First r true 34 more → ⊥
due_mark r more on (is_mark e pair) = both_ways true (pair on) refl
due_mark r more on (is_plain inner q cut ok utf8 pair) = both_ways true (pair on) refl
due_mark r more on (is_escape u code left e is whole fits) = absurd (omega arith)

high_bounds : (h : ℕ) → is_high h ≡ true → (55296 ≤ h) × (h < 57344)
high_bounds h e = (grind arith, grind arith)

pub stops_mark : (due : Option ℕ) (b : List ℕ) → first_of b ≡ Some 34 → is_due due ≡ true → IsDueHigh due → (bound : ℕ) → IsFault (FollowsLong due bound) LoneSurrogate [] b
stops_mark None b e is high bound = cc
stops_mark (Some h) [] e is high bound = cc
stops_mark (Some h) (d ∷ b) e is high bound =
    let same : d ≡ 34 = cc in
    let P : ℕ → Type 0 = λ w. IsFault (FollowsLong (Some h) bound) LoneSurrogate [] (w ∷ b) in
    let k = high_bounds h high in
    subst P (sym same) (record {
      begins = λ r. open_ends (Some h) bound r;
      stops = lone_turn (Some h) bound (34 ∷ []) (λ r on v more q f. due_mark r more on (first_of_text (Some h) r v 34 more q f))
          (mark_ends (Some h) (without LoneSurrogate) bound [] [] refl (λ z. IsUtf8-nil) (λ z. cc) (λ u. lone_bytes h k.0 k.1 u));
    })

-- ---- a byte that is no escape where a second surrogate is due
due_plain : (r : Rules) (c : ℕ) (more : List ℕ) → c ≢ 92 → r.surrogate ≡ true → First r true c more → ⊥
due_plain r c more n on (is_mark e pair) = both_ways true (pair on) refl
due_plain r c more n on (is_plain inner q cut ok utf8 pair) = both_ways true (pair on) refl
due_plain r c more n on (is_escape u code left e is whole fits) = n e

none_begins : (r : Rules) (due : Bool) (c : ℕ) (more : List ℕ) → (128 ≤ c) × ((c < 194) ⊎ (244 < c)) → r.utf8 ≡ true → First r due c more → ⊥
none_begins r due c more h on (is_mark e pair) = absurd (omega (arith, h.0))
none_begins r due c more h on (is_plain inner q cut ok utf8 pair) =
    let k : IsCut [] (c ∷ []) = cut_none (c ∷ []) (λ d rest s. let same : c ≡ d = cc in let P : ℕ → Type 0 = λ w. (128 ≤ w) × ((w < 194) ⊎ (244 < w)) in subst P same h) in
    k.stuck c [] inner refl (utf8 on)
none_begins r due c more h on (is_escape u code left e is whole fits) = absurd (omega (arith, h.0))

pub plain_byte : (c : ℕ) → 32 ≤ c → c ≢ 34 → c ≢ 92 → is_unescaped c ≡ true
plain_byte c l m n = grind arith

pub beyond_plain : (b : List ℕ) → IsTrue (list_all is_beyond_ascii b) → ArePlain b
beyond_plain [] h = refl
beyond_plain (c ∷ b) h =
    let parts = and_parts (is_beyond_ascii c) (list_all is_beyond_ascii b) h in
    and_from (is_unescaped c) (list_all is_unescaped b) (let k : 128 ≤ c = high_byte c parts.0 in plain_byte c (omega arith) (λ e. omega arith) (λ e. omega arith)) (beyond_plain b parts.1)
  where
    high_byte : (c : ℕ) → is_beyond_ascii c ≡ true → 128 ≤ c
    high_byte c e = grind arith

pub plains_spelled : (b : List ℕ) → ArePlain b → SpellsPieces (plains b) b []
plains_spelled [] h = refl
plains_spelled (c ∷ b) h = let parts = and_parts (is_unescaped c) (list_all is_unescaped b) h in (b, refl, parts.0, plains_spelled b parts.1)

-- plain bytes go on where no surrogate is due or that rule is dropped
plains_end : (due : Option ℕ) (bound : ℕ) (p more : List ℕ) → ArePlain (p ++ more) → IsUtf8 (p ++ more) → CanEnd (FollowsLong due bound) (without LoneSurrogate) p
plains_end due bound p more ok u = long_ends due (without LoneSurrogate) bound p more (plains (p ++ more)) (plains_spelled (p ++ more) ok) (λ z. u) (λ z. cc)

begins_more : (c : ℕ) → 194 ≤ c → c ≤ 244 → (more : List ℕ) × IsBeyondAscii (c ∷ more)
begins_more c l m = (cut_one c [] l m (λ d rest e. absurd (cc))).completes

due_goes_on : (due : Option ℕ) (bound c : ℕ) → 32 ≤ c → c ≢ 34 → c ≢ 92 → (c < 128) ⊎ (194 ≤ c) → c ≤ 244 → CanEnd (FollowsLong due bound) (without LoneSurrogate) (c ∷ [])
due_goes_on due bound c l n m (inl low) h = plains_end due bound (c ∷ []) [] (and_from (is_unescaped c) true (plain_byte c l n m) refl) (ascii_then c [] low IsUtf8-nil)
due_goes_on due bound c l n m (inr high) h = let (more, k) = begins_more c high h in plains_end due bound (c ∷ []) more (beyond_plain (c ∷ more) k.bytes) k.utf8

begins_parts : (c : ℕ) → begins_plain c ≡ true → (32 ≤ c) × ((c < 128) ⊎ (194 ≤ c)) × (c ≤ 244)
begins_parts c e = let l : 32 ≤ c = grind arith in let h : c ≤ 244 = grind arith in (l, elim (cases_lt c 128) [ inl k ↦ inl k | inr k ↦ inr (let m : 194 ≤ c = grind arith in m) ], h)

begins_not : (c : ℕ) → begins_plain c ≡ false → 32 ≤ c → (128 ≤ c) × ((c < 194) ⊎ (244 < c))
begins_not c e l = let h : 128 ≤ c = grind arith in (h, elim (cases_lt c 194) [ inl k ↦ inl k | inr k ↦ inr (let m : 244 < c = grind arith in m) ])

due_byte : (h : ℕ) (b : List ℕ) (c : ℕ) → c ≢ 34 → c ≢ 92 → (plain_first : Bool) → begins_plain c ≡ plain_first → (bound : ℕ) → IsFault (FollowsLong (Some h) bound) (if plain_first then LoneSurrogate else Syntax) [] (c ∷ b)
due_byte h b c n m true e bound =
    let (l, k, o) = begins_parts c e in
    record {
      begins = λ r. open_ends (Some h) bound r;
      stops = lone_turn (Some h) bound (c ∷ []) (λ r on v more q f. due_plain r c more m on (first_of_text (Some h) r v c more q f)) (due_goes_on (Some h) bound c l n m k o);
    }
due_byte h b c n m false e bound = elim (cases_lt c 32) [
  | inl low ↦ stops_control (Some h) (c ∷ b) c refl low bound
  | inr l ↦
      let k = begins_not c e l in
      record {
        begins = λ r. open_ends (Some h) bound r;
        stops = both_turn (Some h) bound (c ∷ []) (λ r on v more q f. none_begins r true c more k on (first_of_text (Some h) r v c more q f)) (λ r on v more q f. due_plain r c more m on (first_of_text (Some h) r v c more q f));
      }
]

pub stops_due : (due : Option ℕ) (b : List ℕ) (c : ℕ) → first_of b ≡ Some c → is_due due ≡ true → c ≢ 34 → c ≢ 92 → (bound : ℕ) → IsFault (FollowsLong due bound) (due_kind c) [] b
stops_due None b c e is n m bound = cc
stops_due (Some h) [] c e is n m bound = cc
stops_due (Some h) (d ∷ b) c e is n m bound =
    let same : c ≡ d = cc in
    let P : ℕ → Type 0 = λ w. IsFault (FollowsLong (Some h) bound) (due_kind c) [] (w ∷ b) in
    subst P same (due_byte h b c n m (begins_plain c) refl bound)

-- ---- a part of a character
part_begins : (bound : ℕ) (r : Rules) (p left : List ℕ) → IsCut p left → CanEnd (FollowsLong None bound) r p
part_begins bound r p left cut =
    let (more, k) = cut.completes in
    let ok = beyond_plain (p ++ more) k.bytes in
    long_ends None r bound p more (plains (p ++ more)) (plains_spelled (p ++ more) ok) (λ z. k.utf8) (λ z. plains_paired (p ++ more))

part_plain : (p left : List ℕ) → IsCut p left → ArePlain p
part_plain p left cut = let (more, k) = cut.completes in front_plain p more (beyond_plain (p ++ more) k.bytes)
  where
    front_plain : (p more : List ℕ) → ArePlain (p ++ more) → ArePlain p
    front_plain [] more h = refl
    front_plain (c ∷ p) more h = let parts = and_parts (is_unescaped c) (list_all is_unescaped (p ++ more)) h in and_from (is_unescaped c) (list_all is_unescaped p) parts.0 (front_plain p more parts.1)

-- what follows it is a text again, and all of it UTF-8 where that rule is in force
record BehindPart (r : Rules) (p b : List ℕ) : Type 0 where
  left : List ℕ
  v : List ℕ
  q : List ℕ
  bytes : b ≡ left ++ 34 ∷ q
  utf8 : r.utf8 ≡ true → IsUtf8 (p ++ left)
  text : FollowsText None (record r { utf8 = false }) v b q

behind_part : (r : Rules) (v p b q : List ℕ) → ArePlain p → FollowsText None r v (p ++ b) q → BehindPart r p b
behind_part r v p b q ok (inner, pieces, e, sp, utf8, pair, s) =
    let k = first_plains p ok pieces inner q b sp (sym e) in
    record {
      left = k.left;
      v = meant None k.more;
      q = q;
      bytes = k.bytes;
      utf8 = λ z. subst IsUtf8 k.cut (utf8 z);
      text = (k.left, k.more, k.bytes, k.spelled, λ z. cc, λ z. sym (paired_plains p k.more) ∙ sym (ap (λ y. are_paired false y) k.first) ∙ pair z, refl);
    }

part_end : (r : Rules) (v p q : List ℕ) → ArePlain p → FollowsText None r v p q → ⊥
part_end r v p q ok f =
    let P : List ℕ → Type 0 = λ w. FollowsText None r v w q in
    let k = behind_part r v p [] q ok (subst P (sym (append-nil p)) f) in
    no_text None (record r { utf8 = false }) k.v k.q k.text

part_control : (r : Rules) (p : List ℕ) (c : ℕ) → ArePlain p → c < 32 → CannotEnd (FollowsText None) r (p ++ c ∷ [])
part_control r p c ok low v more q f =
    let P : List ℕ → Type 0 = λ w. FollowsText None r v w q in
    let k = behind_part r v p (c ∷ more) q ok (subst P (append_assoc p (c ∷ []) more) f) in
    control_first None (record r { utf8 = false }) k.v c more k.q low k.text

part_stuck : (p left : List ℕ) (c : ℕ) (rest : List ℕ) → IsCut p left → left ≡ c ∷ rest → (inner more q : List ℕ) → c ∷ more ≡ inner ++ 34 ∷ q → IsUtf8 (p ++ inner) → ⊥
part_stuck p left c rest cut e [] more q s u =
    let same : c ≡ 34 = cc in
    let P : ℕ → Type 0 = λ w. IsUtf8 (p ++ w ∷ []) in
    let all : IsUtf8 (p ++ 34 ∷ []) = IsUtf8-append p (34 ∷ []) (subst IsUtf8 (append-nil p) u) (ascii_then 34 [] (omega arith) IsUtf8-nil) in
    cut.stuck c rest [] e (subst P (sym same) all)
part_stuck p left c rest cut e (d ∷ inner) more q s u =
    let same : d ≡ c = cc in
    let P : ℕ → Type 0 = λ w. IsUtf8 (p ++ w ∷ inner) in
    cut.stuck c rest inner e (subst P same u)

part_utf8 : (r : Rules) (p left : List ℕ) (c : ℕ) (rest : List ℕ) → IsCut p left → left ≡ c ∷ rest → r.utf8 ≡ true → CannotEnd (FollowsText None) r (p ++ c ∷ [])
part_utf8 r p left c rest cut e on v more q f =
    let P : List ℕ → Type 0 = λ w. FollowsText None r v w q in
    let k = behind_part r v p (c ∷ more) q (part_plain p left cut) (subst P (append_assoc p (c ∷ []) more) f) in
    part_stuck p left c rest cut e k.left more k.q k.bytes (k.utf8 on)

-- with the rule of UTF-8 dropped it goes on by any byte from 32
spelled_then : (p code : List ℕ) (last : Piece) → ArePlain p → SpellsPieces (last ∷ []) code [] → SpellsPieces (plains p ++ last ∷ []) (p ++ code) []
spelled_then p code last ok h = more_plains p ok (last ∷ []) code [] h

part_mark : (bound : ℕ) (p left rest : List ℕ) → IsCut p left → left ≡ 34 ∷ rest → CanEnd (FollowsLong None bound) (without Utf8) (p ++ 34 ∷ [])
part_mark bound p left rest cut e =
    let ok = part_plain p left cut in
    let whole : meant None (plains p) ≡ p = meant_all p in
    mark_ends None (without Utf8) bound p (plains p) (plains_spelled p ok) (λ z. cc) (λ z. plains_paired p)
    (λ u. cut.stuck 34 rest [] e (IsUtf8-append p (34 ∷ []) (subst IsUtf8 whole u) (ascii_then 34 [] (omega arith) IsUtf8-nil)))
  where
    meant_all : (p : List ℕ) → meant None (plains p) ≡ p
    meant_all [] = refl
    meant_all (c ∷ p) = ap (λ w. c ∷ w) (meant_all p)

part_goes_on : (bound : ℕ) (p left : List ℕ) (c : ℕ) (rest : List ℕ) → IsCut p left → left ≡ c ∷ rest → 32 ≤ c → CanEnd (FollowsLong None bound) (without Utf8) (p ++ c ∷ [])
part_goes_on bound p left c rest cut e l = elim (cases_eq c 34) [
  | inl mark ↦
      let P : ℕ → Type 0 = λ w. CanEnd (FollowsLong None bound) (without Utf8) (p ++ w ∷ []) in
      subst P (sym mark) (part_mark bound p left rest cut (e ∙ ap (λ w. w ∷ rest) mark))
  | inr n ↦ elim (cases_eq c 92) [
    | inl solidus ↦
        let P : ℕ → Type 0 = λ w. CanEnd (FollowsLong None bound) (without Utf8) (p ++ w ∷ []) in
        let Q : List ℕ → Type 0 = λ w. SpellsPieces (plains p ++ escaped 10 ∷ []) w [] in
        let sp = spelled_then p (92 ∷ 110 ∷ []) (escaped 10) (part_plain p left cut) (92 ∷ 110 ∷ [], [], refl, by_letter 110 10 refl, refl) in
        subst P (sym solidus) (long_ends None (without Utf8) bound (p ++ 92 ∷ []) (110 ∷ []) (plains p ++ escaped 10 ∷ []) (subst Q (sym (append_assoc p (92 ∷ []) (110 ∷ []))) sp) (λ z. cc) (λ z. paired_plains p (escaped 10 ∷ [])))
    | inr m ↦
        let Q : List ℕ → Type 0 = λ w. SpellsPieces (plains p ++ plain c ∷ []) w [] in
        let sp = spelled_then p (c ∷ []) (plain c) (part_plain p left cut) ([], refl, plain_byte c l n m, refl) in
        long_ends None (without Utf8) bound (p ++ c ∷ []) [] (plains p ++ plain c ∷ []) (subst Q (sym (append-nil (p ++ c ∷ []))) sp) (λ z. cc) (λ z. paired_plains p (plain c ∷ []))
  ]
]

part_next : (p left : List ℕ) (c : ℕ) (rest : List ℕ) → IsCut p left → left ≡ c ∷ rest → (printed : Bool) → nat_le 32 c ≡ printed → (bound : ℕ) → IsStop (FollowsLong None bound) (if printed then Utf8 else Syntax) p (c ∷ rest)
part_next p left c rest cut e true h bound = let l : 32 ≤ c = grind arith in utf8_turn None bound (p ++ c ∷ []) (λ r on. part_utf8 r p left c rest cut e on) (part_goes_on bound p left c rest cut e l)
part_next p left c rest cut e false h bound = let l : c < 32 = grind arith in syntax_turn None bound (p ++ c ∷ []) (λ r. part_control r p c (part_plain p left cut) l)

pub stops_part : (p left : List ℕ) → IsCut p left → (bound : ℕ) → IsFault (FollowsLong None bound) (cut_kind (first_of left)) p left
stops_part p [] cut bound = record { begins = λ r. part_begins bound r p [] cut; stops = (refl, λ v q f. part_end all_rules v p q (part_plain p [] cut) f.0) }
stops_part p (c ∷ rest) cut bound = record { begins = λ r. part_begins bound r p (c ∷ rest) cut; stops = part_next p (c ∷ rest) c rest cut refl (nat_le 32 c) refl bound }
