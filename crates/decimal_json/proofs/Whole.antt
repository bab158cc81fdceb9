-- A text as a whole: what was read so far, and how reading ends.
use Rattle.std.proofs.Common.{◌≡◌, ℕ, ◌≤◌, List, [], ◌∷◌, ◌++◌, length, IsUtf8, refl, sym, ap, ◌∙◌, subst, append_assoc, append-nil, length-append, arith, inl, inr}
use Rattle.std.specs.Prelude.{Option, Some, None, Result, Ok, Err, ◌⊎◌}
use Rattle.std.proofs.lemmas.Str.{IsUtf8-nil}
use Rattle.json_tokens.specs.declared.kind.JsonKind.{JsonKind}
use Rattle.json_tokens.specs.declared.kind.JsonKind.TheVariants.{Syntax, LoneSurrogate}
use Rattle.halts.specs.declared.halt.Halt.{Halt}
use Rattle.halts.specs.declared.halt.Halt.TheVariants.{Fault, NoMemory}
use Rattle.json_tokens.specs.RunLengths.{first_of}
use Rattle.json_tokens.specs.Rules.{Rules, all_rules, without}
use Rattle.json_tokens.specs.Readers.{CanEnd, CannotEnd, IsTurn, IsStop, IsFault, IsTaken}
use Rattle.json_tokens.specs.TextToken.{plain, escaped, SpellsText}
use Rattle.json_tokens.specs.TextReaders.{SpellsLong, GivesText}
use Rattle.decimal_json.specs.Follows.{IsDueHigh, FollowsText, FollowsLong, Passes, StopsText, Moves, MovesOrStops, Closes}
use Rattle.decimal_json.proofs.Pieces.{not_mark, escape_begins, other_first}
use Rattle.decimal_json.proofs.Utf8.{utf8_after}
use Rattle.decimal_json.proofs.Steps.{passes_nothing, passes_both}
use Rattle.decimal_json.proofs.Escapes.{open_ends}
use Rattle.decimal_json.proofs.TextFaults.{stops_open, stops_mark}

-- ---- a fault after what was read
still_long : (least : ℕ) (a b : List ℕ) → IsUtf8 a → (least ≤ length b) ⊎ (IsUtf8 b → ⊥) → (least ≤ length (a ++ b)) ⊎ (IsUtf8 (a ++ b) → ⊥)
still_long least a b u (inl h) = inl (omega (arith, length-append a b))
still_long least a b u (inr h) = inr (λ v. h (utf8_after a b u v))

can_behind : (front text : List ℕ) (due : Option ℕ) → Passes None front text due → (least : ℕ) (r : Rules) (p : List ℕ) → CanEnd (FollowsLong due least) r p → CanEnd (SpellsLong least) r (front ++ p)
can_behind front text due passed least r p (v, more, h) = (
  text ++ v,
  more,
  λ q ends.
      let (f, long) = h q ends in
      let P : List ℕ → Type 0 = λ w. SpellsText r (text ++ v) w q in
      (subst P (sym (append_assoc front p (more ++ q))) (passed.there r v (p ++ (more ++ q)) q f), still_long least text v passed.whole long),
)

cannot_behind : (front text : List ℕ) (due : Option ℕ) → Passes None front text due → (least : ℕ) (r : Rules) (p : List ℕ) → CannotEnd (FollowsLong due 0) r p → CannotEnd (SpellsLong least) r (front ++ p)
cannot_behind front text due passed least r p h v more q f =
    let P : List ℕ → Type 0 = λ w. SpellsText r v w q in
    let (w, e, g) = passed.back r v (p ++ more) q (subst P (append_assoc front p more) f.0) in
    h w more q (g, inl (omega arith))

turn_behind : (front text : List ℕ) (due : Option ℕ) → Passes None front text due → (least : ℕ) (kind : JsonKind) (x : List ℕ) → IsTurn (FollowsLong due 0) kind x → IsTurn (FollowsLong due least) kind x → IsTurn (SpellsLong least) kind (front ++ x)
turn_behind front text due passed least kind x none long = record {
  longest = cannot_behind front text due passed least all_rules x none.longest;
  caused = λ e. can_behind front text due passed least (without kind) x (long.caused e);
  only = λ other e. cannot_behind front text due passed least (without other) x (none.only other e);
}

stop_behind : (front text : List ℕ) (due : Option ℕ) → Passes None front text due → (least : ℕ) (kind : JsonKind) (p left : List ℕ) → IsStop (FollowsLong due 0) kind p left → IsStop (FollowsLong due least) kind p left → IsStop (SpellsLong least) kind (front ++ p) left
stop_behind front text due passed least kind p [] none long = (
  none.0,
  λ v q f.
      let (w, e, g) = passed.back all_rules v p q (f.0) in
      none.1 w q (g, inl (omega arith)),
)
stop_behind front text due passed least kind p (c ∷ left) none long =
    let P : List ℕ → Type 0 = λ w. IsTurn (SpellsLong least) kind w in
    subst P (sym (append_assoc front p (c ∷ []))) (turn_behind front text due passed least kind (p ++ c ∷ []) none long)

pub fault_behind : (front text : List ℕ) (due : Option ℕ) → Passes None front text due → (kind : JsonKind) (p left : List ℕ) → ((bound : ℕ) → IsFault (FollowsLong due bound) kind p left) → (least : ℕ) → IsFault (SpellsLong least) kind (front ++ p) left
fault_behind front text due passed kind p left h least =
    let none = h 0 in
    let long = h least in
    record {
      begins = λ r. can_behind front text due passed least r p (long.begins r);
      stops = stop_behind front text due passed least kind p left none.stops long.stops;
    }

-- ---- the end
mark_only : (r : Rules) (w more q : List ℕ) → FollowsText None r w (34 ∷ more) q → (w ≡ []) × (q ≡ more)
mark_only r w more q (inner, [], e, sp, utf8, pair, s) = let whole : 34 ∷ more ≡ 34 ∷ q = e ∙ ap (λ z. z ++ 34 ∷ q) sp in (s, cc)
mark_only r w more q (inner, plain c ∷ ps, e, (rest, cut, ok, sp), utf8, pair, s) =
    let whole : 34 ∷ more ≡ c ∷ (rest ++ 34 ∷ q) = e ∙ ap (λ z. z ++ 34 ∷ q) cut in
    let same : c ≡ 34 = cc in
    absurd (not_mark c same ok)
mark_only r w more q (inner, escaped u ∷ ps, e, (code, rest, cut, is, sp), utf8, pair, s) =
    let (tail, f) = escape_begins u code is in
    let whole : 34 ∷ more ≡ (code ++ rest) ++ 34 ∷ q = e ∙ ap (λ z. z ++ 34 ∷ q) cut in
    absurd (other_first 34 92 more ((tail ++ rest) ++ 34 ∷ q) refl refl (whole ∙ ap (λ z. (z ++ rest) ++ 34 ∷ q) f))

taken : (front text left : List ℕ) → Passes None front text None → IsTaken SpellsText text (front ++ 34 ∷ []) left
taken front text left passed = record {
  spelled = λ r q ends.
      let P : List ℕ → Type 0 = λ w. SpellsText r w ((front ++ 34 ∷ []) ++ q) q in
      let Q : List ℕ → Type 0 = λ w. SpellsText r (text ++ []) w q in
      subst P (append-nil text) (subst Q (sym (append_assoc front (34 ∷ []) q)) (passed.there r [] (34 ∷ q) q ([], [], refl, refl, λ z. IsUtf8-nil, λ z. refl, refl)));
  decided = λ r w more q same h.
      let Q : List ℕ → Type 0 = λ z. SpellsText r w z q in
      let (v, e, f) = passed.back r w (34 ∷ more) q (subst Q (append_assoc front (34 ∷ []) more) h) in
      let (none, rest) = mark_only r v more q f in
      (e ∙ ap (λ z. text ++ z) none ∙ append-nil text, rest);
}

-- ---- what was read so far
pub record Reads (b left text : List ℕ) (due : Option ℕ) : Type 0 where
  pub front : List ℕ
  pub cut : b ≡ front ++ left
  pub high : IsDueHigh due
  pub passed : Passes None front text due

pub reads_nothing : (b text : List ℕ) → text ≡ [] → Reads b b text None
reads_nothing b text e = record {
  front = [];
  cut = refl;
  high = tt;
  passed = let P : List ℕ → Type 0 = λ w. Passes None [] w None in subst P (sym e) (passes_nothing None);
}

pub reads_more : (b left text : List ℕ) (due : Option ℕ) → Reads b left text due → (rest more : List ℕ) (next_due : Option ℕ) → Moves due left text rest more next_due → Reads b rest more next_due
reads_more b left text due reads rest more next_due (code, out, e, s, high, passes) = record {
  front = reads.front ++ code;
  cut = reads.cut ∙ ap (λ w. reads.front ++ w) e ∙ sym (append_assoc reads.front code rest);
  high = high;
  passed = let P : List ℕ → Type 0 = λ w. Passes None (reads.front ++ code) w next_due in subst P (sym s) (passes_both None due next_due reads.front code text out reads.passed passes);
}

pub stops_behind : {A : Type 0} (view : A → List ℕ) (b left text : List ℕ) (due : Option ℕ) → Reads b left text due → (kind : JsonKind) (rest : List ℕ) → StopsText due kind left rest → GivesText view b (Err (Fault kind)) rest
stops_behind view b left text due reads kind rest (p, e, h) =
    (reads.front ++ p, reads.cut ∙ ap (λ w. reads.front ++ w) e ∙ sym (append_assoc reads.front p rest), fault_behind reads.front text due reads.passed kind p rest h)

pub gives_end : {A : Type 0} (view : A → List ℕ) (b left text : List ℕ) (due : Option ℕ) → Reads b left text due → first_of left ≡ None → GivesText view b (Err (Fault Syntax)) left
gives_end view b left text due reads e = stops_behind view b left text due reads Syntax left ([], refl, stops_open due left e)

pub gives_text : {A : Type 0} (view : A → List ℕ) (b left text : List ℕ) → Reads b left text None → (s : A) (rest : List ℕ) → view s ≡ text → left ≡ 34 ∷ rest → GivesText view b (Ok s) rest
gives_text view b left text reads s rest same e =
    let front = reads.front in (
      front,
      reads.cut ∙ ap (λ w. front ++ w) e,
      λ next. (let P : List ℕ → Type 0 = λ w. IsTaken SpellsText w (front ++ 34 ∷ []) next in subst P (sym same) (taken front text next reads.passed)),
      λ least r.
          let Q : List ℕ → Type 0 = λ w. CanEnd (SpellsLong least) r w in
          subst Q (append-nil front) (can_behind front text None reads.passed least r [] (open_ends None least r)),
    )

pub gives_close : {A : Type 0} (view : A → List ℕ) (b left text : List ℕ) (due : Option ℕ) → Reads b left text due → first_of left ≡ Some 34 → (result : Result A (Halt JsonKind)) (rest : List ℕ) → Closes due text left view result rest → GivesText view b result rest
gives_close view b left text due reads mark (Ok s) rest (none, same, e) =
    let P : Option ℕ → Type 0 = λ w. Reads b left text w in
    gives_text view b left text (subst P none reads) s rest same e
gives_close view b left text due reads mark (Err (Fault kind)) rest (is, lone, same) =
    let P : JsonKind → Type 0 = λ w. StopsText due w left rest in
    let Q : List ℕ → Type 0 = λ w. (bound : ℕ) → IsFault (FollowsLong due bound) LoneSurrogate [] w in
    stops_behind view b left text due reads kind rest (subst P (sym lone) ([], sym same, subst Q (sym same) (stops_mark due left mark is reads.high)))
gives_close view b left text due reads mark (Err NoMemory) rest h = tt

pub gives_stop : {A B : Type 0} (view : A → List ℕ) (of : B → Option ℕ) (b left text : List ℕ) (due : Option ℕ) → Reads b left text due → (halt : Halt JsonKind) (rest more : List ℕ) → MovesOrStops due left text of (Err halt) rest more → GivesText view b (Err halt) rest
gives_stop view of b left text due reads (Fault kind) rest more h = stops_behind view b left text due reads kind rest h
gives_stop view of b left text due reads NoMemory rest more h = tt
