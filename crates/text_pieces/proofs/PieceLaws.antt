-- How added texts join.
use Rattle.std.proofs.Common.{◌≡◌, ◌∙◌, ℕ, List, [], ◌++◌, length, take, drop, Option, Result, Ok, Err, refl, sym, ap, subst, append-nil, append_assoc}
use Rattle.std.specs.Result.{IsErrAnd, IsOk}
use Rattle.std.proofs.Math.Seq.{take-append_seam}
use Rattle.std.proofs.lemmas.Bool.{true≢false}
use Rattle.std.proofs.lemmas.List.{take-append-drop}
use Rattle.halts.specs.declared.halt.Halt.{Halt}
use Rattle.halts.specs.declared.halt.Halt.TheVariants.{NoMemory}
use Rattle.outside_io.specs.Writing.{Gains, GainsPrefix}
use Rattle.outside_io.specs.WritingLaws.{gains_nothing, gains_both}
use Rattle.outside_io.specs.declared.writing.SinkFailed.{SinkFailed}
use Rattle.text_pieces.specs.Adding.{Adds, GainsFront}
use Rattle.text_pieces.specs.Pieces.{HasCause, WritesText}
use Rattle.text_pieces.specs.declared.pieces.TextPieces.{TextPieces}

-- ---- fronts

-- nothing, of any text
pub front_nothing : (held : Option (List ℕ)) (text : List ℕ) → GainsFront held held text
front_nothing held text = ([], text, gains_nothing held, refl)

-- a prefix, where more was to come
pub front_prefix : (old new : Option (List ℕ)) (text more : List ℕ) → GainsPrefix old new text → GainsFront old new (text ++ more)
front_prefix old new text more (n, gains) = (
  take n text,
  drop n text ++ more,
  gains,
  ap (λ t. t ++ more) (sym (take-append-drop n text)) ∙ append_assoc (take n text) (drop n text) more,
)

-- what was written out, and then a front of the rest
pub front_later : (old mid new : Option (List ℕ)) (first rest text : List ℕ) → Gains old mid first → first ++ rest ≡ text
    → GainsFront mid new rest → GainsFront old new text
front_later old mid new first rest text gains is (front, later, more, parts) = (
  first ++ front,
  later,
  gains_both old mid new first front gains more,
  sym is ∙ (ap (λ r. first ++ r) parts ∙ sym (append_assoc first front later)),
)

-- a front that was written out
pub front_so_far : (old new : Option (List ℕ)) (first rest text : List ℕ) → Gains old new first → first ++ rest ≡ text
    → GainsFront old new text
front_so_far old new first rest text gains is = (first, rest, gains, sym is)

-- the bytes of a front are a prefix
pub is_prefix : (old new : Option (List ℕ)) (text : List ℕ) → GainsFront old new text → GainsPrefix old new text
is_prefix old new text (front, rest, gains, is) = (
  length front,
  subst (λ (t : List ℕ). Gains old new t)
      (sym (ap (take (length front)) is ∙ take-append_seam front rest)) gains,
)

module _ {O : Type 0} (held : O → Option (List ℕ)) (faults : O → ℕ) where
  -- ---- a text of which some is still to be added

  -- What was written out, what waits, and what is left are what waited first, and the text.
  pub record IsAdding (old new : TextPieces O) (left all : List ℕ) : Type 0 where
    pub same : new.out.ghost_name ≡ old.out.ghost_name
    pub poured : List ℕ
    pub gains : Gains (held old.out.now) (held new.out.now) poured
    pub is : poured ++ (new.text.items ++ left) ≡ old.text.items ++ all
    pub still : faults new.out.now ≡ faults old.out.now

  pub begins : (old : TextPieces O) (all : List ℕ) → IsAdding old old all all
  begins old all = record { same = refl; poured = []; gains = gains_nothing (held old.out.now); is = refl; still = refl }

  -- it was put to what waits
  pub waits : (old mid new : TextPieces O) (t left all : List ℕ) → new.out ≡ mid.out → new.text.items ≡ mid.text.items ++ t
      → IsAdding old mid (t ++ left) all → IsAdding old new left all
  waits old mid new t left all out text i = record {
    same = ap (λ o. o.ghost_name) out ∙ i.same;
    poured = i.poured;
    gains = subst (λ o. Gains (held old.out.now) (held o.now) i.poured) (sym out) i.gains;
    is = ap (λ n. i.poured ++ (n ++ left)) text ∙ (ap (λ n. i.poured ++ n) (append_assoc mid.text.items t left) ∙ i.is);
    still = ap (λ o. faults o.now) out ∙ i.still;
  }

  -- it was added by a call
  pub goes_on : {X : Type 0} {x : X} (old mid new : TextPieces O) (t left all : List ℕ) → Adds held faults (Ok x) mid new t
      → IsAdding old mid (t ++ left) all → IsAdding old new left all
  goes_on old mid new t left all a i =
      let (poured, gains, is) = a.adds in
      record {
        same = a.same ∙ i.same;
        poured = i.poured ++ poured;
        gains = gains_both (held old.out.now) (held mid.out.now) (held new.out.now) i.poured poured i.gains gains;
        is = append_assoc i.poured poured (new.text.items ++ left)
            ∙ (ap (λ n. i.poured ++ n) (sym (append_assoc poured new.text.items left) ∙ (ap (λ n. n ++ left) is
            ∙ append_assoc mid.text.items t left)) ∙ i.is);
        still = a.still ∙ i.still;
      }

  -- the same left, in other words
  pub left_is : (old new : TextPieces O) (left again all : List ℕ) → left ≡ again → IsAdding old new left all
      → IsAdding old new again all
  left_is old new left again all same i = subst (λ (l : List ℕ). IsAdding old new l all) same i

  -- nothing is left
  pub ends : {X : Type 0} {x : X} (old new : TextPieces O) (all : List ℕ) → IsAdding old new [] all
      → Adds held faults (Ok x) old new all
  ends old new all i = record {
    same = i.same;
    adds = (i.poured, i.gains, ap (λ n. i.poured ++ n) (sym (append-nil new.text.items)) ∙ i.is);
    still = i.still;
    front = tt;
    cause = tt;
  }

  -- memory is missing, and nothing more was written out
  pub lacks : {X : Type 0} (r : Result X (Halt SinkFailed)) (old mid new : TextPieces O) (left all : List ℕ)
      → IsErrAnd r (λ h. h ≡ NoMemory) → new.out ≡ mid.out → IsAdding old mid left all → Adds held faults r old new all
  lacks (Ok x) old mid new left all failed out i = absurd failed
  lacks (Err h) old mid new left all failed out i = record {
    same = ap (λ o. o.ghost_name) out ∙ i.same;
    adds = tt;
    still = tt;
    front = front_so_far (held old.out.now) (held new.out.now) i.poured (mid.text.items ++ left) (old.text.items ++ all)
        (subst (λ o. Gains (held old.out.now) (held o.now) i.poured) (sym out) i.gains) i.is;
    cause = subst (HasCause (faults old.out.now) (faults new.out.now)) (sym failed) (ap (λ o. faults o.now) out ∙ i.still);
  }

  cause_later : (a b c : ℕ) (h : Halt SinkFailed) → b ≡ a → HasCause b c h → HasCause a c h
  cause_later a b c h is cause = subst (λ (n : ℕ). HasCause n c h) is cause

  -- a call broke off
  pub breaks_off : {X Y : Type 0} {halt : Halt SinkFailed} (r : Result X (Halt SinkFailed)) (old mid new : TextPieces O)
      (t left all : List ℕ) → IsErrAnd r (λ h. h ≡ halt) → Adds held {X = Y} faults (Err halt) mid new t
      → IsAdding old mid (t ++ left) all → Adds held faults r old new all
  breaks_off (Ok x) old mid new t left all failed a i = absurd failed
  breaks_off (Err h) old mid new t left all failed a i =
      let (front, rest, gains, is) = a.front in
      record {
        same = a.same ∙ i.same;
        adds = tt;
        still = tt;
        front = front_later (held old.out.now) (held mid.out.now) (held new.out.now) i.poured (mid.text.items ++ (t ++ left))
            (old.text.items ++ all) i.gains i.is (
              front,
              rest ++ left,
              gains,
              sym (append_assoc mid.text.items t left)
                  ∙ (ap (λ n. n ++ left) is ∙ append_assoc front rest left),
            );
        cause = subst (HasCause (faults old.out.now) (faults new.out.now)) (sym failed)
            (cause_later (faults old.out.now) (faults mid.out.now) (faults new.out.now) _ i.still a.cause);
      }

  -- what is left is added by a last call, done or not
  pub then_all : {X : Type 0} (r : Result X (Halt SinkFailed)) (old mid new : TextPieces O) (t all : List ℕ)
      → Adds held faults r mid new t → IsAdding old mid t all → Adds held faults r old new all
  then_all (Ok x) old mid new t all a i =
      ends old new all (goes_on old mid new t [] all a (left_is old mid t (t ++ []) all (sym (append-nil t)) i))
  then_all (Err h) old mid new t all a i =
      breaks_off (Err h) old mid new t [] all refl a (left_is old mid t (t ++ []) all (sym (append-nil t)) i)

  -- the last call broke off
  pub breaks_last : {X Y : Type 0} {halt : Halt SinkFailed} (r : Result X (Halt SinkFailed)) (old mid new : TextPieces O)
      (t all : List ℕ) → IsErrAnd r (λ h. h ≡ halt) → Adds held {X = Y} faults (Err halt) mid new t
      → IsAdding old mid t all → Adds held faults r old new all
  breaks_last r old mid new t all failed a i =
      breaks_off r old mid new t [] all failed a (left_is old mid t (t ++ []) all (sym (append-nil t)) i)

  -- after the last call
  pub added : {X : Type 0} {x : X} (old mid new : TextPieces O) (t all : List ℕ) → Adds held faults (Ok x) mid new t
      → IsAdding old mid t all → IsAdding old new [] all
  added old mid new t all a i = goes_on old mid new t [] all a (left_is old mid t (t ++ []) all (sym (append-nil t)) i)

  -- the last text waits
  pub waits_last : (old mid new : TextPieces O) (t all : List ℕ) → new.out ≡ mid.out → new.text.items ≡ mid.text.items ++ t
      → IsAdding old mid t all → IsAdding old new [] all
  waits_last old mid new t all out text i =
      waits old mid new t [] all out text (left_is old mid t (t ++ []) all (sym (append-nil t)) i)

  -- ---- the text of a call

  -- it was begun, in other words
  pub begins_as : (old : TextPieces O) (t all : List ℕ) → t ≡ all → IsAdding old old t all
  begins_as old t all is = left_is old old all t all (sym is) (begins old all)

  -- a call that failed before it wrote
  pub lacks_at_first : {X : Type 0} (r : Result X (Halt SinkFailed)) (old new : TextPieces O) (all : List ℕ)
      → IsErrAnd r (λ h. h ≡ NoMemory) → new.out ≡ old.out → Adds held faults r old new all
  lacks_at_first r old new all failed out = lacks r old old new all all failed out (begins old all)

  -- memory was missing before anything was written
  pub not_begun : {X : Type 0} (r : Result X (Halt SinkFailed)) (out : O) (text : List ℕ) → IsErrAnd r (λ h. h ≡ NoMemory)
      → WritesText held faults r out out text
  not_begun (Ok x) out text failed = absurd failed
  not_begun (Err h) out text failed = record {
    whole = tt;
    still = tt;
    front = (0, gains_nothing (held out));
    cause = subst (HasCause (faults out) (faults out)) (sym failed) refl;
  }

  -- begun with no text and poured at the end
  pub all_written : {X Y : Type 0} {x : X} (old new : TextPieces O) (text : List ℕ) → old.text.items ≡ [] → new.text.items ≡ []
      → Adds held faults (Ok x) old new text → (r : Result Y (Halt SinkFailed)) → IsOk r → WritesText held faults r old.out.now new.out.now text
  all_written old new text none poured a (Err h) ok = absurd (true≢false (sym ok))
  all_written old new text none poured a (Ok y) ok =
      let (all, gains, is) = a.adds in
      record {
        whole = subst (λ (t : List ℕ). Gains (held old.out.now) (held new.out.now) t)
            (sym (append-nil all) ∙ (ap (λ n. all ++ n) (sym poured) ∙ (is ∙ ap (λ n. n ++ text) none))) gains;
        still = a.still;
        front = tt;
        cause = tt;
      }

  -- begun with no text and broken off
  pub some_written : {X Y : Type 0} {halt : Halt SinkFailed} (r : Result Y (Halt SinkFailed)) (old new : TextPieces O)
      (text : List ℕ) → old.text.items ≡ [] → IsErrAnd r (λ h. h ≡ halt) → Adds held {X = X} faults (Err halt) old new text
      → WritesText held faults r old.out.now new.out.now text
  some_written (Ok y) old new text none failed a = absurd failed
  some_written (Err h) old new text none failed a = record {
    whole = tt;
    still = tt;
    front = is_prefix (held old.out.now) (held new.out.now) text
        (subst (λ (t : List ℕ). GainsFront (held old.out.now) (held new.out.now) (t ++ text)) none a.front);
    cause = subst (HasCause (faults old.out.now) (faults new.out.now)) (sym failed) a.cause;
  }
