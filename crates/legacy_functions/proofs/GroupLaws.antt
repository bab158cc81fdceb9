-- Groups of stops, which grow at their end.
use Rattle.std.proofs.Common.{◌≡◌, List, [], ◌∷◌, ◌++◌, refl, ap, sym, ◌∙◌, append_assoc, true, false}
use Rattle.std.specs.Prelude.{Bool, if◌then◌else◌}
use Rattle.std.specs.Ordering.{int_eq}
use Rattle.std.proofs.lemmas.Bool.Decides.{Decides-int_eq}
use Rattle.legacy_functions.specs.Form.{with_group, by_zoom}
use Rattle.legacy_functions.specs.GroupView.{Zoomed, StopGroup, joined, onto, new_group, with_stop}

-- the last group takes in the later ones
pub onto_last : (gs : List StopGroup) (g : StopGroup) (hs : List StopGroup) → onto (gs ++ g ∷ []) hs ≡ gs ++ joined g hs
onto_last [] g hs = refl
onto_last (f ∷ []) g hs = refl
onto_last (f ∷ h ∷ gs) g hs = ap (λ ks. f ∷ ks) (onto_last (h ∷ gs) g hs)

pub onto_none : (gs : List StopGroup) → onto gs [] ≡ gs
onto_none [] = refl
onto_none (g ∷ []) = refl
onto_none (g ∷ h ∷ gs) = ap (λ ks. g ∷ ks) (onto_none (h ∷ gs))

-- a stop in a group of its own
joined_new : (s : Zoomed) (hs : List StopGroup) → joined (new_group s) hs ≡ with_group s hs
joined_new s [] = refl
joined_new s (h ∷ hs) = refl

pub put_first : (s : Zoomed) (later : List Zoomed) → onto (new_group s ∷ []) (by_zoom later) ≡ by_zoom (s ∷ later)
put_first s later = joined_new s (by_zoom later)

-- a stop in the group before it
same_zoom : (g : StopGroup) (s : Zoomed) (hs : List StopGroup) → g.0.value ≡ s.0.value → joined (g.0, g.1 ++ s.1 ∷ []) hs ≡ joined g (with_group s hs)
same_zoom g s [] e = sym (ap (λ b. if b then (g.0, g.1 ++ s.1 ∷ []) ∷ [] else g ∷ (s.0, s.1 ∷ []) ∷ []) ((Decides-int_eq g.0.value s.0.value).1 e))
same_zoom g s (h ∷ hs) e = same_if (int_eq s.0.value h.0.value) refl
  where
    same_if : (b : Bool) → int_eq s.0.value h.0.value ≡ b → joined (g.0, g.1 ++ s.1 ∷ []) (h ∷ hs) ≡ joined g (if b then (s.0, s.1 ∷ h.1) ∷ hs else (s.0, s.1 ∷ []) ∷ h ∷ hs)
    same_if true q =
        let first : int_eq g.0.value h.0.value ≡ true = ap (λ z. int_eq z h.0.value) e ∙ q in
        ap (λ b. if b then (g.0, (g.1 ++ s.1 ∷ []) ++ h.1) ∷ hs else (g.0, g.1 ++ s.1 ∷ []) ∷ h ∷ hs) first
        ∙ (ap (λ ss. (g.0, ss) ∷ hs) (append_assoc g.1 (s.1 ∷ []) h.1)
        ∙ sym (ap (λ b. if b then (g.0, g.1 ++ s.1 ∷ h.1) ∷ hs else g ∷ (s.0, s.1 ∷ h.1) ∷ hs) ((Decides-int_eq g.0.value s.0.value).1 e)))
    same_if false q =
        let first : int_eq g.0.value h.0.value ≡ false = ap (λ z. int_eq z h.0.value) e ∙ q in
        ap (λ b. if b then (g.0, (g.1 ++ s.1 ∷ []) ++ h.1) ∷ hs else (g.0, g.1 ++ s.1 ∷ []) ∷ h ∷ hs) first
        ∙ sym (ap (λ b. if b then (g.0, g.1 ++ s.1 ∷ []) ∷ h ∷ hs else g ∷ (s.0, s.1 ∷ []) ∷ h ∷ hs) ((Decides-int_eq g.0.value s.0.value).1 e))

pub put_into : (gs : List StopGroup) (g : StopGroup) (s : Zoomed) (later : List Zoomed) → int_eq g.0.value s.0.value ≡ true → onto (gs ++ with_stop g s ∷ []) (by_zoom later) ≡ onto (gs ++ g ∷ []) (by_zoom (s ∷ later))
put_into gs g s later e =
    onto_last gs (g.0, g.1 ++ s.1 ∷ []) (by_zoom later) ∙ (ap (λ hs. gs ++ hs) (same_zoom g s (by_zoom later) ((Decides-int_eq g.0.value s.0.value).0 e)) ∙ sym (onto_last gs g (by_zoom (s ∷ later))))

-- a stop in a group after another
other_zoom : (g : StopGroup) (s : Zoomed) (hs : List StopGroup) → int_eq g.0.value s.0.value ≡ false → g ∷ joined (new_group s) hs ≡ joined g (with_group s hs)
other_zoom g s [] e = sym (ap (λ b. if b then (g.0, g.1 ++ s.1 ∷ []) ∷ [] else g ∷ (s.0, s.1 ∷ []) ∷ []) e)
other_zoom g s (h ∷ hs) e = other_if (int_eq s.0.value h.0.value)
  where
    other_if : (b : Bool) → g ∷ (if b then (s.0, s.1 ∷ h.1) ∷ hs else (s.0, s.1 ∷ []) ∷ h ∷ hs) ≡ joined g (if b then (s.0, s.1 ∷ h.1) ∷ hs else (s.0, s.1 ∷ []) ∷ h ∷ hs)
    other_if true = sym (ap (λ b. if b then (g.0, g.1 ++ s.1 ∷ h.1) ∷ hs else g ∷ (s.0, s.1 ∷ h.1) ∷ hs) e)
    other_if false = sym (ap (λ b. if b then (g.0, g.1 ++ s.1 ∷ []) ∷ h ∷ hs else g ∷ (s.0, s.1 ∷ []) ∷ h ∷ hs) e)

pub put_after : (gs : List StopGroup) (g : StopGroup) (s : Zoomed) (later : List Zoomed) → int_eq g.0.value s.0.value ≡ false → onto ((gs ++ g ∷ []) ++ new_group s ∷ []) (by_zoom later) ≡ onto (gs ++ g ∷ []) (by_zoom (s ∷ later))
put_after gs g s later e =
    onto_last (gs ++ g ∷ []) (new_group s) (by_zoom later)
    ∙ (append_assoc gs (g ∷ []) (joined (new_group s) (by_zoom later))
    ∙ (ap (λ hs. gs ++ hs) (other_zoom g s (by_zoom later) e) ∙ sym (onto_last gs g (by_zoom (s ∷ later)))))
