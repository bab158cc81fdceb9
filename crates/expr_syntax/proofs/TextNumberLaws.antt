-- Texts with a number each: what a change at one text leaves at each other.
use Rattle.std.proofs.Common.{◌≡◌, List, ℕ, refl, sym, subst, ◌∙◌, true, false}
use Rattle.std.specs.BTreeMap.{UpdatesBy}
use Rattle.std.specs.Box.{boxed_str_bytes}
use Rattle.std.specs.Cmp.{eq_by_cmp_equiv}
use Rattle.std.specs.Cmp.Lexicographic.{slice_cmp, bytes_decides, nat_list_cmp_total, nat_list_eq_equiv}
use Rattle.std.specs.Map.{lookup, KeepsOthers, IsKeyTest, AreApart}
use Rattle.std.specs.Ordering.{is_eq, nat_cmp}
use Rattle.std.specs.Prelude.{Bool, Option, if◌then◌else◌}
use Rattle.std.specs.Str.{bytes_eq}
use Rattle.std.proofs.lemmas.Map.Text.{is_eq-slice_cmp}
use Rattle.expr_syntax.specs.TextNumbers.{TextNumbers, number_of_text}

-- a key that equals one text equals no other
apart : (bs cs ks : List ℕ) → bytes_eq bs cs ≡ false → is_eq (slice_cmp nat_cmp bs ks) ≡ true → is_eq (slice_cmp nat_cmp cs ks) ≡ false
apart bs cs ks differs same = is_eq-slice_cmp cs ks ∙ nat_list_eq_equiv.symm cs ks ∙ sym (nat_list_eq_equiv.congr bs ks cs (sym (is_eq-slice_cmp bs ks) ∙ same)) ∙ differs

others_stay : {K X : Type 0} (eq : K → K → Bool) (test : K → Bool) (old new : List (K × X)) → KeepsOthers eq test old new → (other : K → Bool) → IsKeyTest eq other → AreApart test other → lookup other new ≡ lookup other old
unfolding KeepsOthers
others_stay eq test old new keeps = keeps

noted_at : (bs cs : List ℕ) (m n : TextNumbers) (w : Option ℕ) (t : Bool) → UpdatesBy (λ x y. slice_cmp nat_cmp (boxed_str_bytes x) (boxed_str_bytes y)) (λ k. slice_cmp nat_cmp bs (boxed_str_bytes k)) m n w → bytes_eq bs cs ≡ t → number_of_text n cs ≡ (if t then w else number_of_text m cs)
noted_at bs cs m n w true changed e = subst (λ key. number_of_text n key ≡ w) ((bytes_decides bs cs).0 e) changed.1
noted_at bs cs m n w false changed e = others_stay _ _ _ _ changed.3 _ (λ x y. (eq_by_cmp_equiv nat_list_cmp_total).congr cs (boxed_str_bytes x) (boxed_str_bytes y)) (λ k. apart bs cs (boxed_str_bytes k) e)

pub text_noted : (bs : List ℕ) (m n : TextNumbers) (w : Option ℕ) → UpdatesBy (λ x y. slice_cmp nat_cmp (boxed_str_bytes x) (boxed_str_bytes y)) (λ k. slice_cmp nat_cmp bs (boxed_str_bytes k)) m n w → (cs : List ℕ) → number_of_text n cs ≡ (if bytes_eq bs cs then w else number_of_text m cs)
text_noted bs m n w changed cs = noted_at bs cs m n w (bytes_eq bs cs) changed refl
