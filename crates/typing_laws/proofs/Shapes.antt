-- Operators of one to four arguments: what has to be shown of their values, by how many there are.
use Rattle.std.proofs.Common.{◌≡◌, ℕ, ◌+◌, ◌≤◌, List, [], ◌∷◌, length, true, ◌&&◌, nat_eq, nat_le, Option, arith}
use Rattle.std.proofs.lemmas.Bool.{eqb-true, leb-true, and_parts}
use Rattle.prop_values.specs.Data.{Data}
use Rattle.prop_values.specs.declared.fault.FaultSet.{FaultSet}
use Rattle.prop_values.specs.declared.kinds.Kind.{Kind}
use Rattle.prop_values.specs.declared.kinds.Want.{Want}
use Rattle.prop_values.specs.declared.kinds.Want.TheVariants as wants
use Rattle.expr_syntax.specs.declared.expression.Operator.{Operator}
use Rattle.expr_syntax.specs.Operators.{wanted_by, want_of}
use Rattle.expr_types.specs.OwnTable.{own}
use Rattle.expr_types.specs.Typing.{is_sequence_of}
use Rattle.operator_values.specs.Evaluated.{Evaluated}
use Rattle.eval_face.specs.World.{World}
use Rattle.typing_laws.proofs.Outcomes.{OwnIn}
use Rattle.typing_laws.proofs.Arguments.{IsGiven, AllOf, IsSoundNode, Applies}

at_most : (a b n : ℕ) → (nat_le a n && nat_le n b) ≡ true → n ≤ b
at_most a b n h = leb-true n b ((and_parts (nat_le a n) (nat_le n b) h).1)

-- the first argument, and no argument
pub first_given : (P : List (Option Data) → List Kind → Type 0) (op : Operator) (m k : ℕ) (w : Want)
    (ls : List (Option Data)) (js : List Kind) (d : Data) (ds : List Data) → AllOf op m k w ls js (d ∷ ds) →
    ((l : Option Data) (ls' : List (Option Data)) (j : Kind) (js' : List Kind) → IsGiven
    (want_of (wanted_by op m k) w) (is_sequence_of op k) l j d → AllOf op m (k + 1) w ls' js' ds → P (l ∷ ls')
    (j ∷ js')) → P ls js
first_given P op m k w (l ∷ ls) (j ∷ js) d ds h go = go l ls j js h.0 h.1
first_given P op m k w [] [] d ds h go = absurd h
first_given P op m k w [] (j ∷ js) d ds h go = absurd h
first_given P op m k w (l ∷ ls) [] d ds h go = absurd h

pub none_given : (P : List (Option Data) → List Kind → Type 0) (op : Operator) (m k : ℕ) (w : Want)
    (ls : List (Option Data)) (js : List Kind) → AllOf op m k w ls js [] → P [] [] → P ls js
none_given P op m k w [] [] h go = go
none_given P op m k w (l ∷ ls) [] h go = absurd h
none_given P op m k w (l ∷ ls) (j ∷ js) h go = absurd h
none_given P op m k w [] (j ∷ js) h go = absurd h

module _ (S : FaultSet) (op : Operator) (apply : World → List Data → Evaluated) where
  abbrev Gives : Want → World → List Data → List (Option Data) → List Kind → Type 0
  Gives w world ds ls js = OwnIn S wants.Any (own op w ls js) (apply world ds)

  -- what has to be shown of one value, of two, of three and of four
  abbrev One : Type 0
  One =
      (w : Want) (world : World) (l : Option Data) (j : Kind) (d : Data) →
      IsGiven (want_of (wanted_by op 1 0) w) (is_sequence_of op 0) l j d →
      Gives w world (d ∷ []) (l ∷ []) (j ∷ [])

  abbrev Two : Type 0
  Two =
      (w : Want) (world : World) (l l' : Option Data) (j j' : Kind) (d d' : Data) →
      IsGiven (want_of (wanted_by op 2 0) w) (is_sequence_of op 0) l j d → IsGiven
      (want_of (wanted_by op 2 1) w) (is_sequence_of op 1) l' j' d' →
      Gives w world (d ∷ d' ∷ []) (l ∷ l' ∷ []) (j ∷ j' ∷ [])

  abbrev Three : Type 0
  Three =
      (w : Want) (world : World) (l l' l'' : Option Data) (j j' j'' : Kind) (d d' d'' : Data) →
      IsGiven (want_of (wanted_by op 3 0) w) (is_sequence_of op 0) l j d → IsGiven
      (want_of (wanted_by op 3 1) w) (is_sequence_of op 1) l' j' d' →
      IsGiven (want_of (wanted_by op 3 2) w) (is_sequence_of op 2) l'' j'' d'' →
      Gives w world (d ∷ d' ∷ d'' ∷ []) (l ∷ l' ∷ l'' ∷ []) (j ∷ j' ∷ j'' ∷ [])

  abbrev Four : Type 0
  Four =
      (w : Want) (world : World) (l l' l'' l''' : Option Data) (j j' j'' j''' : Kind) (d d' d'' d''' : Data) →
      IsGiven (want_of (wanted_by op 4 0) w) (is_sequence_of op 0) l j d → IsGiven
      (want_of (wanted_by op 4 1) w) (is_sequence_of op 1) l' j' d' →
      IsGiven (want_of (wanted_by op 4 2) w) (is_sequence_of op 2) l'' j'' d'' → IsGiven
      (want_of (wanted_by op 4 3) w) (is_sequence_of op 3) l''' j''' d''' →
      Gives w world (d ∷ d' ∷ d'' ∷ d''' ∷ []) (l ∷ l' ∷ l'' ∷ l''' ∷ []) (j ∷ j' ∷ j'' ∷ j''' ∷ [])

  one_gives : One → (w : Want) (world : World) (ls : List (Option Data)) (js : List Kind) (d : Data) →
      AllOf op 1 0 w ls js (d ∷ []) → Gives w world (d ∷ []) ls js
  one_gives law w world ls js d h =
      first_given (λ a b. Gives w world (d ∷ []) a b) op 1 0 w ls js d [] h (λ l ls' j js' g rest.
      none_given (λ a b. Gives w world (d ∷ []) (l ∷ a) (j ∷ b)) op 1 1 w ls' js' rest (law w world l j d g))

  two_gives : Two → (w : Want) (world : World) (ls : List (Option Data)) (js : List Kind) (d d' : Data) →
      AllOf op 2 0 w ls js (d ∷ d' ∷ []) → Gives w world (d ∷ d' ∷ []) ls js
  two_gives law w world ls js d d' h =
      first_given (λ a b. Gives w world (d ∷ d' ∷ []) a b) op 2 0 w ls js d (d' ∷ []) h (λ l ls' j js' g rest.
      first_given (λ a b. Gives w world (d ∷ d' ∷ []) (l ∷ a) (j ∷ b)) op 2 1 w ls' js' d' [] rest
      (λ l' ls'' j' js'' g' rest'.
      none_given (λ a b. Gives w world (d ∷ d' ∷ []) (l ∷ l' ∷ a) (j ∷ j' ∷ b)) op 2 2 w ls'' js'' rest'
      (law w world l l' j j' d d' g g')))

  three_gives : Three →
      (w : Want) (world : World) (ls : List (Option Data)) (js : List Kind) (d d' d'' : Data) →
      AllOf op 3 0 w ls js (d ∷ d' ∷ d'' ∷ []) → Gives w world (d ∷ d' ∷ d'' ∷ []) ls js
  three_gives law w world ls js d d' d'' h =
      first_given (λ a b. Gives w world (d ∷ d' ∷ d'' ∷ []) a b) op 3 0 w ls js d (d' ∷ d'' ∷ []) h
      (λ l ls' j js' g rest.
      first_given (λ a b. Gives w world (d ∷ d' ∷ d'' ∷ []) (l ∷ a) (j ∷ b)) op 3 1 w ls' js' d' (d'' ∷ [])
      rest (λ l' ls'' j' js'' g' rest'.
      first_given (λ a b. Gives w world (d ∷ d' ∷ d'' ∷ []) (l ∷ l' ∷ a) (j ∷ j' ∷ b)) op 3 2 w ls'' js'' d''
      [] rest' (λ l'' ls3 j'' js3 g'' rest''.
      none_given (λ a b. Gives w world (d ∷ d' ∷ d'' ∷ []) (l ∷ l' ∷ l'' ∷ a) (j ∷ j' ∷ j'' ∷ b)) op 3 3 w ls3
      js3 rest'' (law w world l l' l'' j j' j'' d d' d'' g g' g''))))

  four_gives : Four →
      (w : Want) (world : World) (ls : List (Option Data)) (js : List Kind) (d d' d'' d''' : Data) →
      AllOf op 4 0 w ls js (d ∷ d' ∷ d'' ∷ d''' ∷ []) → Gives w world (d ∷ d' ∷ d'' ∷ d''' ∷ []) ls js
  four_gives law w world ls js d d' d'' d''' h =
      let ds = d ∷ d' ∷ d'' ∷ d''' ∷ [] in
      first_given (λ a b. Gives w world ds a b) op 4 0 w ls js d (d' ∷ d'' ∷ d''' ∷ []) h
      (λ l ls' j js' g rest.
      first_given (λ a b. Gives w world ds (l ∷ a) (j ∷ b)) op 4 1 w ls' js' d' (d'' ∷ d''' ∷ []) rest
      (λ l' ls'' j' js'' g' rest'.
      first_given (λ a b. Gives w world ds (l ∷ l' ∷ a) (j ∷ j' ∷ b)) op 4 2 w ls'' js'' d'' (d''' ∷ []) rest'
      (λ l'' ls3 j'' js3 g'' rest''.
      first_given (λ a b. Gives w world ds (l ∷ l' ∷ l'' ∷ a) (j ∷ j' ∷ j'' ∷ b)) op 4 3 w ls3 js3 d''' []
      rest'' (λ l''' ls4 j''' js4 g''' rest3.
      none_given (λ a b. Gives w world ds (l ∷ l' ∷ l'' ∷ l''' ∷ a) (j ∷ j' ∷ j'' ∷ j''' ∷ b)) op 4 4 w ls4
      js4 rest3 (law w world l l' l'' l''' j j' j'' j''' d d' d'' d''' g g' g'' g''')))))

  -- an operator whose row allows so many

  pub of_one : ((bound : List (List ℕ)) (m : ℕ) → IsSoundNode bound op m → nat_eq m 1 ≡ true) → One →
      Applies S op apply
  of_one rows law bound w world ls js [] s h = let q = rows bound 0 s in absurd (cc)
  of_one rows law bound w world ls js (d ∷ []) s h = one_gives law w world ls js d h
  of_one rows law bound w world ls js (d ∷ d' ∷ ds) s h = let q = eqb-true _ _ (rows bound _ s) in absurd
      (omega (arith, q))

  pub of_two : ((bound : List (List ℕ)) (m : ℕ) → IsSoundNode bound op m → nat_eq m 2 ≡ true) → Two →
      Applies S op apply
  of_two rows law bound w world ls js [] s h = let q = rows bound 0 s in absurd (cc)
  of_two rows law bound w world ls js (d ∷ []) s h = let q = rows bound 1 s in absurd (cc)
  of_two rows law bound w world ls js (d ∷ d' ∷ []) s h = two_gives law w world ls js d d' h
  of_two rows law bound w world ls js (d ∷ d' ∷ d'' ∷ ds) s h = let q = eqb-true _ _ (rows bound _ s) in
      absurd (omega (arith, q))

  pub of_one_or_two :
      ((bound : List (List ℕ)) (m : ℕ) → IsSoundNode bound op m → (nat_le 1 m && nat_le m 2) ≡ true) → One →
      Two → Applies S op apply
  of_one_or_two rows one two bound w world ls js [] s h = let q = rows bound 0 s in absurd (cc)
  of_one_or_two rows one two bound w world ls js (d ∷ []) s h = one_gives one w world ls js d h
  of_one_or_two rows one two bound w world ls js (d ∷ d' ∷ []) s h = two_gives two w world ls js d d' h
  of_one_or_two rows one two bound w world ls js (d ∷ d' ∷ d'' ∷ ds) s h = let q = at_most 1 2
      (length (d ∷ d' ∷ d'' ∷ ds)) (rows bound (length (d ∷ d' ∷ d'' ∷ ds)) s) in absurd (omega (arith, q))

  pub of_two_or_three :
      ((bound : List (List ℕ)) (m : ℕ) → IsSoundNode bound op m → (nat_le 2 m && nat_le m 3) ≡ true) → Two →
      Three → Applies S op apply
  of_two_or_three rows two three bound w world ls js [] s h = let q = rows bound 0 s in absurd (cc)
  of_two_or_three rows two three bound w world ls js (d ∷ []) s h = let q = rows bound 1 s in absurd (cc)
  of_two_or_three rows two three bound w world ls js (d ∷ d' ∷ []) s h = two_gives two w world ls js d d' h
  of_two_or_three rows two three bound w world ls js (d ∷ d' ∷ d'' ∷ []) s h = three_gives three w world ls js
      d d' d'' h
  of_two_or_three rows two three bound w world ls js (d ∷ d' ∷ d'' ∷ d''' ∷ ds) s h = let q = at_most 2 3
      (length (d ∷ d' ∷ d'' ∷ d''' ∷ ds)) (rows bound (length (d ∷ d' ∷ d'' ∷ d''' ∷ ds)) s) in absurd
      (omega (arith, q))

  pub of_three_or_four :
      ((bound : List (List ℕ)) (m : ℕ) → IsSoundNode bound op m → (nat_le 3 m && nat_le m 4) ≡ true) → Three →
      Four → Applies S op apply
  of_three_or_four rows three four bound w world ls js [] s h = let q = rows bound 0 s in absurd (cc)
  of_three_or_four rows three four bound w world ls js (d ∷ []) s h = let q = rows bound 1 s in absurd (cc)
  of_three_or_four rows three four bound w world ls js (d ∷ d' ∷ []) s h = let q = rows bound 2 s in absurd
      (cc)
  of_three_or_four rows three four bound w world ls js (d ∷ d' ∷ d'' ∷ []) s h = three_gives three w world ls
      js d d' d'' h
  of_three_or_four rows three four bound w world ls js (d ∷ d' ∷ d'' ∷ d''' ∷ []) s h = four_gives four w
      world ls js d d' d'' d''' h
  of_three_or_four rows three four bound w world ls js (d ∷ d' ∷ d'' ∷ d''' ∷ e ∷ ds) s h = let q = at_most 3
      4 (length (d ∷ d' ∷ d'' ∷ d''' ∷ e ∷ ds)) (rows bound (length (d ∷ d' ∷ d'' ∷ d''' ∷ e ∷ ds)) s) in
      absurd (omega (arith, q))
