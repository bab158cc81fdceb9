-- Resolved expressions mean what the expressions mean.
use Rattle.std.proofs.Common.{◌≡◌, ℕ, ◌+◌, zero, suc, List, [], ◌∷◌, length, take, drop, Bool, true, false, ◌&&◌, if◌then◌else◌, refl, sym, ap, arith}
use Rattle.prop_values.specs.declared.kinds.Want.{Want}
use Rattle.prop_values.specs.declared.kinds.Want.TheVariants as wants
use Rattle.expr_syntax.specs.Term.{Term, literal, node, Terms, no_terms, term}
use Rattle.expr_syntax.specs.TermSize.{nodes}
use Rattle.expr_syntax.specs.declared.expression.Operator.{Operator}
use Rattle.eval_face.specs.Bindings.{outcomes_of}
use Rattle.eval_face.specs.Meaning.{mean, means}
use Rattle.eval_face.specs.Names.{BoundOutcomes, bound}
use Rattle.eval_face.specs.Rules.{Rule, each, deciding, cases, labels, stops, ramp, bindings, variable, rule_of}
use Rattle.eval_face.specs.World.{World}
use Rattle.expr_nodes.specs.Limits.{AskEarlier}
use Rattle.expr_nodes.specs.Marks.{HoldsBy, MarksHold, ArgumentMarksHold, LetMarksHold}
use Rattle.expr_nodes.specs.Resolved.{ResolvedExpressionsMeanTheSame, MarkedExpressionsMeanTheSame}
use Rattle.expr_nodes.specs.Resolving.{count_of, argument_want, has_fit, untested, own_want}
use Rattle.expr_nodes.proofs.ResolveMeaning.{same}
use Rattle.expr_nodes.proofs.ResolveShape.{adds}

none_earlier : AskEarlier []
none_earlier i binding e = absurd (cc)

pub marked_expressions : MarkedExpressionsMeanTheSame
marked_expressions t want marks hold =
    let a = adds t want marks [] [] tt in
    record {
      meaning = λ world. same t want marks [] [] tt [] world (hold world) tt;
      below = a.below;
      earlier = a.earlier none_earlier;
      sized = omega (arith, a.sized);
    }

-- ---- no node is marked

no_more : (n : ℕ) (marks : List Bool) → marks ≡ [] → drop n marks ≡ []
no_more zero [] e = refl
no_more (suc n) [] e = refl
no_more n (mark ∷ marks) e = absurd (cc)

unmarked : (fits : Bool) (want : Want) → (if fits && false then untested want else want) ≡ want
unmarked true want = refl
unmarked false want = refl

same_want : (op : Operator) (marks : List Bool) (want : Want) → marks ≡ [] → want ≡ own_want op marks want
same_want op [] want e = sym (unmarked (has_fit (rule_of op)) want)
same_want op (mark ∷ marks) want e = absurd (cc)

holds_by : (rule : Rule) (Arguments : Type 0) (InLet : List (List ℕ) → Type 0) → Arguments →
    ((bs : List (List ℕ)) → InLet bs) → HoldsBy rule Arguments InLet
holds_by (each apply) A L a l = a
holds_by (deciding decides none) A L a l = a
holds_by cases A L a l = a
holds_by (labels ls) A L a l = a
holds_by (stops inputs) A L a l = a
holds_by (ramp curve inputs) A L a l = a
holds_by (bindings bs) A L a l = l bs
holds_by (variable name) A L a l = tt

mutual
  pub none_marked : (t : Term) (want : Want) (marks : List Bool) → marks ≡ [] → (names : BoundOutcomes) (world : World) →
      MarksHold t want marks names world
  none_marked (literal d) want marks e names world = tt
  none_marked (node op ts) want marks e names world =
      let own = own_want op marks want in
      let left = drop 1 marks in
      let none = no_more 1 marks e in
      let inside : List (List ℕ) → BoundOutcomes =
      λ bs. bound bs (outcomes_of (take (length bs) (means ts)) names world) ∷ names in (
        ap (λ w. mean (node op ts) w names world) (same_want op marks want e),
        holds_by (rule_of op) (ArgumentMarksHold ts op (count_of ts) 0 own left names world)
            (λ bs. LetMarksHold ts bs own left names (inside bs) world)
            (no_argument ts op (count_of ts) 0 own left none names world)
            (λ bs. none_in_let ts bs own left none names (inside bs) world),
      )

  no_argument : (ts : Terms) (op : Operator) (m k : ℕ) (want : Want) (marks : List Bool) → marks ≡ [] →
      (names : BoundOutcomes) (world : World) → ArgumentMarksHold ts op m k want marks names world
  no_argument no_terms op m k want marks e names world = tt
  no_argument (term t ts) op m k want marks e names world = (
    none_marked t (argument_want op m k want) marks e names world,
    no_argument ts op m (k + 1) want (drop (nodes t) marks) (no_more (nodes t) marks e) names world,
  )

  none_in_let : (ts : Terms) (bs : List (List ℕ)) (want : Want) (marks : List Bool) → marks ≡ [] →
      (names inside : BoundOutcomes) (world : World) → LetMarksHold ts bs want marks names inside world
  none_in_let no_terms bs want marks e names inside world = tt
  none_in_let (term t ts) [] want marks e names inside world = none_marked t want marks e inside world
  none_in_let (term t ts) (name ∷ bs) want marks e names inside world = (
    none_marked t wants.Any marks e names world,
    none_in_let ts bs want (drop (nodes t) marks) (no_more (nodes t) marks e) names inside world,
  )

pub resolved_expressions : ResolvedExpressionsMeanTheSame
resolved_expressions t want = marked_expressions t want [] (λ world. none_marked t want [] refl [] world)
