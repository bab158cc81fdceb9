-- What is resolved gives what the expression means, where the names around it match the numbers.
use Rattle.std.proofs.Common.{◌≡◌, ℕ, ◌+◌, List, [], ◌∷◌, ◌++◌, length, take, drop, Bool, false, Option, Some, None, refl, sym, ap, ◌∙◌, arith, subst}
use Rattle.std.proofs.lemmas.List.{append-nil, append_assoc}
use Rattle.std.specs.List.{slice_get}
use Rattle.prop_values.specs.declared.kinds.Want.{Want}
use Rattle.prop_values.specs.declared.kinds.Want.TheVariants as wants
use Rattle.expr_syntax.specs.TermSize.{nodes}
use Rattle.expr_syntax.specs.Term.{Term, literal, node, Terms, no_terms, term}
use Rattle.expr_syntax.specs.declared.expression.Operator.{Operator}
use Rattle.operator_values.specs.Evaluated.{Evaluated}
use Rattle.eval_face.specs.Bindings.{outcomes_of, body_of, let_of}
use Rattle.eval_face.specs.Meaning.{meaning_by, node_meaning, mean, means}
use Rattle.eval_face.specs.Meanings.{Meaning}
use Rattle.eval_face.specs.Names.{BoundOutcomes, bound}
use Rattle.eval_face.specs.Rules.{Rule, each, deciding, cases, labels, stops, ramp, bindings, variable, rule_of}
use Rattle.eval_face.specs.World.{World}
use Rattle.expr_nodes.specs.Limits.{has_names}
use Rattle.expr_nodes.specs.Marks.{HoldsBy, MarksHold, ArgumentMarksHold, LetMarksHold}
use Rattle.expr_nodes.specs.Node.{Node, inner, Children}
use Rattle.expr_nodes.specs.Outcome.{all_known, outcome, outcomes, promises}
use Rattle.expr_nodes.specs.Resolving.{NumberedNames, Numbered, count_of, outputs_want, argument_want, own_want, key_of, by_key, by_rule, resolve, resolve_arguments, resolve_let}
use Rattle.expr_nodes.proofs.PromiseLaws.{append_last, last_promise, outcome_later}
use Rattle.expr_nodes.proofs.ResolveShape.{adds, arguments_add, names_below_new, scope_below_new, scope_below_later}
use Rattle.expr_nodes.proofs.RuleLaws.{RowAgrees, row_agrees, argument_outcomes, rule_known, property_means}
use Rattle.expr_nodes.proofs.ScopeLaws.{NamesMatch, Matches, names_later, scope_later, names_last, variable_same, NamesBelow, ScopeBelow}

-- what a node gives with all bindings so far
abbrev pub gives : Numbered → World → Evaluated
gives r world = outcome r.0 (promises r.1 world) world

-- ---- a node, by its key and its rule

key_same : (key : Option (List ℕ)) (op : Operator) (ts : Terms) → key_of op ts ≡ key →
    (want : Want) (so_far : List Node)
    (other : Numbered) (names : BoundOutcomes) (world : World) →
    node_meaning op (means ts) want names world ≡ gives other world →
    node_meaning op (means ts) want names world ≡ gives (by_key key want so_far other) world
key_same (Some key) op ts e want so_far other names world h = property_means op ts key e want names world
key_same None op ts e want so_far other names world h = h

inner_same : (rule : Rule) (op : Operator) → rule_of op ≡ rule → RowAgrees rule op → has_names rule ≡ false →
    (ms : List Meaning)
    (want : Want) (arguments : Children × List Node) (names : BoundOutcomes) (world : World) →
    argument_outcomes op (length ms) 0 (outputs_want rule want) ms names world
    ≡ outcomes arguments.0 (promises arguments.1 world) world →
    meaning_by rule op ms want names world ≡ gives (inner op want arguments.0, arguments.1) world
inner_same rule op e row free ms want arguments names world a =
    rule_known rule op row free ms want names world
    ∙ (ap (λ os. meaning_by rule op (all_known os) want [] world) a
    ∙ ap (λ r. meaning_by r op (all_known (outcomes arguments.0 (promises arguments.1 world) world))
    want [] world) (sym e))

rule_same : (rule : Rule) (op : Operator) → rule_of op ≡ rule → RowAgrees rule op →
    (ms : List Meaning) (want : Want)
    (scope : List NumberedNames) (so_far : List Node) (arguments : Children × List Node)
    (as_let : List (List ℕ) → Numbered)
    (names : BoundOutcomes) (world : World) → Matches scope names (promises so_far world) →
    (Arguments : Type 0) (InLet : List (List ℕ) → Type 0) → HoldsBy rule Arguments InLet →
    (Arguments → argument_outcomes op (length ms) 0 (outputs_want rule want) ms names world
    ≡ outcomes arguments.0 (promises arguments.1 world) world) →
    ((bs : List (List ℕ)) → InLet bs → let_of bs ms want names world ≡ gives (as_let bs) world) →
    meaning_by rule op ms want names world ≡ gives (by_rule rule op want scope so_far arguments as_let) world
rule_same (each apply) op e row ms want scope so_far arguments as_let names world h A L q a l =
    inner_same (each apply) op e row refl ms want arguments names world (a q)
rule_same (deciding decides none) op e row ms want scope so_far arguments as_let names world h A L q a l =
    inner_same (deciding decides none) op e row refl ms want arguments names world (a q)
rule_same cases op e row ms want scope so_far arguments as_let names world h A L q a l =
    inner_same cases op e row refl ms want arguments names world (a q)
rule_same (labels ls) op e row ms want scope so_far arguments as_let names world h A L q a l =
    inner_same (labels ls) op e row refl ms want arguments names world (a q)
rule_same (stops inputs) op e row ms want scope so_far arguments as_let names world h A L q a l =
    inner_same (stops inputs) op e row refl ms want arguments names world (a q)
rule_same (ramp curve inputs) op e row ms want scope so_far arguments as_let names world h A L q a l =
    inner_same (ramp curve inputs) op e row refl ms want arguments names world (a q)
rule_same (bindings bs) op e row ms want scope so_far arguments as_let names world h A L q a l = l bs q
rule_same (variable name) op e row ms want scope so_far arguments as_let names world h A L q a l =
    sym (variable_same scope names name want (promises so_far world) world h)

count_same : (ts : Terms) → count_of ts ≡ length (means ts)
count_same no_terms = refl
count_same (term t ts) = let r = count_same ts in omega arith

-- ---- the induction

mutual
  pub same : (t : Term) (want : Want) (marks : List Bool) (scope : List NumberedNames) (so_far : List Node) →
      ScopeBelow (length so_far) scope →
      (names : BoundOutcomes) (world : World) → MarksHold t want marks names world →
      Matches scope names (promises so_far world) →
      mean t want names world ≡ gives (resolve t want marks scope so_far) world
  same (literal d) want marks scope so_far h names world q g = refl
  same (node op ts) want marks scope so_far h names world q g =
      let own = own_want op marks want in
      let left = drop 1 marks in
      let arguments = resolve_arguments ts op (count_of ts) 0 own left scope so_far in
      let as_let : List (List ℕ) → Numbered = λ bs. resolve_let ts bs own left scope [] so_far in
      let inside : List (List ℕ) → BoundOutcomes =
      λ bs. bound bs (outcomes_of (take (length bs) (means ts)) names world) ∷ names in
      let outputs = outputs_want (rule_of op) own in
      q.0 ∙ key_same (key_of op ts) op ts refl own so_far
      (by_rule (rule_of op) op own scope so_far arguments as_let) names world
      (rule_same (rule_of op) op refl (row_agrees op) (means ts) own scope so_far arguments as_let
      names world g (ArgumentMarksHold ts op (count_of ts) 0 own left names world)
      (λ bs. LetMarksHold ts bs own left names (inside bs) world) q.1
      (λ r. ap (λ m. argument_outcomes op m 0 outputs (means ts) names world) (sym (count_same ts))
      ∙ arguments_same ts op (count_of ts) 0 own left scope so_far h names world r g)
      (λ bs r. let_same ts bs own left scope [] so_far h tt names [] world tt g (inside bs) refl r))

  pub arguments_same : (ts : Terms) (op : Operator) (m k : ℕ) (want : Want) (marks : List Bool)
      (scope : List NumberedNames) (so_far : List Node) →
      ScopeBelow (length so_far) scope → (names : BoundOutcomes) (world : World) →
      ArgumentMarksHold ts op m k want marks names world →
      Matches scope names (promises so_far world) →
      argument_outcomes op m k (outputs_want (rule_of op) want) (means ts) names world
      ≡ outcomes (resolve_arguments ts op m k want marks scope so_far).0
      (promises (resolve_arguments ts op m k want marks scope so_far).1 world) world
  arguments_same no_terms op m k want marks scope so_far h names world q g = refl
  arguments_same (term t ts) op m k want marks scope so_far h names world q g =
      let w = argument_want op m k want in
      let left = drop (nodes t) marks in
      let first = resolve t w marks scope so_far in
      let a = adds t w marks scope so_far h in
      let below = scope_below_later scope so_far a.more.0 first.1 a.more.1 h in
      let b = arguments_add ts op m (k + 1) want left scope first.1 below in
      let rest = resolve_arguments ts op m (k + 1) want left scope first.1 in
      let one = same t w marks scope so_far h names world q.0 g
      ∙ sym (outcome_later first.0 first.1 b.more.0 rest.1 world b.more.1 a.below) in
      let more = arguments_same ts op m (k + 1) want left scope first.1 below names world q.1
      (scope_later scope names so_far a.more.0 first.1 world a.more.1 g) in
      λ i. one i ∷ more i

  pub let_same : (ts : Terms) (bs : List (List ℕ)) (want : Want) (marks : List Bool) (scope : List NumberedNames)
      (earlier : NumberedNames)
      (so_far : List Node) → ScopeBelow (length so_far) scope → NamesBelow (length so_far) earlier →
      (names : BoundOutcomes)
      (known : List (List ℕ × Evaluated)) (world : World) → NamesMatch earlier known (promises so_far world) →
      Matches scope names (promises so_far world) → (inside : BoundOutcomes) →
      inside ≡ (known ++ bound bs (outcomes_of (take (length bs) (means ts)) names world)) ∷ names →
      LetMarksHold ts bs want marks names inside world →
      body_of (drop (length bs) (means ts)) want
      ((known ++ bound bs (outcomes_of (take (length bs) (means ts)) names world)) ∷ names) world
      ≡ gives (resolve_let ts bs want marks scope earlier so_far) world
  let_same no_terms [] want marks scope earlier so_far h k names known world q g inside e r = refl
  let_same no_terms (name ∷ bs) want marks scope earlier so_far h k names known world q g inside e r = refl
  let_same (term t no_terms) [] want marks scope earlier so_far h k names known world q g inside e r =
      let here : inside ≡ known ∷ names = e ∙ ap (λ x. x ∷ names) (append-nil known) in
      ap (λ x. mean t want (x ∷ names) world) (append-nil known)
      ∙ same t want marks (earlier ∷ scope) so_far (k, h) (known ∷ names) world
      (subst (λ ns. MarksHold t want marks ns world) here r) (q, g)
  let_same (term t (term u us)) [] want marks scope earlier so_far h k names known world q g inside e r = refl
  let_same (term t ts) (name ∷ bs) want marks scope earlier so_far h k names known world q g inside e r =
      let binding = resolve t wants.Any marks scope so_far in
      let a = adds t wants.Any marks scope so_far h in
      let left = drop (nodes t) marks in
      let all = binding.1 ++ binding.0 ∷ [] in
      let later = a.more.0 ++ binding.0 ∷ [] in
      let grows : all ≡ so_far ++ later = ap (λ xs. xs ++ binding.0 ∷ []) a.more.1
      ∙ append_assoc so_far a.more.0 (binding.0 ∷ []) in
      let frame = earlier ++ (name, length binding.1) ∷ [] in
      let o = mean t wants.Any names world in
      let here : slice_get (promises all world) (length binding.1) ≡ Some o =
      last_promise binding.1 binding.0 world ∙ ap Some (sym (same t wants.Any marks scope so_far h names world r.0 g)) in
      let rest = bound bs (outcomes_of (take (length bs) (means ts)) names world) in
      let further : (known ++ (name, o) ∷ rest) ∷ names ≡ ((known ++ (name, o) ∷ []) ++ rest) ∷ names =
      ap (λ x. x ∷ names) (sym (append_last known (name, o) rest)) in
      ap (λ x. body_of (drop (length bs) (means ts)) want (x ∷ names) world)
      (sym (append_last known (name, o) rest))
      ∙ let_same ts bs want left scope frame all (scope_below_new scope so_far binding a.more.0 a.more.1 h)
      (names_below_new earlier name so_far binding a.more.0 a.more.1 k) names (known ++ (name, o) ∷ []) world
      (names_last earlier known (promises all world) name (length binding.1) o
      (names_later earlier known so_far later all world grows q) here)
      (scope_later scope names so_far later all world grows g) inside (e ∙ further) r.1
