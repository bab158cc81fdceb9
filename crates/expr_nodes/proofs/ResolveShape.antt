-- What is resolved comes after all bindings so far, asks for those before it alone, and has no more nodes than
-- the expression.
use Rattle.std.proofs.Common.{◌≡◌, ℕ, ◌+◌, ◌≤◌, List, [], ◌∷◌, ◌++◌, length, drop, Bool, false, Option, Some, None, refl, arith, sym, ap, ◌∙◌}
use Rattle.std.proofs.lemmas.List.{append-nil, append_assoc}
use Rattle.prop_values.specs.declared.kinds.Want.{Want}
use Rattle.prop_values.specs.declared.kinds.Want.TheVariants as wants
use Rattle.property_tables.specs.Fitting.{fit}
use Rattle.expr_syntax.specs.Term.{Term, literal, node, Terms, no_terms, term}
use Rattle.expr_syntax.specs.TermSize.{nodes, terms_nodes}
use Rattle.expr_syntax.specs.declared.expression.Operator.{Operator}
use Rattle.eval_face.specs.Rules.{Rule, each, deciding, cases, labels, stops, ramp, bindings, variable, rule_of}
use Rattle.expr_nodes.specs.Limits.{has_names, AsksBelow, AllAskBelow, AskEarlier}
use Rattle.expr_nodes.specs.Node.{Node, constant, property, inner, Children, child, size, children_size, total_size}
use Rattle.expr_nodes.specs.Resolving.{NumberedNames, Numbered, number_of, variable_node, count_of, argument_want, own_want, key_of, by_key, by_rule, resolve, resolve_arguments, resolve_let}
use Rattle.expr_nodes.proofs.PromiseLaws.{length_last, longer, size_last, below_more, earlier_last}
use Rattle.expr_nodes.proofs.ScopeLaws.{NamesBelow, ScopeBelow, names_more, scope_more, names_below_last, variable_below, variable_size}

-- ---- what is added

-- All bindings are those so far and more. Each of them asks for earlier ones, what is resolved asks below their
-- number, and there are no more nodes than counted.
pub record Adds (asks : ℕ → Type 0) (own_size count : ℕ) (so_far all : List Node) : Type 0 where
  pub more : (later : List Node) × (all ≡ so_far ++ later)
  pub below : asks (length all)
  pub earlier : AskEarlier so_far → AskEarlier all
  pub sized : own_size + total_size all ≤ count + total_size so_far

abbrev pub NodeAdds : ℕ → List Node → Numbered → Type 0
NodeAdds count so_far r = Adds (λ limit. AsksBelow limit r.0) (size r.0) count so_far r.1

abbrev pub ChildrenAdd : ℕ → List Node → Children × List Node → Type 0
ChildrenAdd count so_far r = Adds (λ limit. AllAskBelow limit r.0) (children_size r.0) count so_far r.1

-- a node without bindings of its own
alone : (count : ℕ) (so_far : List Node) (n : Node) → AsksBelow (length so_far) n → size n ≤ count →
    NodeAdds count so_far (n, so_far)
alone count so_far n h w =
    record { more = ([], sym (append-nil so_far)); below = h; earlier = λ o. o; sized = omega arith }

-- ---- a node, by its key and its rule

key_adds : (key : Option (List ℕ)) (want : Want) (count : ℕ) (so_far : List Node) (other : Numbered) →
    NodeAdds (1 + count) so_far other → NodeAdds (1 + count) so_far (by_key key want so_far other)
key_adds (Some key) want count so_far other h = alone (1 + count) so_far (property key want) tt (omega arith)
key_adds None want count so_far other h = h

inner_adds : (op : Operator) (want : Want) (count : ℕ) (so_far : List Node) (arguments : Children × List Node) →
    has_names (rule_of op) ≡ false → ChildrenAdd count so_far arguments →
    NodeAdds (1 + count) so_far (inner op want arguments.0, arguments.1)
inner_adds op want count so_far arguments free a =
    record { more = a.more; below = (free, a.below); earlier = a.earlier; sized = omega (arith, a.sized) }

rule_adds : (rule : Rule) (op : Operator) → rule_of op ≡ rule →
    (want : Want) (scope : List NumberedNames) (count : ℕ)
    (so_far : List Node) (arguments : Children × List Node) (as_let : List (List ℕ) → Numbered) →
    ScopeBelow (length so_far) scope → ChildrenAdd count so_far arguments →
    ((names : List (List ℕ)) → NodeAdds (1 + count) so_far (as_let names)) →
    NodeAdds (1 + count) so_far (by_rule rule op want scope so_far arguments as_let)
rule_adds (each apply) op e want scope count so_far arguments as_let h a l =
    inner_adds op want count so_far arguments (ap has_names e) a
rule_adds (deciding decides none) op e want scope count so_far arguments as_let h a l =
    inner_adds op want count so_far arguments (ap has_names e) a
rule_adds cases op e want scope count so_far arguments as_let h a l =
    inner_adds op want count so_far arguments (ap has_names e) a
rule_adds (labels ls) op e want scope count so_far arguments as_let h a l =
    inner_adds op want count so_far arguments (ap has_names e) a
rule_adds (stops inputs) op e want scope count so_far arguments as_let h a l =
    inner_adds op want count so_far arguments (ap has_names e) a
rule_adds (ramp curve inputs) op e want scope count so_far arguments as_let h a l =
    inner_adds op want count so_far arguments (ap has_names e) a
rule_adds (bindings names) op e want scope count so_far arguments as_let h a l = l names
rule_adds (variable name) op e want scope count so_far arguments as_let h a l =
    alone (1 + count) so_far (variable_node (number_of scope name) want)
    (variable_below (length so_far) scope name want h)
    (let s = variable_size (number_of scope name) want in omega arith)

-- ---- parts that are resolved one after another

children_add : (count counts : ℕ) (so_far : List Node) (first : Numbered) (rest : Children × List Node) →
    NodeAdds count so_far first → ChildrenAdd counts first.1 rest →
    ChildrenAdd (count + counts) so_far (child first.0 rest.0, rest.1)
children_add count counts so_far first rest a b = record {
  more = (
    a.more.0 ++ b.more.0,
    b.more.1
        ∙ (ap (λ xs. xs ++ b.more.0) a.more.1 ∙ append_assoc so_far a.more.0 b.more.0),
  );
  below = (
    below_more (length first.1) (length rest.1) first.0 (longer first.1 b.more.0 rest.1 b.more.1)
        a.below,
    b.below,
  );
  earlier = λ o. b.earlier (a.earlier o);
  sized = omega (arith, a.sized, b.sized);
}

binding_adds : (count counts : ℕ) (so_far : List Node) (binding rest : Numbered) →
    NodeAdds count so_far binding →
    NodeAdds counts (binding.1 ++ binding.0 ∷ []) rest → NodeAdds (count + counts) so_far rest
binding_adds count counts so_far binding rest a b =
    let one = binding.0 ∷ [] in
    let w = size_last binding.1 binding.0 in
    record {
      more = (
        a.more.0 ++ one ++ b.more.0,
        b.more.1
            ∙ (ap (λ xs. (xs ++ one) ++ b.more.0) a.more.1
            ∙ (ap (λ xs. xs ++ b.more.0) (append_assoc so_far a.more.0 one)
            ∙ append_assoc so_far (a.more.0 ++ one) b.more.0)),
      );
      below = b.below;
      earlier = λ o. b.earlier (earlier_last binding.1 binding.0 (a.earlier o) a.below);
      sized = omega (arith, a.sized, b.sized);
    }

-- the numbers of names are below that of all bindings after one more binding
pub one_more : (so_far : List Node) (binding : Numbered) (later : List Node) → binding.1 ≡ so_far ++ later →
    length so_far ≤ length (binding.1 ++ binding.0 ∷ [])
one_more so_far binding later e =
    let l = length_last binding.1 binding.0 in
    let g = longer so_far later binding.1 e in
    omega arith

pub names_below_new : (f : NumberedNames) (name : List ℕ) (so_far : List Node) (binding : Numbered)
    (later : List Node) →
    binding.1 ≡ so_far ++ later → NamesBelow (length so_far) f →
    NamesBelow (length (binding.1 ++ binding.0 ∷ [])) (f ++ (name, length binding.1) ∷ [])
names_below_new f name so_far binding later e h =
    let all = length (binding.1 ++ binding.0 ∷ []) in
    let l = length_last binding.1 binding.0 in
    names_below_last all f name (length binding.1)
    (names_more (length so_far) all f (one_more so_far binding later e) h)
    (omega arith)

pub scope_below_new : (scope : List NumberedNames) (so_far : List Node) (binding : Numbered)
    (later : List Node) →
    binding.1 ≡ so_far ++ later → ScopeBelow (length so_far) scope →
    ScopeBelow (length (binding.1 ++ binding.0 ∷ [])) scope
scope_below_new scope so_far binding later e h =
    scope_more (length so_far) (length (binding.1 ++ binding.0 ∷ [])) scope (one_more so_far binding later e) h

pub scope_below_later : (scope : List NumberedNames) (so_far later all : List Node) → all ≡ so_far ++ later →
    ScopeBelow (length so_far) scope → ScopeBelow (length all) scope
scope_below_later scope so_far later all e h =
    scope_more (length so_far) (length all) scope (longer so_far later all e) h

one_size : (count : ℕ) (so_far : List Node) (r : Numbered) → NodeAdds count so_far r →
    NodeAdds (1 + (count + 0)) so_far r
one_size count so_far r a =
    record { more = a.more; below = a.below; earlier = a.earlier; sized = omega (arith, a.sized) }

one_before : (count counts : ℕ) (so_far : List Node) (r : Numbered) → NodeAdds (count + (1 + counts)) so_far r →
    NodeAdds (1 + (count + counts)) so_far r
one_before count counts so_far r a =
    record { more = a.more; below = a.below; earlier = a.earlier; sized = omega (arith, a.sized) }

-- ---- the induction

mutual
  pub adds : (t : Term) (want : Want) (marks : List Bool) (scope : List NumberedNames) (so_far : List Node) →
      ScopeBelow (length so_far) scope →
      NodeAdds (nodes t) so_far (resolve t want marks scope so_far)
  adds (literal d) want marks scope so_far h = alone 1 so_far (constant (fit want d)) tt (omega arith)
  adds (node op ts) want marks scope so_far h =
      let own = own_want op marks want in
      let rest = drop 1 marks in
      let arguments = resolve_arguments ts op (count_of ts) 0 own rest scope so_far in
      let as_let : List (List ℕ) → Numbered = λ names. resolve_let ts names own rest scope [] so_far in
      key_adds (key_of op ts) own (terms_nodes ts) so_far
      (by_rule (rule_of op) op own scope so_far arguments as_let)
      (rule_adds (rule_of op) op refl own scope (terms_nodes ts) so_far arguments as_let h
      (arguments_add ts op (count_of ts) 0 own rest scope so_far h)
      (λ names. let_adds ts names own rest scope [] so_far h tt))

  pub arguments_add : (ts : Terms) (op : Operator) (m k : ℕ) (want : Want) (marks : List Bool)
      (scope : List NumberedNames)
      (so_far : List Node) →
      ScopeBelow (length so_far) scope →
      ChildrenAdd (terms_nodes ts) so_far (resolve_arguments ts op m k want marks scope so_far)
  arguments_add no_terms op m k want marks scope so_far h =
      record { more = ([], sym (append-nil so_far)); below = tt; earlier = λ o. o; sized = omega arith }
  arguments_add (term t ts) op m k want marks scope so_far h =
      let w = argument_want op m k want in
      let rest = drop (nodes t) marks in
      let first = resolve t w marks scope so_far in
      let a = adds t w marks scope so_far h in
      children_add (nodes t) (terms_nodes ts) so_far first
      (resolve_arguments ts op m (k + 1) want rest scope first.1) a
      (arguments_add ts op m (k + 1) want rest scope first.1
      (scope_below_later scope so_far a.more.0 first.1 a.more.1 h))

  pub let_adds : (ts : Terms) (names : List (List ℕ)) (want : Want) (marks : List Bool) (scope : List NumberedNames)
      (earlier : NumberedNames)
      (so_far : List Node) → ScopeBelow (length so_far) scope → NamesBelow (length so_far) earlier →
      NodeAdds (1 + terms_nodes ts) so_far (resolve_let ts names want marks scope earlier so_far)
  let_adds no_terms names want marks scope earlier so_far h g =
      alone 1 so_far (resolve_let no_terms names want marks scope earlier so_far).0 tt (omega arith)
  let_adds (term t no_terms) [] want marks scope earlier so_far h g =
      one_size (nodes t) so_far (resolve t want marks (earlier ∷ scope) so_far)
      (adds t want marks (earlier ∷ scope) so_far (g, h))
  let_adds (term t (term u us)) [] want marks scope earlier so_far h g =
      alone (1 + terms_nodes (term t (term u us))) so_far
      (resolve_let (term t (term u us)) [] want marks scope earlier so_far).0 tt (omega arith)
  let_adds (term t ts) (name ∷ names) want marks scope earlier so_far h g =
      let binding = resolve t wants.Any marks scope so_far in
      let a = adds t wants.Any marks scope so_far h in
      let all = binding.1 ++ binding.0 ∷ [] in
      let frame = earlier ++ (name, length binding.1) ∷ [] in
      let others = drop (nodes t) marks in
      let rest = resolve_let ts names want others scope frame all in
      one_before (nodes t) (terms_nodes ts) so_far rest
      (binding_adds (nodes t) (1 + terms_nodes ts) so_far binding rest a
      (let_adds ts names want others scope frame all (scope_below_new scope so_far binding a.more.0 a.more.1 h)
      (names_below_new earlier name so_far binding a.more.0 a.more.1 g)))
