-- Terms that every walk over terms finds the same.
use Rattle.std.proofs.Common.{◌≡◌, ℕ, ◌+◌, List, [], ◌∷◌, ◌++◌, refl}
use Rattle.std.specs.Prelude.{Option}
use Rattle.prop_values.specs.Data.{Data}
use Rattle.expr_syntax.specs.Mentioned.{mentions, all_mentions, count, either, of_operator}
use Rattle.expr_syntax.specs.Reading.{global_term}
use Rattle.expr_syntax.specs.Term.{Term, node, Terms, no_terms, term, terms_of}
use Rattle.expr_syntax.specs.TermSize.{nodes, terms_nodes}
use Rattle.expr_syntax.specs.declared.expression.Operator.{Operator}
use Rattle.expr_types.specs.Typing.{typed_as, typings, node_typed, literal_of, literals}
use Rattle.expr_types.specs.Visits.{visits, visitings, node_visits}

pub record SameTerm (t u : Term) : Type 0 where
  pub sized : nodes t ≡ nodes u
  pub mentioned : mentions t ≡ mentions u
  pub typing : typed_as t ≡ typed_as u
  pub visiting : visits t ≡ visits u
  pub value : literal_of t ≡ literal_of u

pub record SameTerms (ts us : Terms) : Type 0 where
  pub counted : count ts ≡ count us
  pub sized : terms_nodes ts ≡ terms_nodes us
  pub mentioned : all_mentions ts ≡ all_mentions us
  pub typed : typings ts ≡ typings us
  pub visited : visitings ts ≡ visitings us
  pub values : literals ts ≡ literals us

pub same_itself : (t : Term) → SameTerm t t
same_itself t = record { sized = refl; mentioned = refl; typing = refl; visiting = refl; value = refl }

none_same : SameTerms no_terms no_terms
none_same = record { counted = refl; sized = refl; mentioned = refl; typed = refl; visited = refl; values = refl }

more_same : (t u : Term) (ts us : Terms) → SameTerm t u → SameTerms ts us → SameTerms (term t ts) (term u us)
more_same t u ts us h k = record {
  counted = λ i. k.counted i + 1;
  sized = λ i. h.sized i + k.sized i;
  mentioned = λ i. either (h.mentioned i) (k.mentioned i);
  typed = λ i. h.typing i ∷ k.typed i;
  visited = λ i. h.visiting i ∷ k.visited i;
  values = λ i. h.value i ∷ k.values i;
}

node_same : (op : Operator) (ts us : Terms) → SameTerms ts us → SameTerm (node op ts) (node op us)
node_same op ts us h = record {
  sized = λ i. 1 + h.sized i;
  mentioned = λ i. either (of_operator op (h.counted i)) (h.mentioned i);
  typing = λ i is_sequence want scope path. node_typed op (h.values i) (h.typed i) is_sequence want scope path;
  visiting = λ i standing path. node_visits op (h.counted i) (h.visited i) standing path;
  value = refl;
}

-- ---- lists of terms

abbrev pub SameList : List Term → List Term → Type 0
SameList [] [] = Unit {0}
SameList (t ∷ ts) (u ∷ us) = SameTerm t u × SameList ts us
SameList [] (u ∷ us) = ⊥
SameList (t ∷ ts) [] = ⊥

list_same : (ts us : List Term) → SameList ts us → SameTerms (terms_of ts) (terms_of us)
list_same [] [] h = none_same
list_same (t ∷ ts) (u ∷ us) h = more_same t u (terms_of ts) (terms_of us) h.0 (list_same ts us h.1)
list_same [] (u ∷ us) h = absurd h
list_same (t ∷ ts) [] h = absurd h

pub nodes_same : (op : Operator) (ts us : List Term) → SameList ts us → SameTerm (node op (terms_of ts)) (node op (terms_of us))
nodes_same op ts us h = node_same op (terms_of ts) (terms_of us) (list_same ts us h)

pub push_same : (ts us : List Term) (t u : Term) → SameList ts us → SameTerm t u → SameList (ts ++ t ∷ []) (us ++ u ∷ [])
push_same [] [] t u h k = (k, tt)
push_same (x ∷ ts) (y ∷ us) t u h k = (h.0, push_same ts us t u h.1 k)
push_same [] (y ∷ us) t u h k = absurd h
push_same (x ∷ ts) [] t u h k = absurd h

-- ---- `global-state`: an object is an object, whatever it holds

pub globals_same : (name : List ℕ) (new old : Option Data) → SameTerm (global_term name new) (global_term name old)
globals_same name new old = record { sized = refl; mentioned = refl; typing = refl; visiting = refl; value = refl }
