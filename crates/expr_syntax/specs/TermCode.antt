-- A term as a ghost value, which gives the term back.
use Rattle.std.specs.Prelude.{◌≡◌, ℕ, List, refl}
use Rattle.std.proofs.Common.{ap}
use base.Stored.{Gv, gnil, gnum, gcons, Coded, coded_list}
use Rattle.prop_values.specs.DataCode.{data_code}
use Rattle.expr_syntax.specs.Term.{Term, literal, node, Terms, no_terms, term}
use Rattle.expr_syntax.specs.declared.expression.Operator.{Operator}
use Rattle.expr_syntax.specs.contracts.expression.Operator as operator

abbrev pub operator_code : Coded Operator
operator_code = (operator.the_row).coded

abbrev mutual
  pub code_term : Term → Gv
  code_term (literal d) = gcons (gnum 0) (data_code.code d)
  code_term (node op ts) = gcons (gnum 1) (gcons (operator_code.code op) (code_terms ts))

  pub code_terms : Terms → Gv
  code_terms no_terms = gnil
  code_terms (term t ts) = gcons (code_term t) (code_terms ts)

abbrev tag : Gv → ℕ
tag gnil = 0
tag (gnum n) = n
tag (gcons a b) = tag a

abbrev head : Gv → Gv
head gnil = gnil
head (gnum n) = gnil
head (gcons a b) = a

abbrev tail : Gv → Gv
tail gnil = gnil
tail (gnum n) = gnil
tail (gcons a b) = b

mutual
  pub inj_term : (x y : Term) → code_term x ≡ code_term y → x ≡ y
  inj_term (literal a) (literal b) p = ap literal (data_code.inj a b (ap tail p))
  inj_term (node f a) (node g b) p =
      λ i. node (operator_code.inj f g (ap (λ x. head (tail x)) p) i) (inj_terms a b (ap (λ x. tail (tail x)) p) i)
  inj_term (literal a) (node g b) p = absurd (let q = ap tag p in cc)
  inj_term (node f a) (literal b) p = absurd (let q = ap tag p in cc)

  pub inj_terms : (x y : Terms) → code_terms x ≡ code_terms y → x ≡ y
  inj_terms no_terms no_terms p = refl
  inj_terms (term a ats) (term b bs) p = λ i. term (inj_term a b (ap head p) i) (inj_terms ats bs (ap tail p) i)
  inj_terms no_terms (term b bs) p = absurd (cc)
  inj_terms (term a ats) no_terms p = absurd (cc)

abbrev pub term_code : Coded Term
term_code = record { code = code_term; inj = inj_term }

abbrev pub terms_code : Coded (List Term)
terms_code = coded_list term_code
