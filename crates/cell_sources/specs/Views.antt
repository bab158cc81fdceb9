-- What contracts see of the program's values.
use Rattle.std.specs.Prelude.{◌≡◌, [], unwrap_or}
use Rattle.prop_values.specs.Data.{null}
use Rattle.prop_values.specs.declared.kinds.Want.{Want}
use Rattle.expr_syntax.specs.Mentioned.{mentions}
use Rattle.expr_syntax.specs.Term.{Term, literal}
use Rattle.expr_syntax.specs.TermView.{term_of}
use Rattle.legacy_laws.specs.LegacyFunctionLaw.{ReadsAlways}
use Rattle.form_pool.specs.LegacyForms.{IsReadForm, form_tree, form_want}
use Rattle.form_pool.specs.declared.legacy_form.LegacyForm.{LegacyForm}
use Rattle.asked_cells.specs.Expressions.{CellExpression}
use Rattle.cell_sources.specs.CellExpressions.{term_at}
use Rattle.cell_sources.specs.declared.expressions.ItemExpression.{ItemExpression}
use Rattle.cell_sources.specs.declared.expressions.ItemForm.{ItemForm}
use Rattle.cell_sources.specs.declared.expressions.ItemForm.TheVariants.{Expression, Legacy}

-- what the expression of a legacy form reads as, whatever the values of the global state are
abbrev pub legacy_term : LegacyForm → Term
legacy_term form = unwrap_or (term_at [] (form_tree form)) (literal null)

abbrev pub form_term : ItemForm → Term
form_term (Expression e) = term_of e
form_term (Legacy form) = legacy_term form

abbrev pub expression_seen : ItemExpression → CellExpression
expression_seen e = record { term = form_term e.form; want = e.want; paint = e.paint; globals = e.globals }

-- a legacy form that was read has this expression under this want, whatever the values of the global state are
pub record IsFormAs (form : LegacyForm) (e : Term) (want : Want) : Type 0 where
  pub read : IsReadForm form
  pub wanted : form_want form ≡ want
  pub reads : ReadsAlways (form_tree form) e

-- a legacy form is of this want
abbrev pub IsFormedAs : ItemForm → Want → Type 0
IsFormedAs (Expression e) want = Unit {0}
IsFormedAs (Legacy form) want = IsFormAs form (legacy_term form) want

-- What is said of an item's expression is so: what it mentions, and its legacy form.
pub record IsFormed (e : ItemExpression) : Type 0 where
  pub mentioned : e.mentions ≡ mentions (form_term e.form)
  pub form : IsFormedAs e.form e.want
