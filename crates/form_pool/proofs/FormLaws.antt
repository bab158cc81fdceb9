-- A legacy form gives what its expression means.
use Rattle.std.proofs.Common.{◌≡◌, ◌<◌, ◌≤◌, ℕ, List, [], zero, suc, ◌∷◌, ◌++◌, length, refl, ap, sym, subst, ◌∙◌, arith}
use Rattle.std.specs.Prelude.{map, option_map, slice_index_or, None, OnErr, Option, Some, Err, Ok, Result}
use Rattle.std.specs.List.{slice_get}
use Rattle.std.proofs.lemmas.Option.{slice_get_within}
use Rattle.prop_values.specs.declared.fault.EvalFault.{EvalFault}
use Rattle.prop_values.specs.declared.value.Value.{Value}
use Rattle.halts.specs.declared.halt.Halt.{Halt}
use Rattle.expr_syntax.specs.Term.{Term, literal, node}
use Rattle.expr_syntax.specs.TermSize.{nodes}
use Rattle.operator_values.specs.Evaluated.{GivesValue}
use Rattle.eval_face.specs.World.{World}
use Rattle.expr_nodes.specs.Evaluators.{GivesAt, GivesIn, Sized, nodes_at, nodes_in, sized_term}
use Rattle.tile_reader.specs.declared.tile.Feature.{Feature}
use Rattle.legacy_filters.specs.View.{filter_of}
use Rattle.legacy_functions.specs.View.{function_of, row_of}
use Rattle.legacy_laws.specs.LegacyFilterLaw.{ExpressionsMeanTheirFilters}
use Rattle.legacy_laws.specs.LegacyFunctionLaw.{ExpressionsMeanTheirFunctions, GivesAlways, ReadsAlways, TokenExpressionsMeanTheirTexts}
use Rattle.form_pool.specs.LegacyForms.{IsReadForm, form_tree, form_value, form_want, sized_form, sized_reading}
use Rattle.form_pool.specs.Pooled.{AreFaithful, IsFaithful, IsFeatureIn, NodesAreThere, in_world, no_expression, sized_slot}
use Rattle.form_pool.specs.declared.form_pool.PooledForm.{PooledForm}
use Rattle.form_pool.specs.declared.form_pool.PooledForm.TheVariants.{Legacy, Nodes}
use Rattle.form_pool.specs.declared.legacy_form.LegacyForm.{LegacyForm}
use Rattle.form_pool.specs.declared.legacy_form.LegacyForm.TheVariants.{Filter, Function, Tokens}

-- the expression of a form, which reads the same by all values of the global state
record IsExpressionOf (form : LegacyForm) (e : Term) : Type 0 where
  pub reads : ReadsAlways (form_tree form) e
  pub gives : GivesAlways e (form_want form) (form_value form)

pub sized_as : (form : LegacyForm) (e : Term) → ReadsAlways (form_tree form) e → sized_form form ≡ sized_term e (form_want form)
sized_as form e reads = ap (sized_reading (form_want form)) (reads [])

some_nodes : (e : Term) → 1 ≤ nodes e
some_nodes (literal d) = omega arith
some_nodes (node op ts) = omega arith

is_in_world : (world : World) (feature : Feature) → IsFeatureIn world feature → feature ≡ in_world world
is_in_world world feature is =
    ap (λ i. record { id = i; shape = feature.shape; properties = feature.properties }) is.id
    ∙ (ap (λ s. record { id = world.id; shape = s; properties = feature.properties }) is.shape
    ∙ ap (λ ps. record { id = world.id; shape = world.shape; properties = ps }) is.properties)

module _ (functions_mean : ExpressionsMeanTheirFunctions) (texts_mean : TokenExpressionsMeanTheirTexts)
    (filters_mean : ExpressionsMeanTheirFilters) where
  has_expression : (form : LegacyForm) → IsReadForm form → (e : Term) × IsExpressionOf form e
  has_expression (Function f) (table, found) =
      let (e, reads, gives) = functions_mean (row_of f) found.0 (function_of f) table found.1 in (e, record { reads = reads; gives = gives })
  has_expression (Tokens s want) read =
      let (e, reads, gives) = texts_mean s in (e, record { reads = reads; gives = gives want })
  has_expression (Filter f) (t, is) =
      let (e, reads, says) = filters_mean t (filter_of f) is in (e, record { reads = reads; gives = says })

  -- a form that was read is faithful
  pub is_faithful : (form : LegacyForm) → IsReadForm form → IsFaithful form
  is_faithful form read =
      let (e, found) = has_expression form read in (
        λ world. sym (found.gives world.zoom (in_world world) world.state world.has_image world.is_supported)
            ∙ ap (λ (s : Sized). s.0 world) (sym (sized_as form e found.reads)),
        subst (λ (s : Sized). 1 ≤ s.1) (sym (sized_as form e found.reads)) (some_nodes e),
      )

-- what it gives of the feature of a world
pub gives_in : (form : LegacyForm) → IsFaithful form → (world : World) (feature : Feature) → IsFeatureIn world feature
    → (value : Result Value (Halt EvalFault)) → GivesValue value (form_value form world.zoom feature)
    → GivesValue value ((sized_form form).0 world)
gives_in form faithful world feature is value given =
    subst (GivesValue value) (ap (form_value form world.zoom) (is_in_world world feature is) ∙ faithful.0 world) given

-- ---- slots

slot_at : (nodes : List Sized) (ss : List PooledForm) (i : ℕ) (s : PooledForm) → slice_get ss i ≡ Some s
    → slice_get (map (sized_slot nodes) ss) i ≡ Some (sized_slot nodes s)
slot_at nodes [] i s is = absurd (omega (arith, slice_get_within [] i s is))
slot_at nodes (t ∷ ss) zero s is = ap (option_map (sized_slot nodes)) is
slot_at nodes (t ∷ ss) (suc i) s is = slot_at nodes ss i s is

-- of a number of the nodes
node_at : (nodes : List Sized) (n : ℕ) → n < length nodes → slice_get nodes n ≡ Some (slice_index_or nodes n no_expression)
node_at [] n h = absurd (omega (arith, h))
node_at (e ∷ nodes) zero h = refl
node_at (e ∷ nodes) (suc n) h = node_at nodes n (omega (arith, h))

module _ (nodes : List Sized) (ss : List PooledForm) (i n : ℕ) (is : slice_get ss i ≡ Some (Nodes n)) (within : n < length nodes) where
  same_node : slice_get (map (sized_slot nodes) ss) i ≡ slice_get nodes n
  same_node = slot_at nodes ss i (Nodes n) is ∙ sym (node_at nodes n within)

  pub node_gives : (result : Result Value (Halt EvalFault)) (world : World) → GivesAt result nodes n world
      → GivesAt result (map (sized_slot nodes) ss) i world
  node_gives result world given = subst (λ o. GivesIn result o world) (sym same_node) given

  pub node_takes : nodes_at (map (sized_slot nodes) ss) i ≡ nodes_at nodes n
  node_takes = ap nodes_in same_node

module _ (nodes : List Sized) (ss : List PooledForm) (i : ℕ) (form : LegacyForm) (is : slice_get ss i ≡ Some (Legacy form)) where
  pub form_gives : (result : Result Value (Halt EvalFault)) (world : World) → GivesValue result ((sized_form form).0 world)
      → GivesAt result (map (sized_slot nodes) ss) i world
  form_gives result world given = subst (λ o. GivesIn result o world) (sym (slot_at nodes ss i (Legacy form) is)) given

  pub form_takes : nodes_at (map (sized_slot nodes) ss) i ≡ (sized_form form).1
  form_takes = ap nodes_in (slot_at nodes ss i (Legacy form) is)

-- ---- one more slot

slot_longer : (nodes : List Sized) (e : Sized) (s : PooledForm) → ((n : ℕ) → s ≡ Nodes n → n < length nodes)
    → sized_slot (nodes ++ e ∷ []) s ≡ sized_slot nodes s
slot_longer nodes e (Nodes n) there = front nodes n (there n refl) where
  front : (es : List Sized) (m : ℕ) → m < length es → slice_index_or (es ++ e ∷ []) m no_expression ≡ slice_index_or es m no_expression
  front [] m h = absurd (omega (arith, h))
  front (d ∷ es) zero h = refl
  front (d ∷ es) (suc m) h = front es m (omega (arith, h))
slot_longer nodes e (Legacy form) there = refl

last_node : (nodes : List Sized) (e : Sized) → slice_index_or (nodes ++ e ∷ []) (length nodes) no_expression ≡ e
last_node [] e = refl
last_node (d ∷ nodes) e = last_node nodes e

-- an expression comes after those of the nodes
pub node_added : (nodes : List Sized) (e : Sized) (ss : List PooledForm) → NodesAreThere (length nodes) ss
    → map (sized_slot (nodes ++ e ∷ [])) (ss ++ Nodes (length nodes) ∷ []) ≡ map (sized_slot nodes) ss ++ e ∷ []
node_added nodes e [] there = ap (λ d. d ∷ []) (last_node nodes e)
node_added nodes e (s ∷ ss) there =
    ap (λ d. d ∷ map (sized_slot (nodes ++ e ∷ [])) (ss ++ Nodes (length nodes) ∷ [])) (slot_longer nodes e s (λ n is. there zero n (ap Some is)))
    ∙ ap (λ ds. sized_slot nodes s ∷ ds) (node_added nodes e ss (λ i n is. there (suc i) n is))

pub legacy_there : (count : ℕ) (ss : List PooledForm) (form : LegacyForm) → NodesAreThere count ss → NodesAreThere count (ss ++ Legacy form ∷ [])
legacy_there count [] form there zero n is = absurd (cc)
legacy_there count [] form there (suc i) n is = absurd (cc)
legacy_there count (s ∷ ss) form there zero n is = there zero n is
legacy_there count (s ∷ ss) form there (suc i) n is = legacy_there count ss form (λ j m e. there (suc j) m e) i n is

abbrev form_in : Option PooledForm → LegacyForm → LegacyForm
form_in (Some (Legacy form)) other = form
form_in (Some (Nodes n)) other = other
form_in None other = other

pub legacy_faithful : (ss : List PooledForm) (form : LegacyForm) → AreFaithful ss → IsFaithful form → AreFaithful (ss ++ Legacy form ∷ [])
legacy_faithful [] form are this zero f is = subst IsFaithful (ap (λ o. form_in o form) is) this
legacy_faithful [] form are this (suc i) f is = absurd (cc)
legacy_faithful (s ∷ ss) form are this zero f is = are zero f is
legacy_faithful (s ∷ ss) form are this (suc i) f is = legacy_faithful ss form (λ j g e. are (suc j) g e) this i f is

-- what is so always is so after an error
pub on_err_always : {T E P : Type 0} (r : Result T E) → P → OnErr r P
on_err_always (Ok x) p = tt
on_err_always (Err e) p = p
