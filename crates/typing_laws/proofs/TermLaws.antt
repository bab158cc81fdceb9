-- The laws of types, by the form of the term.
use Rattle.std.proofs.Common.{◌≡◌, ℕ, List, [], length, Bool, Option, Ok, Err, false, refl, arith, subst, ap, ◌∙◌}
use Rattle.std.proofs.lemmas.Bool.{both_ways}
use Rattle.decimal_json.specs.declared.paths.PathPart.{PathPart}
use Rattle.prop_values.specs.Data.{Data, number, text, map, pairs_of}
use Rattle.prop_values.specs.Faults.{holds, no_faults}
use Rattle.prop_values.specs.declared.fault.FaultSet.{FaultSet}
use Rattle.prop_values.specs.declared.kinds.Want.{Want}
use Rattle.property_tables.specs.Fitting.{fit}
use Rattle.expr_syntax.specs.Mentioned.{count}
use Rattle.expr_syntax.specs.ReadTerms.{names_within, IsRead, AreRead}
use Rattle.expr_syntax.specs.Term.{Term, literal, node, Terms, no_terms, term}
use Rattle.expr_syntax.specs.declared.expression.Operator.{Operator}
use Rattle.expr_syntax.specs.declared.expression.Operator.TheVariants as ops
use Rattle.expr_types.specs.Typing.{TypedNodes, KindScope, Typing, literal_node, is_branching, handed, node_typed, plain_typed, literal_of, literals, typed_as, typed, typings, own_named, fitted}
use Rattle.tile_reader.specs.ShapeName.{shape_name}
use Rattle.operator_values.specs.Evaluated.{Evaluated, then_value}
use Rattle.operator_values.specs.Texts.{concat_of}
use Rattle.eval_face.specs.Bindings.{var_of}
use Rattle.eval_face.specs.Branches.{case_of, match_of, step_of, ramp_of}
use Rattle.eval_face.specs.Decisions.{first_of}
use Rattle.eval_face.proofs.FittedLaws.{each_value_is_fitted}
use Rattle.eval_face.specs.Lookups.{id_value}
use Rattle.eval_face.specs.Meaning.{node_meaning, mean, means}
use Rattle.eval_face.specs.Meanings.{Meaning}
use Rattle.eval_face.specs.Names.{BoundOutcomes}
use Rattle.eval_face.specs.World.{World}
use Rattle.typing_laws.specs.TypingLaws.{HasType, EveryFaultIsListed, EveryValueIsOfItsKind, NoFaultIsGivenWhereNoneIsListed}
use Rattle.typing_laws.proofs.Sets.{holds_none}
use Rattle.typing_laws.proofs.Outcomes.{OutcomeOf, ResultOf, below_ok, literal_ok}
use Rattle.typing_laws.proofs.Arguments.{NamesOf, Agree, AllAgree, LiteralMeans, LiteralsOf, AreGiven, IsSoundNode}
use Rattle.typing_laws.proofs.Nodes.{fitted_node, branched_node, each_node, agree_length}
use Rattle.typing_laws.proofs.BranchLaws.{case_ok, match_ok, step_ok}
use Rattle.typing_laws.proofs.DecidingLaws.{Decides, boolean_ok, number_ok, text_ok, object_ok, color_ok, readable_ok, all_ok, any_ok, there}
use Rattle.typing_laws.proofs.NameLaws.{let_ok, var_ok}
use Rattle.typing_laws.proofs.NumberLaws.{absolute_ok, ceil_ok, difference_ok, different_ok, equal_ok, floor_ok, greater_ok, greater_or_equal_ok, greatest_ok, least_ok, less_ok, less_or_equal_ok, product_ok, quotient_ok, remainder_ok, round_ok, sum_ok}
use Rattle.typing_laws.proofs.RampLaws.{ramp_ok}
use Rattle.typing_laws.proofs.SectionLaws.{format_ok}
use Rattle.typing_laws.proofs.SequenceLaws.{at_ok, in_ok, index_of_ok, length_ok, slice_ok}
use Rattle.typing_laws.proofs.ValueLaws.{array_ok, concat_ok, form_ok, get_ok, has_ok, named_image_ok, not_ok, parts_ok, rgb_ok, rgba_ok, script_ok, shown_ok, state_ok, truth_ok}

module _ (S : FaultSet) where
  -- an operator that stops early
  deciding_node : (op : Operator) → is_branching op ≡ false → ((w : Want) → handed op w ≡ w) →
      (decides : Data → Option Data) (none : Evaluated) → Decides S op decides none →
      (ls : List (Option Data)) (ts : List Typing) (ms : List Meaning) → LiteralsOf ls ms → AllAgree S ts ms →
      (asked : Bool) (w : Want) (scope : KindScope) (path : List PathPart) (names : BoundOutcomes) (world : World) →
      NamesOf S scope names → ResultOf S w (plain_typed op ls ts asked w scope path)
      (then_value (first_of decides none op (length ms) 0 ms w names world) (fit w))
  deciding_node op plain own_want decides none law ls ts ms g h asked w scope path names world n =
      fitted_node S op plain ls ts ms g h asked w scope path names world n
      (first_of decides none op (length ms) 0 ms w names world)
      (λ js given. law (length ms) w names world ls js ms
      (subst (λ v. AreGiven S op (length ms) 0 v names world ls js ms) (own_want w) given))

  node_ok : (bound : List (List ℕ)) (op : Operator) (ls : List (Option Data)) (ts : List Typing)
      (ms : List Meaning) → IsSoundNode bound op (length ms) → LiteralsOf ls ms → AllAgree S ts ms →
      Agree S (node_typed op ls ts) (node_meaning op ms)
  node_ok bound (ops.Array i n) ls ts ms s g h =
      each_node S (ops.Array i n) refl (λ w. refl) _ (array_ok S i n) bound ls ts ms s g h
  node_ok bound ops.ToBoolean ls ts ms s g h =
      each_node S ops.ToBoolean refl (λ w. refl) _ (truth_ok S) bound ls ts ms s g h
  node_ok bound ops.ToString ls ts ms s g h =
      each_node S ops.ToString refl (λ w. refl) _ (shown_ok S) bound ls ts ms s g h
  node_ok bound ops.TypeOf ls ts ms s g h =
      each_node S ops.TypeOf refl (λ w. refl) _ (form_ok S) bound ls ts ms s g h
  node_ok bound ops.Get ls ts ms s g h =
      each_node S ops.Get refl (λ w. refl) _ (get_ok S) bound ls ts ms s g h
  node_ok bound ops.Has ls ts ms s g h =
      each_node S ops.Has refl (λ w. refl) _ (has_ok S) bound ls ts ms s g h
  node_ok bound ops.FeatureState ls ts ms s g h =
      each_node S ops.FeatureState refl (λ w. refl) _ (state_ok S) bound ls ts ms s g h
  node_ok bound ops.At ls ts ms s g h = each_node S ops.At refl (λ w. refl) _ (at_ok S) bound ls ts ms s g h
  node_ok bound ops.In ls ts ms s g h = each_node S ops.In refl (λ w. refl) _ (in_ok S) bound ls ts ms s g h
  node_ok bound ops.IndexOf ls ts ms s g h =
      each_node S ops.IndexOf refl (λ w. refl) _ (index_of_ok S) bound ls ts ms s g h
  node_ok bound ops.Length ls ts ms s g h =
      each_node S ops.Length refl (λ w. refl) _ (length_ok S) bound ls ts ms s g h
  node_ok bound ops.Slice ls ts ms s g h =
      each_node S ops.Slice refl (λ w. refl) _ (slice_ok S) bound ls ts ms s g h
  node_ok bound ops.Not ls ts ms s g h =
      each_node S ops.Not refl (λ w. refl) _ (not_ok S) bound ls ts ms s g h
  node_ok bound ops.Equal ls ts ms s g h =
      each_node S ops.Equal refl (λ w. refl) _ (equal_ok S) bound ls ts ms s g h
  node_ok bound ops.NotEqual ls ts ms s g h =
      each_node S ops.NotEqual refl (λ w. refl) _ (different_ok S) bound ls ts ms s g h
  node_ok bound ops.Less ls ts ms s g h =
      each_node S ops.Less refl (λ w. refl) _ (less_ok S) bound ls ts ms s g h
  node_ok bound ops.LessOrEqual ls ts ms s g h =
      each_node S ops.LessOrEqual refl (λ w. refl) _ (less_or_equal_ok S) bound ls ts ms s g h
  node_ok bound ops.Greater ls ts ms s g h =
      each_node S ops.Greater refl (λ w. refl) _ (greater_ok S) bound ls ts ms s g h
  node_ok bound ops.GreaterOrEqual ls ts ms s g h =
      each_node S ops.GreaterOrEqual refl (λ w. refl) _ (greater_or_equal_ok S) bound ls ts ms s g h
  node_ok bound ops.Concat ls ts ms s g h =
      each_node S ops.Concat refl (λ w. refl) (λ world ds. concat_of ds) (concat_ok S) bound ls ts ms s g h
  node_ok bound ops.Rgb ls ts ms s g h =
      each_node S ops.Rgb refl (λ w. refl) _ (rgb_ok S) bound ls ts ms s g h
  node_ok bound ops.Rgba ls ts ms s g h =
      each_node S ops.Rgba refl (λ w. refl) _ (rgba_ok S) bound ls ts ms s g h
  node_ok bound ops.ToRgba ls ts ms s g h =
      each_node S ops.ToRgba refl (λ w. refl) _ (parts_ok S) bound ls ts ms s g h
  node_ok bound ops.Add ls ts ms s g h =
      each_node S ops.Add refl (λ w. refl) _ (sum_ok S) bound ls ts ms s g h
  node_ok bound ops.Multiply ls ts ms s g h =
      each_node S ops.Multiply refl (λ w. refl) _ (product_ok S) bound ls ts ms s g h
  node_ok bound ops.Subtract ls ts ms s g h =
      each_node S ops.Subtract refl (λ w. refl) _ (difference_ok S) bound ls ts ms s g h
  node_ok bound ops.Divide ls ts ms s g h =
      each_node S ops.Divide refl (λ w. refl) _ (quotient_ok S) bound ls ts ms s g h
  node_ok bound ops.Remainder ls ts ms s g h =
      each_node S ops.Remainder refl (λ w. refl) _ (remainder_ok S) bound ls ts ms s g h
  node_ok bound ops.Abs ls ts ms s g h =
      each_node S ops.Abs refl (λ w. refl) _ (absolute_ok S) bound ls ts ms s g h
  node_ok bound ops.Ceil ls ts ms s g h =
      each_node S ops.Ceil refl (λ w. refl) _ (ceil_ok S) bound ls ts ms s g h
  node_ok bound ops.Floor ls ts ms s g h =
      each_node S ops.Floor refl (λ w. refl) _ (floor_ok S) bound ls ts ms s g h
  node_ok bound ops.Round ls ts ms s g h =
      each_node S ops.Round refl (λ w. refl) _ (round_ok S) bound ls ts ms s g h
  node_ok bound ops.Min ls ts ms s g h =
      each_node S ops.Min refl (λ w. refl) _ (least_ok S) bound ls ts ms s g h
  node_ok bound ops.Max ls ts ms s g h =
      each_node S ops.Max refl (λ w. refl) _ (greatest_ok S) bound ls ts ms s g h
  node_ok bound ops.Image ls ts ms s g h =
      each_node S ops.Image refl (λ w. refl) _ (named_image_ok S) bound ls ts ms s g h
  node_ok bound ops.IsSupportedScript ls ts ms s g h =
      each_node S ops.IsSupportedScript refl (λ w. refl) _ (script_ok S) bound ls ts ms s g h
  node_ok bound ops.Properties ls ts ms s g h =
      each_node S ops.Properties refl (λ w. refl) (λ world ds. Ok (map (pairs_of world.properties)))
      (λ bound w world ls js ds s h none all. (refl, refl)) bound ls ts ms s g h
  node_ok bound ops.Id ls ts ms s g h =
      each_node S ops.Id refl (λ w. refl) (λ world ds. Ok (id_value world.id))
      (λ bound w world ls js ds s h none all. (refl, refl)) bound ls ts ms s g h
  node_ok bound ops.GeometryType ls ts ms s g h =
      each_node S ops.GeometryType refl (λ w. refl) (λ world ds. Ok (text (shape_name world.shape)))
      (λ bound w world ls js ds s h none all. (refl, refl)) bound ls ts ms s g h
  node_ok bound ops.Zoom ls ts ms s g h =
      each_node S ops.Zoom refl (λ w. refl) (λ world ds. Ok (number world.zoom))
      (λ bound w world ls js ds s h none all. (refl, refl)) bound ls ts ms s g h
  node_ok bound ops.Boolean ls ts ms s g h =
      deciding_node ops.Boolean refl (λ w. refl) _ _ (boolean_ok S) ls ts ms g h
  node_ok bound ops.Number ls ts ms s g h =
      deciding_node ops.Number refl (λ w. refl) _ _ (number_ok S) ls ts ms g h
  node_ok bound ops.String ls ts ms s g h =
      deciding_node ops.String refl (λ w. refl) _ _ (text_ok S) ls ts ms g h
  node_ok bound ops.Object ls ts ms s g h =
      deciding_node ops.Object refl (λ w. refl) _ _ (object_ok S) ls ts ms g h
  node_ok bound ops.ToColor ls ts ms s g h =
      deciding_node ops.ToColor refl (λ w. refl) _ _ (color_ok S) ls ts ms g h
  node_ok bound ops.ToNumber ls ts ms s g h =
      deciding_node ops.ToNumber refl (λ w. refl) _ _ (readable_ok S) ls ts ms g h
  node_ok bound ops.All ls ts ms s g h = deciding_node ops.All refl (λ w. refl) _ _ (all_ok S) ls ts ms g h
  node_ok bound ops.Any ls ts ms s g h = deciding_node ops.Any refl (λ w. refl) _ _ (any_ok S) ls ts ms g h
  node_ok bound ops.Coalesce ls ts ms s g h =
      deciding_node ops.Coalesce refl (λ w. refl) _ _ (there S) ls ts ms g h
  node_ok bound (ops.Format pieces) ls ts ms s g h =
      each_node S (ops.Format pieces) refl (λ w. refl) _ (format_ok S pieces) bound ls ts ms s g h
  node_ok bound ops.Case ls ts ms s g h = λ asked w scope path names world n.
      branched_node S ops.Case refl ls ts ms g h asked w scope path names world n (case_of ms w names world)
      (λ js given. case_ok S ms bound s w names world ls js given)
  node_ok bound (ops.Match labels) ls ts ms s g h = λ asked w scope path names world n.
      branched_node S (ops.Match labels) refl ls ts ms g h asked w scope path names world n (match_of labels ms w names world)
      (λ js given. match_ok S labels ms bound s w names world ls js given)
  node_ok bound (ops.Step inputs) ls ts ms s g h = λ asked w scope path names world n.
      branched_node S (ops.Step inputs) refl ls ts ms g h asked w scope path names world n (step_of inputs ms w names world)
      (λ js given. step_ok S inputs ms bound s w names world ls js given)
  node_ok bound (ops.Interpolate r) ls ts ms s g h = λ asked w scope path names world n.
      branched_node S (ops.Interpolate r) refl ls ts ms g h asked w scope path names world n (ramp_of r.0 r.1 ms w names world)
      (λ js given. ramp_ok S r ls ms g bound s w names world js given)
  node_ok bound (ops.Let bs) ls ts ms s g h = λ asked. let_ok S bs ls ts ms (agree_length S ts ms h ∙ s.parts.1) g h
  node_ok bound (ops.Var name) ls ts ms s g h = λ asked w scope path names world n.
      below_ok S w [] (fitted w (own_named scope name) no_faults path) (var_of name w names world) (var_ok S name w scope path names world n)

  -- ---- terms

  count_means : (ts : Terms) → count ts ≡ length (means ts)
  count_means no_terms = refl
  count_means (term t ts) = let q = count_means ts in omega (arith, q)

  literal_means : (t : Term) → LiteralMeans (literal_of t) (mean t)
  literal_means (literal d) = λ w names world. refl
  literal_means (node op ts) = λ w names world. tt

  pub literals_ok : (ts : Terms) → LiteralsOf (literals ts) (means ts)
  literals_ok no_terms = tt
  literals_ok (term t ts) = (literal_means t, literals_ok ts)

  mutual
    pub mean_ok : (bound : List (List ℕ)) (t : Term) → IsRead bound t → Agree S (typed_as t) (mean t)
    mean_ok bound (literal d) read = λ asked w scope path names world n. below_ok S w [] (literal_node d w path)
        (fit w d) (literal_ok S w d path)
    mean_ok bound (node op ts) read =
        node_ok bound op (literals ts) (typings ts) (means ts)
        (subst (λ (m : ℕ). IsSoundNode bound op m) (count_means ts)
        (record { arity = read.0; parts = read.1 }))
        (literals_ok ts) (means_ok bound (names_within op bound) ts read.2)

    pub means_ok : (bound inner : List (List ℕ)) (ts : Terms) → AreRead bound inner ts →
        AllAgree S (typings ts) (means ts)
    means_ok bound inner no_terms read = tt
    means_ok bound inner (term t no_terms) read = (mean_ok inner t read, tt)
    means_ok bound inner (term t (term u ts)) read =
        (mean_ok bound t read.0, means_ok bound inner (term u ts) read.1)

-- what is said of the root, for the set of its own faults
root_ok : (t : Term) (want : Want) (world : World) (found : TypedNodes) → HasType t want found →
    OutcomeOf found.node.may want found.node.kind (mean t want [] world)
root_ok t want world found h =
    let law : ResultOf found.node.may want (typed t want [] []) (mean t want [] world) = mean_ok
    found.node.may [] t h.0 false want [] [] [] world tt in
    subst (λ r. ResultOf found.node.may want r (mean t want [] world)) h.1 law (λ f q. q)

pub every_fault_is_listed : EveryFaultIsListed
every_fault_is_listed t want world found fault h gives = subst
    (λ o. OutcomeOf found.node.may want found.node.kind o) gives (root_ok t want world found h)

pub every_value_is_of_its_kind : EveryValueIsOfItsKind
every_value_is_of_its_kind t want world found d h gives = (
  (subst (λ o. OutcomeOf found.node.may want found.node.kind o) gives (root_ok t want world found h)).1,
  each_value_is_fitted t want [] world d gives,
)

pub no_fault_is_given : NoFaultIsGivenWhereNoneIsListed
no_fault_is_given t want world found h none = given (mean t want [] world) refl
  where
    given : (o : Evaluated) → mean t want [] world ≡ o → (d : Data) × (mean t want [] world ≡ Ok d)
    given (Ok d) q = (d, q)
    given (Err f) q = let listed = every_fault_is_listed t want world found f h q in absurd
        (both_ways (holds found.node.may f) (ap (λ s. holds s f) none ∙ holds_none f) listed)
