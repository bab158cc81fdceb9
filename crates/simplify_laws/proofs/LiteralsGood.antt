-- What becomes a literal means what it meant.
use Rattle.std.proofs.Common.{◌≡◌, ◌∙◌, ℕ, ◌-◌, ℤ, List, [], ◌∷◌, Bool, true, false, Option, Some, None, Result, Ok, Err, refl, ap, sym, subst, arith}
use Rattle.std.proofs.lemmas.Bool.{and_parts, leb-true, not-true}
use Rattle.std.proofs.lemmas.Slice.Eq.{bytes_eq-Decides}
use Rattle.std.specs.Prelude.{codes, not, nat_le, unsigned_abs, if◌then◌else◌}
use Rattle.std.specs.Str.{bytes_eq}
use Rattle.decimal_json.specs.Tree.{Tree, null, boolean, number, text, list, object, Trees, no_trees, tree}
use Rattle.fixed_num.specs.Number.{bound}
use Rattle.fixed_num.specs.NumberText.{number_text}
use Rattle.fixed_num.specs.declared.decimal.NumFault.{NumFault}
use Rattle.fixed_num.proofs.RoundTrip.{number_text_is_read}
use Rattle.prop_values.specs.Data as values
use Rattle.prop_values.specs.Data.{Data}
use Rattle.prop_values.specs.JsonData.{json_data, then_data}
use Rattle.prop_values.specs.declared.kinds.Kind.{Kind}
use Rattle.prop_values.specs.declared.kinds.Want.{Want}
use Rattle.prop_values.specs.declared.kinds.Want.TheVariants as wants
use Rattle.property_tables.specs.Fitting.{fit}
use Rattle.expr_syntax.specs.Elements.{head_name, second}
use Rattle.expr_syntax.specs.Names.{name_of, row}
use Rattle.expr_syntax.specs.Reading.{Reading, Read, read, reading, inside}
use Rattle.expr_syntax.specs.Rows.{allows}
use Rattle.expr_syntax.specs.Scopes.{globals}
use Rattle.expr_syntax.specs.Standing.{is_outside}
use Rattle.expr_syntax.specs.Term.{Term, literal}
use Rattle.expr_syntax.specs.declared.names.Name.{Name}
use Rattle.expr_syntax.specs.declared.names.Name.TheVariants.{Literal}
use Rattle.expr_syntax.proofs.CountLaws.{count_trees}
use Rattle.expr_types.specs.NodeKinds.{literal_kind_under}
use Rattle.expr_types.specs.Typing.{KindScope}
use Rattle.operator_values.specs.Evaluated.{Evaluated, then_value}
use Rattle.eval_face.specs.Meaning.{mean}
use Rattle.eval_face.specs.Names.{BoundOutcomes}
use Rattle.eval_face.specs.World.{World}
use Rattle.eval_face.proofs.FittedLaws.{each_value_is_fitted}
use Rattle.eval_face.proofs.ShownLaws.{mean_shown}
use Rattle.style_simplify.specs.Choices.{choices_of}
use Rattle.style_simplify.specs.Folding.{as_literal, bare_or_none, folded, folding_want, is_closed, is_empty, literal_of, literal_of_reading, unread_world}
use Rattle.style_simplify.specs.Literals.{bare_literal, is_literal_node, kind_of_value, literal_element, literal_value, value_at, value_in}
use Rattle.style_simplify.specs.SimpleElements.{SimpleElement}
use Rattle.expr_syntax.specs.ReadTerms.{names_within}
use Rattle.simplify_laws.proofs.ParsedTrees.{HasArguments, HasGlobal, HasSections, HasValue, HasVariable, LaidBy, Names, Parsed, ParsedArguments, ParsedSections, Values}
use Rattle.simplify_laws.proofs.TermKinds.{literal_has}
use Rattle.simplify_laws.proofs.Measures.{not_below_bare}
use Rattle.simplify_laws.proofs.ReadBack.{in_globals, parsed_reads}
use Rattle.simplify_laws.proofs.GoodElements.{AreAmong, Good, GoodChoices, Kept, Known, SameAt}

text_is : (s u : List ℕ) → bytes_eq s u ≡ true → s ≡ u
text_is s u h = (bytes_eq-Decides s u).0 h

pub literal_head : (ts : Trees) → is_literal_node ts ≡ true → head_name ts ≡ Some Literal
literal_head no_trees h = absurd (cc)
literal_head (tree null ts) h = absurd (cc)
literal_head (tree (boolean b) ts) h = absurd (cc)
literal_head (tree (number n) ts) h = absurd (cc)
literal_head (tree (text s) ts) h = subst (λ x. name_of x ≡ Some Literal) (sym (text_is s (codes "literal") h)) refl
literal_head (tree (list us) ts) h = absurd (cc)
literal_head (tree (object fs) ts) h = absurd (cc)

data_is : (x : Option Tree) (d : Data) → value_at x ≡ Some d → (u : Tree) × (x ≡ Some u) × (json_data u ≡ Ok d)
data_is None d h = absurd (cc)
data_is (Some u) d h = by (json_data u) refl h
  where
    by : (r : Result Data NumFault) → json_data u ≡ r → value_in r ≡ Some d → (y : Tree) × (Some u ≡ Some y) × (json_data y ≡ Ok d)
    by (Ok e) q k = let same : e ≡ d = cc in (u, refl, q ∙ ap Ok same)
    by (Err f) q k = absurd (cc)

module _ (g : Values) where
  -- a literal is one anywhere
  abbrev pub IsLiteral : Tree → Data → Type 0
  IsLiteral t d = (M : Names) (h : Bool) → Parsed g t M h (literal d) (literal d)

  none_asked_of : (N : Names) (asks : Names) → is_empty asks ≡ true → AreAmong N asks
  none_asked_of N [] h = tt
  none_asked_of N (s ∷ ss) h = absurd (cc)

  pub literal_good : (scope : KindScope) (want : Want) (N : Names) (f : Bool) (t : Term) (e : SimpleElement) (d : Data) → IsLiteral e.tree d → ((names : BoundOutcomes) (world : World) → fit want d ≡ mean t want names world) →
      ((k : Kind) → e.kind ≡ Some k → literal_kind_under d want ≡ Some k) → e.is_part ≡ false → is_empty e.asks ≡ true → Good g scope want N f t e
  literal_good scope want N f t e d parsed same kinds argument none = record {
    first = literal d;
    second = literal d;
    parsed = parsed N f;
    same = same;
    lighter = λ w. not_below_bare w t;
    calmer = λ s. omega arith;
    known = λ k q. record {
      names = λ M a. parsed M f;
      depends = λ names names' v w a reads. refl;
      steady = λ z. refl;
      typed = λ ks a j kind. literal_has d want ks j (kinds j kind);
    };
    asked = λ k q. none_asked_of N e.asks none;
    argument = argument;
  }

  abbrev LaidIn : Trees → Names → Bool → Term → Term → Name → Type 0
  LaidIn ts M h a b name = LaidBy (row name).layout (HasValue ts a b) (HasVariable ts M a b) (HasGlobal g ts a b)
      (HasSections h a b (λ ps us vs. ParsedSections g true 0 false ts M ps us vs))
      (HasArguments (row name).layout name ts h a b (λ op us vs. ParsedArguments g (row name).layout (count_trees ts) 0 ts M (names_within op M) h us vs))

  pub value_laid : (ts : Trees) (M : Names) (h : Bool) (a b : Term) → Parsed g (list ts) M h a b → is_literal_node ts ≡ true → HasValue ts a b
  value_laid ts M h a b p q =
      let (name, head, inside, fits, laid) = p in
      let named : Some name ≡ Some Literal = sym head ∙ literal_head ts q in
      let name_is : name ≡ Literal = cc in
      subst (LaidIn ts M h a b) name_is laid

  -- a literal that was parsed, by its value
  pub literal_parsed : (t : Tree) (d : Data) (M : Names) (h : Bool) (a b : Term) → Parsed g t M h a b → literal_value t ≡ Some d → (b ≡ literal d) × IsLiteral t d
  literal_parsed null d M h a b p v = let e : values.null ≡ d = cc in (p.1 ∙ ap literal e, λ N f. (sym (ap literal e), sym (ap literal e)))
  literal_parsed (boolean c) d M h a b p v = let e : values.boolean c ≡ d = cc in (p.1 ∙ ap literal e, λ N f. (sym (ap literal e), sym (ap literal e)))
  literal_parsed (text s) d M h a b p v = let e : values.text s ≡ d = cc in (p.1 ∙ ap literal e, λ N f. (sym (ap literal e), sym (ap literal e)))
  literal_parsed (number n) d M h a b p v =
      let (z, reads, a_is, b_is) = p in
      let whole : Some (values.number z) ≡ Some d = sym (ap (λ r. value_in (then_data r (λ z. Ok (values.number z)))) reads) ∙ v in
      let e : values.number z ≡ d = cc in
      (b_is ∙ ap literal e, λ N f. (z, reads, sym (ap literal e), sym (ap literal e)))
  literal_parsed (object fs) d M h a b p v = absurd (cc)
  literal_parsed (list ts) d M h a b p v = by (is_literal_node ts) refl v
    where
      by : (c : Bool) → is_literal_node ts ≡ c → (if c then value_at (second ts) else None) ≡ Some d → (b ≡ literal d) × IsLiteral (list ts) d
      by false q k = absurd (cc)
      by true q k =
          let (u, there, is) = data_is (second ts) d k in
          let (name, head, inside, fits, laid) = p in
          let head_is = literal_head ts q in
          let named : Some name ≡ Some Literal = sym head ∙ head_is in
          let name_is : name ≡ Literal = cc in
          let (x, e, x_there, x_is, a_is, b_is) = subst (LaidIn ts M h a b) name_is laid in
          let tree_is : Some x ≡ Some u = sym x_there ∙ there in
          let same_tree : x ≡ u = cc in
          let both : Ok e ≡ Ok d = sym x_is ∙ (ap json_data same_tree ∙ is) in
          let same_data : e ≡ d = cc in
          (b_is ∙ ap literal same_data, λ N f. (Literal, head_is, refl, subst (λ m. allows (row m).arity (count_trees ts - 1) ≡ true) name_is fits, (u, d, there, is, refl, refl)))

  -- what is written as a literal, by its value
  pub element_kinds : (want : Want) (u : Tree) (d : Data) → literal_value u ≡ Some d → (k : Kind) → (literal_element want u).kind ≡ Some k → literal_kind_under d want ≡ Some k
  element_kinds want u d is k h = sym (ap (kind_of_value want) is) ∙ h

  -- ---- a node that becomes the literal that it means

  number_is_literal : (z : ℤ) (b : Bool) → nat_le (unsigned_abs z) bound ≡ b → (u : Tree) → (if b then Some (number (number_text z)) else None) ≡ Some u → IsLiteral u (values.number z)
  number_is_literal z false q u h = absurd (cc)
  number_is_literal z true q u h =
      let e : number (number_text z) ≡ u = cc in
      subst (λ x. IsLiteral x (values.number z)) e (λ M f. (z, number_text_is_read z (leb-true (unsigned_abs z) bound q), refl, refl))

  pub bare_is_literal : (d : Data) (u : Tree) → bare_literal d ≡ Some u → IsLiteral u d
  bare_is_literal values.null u h = let e : null ≡ u = cc in subst (λ x. IsLiteral x values.null) e (λ M f. (refl, refl))
  bare_is_literal (values.boolean b) u h = let e : boolean b ≡ u = cc in subst (λ x. IsLiteral x (values.boolean b)) e (λ M f. (refl, refl))
  bare_is_literal (values.number z) u h = number_is_literal z (nat_le (unsigned_abs z) bound) refl u h
  bare_is_literal (values.text s) u h = let e : text s ≡ u = cc in subst (λ x. IsLiteral x (values.text s)) e (λ M f. (refl, refl))
  bare_is_literal (values.color c) u h = absurd (cc)
  bare_is_literal (values.list ds) u h = absurd (cc)
  bare_is_literal (values.map ps) u h = absurd (cc)

  number_value : (z : ℤ) (b : Bool) → nat_le (unsigned_abs z) bound ≡ b → (u : Tree) → (if b then Some (number (number_text z)) else None) ≡ Some u → literal_value u ≡ Some (values.number z)
  number_value z false q u h = absurd (cc)
  number_value z true q u h =
      let e : number (number_text z) ≡ u = cc in
      subst (λ x. literal_value x ≡ Some (values.number z)) e (ap (λ r. value_in (then_data r (λ z. Ok (values.number z)))) (number_text_is_read z (leb-true (unsigned_abs z) bound q)))

  bare_value : (d : Data) (u : Tree) → bare_literal d ≡ Some u → literal_value u ≡ Some d
  bare_value values.null u h = let e : null ≡ u = cc in subst (λ x. literal_value x ≡ Some values.null) e refl
  bare_value (values.boolean b) u h = let e : boolean b ≡ u = cc in subst (λ x. literal_value x ≡ Some (values.boolean b)) e refl
  bare_value (values.number z) u h = number_value z (nat_le (unsigned_abs z) bound) refl u h
  bare_value (values.text s) u h = let e : text s ≡ u = cc in subst (λ x. literal_value x ≡ Some (values.text s)) e refl
  bare_value (values.color c) u h = absurd (cc)
  bare_value (values.list ds) u h = absurd (cc)
  bare_value (values.map ps) u h = absurd (cc)

  read_inside : (b : Bool) (r : Read) (x : Term) → (if b then Ok None else inside r) ≡ Ok (Some x) → r ≡ Ok x
  read_inside true r x h = absurd (cc)
  read_inside false (Ok y) x h = let e : y ≡ x = cc in ap Ok e
  read_inside false (Err f) x h = absurd (cc)

  -- what is fitted at the end
  folded_same : (want : Want) (t : Term) (d : Data) → mean t (folding_want want) [] unread_world ≡ Ok d → mean t want [] unread_world ≡ fit want d
  folded_same wants.Shown t d h = mean_shown t [] unread_world ∙ ap (λ e. then_value e (fit wants.Shown)) h
  folded_same wants.Any t d h = h ∙ sym (each_value_is_fitted t wants.Any [] unread_world d h)
  folded_same wants.Boolean t d h = h ∙ sym (each_value_is_fitted t wants.Boolean [] unread_world d h)
  folded_same wants.Number t d h = h ∙ sym (each_value_is_fitted t wants.Number [] unread_world d h)
  folded_same wants.Text t d h = h ∙ sym (each_value_is_fitted t wants.Text [] unread_world d h)
  folded_same wants.Color t d h = h ∙ sym (each_value_is_fitted t wants.Color [] unread_world d h)
  folded_same wants.Object t d h = h ∙ sym (each_value_is_fitted t wants.Object [] unread_world d h)
  folded_same wants.Image t d h = h ∙ sym (each_value_is_fitted t wants.Image [] unread_world d h)
  folded_same (wants.List i n) t d h = h ∙ sym (each_value_is_fitted t (wants.List i n) [] unread_world d h)
  folded_same (wants.Enum c) t d h = h ∙ sym (each_value_is_fitted t (wants.Enum c) [] unread_world d h)
  folded_same (wants.EnumList c) t d h = h ∙ sym (each_value_is_fitted t (wants.EnumList c) [] unread_world d h)

  none_among : (asks : Names) → is_empty asks ≡ true → AreAmong [] asks
  none_among [] h = tt
  none_among (s ∷ ss) h = absurd (cc)

  none_asked : (asks : Names) (names names' : BoundOutcomes) → is_empty asks ≡ true → SameAt asks names names'
  none_asked [] names names' h = tt
  none_asked (s ∷ ss) names names' h = absurd (cc)

  module _ (scope : KindScope) (want : Want) (N : Names) (f : Bool) (t : Term) (e : SimpleElement) (good : Good g scope want N f t e) (k : Kind) (kind : e.kind ≡ Some k) where
    abbrev known : Known g scope want f e good.first good.second
    known = good.known k kind

    fold_by : is_closed e ≡ true → (ts : Trees) → e.tree ≡ list ts → (r : Reading) → reading (list ts) ≡ r → (made : SimpleElement) → as_literal want (literal_of_reading want r) ≡ Some made → Good g scope want N f t made
    fold_by closed ts is (Ok None) q made h = absurd (cc)
    fold_by closed ts is (Err fault) q made h = absurd (cc)
    fold_by closed ts is (Ok (Some x)) q made h = by (mean x (folding_want want) [] unread_world) refl h
      where
        reads_as : x ≡ good.first
        reads_as =
            let (none, unread) = and_parts (is_empty e.asks) (not e.reads) closed in
            let one : read (list ts) (globals []) [] ≡ Ok x = read_inside (is_outside (list ts)) (read (list ts) (globals []) []) x q in
            let two : read e.tree (globals []) [] ≡ Ok good.first = parsed_reads g true e.tree [] f good.first good.second (known.names [] (none_among e.asks none)) (globals []) [] (in_globals []) in
            let three : Ok x ≡ Ok good.first = sym one ∙ (sym (ap (λ u. read u (globals []) []) is) ∙ two) in
            cc

        by_data : (d : Data) → mean x (folding_want want) [] unread_world ≡ Ok d → (o : Option Tree) → bare_literal d ≡ o → as_literal want o ≡ Some made → Good g scope want N f t made
        by_data d m None b h = absurd (cc)
        by_data d m (Some u) b h =
            let (none, unread) = and_parts (is_empty e.asks) (not e.reads) closed in
            let still : e.reads ≡ false = not-true e.reads unread in
            let made_is : literal_element want u ≡ made = cc in
            let second_is : x ≡ good.second = reads_as ∙ known.steady still in
            let there : mean good.second want [] unread_world ≡ fit want d = folded_same want good.second d (sym (ap (λ y. mean y (folding_want want) [] unread_world) second_is) ∙ m) in
            subst (Good g scope want N f t) made_is
            (literal_good scope want N f t (literal_element want u) d (bare_is_literal d u b)
            (λ names world. sym there ∙ (sym (known.depends names [] world unread_world (none_asked e.asks names [] none) (λ z. absurd (let bad : true ≡ false = sym z ∙ still in cc))) ∙ good.same names world)) (element_kinds want u d (bare_value d u b)) refl refl)

        by : (m : Evaluated) → mean x (folding_want want) [] unread_world ≡ m → as_literal want (bare_or_none m) ≡ Some made → Good g scope want N f t made
        by (Ok d) q h = by_data d q (bare_literal d) refl h
        by (Err fault) q h = absurd (cc)

    fold_tree : is_closed e ≡ true → (u : Tree) → e.tree ≡ u → (made : SimpleElement) → as_literal want (literal_of want u) ≡ Some made → Good g scope want N f t made
    fold_tree closed (list ts) is made h = fold_by closed ts is (reading (list ts)) refl made h
    fold_tree closed null is made h = absurd (cc)
    fold_tree closed (boolean b) is made h = absurd (cc)
    fold_tree closed (number n) is made h = absurd (cc)
    fold_tree closed (text s) is made h = absurd (cc)
    fold_tree closed (object fs) is made h = absurd (cc)

    pub fold_good : (made : SimpleElement) → folded want e ≡ Some made → Good g scope want N f t made
    fold_good made h = by (is_closed e) refl h
      where
        by : (b : Bool) → is_closed e ≡ b → (if b then as_literal want (literal_of want e.tree) else None) ≡ Some made → Good g scope want N f t made
        by true q h = fold_tree q e.tree refl made h
        by false q h = absurd (cc)

  -- choices of a node that is good
  pub choices_good : (scope : KindScope) (want : Want) (N : Names) (f : Bool) (t : Term) (e : SimpleElement) (shorter : Option SimpleElement) → Good g scope want N f t e → Kept g scope want t e →
      ((made : SimpleElement) → shorter ≡ Some made → (k : Kind) → e.kind ≡ Some k → Good g scope want N f t made) → GoodChoices g scope want N f t (choices_of want e shorter)
  choices_good scope want N f t e shorter good kept short = record {
    node = good;
    kept = kept;
    literal = λ made h k kind. fold_good scope want N f t e good k kind made h;
    shorter = short;
  }
