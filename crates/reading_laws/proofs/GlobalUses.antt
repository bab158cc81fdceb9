-- A tree with a `global-state` node reads as two expressions with two values of its name.
use Rattle.std.proofs.Common.{◌≡◌, ◌∙◌, ◌⊎◌, inl, inr, ℕ, suc, ◌+◌, ◌-◌, ◌<◌, List, [], ◌∷◌, ◌++◌, length, refl, ap, sym, subst, arith, Bool, true, false}
use Rattle.std.proofs.lemmas.Bool.{and_parts, false_from_ne_true, lt-ltb, ne_eqb}
use Rattle.std.specs.Prelude.{not, ◌&&◌, ◌||◌, nat_eq, nat_lt, is_none, Option, Some, None, Result, Ok, Err, if◌then◌else◌}
use Rattle.decimal_json.specs.Tree.{Tree, null, boolean, number, text, list, object, Trees, no_trees, tree, Fields, no_fields, field}
use Rattle.decimal_json.specs.declared.paths.PathPart.{PathPart}
use Rattle.decimal_json.specs.declared.paths.PathPart.TheVariants.{Key}
use Rattle.prop_values.specs.Data as values
use Rattle.prop_values.specs.Data.{Data}
use Rattle.prop_values.proofs.KeyLaws.{texts_same}
use Rattle.expr_syntax.specs.declared.fault.SynFault.{SynFault}
use Rattle.expr_syntax.specs.declared.fault.SynCode.{SynCode}
use Rattle.expr_syntax.specs.declared.fault.SynCode.TheVariants as code
use Rattle.expr_syntax.specs.declared.names.Name.{Name}
use Rattle.expr_syntax.specs.declared.parts.Role.{Role}
use Rattle.expr_syntax.specs.declared.parts.Role.TheVariants.{Content}
use Rattle.expr_syntax.specs.declared.rows.ElementLayout.{ElementLayout}
use Rattle.expr_syntax.specs.declared.rows.ElementLayout.TheVariants as layouts
use Rattle.expr_syntax.specs.declared.rows.ElementPlace.{ElementPlace}
use Rattle.expr_syntax.specs.declared.rows.ElementPlace.TheVariants.{Part, Argument, Output}
use Rattle.expr_syntax.specs.declared.expression.Operator.{Operator}
use Rattle.expr_syntax.specs.declared.expression.Operator.TheVariants.{Let, Format}
use Rattle.expr_syntax.specs.Elements.{head_text, name_in, second, second_text, option_named}
use Rattle.expr_syntax.specs.Names.{row, name_of}
use Rattle.expr_syntax.specs.Parts.{operator_of}
use Rattle.expr_syntax.specs.Reading.{Read, Reader, read, options, elements, members, array_read, named_read, node_read, literal_read, global_read, global_term, arguments, and_term, then_node, with_operator, names_in, at, fault, is_part, then_term, then_sections, with_piece, option_read, options_read, section_read, sections_read, all_sections, no_sections, then_format, is_value_layout, is_global_layout, inside}
use Rattle.expr_syntax.specs.Rows.{allows, element_place, is_last}
use Rattle.expr_syntax.specs.Scopes.{Scope, globals, global_at}
use Rattle.expr_syntax.specs.Standing as standing
use Rattle.expr_syntax.specs.Standing.{is_outside, is_format_layout}
use Rattle.expr_syntax.specs.ReadView.{uses_globals}
use Rattle.expr_syntax.specs.Term.{Term, node, Terms, no_terms, term, terms_of}
use Rattle.reading_laws.specs.GlobalUse.{FixedExpressionsUseNoGlobals}
use Rattle.reading_laws.proofs.ReadArguments.{and_read}

-- two scopes of which one has no value of a name, and the other has null
abbrev Differ : List ℕ → Scope → Scope → Type 0
Differ name old new = (global_at old name ≡ None) × (global_at new name ≡ Some values.null)

-- there is a name by whose values a reader gives two expressions, or none
abbrev IsApart : Reader → Type 0
IsApart r =
    (path : List PathPart) → (name : List ℕ) × ((old new : Scope) (e : Term) → Differ name old new → r old path ≡ Ok e → r new path ≡ Ok e → ⊥)

-- The type of what is sought in a tree has no name outside of its crate.
abbrev domain_of : {A B : Type 0} → (A → B) → Type 0
domain_of {A} f = A

abbrev Sought : Type 0
Sought = domain_of standing.is_for_global

module _ (sought : Sought) (is : standing.is_for_global sought ≡ true) where
  -- where a `global-state` node is in a tree
  abbrev IsApartTree : Tree → Type 0
  IsApartTree t = (format : Bool) → standing.stands t sought format ≡ true → IsApart (read t)

  abbrev AreApartFields : Fields → Type 0
  AreApartFields no_fields = Unit {0}
  AreApartFields (field k t fs) = IsApartTree t × AreApartFields fs

  abbrev HasApartOptions : Tree → Type 0
  HasApartOptions (object fs) = AreApartFields fs
  HasApartOptions t = Unit {0}

  abbrev AreApart : Trees → Type 0
  AreApart no_trees = Unit {0}
  AreApart (tree t ts) = IsApartTree t × HasApartOptions t × AreApart ts

  or_cases : (a b : Bool) → (a || b) ≡ true → (a ≡ true) ⊎ (b ≡ true)
  or_cases true b h = inl refl
  or_cases false b h = inr h

  -- ---- arguments by places

  module _ (layout : ElementLayout) (n : ℕ) where
    abbrev ArgumentsApart : ℕ → Trees → Type 0
    ArgumentsApart i ts =
        (path : List PathPart) → (name : List ℕ) × ((inner outer within around : Scope) (as_ : List Term) → Differ name inner within → Differ name outer around →
        arguments layout n i (elements ts) inner outer path ≡ Ok as_ → arguments layout n i (elements ts) within around path ≡ Ok as_ → ⊥)

    chosen : (name : List ℕ) (b : Bool) (inner outer within around : Scope) → Differ name inner within → Differ name outer around →
        Differ name (if b then inner else outer) (if b then within else around)
    chosen name true inner outer within around d e = d
    chosen name false inner outer within around d e = e

    -- a place that is no part
    first_apart : (i : ℕ) (t : Tree) (ts : Trees) → is_part (element_place layout n i) ≡ false → IsApart (read t) → ArgumentsApart i (tree t ts)
    first_apart i t ts part one_apart = λ path. let (name, apart) = one_apart (at path i) in (
      name,
      λ inner outer within around as_ d e h k.
          let one = λ (x y : Scope). and_term (read t (if is_last n i then x else y) (at path i)) (arguments layout n (i + 1) (elements ts) x y path) in
          let go = λ (x y : Scope). arguments layout n (i + 1) (elements ts) x y path in
          let h' : one inner outer ≡ Ok as_ = sym (ap (λ b. if b then go inner outer else one inner outer) part) ∙ h in
          let k' : one within around ≡ Ok as_ = sym (ap (λ b. if b then go within around else one within around) part) ∙ k in
          let (a, rest, first, later, same) = and_read (read t (if is_last n i then inner else outer) (at path i)) (go inner outer) as_ h' in
          let (b, more, second, after, too) = and_read (read t (if is_last n i then within else around) (at path i)) (go within around) as_ k' in
          let equal : b ≡ a = cc in
          apart (if is_last n i then inner else outer) (if is_last n i then within else around) a
          (chosen name (is_last n i) inner outer within around d e) first (second ∙ ap Ok equal),
    )

    later_apart : (i : ℕ) (t : Tree) (ts : Trees) → ArgumentsApart (i + 1) ts → ArgumentsApart i (tree t ts)
    later_apart i t ts rest_apart = λ path. let (name, apart) = rest_apart path in (
      name,
      λ inner outer within around as_ d e h k.
          by name (is_part (element_place layout n i)) inner outer within around path as_ (apart inner outer within around) d e h k,
    )
      where
        by : (name : List ℕ) (b : Bool) (inner outer within around : Scope) (path : List PathPart) (as_ : List Term) →
            ((rest : List Term) → Differ name inner within → Differ name outer around → arguments layout n (i + 1) (elements ts) inner outer path ≡ Ok rest →
            arguments layout n (i + 1) (elements ts) within around path ≡ Ok rest → ⊥) →
            Differ name inner within → Differ name outer around →
            (if b then arguments layout n (i + 1) (elements ts) inner outer path
            else and_term (read t (if is_last n i then inner else outer) (at path i)) (arguments layout n (i + 1) (elements ts) inner outer path)) ≡ Ok as_ →
            (if b then arguments layout n (i + 1) (elements ts) within around path
            else and_term (read t (if is_last n i then within else around) (at path i)) (arguments layout n (i + 1) (elements ts) within around path)) ≡ Ok as_ → ⊥
        by name true inner outer within around path as_ go d e h k = go as_ d e h k
        by name false inner outer within around path as_ go d e h k =
            let (a, rest, first, later, same) = and_read (read t (if is_last n i then inner else outer) (at path i)) (arguments layout n (i + 1) (elements ts) inner outer path) as_ h in
            let (b, more, second, after, too) = and_read (read t (if is_last n i then within else around) (at path i)) (arguments layout n (i + 1) (elements ts) within around path) as_ k in
            let equal : more ≡ rest = cc in
            go rest d e later (after ∙ ap Ok equal)

    element_apart : (i : ℕ) (t : Tree) (ts : Trees) (format later : Bool) (there : ElementPlace) → element_place layout n i ≡ there → IsApartTree t →
        (later ≡ true → ArgumentsApart (i + 1) ts) → (standing.in_element there (standing.stands t) sought format || later) ≡ true → ArgumentsApart i (tree t ts)
    element_apart i t ts format later Part is one rest h = later_apart i t ts (rest h)
    element_apart i t ts format later Argument is one rest h =
        elim (or_cases (standing.stands t sought false) later h) [
          | inl here ↦ first_apart i t ts (ap is_part is) (one false here)
          | inr after ↦ later_apart i t ts (rest after)
        ]
    element_apart i t ts format later Output is one rest h =
        elim (or_cases (standing.stands t sought format) later h) [
          | inl here ↦ first_apart i t ts (ap is_part is) (one format here)
          | inr after ↦ later_apart i t ts (rest after)
        ]

    arguments_apart : (ts : Trees) (i : ℕ) (format : Bool) → AreApart ts → standing.some_element layout n i (standing.elements ts) sought format ≡ true → ArgumentsApart i ts
    arguments_apart no_trees i format all h = absurd (cc)
    arguments_apart (tree t ts) i format all h =
        element_apart i t ts format (standing.some_element layout n (i + 1) (standing.elements ts) sought format) (element_place layout n i) refl all.0
        (λ later. arguments_apart ts (i + 1) format all.2 later) h

  -- ---- `format`

  abbrev type_of : {A : Type 0} → A → Type 0
  type_of {A} x = A

  abbrev FormatArguments : Type 0
  FormatArguments = type_of no_sections

  -- terms are before others
  abbrev IsFront : List Term → List Term → Type 0
  IsFront xs ys = (rest : List Term) × (ys ≡ xs ++ rest)

  append_none : (xs : List Term) → xs ≡ xs ++ []
  append_none [] = refl
  append_none (x ∷ xs) = ap (λ ys. x ∷ ys) (append_none xs)

  front_of : (xs ys zs : List Term) → IsFront xs ys → IsFront ys zs → IsFront xs zs
  front_of xs ys zs (r, h) (s, k) = (r ++ s, k ∙ (ap (λ us. us ++ s) h ∙ joined xs r s))
    where
      joined : (as_ bs cs : List Term) → (as_ ++ bs) ++ cs ≡ as_ ++ (bs ++ cs)
      joined [] bs cs = refl
      joined (a ∷ as_) bs cs = ap (λ us. a ∷ us) (joined as_ bs cs)

  -- after as many terms there is one term
  same_at : (xs ys zs : List Term) (a b : Term) → length xs ≡ length ys → IsFront (xs ++ a ∷ []) zs → IsFront (ys ++ b ∷ []) zs → a ≡ b
  same_at [] [] zs a b h (r, k) (s, l) = let both : a ∷ r ≡ b ∷ s = sym k ∙ l in cc
  same_at [] (y ∷ ys) zs a b h k l = absurd (omega (arith, h))
  same_at (x ∷ xs) [] zs a b h k l = absurd (omega (arith, h))
  same_at (x ∷ xs) (y ∷ ys) zs a b h (r, k) (s, l) =
      let both : x ∷ ((xs ++ a ∷ []) ++ r) ≡ y ∷ ((ys ++ b ∷ []) ++ s) = sym k ∙ l in
      let rest : (xs ++ a ∷ []) ++ r ≡ (ys ++ b ∷ []) ++ s = cc in
      same_at xs ys ((xs ++ a ∷ []) ++ r) a b (omega (arith, h)) (r, refl) (s, rest)

  length_push : (xs ys : List Term) (a b : Term) → length xs ≡ length ys → length (xs ++ a ∷ []) ≡ length (ys ++ b ∷ [])
  length_push [] [] a b h = refl
  length_push [] (y ∷ ys) a b h = absurd (omega (arith, h))
  length_push (x ∷ xs) [] a b h = absurd (omega (arith, h))
  length_push (x ∷ xs) (y ∷ ys) a b h = let k = length_push xs ys a b (omega (arith, h)) in omega (arith, k)

  abbrev Growing : Type 0
  Growing = Scope → FormatArguments → Result FormatArguments SynFault

  -- a step only adds arguments
  abbrev Grows : Growing → Type 0
  Grows go = (s : Scope) (found final : FormatArguments) → go s found ≡ Ok final → IsFront found.arguments final.arguments

  -- it adds as many in all scopes
  abbrev GrowsAlike : Growing → Type 0
  GrowsAlike go =
      (old new : Scope) (found more final last : FormatArguments) → length found.arguments ≡ length more.arguments →
      go old found ≡ Ok final → go new more ≡ Ok last → length final.arguments ≡ length last.arguments

  -- what it adds is not the same in two scopes
  abbrev IsApartStep : Growing → Type 0
  IsApartStep go =
      (name : List ℕ) × ((old new : Scope) (found more final last : FormatArguments) (zs : List Term) → Differ name old new → length found.arguments ≡ length more.arguments →
      go old found ≡ Ok final → go new more ≡ Ok last → IsFront final.arguments zs → IsFront last.arguments zs → ⊥)

  abbrev piece : ℕ → Role → (Scope → Read) → Growing
  piece i role r s found = then_term (r s) (λ t. Ok (with_piece i role found t))

  read_piece : (i : ℕ) (role : Role) (r : Read) (found final : FormatArguments) → then_term r (λ t. Ok (with_piece i role found t)) ≡ Ok final →
      (a : Term) × (r ≡ Ok a) × (final.arguments ≡ found.arguments ++ a ∷ [])
  read_piece i role (Ok a) found final h = let same : with_piece i role found a ≡ final = cc in (a, refl, ap (λ (f : FormatArguments). f.arguments) (sym same))
  read_piece i role (Err f) found final h = absurd (cc)

  piece_grows : (i : ℕ) (role : Role) (r : Scope → Read) → Grows (piece i role r)
  piece_grows i role r s found final h = let (a, read_it, is) = read_piece i role (r s) found final h in (a ∷ [], is)

  piece_alike : (i : ℕ) (role : Role) (r : Scope → Read) → GrowsAlike (piece i role r)
  piece_alike i role r old new found more final last same h k =
      let (a, read_it, is) = read_piece i role (r old) found final h in
      let (b, read_too, was) = read_piece i role (r new) more last k in
      ap length is ∙ (length_push found.arguments more.arguments a b same ∙ sym (ap length was))

  piece_apart : (i : ℕ) (role : Role) (path : List PathPart) (r : Reader) → IsApart r → IsApartStep (piece i role (λ s. r s path))
  piece_apart i role path r one_apart = let (name, apart) = one_apart path in (
    name,
    λ old new found more final last zs d same h k front too.
        let (a, read_it, is) = read_piece i role (r old path) found final h in
        let (b, read_too, was) = read_piece i role (r new path) more last k in
        let equal = same_at found.arguments more.arguments zs a b same (subst (λ xs. IsFront xs zs) is front) (subst (λ xs. IsFront xs zs) was too) in
        apart old new a d read_it (read_too ∙ ap Ok (sym equal)),
  )

  -- two steps
  abbrev both : Growing → Growing → Growing
  both go come s found = then_sections (go s found) (come s)

  two : (r : Result FormatArguments SynFault) (come : FormatArguments → Result FormatArguments SynFault) (final : FormatArguments) → then_sections r come ≡ Ok final →
      (found : FormatArguments) × (r ≡ Ok found) × (come found ≡ Ok final)
  two (Ok found) come final h = (found, refl, h)
  two (Err f) come final h = absurd (cc)

  both_grow : (go come : Growing) → Grows go → Grows come → Grows (both go come)
  both_grow go come g k s found final h =
      let (next, first, next_is) = two (go s found) (come s) final h in
      front_of found.arguments next.arguments final.arguments (g s found next first) (k s next final next_is)

  both_alike : (go come : Growing) → GrowsAlike go → GrowsAlike come → GrowsAlike (both go come)
  both_alike go come g k old new found more final last same h l =
      let (next, first, next_is) = two (go old found) (come old) final h in
      let (after, first', last_is) = two (go new more) (come new) last l in
      k old new next after final last (g old new found more next after same first first') next_is last_is

  first_step : (go come : Growing) → Grows come → IsApartStep go → IsApartStep (both go come)
  first_step go come grows (name, apart) = (
    name,
    λ old new found more final last zs d same h k front too.
        let (next, first, next_is) = two (go old found) (come old) final h in
        let (after, first', last_is) = two (go new more) (come new) last k in
        apart old new found more next after zs d same first first'
        (front_of next.arguments final.arguments zs (grows old next final next_is) front) (front_of after.arguments last.arguments zs (grows new after last last_is) too),
  )

  second_step : (go come : Growing) → GrowsAlike go → IsApartStep come → IsApartStep (both go come)
  second_step go come alike (name, apart) = (
    name,
    λ old new found more final last zs d same h k front too.
        let (next, first, next_is) = two (go old found) (come old) final h in
        let (after, first', last_is) = two (go new more) (come new) last k in
        apart old new next after final last zs d (alike old new found more next after same first first') next_is last_is front too,
  )

  -- ---- options and sections

  module _ (path : List PathPart) where
    abbrev option_step : ℕ → Option Role → List ℕ → Reader → Growing
    option_step i role key r s found = option_read i role key r s path found

    abbrev options_step : ℕ → Fields → Growing
    options_step i fs s found = options_read i (members fs) s path found

    option_grows : (i : ℕ) (role : Option Role) (key : List ℕ) (r : Reader) → Grows (option_step i role key r)
    option_grows i (Some role) key r = piece_grows i role (λ s. r s (path ++ Key key ∷ []))
    option_grows i None key r = λ s found final h. absurd (cc)

    option_alike : (i : ℕ) (role : Option Role) (key : List ℕ) (r : Reader) → GrowsAlike (option_step i role key r)
    option_alike i (Some role) key r = piece_alike i role (λ s. r s (path ++ Key key ∷ []))
    option_alike i None key r = λ old new found more final last same h k. absurd (cc)

    option_apart : (i : ℕ) (role : Option Role) (key : List ℕ) (r : Reader) → IsApart r → IsApartStep (option_step i role key r)
    option_apart i (Some role) key r apart = piece_apart i role (path ++ Key key ∷ []) r apart
    option_apart i None key r apart = ([], λ old new found more final last zs d same h k front too. absurd (cc))

    none_grows : Grows (λ s found. Ok found)
    none_grows s found final h = let same : found ≡ final = cc in ([], sym (ap (λ (f : FormatArguments). f.arguments) same) ∙ append_none found.arguments)

    none_alike : GrowsAlike (λ s found. Ok found)
    none_alike old new found more final last same h k =
        let a : found ≡ final = cc in
        let b : more ≡ last = cc in
        sym (ap (λ (f : FormatArguments). length f.arguments) a) ∙ (same ∙ ap (λ (f : FormatArguments). length f.arguments) b)

    options_grow : (i : ℕ) (fs : Fields) → Grows (options_step i fs)
    options_grow i no_fields = none_grows
    options_grow i (field k t fs) = both_grow (option_step i (option_named k) k (read t)) (options_step i fs) (option_grows i (option_named k) k (read t)) (options_grow i fs)

    options_alike : (i : ℕ) (fs : Fields) → GrowsAlike (options_step i fs)
    options_alike i no_fields = none_alike
    options_alike i (field k t fs) = both_alike (option_step i (option_named k) k (read t)) (options_step i fs) (option_alike i (option_named k) k (read t)) (options_alike i fs)

    options_apart : (i : ℕ) (fs : Fields) → AreApartFields fs → standing.some_option (standing.members fs) sought ≡ true → IsApartStep (options_step i fs)
    options_apart i no_fields all h = absurd (cc)
    options_apart i (field k t fs) all h =
        let one = option_step i (option_named k) k (read t) in
        let rest = options_step i fs in
        elim (or_cases (standing.stands t sought false) (standing.some_option (standing.members fs) sought) h) [
          | inl here ↦ first_step one rest (options_grow i fs) (option_apart i (option_named k) k (read t) (all.0 false here))
          | inr later ↦ second_step one rest (option_alike i (option_named k) k (read t)) (options_apart i fs all.1 later)
        ]

    abbrev section_step : ℕ → Bool → Tree → Growing
    section_step i follows t s found = section_read i follows (options t) (read t) s path found

    section_grows : (i : ℕ) (follows : Bool) (t : Tree) → Grows (section_step i follows t)
    section_grows i true (object fs) = options_grow i fs
    section_grows i false (object fs) = λ s found final h. absurd (cc)
    section_grows i follows null = piece_grows i Content (λ s. read null s path)
    section_grows i follows (boolean b) = piece_grows i Content (λ s. read (boolean b) s path)
    section_grows i follows (number n) = piece_grows i Content (λ s. read (number n) s path)
    section_grows i follows (text x) = piece_grows i Content (λ s. read (text x) s path)
    section_grows i follows (list us) = piece_grows i Content (λ s. read (list us) s path)

    section_alike : (i : ℕ) (follows : Bool) (t : Tree) → GrowsAlike (section_step i follows t)
    section_alike i true (object fs) = options_alike i fs
    section_alike i false (object fs) = λ old new found more final last same h k. absurd (cc)
    section_alike i follows null = piece_alike i Content (λ s. read null s path)
    section_alike i follows (boolean b) = piece_alike i Content (λ s. read (boolean b) s path)
    section_alike i follows (number n) = piece_alike i Content (λ s. read (number n) s path)
    section_alike i follows (text x) = piece_alike i Content (λ s. read (text x) s path)
    section_alike i follows (list us) = piece_alike i Content (λ s. read (list us) s path)

    content_apart : (i : ℕ) (t : Tree) → IsApartTree t → (nat_lt 0 i && standing.stands t sought false) ≡ true → IsApartStep (piece i Content (λ s. read t s path))
    content_apart i t one h = piece_apart i Content path (read t) (one false (and_parts (nat_lt 0 i) (standing.stands t sought false) h).1)

    section_apart : (i : ℕ) (follows : Bool) (t : Tree) → IsApartTree t → HasApartOptions t →
        standing.in_section i follows (standing.options t) (standing.stands t) sought ≡ true → IsApartStep (section_step i follows t)
    section_apart i true (object fs) one all h = options_apart i fs all h
    section_apart i false (object fs) one all h = absurd (cc)
    section_apart i follows null one all h = content_apart i null one h
    section_apart i follows (boolean b) one all h = content_apart i (boolean b) one h
    section_apart i follows (number n) one all h = content_apart i (number n) one h
    section_apart i follows (text x) one all h = content_apart i (text x) one h
    section_apart i follows (list us) one all h = content_apart i (list us) one h

  same_options : (t : Tree) → is_none (standing.options t) ≡ is_none (options t)
  same_options null = refl
  same_options (boolean b) = refl
  same_options (number n) = refl
  same_options (text s) = refl
  same_options (list ts) = refl
  same_options (object fs) = refl

  if_grows : (b : Bool) (go come : Growing) → Grows go → Grows come → Grows (λ s found. if b then go s found else come s found)
  if_grows true go come g k = g
  if_grows false go come g k = k

  if_second : (b : Bool) (go come : Growing) → b ≡ false → IsApartStep come → IsApartStep (λ s found. if b then go s found else come s found)
  if_second true go come other apart = absurd (cc)
  if_second false go come other apart = apart

  module _ (path : List PathPart) where
    abbrev sections_step : ℕ → Bool → Trees → Growing
    sections_step i follows ts s found = sections_read i follows (elements ts) s path found

    sections_grow : (ts : Trees) (i : ℕ) (follows : Bool) → Grows (sections_step i follows ts)
    sections_grow no_trees i follows = none_grows path
    sections_grow (tree t ts) i follows =
        if_grows (nat_eq i 0) (sections_step (i + 1) false ts) (both (section_step (at path i) i follows t) (sections_step (i + 1) (is_none (options t)) ts))
        (sections_grow ts (i + 1) false)
        (both_grow (section_step (at path i) i follows t) (sections_step (i + 1) (is_none (options t)) ts) (section_grows (at path i) i follows t) (sections_grow ts (i + 1) (is_none (options t))))

    sections_apart : (ts : Trees) (i : ℕ) (follows : Bool) → 0 < i → AreApart ts → standing.some_section i follows (standing.elements ts) sought ≡ true →
        IsApartStep (sections_step i follows ts)
    sections_apart no_trees i follows after all h = absurd (cc)
    sections_apart (tree t ts) i follows after all h =
        let one = section_step (at path i) i follows t in
        let rest = sections_step (i + 1) (is_none (options t)) ts in
        let later : (nat_lt 0 i && is_none (standing.options t)) ≡ is_none (options t) = ap (λ b. b && is_none (standing.options t)) (lt-ltb 0 i after) ∙ same_options t in
        if_second (nat_eq i 0) (sections_step (i + 1) false ts) (both one rest) (ne_eqb i 0 (λ e. omega (arith, e, after)))
        (elim (or_cases (standing.in_section i follows (standing.options t) (standing.stands t) sought)
        (standing.some_section (i + 1) (nat_lt 0 i && is_none (standing.options t)) (standing.elements ts) sought) h) [
          | inl here ↦ first_step one rest (sections_grow ts (i + 1) (is_none (options t))) (section_apart (at path i) i follows t all.0 all.1 here)
          | inr more ↦
              second_step one rest (section_alike (at path i) i follows t)
              (sections_apart ts (i + 1) (is_none (options t)) (omega arith) all.2 (subst (λ b. standing.some_section (i + 1) b (standing.elements ts) sought ≡ true) later more))
        ])

  -- ---- nodes

  abbrev list_of : Terms → List Term
  list_of no_terms = []
  list_of (term t ts) = t ∷ list_of ts

  list_back : (ts : List Term) → list_of (terms_of ts) ≡ ts
  list_back [] = refl
  list_back (t ∷ ts) = ap (λ us. t ∷ us) (list_back ts)

  same_arguments : (op other : Operator) (as_ bs : List Term) (e : Term) → node op (terms_of as_) ≡ e → node other (terms_of bs) ≡ e → as_ ≡ bs
  same_arguments op other as_ bs e h k =
      let both : terms_of as_ ≡ terms_of bs = (let q = h ∙ sym k in cc) in sym (list_back as_) ∙ (ap list_of both ∙ list_back bs)

  format_read : (r : Result FormatArguments SynFault) (e : Term) → then_format r ≡ Ok e → (found : FormatArguments) × (r ≡ Ok found) × (then_format (Ok found) ≡ Ok e)
  format_read (Ok found) e h = (found, refl, h)
  format_read (Err f) e h = absurd (cc)

  node_read_of : (op : Operator) (r : Result (List Term) SynFault) (e : Term) → then_node op r ≡ Ok e → (as_ : List Term) × (r ≡ Ok as_) × (node op (terms_of as_) ≡ e)
  node_read_of op (Ok as_) e h = (as_, refl, cc)
  node_read_of op (Err f) e h = absurd (cc)

  within : (op : Operator) (s : Scope) (name : List ℕ) → global_at (names_in op s) name ≡ global_at s name
  within (Let names) s name = refl
  within op s name = refl

  in_section_0 : (o : Option (List (List ℕ × standing.Walker))) (w : standing.Walker) (b : Bool) → (standing.in_section 0 false o w sought || b) ≡ true → b ≡ true
  in_section_0 (Some ms) w b h = h
  in_section_0 None w b h = h

  none_in_value : (n i : ℕ) (es : List (standing.Walker × Option (List (List ℕ × standing.Walker)))) (format : Bool) → standing.some_element layouts.Value n i es sought format ≡ false
  none_in_value n i [] format = refl
  none_in_value n i (e ∷ es) format = by (nat_eq i 0) (standing.some_element layouts.Value n (i + 1) es sought format) (none_in_value n (i + 1) es format)
    where
      by : (b later : Bool) → later ≡ false → (standing.in_element (if b then Part else Part) e.0 sought format || later) ≡ false
      by true later h = h
      by false later h = h

  as_long : (ts : Trees) → length (standing.elements ts) ≡ length (elements ts)
  as_long no_trees = refl
  as_long (tree t ts) = ap suc (as_long ts)

  global_apart : (o : Option (List ℕ)) → IsApart (global_read o)
  global_apart (Some s) = λ path. (
    s,
    λ old new e d h k.
        let one : global_term s (global_at old s) ≡ e = cc in
        let two : global_term s (global_at new s) ≡ e = cc in
        let both : global_term s None ≡ global_term s (Some values.null) = ap (global_term s) (sym d.0) ∙ (one ∙ (sym two ∙ ap (global_term s) d.1)) in
        absurd (cc),
  )
  global_apart None = λ path. ([], λ old new e d h k. absurd (cc))

  sections_node : (us : Trees) → AreApart us → standing.some_section 0 false (standing.elements us) sought ≡ true → IsApart (λ scope path. then_format (all_sections (elements us) scope path))
  sections_node no_trees apart h = absurd (cc)
  sections_node (tree t us) apart h = λ path.
      let later = in_section_0 (standing.options t) (standing.stands t) (standing.some_section 1 false (standing.elements us) sought) h in
      let (name, go) = sections_apart path us 1 false (omega arith) apart.2 later in (
        name,
        λ old new e d h k.
            let (final, read_it, is) = format_read (sections_read 1 false (elements us) old path no_sections) e h in
            let (last, read_too, was) = format_read (sections_read 1 false (elements us) new path no_sections) e k in
            let one : node (Format final.pieces) (terms_of final.arguments) ≡ e = cc in
            let two : node (Format last.pieces) (terms_of last.arguments) ≡ e = cc in
            let equal = same_arguments (Format final.pieces) (Format last.pieces) final.arguments last.arguments e one two in
            go old new no_sections no_sections final last final.arguments d refl read_it read_too
            ([], append_none final.arguments) ([], equal ∙ append_none last.arguments),
      )

  operator_apart : (layout : ElementLayout) (op : Scope → Result Operator SynCode) (n : ℕ) (ts : Trees) → ArgumentsApart layout n 0 ts →
      length (elements ts) ≡ n → IsApart (λ scope path. with_operator layout (elements ts) (op scope) scope path)
  operator_apart layout op n ts apart long = λ path. let (name, go) = apart path in (name, λ old new e d h k. by name old new e d (op old) (op new) path (λ x y z w as_ p q r s. go x y z w as_ p q r s) h k)
    where
      by : (name : List ℕ) (old new : Scope) (e : Term) → Differ name old new → (o p : Result Operator SynCode) (path : List PathPart) →
          ((inner outer within around : Scope) (as_ : List Term) → Differ name inner within → Differ name outer around →
          arguments layout n 0 (elements ts) inner outer path ≡ Ok as_ → arguments layout n 0 (elements ts) within around path ≡ Ok as_ → ⊥) →
          with_operator layout (elements ts) o old path ≡ Ok e → with_operator layout (elements ts) p new path ≡ Ok e → ⊥
      by name old new e d (Ok op) (Ok other) path go h k =
          let (as_, read_it, is) = node_read_of op (arguments layout (length (elements ts)) 0 (elements ts) (names_in op old) old path) e h in
          let (bs, read_too, was) = node_read_of other (arguments layout (length (elements ts)) 0 (elements ts) (names_in other new) new path) e k in
          let equal = same_arguments op other as_ bs e is was in
          let first = subst (λ m. arguments layout m 0 (elements ts) (names_in op old) old path ≡ Ok as_) long read_it in
          let second = subst (λ m. arguments layout m 0 (elements ts) (names_in other new) new path ≡ Ok bs) long read_too in
          go (names_in op old) old (names_in other new) new as_ (within op old name ∙ d.0, within other new name ∙ d.1) d first (second ∙ ap Ok (sym equal))
      by name old new e d (Err c) p path go h k = absurd (cc)
      by name old new e d (Ok op) (Err c) path go h k = absurd (cc)

  module _ (ts : Trees) (all : AreApart ts) (format : Bool) where
    abbrev stands_by : ElementLayout → Bool → Bool → Bool → Bool
    stands_by layout seeks out fits =
        if out then not seeks else
        if seeks && standing.is_global_layout layout then true else
        if not fits then false else
        if is_format_layout layout then standing.some_section 0 false (standing.elements ts) sought else
        standing.some_element layout (length (standing.elements ts)) 0 (standing.elements ts) sought format

    abbrev read_by : ElementLayout → Bool → (Scope → Result Operator SynCode) → Reader
    read_by layout fits op scope path =
        if not fits then fault path code.Arity
        else if is_value_layout layout then literal_read (second ts) path
        else if is_global_layout layout then global_read (second_text ts) scope path
        else if is_format_layout layout then then_format (all_sections (elements ts) scope path)
        else with_operator layout (elements ts) (op scope) scope path

    by_places : (layout : ElementLayout) (op : Scope → Result Operator SynCode) →
        standing.some_element layout (length (standing.elements ts)) 0 (standing.elements ts) sought format ≡ true →
        IsApart (λ scope path. with_operator layout (elements ts) (op scope) scope path)
    by_places layout op h =
        operator_apart layout op (length (standing.elements ts)) ts (arguments_apart layout (length (standing.elements ts)) ts 0 format all h) (sym (as_long ts))

    layout_apart : (layout : ElementLayout) (out fits : Bool) (op : Scope → Result Operator SynCode) → stands_by layout true out fits ≡ true → IsApart (read_by layout fits op)
    layout_apart layout true fits op h = absurd (cc)
    layout_apart layout false false op h = λ path. ([], λ old new e d h k. absurd (cc))
    layout_apart layouts.Global false true op h = global_apart (second_text ts)
    layout_apart layouts.Sections false true op h = sections_node ts all h
    layout_apart layouts.Value false true op h =
        absurd (let none = none_in_value (length (standing.elements ts)) 0 (standing.elements ts) format in cc)
    layout_apart layout false true op h = by_places layout op h

    node_apart : (name : Name) → standing.node_stands name ts (standing.elements ts) sought format ≡ true → IsApart (node_read name ts (elements ts))
    node_apart name h =
        layout_apart (row name).layout (standing.is_outside_node name ts format) (allows (row name).arity (length (elements ts) - 1))
        (λ scope. operator_of (row name).layout name scope (length (elements ts)) ts)
        (subst (λ seeks. stands_by (row name).layout seeks (standing.is_outside_node name ts format) (allows (row name).arity (length (elements ts) - 1)) ≡ true) is
        (subst (λ n. stands_by (row name).layout (standing.is_for_global sought) (standing.is_outside_node name ts format) (allows (row name).arity (n - 1)) ≡ true) (as_long ts) h))

    named_apart : (name : Option Name) → standing.array_stands name ts (standing.elements ts) sought format ≡ true → IsApart (named_read name ts (elements ts))
    named_apart None h = absurd (cc)
    named_apart (Some name) h = node_apart name h

    array_apart : (head : Option (List ℕ)) → standing.array_stands (name_in head) ts (standing.elements ts) sought format ≡ true → IsApart (array_read head ts (elements ts))
    array_apart None h = absurd (cc)
    array_apart (Some s) h = named_apart (name_of s) h

  mutual
    tree_apart : (t : Tree) → IsApartTree t
    tree_apart null = λ format h. absurd (cc)
    tree_apart (boolean b) = λ format h. absurd (cc)
    tree_apart (number n) = λ format h. absurd (cc)
    tree_apart (text s) = λ format h. absurd (cc)
    tree_apart (list ts) = λ format h. array_apart ts (trees_apart ts) format (head_text ts) h
    tree_apart (object fs) = λ format h. absurd (cc)

    options_of : (t : Tree) → HasApartOptions t
    options_of null = tt
    options_of (boolean b) = tt
    options_of (number n) = tt
    options_of (text s) = tt
    options_of (list ts) = tt
    options_of (object fs) = fields_apart fs

    trees_apart : (ts : Trees) → AreApart ts
    trees_apart no_trees = tt
    trees_apart (tree t ts) = (tree_apart t, options_of t, trees_apart ts)

    fields_apart : (fs : Fields) → AreApartFields fs
    fields_apart no_fields = tt
    fields_apart (field k t fs) = (tree_apart t, fields_apart fs)

-- ---- the whole

read_inside : (b : Bool) (r : Read) (e : Term) → (if b then Ok None else inside r) ≡ Ok (Some e) → r ≡ Ok e
read_inside true r e h = absurd (cc)
read_inside false (Ok t) e h = let same : t ≡ e = cc in ap Ok same
read_inside false (Err f) e h = absurd (cc)

own_value : (name : List ℕ) → global_at (globals ((name, values.null) ∷ [])) name ≡ Some values.null
own_value name = ap (λ b. if b then Some values.null else None) (texts_same name name refl)

pub fixed_use_none : FixedExpressionsUseNoGlobals
fixed_use_none t e reads = false_from_ne_true (uses_globals t) (λ uses.
    let (name, apart) = tree_apart _ refl t true uses [] in
    let given : List (List ℕ × Data) = (name, values.null) ∷ [] in
    apart (globals []) (globals given) e (refl, own_value name)
    (read_inside (is_outside t) (read t (globals []) []) e (reads []))
    (read_inside (is_outside t) (read t (globals given) []) e (reads given)))
