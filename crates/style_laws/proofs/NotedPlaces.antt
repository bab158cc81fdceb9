-- Each note of a document is of a value or of a filter that is outside.
use Rattle.std.proofs.Common.{◌≡◌, ◌∙◌, ◌⊎◌, inl, inr, ℕ, zero, suc, ◌+◌, List, [], ◌∷◌, ◌++◌, refl, ap, sym, subst, arith, Bool, true, false, Option, Some, None, Ok, Err}
use Rattle.std.proofs.lemmas.Slice.Eq.{bytes_eq-Decides}
use Rattle.std.specs.Prelude.{Contains, codes, ◌||◌, is_some, if◌then◌else◌}
use Rattle.std.specs.Option.{option_and_then}
use Rattle.std.specs.Str.{bytes_eq}
use Rattle.decimal_json.specs.Accessors.{member, trees_in}
use Rattle.decimal_json.specs.Sound.{LacksKey, HasDistinctKeys}
use Rattle.decimal_json.specs.Tree.{Tree, null, boolean, number, text, list, object, Trees, no_trees, tree, Fields, no_fields, field, field_at, members_of}
use Rattle.decimal_json.specs.declared.paths.PathPart.{PathPart}
use Rattle.decimal_json.specs.declared.paths.PathPart.TheVariants.{Key}
use Rattle.prop_values.specs.Data.{Data}
use Rattle.prop_values.specs.Faults.{no_faults}
use Rattle.prop_values.specs.declared.fault.FaultSet.{FaultSet}
use Rattle.prop_values.specs.declared.kinds.Kind.TheVariants as kinds
use Rattle.prop_values.specs.declared.kinds.Want.{Want}
use Rattle.prop_values.specs.declared.kinds.Want.TheVariants as wants
use Rattle.property_tables.specs.Literals.{literal_of}
use Rattle.property_tables.specs.Rows.{RowData, row_of, is_unread}
use Rattle.property_tables.specs.declared.layer_type.LayerType.{LayerType}
use Rattle.property_tables.specs.declared.property_row.Place.{Place}
use Rattle.property_tables.specs.declared.property_row.Place.TheVariants.{Layout, Paint}
use Rattle.expr_syntax.specs.Reading.{Reading, reading, reading_with}
use Rattle.expr_types.specs.Checked.{checked}
use Rattle.expr_types.specs.Typing.{Typed, kinded}
use Rattle.legacy_filters.specs.Form as filters
use Rattle.legacy_filters.specs.Split.{is_legacy}
use Rattle.legacy_functions.specs.Form as functions
use Rattle.legacy_functions.specs.Function.{Function}
use Rattle.style_parts.specs.Parts.{sources_of, layers_of, layer_at, is_layers}
use Rattle.value_forms.specs.Forms.{form_of, takes_literals_alone, is_expression, is_function, is_token_text}
use Rattle.value_forms.specs.LayerTypes.{layer_type, tested_type, place_named}
use Rattle.value_forms.specs.declared.forms.Form.{Form}
use Rattle.value_forms.specs.declared.forms.Form.TheVariants as forms
use Rattle.style_layout.specs.Forms.{outside, expression_value, function_value, formed_value, property_value, condition_of, legacy_of, layer_filter, is_outside}
use Rattle.style_layout.specs.Layers.{place_key, set_value}
use Rattle.style_rules.specs.Findings.{reports, reports_or, notes_in, notes}
use Rattle.style_rules.specs.LayerContext.{LayerContext, context_of, is_source}
use Rattle.style_rules.specs.Levels.{fields_reports, fields_or_none, items_or_none, property_reports, member_below, member_reports, context_reports, layers_reports, named_reports, root_member_below, root_member_reports, document_reports, WalksByLevels}
use Rattle.style_rules.specs.Places.{least_broken, unless_broken, root_member_mark, named_mark, properties_mark, property_mark, row_mark, unnamed_mark, is_transition_name, used_in}
use Rattle.style_rules.specs.Rules
use Rattle.style_rules.specs.Values.{typed_mark, read_mark, function_reads, function_faults, function_mark, form_mark, value_mark, expression_mark, legacy_mark, filter_mark}
use Rattle.global_laws.specs.GlobalLaw.{IsReadAlike, GlobalValuesChangeNoForm}
use Rattle.migrate_soundness.proofs.MemberLists.{members_back}
use Rattle.style_laws.specs.NoteLaw.{HasKeysOnce, HaveKeysOnce, HasMembersOnce}
use Rattle.style_laws.specs.StyleLaw.{layer_path, value_path, filter_path}
use Rattle.style_laws.proofs.PartsOfReports.{Mark, Reports, notes_of_both}

-- ---- what is in a list

abbrev pub IsIn : {A : Type 0} → A → List A → Type 0
IsIn x [] = ⊥
IsIn x (y ∷ ys) = (y ≡ x) ⊎ IsIn x ys

module _ {A : Type 0} where
  pub in_append : (x : A) (xs ys : List A) → IsIn x (xs ++ ys) → IsIn x xs ⊎ IsIn x ys
  in_append x [] ys is = inr is
  in_append x (z ∷ xs) ys (inl same) = inl (inl same)
  in_append x (z ∷ xs) ys (inr is) = elim (in_append x xs ys is) [ inl left ↦ inl (inr left) | inr right ↦ inr right ]

  pub in_left : (x : A) (xs ys : List A) → IsIn x xs → IsIn x (xs ++ ys)
  in_left x [] ys is = absurd is
  in_left x (z ∷ xs) ys (inl same) = inl same
  in_left x (z ∷ xs) ys (inr is) = inr (in_left x xs ys is)

  pub in_right : (x : A) (xs ys : List A) → IsIn x ys → IsIn x (xs ++ ys)
  in_right x [] ys is = is
  in_right x (z ∷ xs) ys is = inr (in_right x xs ys is)

  pub in_from : (x : A) (xs : List A) → Contains xs x → IsIn x xs
  in_from x [] (k, less, is) = absurd (omega (arith, less))
  in_from x (y ∷ ys) (zero, less, is) = inl is
  in_from x (y ∷ ys) (suc k, less, is) = inr (in_from x ys (k, omega (arith, less), is))

  pub in_contains : (x : A) (xs : List A) → IsIn x xs → Contains xs x
  in_contains x [] is = absurd is
  in_contains x (y ∷ ys) (inl same) = (zero, omega arith, same)
  in_contains x (y ∷ ys) (inr is) = let (k, less, at) = in_contains x ys is in (suc k, omega (arith, less), at)

-- ---- members

abbrev IsField : Fields → List ℕ → Tree → Type 0
IsField no_fields key u = ⊥
IsField (field k t fs) key u = ((k ≡ key) × (t ≡ u)) ⊎ IsField fs key u

not_lacking : (key : List ℕ) (fs : Fields) (u : Tree) → LacksKey key (members_of fs) → IsField fs key u → ⊥
not_lacking key no_fields u lacks is = is
not_lacking key (field k t fs) u lacks (inl same) = lacks.0 same.0
not_lacking key (field k t fs) u lacks (inr is) = not_lacking key fs u lacks.1 is

field_later : (k : List ℕ) (t : Tree) (fs : Fields) (key : List ℕ) (u : Tree) → LacksKey k (members_of fs) → IsField fs key u → field_at key fs ≡ Some u →
    field_at key (field k t fs) ≡ Some u
field_later k t fs key u lacks is later = by (bytes_eq k key) refl
  where
    by : (b : Bool) → bytes_eq k key ≡ b → (if b then Some t else field_at key fs) ≡ Some u
    by true same =
        let here : k ≡ key = (bytes_eq-Decides k key).0 same in
        absurd (not_lacking key fs u (subst (λ x. LacksKey x (members_of fs)) here lacks) is)
    by false other = later

field_found : (fs : Fields) (key : List ℕ) (u : Tree) → HasDistinctKeys (members_of fs) → IsField fs key u → field_at key fs ≡ Some u
field_found no_fields key u distinct is = absurd is
field_found (field k t fs) key u distinct (inl same) =
    ap (λ b. if b then Some t else field_at key fs) ((bytes_eq-Decides k key).1 same.0) ∙ ap Some same.1
field_found (field k t fs) key u distinct (inr is) = field_later k t fs key u distinct.0 is (field_found fs key u distinct.1 is)

member_once : (fs : Fields) (key : List ℕ) (u : Tree) → HasMembersOnce fs → IsField fs key u → HasKeysOnce u
member_once no_fields key u once is = absurd is
member_once (field k t fs) key u once (inl same) = subst HasKeysOnce same.1 once.0
member_once (field k t fs) key u once (inr is) = member_once fs key u once.1 is

-- ---- marks, whose variants have no names outside of their crate

abbrev sound : FaultSet → Mark
sound may = typed_mark (Ok (record { node = kinded wants.Any kinds.Any may true; below = [] }))

abbrev broken : ℕ → Mark
broken rule = least_broken ((rule, false) ∷ [])

-- ---- what is noted of a value and of a filter

module _ (alike : GlobalValuesChangeNoForm) where
  not_alone : (row : RowData) (t : Tree) (form : Form) → form_of row t ≡ form → (form ≡ forms.Literal → ⊥) → takes_literals_alone row ≡ false
  not_alone row t form is other = by (takes_literals_alone row) is
    where
      by : (b : Bool) → (if b then forms.Literal else if is_expression t then forms.Expression else if is_function t then forms.Function else if is_token_text row t then forms.TokenText else forms.Literal) ≡ form → b ≡ false
      by true same = absurd (other (sym same))
      by false same = refl

  -- it is not evaluated, with any values of the global state
  abbrev pub IsNeverEvaluated : RowData → Tree → Type 0
  IsNeverEvaluated row v = (globals : List (List ℕ × Data)) → property_value row globals v ≡ outside

  outside_reading : (new : Reading) → IsReadAlike new (Ok None) → expression_value new ≡ outside
  outside_reading (Ok None) same = refl
  outside_reading (Ok (Some e)) same = absurd same
  outside_reading (Err f) same = absurd same

  outside_condition : (new : Reading) → IsReadAlike new (Ok None) → is_outside (condition_of new) ≡ true
  outside_condition (Ok None) same = refl
  outside_condition (Ok (Some e)) same = absurd same
  outside_condition (Err f) same = absurd same

  typed_none : (r : Typed) (path p : List PathPart) (below : Reports) → IsIn p (notes_in (reports_or (typed_mark r) path below)) → ⊥
  typed_none (Ok found) path p below is = is
  typed_none (Err f) path p below is = is

  reading_noted : (want : Want) (of_row : Option RowData) (r : Reading) (path p : List PathPart) (below : Reports) →
      IsIn p (notes_in (reports_or (read_mark want of_row r) path below)) → (p ≡ path) × (r ≡ Ok None)
  reading_noted want of_row (Ok (Some e)) path p below is = absurd (typed_none (checked e want of_row) path p below is)
  reading_noted want of_row (Ok None) path p below (inl same) = (sym same, refl)
  reading_noted want of_row (Ok None) path p below (inr is) = absurd is
  reading_noted want of_row (Err f) path p below is = absurd is

  literal_none : (o : Option Data) (path p : List PathPart) (below : Reports) → IsIn p (notes_in (reports_or (if is_some o then sound no_faults else broken 15) path below)) → ⊥
  literal_none (Some x) path p below is = is
  literal_none None path p below is = is

  function_none : (b : Bool) (faults : FaultSet) (path p : List PathPart) (below : Reports) → IsIn p (notes_in (reports_or (if b then sound faults else broken 17) path below)) → ⊥
  function_none true faults path p below is = is
  function_none false faults path p below is = is

  function_noted : (row : RowData) (f : Option (Option Function)) (path p : List PathPart) (below : Reports) →
      IsIn p (notes_in (reports_or (function_mark row f) path below)) → (p ≡ path) × (function_value row f ≡ outside)
  function_noted row (Some (Some f)) path p below is = absurd (function_none (function_reads row f) (function_faults row f) path p below is)
  function_noted row (Some None) path p below (inl same) = (sym same, refl)
  function_noted row (Some None) path p below (inr is) = absurd is
  function_noted row None path p below is = absurd is

  form_noted : (row : RowData) (t : Tree) (path p : List PathPart) (below : Reports) (form : Form) → form_of row t ≡ form →
      IsIn p (notes_in (reports_or (form_mark form row t) path below)) →
      (p ≡ path) × (takes_literals_alone row ≡ false) × ((globals : List (List ℕ × Data)) → formed_value form row globals t ≡ outside)
  form_noted row t path p below forms.Expression is noted =
      let (same, read) = reading_noted row.want (Some row) (reading t) path p below noted in (
        same,
        not_alone row t forms.Expression is (λ e. absurd (cc)),
        λ globals. outside_reading (reading_with t globals) (subst (IsReadAlike (reading_with t globals)) read (alike t globals [])),
      )
  form_noted row t path p below forms.Function is noted =
      let (same, none) = function_noted row (functions.form row t) path p below noted in
      (same, not_alone row t forms.Function is (λ e. absurd (cc)), λ globals. none)
  form_noted row t path p below forms.TokenText is noted = absurd noted
  form_noted row t path p below forms.Literal is noted = absurd (literal_none (literal_of t row) path p below noted)

  value_noted : (row : RowData) (t : Tree) (path p : List PathPart) (below : Reports) →
      IsIn p (notes_in (reports_or (value_mark row t) path below)) → (p ≡ path) × (takes_literals_alone row ≡ false) × IsNeverEvaluated row t
  value_noted row t path p below noted = form_noted row t path p below (form_of row t) refl noted

  abbrev pub IsNeverAsked : Tree → Type 0
  IsNeverAsked v = (globals : List (List ℕ × Data)) → is_outside (layer_filter globals (Some v)) ≡ true

  legacy_none : (r : filters.FilterRead) (path p : List PathPart) (below : Reports) → IsIn p (notes_in (reports_or (legacy_mark r) path below)) → ⊥
  legacy_none (Ok f) path p below is = is
  legacy_none (Err fault) path p below is = is

  filter_noted : (t : Tree) (path p : List PathPart) (below : Reports) → IsIn p (notes_in (reports_or (filter_mark t) path below)) → (p ≡ path) × IsNeverAsked t
  filter_noted t path p below noted = by (is_legacy t) refl noted
    where
      by : (b : Bool) → is_legacy t ≡ b →
          IsIn p (notes_in (reports_or (if b then legacy_mark (filters.reading t) else expression_mark wants.Boolean None t) path below)) → (p ≡ path) × IsNeverAsked t
      by true is noted = absurd (legacy_none (filters.reading t) path p below noted)
      by false is noted =
          let (same, read) = reading_noted wants.Boolean None (reading t) path p below noted in (
            same,
            λ globals.
                ap (λ b. is_outside (if b then legacy_of (filters.reading t) else condition_of (reading_with t globals))) is
                ∙ outside_condition (reading_with t globals) (subst (IsReadAlike (reading_with t globals)) read (alike t globals [])),
          )

  -- ---- what is noted of a document

  abbrev pub IsNotedValue : Tree → ℕ → List PathPart → Type 0
  IsNotedValue layer i p =
      (type : LayerType) × (place : Place) × (name : List ℕ) × (n : ℕ) × (row : RowData) × (v : Tree)
      × (p ≡ value_path i place name) × (tested_type (layer_type layer) ≡ Some type) × (set_value layer place name ≡ Some v)
      × (row_of type place name ≡ Some (n, row)) × (takes_literals_alone row ≡ false) × IsNeverEvaluated row v

  abbrev pub IsNotedFilter : Tree → ℕ → List PathPart → Type 0
  IsNotedFilter layer i p = (v : Tree) × (p ≡ filter_path i) × (member (codes "filter") layer ≡ Some v) × IsNeverAsked v

  abbrev pub IsNoted : Tree → List PathPart → Type 0
  IsNoted document p =
      (i : ℕ) × (layer : Tree) × (layer_at i (layers_of document) ≡ Some layer) × (IsNotedValue layer i p ⊎ IsNotedFilter layer i p)

  module _ (P : List PathPart → Type 0) where
    abbrev NotesAre : Reports → Type 0
    NotesAre r = (p : List PathPart) → IsIn p (notes_in r) → P p

    none_are : NotesAre []
    none_are p is = absurd is

    both_are : (a b : Reports) → NotesAre a → NotesAre b → NotesAre (a ++ b)
    both_are a b h k p is =
        elim (in_append p (notes_in a) (notes_in b) (subst (IsIn p) (notes_of_both a b) is)) [ inl left ↦ h p left | inr right ↦ k p right ]

    -- a mark has no note of its own
    abbrev Keeps : Mark → Type 0
    Keeps m = (path : List PathPart) (below : Reports) → NotesAre below → NotesAre (reports_or m path below)

    rules_keep : (rs : List (ℕ × Bool)) → Keeps (least_broken rs)
    rules_keep [] path below h = h
    rules_keep ((rule, true) ∷ rs) path below h = rules_keep rs path below h
    rules_keep ((rule, false) ∷ rs) path below h = none_are

    if_keep : (b : Bool) (m n : Mark) → Keeps m → Keeps n → Keeps (if b then m else n)
    if_keep true m n h k = h
    if_keep false m n h k = k

    if_are : (b : Bool) (r s : Reports) → (b ≡ true → NotesAre r) → (b ≡ false → NotesAre s) → NotesAre (if b then r else s)
    if_are true r s h k = h refl
    if_are false r s h k = k refl

    fields_are : (report : List ℕ → Tree → Reports) (fs : Fields) → ((key : List ℕ) (t : Tree) → IsField fs key t → NotesAre (report key t)) →
        NotesAre (fields_reports report fs)
    fields_are report no_fields each = none_are
    fields_are report (field k t fs) each =
        both_are (report k t) (fields_reports report fs) (each k t (inl (refl, refl))) (fields_are report fs (λ key u is. each key u (inr is)))

    named_keep : (key : List ℕ) (t : Tree) → Keeps (named_mark key t)
    named_keep key t =
        if_keep (bytes_eq key (codes "sources")) (unless_broken 4 (is_source t)) _ (rules_keep ((4, is_source t) ∷ []))
        (if_keep (bytes_eq key (codes "state")) (unless_broken 22 (Rules.is_global t)) (least_broken []) (rules_keep ((22, Rules.is_global t) ∷ [])) (rules_keep []))

    root_keep : (key : List ℕ) (t : Tree) → Keeps (root_member_mark key t)
    root_keep key t =
        if_keep (bytes_eq key (codes "version")) (unless_broken 3 (Rules.is_version_8 t)) _ (rules_keep ((3, Rules.is_version_8 t) ∷ []))
        (if_keep (bytes_eq key (codes "sources")) (unless_broken 4 (Rules.are_sources t)) _ (rules_keep ((4, Rules.are_sources t) ∷ []))
        (if_keep (bytes_eq key (codes "layers")) (unless_broken 5 (Rules.are_layers t)) _ (rules_keep ((5, Rules.are_layers t) ∷ []))
        (if_keep (bytes_eq key (codes "state")) (unless_broken 22 (Rules.are_globals t)) (least_broken []) (rules_keep ((22, Rules.are_globals t) ∷ [])) (rules_keep []))))

    unnamed_keep : (type : LayerType) (place : Place) (name : List ℕ) (t : Tree) → Keeps (unnamed_mark type place name t)
    unnamed_keep type place name t =
        if_keep (is_unread type place name) (least_broken []) _ (rules_keep [])
        (if_keep (is_transition_name type place name) (unless_broken 21 (Rules.is_transition t)) (broken 14) (rules_keep ((21, Rules.is_transition t) ∷ [])) (rules_keep ((14, false) ∷ [])))

    properties_keep : (tested : Option LayerType) (t : Tree) → Keeps (properties_mark tested t)
    properties_keep (Some type) t = rules_keep ((14, Rules.are_properties t) ∷ [])
    properties_keep None t = rules_keep []

  module _ (document : Tree) where
    abbrev P : List PathPart → Type 0
    P = IsNoted document

    module _ (i : ℕ) (layer : Tree) (found : layer_at i (layers_of document) ≡ Some layer) (once : HasKeysOnce layer) where
      -- ---- properties

      module _ (place : Place) (t : Tree) (there : member (place_key place) layer ≡ Some t) where
        abbrev there_path : List PathPart
        there_path = layer_path i ++ Key (place_key place) ∷ []

        row_are : (type : LayerType) → tested_type (layer_type layer) ≡ Some type → (name : List ℕ) (v : Tree) → member name t ≡ Some v →
            (o : Option (ℕ × RowData)) → row_of type place name ≡ o → NotesAre P (reports_or (row_mark type place name o v) (there_path ++ Key name ∷ []) [])
        row_are type tested name v is (Some found_row) at_row p noted =
            let (same, alone, never) = value_noted found_row.1 v (there_path ++ Key name ∷ []) p [] noted in
            let set : set_value layer place name ≡ Some v = ap (option_and_then (member name)) there ∙ is in
            (i, layer, found, inl (type, place, name, found_row.0, found_row.1, v, same, tested, set, at_row, alone, never))
        row_are type tested name v is None at_row p noted = unnamed_keep P type place name v (there_path ++ Key name ∷ []) [] (none_are P) p noted

        property_are : (name : List ℕ) (v : Tree) → member name t ≡ Some v → (tested : Option LayerType) → tested_type (layer_type layer) ≡ tested →
            NotesAre P (reports_or (property_mark tested (Some place) name v) (there_path ++ Key name ∷ []) [])
        property_are name v is (Some type) tested = row_are type tested name v is (row_of type place name) refl
        property_are name v is None tested = none_are P

        properties_are : HasKeysOnce t → NotesAre P (fields_reports (property_reports (tested_type (layer_type layer)) (Some place) there_path) (fields_or_none t))
        properties_are once = by t once refl
          where
            by : (u : Tree) → HasKeysOnce u → t ≡ u → NotesAre P (fields_reports (property_reports (tested_type (layer_type layer)) (Some place) there_path) (fields_or_none u))
            by (object fs) once same =
                fields_are P (property_reports (tested_type (layer_type layer)) (Some place) there_path) fs
                (λ name v is. property_are name v (ap (member name) same ∙ field_found fs name v once.0 is) (tested_type (layer_type layer)) refl)
            by null once same = none_are P
            by (boolean b) once same = none_are P
            by (number n) once same = none_are P
            by (text s) once same = none_are P
            by (list ts) once same = none_are P

      -- ---- members of the layer

      place_is : (key : List ℕ) (place : Place) → place_named key ≡ Some place → key ≡ place_key place
      place_is key place h = by (bytes_eq key (codes "layout")) (bytes_eq key (codes "paint")) refl refl h
        where
          by : (a b : Bool) → bytes_eq key (codes "layout") ≡ a → bytes_eq key (codes "paint") ≡ b →
              (if a then Some Layout else if b then Some Paint else None) ≡ Some place → key ≡ place_key place
          by true b e f h = let same : Layout ≡ place = cc in (bytes_eq-Decides key (codes "layout")).0 e ∙ ap place_key same
          by false true e f h = let same : Paint ≡ place = cc in (bytes_eq-Decides key (codes "paint")).0 f ∙ ap place_key same
          by false false e f h = absurd (cc)

      abbrev context : LayerContext
      context = context_of (sources_of document) layer

      below_are : (key : List ℕ) (t : Tree) → member key layer ≡ Some t → HasKeysOnce t → (o : Option Place) → place_named key ≡ o →
          NotesAre P (member_below context o (layer_path i ++ Key key ∷ []) t)
      below_are key t is once_t (Some place) named =
          let same = place_is key place named in
          subst (λ k. NotesAre P (member_below context (Some place) (layer_path i ++ Key k ∷ []) t)) (sym same)
          (properties_are place t (subst (λ k. member k layer ≡ Some t) same is) once_t)
      below_are key t is once_t None named = none_are P

      filter_are : (key : List ℕ) (t : Tree) → member key layer ≡ Some t → bytes_eq key (codes "filter") ≡ true → (below : Reports) →
          NotesAre P (reports_or (filter_mark t) (layer_path i ++ Key key ∷ []) below)
      filter_are key t is filter below p noted =
          let (same, never) = filter_noted t (layer_path i ++ Key key ∷ []) p below noted in
          let key_is : key ≡ codes "filter" = (bytes_eq-Decides key (codes "filter")).0 filter in
          (i, layer, found, inr (t, same ∙ ap (λ k. layer_path i ++ Key k ∷ []) key_is, sym (ap (λ k. member k layer) key_is) ∙ is, never))

      pick : (path : List PathPart) (below : Reports) (b : Bool) (m n : Mark) → NotesAre P (reports_or m path below) → NotesAre P (reports_or n path below) →
          NotesAre P (reports_or (if b then m else n) path below)
      pick path below true m n h k = h
      pick path below false m n h k = k

      abbrev filter_or : Bool → Tree → Mark
      filter_or b t = if b then filter_mark t else least_broken []

      last_are : (key : List ℕ) (t : Tree) → member key layer ≡ Some t → (below : Reports) → NotesAre P below → (b : Bool) → bytes_eq key (codes "filter") ≡ b →
          NotesAre P (reports_or (filter_or b t) (layer_path i ++ Key key ∷ []) below)
      last_are key t is below h true filter = filter_are key t is filter below
      last_are key t is below h false other = h

      member_are : (used : List ℕ → Bool) (key : List ℕ) (t : Tree) → member key layer ≡ Some t → HasKeysOnce t → NotesAre P (member_reports context used (layer_path i) key t)
      member_are used key t is once_t =
          let path = layer_path i ++ Key key ∷ [] in
          let below = member_below context (place_named key) path t in
          let h = below_are key t is once_t (place_named key) refl in
          let filter : Mark = filter_or (bytes_eq key (codes "filter")) t in
          let properties : Mark = if bytes_eq key (codes "layout") || bytes_eq key (codes "paint") then properties_mark (tested_type context.type) t else filter in
          let limit : Mark = if bytes_eq key (codes "minzoom") || bytes_eq key (codes "maxzoom") then unless_broken 13 (Rules.is_zoom_limit t) else properties in
          let source_layer : Mark = if bytes_eq key (codes "source-layer") then unless_broken 12 (Rules.is_source_layer context t) else limit in
          let source : Mark =
          if bytes_eq key (codes "source") then least_broken ((10, Rules.is_source_name context t) ∷ (11, Rules.has_such_source context) ∷ []) else source_layer in
          let type : Mark = if bytes_eq key (codes "type") then unless_broken 9 (Rules.is_type t) else source in
          pick path below (bytes_eq key (codes "id")) (least_broken ((7, Rules.is_id t) ∷ (8, Rules.is_new_id used t) ∷ [])) type
          (rules_keep P ((7, Rules.is_id t) ∷ (8, Rules.is_new_id used t) ∷ []) path below h)
          (pick path below (bytes_eq key (codes "type")) (unless_broken 9 (Rules.is_type t)) source (rules_keep P ((9, Rules.is_type t) ∷ []) path below h)
          (pick path below (bytes_eq key (codes "source")) (least_broken ((10, Rules.is_source_name context t) ∷ (11, Rules.has_such_source context) ∷ [])) source_layer
          (rules_keep P ((10, Rules.is_source_name context t) ∷ (11, Rules.has_such_source context) ∷ []) path below h)
          (pick path below (bytes_eq key (codes "source-layer")) (unless_broken 12 (Rules.is_source_layer context t)) limit (rules_keep P ((12, Rules.is_source_layer context t) ∷ []) path below h)
          (pick path below (bytes_eq key (codes "minzoom") || bytes_eq key (codes "maxzoom")) (unless_broken 13 (Rules.is_zoom_limit t)) properties (rules_keep P ((13, Rules.is_zoom_limit t) ∷ []) path below h)
          (pick path below (bytes_eq key (codes "layout") || bytes_eq key (codes "paint")) (properties_mark (tested_type context.type) t) filter (properties_keep P (tested_type context.type) t path below h)
          (last_are key t is below h (bytes_eq key (codes "filter")) refl))))))

      layer_are : (used : List ℕ → Bool) → NotesAre P (context_reports context used (layer_path i) layer)
      layer_are used =
          rules_keep P (
          (6, Rules.is_layer layer) ∷ (7, Rules.has_id layer) ∷ (9, Rules.has_type layer) ∷ (10, Rules.has_source context layer) ∷ (12, Rules.has_source_layer context layer) ∷ [])
          (layer_path i) (fields_reports (member_reports context used (layer_path i)) (fields_or_none layer)) (by layer once refl)
        where
          by : (u : Tree) → HasKeysOnce u → layer ≡ u → NotesAre P (fields_reports (member_reports context used (layer_path i)) (fields_or_none u))
          by (object fs) once same =
              fields_are P (member_reports context used (layer_path i)) fs
              (λ key t is. member_are used key t (ap (member key) same ∙ field_found fs key t once.0 is) (member_once fs key t once.1 is))
          by null once same = none_are P
          by (boolean b) once same = none_are P
          by (number n) once same = none_are P
          by (text s) once same = none_are P
          by (list ts) once same = none_are P

    -- ---- layers, from this number on

    abbrev AreFrom : ℕ → Trees → Type 0
    AreFrom k ts = (j : ℕ) (layer : Tree) → layer_at j ts ≡ Some layer → layer_at (k + j) (layers_of document) ≡ Some layer

    layers_are : (ts : Trees) (k : ℕ) → AreFrom k ts → HaveKeysOnce ts →
        NotesAre P (layers_reports (sources_of document) (used_in (layers_of document)) (Key (codes "layers") ∷ []) k ts)
    layers_are no_trees k from once = none_are P
    layers_are (tree t ts) k from once =
        let here : k + 0 ≡ k = omega arith in
        let found : layer_at k (layers_of document) ≡ Some t = subst (λ n. layer_at n (layers_of document) ≡ Some t) here (from zero t refl) in
        both_are P (context_reports (context_of (sources_of document) t) (used_in (layers_of document) k) (layer_path k) t)
        (layers_reports (sources_of document) (used_in (layers_of document)) (Key (codes "layers") ∷ []) (k + 1) ts)
        (layer_are k t found once.0 (used_in (layers_of document) k))
        (layers_are ts (k + 1) (λ j layer h.
        let there : k + suc j ≡ (k + 1) + j = omega arith in
        subst (λ n. layer_at n (layers_of document) ≡ Some layer) there (from (suc j) layer h)) once.1)

    items_once : (t : Tree) → HasKeysOnce t → HaveKeysOnce (items_or_none t)
    items_once (list ts) once = once
    items_once null once = tt
    items_once (boolean b) once = tt
    items_once (number n) once = tt
    items_once (text s) once = tt
    items_once (object fs) once = tt

    items_are : (t : Tree) → items_or_none t ≡ trees_in (Some t)
    items_are null = refl
    items_are (boolean b) = refl
    items_are (number n) = refl
    items_are (text s) = refl
    items_are (list ts) = refl
    items_are (object fs) = refl

    root_below_are : (key : List ℕ) (t : Tree) → member key document ≡ Some t → HasKeysOnce t → NotesAre P (root_member_below document key (Key key ∷ []) t)
    root_below_are key t is once =
        if_are P (is_layers key) _ _
        (λ layers.
        let key_is : key ≡ codes "layers" = (bytes_eq-Decides key (codes "layers")).0 layers in
        let all : items_or_none t ≡ layers_of document = items_are t ∙ ap trees_in (sym is ∙ ap (λ k. member k document) key_is) in
        subst (λ k. NotesAre P (layers_reports (sources_of document) (used_in (layers_of document)) (Key k ∷ []) 0 (items_or_none t))) (sym key_is)
        (layers_are (items_or_none t) 0 (λ j layer h.
        let here : j ≡ 0 + j = omega arith in
        subst (λ n. layer_at n (layers_of document) ≡ Some layer) here (ap (layer_at j) (sym all) ∙ h)) (items_once t once)))
        (λ other.
        if_are P (bytes_eq key (codes "sources") || bytes_eq key (codes "state")) _ _
        (λ named. fields_are P (named_reports key (Key key ∷ [])) (fields_or_none t) (λ name u is. named_keep P key u ((Key key ∷ []) ++ Key name ∷ []) [] (none_are P)))
        (λ none. none_are P))

    root_are : (key : List ℕ) (t : Tree) → member key document ≡ Some t → HasKeysOnce t → NotesAre P (root_member_reports document key t)
    root_are key t is once = root_keep P key t (Key key ∷ []) (root_member_below document key (Key key ∷ []) t) (root_below_are key t is once)

  levels_are : (fs : Fields) → HasKeysOnce (object fs) → NotesAre (IsNoted (object fs)) (document_reports (object fs))
  levels_are fs once =
      rules_keep (IsNoted (object fs)) ((1, Rules.is_document (object fs)) ∷ (2, Rules.has_root_members (object fs)) ∷ []) []
      (fields_reports (root_member_reports (object fs)) fs)
      (fields_are (IsNoted (object fs)) (root_member_reports (object fs)) fs
      (λ key t is. root_are (object fs) key t (field_found fs key t once.0 is) (member_once fs key t once.1 is)))

  pub noted : WalksByLevels → (document : Tree) → HasKeysOnce document → (p : List PathPart) → Contains (notes document) p → IsNoted document p
  noted levels (object fs) once p is =
      let same = levels (members_of fs) once.0 in
      let walked : reports (object fs) ≡ document_reports (object fs) =
      subst (λ gs. reports (object gs) ≡ document_reports (object gs)) (members_back fs) same in
      levels_are fs once p (subst (λ (r : Reports). IsIn p (notes_in r)) walked (in_from p (notes (object fs)) is))
  noted levels null once p is = absurd (in_from p [] is)
  noted levels (boolean b) once p is = absurd (in_from p [] is)
  noted levels (number n) once p is = absurd (in_from p [] is)
  noted levels (text s) once p is = absurd (in_from p [] is)
  noted levels (list ts) once p is = absurd (in_from p [] is)
