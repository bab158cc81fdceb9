-- A fault that a value gives is listed of the value, and a value that is outside has a note.
use Rattle.std.proofs.Common.{◌≡◌, ◌∙◌, ℕ, ℤ, zero, List, [], ◌∷◌, refl, ap, sym, subst, arith, Bool, true, false, Option, Some, None, Ok, Err}
use Rattle.std.proofs.lemmas.Bool.{and_parts}
use Rattle.std.proofs.lemmas.List.Folds.{list_any_at}
use Rattle.std.specs.Prelude.{Contains, not, ◌||◌, is_none, is_some, if◌then◌else◌}
use Rattle.decimal_json.specs.Tree.{Tree, null, boolean, number, text, list, object}
use Rattle.decimal_json.specs.declared.paths.PathPart.{PathPart}
use Rattle.prop_values.specs.Data.{Data}
use Rattle.prop_values.specs.Data as values_of
use Rattle.prop_values.specs.Faults.{holds, no_faults}
use Rattle.prop_values.specs.declared.fault.EvalFault.{EvalFault}
use Rattle.prop_values.specs.declared.fault.EvalFault.TheVariants.{WrongType, NotColor, NotNumberText, IndexOutside, IndexNotWhole, DivideByZero, Overflow, ColorRange, NotOrdered, NotInEnum}
use Rattle.prop_values.specs.declared.fault.FaultSet.{FaultSet}
use Rattle.prop_values.specs.declared.kinds.Kind.TheVariants as kinds
use Rattle.prop_values.specs.declared.kinds.Want.{Want}
use Rattle.prop_values.specs.declared.kinds.Want.TheVariants as wants
use Rattle.prop_values.specs.declared.outcome.Outcome.{Outcome}
use Rattle.prop_values.specs.declared.outcome.Outcome.TheVariants.{Faulted, Outside}
use Rattle.prop_values.specs.declared.value.Value.{Value}
use Rattle.property_tables.specs.Fitting.{fit}
use Rattle.property_tables.specs.Literals.{literal_of}
use Rattle.property_tables.specs.Rows.{RowData}
use Rattle.tile_reader.specs.declared.tile.Feature.{Feature}
use Rattle.expr_syntax.specs.ReadTerms.{IsRead, ReadTermsAreSound}
use Rattle.expr_syntax.specs.Reading.{Reading, reading, reading_with}
use Rattle.expr_syntax.specs.Term.{Term}
use Rattle.expr_types.specs.Allowed.{allowed_by, first_unread, stray_zoom_by}
use Rattle.expr_types.specs.Checked.{unless_at, allowed, checked}
use Rattle.expr_types.specs.Typing.{TypedNodes, Typed, typed, kinded}
use Rattle.expr_types.specs.Visits.{Visit, visits}
use Rattle.expr_types.specs.declared.fault.TypeCode.{TypeCode}
use Rattle.expr_types.specs.declared.fault.TypeCode.TheVariants as codes
use Rattle.expr_types.specs.declared.standing.Standing.TheVariants.{Reached}
use Rattle.operator_values.specs.Evaluated.{Evaluated}
use Rattle.eval_face.specs.Meaning.{mean}
use Rattle.eval_face.specs.World.{World, feature_world}
use Rattle.eval_face.specs.Resolved.{resolved}
use Rattle.legacy_filters.specs.Form as filters
use Rattle.legacy_filters.specs.Split.{is_legacy}
use Rattle.legacy_functions.specs.Form as functions
use Rattle.legacy_functions.specs.Function.{Function, has_zooms}
use Rattle.legacy_functions.specs.Meaning.{value_of}
use Rattle.legacy_functions.specs.ToExpression.{function_expression}
use Rattle.legacy_functions.specs.Tokens.{has_tokens, token_text}
use Rattle.legacy_laws.specs.LegacyFunctionLaw.{IsTableRow, IsAllowedOn, ExpressionsMeanTheirFunctions, MigratedFunctionsAreTyped}
use Rattle.legacy_laws.proofs.TableRows.{is_text_want, table_rows}
use Rattle.typing_laws.specs.TypingLaws.{EveryFaultIsListed}
use Rattle.value_forms.specs.Forms.{form_of, takes_literals_alone, is_expression, is_function, is_token_text}
use Rattle.value_forms.specs.declared.forms.Form.{Form}
use Rattle.value_forms.specs.declared.forms.Form.TheVariants as forms
use Rattle.style_layout.specs.Forms.{PropertyValue, expression_value, function_value, text_value, literal_value, formed_value, outcome_by, feature_in, condition_of, legacy_of, layer_filter, is_outside}
use Rattle.style_rules.specs.Findings.{reports_or, findings_in, notes_in, may_in, with_faults, has_faults, every_fault}
use Rattle.style_rules.specs.Values.{typed_mark, read_mark, faults_reports, function_faults, function_reads, function_mark, form_mark, expression_mark, legacy_mark, filter_mark}
use Rattle.style_rules.specs.Places.{least_broken}
use Rattle.global_laws.specs.GlobalLaw.{IsReadAlike, GlobalValuesChangeNoForm}
use Rattle.style_laws.proofs.PartsOfReports.{Mark, Reports}

-- The laws of which it follows.
pub record Laws : Type 0 where
  pub sound : ReadTermsAreSound
  pub faults : EveryFaultIsListed
  pub functions_mean : ExpressionsMeanTheirFunctions
  pub functions_typed : MigratedFunctionsAreTyped
  pub globals : GlobalValuesChangeNoForm

-- ---- what was accepted is typed

accepted_at : (path : Option (List PathPart)) (code : TypeCode) (r : Typed) (found : TypedNodes) →
    unless_at path code r ≡ Ok found → r ≡ Ok found
accepted_at (Some path) code r found h = absurd (cc)
accepted_at None code r found h = h

accepted : (row : Option RowData) (vs : List Visit) (r : Typed) (found : TypedNodes) →
    allowed row vs r ≡ Ok found → r ≡ Ok found
accepted row vs (Ok f) found h =
    accepted_at (stray_zoom_by row vs) codes.ZoomPlace (Ok f) found
    (accepted_at (first_unread (allowed_by row) vs) codes.Input
    (unless_at (stray_zoom_by row vs) codes.ZoomPlace (Ok f)) found h)
accepted row vs (Err f) found h = absurd (cc)

fault_listed : Laws → (e : Term) (want : Want) (row : Option RowData) (found : TypedNodes) (world : World) (fault : EvalFault) →
    IsRead [] e → checked e want row ≡ Ok found → mean e want [] world ≡ Err fault → holds found.node.may fault ≡ true
fault_listed laws e want row found world fault read is gives =
    laws.faults e want world found fault (read, accepted row (visits e Reached []) (typed e want [] []) found is) gives

-- ---- marks, whose variants have no names outside of their crate

abbrev sound : FaultSet → Mark
sound may = typed_mark (Ok (record { node = kinded wants.Any kinds.Any may true; below = [] }))

abbrev broken : ℕ → Mark
broken rule = least_broken ((rule, false) ∷ [])

-- ---- lines

has_some : (fs : FaultSet) (fault : EvalFault) → holds fs fault ≡ true → has_faults fs ≡ true
has_some fs WrongType h = list_any_at (holds fs) every_fault 0 WrongType (omega arith) h
has_some fs NotColor h = list_any_at (holds fs) every_fault 1 WrongType (omega arith) h
has_some fs NotNumberText h = list_any_at (holds fs) every_fault 2 WrongType (omega arith) h
has_some fs IndexOutside h = list_any_at (holds fs) every_fault 3 WrongType (omega arith) h
has_some fs IndexNotWhole h = list_any_at (holds fs) every_fault 4 WrongType (omega arith) h
has_some fs DivideByZero h = list_any_at (holds fs) every_fault 5 WrongType (omega arith) h
has_some fs Overflow h = list_any_at (holds fs) every_fault 6 WrongType (omega arith) h
has_some fs ColorRange h = list_any_at (holds fs) every_fault 7 WrongType (omega arith) h
has_some fs NotOrdered h = list_any_at (holds fs) every_fault 8 WrongType (omega arith) h
has_some fs NotInEnum h = list_any_at (holds fs) every_fault 9 WrongType (omega arith) h

one_contained : {A : Type 0} (x : A) → Contains (x ∷ []) x
one_contained x = (zero, omega arith, refl)

-- a fault is in a line of a path
abbrev pub IsListedIn : List PathPart → Reports → EvalFault → Type 0
IsListedIn path reports fault = (faults : FaultSet) × Contains (may_in reports) (path, faults) × (holds faults fault ≡ true)

line_with : (path : List PathPart) (faults : FaultSet) (fault : EvalFault) → holds faults fault ≡ true →
    Contains (with_faults path faults []) (path, faults)
line_with path faults fault h =
    let line : List PathPart × FaultSet = (path, faults) in
    subst (λ b. Contains (if b then line ∷ [] else []) line) (sym (has_some faults fault h)) (one_contained line)

-- ---- outcomes

faulted : (default : Option Data) (r : Evaluated) (d : Option Value) (fault : EvalFault) → resolved default r ≡ Faulted d fault →
    r ≡ Err fault
faulted default (Ok x) d fault h = absurd (cc)
faulted default (Err other) d fault h = cc

never_outside : (default : Option Data) (r : Evaluated) → resolved default r ≡ Outside → ⊥
never_outside default (Ok x) h = absurd (cc)
never_outside default (Err fault) h = absurd (cc)

-- ---- forms

tokens_by : (a b c d : Bool) → (if a then forms.Literal else if b then forms.Expression else if c then forms.Function else if d then forms.TokenText else forms.Literal) ≡ forms.TokenText → d ≡ true
tokens_by true b c d h = absurd (cc)
tokens_by false true c d h = absurd (cc)
tokens_by false false true d h = absurd (cc)
tokens_by false false false true h = refl
tokens_by false false false false h = absurd (cc)

-- ---- a value

module _ (laws : Laws) (row : RowData) (is_row : IsTableRow row) (path : List PathPart) (below : Reports)
    (globals : List (List ℕ × Data)) (default : Option Data)
    (zoom : ℤ) (feature : Feature) (state : List (List ℕ × Data)) (images scripts : List ℕ → Bool) where
  abbrev world : World
  world = feature_world zoom feature state images scripts

  abbrev gives : PropertyValue → Outcome
  gives value = outcome_by value row default world

  tokens_of : (t : Tree) → form_of row t ≡ forms.TokenText → is_token_text row t ≡ true
  tokens_of t is = tokens_by (takes_literals_alone row) (is_expression t) (is_function t) (is_token_text row t) is

  module _ (d : Option Value) (fault : EvalFault) where
    typed_listed : (e : Term) → IsRead [] e → mean e row.want [] world ≡ Err fault → (r : Typed) → checked e row.want (Some row) ≡ r →
        findings_in (reports_or (typed_mark r) path below) ≡ [] → IsListedIn path (reports_or (typed_mark r) path below) fault
    typed_listed e read h (Ok found) is none =
        let holds_it = fault_listed laws e row.want (Some row) found world fault read is h in
        (found.node.may, line_with path found.node.may fault holds_it, holds_it)
    typed_listed e read h (Err f) is none = absurd (cc)

    expression_listed : (t : Tree) (new old : Reading) → reading_with t globals ≡ new → IsReadAlike new old →
        findings_in (reports_or (read_mark row.want (Some row) old) path below) ≡ [] →
        gives (expression_value new) ≡ Faulted d fault →
        IsListedIn path (reports_or (read_mark row.want (Some row) old) path below) fault
    expression_listed t (Ok (Some e)) (Ok (Some f)) is alike none h =
        typed_listed e (laws.sound t globals e is) (faulted default (mean e row.want [] world) d fault h)
        (checked f row.want (Some row)) (alike.checked row.want (Some row)) none
    expression_listed t (Ok None) old is alike none h = absurd (cc)
    expression_listed t (Err x) old is alike none h = absurd (cc)
    expression_listed t (Ok (Some e)) (Ok None) is alike none h = absurd alike
    expression_listed t (Ok (Some e)) (Err y) is alike none h = absurd alike

    allowed_by_reads : (f : Function) → function_reads row f ≡ true → IsAllowedOn row f
    allowed_by_reads f h =
        let both = and_parts (row.reads.zoom || not (has_zooms f)) (row.reads.feature || is_none f.property) h in
        record { zoom = λ has. one row.reads.zoom (has_zooms f) both.0 has; feature = λ has. two row.reads.feature f.property both.1 has }
      where
        one : (a b : Bool) → (a || not b) ≡ true → b ≡ true → a ≡ true
        one true b h k = refl
        one false true h k = absurd (cc)
        one false false h k = absurd (cc)

        two : (a : Bool) (p : Option (List ℕ)) → (a || is_none p) ≡ true → is_some p ≡ true → a ≡ true
        two true p h k = refl
        two false (Some x) h k = absurd (cc)
        two false None h k = absurd (cc)

    calls_typed : (t : Tree) (f : Function) (e : Term) → reading_with (function_expression row f) [] ≡ Ok (Some e) →
        mean e row.want [] world ≡ Err fault → (found : TypedNodes) → checked e row.want (Some row) ≡ Ok found →
        holds (function_faults row f) fault ≡ true
    calls_typed t f e reads fails found is =
        let same : function_faults row f ≡ found.node.may =
        ap (λ r. faults_reports (read_mark row.want (Some row) r)) reads ∙ ap (λ r. faults_reports (typed_mark r)) is in
        subst (λ may. holds may fault ≡ true) (sym same)
        (fault_listed laws e row.want (Some row) found world fault (laws.sound (function_expression row f) [] e reads) is fails)

    function_fault : (t : Tree) (f : Function) → functions.form row t ≡ Some (Some f) → function_reads row f ≡ true →
        value_of row f zoom (feature_in world) ≡ Err fault → holds (function_faults row f) fault ≡ true
    function_fault t f is reads fails =
        let (e, always, means) = laws.functions_mean row t f is_row is in
        let (found, typed_so) = laws.functions_typed row t f is_row is (allowed_by_reads f reads) e [] (always []) in
        calls_typed t f e (always []) (means zoom (feature_in world) state images scripts ∙ fails) found typed_so

    function_by : (t : Tree) (f : Function) → functions.form row t ≡ Some (Some f) → value_of row f zoom (feature_in world) ≡ Err fault →
        (b : Bool) → function_reads row f ≡ b →
        findings_in (reports_or (if b then sound (function_faults row f) else broken 17) path below) ≡ [] →
        IsListedIn path (reports_or (if b then sound (function_faults row f) else broken 17) path below) fault
    function_by t f is fails true reads none =
        let holds_it = function_fault t f is reads fails in
        (function_faults row f, line_with path (function_faults row f) fault holds_it, holds_it)
    function_by t f is fails false reads none = absurd (cc)

    function_listed : (t : Tree) (f : Option (Option Function)) → functions.form row t ≡ f →
        findings_in (reports_or (function_mark row f) path below) ≡ [] → gives (function_value row f) ≡ Faulted d fault →
        IsListedIn path (reports_or (function_mark row f) path below) fault
    function_listed t (Some (Some f)) is none h =
        function_by t f is (faulted default (value_of row f zoom (feature_in world)) d fault h) (function_reads row f) refl none
    function_listed t (Some None) is none h = absurd (cc)
    function_listed t None is none h = absurd (cc)

    -- a token text never fails
    fitted_text : (want : Want) (s : List ℕ) → is_text_want want ≡ true → resolved default (fit want (values_of.text s)) ≡ Faulted d fault → ⊥
    fitted_text wants.Shown s is h = absurd (cc)
    fitted_text wants.Image s is h = absurd (cc)
    fitted_text _ s is h = absurd (cc)

    text_sure : (t : Tree) → is_token_text row t ≡ true → gives (text_value t) ≡ Faulted d fault → ⊥
    text_sure (text s) is h =
        let takes = (and_parts row.takes_tokens (has_tokens s) is).0 in
        fitted_text row.want (token_text s (feature_in world)) ((table_rows row is_row).texts takes) h
    text_sure null is h = absurd (cc)
    text_sure (boolean b) is h = absurd (cc)
    text_sure (number n) is h = absurd (cc)
    text_sure (list ts) is h = absurd (cc)
    text_sure (object fs) is h = absurd (cc)

    literal_sure : (o : Option Data) → gives (literal_value o) ≡ Faulted d fault → ⊥
    literal_sure (Some x) h = absurd (cc)
    literal_sure None h = absurd (cc)

    pub value_listed : (t : Tree) (form : Form) → form_of row t ≡ form →
        findings_in (reports_or (form_mark form row t) path below) ≡ [] → gives (formed_value form row globals t) ≡ Faulted d fault →
        IsListedIn path (reports_or (form_mark form row t) path below) fault
    value_listed t forms.Expression is none h =
        expression_listed t (reading_with t globals) (reading t) refl (laws.globals t globals []) none h
    value_listed t forms.Function is none h = function_listed t (functions.form row t) refl none h
    value_listed t forms.TokenText is none h = absurd (text_sure t (tokens_of t is) h)
    value_listed t forms.Literal is none h = absurd (literal_sure (literal_of t row) h)

  -- ---- what is outside

  reading_noted : (want : Want) (of_row : Option RowData) (new old : Reading) → IsReadAlike new old →
      findings_in (reports_or (read_mark want of_row old) path below) ≡ [] → gives (expression_value new) ≡ Outside →
      Contains (notes_in (reports_or (read_mark want of_row old) path below)) path
  reading_noted want of_row (Ok None) (Ok None) alike none h = one_contained path
  reading_noted want of_row (Ok (Some e)) old alike none h = absurd (never_outside default (mean e row.want [] world) h)
  reading_noted want of_row (Err x) (Err y) alike none h = absurd (cc)
  reading_noted want of_row (Ok None) (Ok (Some f)) alike none h = absurd alike
  reading_noted want of_row (Ok None) (Err y) alike none h = absurd alike
  reading_noted want of_row (Err x) (Ok (Some f)) alike none h = absurd alike
  reading_noted want of_row (Err x) (Ok None) alike none h = absurd alike

  function_noted : (f : Option (Option Function)) → findings_in (reports_or (function_mark row f) path below) ≡ [] →
      gives (function_value row f) ≡ Outside → Contains (notes_in (reports_or (function_mark row f) path below)) path
  function_noted (Some (Some f)) none h = absurd (never_outside default (value_of row f zoom (feature_in world)) h)
  function_noted (Some None) none h = one_contained path
  function_noted None none h = absurd (cc)

  text_inside : (t : Tree) → is_token_text row t ≡ true → gives (text_value t) ≡ Outside → ⊥
  text_inside (text s) is h = never_outside default (fit row.want (values_of.text (token_text s (feature_in world)))) h
  text_inside null is h = absurd (cc)
  text_inside (boolean b) is h = absurd (cc)
  text_inside (number n) is h = absurd (cc)
  text_inside (list ts) is h = absurd (cc)
  text_inside (object fs) is h = absurd (cc)

  literal_inside : (o : Option Data) → findings_in (reports_or (if is_some o then sound no_faults else broken 15) path below) ≡ [] →
      gives (literal_value o) ≡ Outside → ⊥
  literal_inside (Some x) none h = absurd (cc)
  literal_inside None none h = absurd (cc)

  pub value_noted : (t : Tree) (form : Form) → form_of row t ≡ form →
      findings_in (reports_or (form_mark form row t) path below) ≡ [] → gives (formed_value form row globals t) ≡ Outside →
      Contains (notes_in (reports_or (form_mark form row t) path below)) path
  value_noted t forms.Expression is none h =
      reading_noted row.want (Some row) (reading_with t globals) (reading t) (laws.globals t globals []) none h
  value_noted t forms.Function is none h = function_noted (functions.form row t) none h
  value_noted t forms.TokenText is none h = absurd (text_inside t (tokens_of t is) h)
  value_noted t forms.Literal is none h = absurd (literal_inside (literal_of t row) none h)

-- ---- a filter

module _ (path : List PathPart) (below : Reports) (globals : List (List ℕ × Data)) where
  condition_noted : (new old : Reading) → IsReadAlike new old →
      findings_in (reports_or (read_mark wants.Boolean None old) path below) ≡ [] → is_outside (condition_of new) ≡ true →
      Contains (notes_in (reports_or (read_mark wants.Boolean None old) path below)) path
  condition_noted (Ok None) (Ok None) alike none h = one_contained path
  condition_noted (Ok (Some e)) old alike none h = absurd (cc)
  condition_noted (Err x) (Err y) alike none h = absurd (cc)
  condition_noted (Ok None) (Ok (Some f)) alike none h = absurd alike
  condition_noted (Ok None) (Err y) alike none h = absurd alike
  condition_noted (Err x) (Ok (Some f)) alike none h = absurd alike
  condition_noted (Err x) (Ok None) alike none h = absurd alike

  legacy_noted : (r : filters.FilterRead) → findings_in (reports_or (legacy_mark r) path below) ≡ [] → is_outside (legacy_of r) ≡ true →
      Contains (notes_in (reports_or (legacy_mark r) path below)) path
  legacy_noted (Ok f) none h = absurd (cc)
  legacy_noted (Err fault) none h = absurd (cc)

  filter_by : Laws → (t : Tree) (b : Bool) →
      findings_in (reports_or (if b then legacy_mark (filters.reading t) else expression_mark wants.Boolean None t) path below) ≡ [] →
      is_outside (if b then legacy_of (filters.reading t) else condition_of (reading_with t globals)) ≡ true →
      Contains (notes_in (reports_or (if b then legacy_mark (filters.reading t) else expression_mark wants.Boolean None t) path below)) path
  filter_by laws t true none h = legacy_noted (filters.reading t) none h
  filter_by laws t false none h =
      condition_noted (reading_with t globals) (reading t) (laws.globals t globals []) none h

  pub filter_noted : Laws → (t : Tree) → findings_in (reports_or (filter_mark t) path below) ≡ [] →
      is_outside (layer_filter globals (Some t)) ≡ true → Contains (notes_in (reports_or (filter_mark t) path below)) path
  filter_noted laws t none h = filter_by laws t (is_legacy t) none h
