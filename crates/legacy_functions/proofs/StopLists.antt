-- Stops, one after another.
use Rattle.std.proofs.Common.{◌≡◌, ◌<◌, ◌≤◌, List, [], ◌∷◌, ◌++◌, length, arith, refl, ap, append_assoc, true, false}
use Rattle.std.specs.Prelude.{Option, Some, None, Bool, ◌||◌, if◌then◌else◌}
use Rattle.decimal_json.specs.Tree.{list}
use Rattle.decimal_json.specs.View.{fields, trees}
use Rattle.decimal_json.specs.declared.tree.Json.{Json}
use Rattle.decimal_json.specs.declared.tree.Member.{Member}
use Rattle.property_tables.specs.Rows.{RowData}
use Rattle.legacy_functions.specs.Function.{Way, Function}
use Rattle.legacy_functions.specs.Form.{and_first, has_two_fields, stop_form, each_stop, stops_form}

-- what was found so far, and then what is to come
abbrev pub after_found : {A : Type 0} → List A → Option (List A) → Option (List A)
after_found xs (Some later) = Some (xs ++ later)
after_found xs None = None

pub after_first : {A : Type 0} (xs : List A) (x : A) (later : Option (List A)) → after_found (xs ++ x ∷ []) later ≡ after_found xs (and_first (Some x) later)
after_first xs x (Some later) = ap Some (append_assoc xs (x ∷ []) later)
after_first xs x None = refl

-- members that are not two
pub two_members : (ms : List Member) → length ms ≡ 2 → true ≡ has_two_fields (fields ms)
two_members [] h = absurd (omega (arith, h))
two_members (m ∷ []) h = absurd (omega (arith, h))
two_members (m ∷ n ∷ []) h = refl
two_members (m ∷ n ∷ o ∷ ms) h = absurd (omega (arith, h))

pub few_members : (ms : List Member) → length ms < 2 → false ≡ has_two_fields (fields ms)
few_members [] h = refl
few_members (m ∷ []) h = refl
few_members (m ∷ n ∷ ms) h = absurd (omega arith)

pub many_members : (ms : List Member) → 3 ≤ length ms → false ≡ has_two_fields (fields ms)
many_members [] h = absurd (omega arith)
many_members (m ∷ []) h = absurd (omega arith)
many_members (m ∷ n ∷ []) h = absurd (omega arith)
many_members (m ∷ n ∷ o ∷ ms) h = refl

-- elements of a stop that are not two
pub few_elements : (row : RowData) (any : Bool) (js : List Json) → length js < 2 → None ≡ stop_form row any (list (trees js))
few_elements row any [] h = refl
few_elements row any (i ∷ []) h = refl
few_elements row any (i ∷ j ∷ js) h = absurd (omega arith)

pub many_elements : (row : RowData) (any : Bool) (js : List Json) → 3 ≤ length js → None ≡ stop_form row any (list (trees js))
many_elements row any [] h = absurd (omega arith)
many_elements row any (i ∷ []) h = absurd (omega arith)
many_elements row any (i ∷ j ∷ []) h = absurd (omega arith)
many_elements row any (i ∷ j ∷ k ∷ js) h = refl

-- stops, at least one
pub some_stops : (row : RowData) (any : Bool) (js : List Json) → 1 ≤ length js → stops_form row any (list (trees js)) ≡ each_stop row any (trees js)
some_stops row any [] h = absurd (omega arith)
some_stops row any (j ∷ js) h = refl

pub ruleset member_counts = (two_members, few_members, many_members)

pub ruleset element_counts = (few_elements, many_elements)

-- a way that is outside leaves no function
pub outside_none : (space outside : Bool) (way : Way) (f : Function) → None ≡ (if outside then None else Some way) → None ≡ (if space || outside then None else Some f)
outside_none true outside way f h = refl
outside_none false true way f h = refl
outside_none false false way f h = absurd (cc)
