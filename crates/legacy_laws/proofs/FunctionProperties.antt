-- A legacy function that was read without a property has one rule over numbers.
use Rattle.std.proofs.Common.{◌≡◌, List, refl, ap, sym, subst, arith, true, false, ◌⊎◌, inl, inr}
use Rattle.std.specs.Prelude.{ℕ, Bool, Option, Some, None, is_some, option_map, if◌then◌else◌}
use Rattle.decimal_json.specs.Tree as json
use Rattle.decimal_json.specs.Tree.{Tree, Fields}
use Rattle.property_tables.specs.Rows.{RowData}
use Rattle.legacy_functions.specs.Function.{Way, PropertyRule, numeric, categorical, Body, plain, zoomed, identity, Function}
use Rattle.legacy_functions.specs.Form.{some_of, without_repeated, number_stops, never_descend, rule_form, plain_form}
use Rattle.legacy_functions.specs.Form.{Stop, PlacedStop, plain_stops, body_of, stops_form, stops_body, kind_body, is_categories}
use Rattle.legacy_functions.specs.Form.{FunctionMembers, members_form, way_by, inside, function_form, form}
use Rattle.legacy_functions.proofs.SoundRules.{OfSome, of_then, of_map, of_where, of_any}

abbrev pub IsOverNumbers : Body → Type 0
IsOverNumbers (plain (numeric way stops)) = Unit {0}
IsOverNumbers (plain (categorical stops)) = ⊥
IsOverNumbers (zoomed rules) = ⊥
IsOverNumbers identity = ⊥

-- with a property each body is possible
abbrev pub GoesBy : Option (List ℕ) → Body → Type 0
GoesBy (Some name) body = Unit {0}
GoesBy None body = IsOverNumbers body

abbrev FunctionGoes : Function → Type 0
FunctionGoes f = GoesBy f.property f.body

-- a way over numbers
abbrev HasWay : Option Way → Type 0
HasWay (Some way) = Unit {0}
HasWay None = ⊥

is_way : (way : Option Way) → is_some way ≡ true → HasWay way
is_way (Some way) h = tt
is_way None h = absurd (cc)

abbrev IsNumeric : PropertyRule → Type 0
IsNumeric rule = IsOverNumbers (plain rule)

rule_goes : (way : Way) (ss : List Stop) → OfSome IsNumeric (rule_form (Some way) ss)
rule_goes way ss =
    let kept = some_of (without_repeated None (number_stops ss)) in
    of_where IsNumeric (never_descend None ss) (option_map (numeric way) kept)
    (λ p. of_map (λ xs. Unit {0}) IsNumeric (numeric way) kept (of_any kept) (λ xs u. tt))

plain_goes : (way : Way) (ss : List PlacedStop) → OfSome IsOverNumbers (plain_form (Some way) ss)
plain_goes way ss =
    let stops = plain_stops ss in
    of_map IsNumeric IsOverNumbers plain _
    (of_then (λ xs. Unit {0}) IsNumeric stops (rule_form (Some way)) (of_any stops) (λ xs u. rule_goes way xs))
    (λ rule h. h)

body_goes : (way : Option Way) (property : Option (List ℕ)) (ss : List PlacedStop) → HasWay way
    → OfSome (GoesBy property) (body_of way (is_some property) ss)
body_goes way (Some name) ss h = of_any (body_of way true ss)
body_goes (Some way) None ss h = plain_goes way ss
body_goes None None ss h = absurd h

with_property : (property : Option (List ℕ)) (found : Option Body) → is_some property ≡ true → OfSome (GoesBy property) found
with_property (Some name) found h = of_any found
with_property None found h = absurd (cc)

module _ (row : RowData) where
  stops_go : (ms : FunctionMembers) → HasWay (way_by ms.kind ms.base) → OfSome (GoesBy ms.property) (stops_body row ms)
  stops_go ms h =
      let placed = stops_form row (is_categories ms.kind) in
      of_then (λ t. Unit {0}) (GoesBy ms.property) ms.stops _ (of_any ms.stops) (λ t u.
      of_then (λ ss. Unit {0}) (GoesBy ms.property) (placed t) _ (of_any (placed t)) (λ ss v.
      body_goes (way_by ms.kind ms.base) ms.property ss h))

  abbrev read_body : FunctionMembers → Option Body
  read_body ms = kind_body ms.kind row ms

  -- without a property there are no categories, and no property that is the value itself
  no_property : (ms : FunctionMembers) → is_some ms.property ≡ false
      → (read_body ms ≡ None) ⊎ ((read_body ms ≡ stops_body row ms) × (is_some (way_by ms.kind ms.base) ≡ true))
  no_property ms h = grind (arith, h)

  members_go : (ms : FunctionMembers) (property : Option (List ℕ)) → ms.property ≡ property → OfSome (GoesBy ms.property) (read_body ms)
  members_go ms (Some name) same = with_property ms.property (read_body ms) (ap is_some same)
  members_go ms None same =
      let Goes : Option Body → Type 0 = OfSome (GoesBy ms.property) in
      let by_stops = λ (h : is_some (way_by ms.kind ms.base) ≡ true). stops_go ms (is_way (way_by ms.kind ms.base) h) in
      elim (no_property ms (ap is_some same)) [
        | inl nothing ↦ subst Goes (sym nothing) tt
        | inr stops ↦ subst Goes (sym stops.0) (by_stops stops.1)
      ]

  if_inside : (b : Bool) (f : Function) → FunctionGoes f → OfSome FunctionGoes (if b then None else Some f)
  if_inside true f h = tt
  if_inside false f h = h

  inside_goes : (ms : FunctionMembers) (body : Body) → GoesBy ms.property body → OfSome FunctionGoes (inside ms body)
  inside_goes ms body h =
      let f : Function = record { property = ms.property; fallback = ms.fallback; body = body } in
      if_inside _ f h

  function_goes : (fs : Fields) → OfSome (OfSome FunctionGoes) (function_form row fs)
  function_goes fs =
      of_then (λ ms. Unit {0}) (OfSome FunctionGoes) (members_form row fs) _ (of_any (members_form row fs)) (λ ms u.
      of_map (GoesBy ms.property) (OfSome FunctionGoes) (inside ms) (kind_body ms.kind row ms)
      (members_go ms ms.property refl) (λ body h. inside_goes ms body h))

  form_goes : (t : Tree) → OfSome (OfSome FunctionGoes) (form row t)
  form_goes json.null = tt
  form_goes (json.boolean b) = tt
  form_goes (json.number n) = tt
  form_goes (json.text s) = tt
  form_goes (json.list ts) = tt
  form_goes (json.object fs) = function_goes fs

  pub read_goes : (t : Tree) (f : Function) → form row t ≡ Some (Some f) → GoesBy f.property f.body
  read_goes t f is = subst (OfSome (OfSome FunctionGoes)) is (form_goes t)
