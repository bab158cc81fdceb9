-- What holds of each function that was read and is not outside.
use Rattle.std.proofs.Common.{◌≡◌, pos, refl, subst, true, false}
use Rattle.std.specs.Prelude.{Bool, not, ◌&&◌, ◌||◌, codes, int_lt, Option, Some, None, is_some, is_none, option_map, if◌then◌else◌}
use Rattle.std.specs.Ordering.{int_eq}
use Rattle.decimal_json.specs.Accessors.{text_in}
use Rattle.decimal_json.specs.Tree as json
use Rattle.decimal_json.specs.Tree.{Tree, Fields, field_at}
use Rattle.property_tables.specs.Rows.{RowData}
use Rattle.legacy_functions.specs.declared.function.FunctionType.{FunctionType}
use Rattle.legacy_functions.specs.declared.function.FunctionType.TheVariants.{Exponential, Interval, Categorical, Identity}
use Rattle.legacy_functions.specs.Function.{Spelled, even, curved, Body, identity, Function}
use Rattle.legacy_functions.specs.Form.{member_form, kind_named, kind_allowed, if_allowed, kind_form, number_form, output_form, stops_form, FunctionMembers, has_known_members, members_form, base_way, way_by, is_categories, stops_body, kind_body, is_zoomed, is_outside_base, is_outside_way, inside, function_form, form}
use Rattle.legacy_functions.proofs.SoundRules.{OfSome, IsSpelled, IsOutputOf, IsWayOf, IsBodyOf, of_then, of_map, of_where, of_any, number_is, output_is, AreSomePlaced, stops_are, body_is}

pub record IsFunctionOf (row : RowData) (f : Function) : Type 0 where
  pub fallback : OfSome (IsOutputOf row) f.fallback
  pub body : IsBodyOf row f.body

module _ (row : RowData) where
  -- ---- members

  record AreMembers (ms : FunctionMembers) : Type 0 where
    kind : kind_allowed row ms.kind ≡ true
    base : OfSome IsSpelled ms.base
    fallback : OfSome (IsOutputOf row) ms.fallback

  member_is : {A : Type 0} (P : A → Type 0) (form : Tree → Option A) (o : Option Tree) → ((t : Tree) → OfSome P (form t))
      → OfSome (OfSome P) (member_form form o)
  member_is P form (Some t) h = of_map P (OfSome P) Some (form t) (h t) (λ a k. k)
  member_is P form None h = tt

  if_allowed_is : (o : Option FunctionType) → OfSome (λ k. kind_allowed row k ≡ true) (if_allowed row o)
  if_allowed_is (Some kind) = of_where (λ k. kind_allowed row k ≡ true) (kind_allowed row kind) (Some kind) (λ h. h)
  if_allowed_is None = tt

  own_kind : (b : Bool) → row.reads.ramps ≡ b → kind_allowed row (if b then Exponential else Interval) ≡ true
  own_kind true h = h
  own_kind false h = refl

  kind_is : (o : Option Tree) → OfSome (λ k. kind_allowed row k ≡ true) (kind_form row o)
  kind_is (Some json.null) = tt
  kind_is (Some (json.boolean b)) = tt
  kind_is (Some (json.number n)) = tt
  kind_is (Some (json.text name)) = if_allowed_is (kind_named name)
  kind_is (Some (json.list ts)) = tt
  kind_is (Some (json.object fs)) = tt
  kind_is None = own_kind row.reads.ramps refl

  members_are : (fs : Fields) → OfSome AreMembers (members_form row fs)
  members_are fs =
      of_where AreMembers (has_known_members fs) _ (λ known.
      of_then (λ k. kind_allowed row k ≡ true) AreMembers (kind_form row (field_at (codes "type") fs)) _
      (kind_is (field_at (codes "type") fs)) (λ kind k.
      of_then (OfSome IsSpelled) AreMembers (member_form number_form (field_at (codes "base") fs)) _
      (member_is IsSpelled number_form (field_at (codes "base") fs) number_is) (λ base b.
      of_then (λ p. Unit {0}) AreMembers (member_form text_in (field_at (codes "property") fs)) _
      (of_any (member_form text_in (field_at (codes "property") fs))) (λ property p.
      of_then (OfSome (IsOutputOf row)) AreMembers (member_form (output_form row) (field_at (codes "default") fs)) _
      (member_is (IsOutputOf row) (output_form row) (field_at (codes "default") fs) (output_is row)) (λ fallback o.
      record { kind = k; base = b; fallback = o })))))

  -- ---- the way of a function that is inside

  above_0 : (b z : Bool) → (not b || z) ≡ false → b ≡ true
  above_0 true z h = refl
  above_0 false z h = absurd (cc)

  even_or_curved : (b : Bool) (base : Spelled) (z : Bool) → row.reads.ramps ≡ true → IsSpelled base
      → is_outside_base (if b then even else curved base) z ≡ false → IsWayOf row (if b then even else curved base)
  even_or_curved true base z ramps s h = ramps
  even_or_curved false base z ramps s h = (ramps, (s, above_0 (int_lt (pos 0) base.value) z h))

  base_is : (base : Option Spelled) (z : Bool) → row.reads.ramps ≡ true → OfSome IsSpelled base
      → is_outside_base (base_way base) z ≡ false → IsWayOf row (base_way base)
  base_is (Some base) z ramps s h = even_or_curved (int_eq base.value (pos 1000000)) base z ramps s h
  base_is None z ramps s h = ramps

  way_is : (kind : FunctionType) (base : Option Spelled) (z : Bool) → kind_allowed row kind ≡ true → OfSome IsSpelled base
      → is_outside_way (way_by kind base) z ≡ false → OfSome (IsWayOf row) (way_by kind base)
  way_is Exponential base z ramps s h = base_is base z ramps s h
  way_is Interval base z ramps s h = tt
  way_is Categorical base z ramps s h = tt
  way_is Identity base z ramps s h = tt

  stops_body_is : (ms : FunctionMembers) → OfSome (IsWayOf row) (way_by ms.kind ms.base)
      → OfSome (IsBodyOf row) (stops_body row ms)
  stops_body_is ms w =
      let any = is_categories ms.kind in
      of_then (λ t. Unit {0}) (IsBodyOf row) ms.stops _ (of_any ms.stops) (λ t u.
      of_then (AreSomePlaced row) (IsBodyOf row) (stops_form row any t) _ (stops_are row any t)
      (λ placed h. body_is row (way_by ms.kind ms.base) (is_some ms.property) placed w h))

  kind_body_is : (kind : FunctionType) (ms : FunctionMembers) → OfSome (IsWayOf row) (way_by ms.kind ms.base)
      → OfSome (IsBodyOf row) (kind_body kind row ms)
  kind_body_is Exponential ms w = stops_body_is ms w
  kind_body_is Interval ms w = stops_body_is ms w
  kind_body_is Categorical ms w =
      of_where (IsBodyOf row) (is_some ms.property) (stops_body row ms) (λ h. stops_body_is ms w)
  kind_body_is Identity ms w =
      of_where (IsBodyOf row) (is_some ms.property && is_none ms.stops) (Some identity) (λ h. tt)

  -- ---- functions

  abbrev IsInsideOf : Option Function → Type 0
  IsInsideOf found = OfSome (IsFunctionOf row) found

  none_outside : (space outside : Bool) (f : Function) → (outside ≡ false → IsFunctionOf row f)
      → IsInsideOf (if space || outside then None else Some f)
  none_outside true outside f h = tt
  none_outside false true f h = tt
  none_outside false false f h = h refl

  inside_is : (ms : FunctionMembers) (body : Body) → AreMembers ms → kind_body ms.kind row ms ≡ Some body
      → IsInsideOf (inside ms body)
  inside_is ms body h is =
      let f : Function = record { property = ms.property; fallback = ms.fallback; body = body } in
      none_outside ms.has_space (is_outside_way (way_by ms.kind ms.base) (is_zoomed body)) f (λ within.
      let w = way_is ms.kind ms.base (is_zoomed body) h.kind h.base within in
      record {
        fallback = h.fallback;
        body = subst (OfSome (IsBodyOf row)) is (kind_body_is ms.kind ms w);
      })

  mapped_is : (ms : FunctionMembers) (found : Option Body) → AreMembers ms → kind_body ms.kind row ms ≡ found
      → OfSome IsInsideOf (option_map (inside ms) found)
  mapped_is ms (Some body) h is = inside_is ms body h is
  mapped_is ms None h is = tt

  function_is : (fs : Fields) → OfSome IsInsideOf (function_form row fs)
  function_is fs =
      of_then AreMembers IsInsideOf (members_form row fs) (λ ms. option_map (inside ms) (kind_body ms.kind row ms))
      (members_are fs) (λ ms h. mapped_is ms (kind_body ms.kind row ms) h refl)

  form_is : (t : Tree) → OfSome IsInsideOf (form row t)
  form_is json.null = tt
  form_is (json.boolean b) = tt
  form_is (json.number n) = tt
  form_is (json.text s) = tt
  form_is (json.list ts) = tt
  form_is (json.object fs) = function_is fs

  pub read_is_sound : (t : Tree) (f : Function) → form row t ≡ Some (Some f) → IsFunctionOf row f
  read_is_sound t f is = subst (OfSome IsInsideOf) is (form_is t)
