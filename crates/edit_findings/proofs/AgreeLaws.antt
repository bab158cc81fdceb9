-- What is reported of a layer depends on the ids before it by its own id alone.
use Rattle.std.proofs.Common.{◌≡◌, ◌∙◌, ℕ, zero, suc, List, [], ◌∷◌, ◌++◌, refl, ap, sym, subst, arith, Bool, true, false, Option, Some, None}
use Rattle.std.proofs.lemmas.Slice.Eq.{bytes_eq-Decides}
use Rattle.std.specs.Option.{option_and_then}
use Rattle.std.specs.Prelude.{nat_lt, not, ◌||◌, option_map, if◌then◌else◌}
use Rattle.std.specs.Str.{bytes_eq}
use Rattle.decimal_json.specs.Accessors.{text_in}
use Rattle.decimal_json.specs.Sound.{LacksKey, HasDistinctKeys}
use Rattle.decimal_json.specs.Tree.{Tree, null, boolean, number, text, list, object, trees_of, Fields, fields_of, field_at, members_of}
use Rattle.decimal_json.specs.declared.paths.PathPart.{PathPart}
use Rattle.decimal_json.specs.declared.paths.PathPart.TheVariants.{Key}
use Rattle.style_edits.specs.Places.{layer_place}
use Rattle.style_edits.proofs.ObjectLaws.{fields_members}
use Rattle.style_edits.proofs.PlaceLaws.{place, place_is}
use Rattle.style_parts.specs.Parts.{is_id_of}
use Rattle.style_rules.specs.Findings.{reports_or}
use Rattle.style_rules.specs.LayerContext.{LayerContext, context_of}
use Rattle.style_rules.specs.Levels.{fields_reports, member_reports, layer_reports, HasDistinctMembers}
use Rattle.style_rules.specs.Places.{least_broken, layer_mark, used_in}
use Rattle.style_rules.specs.Rules.{is_id, is_new_id, is_unused}
use Rattle.style_rules.proofs.PartLaws.{differs}
use Rattle.style_rules.proofs.QuietLaws.{Reports}
use Rattle.edit_findings.proofs.FieldLaws.{Members}
use Rattle.edit_findings.specs.FoundAfter.{id_key, id_of}

module _ (used other : List ℕ → Bool) where
  unused_same : (o : Option (List ℕ)) → ((s : List ℕ) → o ≡ Some s → used s ≡ other s) → is_unused used o ≡ is_unused other o
  unused_same None agree = refl
  unused_same (Some s) agree = ap not (agree s refl)

  module _ (context : LayerContext) (path : List PathPart) where
    abbrev by_used : (List ℕ → Bool) → Members → Reports
    by_used ids ms = fields_reports (member_reports context ids path) (fields_of ms)

    other_same : (m : List ℕ) (t : Tree) → bytes_eq m id_key ≡ false → member_reports context used path m t ≡ member_reports context other path m t
    other_same m t apart = rw apart refl

    id_same : (t : Tree) → is_new_id used t ≡ is_new_id other t → member_reports context used path id_key t ≡ member_reports context other path id_key t
    id_same t same = λ i. reports_or (least_broken ((7, is_id t) ∷ (8, same i) ∷ [])) (path ++ Key id_key ∷ []) []

    without_id : (ms : Members) → LacksKey id_key ms → by_used used ms ≡ by_used other ms
    without_id [] lacks = refl
    without_id (m ∷ ms) lacks = λ i. other_same m.0 m.1 (differs m.0 id_key lacks.0) i ++ without_id ms lacks.1 i

    abbrev AgreeAt : Option Tree → Type 0
    AgreeAt o = (t : Tree) → o ≡ Some t → is_new_id used t ≡ is_new_id other t

    members_agree : (ms : Members) → HasDistinctKeys ms → AgreeAt (field_at id_key (fields_of ms)) → by_used used ms ≡ by_used other ms
    members_agree [] distinct agree = refl
    members_agree (m ∷ ms) distinct agree = by (members_agree ms distinct.1) (bytes_eq m.0 id_key) refl agree
      where
        by : (AgreeAt (field_at id_key (fields_of ms)) → by_used used ms ≡ by_used other ms) → (b : Bool) → bytes_eq m.0 id_key ≡ b →
            AgreeAt (if b then Some m.1 else field_at id_key (fields_of ms)) → by_used used (m ∷ ms) ≡ by_used other (m ∷ ms)
        by later true is agree =
            let key : m.0 ≡ id_key = (bytes_eq-Decides m.0 id_key).0 is in
            let first = subst (λ k. member_reports context used path k m.1 ≡ member_reports context other path k m.1) (sym key) (id_same m.1 (agree m.1 refl)) in
            λ i. first i ++ without_id ms (subst (λ k. LacksKey k ms) key distinct.0) i
        by later false apart agree = λ i. other_same m.0 m.1 apart i ++ later agree i

  pub layer_agrees : (sources : Option Fields) (path : List PathPart) (layer : Tree) → HasDistinctMembers layer →
      ((s : List ℕ) → id_of layer ≡ Some s → used s ≡ other s) → layer_reports sources used path layer ≡ layer_reports sources other path layer
  layer_agrees sources path (object fs) distinct agree =
      let context = context_of sources (object fs) in
      let back = fields_members fs in
      let below = λ (ids : List ℕ → Bool) (gs : Fields). reports_or (layer_mark context (object fs)) path (fields_reports (member_reports context ids path) gs) in
      let members = members_agree context path (members_of fs) distinct (λ t is.
      unused_same (text_in t) (λ s e. agree s (ap (option_and_then text_in) (ap (field_at id_key) (sym back) ∙ is) ∙ e))) in
      ap (below used) (sym back) ∙ (ap (λ reports. reports_or (layer_mark context (object fs)) path reports) members ∙ ap (below other) back)
  layer_agrees sources path null distinct agree = refl
  layer_agrees sources path (boolean b) distinct agree = refl
  layer_agrees sources path (number n) distinct agree = refl
  layer_agrees sources path (text s) distinct agree = refl
  layer_agrees sources path (list ts) distinct agree = refl

-- ---- an id is used before a place where the first layer that has it is

abbrev is_below : ℕ → Option ℕ → Bool
is_below k (Some i) = nat_lt i k
is_below k None = false

below_zero : (i : ℕ) → false ≡ nat_lt (suc i) 0
below_zero i = grind arith

below_one : (k : ℕ) → true ≡ nat_lt 0 (suc k)
below_one k = grind arith

below_suc : (i k : ℕ) → nat_lt i k ≡ nat_lt (suc i) (suc k)
below_suc i k = grind arith

below_first : (same : Bool) (o : Option ℕ) → false ≡ is_below 0 (if same then Some 0 else option_map suc o)
below_first true o = refl
below_first false None = refl
below_first false (Some i) = below_zero i

below_later : (same : Bool) (k : ℕ) (o : Option ℕ) → (same || is_below k o) ≡ is_below (suc k) (if same then Some 0 else option_map suc o)
below_later true k o = below_one k
below_later false k None = refl
below_later false k (Some i) = below_suc i k

used_below : (ts : List Tree) (k : ℕ) (id : List ℕ) → used_in (trees_of ts) k id ≡ is_below k (place id ts)
used_below [] k id = refl
used_below (t ∷ ts) zero id = below_first (is_id_of id t) (place id ts)
used_below (t ∷ ts) (suc k) id = ap (λ b. is_id_of id t || b) (used_below ts k id) ∙ below_later (is_id_of id t) k (place id ts)

pub used_by_place : (ts : List Tree) (k : ℕ) (id : List ℕ) (o : Option ℕ) → o ≡ layer_place ts id → is_below k o ≡ used_in (trees_of ts) k id
used_by_place ts k id o is = ap (is_below k) (is ∙ place_is ts id) ∙ sym (used_below ts k id)

pub used_first : (ts : List Tree) (k : ℕ) (id : List ℕ) (i : ℕ) → Some i ≡ layer_place ts id → nat_lt i k ≡ used_in (trees_of ts) k id
used_first ts k id i is = used_by_place ts k id (Some i) is

pub used_never : (ts : List Tree) (k : ℕ) (id : List ℕ) → None ≡ layer_place ts id → false ≡ used_in (trees_of ts) k id
used_never ts k id is = used_by_place ts k id None is
