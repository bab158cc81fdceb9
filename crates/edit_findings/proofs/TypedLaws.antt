-- A layer of which nothing is found has a type.
use Rattle.std.proofs.Common.{◌≡◌, ℕ, List, [], ◌∷◌, ◌++◌, refl, Bool, true, false, Option, Some, None}
use Rattle.std.specs.Option.{option_and_then}
use Rattle.std.specs.Prelude.{codes, is_some, not, ◌&&◌, if◌then◌else◌}
use Rattle.decimal_json.specs.Tree.{Tree, null, boolean, number, text, list, object, Fields, field_at}
use Rattle.decimal_json.specs.declared.paths.PathPart.{PathPart}
use Rattle.decimal_json.specs.declared.paths.PathPart.TheVariants.{Key}
use Rattle.style_rules.specs.LayerContext.{context_of}
use Rattle.style_rules.specs.Levels.{fields_reports, layer_reports, member_reports}
use Rattle.style_rules.specs.Rules.{is_type}
use Rattle.style_rules.proofs.QuietLaws.{IsQuiet, rules_hold}
use Rattle.value_forms.specs.LayerTypes.{layer_type, type_in}
use Rattle.edit_findings.proofs.LayerLaws.{member_found}
use Rattle.edit_findings.proofs.MarkLaws.{rules_at, none_used}
use Rattle.edit_findings.proofs.OrderLaws.{of_list, IsSoundAlone, sound_layers}
use Rattle.edit_findings.specs.FoundAfter.{Each}

abbrev pub IsTyped : Tree → Type 0
IsTyped layer = is_some (layer_type layer) ≡ true

module _ (sources : Option Fields) (used : List ℕ → Bool) (path : List PathPart) where
  typed_members : (fs : Fields) → IsQuiet (layer_reports sources used path (object fs)) → IsTyped (object fs)
  typed_members fs h =
      let held = rules_hold (rules_at (context_of sources (object fs)) (object fs)) path
      (fields_reports (member_reports (context_of sources (object fs)) used path) fs) h in
      by (field_at (codes "type") fs) (is_some (field_at (codes "ref") fs)) refl held.0.1.1.0
    where
      by : (o : Option Tree) (ref : Bool) → field_at (codes "type") fs ≡ o → (is_some o && not ref) ≡ true →
          is_some (if ref then None else option_and_then type_in o) ≡ true
      by None ref is has = absurd (cc)
      by (Some t) true is has = absurd (cc)
      by (Some t) false is has =
          (rules_hold ((9, is_type t) ∷ []) (path ++ Key (codes "type") ∷ []) [] (member_found sources used path (codes "type") t fs h is)).0.0

  pub layer_typed : (layer : Tree) → IsQuiet (layer_reports sources used path layer) → IsTyped layer
  layer_typed (object fs) h = typed_members fs h
  layer_typed null h = absurd (cc)
  layer_typed (boolean b) h = absurd (cc)
  layer_typed (number n) h = absurd (cc)
  layer_typed (text s) h = absurd (cc)
  layer_typed (list ts) h = absurd (cc)

each_typed : (sources : Option Fields) (ts : List Tree) → Each (IsSoundAlone sources) ts → Each IsTyped ts
each_typed sources [] sound = tt
each_typed sources (t ∷ ts) sound = (layer_typed sources none_used [] t sound.0, each_typed sources ts sound.1)

pub layers_typed : (sources : Option Fields) (ts : List Tree) → of_list sources ts ≡ [] → Each IsTyped ts
layers_typed sources ts h = each_typed sources ts (sound_layers sources ts h).0
