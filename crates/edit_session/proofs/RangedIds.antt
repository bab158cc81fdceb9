-- A layer of which nothing is found has a text as its id.
use Rattle.std.proofs.Common.{◌≡◌, ℕ, ◌<◌, List, [], ◌∷◌, ◌++◌, length, get_or, refl, arith, Bool, true, Option, Some, None, is_some, zero, suc}
use Rattle.std.specs.Option.{option_and_then}
use Rattle.std.specs.Prelude.{codes}
use Rattle.decimal_json.specs.Accessors.{is_text, text_in}
use Rattle.decimal_json.specs.Tree.{Tree, null, boolean, number, text, list, object, Fields, field_at}
use Rattle.decimal_json.specs.declared.paths.PathPart.{PathPart}
use Rattle.decimal_json.specs.declared.paths.PathPart.TheVariants.{Key}
use Rattle.style_parts.specs.Parts.{sources_of}
use Rattle.style_edits.specs.Layers.{layer_list}
use Rattle.style_rules.specs.Findings.{findings}
use Rattle.style_rules.specs.LayerContext.{context_of}
use Rattle.style_rules.specs.Levels.{HasDistinctMembers, fields_reports, layer_reports, member_reports}
use Rattle.style_rules.specs.Rules.{is_id, is_new_id}
use Rattle.style_rules.proofs.QuietLaws.{IsQuiet, rules_hold}
use Rattle.edit_findings.proofs.DocumentLaws.{of_layers}
use Rattle.edit_findings.proofs.LayerLaws.{member_found}
use Rattle.edit_findings.proofs.MarkLaws.{rules_at, none_used}
use Rattle.edit_findings.proofs.OrderLaws.{IsSoundAlone, sound_layers}
use Rattle.edit_findings.specs.FoundAfter.{Each, id_of}

abbrev HasId : Tree → Type 0
HasId layer = is_some (id_of layer) ≡ true

text_there : (t : Tree) → is_text t ≡ true → is_some (text_in t) ≡ true
text_there (text s) h = refl
text_there null h = absurd (cc)
text_there (boolean b) h = absurd (cc)
text_there (number n) h = absurd (cc)
text_there (list ts) h = absurd (cc)
text_there (object fs) h = absurd (cc)

module _ (sources : Option Fields) (used : List ℕ → Bool) (path : List PathPart) where
  members_id : (fs : Fields) → IsQuiet (layer_reports sources used path (object fs)) → HasId (object fs)
  members_id fs h =
      let held = rules_hold (rules_at (context_of sources (object fs)) (object fs)) path
      (fields_reports (member_reports (context_of sources (object fs)) used path) fs) h in
      by (field_at (codes "id") fs) refl held.0.1.0
    where
      by : (o : Option Tree) → field_at (codes "id") fs ≡ o → is_some o ≡ true → is_some (option_and_then text_in o) ≡ true
      by None is has = absurd (cc)
      by (Some t) is has =
          text_there t (rules_hold ((7, is_id t) ∷ (8, is_new_id used t) ∷ []) (path ++ Key (codes "id") ∷ []) [] (member_found sources used path (codes "id") t fs h is)).0.0

  layer_id : (layer : Tree) → IsQuiet (layer_reports sources used path layer) → HasId layer
  layer_id (object fs) h = members_id fs h
  layer_id null h = absurd (cc)
  layer_id (boolean b) h = absurd (cc)
  layer_id (number n) h = absurd (cc)
  layer_id (text s) h = absurd (cc)
  layer_id (list ts) h = absurd (cc)

each_id : (sources : Option Fields) (ts : List Tree) (i : ℕ) → i < length ts → Each (IsSoundAlone sources) ts → HasId (get_or ts i null)
each_id sources [] i within sound = absurd (omega (arith, within))
each_id sources (t ∷ ts) zero within sound = layer_id sources none_used [] t sound.0
each_id sources (t ∷ ts) (suc i) within sound = each_id sources ts i (omega (arith, within)) sound.1

pub layer_has_id : (d : Tree) → HasDistinctMembers d → findings d ≡ [] → (i : ℕ) → i < length (layer_list d) → HasId (get_or (layer_list d) i null)
layer_has_id d distinct none i within =
    let ts = layer_list d in
    each_id (sources_of d) ts i within (sound_layers (sources_of d) ts (of_layers d distinct none).0.found).0
