-- Nothing is found of a document with the ranges that are to be set of its layers, where nothing was found of it.
use Rattle.std.proofs.Common.{◌≡◌, ◌∙◌, ℕ, zero, suc, ◌+◌, ℤ, List, [], ◌∷◌, refl, ap, Bool, false, Option, Some, None}
use Rattle.std.specs.Prelude.{codes, nat_le, ◌||◌}
use Rattle.std.specs.Option.{option_and_then}
use Rattle.std.specs.Str.{bytes_eq}
use Rattle.fixed_num.specs.NumberText.{number_text}
use Rattle.decimal_json.specs.Accessors.{member, text_in}
use Rattle.decimal_json.specs.Tree.{Tree, number, trees_of, Fields}
use Rattle.pending_ranges.specs.Pending.{AreZoomRanges, IsZoomRange, Pending, ZoomRange}
use Rattle.style_edits.specs.Layer.{with_limit, without_limits, with_range}
use Rattle.style_edits.specs.Layers.{layer_list}
use Rattle.style_edits.specs.Objects.{object_without}
use Rattle.style_parts.specs.Parts.{equals_id, is_id_of, sources_of}
use Rattle.style_rules.specs.Findings.{findings, findings_in}
use Rattle.style_rules.specs.Levels.{layer_reports, layers_reports, HasDistinctMembers}
use Rattle.style_rules.specs.Places.{used_in}
use Rattle.style_rules.proofs.QuietLaws.{IsQuiet, both_quiet, quiet_parts}
use Rattle.edit_findings.specs.FoundAfter.{if_few, layer_path, layers_path, most_layers}
use Rattle.edit_findings.proofs.DocumentLaws.{of_layers}
use Rattle.edit_findings.proofs.OrderLaws.{of_list}
use Rattle.edit_findings.proofs.OtherMembers.{object_with_other, object_without_other}
use Rattle.edit_findings.proofs.RangeLaws.{range_quiet}
use Rattle.edit_session.specs.Ranges.{ranged_document, ranged_layer, ranged_layers}
use Rattle.edit_session.proofs.RangedLists.{ranged_length}

-- ---- a layer keeps its id

abbrev id_key : List ℕ
id_key = codes "id"

limit_other : (key : List ℕ) → bytes_eq key id_key ≡ false → (limit : Option ℤ) (t : Tree) → member id_key (with_limit key limit t) ≡ member id_key t
limit_other key apart (Some zoom) t = object_with_other key id_key apart (number (number_text zoom)) t
limit_other key apart None t = refl

range_id : (min max : Option ℤ) (t : Tree) → member id_key (with_range min max t) ≡ member id_key t
range_id min max t =
    limit_other (codes "maxzoom") refl max (with_limit (codes "minzoom") min (without_limits t))
    ∙ (limit_other (codes "minzoom") refl min (without_limits t)
    ∙ (object_without_other (codes "maxzoom") id_key refl (object_without (codes "minzoom") t)
    ∙ object_without_other (codes "minzoom") id_key refl t))

pub ranged_id : (r : Option ZoomRange) (t : Tree) (id : List ℕ) → is_id_of id (ranged_layer r t) ≡ is_id_of id t
ranged_id (Some r) t id = ap (λ o. equals_id id (option_and_then text_in o)) (range_id r.0 r.1 t)
ranged_id None t id = refl

pub ranged_text_id : (r : Option ZoomRange) (t : Tree) → member id_key (ranged_layer r t) ≡ member id_key t
ranged_text_id (Some r) t = range_id r.0 r.1 t
ranged_text_id None t = refl

-- ---- what is found of the layers

used_same : (rs : Pending) (ts : List Tree) (n : ℕ) (id : List ℕ) → used_in (trees_of (ranged_layers rs ts)) n id ≡ used_in (trees_of ts) n id
used_same [] ts n id = refl
used_same (r ∷ rs) [] n id = refl
used_same (r ∷ rs) (t ∷ ts) zero id = refl
used_same (r ∷ rs) (t ∷ ts) (suc n) id = λ i. ranged_id r t id i || used_same rs ts n id i

module _ (sources : Option Fields) where
  layer_quiet : (used : List ℕ → Bool) (i : ℕ) (r : Option ZoomRange) (t : Tree) → IsZoomRange r → IsQuiet (layer_reports sources used (layer_path i) t)
      → IsQuiet (layer_reports sources used (layer_path i) (ranged_layer r t))
  layer_quiet used i (Some r) t fits h = range_quiet sources used (layer_path i) r.0 r.1 fits.0 fits.1 t h
  layer_quiet used i None t fits h = h

  layers_quiet : (used : ℕ → List ℕ → Bool) (i : ℕ) (rs : Pending) (ts : List Tree) → AreZoomRanges rs
      → IsQuiet (layers_reports sources used layers_path i (trees_of ts)) → IsQuiet (layers_reports sources used layers_path i (trees_of (ranged_layers rs ts)))
  layers_quiet used i [] ts fit h = h
  layers_quiet used i (r ∷ rs) [] fit h = h
  layers_quiet used i (r ∷ rs) (t ∷ ts) fit h =
      let later = layers_reports sources used layers_path (i + 1) (trees_of ts) in
      let parts = quiet_parts (layer_reports sources (used i) (layer_path i) t) later h in
      both_quiet (layer_reports sources (used i) (layer_path i) (ranged_layer r t))
      (layers_reports sources used layers_path (i + 1) (trees_of (ranged_layers rs ts)))
      (layer_quiet (used i) i r t (fit 0) parts.0) (layers_quiet used (i + 1) rs ts (λ place. fit (suc place)) parts.1)

  none_listed : (rs : Pending) (ts : List Tree) → AreZoomRanges rs → of_list sources ts ≡ [] → of_list sources (ranged_layers rs ts) ≡ []
  none_listed rs ts fit h =
      (λ i. findings_in (layers_reports sources (λ n id. used_same rs ts n id i) layers_path 0 (trees_of (ranged_layers rs ts))))
      ∙ layers_quiet (used_in (trees_of ts)) 0 rs ts fit h

pub ranged_findings : (rs : Pending) (d : Tree) → AreZoomRanges rs → HasDistinctMembers d → findings d ≡ [] → findings (ranged_document rs d) ≡ []
ranged_findings rs d fit distinct none =
    let layers = of_layers d distinct none in
    let ts = layer_list d in
    layers.1 (ranged_layers rs)
    ∙ (λ i. if_few ((ap (λ n. nat_le n most_layers) (ranged_length rs ts) ∙ layers.0.few) i)
    (none_listed (sources_of d) rs ts fit layers.0.found i))
