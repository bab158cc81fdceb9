-- Nothing is found of a layer whose range of zooms was set, where nothing was found before.
use Rattle.std.proofs.Common.{◌≡◌, ◌∙◌, ℕ, ◌≤◌, ℤ, pos, negsuc, List, [], ◌∷◌, ◌++◌, refl, ap, arith, Bool, true, false, Option, Some, None}
use Rattle.std.proofs.lemmas.Bool.{leb-true}
use Rattle.std.specs.Prelude.{codes, nat_le, unsigned_abs, ◌&&◌}
use Rattle.fixed_num.specs.Number.{bound}
use Rattle.fixed_num.specs.NumberText.{number_text}
use Rattle.fixed_num.proofs.RoundTrip.{number_text_is_read}
use Rattle.decimal_json.specs.Tree.{Tree, null, boolean, number, text, list, object, Fields}
use Rattle.decimal_json.specs.declared.paths.PathPart.{PathPart}
use Rattle.decimal_json.specs.declared.paths.PathPart.TheVariants.{Key}
use Rattle.style_edits.specs.Faults.{is_zoom_or_none}
use Rattle.style_edits.specs.Layer.{with_limit, without_limits, with_range}
use Rattle.style_edits.specs.Objects.{object_without}
use Rattle.style_parts.specs.Numbers.{is_zoom, number_read}
use Rattle.style_rules.specs.Findings.{findings_in, reports_or}
use Rattle.style_rules.specs.Levels.{layer_reports}
use Rattle.style_rules.specs.Places.{unless_broken}
use Rattle.style_rules.specs.Rules.{is_zoom_limit}
use Rattle.style_rules.proofs.QuietLaws.{IsQuiet}
use Rattle.edit_findings.proofs.LayerLaws.{IsUnread, of_member, member_put, member_taken}

-- ---- the number that is written is a zoom

second_true : (a b : Bool) → (a && b) ≡ true → b ≡ true
second_true true b h = h
second_true false b h = absurd (cc)

is_bounded : (z : ℤ) → is_zoom (Some z) ≡ true → unsigned_abs z ≤ bound
is_bounded (pos n) h =
    let few = leb-true n 24000000 (second_true (nat_le 0 n) (nat_le n 24000000) h) in omega (arith, few)
is_bounded (negsuc n) h = absurd (cc)

zoom_written : (z : ℤ) → is_zoom (Some z) ≡ true → is_zoom_limit (number (number_text z)) ≡ true
zoom_written z h = ap (λ r. is_zoom (number_read r)) (number_text_is_read z (is_bounded z h)) ∙ h

-- ---- the layer

module _ (sources : Option Fields) (used : List ℕ → Bool) (path : List PathPart) where
  abbrev IsQuietLayer : Tree → Type 0
  IsQuietLayer layer = IsQuiet (layer_reports sources used path layer)

  taken : (key : List ℕ) → IsUnread key → (layer : Tree) → IsQuietLayer layer → IsQuietLayer (object_without key layer)
  taken key unread (object fs) h = member_taken sources used path key unread fs h
  taken key unread null h = h
  taken key unread (boolean b) h = h
  taken key unread (number n) h = h
  taken key unread (text s) h = h
  taken key unread (list ts) h = h

  module _ (key : List ℕ) (unread : IsUnread key)
      (as_limit : (layer t : Tree) → of_member sources used path layer key t ≡ reports_or (unless_broken 13 (is_zoom_limit t)) (path ++ Key key ∷ []) []) where
    limit_put : (limit : Option ℤ) → is_zoom_or_none limit ≡ true → (layer : Tree) → IsQuietLayer layer → IsQuietLayer (with_limit key limit layer)
    limit_put None zoom layer h = h
    limit_put (Some z) zoom (object fs) h =
        member_put sources used path key unread (number (number_text z)) fs h
        ∙ (ap findings_in (as_limit (object fs) (number (number_text z)))
        ∙ ap (λ b. findings_in (reports_or (unless_broken 13 b) (path ++ Key key ∷ []) [])) (zoom_written z zoom))
    limit_put (Some z) zoom null h = absurd (cc)
    limit_put (Some z) zoom (boolean b) h = absurd (cc)
    limit_put (Some z) zoom (number n) h = absurd (cc)
    limit_put (Some z) zoom (text s) h = absurd (cc)
    limit_put (Some z) zoom (list ts) h = absurd (cc)

  abbrev min_key : List ℕ
  min_key = codes "minzoom"

  abbrev max_key : List ℕ
  max_key = codes "maxzoom"

  min_unread : IsUnread min_key
  min_unread = record { id = refl; layer_type = refl; source = refl; source_layer = refl; ref = refl }

  max_unread : IsUnread max_key
  max_unread = record { id = refl; layer_type = refl; source = refl; source_layer = refl; ref = refl }

  pub range_quiet : (min max : Option ℤ) → is_zoom_or_none min ≡ true → is_zoom_or_none max ≡ true → (layer : Tree) →
      IsQuietLayer layer → IsQuietLayer (with_range min max layer)
  range_quiet min max few many layer h =
      let without : IsQuietLayer (without_limits layer) =
      taken max_key max_unread (object_without min_key layer) (taken min_key min_unread layer h) in
      limit_put max_key max_unread (λ l t. refl) max many (with_limit min_key min (without_limits layer))
      (limit_put min_key min_unread (λ l t. refl) min few (without_limits layer) without)
