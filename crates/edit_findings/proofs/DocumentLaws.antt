-- What is found of a document without findings once its layers are others: what is found of these layers.
use Rattle.std.proofs.Common.{◌≡◌, ◌∙◌, ℕ, suc, List, [], ◌∷◌, length, refl, ap, sym, subst, Bool, true, false, Option, Some, None}
use Rattle.std.specs.Option.{option_and_then}
use Rattle.std.specs.Prelude.{codes, is_some, nat_le, ◌&&◌, ◌||◌, if◌then◌else◌}
use Rattle.std.specs.Str.{bytes_eq}
use Rattle.decimal_json.specs.Accessors.{fields_in, member, trees_in}
use Rattle.decimal_json.specs.Editing.{replaced_members}
use Rattle.decimal_json.specs.Sound.{HasDistinctKeys}
use Rattle.decimal_json.specs.Tree.{Tree, null, boolean, number, text, list, object, Trees, no_trees, tree, trees_of, Fields, fields_of, field_at, members_of}
use Rattle.decimal_json.specs.declared.paths.PathPart.TheVariants.{Key}
use Rattle.edit_script.specs.Form.{elements_of}
use Rattle.style_edits.specs.Layers.{layer_list, with_changed, with_layers}
use Rattle.style_edits.proofs.ObjectLaws.{fields_members, member_replaced, replacing_object}
use Rattle.style_parts.specs.Parts.{is_layers, layers_of, sources_of}
use Rattle.style_rules.specs.Findings.{findings, findings_in, reports_or}
use Rattle.style_rules.specs.Levels.{fields_reports, fields_or_none, items_or_none, layers_reports, named_reports, root_member_reports, HasDistinctMembers}
use Rattle.style_rules.specs.Places.{unless_broken, root_member_mark, used_in}
use Rattle.style_rules.specs.Rules.{count_of, has_root_members}
use Rattle.style_rules.proofs.LevelLaws.{walks_by_levels}
use Rattle.style_rules.proofs.QuietLaws.{Reports, IsQuiet, rules_hold, rules_pass}
use Rattle.edit_findings.proofs.FieldLaws.{Members, member_quiet, replaced_found, distinct_replaced}
use Rattle.edit_findings.proofs.OrderLaws.{of_list}
use Rattle.edit_findings.proofs.OtherMembers.{replaced_other}
use Rattle.edit_findings.specs.FoundAfter.{Found, if_few, layers_path, most_layers, unless_too_many}

-- ---- lists of layers

pub elements_back : (ts : Trees) → trees_of (elements_of ts) ≡ ts
elements_back no_trees = refl
elements_back (tree t ts) = ap (tree t) (elements_back ts)

count_is_length : (ts : List Tree) → count_of (trees_of ts) ≡ length ts
count_is_length [] = refl
count_is_length (t ∷ ts) = ap suc (count_is_length ts)

-- a document's list of layers of which nothing is found, and that is not too long
pub record IsSoundList (sources : Option Fields) (ts : List Tree) : Type 0 where
  pub found : of_list sources ts ≡ []
  pub few : nat_le (length ts) most_layers ≡ true

few_or_found : (few : Bool) (found : Found) → if_few few found ≡ [] → (found ≡ []) × (few ≡ true)
few_or_found true found h = (h, refl)
few_or_found false found h = absurd (cc)

sound_list : (sources : Option Fields) (ts : List Tree) → unless_too_many (length ts) (of_list sources ts) ≡ [] → IsSoundList sources ts
sound_list sources ts h =
    let parts = few_or_found (nat_le (length ts) most_layers) (of_list sources ts) h in
    record { found = parts.0; few = parts.1 }

-- ---- a member of the root, by the sources and by the ids that layers use

module _ (sources : Option Fields) (used : ℕ → List ℕ → Bool) where
  abbrev below_other : List ℕ → Tree → Reports
  below_other k t =
      if bytes_eq k (codes "sources") || bytes_eq k (codes "state") then fields_reports (named_reports k (Key k ∷ [])) (fields_or_none t) else []

  abbrev part_reports : List ℕ → Tree → Reports
  part_reports k t = reports_or (root_member_mark k t) (Key k ∷ [])
      (if is_layers k then layers_reports sources used (Key k ∷ []) 0 (items_or_none t) else below_other k t)

  by_count : (few : Bool) (ts : Trees) →
      findings_in (reports_or (unless_broken 5 few) layers_path (layers_reports sources used layers_path 0 ts))
      ≡ if_few few (findings_in (layers_reports sources used layers_path 0 ts))
  by_count true ts = refl
  by_count false ts = refl

layers_part : (sources : Option Fields) (ts : List Tree) →
    findings_in (part_reports sources (used_in (trees_of ts)) (codes "layers") (list (trees_of ts))) ≡ unless_too_many (length ts) (of_list sources ts)
layers_part sources ts =
    by_count sources (used_in (trees_of ts)) (nat_le (count_of (trees_of ts)) most_layers) (trees_of ts)
    ∙ ap (λ n. unless_too_many n (of_list sources ts)) (count_is_length ts)

-- another member is reported alike whatever ids the layers use
part_same : (sources : Option Fields) (used other : ℕ → List ℕ → Bool) (k : List ℕ) (t : Tree) → is_layers k ≡ false →
    part_reports sources other k t ≡ part_reports sources used k t
part_same sources used other k t apart =
    (λ i. reports_or (root_member_mark k t) (Key k ∷ [])
    (if apart i then layers_reports sources other (Key k ∷ []) 0 (items_or_none t) else below_other sources used k t))
    ∙ sym (λ i. reports_or (root_member_mark k t) (Key k ∷ [])
    (if apart i then layers_reports sources used (Key k ∷ []) 0 (items_or_none t) else below_other sources used k t))

-- ---- a document

module _ (ms : Members) (distinct : HasDistinctKeys ms) where
  abbrev document : Tree
  document = object (fields_of ms)

  abbrev layers_key : List ℕ
  layers_key = codes "layers"

  abbrev root_rules : Tree → List (ℕ × Bool)
  root_rules d = (1, true) ∷ (2, has_root_members d) ∷ []

  module _ (none : findings document ≡ []) where
    root_holds : (has_root_members document ≡ true) × IsQuiet (fields_reports (root_member_reports document) (fields_of ms))
    root_holds =
        let below : Reports = fields_reports (root_member_reports document) (fields_of ms) in
        let held = rules_hold (root_rules document) [] below (ap findings_in (sym (walks_by_levels ms distinct)) ∙ none) in
        (held.0.1.0, held.1)

    has_layers : (version sources layers : Bool) → (version && (sources && layers)) ≡ true → layers ≡ true
    has_layers true true true h = refl
    has_layers true true false h = absurd (cc)
    has_layers true false layers h = absurd (cc)
    has_layers false sources layers h = absurd (cc)

    layers_quiet : (t : Tree) → field_at layers_key (fields_of ms) ≡ Some t → IsQuiet (root_member_reports document layers_key t)
    layers_quiet t is = member_quiet (root_member_reports document) layers_key t ms root_holds.1 is

    list_at : (o : Option Tree) → field_at layers_key (fields_of ms) ≡ o → is_some o ≡ true →
        (ts : Trees) × (field_at layers_key (fields_of ms) ≡ Some (list ts))
    list_at None is h = absurd (cc)
    list_at (Some (list ts)) is h = (ts, is)
    list_at (Some null) is h = absurd (let q = layers_quiet null is in cc)
    list_at (Some (boolean b)) is h = absurd (let q = layers_quiet (boolean b) is in cc)
    list_at (Some (number n)) is h = absurd (let q = layers_quiet (number n) is in cc)
    list_at (Some (text s)) is h = absurd (let q = layers_quiet (text s) is in cc)
    list_at (Some (object fs)) is h = absurd (let q = layers_quiet (object fs) is in cc)

    layers_there : (ts : Trees) × (field_at layers_key (fields_of ms) ≡ Some (list ts))
    layers_there =
        let version = is_some (field_at (codes "version") (fields_of ms)) in
        let sources = is_some (field_at (codes "sources") (fields_of ms)) in
        list_at (field_at layers_key (fields_of ms)) refl
        (has_layers version sources (is_some (field_at layers_key (fields_of ms))) root_holds.0)

    module _ (ts : Trees) (is : field_at layers_key (fields_of ms) ≡ Some (list ts)) where
      -- what is found of the layers that are there
      list_sound : IsSoundList (sources_of document) (elements_of ts)
      list_sound =
          let sources = sources_of document in
          let whole : trees_of (elements_of ts) ≡ ts = elements_back ts in
          let listed : trees_of (elements_of ts) ≡ layers_of document = whole ∙ sym (ap trees_in is) in
          let quiet : findings_in (part_reports sources (used_in (layers_of document)) layers_key (list ts)) ≡ [] = layers_quiet (list ts) is in
          sound_list sources (elements_of ts)
          (sym (layers_part sources (elements_of ts))
          ∙ ((λ i. findings_in (part_reports sources (used_in (listed i)) layers_key (list (whole i)))) ∙ quiet))

      module _ (us : List Tree) where
        abbrev after : Members
        after = replaced_members layers_key (list (trees_of us)) ms

        abbrev edited : Tree
        edited = object (fields_of after)

        layers_put : field_at layers_key (fields_of after) ≡ Some (list (trees_of us))
        layers_put =
            ap (member layers_key) (sym (replacing_object layers_key (list (trees_of us)) ms))
            ∙ member_replaced layers_key (list ts) (list (trees_of us)) document is

        sources_kept : sources_of edited ≡ sources_of document
        sources_kept = ap (option_and_then fields_in) (replaced_other layers_key (codes "sources") refl (list (trees_of us)) ms)

        root_kept : has_root_members edited ≡ true
        root_kept =
            let version = replaced_other layers_key (codes "version") refl (list (trees_of us)) ms in
            let sources = replaced_other layers_key (codes "sources") refl (list (trees_of us)) ms in
            (λ i. is_some (version i) && (is_some (sources i) && is_some (layers_put i)))
            ∙ (sym (λ i. is_some (field_at (codes "version") (fields_of ms)) && (is_some (field_at (codes "sources") (fields_of ms)) && is_some (is i)))
            ∙ root_holds.0)

        edited_found : findings edited ≡ unless_too_many (length us) (of_list (sources_of document) us)
        edited_found =
            let sources = sources_of document in
            let below = λ (o : Option Fields) (all : Trees). fields_reports (part_reports o (used_in all)) (fields_of after) in
            ap findings_in (walks_by_levels after (distinct_replaced layers_key (list (trees_of us)) ms distinct))
            ∙ (ap findings_in (rules_pass (root_rules edited) (refl, (root_kept, tt)) [] (below (sources_of edited) (layers_of edited)))
            ∙ ((λ i. findings_in (below (sources_kept i) (trees_in (layers_put i))))
            ∙ (replaced_found (part_reports sources (used_in (layers_of document))) (part_reports sources (used_in (trees_of us))) layers_key
            (part_same sources (used_in (layers_of document)) (used_in (trees_of us))) (list (trees_of us)) (list ts) ms distinct is root_holds.1
            ∙ layers_part sources us)))

      changed_is : (change : List Tree → List Tree) → with_layers change document ≡ object (fields_of (replaced_members layers_key (list (trees_of (change (elements_of ts)))) ms))
      changed_is change = ap (λ o. with_changed change o document) is ∙ replacing_object layers_key (list (trees_of (change (elements_of ts)))) ms

      listed_is : layer_list document ≡ elements_of ts
      listed_is = ap (λ o. elements_of (trees_in o)) is

    members_sound : IsSoundList (sources_of document) (layer_list document)
    members_sound =
        let there = layers_there in
        subst (IsSoundList (sources_of document)) (sym (listed_is there.0 there.1)) (list_sound there.0 there.1)

    members_found : (change : List Tree → List Tree) →
        findings (with_layers change document) ≡ unless_too_many (length (change (layer_list document))) (of_list (sources_of document) (change (layer_list document)))
    members_found change =
        let there = layers_there in
        ap findings (changed_is there.0 there.1 change)
        ∙ (edited_found there.0 there.1 (change (elements_of there.0))
        ∙ ap (λ us. unless_too_many (length (change us)) (of_list (sources_of document) (change us))) (sym (listed_is there.0 there.1)))

    members_there : member layers_key document ≡ Some (list (trees_of (layer_list document)))
    members_there =
        let there = layers_there in
        there.1 ∙ ap (λ ts. Some (list ts)) (sym (elements_back there.0) ∙ ap trees_of (sym (listed_is there.0 there.1)))

-- ---- for each document

abbrev AfterLayers : Tree → Type 0
AfterLayers d = IsSoundList (sources_of d) (layer_list d) × ((change : List Tree → List Tree) →
    findings (with_layers change d) ≡ unless_too_many (length (change (layer_list d))) (of_list (sources_of d) (change (layer_list d))))

-- Nothing is found of the list of layers, and of others in its place in the document what is found of these.
pub of_layers : (d : Tree) → HasDistinctMembers d → findings d ≡ [] →
    IsSoundList (sources_of d) (layer_list d) × ((change : List Tree → List Tree) →
    findings (with_layers change d) ≡ unless_too_many (length (change (layer_list d))) (of_list (sources_of d) (change (layer_list d))))
of_layers (object fs) distinct none =
    let back : object (fields_of (members_of fs)) ≡ object fs = ap object (fields_members fs) in
    let before : findings (object (fields_of (members_of fs))) ≡ [] = ap findings back ∙ none in
    subst AfterLayers back (members_sound (members_of fs) distinct before, members_found (members_of fs) distinct before)
of_layers null distinct none = absurd (cc)
of_layers (boolean b) distinct none = absurd (cc)
of_layers (number n) distinct none = absurd (cc)
of_layers (text s) distinct none = absurd (cc)
of_layers (list ts) distinct none = absurd (cc)

abbrev LayersAreThere : Tree → Type 0
LayersAreThere d = member (codes "layers") d ≡ Some (list (trees_of (layer_list d)))

-- The layers of a document of which nothing is found are an array.
pub layers_are_there : (d : Tree) → HasDistinctMembers d → findings d ≡ [] → member (codes "layers") d ≡ Some (list (trees_of (layer_list d)))
layers_are_there (object fs) distinct none =
    let back : object (fields_of (members_of fs)) ≡ object fs = ap object (fields_members fs) in
    subst LayersAreThere back (members_there (members_of fs) distinct (ap findings back ∙ none))
layers_are_there null distinct none = absurd (cc)
layers_are_there (boolean b) distinct none = absurd (cc)
layers_are_there (number n) distinct none = absurd (cc)
layers_are_there (text s) distinct none = absurd (cc)
layers_are_there (list ts) distinct none = absurd (cc)
