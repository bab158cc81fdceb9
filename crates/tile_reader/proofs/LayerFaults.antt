-- The fault that is read of a layer, and of a tile, is the first one.
use Rattle.std.proofs.Common.{◌≡◌, ◌≢◌, ℕ, ◌%◌, inl, inr, List, [], ◌∷◌, ◌++◌, refl, sym, ap, ◌∙◌, length, Bool, true, false}
use Rattle.std.specs.Prelude.{◌⊎◌, Option, Some, None, Result, Ok, Err, if◌then◌else◌, nat_eq}
use Rattle.std.specs.List.{list_any}
use Rattle.std.specs.Str.{bytes_eq}
use Rattle.std.proofs.lemmas.Bool.Decides.{Decides-eqb}
use Rattle.proto_wire.specs.Message.{WireField, content_start}
use Rattle.prop_values.specs.Data.{Data}
use Rattle.tile_reader.specs.declared.fault.TileKind.TheVariants as kind
use Rattle.tile_reader.specs.declared.fault.TileFault.{TileFault}
use Rattle.tile_reader.specs.declared.tile.TileLayer.{TileLayer}
use Rattle.tile_reader.specs.declared.tile.Feature.{Feature}
use Rattle.tile_reader.specs.declared.layer.LayerMember.{LayerMember}
use Rattle.tile_reader.specs.Message.{message}
use Rattle.tile_reader.specs.Read.{refused, ◌then◌, read_fields, number_in, bytes_in, text_of, text_in}
use Rattle.tile_reader.specs.Value.{value_at}
use Rattle.tile_reader.specs.Feature.{Tagged, feature_at}
use Rattle.tile_reader.specs.Properties.{named, with_pairs, feature_of, features_of}
use Rattle.tile_reader.specs.Layer.{LayerFields, layer_field, layer_step, no_parts, name_of, version_of, new_name, layer_end, layer_at}
use Rattle.tile_reader.specs.Names.{names}
use Rattle.tile_reader.specs.Tile.{tile_step, is_compressed, tile_of}
use Rattle.tile_reader.specs.Format.{Each, ArePairs, last_of}
use Rattle.tile_reader.specs.FirstFault.{IsAt, BreaksText, LayerSoFar, AreLayerSoFar, BreaksLayerField, BreaksTags, BreaksFeatures, BreaksEnd, BreaksLayer, AreLayersSoFar, IsFirstFault}
use Rattle.tile_reader.specs.Laws.{FaultsComeFirst}
use Rattle.tile_reader.proofs.Parts.{bytes_ok, message_ok, by_number}
use Rattle.tile_reader.proofs.PropertyFormat.{named_is, made_ok}
use Rattle.tile_reader.proofs.LayerFormat as layer_format
use Rattle.tile_reader.proofs.LayerFormat.{Other, other_member, so_far_ok, read_layer}
use Rattle.tile_reader.proofs.TileFormat as tile_format
use Rattle.tile_reader.proofs.FaultParts.{then_err, number_err, bytes_err, utf8_err, first_in}
use Rattle.tile_reader.proofs.FaultFormat.{value_err, feature_err}

text_err : (field : WireField) (fault : TileFault) → text_in field.at field.payload ≡ Err fault → BreaksText field fault
text_err field fault e = elim (then_err (bytes_in field.at field.payload) (text_of field.at) fault e) as (λ _. BreaksText field fault) [
  | inl here ↦ inl (bytes_err field.at field.payload fault here)
  | inr later ↦ let bad = utf8_err field.at later.0 fault later.2 in inr (later.0, bytes_ok field.at field.payload later.0 later.1, bad.0, bad.1)
]

abbrev LayerNext : LayerFields → WireField → TileFault → ℕ → Type 0
LayerNext q field fault n = layer_step q (layer_format.at_number field n) ≡ Err fault → BreaksLayerField (layer_format.at_number field n) fault

no_err : {A B : Type 0} (read : Result A TileFault) (made : A → B) (fault : TileFault) → (read then λ x. Ok (made x)) ≡ Err fault → read ≡ Err fault
no_err {A} {B} read made fault e = elim (then_err read (λ (x : A). Ok (made x)) fault e) as (λ _. read ≡ Err fault) [ inl here ↦ here | inr later ↦ absurd (cc (later.2)) ]

inner_err : {A B : Type 0} (field : WireField) (read : List ℕ → Result A TileFault) (made : A → B) (fault : TileFault) → (bytes_in field.at field.payload then λ b. read b then λ x. Ok (made x)) ≡ Err fault → (bytes_in field.at field.payload then read) ≡ Err fault
inner_err {A} {B} field read made fault e = elim (then_err (bytes_in field.at field.payload) (λ (b : List ℕ). read b then λ x. Ok (made x)) fault e) as (λ _. (bytes_in field.at field.payload then read) ≡ Err fault) [
  | inl here ↦ ap (λ (r : Result (List ℕ) TileFault). r then read) here
  | inr later ↦ ap (λ (r : Result (List ℕ) TileFault). r then read) later.1 ∙ no_err (read later.0) made fault later.2
]

layer_other : (q : LayerFields) (field : WireField) (fault : TileFault) → Other field.number → LayerNext q field fault field.number
layer_other q field fault other e =
    let passes : layer_step q field ≡ Ok q = ap (λ (m : LayerMember). layer_field m q field) (other_member field.number other) in absurd (cc)

layer_next : (q : LayerFields) (field : WireField) (fault : TileFault) → layer_step q field ≡ Err fault → BreaksLayerField field fault
layer_next q field fault e =
    by_number (LayerNext q field fault) field.number 1 (λ e. inl (refl, text_err field fault (no_err (text_in field.at field.payload) (λ (s : List ℕ). record q { name = Some s }) fault e))) (λ d1.
    by_number (LayerNext q field fault) field.number 2 (λ e. inr (inl (refl, feature_err field fault (inner_err field (λ b. feature_at field.at (content_start field) b) (λ (x : Tagged). record q { features = q.features ++ x ∷ [] }) fault e)))) (λ d2.
    by_number (LayerNext q field fault) field.number 3 (λ e. inr (inr (inl (refl, text_err field fault (no_err (text_in field.at field.payload) (λ (s : List ℕ). record q { keys = q.keys ++ s ∷ [] }) fault e))))) (λ d3.
    by_number (LayerNext q field fault) field.number 4 (λ e. inr (inr (inr (inl (refl, value_err field fault (inner_err field (λ b. value_at field.at (content_start field) b) (λ (x : Data). record q { values = q.values ++ x ∷ [] }) fault e)))))) (λ d4.
    by_number (LayerNext q field fault) field.number 5 (λ e. inr (inr (inr (inr (inl (refl, number_err field.at field.payload fault (no_err (number_in field.at field.payload) (λ (_ : ℕ). q) fault e))))))) (λ d5.
    by_number (LayerNext q field fault) field.number 15 (λ e. inr (inr (inr (inr (inr (refl, number_err field.at field.payload fault (no_err (number_in field.at field.payload) (λ (n : ℕ). record q { version = Some n }) fault e))))))) (λ d15.
    layer_other q field fault (record { d1 = d1; d2 = d2; d3 = d3; d4 = d4; d5 = d5; d15 = d15 }))))))) e

-- the tags of a feature
tags_at : (keys : List (List ℕ)) (values : List Data) (tagged : Tagged) (fault : TileFault) (o : Option (List (List ℕ × Data))) → named keys values tagged.tags ≡ o → with_pairs tagged o ≡ Err fault → ((pairs : List (List ℕ × Data)) → ArePairs keys values tagged.tags pairs → ⊥) × IsAt kind.TagIndex tagged.at fault
tags_at keys values tagged fault None is e = (λ pairs are. let known = (named_is keys values tagged.tags pairs are).0 in cc, cc)
tags_at keys values tagged fault (Some pairs) is e = absurd (cc)

odd_at : (keys : List (List ℕ)) (values : List Data) (tagged : Tagged) (fault : TileFault) (t : Bool) → nat_eq (length tagged.tags % 2) 1 ≡ t → (if t then refused kind.OddTags tagged.at else with_pairs tagged (named keys values tagged.tags)) ≡ Err fault → BreaksTags keys values tagged fault
odd_at keys values tagged fault true is e = inl ((Decides-eqb (length tagged.tags % 2) 1).0 is, cc)
odd_at keys values tagged fault false is e =
    let (none, at) = tags_at keys values tagged fault (named keys values tagged.tags) refl e in
    inr (λ odd. let yes_odd : nat_eq (length tagged.tags % 2) 1 ≡ true = (Decides-eqb (length tagged.tags % 2) 1).1 odd in cc, none, at)

features_err : (keys : List (List ℕ)) (values : List Data) (tagged : List Tagged) (earlier : List Feature) (fault : TileFault) → features_of keys values earlier tagged ≡ Err fault → BreaksFeatures keys values tagged fault
features_err keys values [] earlier fault e = absurd (cc)
features_err keys values (first ∷ others) earlier fault e = elim (then_err (feature_of keys values first) (λ (f : Feature). features_of keys values (earlier ++ f ∷ []) others) fault e) as (λ _. BreaksFeatures keys values (first ∷ others) fault) [
  | inl here ↦ inl (odd_at keys values first fault (nat_eq (length first.tags % 2) 1) refl here)
  | inr later ↦ let made = made_ok keys values first later.0 later.1 in inr ((made.pairs, made.are), features_err keys values others (earlier ++ later.0 ∷ []) fault later.2)
]

-- the end of a layer
name_err : (at : ℕ) (o : Option (List ℕ)) (fault : TileFault) → name_of at o ≡ Err fault → (o ≡ None) × IsAt kind.NoName at fault
name_err at None fault e = (refl, cc)
name_err at (Some name) fault e = absurd (cc)

version_err : (at : ℕ) (o : Option ℕ) (fault : TileFault) → version_of at o ≡ Err fault → ((o ≡ None) × IsAt kind.NoVersion at fault) ⊎ ((n : ℕ) × (o ≡ Some n) × (n ≢ 1) × (n ≢ 2) × IsAt kind.Version at fault)
version_err at None fault e = inl (refl, cc)
version_err at (Some n) fault e =
    let P : ℕ → Type 0 = λ n. version_of at (Some n) ≡ Err fault → (n ≢ 1) × (n ≢ 2) × IsAt kind.Version at fault in
    let bad = by_number P n 1 (λ e. absurd (cc)) (λ d1. by_number P n 2 (λ e. absurd (cc)) (λ d2. λ e.
    let is : version_of at (Some n) ≡ refused kind.Version at = rw d1 (rw d2 refl) in
    (λ q. let there = (Decides-eqb n 1).1 q in cc, λ q. let there = (Decides-eqb n 2).1 q in cc, cc))) e in
    inr (n, refl, bad.0, bad.1, bad.2)

repeated : (at : ℕ) (earlier : List (List ℕ)) (name : List ℕ) (fault : TileFault) (t : Bool) → list_any (bytes_eq name) earlier ≡ t → ◌≡◌ {A = Result (List ℕ) TileFault} (if t then refused kind.RepeatedName at else Ok name) (Err fault) → (Each (λ (x : List ℕ). x ≢ name) earlier → ⊥) × IsAt kind.RepeatedName at fault
repeated at earlier name fault true is e = (λ each. let none = tile_format.new_is name earlier each in cc, cc)
repeated at earlier name fault false is e = absurd (cc)

end_err : (earlier : List (List ℕ)) (layer : LayerSoFar) (at : ℕ) (fault : TileFault) → layer_end at earlier (record { name = last_of layer.names; version = last_of layer.versions; keys = layer.keys; values = layer.values; features = layer.features }) ≡ Err fault → BreaksEnd earlier layer at fault
end_err earlier layer at fault e =
    let features : Result (List Feature) TileFault = features_of layer.keys layer.values [] layer.features in
    elim (then_err (name_of at (last_of layer.names)) (λ (name : List ℕ). version_of at (last_of layer.versions) then λ _. new_name at earlier name then λ _. features then λ fs. Ok (record { name = name; features = fs })) fault e) as (λ _. BreaksEnd earlier layer at fault) [
      | inl here ↦ inl (name_err at (last_of layer.names) fault here)
      | inr named_so ↦ inr (
        named_so.0,
        layer_format.name_ok at (last_of layer.names) named_so.0 named_so.1,
        elim (then_err (version_of at (last_of layer.versions)) (λ (_ : ℕ). new_name at earlier named_so.0 then λ _. features then λ fs. Ok (record { name = named_so.0; features = fs })) fault named_so.2) as (λ _.
            ((last_of layer.versions ≡ None) × IsAt kind.NoVersion at fault)
            ⊎ ((n : ℕ) × (last_of layer.versions ≡ Some n) × (n ≢ 1) × (n ≢ 2) × IsAt kind.Version at fault)
            ⊎ (((last_of layer.versions ≡ Some 1) ⊎ (last_of layer.versions ≡ Some 2))
            × (((Each (λ (x : List ℕ). x ≢ named_so.0) earlier → ⊥) × IsAt kind.RepeatedName at fault)
            ⊎ (Each (λ (x : List ℕ). x ≢ named_so.0) earlier × BreaksFeatures layer.keys layer.values layer.features fault)))) [
              | inl here ↦ elim (version_err at (last_of layer.versions) fault here) [ inl none ↦ inl none | inr bad ↦ inr (inl bad) ]
              | inr versioned ↦ inr (inr (
                layer_format.version_ok at (last_of layer.versions) versioned.0 versioned.1,
                elim (then_err (new_name at earlier named_so.0) (λ (_ : List ℕ). features then λ fs. Ok (record { name = named_so.0; features = fs })) fault versioned.2) as (λ _.
                    ((Each (λ (x : List ℕ). x ≢ named_so.0) earlier → ⊥) × IsAt kind.RepeatedName at fault)
                    ⊎ (Each (λ (x : List ℕ). x ≢ named_so.0) earlier × BreaksFeatures layer.keys layer.values layer.features fault)) [
                      | inl again ↦ inl (repeated at earlier named_so.0 fault (list_any (bytes_eq named_so.0) earlier) refl again)
                      | inr new ↦ inr (
                        tile_format.new_ok named_so.0 earlier (layer_format.new_at at named_so.0 new.0 (list_any (bytes_eq named_so.0) earlier) new.1),
                        features_err layer.keys layer.values layer.features [] fault (no_err features (λ (fs : List Feature). record { name = named_so.0; features = fs }) fault new.2),
                      )
                    ],
              ))
            ],
      )
    ]

layer_err : (earlier : List (List ℕ)) (field : WireField) (fault : TileFault) → read_layer earlier field ≡ Err fault → BreaksLayer earlier field fault
layer_err earlier field fault e = elim (then_err (bytes_in field.at field.payload) (λ (b : List ℕ). layer_at field.at (content_start field) earlier b) fault e) as (λ _. BreaksLayer earlier field fault) [
  | inl here ↦ inl (bytes_err field.at field.payload fault here)
  | inr later ↦ elim (then_err (read_fields layer_step no_parts (message (content_start field) later.0)) (layer_end field.at earlier) fault later.2) as (λ _. BreaksLayer earlier field fault) [
    | inl inside ↦ inr (inl (
      later.0,
      bytes_ok field.at field.payload later.0 later.1,
      first_in layer_step no_parts AreLayerSoFar (λ _ inner other. BreaksLayerField inner other) (content_start field) later.0 fault
          (λ fields q walked. let (layer, are, is) = so_far_ok fields q walked in (layer, are, λ inner other. layer_next q inner other)) inside,
    ))
    | inr ended ↦
        let (fields, are, walked) = message_ok layer_step no_parts ended.0 (content_start field) later.0 ended.1 in
        let (layer, have, is) = so_far_ok fields ended.0 walked in
        inr (inr (
          fields,
          (later.0, bytes_ok field.at field.payload later.0 later.1, are),
          layer,
          have,
          end_err earlier layer field.at fault (sym (ap (layer_end field.at earlier) is) ∙ ended.2),
        ))
  ]
]

abbrev LayerBreaks : List TileLayer → WireField → TileFault → Type 0
LayerBreaks layers field fault = (field.number ≡ 3) × BreaksLayer (names layers) field fault

tile_next : (q : List TileLayer) (field : WireField) (fault : TileFault) → tile_step q field ≡ Err fault → LayerBreaks q field fault
tile_next q field fault e =
    let P : ℕ → Type 0 = λ n. tile_step q (layer_format.at_number field n) ≡ Err fault → LayerBreaks q (layer_format.at_number field n) fault in
    by_number P field.number 3 (λ e. (refl, layer_err (names q) field fault (inner_err field (λ b. layer_at field.at (content_start field) (names q) b) (λ (layer : TileLayer). q ++ layer ∷ []) fault e))) (λ other. λ e.
    let passes : tile_step q field ≡ Ok q = rw other refl in absurd (cc)) e

first_at : (b : List ℕ) (fault : TileFault) (t : Bool) → is_compressed b ≡ t → (if t then refused kind.Compressed 0 else read_fields tile_step [] (message 0 b)) ≡ Err fault → IsFirstFault b fault
first_at b fault true is e = inl (is, cc)
first_at b fault false is e = inr (
  is,
  first_in tile_step [] AreLayersSoFar LayerBreaks 0 b fault (λ fields q walked. (q, tile_format.so_far fields q walked, λ inner other. tile_next q inner other)) e,
)

pub faults_come_first : FaultsComeFirst
unfolding tile_of
faults_come_first b fault e = first_at b fault (is_compressed b) refl e
