-- The fields of a layer are read where its format has them.
use Rattle.std.proofs.Common.{◌≡◌, ℕ, inl, inr, List, [], ◌∷◌, ◌++◌, refl, sym, ap, ◌∙◌, subst, append_assoc, Bool, true, false}
use Rattle.std.specs.Prelude.{◌⊎◌, map, Option, Some, None, Result, Ok, if◌then◌else◌, nat_eq}
use Rattle.std.specs.List.{list_any}
use Rattle.std.specs.Str.{bytes_eq}
use Rattle.std.proofs.lemmas.List.{append-nil}
use Rattle.proto_wire.specs.Message.{WireField, content_start}
use Rattle.prop_values.specs.Data.{Data}
use Rattle.tile_reader.specs.declared.fault.TileKind.TheVariants as kind
use Rattle.tile_reader.specs.declared.fault.TileFault.{TileFault}
use Rattle.tile_reader.specs.declared.tile.Shape as shape
use Rattle.tile_reader.specs.declared.tile.Feature.{Feature}
use Rattle.tile_reader.specs.declared.tile.TileLayer.{TileLayer}
use Rattle.tile_reader.specs.declared.layer.LayerMember.TheVariants as member
use Rattle.tile_reader.specs.declared.layer.LayerMember.{LayerMember}
use Rattle.tile_reader.specs.Message.{message}
use Rattle.tile_reader.specs.Read.{refused, ◌then◌, along, read_fields, number_in, bytes_in, text_in}
use Rattle.tile_reader.specs.Value.{value_at}
use Rattle.tile_reader.specs.Feature.{Tagged, feature_at}
use Rattle.tile_reader.specs.Properties.{features_of}
use Rattle.tile_reader.specs.Layer.{LayerFields, layer_member, layer_field, layer_step, no_parts, name_of, version_of, new_name, layer_end, layer_at}
use Rattle.tile_reader.specs.Format.{OneByOne, fields_of_number, last_else, last_of, IsNumber, IsText, IsValue, IsFeature, AreFeatureFields, IsLayer}
use Rattle.tile_reader.proofs.Parts.{then_ok, then_is, number_ok, number_is, bytes_ok, bytes_is, text_ok, text_is, message_ok, message_is, by_number, each_one, first_one, one_by_one, Reads, passed, unpassed}
use Rattle.tile_reader.proofs.ValueFormat.{read_value, value_ok, value_is}
use Rattle.tile_reader.specs.FirstFault.{IsTagged, LayerSoFar, AreLayerSoFar}
use Rattle.tile_reader.proofs.FeatureFormat.{read_tagged, tagged_ok, tagged_is}
use Rattle.tile_reader.proofs.PropertyFormat.{IsOf, made_ok, made_is, features_ok, features_is}

-- what each field holds
abbrev read_text : WireField → Result (List ℕ) TileFault
read_text field = text_in field.at field.payload

abbrev read_number : WireField → Result ℕ TileFault
read_number field = number_in field.at field.payload

abbrev after : LayerFields → List (List ℕ) → List ℕ → List (List ℕ) → List Data → List Tagged → LayerFields
after s names versions keys values features = record {
  name = last_else s.name (map Some names);
  version = last_else s.version (map Some versions);
  keys = s.keys ++ keys;
  values = s.values ++ values;
  features = s.features ++ features;
}

-- a walk over the fields, from one state to another
record Walk (fields : List WireField) (s q : LayerFields) : Type 0 where
  names : List (List ℕ)
  features : List Tagged
  keys : List (List ℕ)
  values : List Data
  extents : List ℕ
  versions : List ℕ
  name_fields : Reads 1 read_text fields names
  feature_fields : Reads 2 read_tagged fields features
  key_fields : Reads 3 read_text fields keys
  value_fields : Reads 4 read_value fields values
  extent_fields : Reads 5 read_number fields extents
  version_fields : Reads 15 read_number fields versions
  made : q ≡ after s names versions keys values features

abbrev pub rest_of : LayerFields → List WireField → Result LayerFields TileFault
rest_of s fields = along layer_step s fields None

abbrev pub at_number : WireField → ℕ → WireField
at_number field n = record { number = n; at = field.at; end = field.end; payload = field.payload }

abbrev Later : List WireField → LayerFields → Type 0
Later fields q = (next : LayerFields) → rest_of next fields ≡ Ok q → Walk fields next q

abbrev Walked : WireField → List WireField → LayerFields → LayerFields → ℕ → Type 0
Walked field fields s q n = (layer_step s (at_number field n) then λ next. rest_of next fields) ≡ Ok q → Walk (at_number field n ∷ fields) s q

walked_name : (field : WireField) (fields : List WireField) (s q : LayerFields) → Later fields q → Walked field fields s q 1
walked_name field fields s q later e =
    let (next, stepped, onward) = then_ok (layer_step s (at_number field 1)) (λ (next : LayerFields). rest_of next fields) q e in
    let (x, read, made) = then_ok (read_text field) (λ (x : List ℕ). Ok (record s { name = Some x })) next stepped in
    let w = later next onward in
    let is : next ≡ record s { name = Some x } = cc in
    record {
      names = x ∷ w.names;
      features = w.features;
      keys = w.keys;
      values = w.values;
      extents = w.extents;
      versions = w.versions;
      name_fields = (read, w.name_fields);
      feature_fields = w.feature_fields;
      key_fields = w.key_fields;
      value_fields = w.value_fields;
      extent_fields = w.extent_fields;
      version_fields = w.version_fields;
      made = w.made ∙ ap (λ (t : LayerFields). after t w.names w.versions w.keys w.values w.features) is;
    }

walked_feature : (field : WireField) (fields : List WireField) (s q : LayerFields) → Later fields q → Walked field fields s q 2
walked_feature field fields s q later e =
    let (next, stepped, onward) = then_ok (layer_step s (at_number field 2)) (λ (next : LayerFields). rest_of next fields) q e in
    let (b, content, read_at) = then_ok (bytes_in field.at field.payload) (λ (b : List ℕ). feature_at field.at (content_start field) b then λ x. Ok (record s { features = s.features ++ x ∷ [] })) next stepped in
    let (x, read, made) = then_ok (feature_at field.at (content_start field) b) (λ (x : Tagged). Ok (record s { features = s.features ++ x ∷ [] })) next read_at in
    let w = later next onward in
    let is : next ≡ record s { features = s.features ++ x ∷ [] } = cc in
    record {
      names = w.names;
      features = x ∷ w.features;
      keys = w.keys;
      values = w.values;
      extents = w.extents;
      versions = w.versions;
      name_fields = w.name_fields;
      feature_fields = (then_is (bytes_in field.at field.payload) (λ (b : List ℕ). feature_at field.at (content_start field) b) b x content read, w.feature_fields);
      key_fields = w.key_fields;
      value_fields = w.value_fields;
      extent_fields = w.extent_fields;
      version_fields = w.version_fields;
      made = w.made ∙ ap (λ (t : LayerFields). after t w.names w.versions w.keys w.values w.features) is
          ∙ ap (λ (xs : List Tagged). record (after s w.names w.versions w.keys w.values w.features) { features = xs }) (append_assoc s.features (x ∷ []) w.features);
    }

walked_key : (field : WireField) (fields : List WireField) (s q : LayerFields) → Later fields q → Walked field fields s q 3
walked_key field fields s q later e =
    let (next, stepped, onward) = then_ok (layer_step s (at_number field 3)) (λ (next : LayerFields). rest_of next fields) q e in
    let (x, read, made) = then_ok (read_text field) (λ (x : List ℕ). Ok (record s { keys = s.keys ++ x ∷ [] })) next stepped in
    let w = later next onward in
    let is : next ≡ record s { keys = s.keys ++ x ∷ [] } = cc in
    record {
      names = w.names;
      features = w.features;
      keys = x ∷ w.keys;
      values = w.values;
      extents = w.extents;
      versions = w.versions;
      name_fields = w.name_fields;
      feature_fields = w.feature_fields;
      key_fields = (read, w.key_fields);
      value_fields = w.value_fields;
      extent_fields = w.extent_fields;
      version_fields = w.version_fields;
      made = w.made ∙ ap (λ (t : LayerFields). after t w.names w.versions w.keys w.values w.features) is
          ∙ ap (λ (xs : List (List ℕ)). record (after s w.names w.versions w.keys w.values w.features) { keys = xs }) (append_assoc s.keys (x ∷ []) w.keys);
    }

walked_value : (field : WireField) (fields : List WireField) (s q : LayerFields) → Later fields q → Walked field fields s q 4
walked_value field fields s q later e =
    let (next, stepped, onward) = then_ok (layer_step s (at_number field 4)) (λ (next : LayerFields). rest_of next fields) q e in
    let (b, content, read_at) = then_ok (bytes_in field.at field.payload) (λ (b : List ℕ). value_at field.at (content_start field) b then λ x. Ok (record s { values = s.values ++ x ∷ [] })) next stepped in
    let (x, read, made) = then_ok (value_at field.at (content_start field) b) (λ (x : Data). Ok (record s { values = s.values ++ x ∷ [] })) next read_at in
    let w = later next onward in
    let is : next ≡ record s { values = s.values ++ x ∷ [] } = cc in
    record {
      names = w.names;
      features = w.features;
      keys = w.keys;
      values = x ∷ w.values;
      extents = w.extents;
      versions = w.versions;
      name_fields = w.name_fields;
      feature_fields = w.feature_fields;
      key_fields = w.key_fields;
      value_fields = (then_is (bytes_in field.at field.payload) (λ (b : List ℕ). value_at field.at (content_start field) b) b x content read, w.value_fields);
      extent_fields = w.extent_fields;
      version_fields = w.version_fields;
      made = w.made ∙ ap (λ (t : LayerFields). after t w.names w.versions w.keys w.values w.features) is
          ∙ ap (λ (xs : List Data). record (after s w.names w.versions w.keys w.values w.features) { values = xs }) (append_assoc s.values (x ∷ []) w.values);
    }

walked_extent : (field : WireField) (fields : List WireField) (s q : LayerFields) → Later fields q → Walked field fields s q 5
walked_extent field fields s q later e =
    let (next, stepped, onward) = then_ok (layer_step s (at_number field 5)) (λ (next : LayerFields). rest_of next fields) q e in
    let (n, read, made) = then_ok (read_number field) (λ (_ : ℕ). Ok s) next stepped in
    let w = later next onward in
    let is : next ≡ s = cc in
    record {
      names = w.names;
      features = w.features;
      keys = w.keys;
      values = w.values;
      extents = n ∷ w.extents;
      versions = w.versions;
      name_fields = w.name_fields;
      feature_fields = w.feature_fields;
      key_fields = w.key_fields;
      value_fields = w.value_fields;
      extent_fields = (read, w.extent_fields);
      version_fields = w.version_fields;
      made = w.made ∙ ap (λ (t : LayerFields). after t w.names w.versions w.keys w.values w.features) is;
    }

walked_version : (field : WireField) (fields : List WireField) (s q : LayerFields) → Later fields q → Walked field fields s q 15
walked_version field fields s q later e =
    let (next, stepped, onward) = then_ok (layer_step s (at_number field 15)) (λ (next : LayerFields). rest_of next fields) q e in
    let (n, read, made) = then_ok (read_number field) (λ (n : ℕ). Ok (record s { version = Some n })) next stepped in
    let w = later next onward in
    let is : next ≡ record s { version = Some n } = cc in
    record {
      names = w.names;
      features = w.features;
      keys = w.keys;
      values = w.values;
      extents = w.extents;
      versions = n ∷ w.versions;
      name_fields = w.name_fields;
      feature_fields = w.feature_fields;
      key_fields = w.key_fields;
      value_fields = w.value_fields;
      extent_fields = w.extent_fields;
      version_fields = (read, w.version_fields);
      made = w.made ∙ ap (λ (t : LayerFields). after t w.names w.versions w.keys w.values w.features) is;
    }

-- the number of no member
pub record Other (n : ℕ) : Type 0 where
  pub d1 : nat_eq n 1 ≡ false
  pub d2 : nat_eq n 2 ≡ false
  pub d3 : nat_eq n 3 ≡ false
  pub d4 : nat_eq n 4 ≡ false
  pub d5 : nat_eq n 5 ≡ false
  pub d15 : nat_eq n 15 ≡ false

pub other_member : (n : ℕ) → Other n → layer_member n ≡ member.Unknown
other_member n o = rw o.d1 (rw o.d2 (rw o.d3 (rw o.d4 (rw o.d5 (rw o.d15 refl)))))

walked_other : (field : WireField) (fields : List WireField) (s q : LayerFields) → Later fields q → Other field.number → Walked field fields s q field.number
walked_other field fields s q later o e =
    let w = later s (sym (ap (λ (m : LayerMember). layer_field m s field then λ next. rest_of next fields) (other_member field.number o)) ∙ e) in
    record {
      names = w.names;
      features = w.features;
      keys = w.keys;
      values = w.values;
      extents = w.extents;
      versions = w.versions;
      name_fields = passed 1 read_text field fields w.names o.d1 w.name_fields;
      feature_fields = passed 2 read_tagged field fields w.features o.d2 w.feature_fields;
      key_fields = passed 3 read_text field fields w.keys o.d3 w.key_fields;
      value_fields = passed 4 read_value field fields w.values o.d4 w.value_fields;
      extent_fields = passed 5 read_number field fields w.extents o.d5 w.extent_fields;
      version_fields = passed 15 read_number field fields w.versions o.d15 w.version_fields;
      made = w.made;
    }

walk_ok : (fields : List WireField) (s q : LayerFields) → rest_of s fields ≡ Ok q → Walk fields s q
walk_ok [] s q e =
    let is : q ≡ s = cc in
    record {
      names = [];
      features = [];
      keys = [];
      values = [];
      extents = [];
      versions = [];
      name_fields = tt;
      feature_fields = tt;
      key_fields = tt;
      value_fields = tt;
      extent_fields = tt;
      version_fields = tt;
      made = is ∙ ap (λ (xs : List (List ℕ)). record s { keys = xs }) (sym (append-nil s.keys))
          ∙ ap (λ (xs : List Data). record s { keys = s.keys ++ []; values = xs }) (sym (append-nil s.values))
          ∙ ap (λ (xs : List Tagged). record s { keys = s.keys ++ []; values = s.values ++ []; features = xs }) (sym (append-nil s.features));
    }
walk_ok (field ∷ fields) s q e =
    let later : Later fields q = λ next. walk_ok fields next q in
    by_number (Walked field fields s q) field.number 1 (walked_name field fields s q later) (λ d1.
    by_number (Walked field fields s q) field.number 2 (walked_feature field fields s q later) (λ d2.
    by_number (Walked field fields s q) field.number 3 (walked_key field fields s q later) (λ d3.
    by_number (Walked field fields s q) field.number 4 (walked_value field fields s q later) (λ d4.
    by_number (Walked field fields s q) field.number 5 (walked_extent field fields s q later) (λ d5.
    by_number (Walked field fields s q) field.number 15 (walked_version field fields s q later) (λ d15.
    walked_other field fields s q later (record { d1 = d1; d2 = d2; d3 = d3; d4 = d4; d5 = d5; d15 = d15 }))))))) e

-- and from the fields to what is read
abbrev Onward : List WireField → LayerFields → Type 0
Onward fields q = (next : LayerFields) → Walk fields next q → rest_of next fields ≡ Ok q

abbrev Walks : WireField → List WireField → LayerFields → LayerFields → ℕ → Type 0
Walks field fields s q n = Walk (at_number field n ∷ fields) s q → (layer_step s (at_number field n) then λ next. rest_of next fields) ≡ Ok q

walks_name : (field : WireField) (fields : List WireField) (s q : LayerFields) → Onward fields q → Walks field fields s q 1
walks_name field fields s q onward w =
    let (x, others, are, read, reads) = first_one (λ (f : WireField) (x : List ℕ). read_text f ≡ Ok x) (at_number field 1) (fields_of_number 1 fields) w.names w.name_fields in
    let next : LayerFields = record s { name = Some x } in
    then_is (layer_step s (at_number field 1)) (λ (next : LayerFields). rest_of next fields) next q (then_is (read_text field) (λ (x : List ℕ). Ok (record s { name = Some x })) x next read refl)
    (onward next (record {
      names = others;
      features = w.features;
      keys = w.keys;
      values = w.values;
      extents = w.extents;
      versions = w.versions;
      name_fields = reads;
      feature_fields = w.feature_fields;
      key_fields = w.key_fields;
      value_fields = w.value_fields;
      extent_fields = w.extent_fields;
      version_fields = w.version_fields;
      made = w.made ∙ ap (λ (xs : List (List ℕ)). after s xs w.versions w.keys w.values w.features) are;
    }))

walks_feature : (field : WireField) (fields : List WireField) (s q : LayerFields) → Onward fields q → Walks field fields s q 2
walks_feature field fields s q onward w =
    let (x, others, are, read, reads) = first_one (λ (f : WireField) (x : Tagged). read_tagged f ≡ Ok x) (at_number field 2) (fields_of_number 2 fields) w.features w.feature_fields in
    let next : LayerFields = record s { features = s.features ++ x ∷ [] } in
    let (b, content, read_at) = then_ok (bytes_in field.at field.payload) (λ (b : List ℕ). feature_at field.at (content_start field) b) x read in
    then_is (layer_step s (at_number field 2)) (λ (next : LayerFields). rest_of next fields) next q
    (then_is (bytes_in field.at field.payload) (λ (b : List ℕ). feature_at field.at (content_start field) b then λ x. Ok (record s { features = s.features ++ x ∷ [] })) b next content
    (then_is (feature_at field.at (content_start field) b) (λ (x : Tagged). Ok (record s { features = s.features ++ x ∷ [] })) x next read_at refl))
    (onward next (record {
      names = w.names;
      features = others;
      keys = w.keys;
      values = w.values;
      extents = w.extents;
      versions = w.versions;
      name_fields = w.name_fields;
      feature_fields = reads;
      key_fields = w.key_fields;
      value_fields = w.value_fields;
      extent_fields = w.extent_fields;
      version_fields = w.version_fields;
      made = w.made ∙ ap (λ (xs : List Tagged). after s w.names w.versions w.keys w.values xs) are
          ∙ ap (λ (xs : List Tagged). record (after s w.names w.versions w.keys w.values others) { features = xs }) (sym (append_assoc s.features (x ∷ []) others));
    }))

walks_key : (field : WireField) (fields : List WireField) (s q : LayerFields) → Onward fields q → Walks field fields s q 3
walks_key field fields s q onward w =
    let (x, others, are, read, reads) = first_one (λ (f : WireField) (x : List ℕ). read_text f ≡ Ok x) (at_number field 3) (fields_of_number 3 fields) w.keys w.key_fields in
    let next : LayerFields = record s { keys = s.keys ++ x ∷ [] } in
    then_is (layer_step s (at_number field 3)) (λ (next : LayerFields). rest_of next fields) next q (then_is (read_text field) (λ (x : List ℕ). Ok (record s { keys = s.keys ++ x ∷ [] })) x next read refl)
    (onward next (record {
      names = w.names;
      features = w.features;
      keys = others;
      values = w.values;
      extents = w.extents;
      versions = w.versions;
      name_fields = w.name_fields;
      feature_fields = w.feature_fields;
      key_fields = reads;
      value_fields = w.value_fields;
      extent_fields = w.extent_fields;
      version_fields = w.version_fields;
      made = w.made ∙ ap (λ (xs : List (List ℕ)). after s w.names w.versions xs w.values w.features) are
          ∙ ap (λ (xs : List (List ℕ)). record (after s w.names w.versions others w.values w.features) { keys = xs }) (sym (append_assoc s.keys (x ∷ []) others));
    }))

walks_value : (field : WireField) (fields : List WireField) (s q : LayerFields) → Onward fields q → Walks field fields s q 4
walks_value field fields s q onward w =
    let (x, others, are, read, reads) = first_one (λ (f : WireField) (x : Data). read_value f ≡ Ok x) (at_number field 4) (fields_of_number 4 fields) w.values w.value_fields in
    let next : LayerFields = record s { values = s.values ++ x ∷ [] } in
    let (b, content, read_at) = then_ok (bytes_in field.at field.payload) (λ (b : List ℕ). value_at field.at (content_start field) b) x read in
    then_is (layer_step s (at_number field 4)) (λ (next : LayerFields). rest_of next fields) next q
    (then_is (bytes_in field.at field.payload) (λ (b : List ℕ). value_at field.at (content_start field) b then λ x. Ok (record s { values = s.values ++ x ∷ [] })) b next content
    (then_is (value_at field.at (content_start field) b) (λ (x : Data). Ok (record s { values = s.values ++ x ∷ [] })) x next read_at refl))
    (onward next (record {
      names = w.names;
      features = w.features;
      keys = w.keys;
      values = others;
      extents = w.extents;
      versions = w.versions;
      name_fields = w.name_fields;
      feature_fields = w.feature_fields;
      key_fields = w.key_fields;
      value_fields = reads;
      extent_fields = w.extent_fields;
      version_fields = w.version_fields;
      made = w.made ∙ ap (λ (xs : List Data). after s w.names w.versions w.keys xs w.features) are
          ∙ ap (λ (xs : List Data). record (after s w.names w.versions w.keys others w.features) { values = xs }) (sym (append_assoc s.values (x ∷ []) others));
    }))

walks_extent : (field : WireField) (fields : List WireField) (s q : LayerFields) → Onward fields q → Walks field fields s q 5
walks_extent field fields s q onward w =
    let (n, others, are, read, reads) = first_one (λ (f : WireField) (n : ℕ). read_number f ≡ Ok n) (at_number field 5) (fields_of_number 5 fields) w.extents w.extent_fields in
    then_is (layer_step s (at_number field 5)) (λ (next : LayerFields). rest_of next fields) s q (then_is (read_number field) (λ (_ : ℕ). Ok s) n s read refl)
    (onward s (record {
      names = w.names;
      features = w.features;
      keys = w.keys;
      values = w.values;
      extents = others;
      versions = w.versions;
      name_fields = w.name_fields;
      feature_fields = w.feature_fields;
      key_fields = w.key_fields;
      value_fields = w.value_fields;
      extent_fields = reads;
      version_fields = w.version_fields;
      made = w.made;
    }))

walks_version : (field : WireField) (fields : List WireField) (s q : LayerFields) → Onward fields q → Walks field fields s q 15
walks_version field fields s q onward w =
    let (n, others, are, read, reads) = first_one (λ (f : WireField) (n : ℕ). read_number f ≡ Ok n) (at_number field 15) (fields_of_number 15 fields) w.versions w.version_fields in
    let next : LayerFields = record s { version = Some n } in
    then_is (layer_step s (at_number field 15)) (λ (next : LayerFields). rest_of next fields) next q (then_is (read_number field) (λ (n : ℕ). Ok (record s { version = Some n })) n next read refl)
    (onward next (record {
      names = w.names;
      features = w.features;
      keys = w.keys;
      values = w.values;
      extents = w.extents;
      versions = others;
      name_fields = w.name_fields;
      feature_fields = w.feature_fields;
      key_fields = w.key_fields;
      value_fields = w.value_fields;
      extent_fields = w.extent_fields;
      version_fields = reads;
      made = w.made ∙ ap (λ (ns : List ℕ). after s w.names ns w.keys w.values w.features) are;
    }))

walks_other : (field : WireField) (fields : List WireField) (s q : LayerFields) → Onward fields q → Other field.number → Walks field fields s q field.number
walks_other field fields s q onward o w =
    ap (λ (m : LayerMember). layer_field m s field then λ next. rest_of next fields) (other_member field.number o)
    ∙ onward s (record {
      names = w.names;
      features = w.features;
      keys = w.keys;
      values = w.values;
      extents = w.extents;
      versions = w.versions;
      name_fields = unpassed 1 read_text field fields w.names o.d1 w.name_fields;
      feature_fields = unpassed 2 read_tagged field fields w.features o.d2 w.feature_fields;
      key_fields = unpassed 3 read_text field fields w.keys o.d3 w.key_fields;
      value_fields = unpassed 4 read_value field fields w.values o.d4 w.value_fields;
      extent_fields = unpassed 5 read_number field fields w.extents o.d5 w.extent_fields;
      version_fields = unpassed 15 read_number field fields w.versions o.d15 w.version_fields;
      made = w.made;
    })

nothing_read : {A : Type 0} (number : ℕ) (read : WireField → Result A TileFault) (things : List A) → Reads number read [] things → things ≡ []
nothing_read number read [] reads = refl
nothing_read number read (x ∷ things) reads = absurd reads

walk_is : (fields : List WireField) (s q : LayerFields) → Walk fields s q → rest_of s fields ≡ Ok q
walk_is [] s q w =
    let names = nothing_read 1 read_text w.names w.name_fields in
    let features = nothing_read 2 read_tagged w.features w.feature_fields in
    let keys = nothing_read 3 read_text w.keys w.key_fields in
    let values = nothing_read 4 read_value w.values w.value_fields in
    let versions = nothing_read 15 read_number w.versions w.version_fields in
    ap Ok (sym (w.made
    ∙ ap (λ (xs : List (List ℕ)). after s xs w.versions w.keys w.values w.features) names
    ∙ ap (λ (xs : List ℕ). after s [] xs w.keys w.values w.features) versions
    ∙ ap (λ (xs : List (List ℕ)). after s [] [] xs w.values w.features) keys
    ∙ ap (λ (xs : List Data). after s [] [] [] xs w.features) values
    ∙ ap (λ (xs : List Tagged). after s [] [] [] [] xs) features
    ∙ ap (λ (xs : List (List ℕ)). record s { keys = xs; values = s.values ++ []; features = s.features ++ [] }) (append-nil s.keys)
    ∙ ap (λ (xs : List Data). record s { values = xs; features = s.features ++ [] }) (append-nil s.values)
    ∙ ap (λ (xs : List Tagged). record s { features = xs }) (append-nil s.features)))
walk_is (field ∷ fields) s q w =
    let onward : Onward fields q = λ next. walk_is fields next q in
    by_number (Walks field fields s q) field.number 1 (walks_name field fields s q onward) (λ d1.
    by_number (Walks field fields s q) field.number 2 (walks_feature field fields s q onward) (λ d2.
    by_number (Walks field fields s q) field.number 3 (walks_key field fields s q onward) (λ d3.
    by_number (Walks field fields s q) field.number 4 (walks_value field fields s q onward) (λ d4.
    by_number (Walks field fields s q) field.number 5 (walks_extent field fields s q onward) (λ d5.
    by_number (Walks field fields s q) field.number 15 (walks_version field fields s q onward) (λ d15.
    walks_other field fields s q onward (record { d1 = d1; d2 = d2; d3 = d3; d4 = d4; d5 = d5; d15 = d15 }))))))) w

-- the features of a layer
feature_joined : (keys : List (List ℕ)) (values : List Data) (field : WireField) (tagged : Tagged) (feature : Feature) → read_tagged field ≡ Ok tagged → IsOf keys values tagged feature → IsFeature keys values field feature
feature_joined keys values field tagged feature read made =
    let t = tagged_ok field tagged read in
    let m = made_ok keys values tagged feature made in
    let are = subst (λ (i : Option ℕ). AreFeatureFields t.fields i feature.shape tagged.tags) (sym m.id) (subst (λ (k : shape.Shape). AreFeatureFields t.fields tagged.id k tagged.tags) (sym m.shape) t.are) in
    (t.fields, t.message, tagged.tags, are, m.pairs, m.are, m.properties)

features_split : (keys : List (List ℕ)) (values : List Data) (fields : List WireField) (features : List Feature) → OneByOne (IsFeature keys values) fields features → (tagged : List Tagged) × OneByOne (λ (f : WireField) (t : Tagged). read_tagged f ≡ Ok t) fields tagged × OneByOne (IsOf keys values) tagged features
features_split keys values [] [] are = ([], tt, tt)
features_split keys values [] (feature ∷ features) are = absurd are
features_split keys values (field ∷ fields) [] are = absurd are
features_split keys values (field ∷ fields) (feature ∷ features) ((inner, held, tags, have, pairs, named, properties), are) =
    let (others, reads, made) = features_split keys values fields features are in
    let tagged : Tagged = record { at = field.at; id = feature.id; shape = feature.shape; tags = tags } in (
      tagged ∷ others,
      (tagged_is field tagged (record { fields = inner; message = held; are = have; place = refl }), reads),
      (made_is keys values tagged feature (record { pairs = pairs; are = named; properties = properties; id = refl; shape = refl }), made),
    )

-- what a layer lacks at its end
pub name_ok : (at : ℕ) (o : Option (List ℕ)) (name : List ℕ) → name_of at o ≡ Ok name → o ≡ Some name
name_ok at None name e = absurd (cc)
name_ok at (Some s) name e = let same : s ≡ name = cc in ap Some same

abbrev pub IsVersion : Option ℕ → Type 0
IsVersion o = (o ≡ Some 1) ⊎ (o ≡ Some 2)

pub version_ok : (at : ℕ) (o : Option ℕ) (v : ℕ) → version_of at o ≡ Ok v → IsVersion o
version_ok at None v e = absurd (cc)
version_ok at (Some n) v e =
    let P : ℕ → Type 0 = λ n. version_of at (Some n) ≡ Ok v → IsVersion (Some n) in
    by_number P n 1 (λ _. inl refl) (λ d1. by_number P n 2 (λ _. inr refl) (λ d2. λ e.
    let none : version_of at (Some n) ≡ refused kind.Version at = rw d1 (rw d2 refl) in absurd (cc))) e

version_is : (at : ℕ) (o : Option ℕ) → IsVersion o → (v : ℕ) × (version_of at o ≡ Ok v)
version_is at o (inl e) = (1, ap (version_of at) e)
version_is at o (inr e) = (2, ap (version_of at) e)

pub new_at : (at : ℕ) (name x : List ℕ) (t : Bool) → (if t then refused kind.RepeatedName at else Ok name) ≡ Ok x → t ≡ false
new_at at name x true e = absurd (cc)
new_at at name x false e = refl

-- a layer is read after others of these names
abbrev pub read_layer : List (List ℕ) → WireField → Result TileLayer TileFault
read_layer earlier field = bytes_in field.at field.payload then λ b. layer_at field.at (content_start field) earlier b

pub layer_ok : (earlier : List (List ℕ)) (field : WireField) (layer : TileLayer) → read_layer earlier field ≡ Ok layer → IsLayer field layer × (list_any (bytes_eq layer.name) earlier ≡ false)
layer_ok earlier field layer e =
    let at : ℕ = field.at in
    let (content, held, read) = then_ok (bytes_in at field.payload) (λ (b : List ℕ). layer_at field.at (content_start field) earlier b) layer e in
    let (parts, walked, ended) = then_ok (read_fields layer_step no_parts (message (content_start field) content)) (layer_end at earlier) layer read in
    let (fields, are, goes) = message_ok layer_step no_parts parts (content_start field) content walked in
    let w = walk_ok fields no_parts parts goes in
    let (name, named, e1) = then_ok (name_of at parts.name) (λ (name : List ℕ). version_of at parts.version then λ _. new_name at earlier name then λ _. features_of parts.keys parts.values [] parts.features then λ features. Ok (record { name = name; features = features })) layer ended in
    let (v, versioned, e2) = then_ok (version_of at parts.version) (λ (_ : ℕ). new_name at earlier name then λ _. features_of parts.keys parts.values [] parts.features then λ features. Ok (record { name = name; features = features })) layer e1 in
    let (x, new, e3) = then_ok (new_name at earlier name) (λ (_ : List ℕ). features_of parts.keys parts.values [] parts.features then λ features. Ok (record { name = name; features = features })) layer e2 in
    let (features, made, e4) = then_ok (features_of parts.keys parts.values [] parts.features) (λ (features : List Feature). Ok (record { name = name; features = features })) layer e3 in
    let (same, ones, is) = features_ok parts.keys parts.values parts.features [] features made in
    let whole : ◌≡◌ {A = TileLayer} (record { name = name; features = features }) layer = cc in
    let name_is : name ≡ layer.name = ap (λ (l : TileLayer). l.name) whole in
    let features_are : same ≡ layer.features = sym is ∙ ap (λ (l : TileLayer). l.features) whole in
    let keys_are : parts.keys ≡ w.keys = ap (λ (p : LayerFields). p.keys) w.made in
    let values_are : parts.values ≡ w.values = ap (λ (p : LayerFields). p.values) w.made in
    let tagged_are : parts.features ≡ w.features = ap (λ (p : LayerFields). p.features) w.made in
    let made_ones : OneByOne (IsOf w.keys w.values) w.features layer.features =
    subst (λ (p : LayerFields). OneByOne (IsOf p.keys p.values) p.features layer.features) w.made (subst (λ (fs : List Feature). OneByOne (IsOf parts.keys parts.values) parts.features fs) features_are ones) in (
      (
        fields,
        (content, bytes_ok at field.payload content held, are),
        record {
          names = (
            w.names,
            each_one (λ (f : WireField) (x : List ℕ). read_text f ≡ Ok x) IsText (λ f x. text_ok f.at f.payload x) (fields_of_number 1 fields) w.names w.name_fields,
            sym (ap (λ (p : LayerFields). p.name) w.made) ∙ name_ok at parts.name name named ∙ ap Some name_is,
          );
          features = (
            w.keys,
            each_one (λ (f : WireField) (x : List ℕ). read_text f ≡ Ok x) IsText (λ f x. text_ok f.at f.payload x) (fields_of_number 3 fields) w.keys w.key_fields,
            w.values,
            each_one (λ (f : WireField) (x : Data). read_value f ≡ Ok x) IsValue value_ok (fields_of_number 4 fields) w.values w.value_fields,
            one_by_one (λ (f : WireField) (t : Tagged). read_tagged f ≡ Ok t) (IsOf w.keys w.values) (IsFeature w.keys w.values) (feature_joined w.keys w.values) (fields_of_number 2 fields) w.features layer.features w.feature_fields made_ones,
          );
          extents = (w.extents, each_one (λ (f : WireField) (n : ℕ). read_number f ≡ Ok n) IsNumber (λ f n. number_ok f.at f.payload n) (fields_of_number 5 fields) w.extents w.extent_fields);
          versions = (
            w.versions,
            each_one (λ (f : WireField) (n : ℕ). read_number f ≡ Ok n) IsNumber (λ f n. number_ok f.at f.payload n) (fields_of_number 15 fields) w.versions w.version_fields,
            subst IsVersion (ap (λ (p : LayerFields). p.version) w.made) (version_ok at parts.version v versioned),
          );
        },
      ),
      ap (λ (s : List ℕ). list_any (bytes_eq s) earlier) (sym name_is) ∙ new_at at name x (list_any (bytes_eq name) earlier) new,
    )

pub layer_is : (earlier : List (List ℕ)) (field : WireField) (layer : TileLayer) → IsLayer field layer → list_any (bytes_eq layer.name) earlier ≡ false → read_layer earlier field ≡ Ok layer
layer_is earlier field layer (fields, (content, held, are), have) new =
    let at : ℕ = field.at in
    let (names, name_fields, name_last) = have.names in
    let (keys, key_fields, values, value_fields, feature_fields) = have.features in
    let (extents, extent_fields) = have.extents in
    let (versions, version_fields, version_last) = have.versions in
    let (tagged, reads, made) = features_split keys values (fields_of_number 2 fields) layer.features feature_fields in
    let parts : LayerFields = record { name = last_of names; version = last_of versions; keys = keys; values = values; features = tagged } in
    let w : Walk fields no_parts parts = record {
      names = names;
      features = tagged;
      keys = keys;
      values = values;
      extents = extents;
      versions = versions;
      name_fields = each_one IsText (λ (f : WireField) (x : List ℕ). read_text f ≡ Ok x) (λ f x t. text_is f.at f.payload x t.0 t.1) (fields_of_number 1 fields) names name_fields;
      feature_fields = reads;
      key_fields = each_one IsText (λ (f : WireField) (x : List ℕ). read_text f ≡ Ok x) (λ f x t. text_is f.at f.payload x t.0 t.1) (fields_of_number 3 fields) keys key_fields;
      value_fields = each_one IsValue (λ (f : WireField) (x : Data). read_value f ≡ Ok x) value_is (fields_of_number 4 fields) values value_fields;
      extent_fields = each_one IsNumber (λ (f : WireField) (n : ℕ). read_number f ≡ Ok n) (λ f n. number_is f.at f.payload n) (fields_of_number 5 fields) extents extent_fields;
      version_fields = each_one IsNumber (λ (f : WireField) (n : ℕ). read_number f ≡ Ok n) (λ f n. number_is f.at f.payload n) (fields_of_number 15 fields) versions version_fields;
      made = refl;
    } in
    let (v, versioned) = version_is at (last_of versions) version_last in
    let features : Result (List Feature) TileFault = features_of keys values [] tagged in
    then_is (bytes_in at field.payload) (λ (b : List ℕ). layer_at field.at (content_start field) earlier b) content layer (bytes_is at field.payload content held)
    (then_is (read_fields layer_step no_parts (message (content_start field) content)) (layer_end at earlier) parts layer
    (message_is layer_step no_parts parts (content_start field) content fields are (walk_is fields no_parts parts w))
    (ap (λ (o : Option (List ℕ)). name_of at o then λ name. version_of at (last_of versions) then λ _. new_name at earlier name then λ _. features then λ fs. Ok (record { name = name; features = fs })) name_last
    ∙ ap (λ (r : Result ℕ TileFault). r then λ _. new_name at earlier layer.name then λ _. features then λ fs. Ok (record { name = layer.name; features = fs })) versioned
    ∙ ap (λ (t : Bool). (if t then refused kind.RepeatedName at else Ok layer.name) then λ (_ : List ℕ). features then λ fs. Ok (record { name = layer.name; features = fs })) new
    ∙ ap (λ (r : Result (List Feature) TileFault). r then λ fs. Ok (record { name = layer.name; features = fs })) (features_is keys values tagged [] layer.features made)))

-- for the faults: what is before one
pub so_far_ok : (fields : List WireField) (parts : LayerFields) → rest_of no_parts fields ≡ Ok parts → (layer : LayerSoFar) × AreLayerSoFar fields layer × (parts ≡ record { name = last_of layer.names; version = last_of layer.versions; keys = layer.keys; values = layer.values; features = layer.features })
so_far_ok fields parts walked =
    let w = walk_ok fields no_parts parts walked in (
      record { names = w.names; features = w.features; keys = w.keys; values = w.values; extents = w.extents; versions = w.versions },
      record {
        name_fields = each_one (λ (f : WireField) (x : List ℕ). read_text f ≡ Ok x) IsText (λ f x. text_ok f.at f.payload x) (fields_of_number 1 fields) w.names w.name_fields;
        feature_fields = each_one (λ (f : WireField) (t : Tagged). read_tagged f ≡ Ok t) IsTagged tagged_ok (fields_of_number 2 fields) w.features w.feature_fields;
        key_fields = each_one (λ (f : WireField) (x : List ℕ). read_text f ≡ Ok x) IsText (λ f x. text_ok f.at f.payload x) (fields_of_number 3 fields) w.keys w.key_fields;
        value_fields = each_one (λ (f : WireField) (x : Data). read_value f ≡ Ok x) IsValue value_ok (fields_of_number 4 fields) w.values w.value_fields;
        extent_fields = each_one (λ (f : WireField) (n : ℕ). read_number f ≡ Ok n) IsNumber (λ f n. number_ok f.at f.payload n) (fields_of_number 5 fields) w.extents w.extent_fields;
        version_fields = each_one (λ (f : WireField) (n : ℕ). read_number f ≡ Ok n) IsNumber (λ f n. number_ok f.at f.payload n) (fields_of_number 15 fields) w.versions w.version_fields;
      },
      w.made,
    )
