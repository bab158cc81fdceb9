-- The fields of a feature are read where its format has them.
use Rattle.std.proofs.Common.{◌≡◌, ℕ, inl, inr, List, [], ◌∷◌, ◌++◌, refl, sym, ap, ◌∙◌, append_assoc, arith, length, false}
use Rattle.std.specs.Prelude.{map, Option, Some, None, Result, Ok, Err, if◌then◌else◌, nat_eq}
use Rattle.std.proofs.lemmas.List.{append-nil, length-append}
use Rattle.proto_wire.specs.declared.wire.WireKind.{WireKind}
use Rattle.proto_wire.specs.Varint.{varint_at}
use Rattle.proto_wire.specs.Message.{Payload, varint, bits64, bytes, bits32, WireField, content_start}
use Rattle.tile_reader.specs.declared.fault.TileFault.{TileFault}
use Rattle.tile_reader.specs.declared.tile.Shape as shape
use Rattle.tile_reader.specs.declared.tile.Shape.TheVariants as shapes
use Rattle.tile_reader.specs.declared.feature.FeatureMember.TheVariants as member
use Rattle.tile_reader.specs.declared.feature.FeatureMember.{FeatureMember}
use Rattle.tile_reader.specs.Read.{◌then◌, along, number_in, bytes_in}
use Rattle.tile_reader.specs.Feature.{Tagged, feature_member, feature_field, feature_step, feature_at, untagged, tags_in, geometry_in, shape_of, packed, placed, number_before, number_after}
use Rattle.tile_reader.specs.Format.{OneByOne, Each, fields_of_number, last_else, last_of, concatenation, IsNumber, AreTags, ArePacked, IsShape, shape_number, IsGeometry, AreFeatureFields}
use Rattle.tile_reader.specs.FirstFault.{IsTagged}
use Rattle.proto_wire.proofs.VarintLaws.{varint_front}
use Rattle.tile_reader.specs.declared.fault.TileKind.TheVariants.{GeometryType}
use Rattle.tile_reader.proofs.Packed.{packed_end, packed_front}
use Rattle.tile_reader.proofs.Parts.{then_ok, then_is, number_ok, number_is, bytes_ok, bytes_is, message_ok, message_is, by_number, each_one, first_one, Reads, passed, unpassed}

-- what each field holds
abbrev pub read_id : WireField → Result ℕ TileFault
read_id field = number_in field.at field.payload

abbrev pub read_tags : WireField → Result (List ℕ) TileFault
read_tags field = tags_in field.at field.payload

abbrev pub read_shape : WireField → Result shape.Shape TileFault
read_shape field = number_in field.at field.payload then λ n. shape_of field.at n

abbrev pub read_geometry : WireField → Result (Unit {0}) TileFault
read_geometry field = geometry_in field.at field.payload

abbrev after : Tagged → List ℕ → List shape.Shape → List (List ℕ) → Tagged
after s ids kinds parts = record { at = s.at; id = last_else s.id (map Some ids); shape = last_else s.shape kinds; tags = s.tags ++ concatenation parts }

-- a walk over the fields, from one state to another
record Walk (fields : List WireField) (s q : Tagged) : Type 0 where
  ids : List ℕ
  parts : List (List ℕ)
  kinds : List shape.Shape
  units : List (Unit {0})
  id_fields : Reads 1 read_id fields ids
  tag_fields : Reads 2 read_tags fields parts
  kind_fields : Reads 3 read_shape fields kinds
  geometry : Reads 4 read_geometry fields units
  made : q ≡ after s ids kinds parts

abbrev pub rest_of : Tagged → List WireField → Result Tagged TileFault
rest_of s fields = along feature_step s fields None

abbrev pub at_number : WireField → ℕ → WireField
at_number field n = record { number = n; at = field.at; end = field.end; payload = field.payload }

pub other_member : (n : ℕ) → nat_eq n 1 ≡ false → nat_eq n 2 ≡ false → nat_eq n 3 ≡ false → nat_eq n 4 ≡ false → feature_member n ≡ member.Unknown
other_member n d1 d2 d3 d4 = rw d1 (rw d2 (rw d3 (rw d4 refl)))

-- from what was read to the fields
abbrev Walked : WireField → List WireField → Tagged → Tagged → ℕ → Type 0
Walked field fields s q n = (feature_step s (at_number field n) then λ next. rest_of next fields) ≡ Ok q → Walk (at_number field n ∷ fields) s q

walked_id : (field : WireField) (fields : List WireField) (s q : Tagged) → ((next : Tagged) → rest_of next fields ≡ Ok q → Walk fields next q) → Walked field fields s q 1
walked_id field fields s q later e =
    let (next, stepped, onward) = then_ok (feature_step s (at_number field 1)) (λ (next : Tagged). rest_of next fields) q e in
    let (n, read, made) = then_ok (read_id field) (λ (n : ℕ). Ok (record s { id = Some n })) next stepped in
    let w = later next onward in
    let is : next ≡ record s { id = Some n } = cc in
    record {
      ids = n ∷ w.ids;
      parts = w.parts;
      kinds = w.kinds;
      units = w.units;
      id_fields = (read, w.id_fields);
      tag_fields = w.tag_fields;
      kind_fields = w.kind_fields;
      geometry = w.geometry;
      made = w.made ∙ ap (λ (t : Tagged). after t w.ids w.kinds w.parts) is;
    }

walked_tags : (field : WireField) (fields : List WireField) (s q : Tagged) → ((next : Tagged) → rest_of next fields ≡ Ok q → Walk fields next q) → Walked field fields s q 2
walked_tags field fields s q later e =
    let (next, stepped, onward) = then_ok (feature_step s (at_number field 2)) (λ (next : Tagged). rest_of next fields) q e in
    let (ns, read, made) = then_ok (read_tags field) (λ (ns : List ℕ). Ok (record s { tags = s.tags ++ ns })) next stepped in
    let w = later next onward in
    let is : next ≡ record s { tags = s.tags ++ ns } = cc in
    record {
      ids = w.ids;
      parts = ns ∷ w.parts;
      kinds = w.kinds;
      units = w.units;
      id_fields = w.id_fields;
      tag_fields = (read, w.tag_fields);
      kind_fields = w.kind_fields;
      geometry = w.geometry;
      made = w.made ∙ ap (λ (t : Tagged). after t w.ids w.kinds w.parts) is
          ∙ ap (λ (ts : List ℕ). record { at = s.at; id = last_else s.id (map Some w.ids); shape = last_else s.shape w.kinds; tags = ts }) (append_assoc s.tags ns (concatenation w.parts));
    }

walked_shape : (field : WireField) (fields : List WireField) (s q : Tagged) → ((next : Tagged) → rest_of next fields ≡ Ok q → Walk fields next q) → Walked field fields s q 3
walked_shape field fields s q later e =
    let (next, stepped, onward) = then_ok (feature_step s (at_number field 3)) (λ (next : Tagged). rest_of next fields) q e in
    let (n, read, named) = then_ok (number_in field.at field.payload) (λ (n : ℕ). shape_of field.at n then λ k. Ok (record s { shape = k })) next stepped in
    let (k, is_shape, made) = then_ok (shape_of field.at n) (λ (k : shape.Shape). Ok (record s { shape = k })) next named in
    let w = later next onward in
    let is : next ≡ record s { shape = k } = cc in
    record {
      ids = w.ids;
      parts = w.parts;
      kinds = k ∷ w.kinds;
      units = w.units;
      id_fields = w.id_fields;
      tag_fields = w.tag_fields;
      kind_fields = (then_is (number_in field.at field.payload) (λ (n : ℕ). shape_of field.at n) n k read is_shape, w.kind_fields);
      geometry = w.geometry;
      made = w.made ∙ ap (λ (t : Tagged). after t w.ids w.kinds w.parts) is;
    }

walked_geometry : (field : WireField) (fields : List WireField) (s q : Tagged) → ((next : Tagged) → rest_of next fields ≡ Ok q → Walk fields next q) → Walked field fields s q 4
walked_geometry field fields s q later e =
    let (next, stepped, onward) = then_ok (feature_step s (at_number field 4)) (λ (next : Tagged). rest_of next fields) q e in
    let (u, read, made) = then_ok (read_geometry field) (λ (_ : Unit {0}). Ok s) next stepped in
    let w = later next onward in
    let is : next ≡ s = cc in
    record {
      ids = w.ids;
      parts = w.parts;
      kinds = w.kinds;
      units = u ∷ w.units;
      id_fields = w.id_fields;
      tag_fields = w.tag_fields;
      kind_fields = w.kind_fields;
      geometry = (read, w.geometry);
      made = w.made ∙ ap (λ (t : Tagged). after t w.ids w.kinds w.parts) is;
    }

walked_other : (field : WireField) (fields : List WireField) (s q : Tagged) → (rest_of s fields ≡ Ok q → Walk fields s q) → nat_eq field.number 1 ≡ false → nat_eq field.number 2 ≡ false → nat_eq field.number 3 ≡ false → nat_eq field.number 4 ≡ false → Walked field fields s q field.number
walked_other field fields s q later d1 d2 d3 d4 e =
    let unknown = other_member field.number d1 d2 d3 d4 in
    let w = later (sym (ap (λ (m : FeatureMember). feature_field m s field then λ next. rest_of next fields) unknown) ∙ e) in
    record {
      ids = w.ids;
      parts = w.parts;
      kinds = w.kinds;
      units = w.units;
      id_fields = passed 1 read_id field fields w.ids d1 w.id_fields;
      tag_fields = passed 2 read_tags field fields w.parts d2 w.tag_fields;
      kind_fields = passed 3 read_shape field fields w.kinds d3 w.kind_fields;
      geometry = passed 4 read_geometry field fields w.units d4 w.geometry;
      made = w.made;
    }

walk_ok : (fields : List WireField) (s q : Tagged) → rest_of s fields ≡ Ok q → Walk fields s q
walk_ok [] s q e =
    let is : q ≡ s = cc in
    record {
      ids = [];
      parts = [];
      kinds = [];
      units = [];
      id_fields = tt;
      tag_fields = tt;
      kind_fields = tt;
      geometry = tt;
      made = is ∙ ap (λ (ts : List ℕ). record s { tags = ts }) (sym (append-nil s.tags));
    }
walk_ok (field ∷ fields) s q e =
    let later : (next : Tagged) → rest_of next fields ≡ Ok q → Walk fields next q = λ next. walk_ok fields next q in
    by_number (Walked field fields s q) field.number 1 (walked_id field fields s q later) (λ d1.
    by_number (Walked field fields s q) field.number 2 (walked_tags field fields s q later) (λ d2.
    by_number (Walked field fields s q) field.number 3 (walked_shape field fields s q later) (λ d3.
    by_number (Walked field fields s q) field.number 4 (walked_geometry field fields s q later) (λ d4.
    walked_other field fields s q (later s) d1 d2 d3 d4)))) e

-- and from the fields to what is read
abbrev Walks : WireField → List WireField → Tagged → Tagged → ℕ → Type 0
Walks field fields s q n = Walk (at_number field n ∷ fields) s q → (feature_step s (at_number field n) then λ next. rest_of next fields) ≡ Ok q

walks_id : (field : WireField) (fields : List WireField) (s q : Tagged) → ((next : Tagged) → Walk fields next q → rest_of next fields ≡ Ok q) → Walks field fields s q 1
walks_id field fields s q later w =
    let (n, others, are, read, reads) = first_one (λ (f : WireField) (n : ℕ). read_id f ≡ Ok n) (at_number field 1) (fields_of_number 1 fields) w.ids w.id_fields in
    let next : Tagged = record s { id = Some n } in
    let onward = later next (record {
      ids = others;
      parts = w.parts;
      kinds = w.kinds;
      units = w.units;
      id_fields = reads;
      tag_fields = w.tag_fields;
      kind_fields = w.kind_fields;
      geometry = w.geometry;
      made = w.made ∙ ap (λ (ns : List ℕ). after s ns w.kinds w.parts) are;
    }) in
    then_is (feature_step s (at_number field 1)) (λ (next : Tagged). rest_of next fields) next q (then_is (read_id field) (λ (n : ℕ). Ok (record s { id = Some n })) n next read refl) onward

walks_tags : (field : WireField) (fields : List WireField) (s q : Tagged) → ((next : Tagged) → Walk fields next q → rest_of next fields ≡ Ok q) → Walks field fields s q 2
walks_tags field fields s q later w =
    let (ns, others, are, read, reads) = first_one (λ (f : WireField) (ns : List ℕ). read_tags f ≡ Ok ns) (at_number field 2) (fields_of_number 2 fields) w.parts w.tag_fields in
    let next : Tagged = record s { tags = s.tags ++ ns } in
    let onward = later next (record {
      ids = w.ids;
      parts = others;
      kinds = w.kinds;
      units = w.units;
      id_fields = w.id_fields;
      tag_fields = reads;
      kind_fields = w.kind_fields;
      geometry = w.geometry;
      made = w.made ∙ ap (λ (ps : List (List ℕ)). after s w.ids w.kinds ps) are
          ∙ ap (λ (ts : List ℕ). record { at = s.at; id = last_else s.id (map Some w.ids); shape = last_else s.shape w.kinds; tags = ts }) (sym (append_assoc s.tags ns (concatenation others)));
    }) in
    then_is (feature_step s (at_number field 2)) (λ (next : Tagged). rest_of next fields) next q (then_is (read_tags field) (λ (ns : List ℕ). Ok (record s { tags = s.tags ++ ns })) ns next read refl) onward

walks_shape : (field : WireField) (fields : List WireField) (s q : Tagged) → ((next : Tagged) → Walk fields next q → rest_of next fields ≡ Ok q) → Walks field fields s q 3
walks_shape field fields s q later w =
    let (k, others, are, read, reads) = first_one (λ (f : WireField) (k : shape.Shape). read_shape f ≡ Ok k) (at_number field 3) (fields_of_number 3 fields) w.kinds w.kind_fields in
    let next : Tagged = record s { shape = k } in
    let onward = later next (record {
      ids = w.ids;
      parts = w.parts;
      kinds = others;
      units = w.units;
      id_fields = w.id_fields;
      tag_fields = w.tag_fields;
      kind_fields = reads;
      geometry = w.geometry;
      made = w.made ∙ ap (λ (ks : List shape.Shape). after s w.ids ks w.parts) are;
    }) in
    let (n, number, named) = then_ok (number_in field.at field.payload) (λ (n : ℕ). shape_of field.at n) k read in
    then_is (feature_step s (at_number field 3)) (λ (next : Tagged). rest_of next fields) next q
    (then_is (number_in field.at field.payload) (λ (n : ℕ). shape_of field.at n then λ k. Ok (record s { shape = k })) n next number
    (then_is (shape_of field.at n) (λ (k : shape.Shape). Ok (record s { shape = k })) k next named refl)) onward

walks_geometry : (field : WireField) (fields : List WireField) (s q : Tagged) → ((next : Tagged) → Walk fields next q → rest_of next fields ≡ Ok q) → Walks field fields s q 4
walks_geometry field fields s q later w =
    let (u, others, are, read, reads) = first_one (λ (f : WireField) (u : Unit {0}). read_geometry f ≡ Ok u) (at_number field 4) (fields_of_number 4 fields) w.units w.geometry in
    let onward = later s (record {
      ids = w.ids;
      parts = w.parts;
      kinds = w.kinds;
      units = others;
      id_fields = w.id_fields;
      tag_fields = w.tag_fields;
      kind_fields = w.kind_fields;
      geometry = reads;
      made = w.made;
    }) in
    then_is (feature_step s (at_number field 4)) (λ (next : Tagged). rest_of next fields) s q (then_is (read_geometry field) (λ (_ : Unit {0}). Ok s) u s read refl) onward

walks_other : (field : WireField) (fields : List WireField) (s q : Tagged) → (Walk fields s q → rest_of s fields ≡ Ok q) → nat_eq field.number 1 ≡ false → nat_eq field.number 2 ≡ false → nat_eq field.number 3 ≡ false → nat_eq field.number 4 ≡ false → Walks field fields s q field.number
walks_other field fields s q later d1 d2 d3 d4 w =
    let unknown = other_member field.number d1 d2 d3 d4 in
    ap (λ (m : FeatureMember). feature_field m s field then λ next. rest_of next fields) unknown
    ∙ later (record {
      ids = w.ids;
      parts = w.parts;
      kinds = w.kinds;
      units = w.units;
      id_fields = unpassed 1 read_id field fields w.ids d1 w.id_fields;
      tag_fields = unpassed 2 read_tags field fields w.parts d2 w.tag_fields;
      kind_fields = unpassed 3 read_shape field fields w.kinds d3 w.kind_fields;
      geometry = unpassed 4 read_geometry field fields w.units d4 w.geometry;
      made = w.made;
    })

walk_is : (fields : List WireField) (s q : Tagged) → Walk fields s q → rest_of s fields ≡ Ok q
walk_is [] s q w = ends w.ids w.kinds w.parts w.id_fields w.kind_fields w.tag_fields w.made
  where
    ends : (ids : List ℕ) (kinds : List shape.Shape) (parts : List (List ℕ)) → Reads 1 read_id [] ids → Reads 3 read_shape [] kinds → Reads 2 read_tags [] parts → q ≡ after s ids kinds parts → ◌≡◌ {A = Result Tagged TileFault} (Ok s) (Ok q)
    ends [] [] [] i k t made = ap Ok (sym (made ∙ ap (λ (ts : List ℕ). record s { tags = ts }) (append-nil s.tags)))
    ends (x ∷ ids) kinds parts i k t made = absurd i
    ends [] (x ∷ kinds) parts i k t made = absurd k
    ends [] [] (x ∷ parts) i k t made = absurd t
walk_is (field ∷ fields) s q w =
    let later : (next : Tagged) → Walk fields next q → rest_of next fields ≡ Ok q = λ next. walk_is fields next q in
    by_number (Walks field fields s q) field.number 1 (walks_id field fields s q later) (λ d1.
    by_number (Walks field fields s q) field.number 2 (walks_tags field fields s q later) (λ d2.
    by_number (Walks field fields s q) field.number 3 (walks_shape field fields s q later) (λ d3.
    by_number (Walks field fields s q) field.number 4 (walks_geometry field fields s q later) (λ d4.
    walks_other field fields s q (later s) d1 d2 d3 d4)))) w

-- packed numbers
numbers_ok : (read : Result (ℕ × List ℕ) WireKind) (n : ℕ) (ns : List ℕ) → number_before read packed ≡ Ok (n ∷ ns) → (rest : List ℕ) × (read ≡ Ok (n, rest)) × (packed rest ≡ Ok ns)
numbers_ok (Err kind) n ns e = absurd (cc)
numbers_ok (Ok (m, rest)) n ns e = numbers_after m rest n ns (packed rest) refl e
  where
    numbers_after : (m : ℕ) (rest : List ℕ) (n : ℕ) (ns : List ℕ) (others : Result (List ℕ) WireKind) → packed rest ≡ others → number_after m others ≡ Ok (n ∷ ns) → (left : List ℕ) × (◌≡◌ {A = Result (ℕ × List ℕ) WireKind} (Ok (m, rest)) (Ok (n, left))) × (packed left ≡ Ok ns)
    numbers_after m rest n ns (Ok ms) is e = let first : m ≡ n = cc in let others : ms ≡ ns = cc in (rest, ap (λ (k : ℕ). Ok (k, rest)) first, is ∙ ap Ok others)
    numbers_after m rest n ns (Err kind) is e = absurd (cc)

no_numbers : (read : Result (ℕ × List ℕ) WireKind) → number_before read packed ≡ Ok [] → ⊥
no_numbers (Err kind) e = cc
no_numbers (Ok (m, rest)) e = no_after m (packed rest) e
  where
    no_after : (m : ℕ) (others : Result (List ℕ) WireKind) → number_after m others ≡ Ok [] → ⊥
    no_after m (Ok ms) e = cc
    no_after m (Err kind) e = cc

packed_ok : (b ns : List ℕ) → packed b ≡ Ok ns → ArePacked b ns
packed_ok [] [] e = refl
packed_ok [] (n ∷ ns) e = let none = packed_end [] refl in absurd (cc)
packed_ok (c ∷ b) [] e = absurd (no_numbers (varint_at (c ∷ b)) (sym (packed_front (c ∷ b) (omega arith)) ∙ e))
packed_ok (c ∷ b) (n ∷ ns) e =
    let (rest, front, others) = numbers_ok (varint_at (c ∷ b)) n ns (sym (packed_front (c ∷ b) (omega arith)) ∙ e) in
    (rest, front, packed_ok rest ns others)

packed_is : (ns b : List ℕ) → ArePacked b ns → packed b ≡ Ok ns
packed_is [] b none = packed_end b none
packed_is (n ∷ ns) b (rest, front, more) =
    let (spelling, cut, some) = varint_front b n rest front in
    let long = length-append spelling rest in
    packed_front b (omega (arith, ap length cut)) ∙ ap (λ (r : Result (ℕ × List ℕ) WireKind). number_before r packed) front ∙ ap (number_after n) (packed_is ns rest more)

placed_ok : (at : ℕ) (read : Result (List ℕ) WireKind) (ns : List ℕ) → placed at read ≡ Ok ns → read ≡ Ok ns
placed_ok at (Ok ms) ns e = let same : ms ≡ ns = cc in ap Ok same
placed_ok at (Err kind) ns e = absurd (cc)

tags_ok_at : (at : ℕ) (field : WireField) (payload : Payload) (ns : List ℕ) → field.payload ≡ payload → tags_in at payload ≡ Ok ns → AreTags field ns
tags_ok_at at field (varint tag) ns is e = let same : ns ≡ tag ∷ [] = cc in inl (tag, is, same)
tags_ok_at at field (bits64 n) ns is e = absurd (cc)
tags_ok_at at field (bytes content) ns is e = inr (content, is, packed_ok content ns (placed_ok at (packed content) ns e))
tags_ok_at at field (bits32 n) ns is e = absurd (cc)

tags_ok : (field : WireField) (ns : List ℕ) → read_tags field ≡ Ok ns → AreTags field ns
tags_ok field ns e = tags_ok_at field.at field field.payload ns refl e

tags_is : (field : WireField) (ns : List ℕ) → AreTags field ns → read_tags field ≡ Ok ns
tags_is field ns (inl (tag, is, same)) = ap (tags_in field.at) is ∙ ap Ok (sym same)
tags_is field ns (inr (content, is, are)) = ap (tags_in field.at) is ∙ ap (placed field.at) (packed_is ns content are)

no_shape : (at n : ℕ) → nat_eq n 0 ≡ false → nat_eq n 1 ≡ false → nat_eq n 2 ≡ false → nat_eq n 3 ≡ false → shape_of at n ≡ Err (record { kind = GeometryType; at = at })
no_shape at n d0 d1 d2 d3 = rw d0 (rw d1 (rw d2 (rw d3 refl)))

shape_number_ok : (at n : ℕ) (kind : shape.Shape) → shape_of at n ≡ Ok kind → n ≡ shape_number kind
shape_number_ok at n kind e =
    let P : ℕ → Type 0 = λ n. shape_of at n ≡ Ok kind → n ≡ shape_number kind in
    by_number P n 0 (λ e. let same : shapes.Unknown ≡ kind = cc in ap shape_number same) (λ d0.
    by_number P n 1 (λ e. let same : shapes.Point ≡ kind = cc in ap shape_number same) (λ d1.
    by_number P n 2 (λ e. let same : shapes.LineString ≡ kind = cc in ap shape_number same) (λ d2.
    by_number P n 3 (λ e. let same : shapes.Polygon ≡ kind = cc in ap shape_number same) (λ d3.
    λ e. let none = no_shape at n d0 d1 d2 d3 in absurd (cc))))) e

shape_number_is : (at : ℕ) (kind : shape.Shape) → shape_of at (shape_number kind) ≡ Ok kind
shape_number_is at shapes.Unknown = refl
shape_number_is at shapes.Point = refl
shape_number_is at shapes.LineString = refl
shape_number_is at shapes.Polygon = refl

shape_ok : (field : WireField) (kind : shape.Shape) → read_shape field ≡ Ok kind → IsShape field kind
shape_ok field kind e =
    let (n, read, named) = then_ok (number_in field.at field.payload) (λ (n : ℕ). shape_of field.at n) kind e in
    number_ok field.at field.payload n read ∙ ap varint (shape_number_ok field.at n kind named)

shape_is : (field : WireField) (kind : shape.Shape) → IsShape field kind → read_shape field ≡ Ok kind
shape_is field kind is = then_is (number_in field.at field.payload) (λ (n : ℕ). shape_of field.at n) (shape_number kind) kind (number_is field.at field.payload (shape_number kind) is) (shape_number_is field.at kind)

geometry_ok_at : (at : ℕ) (field : WireField) (payload : Payload) (u : Unit {0}) → field.payload ≡ payload → geometry_in at payload ≡ Ok u → IsGeometry field
geometry_ok_at at field (varint n) u is e = inl (n, is)
geometry_ok_at at field (bits64 n) u is e = absurd (cc)
geometry_ok_at at field (bytes b) u is e = inr (b, is)
geometry_ok_at at field (bits32 n) u is e = absurd (cc)

geometry_is : (field : WireField) → IsGeometry field → read_geometry field ≡ Ok tt
geometry_is field (inl (n, is)) = ap (geometry_in field.at) is
geometry_is field (inr (b, is)) = ap (geometry_in field.at) is

geometries_ok : (fields : List WireField) (units : List (Unit {0})) → OneByOne (λ (f : WireField) (u : Unit {0}). read_geometry f ≡ Ok u) fields units → Each IsGeometry fields
geometries_ok [] units reads = tt
geometries_ok (field ∷ fields) [] reads = absurd reads
geometries_ok (field ∷ fields) (u ∷ units) reads = (geometry_ok_at field.at field field.payload u refl reads.0, geometries_ok fields units reads.1)

geometries_is : (fields : List WireField) → Each IsGeometry fields → (units : List (Unit {0})) × OneByOne (λ (f : WireField) (u : Unit {0}). read_geometry f ≡ Ok u) fields units
geometries_is [] each = ([], tt)
geometries_is (field ∷ fields) each = let (units, reads) = geometries_is fields each.1 in (tt ∷ units, (geometry_is field each.0, reads))

-- a feature before its tags are looked up
abbrev pub read_tagged : WireField → Result Tagged TileFault
read_tagged field = bytes_in field.at field.payload then λ b. feature_at field.at (content_start field) b

pub fields_are : (at : ℕ) (fields : List WireField) (tagged : Tagged) → rest_of (untagged at) fields ≡ Ok tagged → AreFeatureFields fields tagged.id tagged.shape tagged.tags × (tagged.at ≡ at)
fields_are at fields tagged walked =
    let w = walk_ok fields (untagged at) tagged walked in (
      record {
        id_fields = (w.ids, each_one (λ (f : WireField) (n : ℕ). read_id f ≡ Ok n) IsNumber (λ f n. number_ok f.at f.payload n) (fields_of_number 1 fields) w.ids w.id_fields, ap (λ (t : Tagged). t.id) w.made);
        tag_fields = (w.parts, each_one (λ (f : WireField) (ns : List ℕ). read_tags f ≡ Ok ns) AreTags tags_ok (fields_of_number 2 fields) w.parts w.tag_fields, ap (λ (t : Tagged). t.tags) w.made);
        kind_fields = (w.kinds, each_one (λ (f : WireField) (k : shape.Shape). read_shape f ≡ Ok k) IsShape shape_ok (fields_of_number 3 fields) w.kinds w.kind_fields, ap (λ (t : Tagged). t.shape) w.made);
        geometry = geometries_ok (fields_of_number 4 fields) w.units w.geometry;
      },
      ap (λ (t : Tagged). t.at) w.made,
    )

pub tagged_ok : (field : WireField) (tagged : Tagged) → read_tagged field ≡ Ok tagged → IsTagged field tagged
tagged_ok field tagged e =
    let (content, held, read) = then_ok (bytes_in field.at field.payload) (λ (b : List ℕ). feature_at field.at (content_start field) b) tagged e in
    let (fields, are, walked) = message_ok feature_step (untagged field.at) tagged (content_start field) content read in
    let (have, place) = fields_are field.at fields tagged walked in
    record { fields = fields; message = (content, bytes_ok field.at field.payload content held, are); are = have; place = place }

pub tagged_is : (field : WireField) (tagged : Tagged) → IsTagged field tagged → read_tagged field ≡ Ok tagged
tagged_is field tagged is =
    let (content, held, are) = is.message in
    let (ids, id_fields, id_is) = is.are.id_fields in
    let (parts, tag_fields, tags_are) = is.are.tag_fields in
    let (kinds, kind_fields, kind_is) = is.are.kind_fields in
    let (units, geometry) = geometries_is (fields_of_number 4 is.fields) is.are.geometry in
    let w : Walk is.fields (untagged field.at) tagged = record {
      ids = ids;
      parts = parts;
      kinds = kinds;
      units = units;
      id_fields = each_one IsNumber (λ (f : WireField) (n : ℕ). read_id f ≡ Ok n) (λ f n. number_is f.at f.payload n) (fields_of_number 1 is.fields) ids id_fields;
      tag_fields = each_one AreTags (λ (f : WireField) (ns : List ℕ). read_tags f ≡ Ok ns) tags_is (fields_of_number 2 is.fields) parts tag_fields;
      kind_fields = each_one IsShape (λ (f : WireField) (k : shape.Shape). read_shape f ≡ Ok k) shape_is (fields_of_number 3 is.fields) kinds kind_fields;
      geometry = geometry;
      made = ap (λ (n : ℕ). record tagged { at = n }) is.place
          ∙ ap (λ (i : Option ℕ). record { at = field.at; id = i; shape = tagged.shape; tags = tagged.tags }) id_is
          ∙ ap (λ (k : shape.Shape). record { at = field.at; id = last_of ids; shape = k; tags = tagged.tags }) kind_is
          ∙ ap (λ (ts : List ℕ). record { at = field.at; id = last_of ids; shape = last_else shapes.Unknown kinds; tags = ts }) tags_are;
    } in
    then_is (bytes_in field.at field.payload) (λ (b : List ℕ). feature_at field.at (content_start field) b) content tagged (bytes_is field.at field.payload content held)
    (message_is feature_step (untagged field.at) tagged (content_start field) content is.fields are (walk_is is.fields (untagged field.at) tagged w))
