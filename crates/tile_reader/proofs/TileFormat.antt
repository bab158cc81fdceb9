-- A tile is read exactly where its format has it.
use Rattle.std.proofs.Common.{◌≡◌, ◌≢◌, ℕ, inl, inr, List, [], ◌∷◌, ◌++◌, refl, sym, ap, ◌∙◌, subst, append_assoc, Bool, true, false}
use Rattle.std.specs.Prelude.{◌⊎◌, None, Result, Ok, Err, if◌then◌else◌, nat_eq, ◌||◌}
use Rattle.std.specs.List.{list_any}
use Rattle.std.specs.Str.{bytes_eq}
use Rattle.std.proofs.lemmas.List.{append-nil}
use Rattle.std.proofs.lemmas.Bool.{false_from_ne_true}
use Rattle.std.proofs.lemmas.Slice.Eq.{bytes_eq-Decides}
use Rattle.proto_wire.specs.Message.{WireField, content_start}
use Rattle.tile_reader.specs.declared.fault.TileKind.TheVariants.{Compressed}
use Rattle.tile_reader.specs.declared.fault.TileFault.{TileFault}
use Rattle.tile_reader.specs.declared.tile.TileLayer.{TileLayer}
use Rattle.tile_reader.specs.Message.{message}
use Rattle.tile_reader.specs.Read.{refused, ◌then◌, along, read_fields, bytes_in}
use Rattle.tile_reader.specs.Layer.{layer_at}
use Rattle.tile_reader.specs.Names.{names}
use Rattle.tile_reader.specs.Tile.{tile_step, is_compressed, tile_of}
use Rattle.tile_reader.specs.Format.{OneByOne, Each, Hold, fields_of_number, IsLayer, HaveNewNames, IsTile}
use Rattle.tile_reader.specs.Laws.{TilesAreRead, TileOrFault, NeverBoth, OneTile}
use Rattle.tile_reader.proofs.Parts.{then_ok, then_is, message_ok, message_is, by_number, pass}
use Rattle.tile_reader.proofs.LayerFormat.{layer_ok, layer_is}
use Rattle.tile_reader.proofs.Names.{names_more}

-- a name that is none of others
none_at : (name other : List ℕ) (others : List (List ℕ)) (t : Bool) → bytes_eq name other ≡ t → (list_any (bytes_eq name) others ≡ false → Each (λ (x : List ℕ). x ≢ name) others) → (t || list_any (bytes_eq name) others) ≡ false → (other ≢ name) × Each (λ (x : List ℕ). x ≢ name) others
none_at name other others true is later e = absurd (cc)
none_at name other others false is later e = (λ q. let yes : bytes_eq name other ≡ true = (bytes_eq-Decides name other).1 (sym q) in cc, later e)

pub new_ok : (name : List ℕ) (others : List (List ℕ)) → list_any (bytes_eq name) others ≡ false → Each (λ (x : List ℕ). x ≢ name) others
new_ok name [] e = tt
new_ok name (other ∷ others) e = none_at name other others (bytes_eq name other) refl (new_ok name others) e

pub new_is : (name : List ℕ) (others : List (List ℕ)) → Each (λ (x : List ℕ). x ≢ name) others → list_any (bytes_eq name) others ≡ false
new_is name [] each = refl
new_is name (other ∷ others) each =
    ap (λ (t : Bool). t || list_any (bytes_eq name) others) (false_from_ne_true (bytes_eq name other) (λ e. each.0 (sym ((bytes_eq-Decides name other).0 e))))
    ∙ new_is name others each.1

abbrev pub rest_of : List TileLayer → List WireField → Result (List TileLayer) TileFault
rest_of s fields = along tile_step s fields None

record Walk (fields : List WireField) (s q : List TileLayer) : Type 0 where
  layers : List TileLayer
  held : Hold 3 IsLayer fields layers
  new : HaveNewNames (names s) layers
  made : q ≡ s ++ layers

abbrev at_number : WireField → ℕ → WireField
at_number field n = record { number = n; at = field.at; end = field.end; payload = field.payload }

abbrev Walked : WireField → List WireField → List TileLayer → List TileLayer → ℕ → Type 0
Walked field fields s q n = (tile_step s (at_number field n) then λ next. rest_of next fields) ≡ Ok q → Walk (at_number field n ∷ fields) s q

walked_layer : (field : WireField) (fields : List WireField) (s q : List TileLayer) → ((next : List TileLayer) → rest_of next fields ≡ Ok q → Walk fields next q) → Walked field fields s q 3
walked_layer field fields s q later e =
    let (next, stepped, onward) = then_ok (tile_step s (at_number field 3)) (λ (next : List TileLayer). rest_of next fields) q e in
    let (b, content, read_at) = then_ok (bytes_in field.at field.payload) (λ (b : List ℕ). layer_at field.at (content_start field) (names s) b then λ layer. Ok (s ++ layer ∷ [])) next stepped in
    let (layer, read, made) = then_ok (layer_at field.at (content_start field) (names s) b) (λ (layer : TileLayer). Ok (s ++ layer ∷ [])) next read_at in
    let (is_layer, new) = layer_ok (names s) field layer (then_is (bytes_in field.at field.payload) (λ (b : List ℕ). layer_at field.at (content_start field) (names s) b) b layer content read) in
    let w = later next onward in
    let is : next ≡ s ++ layer ∷ [] = cc in
    record {
      layers = layer ∷ w.layers;
      held = (is_layer, w.held);
      new = (new_ok layer.name (names s) new, subst (λ (ns : List (List ℕ)). HaveNewNames ns w.layers) (ap names is ∙ names_more s layer) w.new);
      made = w.made ∙ ap (λ (ls : List TileLayer). ls ++ w.layers) is ∙ append_assoc s (layer ∷ []) w.layers;
    }

walked_other : (field : WireField) (fields : List WireField) (s q : List TileLayer) → (rest_of s fields ≡ Ok q → Walk fields s q) → nat_eq field.number 3 ≡ false → Walked field fields s q field.number
walked_other field fields s q later other e =
    let step : tile_step s field ≡ Ok s = rw other refl in
    let w = later (sym (ap (λ (r : Result (List TileLayer) TileFault). r then λ next. rest_of next fields) step) ∙ e) in
    record { layers = w.layers; held = subst (λ (fs : List WireField). OneByOne IsLayer fs w.layers) (sym (pass 3 field fields other)) w.held; new = w.new; made = w.made }

walk_ok : (fields : List WireField) (s q : List TileLayer) → rest_of s fields ≡ Ok q → Walk fields s q
walk_ok [] s q e = let is : q ≡ s = cc in record { layers = []; held = tt; new = tt; made = is ∙ sym (append-nil s) }
walk_ok (field ∷ fields) s q e =
    by_number (Walked field fields s q) field.number 3 (walked_layer field fields s q (λ next. walk_ok fields next q)) (walked_other field fields s q (walk_ok fields s q)) e

abbrev Walks : WireField → List WireField → List TileLayer → ℕ → Type 0
Walks field fields s n = (layers : List TileLayer) → Hold 3 IsLayer (at_number field n ∷ fields) layers → HaveNewNames (names s) layers → (tile_step s (at_number field n) then λ next. rest_of next fields) ≡ Ok (s ++ layers)

abbrev Onward : List WireField → Type 0
Onward fields = (next layers : List TileLayer) → Hold 3 IsLayer fields layers → HaveNewNames (names next) layers → rest_of next fields ≡ Ok (next ++ layers)

walks_layer : (field : WireField) (fields : List WireField) (s : List TileLayer) → Onward fields → Walks field fields s 3
walks_layer field fields s onward [] are new = absurd are
walks_layer field fields s onward (layer ∷ layers) (is, are) (first, new) =
    let (b, content, read) = then_ok (bytes_in field.at field.payload) (λ (b : List ℕ). layer_at field.at (content_start field) (names s) b) layer (layer_is (names s) field layer is (new_is layer.name (names s) first)) in
    then_is (tile_step s (at_number field 3)) (λ (next : List TileLayer). rest_of next fields) (s ++ layer ∷ []) (s ++ (layer ∷ layers))
    (then_is (bytes_in field.at field.payload) (λ (b : List ℕ). layer_at field.at (content_start field) (names s) b then λ layer. Ok (s ++ layer ∷ [])) b (s ++ layer ∷ []) content
    (then_is (layer_at field.at (content_start field) (names s) b) (λ (layer : TileLayer). Ok (s ++ layer ∷ [])) layer (s ++ layer ∷ []) read refl))
    (onward (s ++ layer ∷ []) layers are (subst (λ (ns : List (List ℕ)). HaveNewNames ns layers) (sym (names_more s layer)) new) ∙ ap Ok (append_assoc s (layer ∷ []) layers))

walks_other : (field : WireField) (fields : List WireField) (s : List TileLayer) → Onward fields → nat_eq field.number 3 ≡ false → Walks field fields s field.number
walks_other field fields s onward other layers are new =
    let step : tile_step s field ≡ Ok s = rw other refl in
    ap (λ (r : Result (List TileLayer) TileFault). r then λ next. rest_of next fields) step
    ∙ onward s layers (subst (λ (fs : List WireField). OneByOne IsLayer fs layers) (pass 3 field fields other) are) new

walk_is : (fields : List WireField) → Onward fields
walk_is [] s [] are new = ap Ok (sym (append-nil s))
walk_is [] s (layer ∷ layers) are new = absurd are
walk_is (field ∷ fields) s layers are new =
    by_number (Walks field fields s) field.number 3 (walks_layer field fields s (walk_is fields)) (walks_other field fields s (walk_is fields)) layers are new

-- for the faults: what is before one
pub so_far : (fields : List WireField) (q : List TileLayer) → rest_of [] fields ≡ Ok q → Hold 3 IsLayer fields q × HaveNewNames [] q
so_far fields q walked =
    let w = walk_ok fields [] q walked in
    (subst (λ (ls : List TileLayer). OneByOne IsLayer (fields_of_number 3 fields) ls) (sym w.made) w.held, subst (HaveNewNames []) (sym w.made) w.new)

plain_at : (b : List ℕ) (layers : List TileLayer) (t : Bool) → is_compressed b ≡ t → (if t then refused Compressed 0 else read_fields tile_step [] (message 0 b)) ≡ Ok layers → (is_compressed b ≡ false) × (read_fields tile_step [] (message 0 b) ≡ Ok layers)
plain_at b layers true is e = absurd (cc)
plain_at b layers false is e = (is, e)

pub tile_ok : (b : List ℕ) (layers : List TileLayer) → tile_of b ≡ Ok layers → IsTile b layers
unfolding tile_of
tile_ok b layers e =
    let (plain, read) = plain_at b layers (is_compressed b) refl e in
    let (fields, are, walked) = message_ok tile_step [] layers 0 b read in
    let w = walk_ok fields [] layers walked in
    record {
      not_compressed = plain;
      fields = fields;
      message = are;
      layer_fields = subst (λ (ls : List TileLayer). OneByOne IsLayer (fields_of_number 3 fields) ls) (sym w.made) w.held;
      names = subst (HaveNewNames []) (sym w.made) w.new;
    }

pub tile_is : (b : List ℕ) (layers : List TileLayer) → IsTile b layers → tile_of b ≡ Ok layers
unfolding tile_of
tile_is b layers is =
    ap (λ (t : Bool). if t then refused Compressed 0 else read_fields tile_step [] (message 0 b)) is.not_compressed
    ∙ message_is tile_step [] layers 0 b is.fields is.message (walk_is is.fields [] layers is.layer_fields is.names)

pub tiles_are_read : TilesAreRead
tiles_are_read b layers = (tile_ok b layers, tile_is b layers)

either : (b : List ℕ) (read : Result (List TileLayer) TileFault) → tile_of b ≡ read → ((layers : List TileLayer) × IsTile b layers) ⊎ ((fault : TileFault) × (tile_of b ≡ Err fault))
either b (Ok layers) e = inl (layers, tile_ok b layers e)
either b (Err fault) e = inr (fault, e)

pub tile_or_fault : TileOrFault
tile_or_fault b = either b (tile_of b) refl

pub never_both : NeverBoth
never_both b layers fault is has = let read = tile_is b layers is in cc

pub one_tile : OneTile
one_tile b layers others is are = let read = tile_is b layers is in let read_others = tile_is b others are in cc
