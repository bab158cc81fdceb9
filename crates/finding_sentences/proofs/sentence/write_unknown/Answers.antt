use Rattle.std.proofs.Common.{rules, ◌≡◌, ◌∙◌, ◌++◌, ap, ℕ, List}
use Rattle.std.specs.Prelude.{codes, decimal}
use Rattle.finding_sentences.proofs.Appending.{piece_before, two_pieces}
use Rattle.decimal_json.specs.JsonText.{text_json}
use Rattle.property_tables.specs.LayerTypes.{type_name}
use Rattle.finding_sentences.specs.Sentence.{is_property, other_hint, other_place, place_name}
use Rattle.finding_sentences.proofs.sentence.write_unknown.Goals as goal

pub returns : goal.returns
returns c =
    piece_before c.args.out.now.items c.write_text.new.out.items c.write_place_hint.new.out.items (text_json c.args.property.now.name.now) _ c.in_ok-write_text.ensures.ok
    (piece_before c.write_text.new.out.items c.extend_from_slice.new.self.items c.write_place_hint.new.out.items (codes " is no property of the ") _ c.in_ok-extend_from_slice.ensures.items
    (piece_before c.extend_from_slice.new.self.items c.extend_from_slice-2.new.self.items c.write_place_hint.new.out.items (place_name c.args.property.now.place) _ (c.in_ok-extend_from_slice-2.ensures.items ∙ ap (λ (z : List ℕ). c.extend_from_slice.new.self.items ++ z) (search rules))
    (piece_before c.extend_from_slice-2.new.self.items c.extend_from_slice-3.new.self.items c.write_place_hint.new.out.items (codes " of a layer of type ") _ c.in_ok-extend_from_slice-3.ensures.items
    (two_pieces c.extend_from_slice-3.new.self.items c.extend_from_slice-4.new.self.items c.write_place_hint.new.out.items (type_name c.args.property.now.layer_type) (other_hint (is_property c.args.property.now.layer_type (other_place c.args.property.now.place) c.args.property.now.name.now) (other_place c.args.property.now.place)) (c.in_ok-extend_from_slice-4.ensures.items ∙ ap (λ (z : List ℕ). c.extend_from_slice-3.new.self.items ++ z) (search rules)) c.in_ok-write_place_hint.ensures))))
