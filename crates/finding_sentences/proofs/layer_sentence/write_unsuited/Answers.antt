use Rattle.std.proofs.Common.{rules, ◌≡◌, ◌∙◌, ◌++◌, ap, ℕ, List}
use Rattle.std.specs.Prelude.{codes}
use Rattle.decimal_json.specs.View.{tree_of}
use Rattle.property_tables.specs.LayerTypes.{type_name}
use Rattle.finding_sentences.proofs.Appending.{piece_before, two_pieces}
use Rattle.finding_sentences.specs.Sentence.{sources_wanted, unsuited}
use Rattle.finding_sentences.specs.Words.{member_unlike}
use Rattle.finding_sentences.proofs.layer_sentence.write_unsuited.Goals as goal

pub returns : goal.returns
unfolding unsuited
returns c =
    let wanted : c.as_bytes-2.result.now ≡ sources_wanted c.args.layer_type = search rules in
    piece_before c.args.out.now.items c.extend_from_slice.new.self.items c.write_type_unlike.new.out.items (codes "a layer of type ") _ c.in_ok-extend_from_slice.ensures.items
    (piece_before c.extend_from_slice.new.self.items c.extend_from_slice-2.new.self.items c.write_type_unlike.new.out.items (type_name c.args.layer_type) _ (c.in_ok-extend_from_slice-2.ensures.items ∙ ap (λ (z : List ℕ). c.extend_from_slice.new.self.items ++ z) (search rules))
    (two_pieces c.extend_from_slice-2.new.self.items c.extend_from_slice-3.new.self.items c.write_type_unlike.new.out.items (codes " needs a source whose ") (member_unlike (codes "type") (sources_wanted c.args.layer_type) (tree_of c.args.source.now)) c.in_ok-extend_from_slice-3.ensures.items
    (c.in_ok-write_type_unlike.ensures ∙ ap (λ (w : List ℕ). c.extend_from_slice-3.new.self.items ++ member_unlike (codes "type") w (tree_of c.args.source.now)) wanted)))
