-- What contracts see of the program's values.
use Rattle.std.specs.Prelude.{ℕ, List, [], ◌∷◌, codes, Option, Some, None, Result, Ok, Err}
use Rattle.decimal_json.specs.JsonText.{text_json}
use Rattle.decimal_json.specs.Tree.{Tree}
use Rattle.decimal_json.specs.declared.paths.PathPart.{PathPart}
use Rattle.prop_values.specs.declared.choice.Choice.{Choice}
use Rattle.prop_values.specs.declared.kinds.Kind.{Kind}
use Rattle.prop_values.specs.declared.kinds.Want.{Want}
use Rattle.expr_types.specs.FaultName.{code_name as typed_name}
use Rattle.expr_types.specs.Judged.{Judged}
use Rattle.expr_types.specs.JudgedFacts.{kind_of}
use Rattle.expr_types.specs.declared.fault.TypeFault.{TypeFault}
use Rattle.finding_sentences.specs.ExpressionSentence as wanted
use Rattle.finding_sentences.specs.ExpressionSentence.{coded, fitted_to, typed_sentence, wanted_at}
use Rattle.finding_sentences.specs.MaySentence.{none_of}
use Rattle.finding_sentences.specs.Words.{breaks_rule, words}
use Rattle.finding_sentences.specs.declared.misspelled.Misspelled.{Misspelled}
use Rattle.finding_sentences.specs.declared.wanted_node.WantedNode.{WantedNode}

abbrev pub wanted_seen : WantedNode → wanted.WantedNode
wanted_seen w = record { want = w.want; is_sequence = w.is_sequence }

abbrev pub misspelled_by : List ℕ → Option Choice → List ℕ
misspelled_by text (Some choice) = none_of text choice
misspelled_by text None = words (text_json text ∷ codes " is no color" ∷ [])

abbrev pub misspelled_text : Misspelled → List ℕ
misspelled_text m = misspelled_by m.text.now m.choice

-- by what the program's check answers
abbrev pub judged_sentence : Want → Tree → List PathPart → (node : Tree) → Result Judged TypeFault → List ℕ
judged_sentence want t more node (Ok pair) = breaks_rule
judged_sentence want t more node (Err fault) =
    coded (typed_sentence fault.code (wanted_at more (Some t) (Some (fitted_to want))) node) (typed_name fault.code)

abbrev pub judged_kind : Result Judged TypeFault → Option Kind
judged_kind (Ok pair) = Some (kind_of pair)
judged_kind (Err fault) = None
