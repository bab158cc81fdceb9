use Rattle.std.proofs.Common.{◌∙◌, sym}
use Rattle.legacy_functions.specs.View.{function_of, row_of}
use Rattle.style_layout.proofs.LegacyReads.{function_reads}
use Rattle.style_layout.proofs.forms.function_reads_feature.Goals as goal

pub returns : goal.returns
returns c globals =
    let f = c.args.function.now in
    c.asks_feature.ensures
    ∙ sym (function_reads c.expressions_mean_their_functions.ensures c.migrated_functions_mention_the_same.ensures (row_of f) (function_of f)
    c.requires globals)
