use Rattle.simplify_laws.proofs.SameDocuments.{layers_are_the_same}
use Rattle.simplify_laws.proofs.laws.simplified_documents_have_the_same_layers.Goals as goal

pub returns : goal.returns
returns c = layers_are_the_same c.simplified_values_mean_the_same.ensures c.simplified_values_read_no_more.ensures c.simplified_filters_pass_the_same.ensures c.simplified_filters_are_outside_alike.ensures c.tables_keep_their_rules.ensures
