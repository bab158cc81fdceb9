use Rattle.style_laws.proofs.LayoutLaws.{outside_values_have_notes}
use Rattle.style_laws.proofs.laws.outside_values_have_notes.Goals as goal

pub returns : goal.returns
returns c =
    outside_values_have_notes (record {
      sound = c.read_terms_are_sound.ensures;
      faults = c.faults_are_listed.ensures;
      functions_mean = c.expressions_mean_their_functions.ensures;
      functions_typed = c.migrated_functions_are_typed.ensures;
      globals = c.global_values_change_no_form.ensures;
    })
