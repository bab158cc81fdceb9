use Rattle.style_laws.proofs.LayoutLaws.{marked_faults_are_listed}
use Rattle.style_laws.proofs.laws.marked_faults_are_listed.Goals as goal

pub returns : goal.returns
returns c =
    marked_faults_are_listed (record {
      sound = c.read_terms_are_sound.ensures;
      faults = c.faults_are_listed.ensures;
      functions_mean = c.expressions_mean_their_functions.ensures;
      functions_typed = c.migrated_functions_are_typed.ensures;
      globals = c.global_values_change_no_form.ensures;
    })
