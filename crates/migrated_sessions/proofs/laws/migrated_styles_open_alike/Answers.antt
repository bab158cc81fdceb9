use Rattle.migrated_sessions.proofs.SameOpenings.{styles_open_alike}
use Rattle.migrated_sessions.proofs.laws.migrated_styles_open_alike.Goals as goal

pub returns : goal.returns
returns c =
    styles_open_alike c.migrated_documents_have_as_many_cells.ensures c.migrated_documents_give_the_same_globals.ensures
    c.sound_documents_stay_sound.ensures
