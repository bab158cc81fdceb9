-- The options of a section, one after the other.
use Rattle.std.proofs.Common.{◌≡◌, [], ◌++◌, refl}
use Rattle.std.specs.Prelude.{Option, Some, None, codes}
use Rattle.prop_values.specs.Data.{Data, pairs_of, no_pairs}
use Rattle.format_text.specs.Sections.{with_option}
use Rattle.format_text.specs.Reading.{option_entry}

-- the entries of three options are the options in their order
pub options_in_order : (scale font color : Option Data) →
    pairs_of ((([] ++ option_entry (codes "font-scale") scale) ++ option_entry (codes "text-font") font) ++ option_entry (codes "text-color") color)
    ≡ with_option (codes "font-scale") scale (with_option (codes "text-font") font (with_option (codes "text-color") color no_pairs))
options_in_order (Some s) (Some f) (Some c) = refl
options_in_order (Some s) (Some f) None = refl
options_in_order (Some s) None (Some c) = refl
options_in_order (Some s) None None = refl
options_in_order None (Some f) (Some c) = refl
options_in_order None (Some f) None = refl
options_in_order None None (Some c) = refl
options_in_order None None None = refl
