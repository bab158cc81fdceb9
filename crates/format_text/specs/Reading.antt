-- What a value that was read from a text says as sections. The text of the sections is compared with that
-- text, so that more than the texts of sections may say something here.
use Rattle.std.specs.Prelude.{◌≡◌, ℕ, ◌+◌, ℤ, pos, List, [], ◌∷◌, ◌++◌, take, drop, Bool, ◌&&◌, nat_eq, int_le, codes}
use Rattle.std.specs.Prelude.{Option, Some, None, Result, Ok, Err, if◌then◌else◌}
use Rattle.fixed_num.specs.Decimal.{read_text}
use Rattle.fixed_num.specs.declared.color.Color.{Color}
use Rattle.fixed_num.specs.declared.decimal.NumFault.{NumFault}
use Rattle.prop_values.specs.Data.{Data, number, text, list, map, Items, no_items, item, Pairs}
use Rattle.prop_values.specs.Equality.{at_key}
use Rattle.prop_values.specs.View.{value_of}
use Rattle.prop_values.specs.declared.value.Value.{Value}
use Rattle.format_text.specs.ReadText.{AreSections}
use Rattle.format_text.specs.SectionLists.{is_font, sections_text, HaveFonts}
use Rattle.format_text.specs.declared.formatted.Section.{Section}

-- ---- the text of a color

-- the first place of a mark, or the length where there is none
abbrev pub place_of : ℕ → List ℕ → ℕ
place_of mark [] = 0
place_of mark (b ∷ bs) = if nat_eq b mark then 0 else 1 + place_of mark bs

-- the bytes up to a mark, and those after it
abbrev pub before : ℕ → List ℕ → List ℕ
before mark bs = take (place_of mark bs) bs

abbrev pub behind : ℕ → List ℕ → List ℕ
behind mark bs = drop (1 + place_of mark bs) bs

abbrev pub is_part : ℤ → ℤ → Bool
is_part most part = int_le (pos 0) part && int_le part most

abbrev pub are_parts : ℤ → ℤ → ℤ → ℤ → Bool
are_parts r g b a =
    is_part (pos 255000000) r && (is_part (pos 255000000) g && (is_part (pos 255000000) b && is_part (pos 1000000) a))

abbrev pub color_of : ℤ → ℤ → ℤ → ℤ → Option Color
color_of r g b a = if are_parts r g b a then Some (record { r = r; g = g; b = b; a = a }) else None

abbrev pub color_by : Result ℤ NumFault → Result ℤ NumFault → Result ℤ NumFault → Result ℤ NumFault → Option Color
color_by (Ok r) (Ok g) (Ok b) (Ok a) = color_of r g b a
color_by _ _ _ _ = None

-- of the numbers between commas, and of the last up to a bracket: ',' is 44 and ')' is 41
abbrev pub color_parts : List ℕ → Option Color
color_parts bs =
    let green = behind 44 bs in
    let blue = behind 44 green in
    let opacity = behind 44 blue in
    color_by (read_text (before 44 bs)) (read_text (before 44 green)) (read_text (before 44 blue))
    (read_text (before 41 opacity))

-- after the five bytes of `rgba(`
abbrev pub color_in : List ℕ → Option Color
color_in bs = color_parts (drop 5 bs)

-- ---- the options of a section, and sections

abbrev pub scale_in : Option Data → Option ℤ
scale_in (Some (number z)) = Some z
scale_in _ = None

abbrev pub font_in : Option Data → Option Value
font_in (Some d) = if is_font d then Some (value_of d) else None
font_in None = None

abbrev pub color_of_option : Option Data → Option Color
color_of_option (Some (text s)) = color_in s
color_of_option _ = None

abbrev pub section_by : List ℕ → Pairs → Section
section_by content options = record {
  content = content;
  scale = scale_in (at_key (codes "font-scale") options);
  font = font_in (at_key (codes "text-font") options);
  color = color_of_option (at_key (codes "text-color") options);
}

abbrev pub section_in : Items → Option Section
section_in (item (text content) (item (map options) no_items)) = Some (section_by content options)
section_in _ = None

abbrev pub section_said : Data → Option Section
section_said (list ds) = section_in ds
section_said _ = None

-- a section before others, where all of them are there
abbrev pub joined : Option Section → Option (List Section) → Option (List Section)
joined (Some s) (Some ss) = Some (s ∷ ss)
joined _ _ = None

abbrev pub sections_in : Items → Option (List Section)
sections_in no_items = Some []
sections_in (item d ds) = joined (section_said d) (sections_in ds)

abbrev pub sections_said : Data → Option (List Section)
sections_said (list ds) = sections_in ds
sections_said _ = None

-- of what a JSON tree says
abbrev pub sections_of_json : Result Data NumFault → Option (List Section)
sections_of_json (Ok d) = sections_said d
sections_of_json (Err fault) = None

-- sections before those that are left
abbrev pub after : List Section → Option (List Section) → Option (List Section)
after ss (Some ts) = Some (ss ++ ts)
after ss None = None

-- ---- the only sections whose text a text may be

abbrev pub AreFonts : Option (List Section) → Type 0
AreFonts (Some ss) = HaveFonts ss
AreFonts None = Unit {0}

pub record SaysSections (bytes : List ℕ) (said : Option (List Section)) : Type 0 where
  pub fonts : AreFonts said
  pub only : (ss : List Section) → AreSections ss → bytes ≡ sections_text ss → said ≡ Some ss

-- an option of a section as an entry, where it is given
abbrev pub option_entry : List ℕ → Option Data → List (List ℕ × Data)
option_entry key (Some d) = (key, d) ∷ []
option_entry key None = []
