-- All sections of a formatted text: their value, its text, and their contents joined. A font is a list of texts.
use Rattle.std.specs.Prelude.{ℕ, List, [], ◌∷◌, ◌++◌, Bool, true, false, ◌&&◌, IfSome, IsTrue}
use Rattle.prop_values.specs.Data.{Data, text, list, Items, no_items, item, items_of}
use Rattle.prop_values.specs.View.{data_of}
use Rattle.prop_values.specs.ValueText.{shown_text}
use Rattle.format_text.specs.declared.formatted.Section.{Section}
use Rattle.format_text.specs.Sections.{section_of}

abbrev pub sections_values : List Section → List Data
sections_values [] = []
sections_values (s ∷ ss) = section_of s ∷ sections_values ss

abbrev pub sections_data : List Section → Data
sections_data ss = list (items_of (sections_values ss))

abbrev pub sections_text : List Section → List ℕ
sections_text ss = shown_text (sections_data ss)

abbrev pub plain_text : List Section → List ℕ
plain_text [] = []
plain_text (s ∷ ss) = s.content ++ plain_text ss

abbrev pub is_text : Data → Bool
is_text (text s) = true
is_text _ = false

abbrev pub are_texts : Items → Bool
are_texts no_items = true
are_texts (item d ds) = is_text d && are_texts ds

abbrev pub is_font : Data → Bool
is_font (list ds) = are_texts ds
is_font _ = false

-- Fonts are lists of texts.
abbrev pub HaveFonts : List Section → Type 0
HaveFonts [] = Unit {0}
HaveFonts (s ∷ ss) = IfSome s.font (λ font. IsTrue (is_font (data_of font))) × HaveFonts ss
