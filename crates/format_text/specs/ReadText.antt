-- What reading a text of sections answers.
use Rattle.std.specs.Prelude.{◌≡◌, ◌≤◌, ℕ, List, [], ◌∷◌, Option, Some, None, IfSome, IsUtf8, unsigned_abs}
use Rattle.fixed_num.specs.ColorRange.{IsInRange}
use Rattle.fixed_num.specs.Number.{bound}
use Rattle.prop_values.specs.Data.{Data, text, list, Items, no_items, item}
use Rattle.prop_values.specs.View.{data_of}
use Rattle.format_text.specs.SectionLists.{sections_text, HaveFonts}
use Rattle.format_text.specs.declared.formatted.Section.{Section}

-- a font is a list of texts, each UTF-8
abbrev pub AreTexts : Items → Type 0
AreTexts no_items = Unit {0}
AreTexts (item (text s) ds) = IsUtf8 s × AreTexts ds
AreTexts (item _ ds) = ⊥

abbrev pub IsFont : Data → Type 0
IsFont (list ds) = AreTexts ds
IsFont _ = ⊥

-- Sections as programs have them, each font a list of texts: texts are UTF-8, numbers within the bound and
-- colors in range.
pub record IsSection (s : Section) : Type 0 where
  pub content : IsUtf8 s.content
  pub scale : IfSome s.scale (λ z. unsigned_abs z ≤ bound)
  pub font : IfSome s.font (λ font. IsFont (data_of font))
  pub color : IfSome s.color IsInRange

abbrev pub AreSections : List Section → Type 0
AreSections [] = Unit {0}
AreSections (s ∷ ss) = IsSection s × AreSections ss

-- The sections have this text; or it is the text of no sections.
abbrev pub ReadsSections : List ℕ → Option (List Section) → Type 0
ReadsSections bytes (Some ss) = (bytes ≡ sections_text ss) × HaveFonts ss
ReadsSections bytes None = (ss : List Section) → AreSections ss → bytes ≡ sections_text ss → ⊥

-- No text represents two lists of sections.
abbrev pub EachTextIsOfOneList : Type 0
EachTextIsOfOneList =
    (ss ts : List Section) → AreSections ss → AreSections ts → sections_text ss ≡ sections_text ts → ss ≡ ts
