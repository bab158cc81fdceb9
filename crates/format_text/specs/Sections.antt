-- Sections of formatted texts, as values and as texts. Source: MapLibre style specification, version 8,
-- expressions, `format`; the form of the value is own.
use Rattle.std.specs.Prelude.{ℕ, List, codes, Option, Some, None, option_map}
use Rattle.prop_values.specs.Data.{Data, number, text, color, list, map, no_items, item, Pairs, no_pairs, pair}
use Rattle.prop_values.specs.View.{data_of}
use Rattle.format_text.specs.declared.formatted.Section.{Section}

-- a section without options
abbrev pub section_with : List ℕ → Section
section_with content = record { content = content; scale = None; font = None; color = None }

-- ---- the value of a section: a list of its content and of a map of its options

abbrev pub with_option : List ℕ → Option Data → Pairs → Pairs
with_option key (Some d) options = pair key d options
with_option key None options = options

-- in this order
abbrev pub options_map : Section → Pairs
options_map s =
    with_option (codes "font-scale") (option_map number s.scale)
    (with_option (codes "text-font") (option_map data_of s.font)
    (with_option (codes "text-color") (option_map color s.color) no_pairs))

abbrev pub section_of : Section → Data
section_of s = list (item (text s.content) (item (map (options_map s)) no_items))

-- ---- all sections: a list, its text, and the contents joined

-- ---- a font is a list of texts
