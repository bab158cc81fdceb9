-- The names of colors. Source: CSS Color Module Level 4 §6.1, "Named Colors".
use Rattle.std.specs.Prelude.{ℕ, List, [], ◌∷◌, Option, Some, None, if◌then◌else◌, codes}
use Rattle.std.specs.Str.{str_eq_ignore_ascii_case}

-- each of the 148 names with its red, green and blue, two hexadecimal digits each, in alphabetical order
unfoldable pub names : List (List ℕ × ℕ)
names =
    (codes "aliceblue", 0xf0f8ff) ∷
    (codes "antiquewhite", 0xfaebd7) ∷
    (codes "aqua", 0x00ffff) ∷
    (codes "aquamarine", 0x7fffd4) ∷
    (codes "azure", 0xf0ffff) ∷
    (codes "beige", 0xf5f5dc) ∷
    (codes "bisque", 0xffe4c4) ∷
    (codes "black", 0x000000) ∷
    (codes "blanchedalmond", 0xffebcd) ∷
    (codes "blue", 0x0000ff) ∷
    (codes "blueviolet", 0x8a2be2) ∷
    (codes "brown", 0xa52a2a) ∷
    (codes "burlywood", 0xdeb887) ∷
    (codes "cadetblue", 0x5f9ea0) ∷
    (codes "chartreuse", 0x7fff00) ∷
    (codes "chocolate", 0xd2691e) ∷
    (codes "coral", 0xff7f50) ∷
    (codes "cornflowerblue", 0x6495ed) ∷
    (codes "cornsilk", 0xfff8dc) ∷
    (codes "crimson", 0xdc143c) ∷
    (codes "cyan", 0x00ffff) ∷
    (codes "darkblue", 0x00008b) ∷
    (codes "darkcyan", 0x008b8b) ∷
    (codes "darkgoldenrod", 0xb8860b) ∷
    (codes "darkgray", 0xa9a9a9) ∷
    (codes "darkgreen", 0x006400) ∷
    (codes "darkgrey", 0xa9a9a9) ∷
    (codes "darkkhaki", 0xbdb76b) ∷
    (codes "darkmagenta", 0x8b008b) ∷
    (codes "darkolivegreen", 0x556b2f) ∷
    (codes "darkorange", 0xff8c00) ∷
    (codes "darkorchid", 0x9932cc) ∷
    (codes "darkred", 0x8b0000) ∷
    (codes "darksalmon", 0xe9967a) ∷
    (codes "darkseagreen", 0x8fbc8f) ∷
    (codes "darkslateblue", 0x483d8b) ∷
    (codes "darkslategray", 0x2f4f4f) ∷
    (codes "darkslategrey", 0x2f4f4f) ∷
    (codes "darkturquoise", 0x00ced1) ∷
    (codes "darkviolet", 0x9400d3) ∷
    (codes "deeppink", 0xff1493) ∷
    (codes "deepskyblue", 0x00bfff) ∷
    (codes "dimgray", 0x696969) ∷
    (codes "dimgrey", 0x696969) ∷
    (codes "dodgerblue", 0x1e90ff) ∷
    (codes "firebrick", 0xb22222) ∷
    (codes "floralwhite", 0xfffaf0) ∷
    (codes "forestgreen", 0x228b22) ∷
    (codes "fuchsia", 0xff00ff) ∷
    (codes "gainsboro", 0xdcdcdc) ∷
    (codes "ghostwhite", 0xf8f8ff) ∷
    (codes "gold", 0xffd700) ∷
    (codes "goldenrod", 0xdaa520) ∷
    (codes "gray", 0x808080) ∷
    (codes "green", 0x008000) ∷
    (codes "greenyellow", 0xadff2f) ∷
    (codes "grey", 0x808080) ∷
    (codes "honeydew", 0xf0fff0) ∷
    (codes "hotpink", 0xff69b4) ∷
    (codes "indianred", 0xcd5c5c) ∷
    (codes "indigo", 0x4b0082) ∷
    (codes "ivory", 0xfffff0) ∷
    (codes "khaki", 0xf0e68c) ∷
    (codes "lavender", 0xe6e6fa) ∷
    (codes "lavenderblush", 0xfff0f5) ∷
    (codes "lawngreen", 0x7cfc00) ∷
    (codes "lemonchiffon", 0xfffacd) ∷
    (codes "lightblue", 0xadd8e6) ∷
    (codes "lightcoral", 0xf08080) ∷
    (codes "lightcyan", 0xe0ffff) ∷
    (codes "lightgoldenrodyellow", 0xfafad2) ∷
    (codes "lightgray", 0xd3d3d3) ∷
    (codes "lightgreen", 0x90ee90) ∷
    (codes "lightgrey", 0xd3d3d3) ∷
    (codes "lightpink", 0xffb6c1) ∷
    (codes "lightsalmon", 0xffa07a) ∷
    (codes "lightseagreen", 0x20b2aa) ∷
    (codes "lightskyblue", 0x87cefa) ∷
    (codes "lightslategray", 0x778899) ∷
    (codes "lightslategrey", 0x778899) ∷
    (codes "lightsteelblue", 0xb0c4de) ∷
    (codes "lightyellow", 0xffffe0) ∷
    (codes "lime", 0x00ff00) ∷
    (codes "limegreen", 0x32cd32) ∷
    (codes "linen", 0xfaf0e6) ∷
    (codes "magenta", 0xff00ff) ∷
    (codes "maroon", 0x800000) ∷
    (codes "mediumaquamarine", 0x66cdaa) ∷
    (codes "mediumblue", 0x0000cd) ∷
    (codes "mediumorchid", 0xba55d3) ∷
    (codes "mediumpurple", 0x9370db) ∷
    (codes "mediumseagreen", 0x3cb371) ∷
    (codes "mediumslateblue", 0x7b68ee) ∷
    (codes "mediumspringgreen", 0x00fa9a) ∷
    (codes "mediumturquoise", 0x48d1cc) ∷
    (codes "mediumvioletred", 0xc71585) ∷
    (codes "midnightblue", 0x191970) ∷
    (codes "mintcream", 0xf5fffa) ∷
    (codes "mistyrose", 0xffe4e1) ∷
    (codes "moccasin", 0xffe4b5) ∷
    (codes "navajowhite", 0xffdead) ∷
    (codes "navy", 0x000080) ∷
    (codes "oldlace", 0xfdf5e6) ∷
    (codes "olive", 0x808000) ∷
    (codes "olivedrab", 0x6b8e23) ∷
    (codes "orange", 0xffa500) ∷
    (codes "orangered", 0xff4500) ∷
    (codes "orchid", 0xda70d6) ∷
    (codes "palegoldenrod", 0xeee8aa) ∷
    (codes "palegreen", 0x98fb98) ∷
    (codes "paleturquoise", 0xafeeee) ∷
    (codes "palevioletred", 0xdb7093) ∷
    (codes "papayawhip", 0xffefd5) ∷
    (codes "peachpuff", 0xffdab9) ∷
    (codes "peru", 0xcd853f) ∷
    (codes "pink", 0xffc0cb) ∷
    (codes "plum", 0xdda0dd) ∷
    (codes "powderblue", 0xb0e0e6) ∷
    (codes "purple", 0x800080) ∷
    (codes "rebeccapurple", 0x663399) ∷
    (codes "red", 0xff0000) ∷
    (codes "rosybrown", 0xbc8f8f) ∷
    (codes "royalblue", 0x4169e1) ∷
    (codes "saddlebrown", 0x8b4513) ∷
    (codes "salmon", 0xfa8072) ∷
    (codes "sandybrown", 0xf4a460) ∷
    (codes "seagreen", 0x2e8b57) ∷
    (codes "seashell", 0xfff5ee) ∷
    (codes "sienna", 0xa0522d) ∷
    (codes "silver", 0xc0c0c0) ∷
    (codes "skyblue", 0x87ceeb) ∷
    (codes "slateblue", 0x6a5acd) ∷
    (codes "slategray", 0x708090) ∷
    (codes "slategrey", 0x708090) ∷
    (codes "snow", 0xfffafa) ∷
    (codes "springgreen", 0x00ff7f) ∷
    (codes "steelblue", 0x4682b4) ∷
    (codes "tan", 0xd2b48c) ∷
    (codes "teal", 0x008080) ∷
    (codes "thistle", 0xd8bfd8) ∷
    (codes "tomato", 0xff6347) ∷
    (codes "turquoise", 0x40e0d0) ∷
    (codes "violet", 0xee82ee) ∷
    (codes "wheat", 0xf5deb3) ∷
    (codes "white", 0xffffff) ∷
    (codes "whitesmoke", 0xf5f5f5) ∷
    (codes "yellow", 0xffff00) ∷
    (codes "yellowgreen", 0x9acd32) ∷
    []

-- the value at a name in a table; ASCII letters count without case
unfoldable pub value_at : List ℕ → List (List ℕ × ℕ) → Option ℕ
value_at name [] = None
value_at name ((text, value) ∷ rest) = if str_eq_ignore_ascii_case name text then Some value else value_at name rest

-- red, green and blue of the color of a name
unfoldable pub value_of_name : List ℕ → Option ℕ
value_of_name name = value_at name names
