-- The JSON tree of sections is sound, and says them again.
use Rattle.std.proofs.Common.{◌≡◌, ◌∙◌, ℕ, ℤ, pos, List, [], ◌∷◌, ◌++◌, length, refl, sym, ap, subst, append_assoc, arith, true, false, inl, inr, suc, zero}
use Rattle.std.specs.Prelude.{◌≤◌, ◌≢◌, ◌/◌, ◌%◌, ◌^◌, ◌&&◌, if◌then◌else◌, nat_eq, codes, decimal, slice_index, Option, Some, None, option_map, Result, Ok, Err, IfSome, IsTrue, unsigned_abs, negsuc}
use Rattle.std.specs.Str.{IsUtf8}
use Rattle.std.proofs.lemmas.Bool.{cases_Bool}
use Rattle.std.proofs.lemmas.Fmt.{length-decimal-le_wide}
use Rattle.std.proofs.lemmas.List.{length-append}
use Rattle.json_tokens.specs.Number.{is_number}
use Rattle.json_tokens.specs.Rules.{all_rules}
use Rattle.fixed_num.specs.ColorRange.{IsInRange}
use Rattle.fixed_num.specs.Decimal.{read_text}
use Rattle.fixed_num.specs.Number.{bound}
use Rattle.fixed_num.specs.NumberText.{number_text, magnitude_text, fraction_text, without_end_zeros, last_digits}
use Rattle.fixed_num.specs.declared.color.Color.{Color}
use Rattle.fixed_num.specs.declared.decimal.NumFault.{NumFault}
use Rattle.fixed_num.specs.declared.decimal.NumFault.TheVariants.{NotNumber}
use Rattle.decimal_json.specs.Grammar.{Spells}
use Rattle.decimal_json.specs.Parses.{IsAccepted}
use Rattle.decimal_json.specs.OneTree.{EachSpellsOneTree}
use Rattle.decimal_json.specs.RoundTrip.{EachWrittenTreeIsSpelled}
use Rattle.decimal_json.specs.Sound.{IsSound, AreSound}
use Rattle.decimal_json.specs.Tree.{Tree, object}
use Rattle.prop_values.specs.Data.{Data, null, boolean, number, text, color, list, map, Items, no_items, item, items_of, list_of, Pairs, no_pairs}
use Rattle.prop_values.specs.Equality.{at_key}
use Rattle.prop_values.specs.JsonData.{json_data}
use Rattle.prop_values.specs.View.{data_of, value_of}
use Rattle.prop_values.specs.ViewParts.{items}
use Rattle.prop_values.proofs.ViewLaws.{value_again}
use Rattle.prop_values.specs.declared.value.Value.{Value}
use Rattle.format_text.specs.ReadText.{AreTexts, IsFont, IsSection, AreSections, EachTextIsOfOneList}
use Rattle.format_text.specs.Reading.{font_in, section_by, section_in, section_said, joined, sections_in, sections_said, sections_of_json, after, AreFonts, SaysSections}
use Rattle.format_text.specs.Sections.{with_option, section_of}
use Rattle.format_text.specs.SectionLists.{sections_values, sections_data, sections_text, are_texts, is_font}
use Rattle.format_text.specs.declared.formatted.Section.{Section}
use Rattle.format_text.proofs.ColorTexts.{ascii_utf8, number_is, color_read, color_utf8}
use Rattle.format_text.proofs.JsonTrees.{tree_of_data, trees_of_items, fields_of_pairs, data_text, uncolored, items_uncolored, pairs_uncolored, IsWithin, AreWithin, HasWithin, data_said}

-- ---- the keys of options

font_scale : codes "text-font" ≢ codes "font-scale"
font_scale e = absurd (let h : true ≡ false = ap (λ bs. nat_eq (length bs) 9) e in cc)

color_font : codes "text-color" ≢ codes "text-font"
color_font e = absurd (let h : false ≡ true = ap (λ bs. nat_eq (length bs) 9) e in cc)

color_scale : codes "text-color" ≢ codes "font-scale"
color_scale e = absurd (let h : true ≡ false = ap (λ bs. nat_eq (slice_index bs 0) 116) e in cc)

scale_utf8 : IsUtf8 (codes "font-scale")
scale_utf8 = ascii_utf8 (codes "font-scale") refl

font_utf8 : IsUtf8 (codes "text-font")
font_utf8 = ascii_utf8 (codes "text-font") refl

color_key_utf8 : IsUtf8 (codes "text-color")
color_key_utf8 = ascii_utf8 (codes "text-color") refl

-- the options that a section has
abbrev options : Option ℤ → Option Value → Option Color → Pairs
options scale font paint =
    with_option (codes "font-scale") (option_map number scale)
    (with_option (codes "text-font") (option_map data_of font) (with_option (codes "text-color") (option_map color paint) no_pairs))

-- ---- numbers have at most 64 bytes

without_zeros_le : (cs : List ℕ) → length (without_end_zeros cs) ≤ length cs
unfolding without_end_zeros
without_zeros_le [] = omega arith
without_zeros_le (c ∷ cs) = let r = without_zeros_le cs in elim (cases_Bool (nat_eq c 48 && nat_eq (length (without_end_zeros cs)) 0)) [
  | inl t ↦ rw t (omega arith)
  | inr f ↦ rw f (omega arith)
]

last_digits_count : (k n : ℕ) → length (last_digits k n) ≡ k
unfolding last_digits
last_digits_count zero n = refl
last_digits_count (suc k) n = ap (λ m. suc m) (last_digits_count k (n % 10 ^ k))

fraction_le : (n : ℕ) → length (fraction_text n) ≤ 7
unfolding fraction_text
fraction_le n = let r = without_zeros_le (last_digits 6 n) in let d = last_digits_count 6 n in elim (cases_Bool (nat_eq n 0)) [
  | inl t ↦ rw t (omega arith)
  | inr f ↦ rw f (omega arith)
]

magnitude_le : (n : ℕ) → n ≤ bound → length (magnitude_text n) ≤ 28
unfolding magnitude_text
magnitude_le n h =
    let w = length-decimal-le_wide 21 (n / 1000000) (omega arith) (omega arith) (omega arith) in
    let f = fraction_le (n % 1000000) in
    let l = length-append (decimal (n / 1000000)) (fraction_text (n % 1000000)) in
    omega arith

number_le : (z : ℤ) → unsigned_abs z ≤ bound → length (number_text z) ≤ 64
unfolding number_text
number_le (pos n) h = let m = magnitude_le n h in omega arith
number_le (negsuc n) h = let m = magnitude_le (suc n) h in omega arith

-- ---- fonts

texts_sound : (k : ℕ) (ds : Items) → AreTexts ds → AreSound k (trees_of_items ds)
texts_sound k no_items h = tt
texts_sound k (item (text s) ds) h = (h.0, texts_sound k ds h.1)
texts_sound k (item null ds) h = absurd h
texts_sound k (item (boolean b) ds) h = absurd h
texts_sound k (item (number z) ds) h = absurd h
texts_sound k (item (color c) ds) h = absurd h
texts_sound k (item (list es) ds) h = absurd h
texts_sound k (item (map ps) ds) h = absurd h

font_sound : (d : Data) → IsFont d → IsSound 3 (tree_of_data d)
font_sound (list ds) h = (omega arith, texts_sound 4 ds h)
font_sound null h = absurd h
font_sound (boolean b) h = absurd h
font_sound (number z) h = absurd h
font_sound (text s) h = absurd h
font_sound (color c) h = absurd h
font_sound (map ps) h = absurd h

texts_within : (ds : Items) → AreTexts ds → AreWithin ds
texts_within no_items h = tt
texts_within (item (text s) ds) h = (tt, texts_within ds h.1)
texts_within (item null ds) h = absurd h
texts_within (item (boolean b) ds) h = absurd h
texts_within (item (number z) ds) h = absurd h
texts_within (item (color c) ds) h = absurd h
texts_within (item (list es) ds) h = absurd h
texts_within (item (map ps) ds) h = absurd h

font_within : (d : Data) → IsFont d → IsWithin d
font_within (list ds) h = texts_within ds h
font_within null h = absurd h
font_within (boolean b) h = absurd h
font_within (number z) h = absurd h
font_within (text s) h = absurd h
font_within (color c) h = absurd h
font_within (map ps) h = absurd h

texts_are : (ds : Items) → AreTexts ds → are_texts ds ≡ true
texts_are no_items h = refl
texts_are (item (text s) ds) h = texts_are ds h.1
texts_are (item null ds) h = absurd h
texts_are (item (boolean b) ds) h = absurd h
texts_are (item (number z) ds) h = absurd h
texts_are (item (color c) ds) h = absurd h
texts_are (item (list es) ds) h = absurd h
texts_are (item (map ps) ds) h = absurd h

texts_stay : (ds : Items) → AreTexts ds → items_uncolored ds ≡ ds
texts_stay no_items h = refl
texts_stay (item (text s) ds) h = ap (item (text s)) (texts_stay ds h.1)
texts_stay (item null ds) h = absurd h
texts_stay (item (boolean b) ds) h = absurd h
texts_stay (item (number z) ds) h = absurd h
texts_stay (item (color c) ds) h = absurd h
texts_stay (item (list es) ds) h = absurd h
texts_stay (item (map ps) ds) h = absurd h

font_said : (d : Data) → IsFont d → font_in (Some (uncolored d)) ≡ Some (value_of d)
font_said (list ds) h = (λ i. font_in (Some (list (texts_stay ds h i)))) ∙ (λ i. if texts_are ds h i then Some (value_of (list ds)) else None)
font_said null h = absurd h
font_said (boolean b) h = absurd h
font_said (number z) h = absurd h
font_said (text s) h = absurd h
font_said (color c) h = absurd h
font_said (map ps) h = absurd h

font_back : (font : Value) → IsFont (data_of font) → font_in (Some (uncolored (data_of font))) ≡ Some font
font_back font h = font_said (data_of font) h ∙ ap Some (value_again font)

-- ---- values that are no section

one_item : (d : Data) → None ≡ section_in (item d no_items)
one_item (text s) = refl
one_item _ = refl

more_items : (d e f : Data) (ds : Items) → None ≡ section_in (item d (item e (item f ds)))
more_items (text s) (map ps) f ds = refl
more_items (text s) _ f ds = refl
more_items _ e f ds = refl

pub other_count : (vs : List Value) → length vs ≢ 2 → None ≡ section_in (items vs)
other_count [] h = refl
other_count (v ∷ []) h = one_item (data_of v)
other_count (v ∷ w ∷ []) h = absurd (h refl)
other_count (v ∷ w ∷ x ∷ vs) h = more_items (data_of v) (data_of w) (data_of x) (items vs)

-- ---- sections that were read before others

pub after_more : (ss : List Section) (s : Section) (later : Option (List Section)) → after (ss ++ s ∷ []) later ≡ after ss (joined (Some s) later)
after_more ss s (Some ts) = ap Some (append_assoc ss (s ∷ []) ts)
after_more ss s None = refl

-- ---- what is read has fonts

items_again : (ds : Items) → items_of (list_of ds) ≡ ds
items_again no_items = refl
items_again (item d ds) = ap (item d) (items_again ds)

font_of_fonts : (d : Option Data) → IfSome (font_in d) (λ font. IsTrue (is_font (data_of font)))
font_of_fonts None = tt
font_of_fonts (Some (list ds)) = elim (cases_Bool (are_texts ds)) [
  | inl t ↦ rw t (ap are_texts (items_again ds) ∙ t)
  | inr f ↦ rw f tt
]
font_of_fonts (Some null) = tt
font_of_fonts (Some (boolean b)) = tt
font_of_fonts (Some (number z)) = tt
font_of_fonts (Some (text s)) = tt
font_of_fonts (Some (color c)) = tt
font_of_fonts (Some (map ps)) = tt

abbrev OneFont : Option Section → Type 0
OneFont (Some s) = IfSome s.font (λ font. IsTrue (is_font (data_of font)))
OneFont None = Unit {0}

section_font : (ds : Items) → OneFont (section_in ds)
section_font no_items = tt
section_font (item (text s) no_items) = tt
section_font (item (text s) (item (map ps) no_items)) = font_of_fonts (at_key (codes "text-font") ps)
section_font (item (text s) (item (map ps) (item d ds))) = tt
section_font (item (text s) (item _ ds)) = tt
section_font (item _ ds) = tt

said_font : (d : Data) → OneFont (section_said d)
said_font (list ds) = section_font ds
said_font _ = tt

joined_fonts : (s : Option Section) (ss : Option (List Section)) → OneFont s → AreFonts ss → AreFonts (joined s ss)
joined_fonts (Some s) (Some ss) f h = (f, h)
joined_fonts (Some s) None f h = tt
joined_fonts None ss f h = tt

sections_fonts : (ds : Items) → AreFonts (sections_in ds)
sections_fonts no_items = tt
sections_fonts (item d ds) = joined_fonts (section_said d) (sections_in ds) (said_font d) (sections_fonts ds)

pub said_fonts : (d : Data) → AreFonts (sections_said d)
said_fonts (list ds) = sections_fonts ds
said_fonts null = tt
said_fonts (boolean b) = tt
said_fonts (number z) = tt
said_fonts (text s) = tt
said_fonts (color c) = tt
said_fonts (map ps) = tt

json_fonts : (r : Result Data NumFault) → AreFonts (sections_of_json r)
json_fonts (Ok d) = said_fonts d
json_fonts (Err fault) = tt

module _ (written : (z : ℤ) → unsigned_abs z ≤ bound → read_text (number_text z) ≡ Ok z) (is_json : (bs : List ℕ) → read_text bs ≢ Err NotNumber → IsTrue (is_number bs)) where
  number_sound : (z : ℤ) → unsigned_abs z ≤ bound → IsTrue (is_number (number_text z)) × (length (number_text z) ≤ 64)
  number_sound z h = (number_is written is_json z h, number_le z h)

  paint_sound : (c : Color) → IsInRange c → IsSound 3 (tree_of_data (color c))
  paint_sound c h = color_utf8 written is_json c h

  options_sound : (scale : Option ℤ) (font : Option Value) (paint : Option Color) → IfSome scale (λ z. unsigned_abs z ≤ bound) → IfSome font (λ f. IsFont (data_of f)) → IfSome paint IsInRange
      → IsSound 2 (object (fields_of_pairs (options scale font paint)))
  options_sound None None None s f p = (omega arith, tt, tt)
  options_sound (Some z) None None s f p = (omega arith, (tt, tt), (scale_utf8, number_sound z s, tt))
  options_sound None (Some v) None s f p = (omega arith, (tt, tt), (font_utf8, font_sound (data_of v) f, tt))
  options_sound None None (Some c) s f p = (omega arith, (tt, tt), (color_key_utf8, paint_sound c p, tt))
  options_sound (Some z) (Some v) None s f p =
      (omega arith, ((font_scale, tt), (tt, tt)), (scale_utf8, number_sound z s, (font_utf8, font_sound (data_of v) f, tt)))
  options_sound (Some z) None (Some c) s f p =
      (omega arith, ((color_scale, tt), (tt, tt)), (scale_utf8, number_sound z s, (color_key_utf8, paint_sound c p, tt)))
  options_sound None (Some v) (Some c) s f p =
      (omega arith, ((color_font, tt), (tt, tt)), (font_utf8, font_sound (data_of v) f, (color_key_utf8, paint_sound c p, tt)))
  options_sound (Some z) (Some v) (Some c) s f p =
      (omega arith, ((font_scale, (color_scale, tt)), ((color_font, tt), (tt, tt))), (scale_utf8, number_sound z s, (font_utf8, font_sound (data_of v) f, (color_key_utf8, paint_sound c p, tt))))

  options_within : (scale : Option ℤ) (font : Option Value) (paint : Option Color) → IfSome scale (λ z. unsigned_abs z ≤ bound) → IfSome font (λ f. IsFont (data_of f)) → HasWithin (options scale font paint)
  options_within None None None s f = tt
  options_within (Some z) None None s f = (s, tt)
  options_within None (Some v) None s f = (font_within (data_of v) f, tt)
  options_within None None (Some c) s f = (tt, tt)
  options_within (Some z) (Some v) None s f = (s, (font_within (data_of v) f, tt))
  options_within (Some z) None (Some c) s f = (s, (tt, tt))
  options_within None (Some v) (Some c) s f = (font_within (data_of v) f, (tt, tt))
  options_within (Some z) (Some v) (Some c) s f = (s, (font_within (data_of v) f, (tt, tt)))

  options_back : (content : List ℕ) (scale : Option ℤ) (font : Option Value) (paint : Option Color) → IfSome font (λ f. IsFont (data_of f)) → IfSome paint IsInRange
      → section_by content (pairs_uncolored (options scale font paint)) ≡ record { content = content; scale = scale; font = font; color = paint }
  options_back content None None None f p = refl
  options_back content (Some z) None None f p = refl
  options_back content None (Some v) None f p = λ i. record { content = content; scale = None; font = font_back v f i; color = None }
  options_back content None None (Some c) f p = λ i. record { content = content; scale = None; font = None; color = color_read written is_json c p i }
  options_back content (Some z) (Some v) None f p = λ i. record { content = content; scale = Some z; font = font_back v f i; color = None }
  options_back content (Some z) None (Some c) f p = λ i. record { content = content; scale = Some z; font = None; color = color_read written is_json c p i }
  options_back content None (Some v) (Some c) f p = λ i. record { content = content; scale = None; font = font_back v f i; color = color_read written is_json c p i }
  options_back content (Some z) (Some v) (Some c) f p = λ i. record { content = content; scale = Some z; font = font_back v f i; color = color_read written is_json c p i }

  section_back : (s : Section) → IsSection s → section_said (uncolored (section_of s)) ≡ Some s
  section_back s h = ap Some (options_back s.content s.scale s.font s.color h.font h.color)

  sections_back : (ss : List Section) → AreSections ss → sections_in (items_uncolored (items_of (sections_values ss))) ≡ Some ss
  sections_back [] h = refl
  sections_back (s ∷ ss) h = λ i. joined (section_back s h.0 i) (sections_back ss h.1 i)

  sections_sound : (ss : List Section) → AreSections ss → AreSound 1 (trees_of_items (items_of (sections_values ss)))
  sections_sound [] h = tt
  sections_sound (s ∷ ss) h = ((omega arith, (h.0.content, (options_sound s.scale s.font s.color h.0.scale h.0.font h.0.color, tt))), sections_sound ss h.1)

  sections_within : (ss : List Section) → AreSections ss → AreWithin (items_of (sections_values ss))
  sections_within [] h = tt
  sections_within (s ∷ ss) h = ((tt, (options_within s.scale s.font s.color h.0.scale h.0.font, tt)), sections_within ss h.1)

  abbrev tree_of_sections : List Section → Tree
  tree_of_sections ss = tree_of_data (sections_data ss)

  -- the text of sections spells their tree, which says them
  pub sections_spelled : EachWrittenTreeIsSpelled → (ss : List Section) → AreSections ss → Spells all_rules (sections_text ss) (tree_of_sections ss)
  sections_spelled spelled ss h = subst (λ bs. Spells all_rules bs (tree_of_sections ss)) (data_text (sections_data ss)) (spelled all_rules (tree_of_sections ss) (omega arith, sections_sound ss h))

  pub sections_meant : (ss : List Section) → AreSections ss → json_data (tree_of_sections ss) ≡ Ok (uncolored (sections_data ss))
  sections_meant ss h = data_said written (sections_data ss) (sections_within ss h)

  pub sections_again : (ss : List Section) → AreSections ss → sections_said (uncolored (sections_data ss)) ≡ Some ss
  sections_again ss h = sections_back ss h

  -- what reading a text says of its sections
  pub says_none : EachWrittenTreeIsSpelled → (bytes : List ℕ) → (IsAccepted all_rules bytes → ⊥) → SaysSections bytes None
  says_none spelled bytes none = record {
    fonts = tt;
    only = λ ss h e. absurd (none (tree_of_sections ss, subst (λ bs. Spells all_rules bs (tree_of_sections ss)) (sym e) (sections_spelled spelled ss h)));
  }

  pub says_some : EachWrittenTreeIsSpelled → (bytes : List ℕ) (t : Tree) → ((u : Tree) → Spells all_rules bytes u → u ≡ t) → SaysSections bytes (sections_of_json (json_data t))
  says_some spelled bytes t one = record {
    fonts = json_fonts (json_data t);
    only = λ ss h e.
        let same : tree_of_sections ss ≡ t = one (tree_of_sections ss) (subst (λ bs. Spells all_rules bs (tree_of_sections ss)) (sym e) (sections_spelled spelled ss h)) in
        ap sections_of_json (ap json_data (sym same) ∙ sections_meant ss h) ∙ sections_again ss h;
  }

  -- No text represents two lists of sections.
  pub one_list : EachWrittenTreeIsSpelled → EachSpellsOneTree → EachTextIsOfOneList
  one_list spelled one ss ts h k e =
      let first = subst (λ bs. Spells all_rules bs (tree_of_sections ss)) e (sections_spelled spelled ss h) in
      let same : tree_of_sections ss ≡ tree_of_sections ts = one all_rules (sections_text ts) _ _ first (sections_spelled spelled ts k) in
      let meant : Ok (uncolored (sections_data ss)) ≡ Ok (uncolored (sections_data ts)) = sym (sections_meant ss h) ∙ (ap json_data same ∙ sections_meant ts k) in
      let plain : uncolored (sections_data ss) ≡ uncolored (sections_data ts) = cc in
      let back : Some ss ≡ Some ts = sym (sections_again ss h) ∙ (ap sections_said plain ∙ sections_again ts k) in
      cc
