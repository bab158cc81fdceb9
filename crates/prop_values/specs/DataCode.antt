-- Data as a ghost value, which gives the data back: what the models of lists and entries owe.
use Rattle.std.specs.Prelude.{◌≡◌, ℕ, List, refl}
use Rattle.std.proofs.Common.{ap}
use base.Stored.{Gv, gnil, gnum, gcons, Coded, coded_ℕ, coded_ℤ, coded_bool, coded_list, coded×}
use Rattle.fixed_num.specs.declared.color.Color.{Color}
use Rattle.fixed_num.specs.contracts.color.Color.{the_row}
use Rattle.prop_values.specs.Data.{Data, null, boolean, number, text, color, list, map, Items, no_items, item, Pairs}
use Rattle.prop_values.specs.Data.{no_pairs, pair}

abbrev pub color_code : Coded Color
color_code = (the_row).coded

-- each form has a number of its own, and then its parts
abbrev mutual
  pub code_data : Data → Gv
  code_data null = gcons (gnum 0) gnil
  code_data (boolean b) = gcons (gnum 1) (coded_bool.code b)
  code_data (number n) = gcons (gnum 2) (coded_ℤ.code n)
  code_data (text s) = gcons (gnum 3) ((coded_list coded_ℕ).code s)
  code_data (color c) = gcons (gnum 4) (color_code.code c)
  code_data (list ds) = gcons (gnum 5) (code_items ds)
  code_data (map ps) = gcons (gnum 6) (code_pairs ps)

  pub code_items : Items → Gv
  code_items no_items = gnil
  code_items (item d ds) = gcons (code_data d) (code_items ds)

  pub code_pairs : Pairs → Gv
  code_pairs no_pairs = gnil
  code_pairs (pair k d ps) = gcons (gcons ((coded_list coded_ℕ).code k) (code_data d)) (code_pairs ps)

-- the number at the front
abbrev tag : Gv → ℕ
tag gnil = 0
tag (gnum n) = n
tag (gcons a b) = tag a

abbrev head : Gv → Gv
head gnil = gnil
head (gnum n) = gnil
head (gcons a b) = a

abbrev tail : Gv → Gv
tail gnil = gnil
tail (gnum n) = gnil
tail (gcons a b) = b

-- data of one code are one
mutual
  pub inj_data : (x y : Data) → code_data x ≡ code_data y → x ≡ y
  inj_data null null p = refl
  inj_data (boolean a) (boolean b) p = ap boolean (coded_bool.inj a b (ap tail p))
  inj_data (number a) (number b) p = ap number (coded_ℤ.inj a b (ap tail p))
  inj_data (text a) (text b) p = ap text ((coded_list coded_ℕ).inj a b (ap tail p))
  inj_data (color a) (color b) p = ap color (color_code.inj a b (ap tail p))
  inj_data (list a) (list b) p = ap list (inj_items a b (ap tail p))
  inj_data (map a) (map b) p = ap map (inj_pairs a b (ap tail p))
  inj_data null _ p = absurd (let q = ap tag p in cc)
  inj_data (boolean a) _ p = absurd (let q = ap tag p in cc)
  inj_data (number a) _ p = absurd (let q = ap tag p in cc)
  inj_data (text a) _ p = absurd (let q = ap tag p in cc)
  inj_data (color a) _ p = absurd (let q = ap tag p in cc)
  inj_data (list a) _ p = absurd (let q = ap tag p in cc)
  inj_data (map a) _ p = absurd (let q = ap tag p in cc)

  pub inj_items : (x y : Items) → code_items x ≡ code_items y → x ≡ y
  inj_items no_items no_items p = refl
  inj_items (item a ats) (item b bs) p = λ i. item (inj_data a b (ap head p) i) (inj_items ats bs (ap tail p) i)
  inj_items no_items (item b bs) p = absurd (cc)
  inj_items (item a ats) no_items p = absurd (cc)

  pub inj_pairs : (x y : Pairs) → code_pairs x ≡ code_pairs y → x ≡ y
  inj_pairs no_pairs no_pairs p = refl
  inj_pairs (pair k a ats) (pair l b bs) p =
      λ i. pair ((coded_list coded_ℕ).inj k l (ap (λ g. head (head g)) p) i)
      (inj_data a b (ap (λ g. tail (head g)) p) i) (inj_pairs ats bs (ap tail p) i)
  inj_pairs no_pairs (pair l b bs) p = absurd (cc)
  inj_pairs (pair k a ats) no_pairs p = absurd (cc)

abbrev pub data_code : Coded Data
data_code = record { code = code_data; inj = inj_data }

abbrev pub items_code : Coded (List Data)
items_code = coded_list data_code

abbrev pub pairs_code : Coded (List (List ℕ × Data))
pairs_code = coded_list (coded× (coded_list coded_ℕ) data_code)
