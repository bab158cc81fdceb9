-- A value that is spelled by the grammar is gone through up to what follows it.
use Rattle.std.proofs.Common.{◌≡◌, ◌∙◌, refl, sym, ap, subst, ℕ, suc, List, [], ◌∷◌, ◌++◌, drop, length}
use Rattle.std.specs.Prelude.{codes}
use Rattle.std.proofs.Math.Seq.{drop-append_seam}
use Rattle.json_tokens.specs.Rules.{Rules}
use Rattle.json_tokens.specs.Runs.{Stops}
use Rattle.json_tokens.specs.Sequence.{Spaces, is_space}
use Rattle.decimal_json.specs.Grammar.{Pair, SpellsItems, SpellsMembers, SpellsMore, SpellsTail, SpellsValue, word_of}
use Rattle.decimal_json.specs.Tree.{Tree, null, boolean, number, text, list, object, Trees, no_trees, tree, Fields, no_fields, field}
use Rattle.decimal_json.proofs.Values.{value_tight}
use Rattle.text_places.specs.Skipping.{after_items, after_mark, after_members, after_more_items, after_more_members, after_spaces, after_string, after_value, member_value}
use Rattle.text_places.proofs.SpelledTexts.{over_text, spaces_end}

pub tail_tight : (k : ℕ) (r : Rules) (ts : Trees) (b q : List ℕ) → SpellsTail k r ts b q → Stops is_space b
tail_tight k r no_trees b q h = subst (Stops is_space) (sym h) refl
tail_tight k r (tree t ts) b q h = subst (Stops is_space) (sym h.1) refl

pub more_tight : (k : ℕ) (taken : List (List ℕ)) (r : Rules) (fs : Fields) (b q : List ℕ) → SpellsMore k taken r fs b q → Stops is_space b
more_tight k taken r no_fields b q h = subst (Stops is_space) (sym h) refl
more_tight k taken r (field key t fs) b q h = subst (Stops is_space) (sym h.1) refl

pub items_tight : (k : ℕ) (r : Rules) (ts : Trees) (b q : List ℕ) → SpellsItems k r ts b q → Stops is_space b
items_tight k r no_trees b q h = subst (Stops is_space) (sym h) refl
items_tight k r (tree t ts) b q (c, h, more) = value_tight k r t b c h

pub members_tight : (k : ℕ) (r : Rules) (fs : Fields) (b q : List ℕ) → SpellsMembers k r fs b q → Stops is_space b
members_tight k r no_fields b q h = subst (Stops is_space) (sym h) refl
members_tight k r (field key t fs) b q h = subst (Stops is_space) (sym h.1.1) refl

-- after a byte and white space
pub mark_end : (byte : ℕ) (b c q : List ℕ) → b ≡ byte ∷ c → Spaces c q → Stops is_space q → after_mark b ≡ q
mark_end byte b c q e h tight = ap after_mark e ∙ spaces_end c q h tight

mark_last : (byte : ℕ) (b q : List ℕ) → b ≡ byte ∷ q → after_mark b ≡ after_spaces q
mark_last byte b q e = ap after_mark e

-- a member is its name, and its value is where it is looked for
pub pair_value : (k : ℕ) (taken : List (List ℕ)) (r : Rules) (key : List ℕ) (t : Tree) (b q : List ℕ) → Pair taken r key (SpellsValue k r t) b q
    → SpellsValue k r t (member_value b) q
pair_value k taken r key t b q (c, e, (d, name, (f, spaces, (g, colon, (v, more, value))))) =
    let named : after_string b ≡ d = ap after_string e ∙ over_text r key c d name.0 in
    let at_colon : after_spaces (after_string b) ≡ f = ap after_spaces named ∙ spaces_end d f spaces (subst (Stops is_space) (sym colon) refl) in
    let there : member_value b ≡ v = ap after_mark at_colon ∙ mark_end 58 f g v colon more (value_tight k r t v q value) in
    subst (λ (x : List ℕ). SpellsValue k r t x q) (sym there) value

pub pair_tight : (k : ℕ) (taken : List (List ℕ)) (r : Rules) (key : List ℕ) (t : Tree) (b q : List ℕ) → Pair taken r key (SpellsValue k r t) b q → Stops is_space b
pair_tight k taken r key t b q h = subst (Stops is_space) (sym h.1) refl

word_over : (word b q : List ℕ) → b ≡ word ++ q → after_spaces (drop (length word) b) ≡ after_spaces q
word_over word b q e = ap (λ (x : List ℕ). after_spaces (drop (length word) x)) e ∙ ap after_spaces (drop-append_seam word q)

mutual
  pub over_value : (k : ℕ) (r : Rules) (t : Tree) (b q : List ℕ) → SpellsValue k r t b q → after_value t b ≡ after_spaces q
  over_value k r null b q h = word_over (codes "null") b q h
  over_value k r (boolean v) b q h = word_over (word_of v) b q h
  over_value k r (number n) b q h = word_over n b q h.0
  over_value k r (text s) b q (c, e, h) = ap (λ (x : List ℕ). after_spaces (after_string x)) e ∙ ap after_spaces (over_text r s c q h)
  over_value k r (list ts) b q (may, (c, e, (d, spaces, items))) =
      ap (after_items ts) (mark_end 91 b c d e spaces (items_tight (suc k) r ts d q items)) ∙ over_items (suc k) r ts d q items
  over_value k r (object fs) b q (may, (c, e, (d, spaces, members))) =
      ap (after_members fs) (mark_end 123 b c d e spaces (members_tight (suc k) r fs d q members)) ∙ over_members (suc k) r fs d q members

  over_items : (k : ℕ) (r : Rules) (ts : Trees) (b q : List ℕ) → SpellsItems k r ts b q → after_items ts b ≡ after_spaces q
  over_items k r no_trees b q h = mark_last 93 b q h
  over_items k r (tree t ts) b q (c, value, (d, spaces, tail)) =
      ap (λ (x : List ℕ). after_more_items ts (after_mark x)) (over_value k r t b c value ∙ spaces_end c d spaces (tail_tight k r ts d q tail))
      ∙ over_tail k r ts d q tail

  over_tail : (k : ℕ) (r : Rules) (ts : Trees) (b q : List ℕ) → SpellsTail k r ts b q → after_more_items ts (after_mark b) ≡ after_spaces q
  over_tail k r no_trees b q h = mark_last 93 b q h
  over_tail k r (tree t ts) b q (c, e, (d, before, (f, value, (g, behind, tail)))) =
      ap (after_more_items (tree t ts)) (mark_end 44 b c d e before (value_tight k r t d f value))
      ∙ (ap (λ (x : List ℕ). after_more_items ts (after_mark x)) (over_value k r t d f value ∙ spaces_end f g behind (tail_tight k r ts g q tail))
      ∙ over_tail k r ts g q tail)

  over_members : (k : ℕ) (r : Rules) (fs : Fields) (b q : List ℕ) → SpellsMembers k r fs b q → after_members fs b ≡ after_spaces q
  over_members k r no_fields b q h = mark_last 125 b q h
  over_members k r (field key t fs) b q (c, pair, (d, spaces, more)) =
      ap (λ (x : List ℕ). after_more_members fs (after_mark x))
      (over_value k r t (member_value b) c (pair_value k [] r key t b c pair) ∙ spaces_end c d spaces (more_tight k (key ∷ []) r fs d q more))
      ∙ over_more k (key ∷ []) r fs d q more

  over_more : (k : ℕ) (taken : List (List ℕ)) (r : Rules) (fs : Fields) (b q : List ℕ) → SpellsMore k taken r fs b q → after_more_members fs (after_mark b) ≡ after_spaces q
  over_more k taken r no_fields b q h = mark_last 125 b q h
  over_more k taken r (field key t fs) b q (c, e, (d, before, (f, pair, (g, behind, more)))) =
      ap (after_more_members (field key t fs)) (mark_end 44 b c d e before (pair_tight k taken r key t d f pair))
      ∙ (ap (λ (x : List ℕ). after_more_members fs (after_mark x))
      (over_value k r t (member_value d) f (pair_value k taken r key t d f pair) ∙ spaces_end f g behind (more_tight k (taken ++ key ∷ []) r fs g q more))
      ∙ over_more k (taken ++ key ∷ []) r fs g q more)
