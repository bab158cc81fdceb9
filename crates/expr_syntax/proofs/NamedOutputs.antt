-- Each output of a `match` has a label, unless a label is past the bound.
use Rattle.std.proofs.Common.{◌≡◌, ℕ, suc, ◌+◌, ℤ, List, [], ◌∷◌, ◌++◌, length, refl, sym, subst, arith, true, false, inl, inr}
use Rattle.std.proofs.lemmas.Bool.{eq-eqb, cases_order, or_left, or_right}
use Rattle.std.specs.Prelude.{Bool, ◌||◌, ◌⊎◌, nat_eq, Option, Some, None, Result, Ok, Err, if◌then◌else◌}
use Rattle.decimal_json.specs.Tree.{Tree, null, boolean, number, text, list, object, Trees, no_trees, tree}
use Rattle.fixed_num.specs.Decimal.{read_text}
use Rattle.fixed_num.specs.declared.decimal.NumFault.{NumFault}
use Rattle.expr_syntax.specs.declared.labels.Collected.{Collected}
use Rattle.expr_syntax.specs.declared.parts.Label.{Label}
use Rattle.expr_syntax.specs.declared.parts.Label.TheVariants.{Text, Number}
use Rattle.expr_syntax.specs.declared.parts.Labelled.{Labelled}
use Rattle.expr_syntax.specs.Parts.{with_label, collect_number, collect_label, collect_labels, collect_part, collect_parts, then_collect, is_whole}
use Rattle.expr_syntax.specs.ReadTerms.{is_named, NameEachOutput}

-- a fact of labels, unless one was past the bound
abbrev Unless : Bool → Type 0 → Type 0
Unless past P = (past ≡ true) ⊎ P

-- each output below k has a label
abbrev AreNamed : ℕ → Collected → Type 0
AreNamed k found = Unless found.past (NameEachOutput k found.labels)

-- this output has one
abbrev IsNamed : ℕ → Collected → Type 0
IsNamed output found = Unless found.past (is_named found.labels output ≡ true)

abbrev pub NamedIn : ℕ → Option Collected → Type 0
NamedIn k None = Unit {0}
NamedIn k (Some found) = AreNamed k found

abbrev BothIn : ℕ → ℕ → Option Collected → Type 0
BothIn k output None = Unit {0}
BothIn k output (Some found) = AreNamed k found × IsNamed output found

pub named_all : (k : ℕ) (found : Collected) → found.past ≡ false → NamedIn k (Some found) → NameEachOutput k found.labels
named_all k found none (inl past) = absurd (cc)
named_all k found none (inr each) = each

named_more : (ls : List Labelled) (l : Labelled) (k : ℕ) → is_named ls k ≡ true → is_named (ls ++ l ∷ []) k ≡ true
named_more [] l k h = absurd (cc)
named_more (m ∷ ls) l k h = by (nat_eq m.output k) (is_named ls k) h (named_more ls l k)
  where
    by : (b c : Bool) → (b || c) ≡ true → (c ≡ true → is_named (ls ++ l ∷ []) k ≡ true) → (b || is_named (ls ++ l ∷ []) k) ≡ true
    by true c h later = refl
    by false c h later = later h

named_last : (ls : List Labelled) (l : Labelled) → is_named (ls ++ l ∷ []) l.output ≡ true
named_last [] l = or_left (nat_eq l.output l.output) false (eq-eqb l.output l.output refl)
named_last (m ∷ ls) l = or_right (nat_eq m.output l.output) (is_named (ls ++ l ∷ []) l.output) (named_last ls l)

unless_more : (past : Bool) (P Q : Type 0) → (P → Q) → Unless past P → Unless past Q
unless_more past P Q go (inl e) = inl e
unless_more past P Q go (inr p) = inr (go p)

-- a label more
label_keeps : (k output : ℕ) (label : Label) (found : Collected) → AreNamed k found → AreNamed k (with_label output label found)
label_keeps k output label found h =
    unless_more found.past (NameEachOutput k found.labels) (NameEachOutput k (with_label output label found).labels)
    (λ each j within. named_more found.labels (record { label = label; output = output }) j (each j within)) h

label_names : (output : ℕ) (label : Label) (found : Collected) → IsNamed output (with_label output label found)
label_names output label found = inr (named_last found.labels (record { label = label; output = output }))

with_both : (k output : ℕ) (label : Label) (found : Collected) → AreNamed k found → BothIn k output (Some (with_label output label found))
with_both k output label found h = (label_keeps k output label found h, label_names output label found)

if_both : (b : Bool) (k output : ℕ) (more : Collected) → BothIn k output (Some more) → BothIn k output (if b then Some more else None)
if_both true k output more h = h
if_both false k output more h = tt

number_both : (k output : ℕ) (r : Result ℤ NumFault) (found : Collected) → AreNamed k found → BothIn k output (collect_number output r found)
number_both k output (Ok z) found h = if_both (is_whole z) k output (with_label output (Number z) found) (with_both k output (Number z) found h)
number_both k output (Err fault) found h = (inl refl, inl refl)

label_both : (k output : ℕ) (t : Tree) (found : Collected) → AreNamed k found → BothIn k output (collect_label output t found)
label_both k output (text s) found h = with_both k output (Text s) found h
label_both k output (number n) found h = number_both k output (read_text n) found h
label_both k output null found h = tt
label_both k output (boolean b) found h = tt
label_both k output (list ts) found h = tt
label_both k output (object fs) found h = tt

then_both : (k output : ℕ) (found : Option Collected) (go : Collected → Option Collected) → BothIn k output found → ((more : Collected) → BothIn k output (Some more) → BothIn k output (go more)) → BothIn k output (then_collect found go)
then_both k output None go h later = tt
then_both k output (Some more) go h later = later more h

labels_both : (k output : ℕ) (ts : Trees) (found : Collected) → BothIn k output (Some found) → BothIn k output (collect_labels output ts found)
labels_both k output no_trees found h = h
labels_both k output (tree t ts) found h =
    then_both k output (collect_label output t found) (collect_labels output ts) (label_both k output t found h.0) (λ more g. labels_both k output ts more g)

part_both : (k output : ℕ) (t : Tree) (found : Collected) → AreNamed k found → BothIn k output (collect_part output t found)
part_both k output (list no_trees) found h = tt
part_both k output (list (tree t ts)) found h =
    then_both k output (collect_label output t found) (collect_labels output ts) (label_both k output t found h) (λ more g. labels_both k output ts more g)
part_both k output (text s) found h = label_both k output (text s) found h
part_both k output (number n) found h = label_both k output (number n) found h
part_both k output null found h = tt
part_both k output (boolean b) found h = tt
part_both k output (object fs) found h = tt

-- the outputs below k and k itself are those below k + 1
one_more : (k : ℕ) (ls : List Labelled) → NameEachOutput k ls → is_named ls k ≡ true → NameEachOutput (k + 1) ls
one_more k ls each last j within = elim (cases_order j k) [
  | inl same ↦ subst (λ i. is_named ls i ≡ true) (sym same) last
  | inr (inl less) ↦ each j less
  | inr (inr more) ↦ absurd (omega arith)
]

joined : (k : ℕ) (found : Collected) → AreNamed k found → IsNamed k found → AreNamed (k + 1) found
joined k found (inl past) last = inl past
joined k found (inr each) (inl past) = inl past
joined k found (inr each) (inr last) = inr (one_more k found.labels each last)

then_named : (k m : ℕ) (found : Option Collected) (go : Collected → Option Collected) → BothIn k k found → ((more : Collected) → AreNamed (k + 1) more → NamedIn m (go more)) → NamedIn m (then_collect found go)
then_named k m None go h later = tt
then_named k m (Some more) go h later = later more (joined k more h.0 h.1)

pub parts_named : (output : ℕ) (ts : List Tree) (found : Collected) → AreNamed output found → NamedIn (output + length ts) (collect_parts output ts found)
parts_named output [] found h = subst (λ k. AreNamed k found) (let e : output ≡ output + 0 = omega arith in e) h
parts_named output (t ∷ ts) found h =
    subst (λ k. NamedIn k (collect_parts output (t ∷ ts) found)) (let e : output + 1 + length ts ≡ output + suc (length ts) = omega arith in e)
    (then_named output (output + 1 + length ts) (collect_part output t found) (collect_parts (output + 1) ts)
    (part_both output output t found h)
    (λ more g. parts_named (output + 1) ts more g))
