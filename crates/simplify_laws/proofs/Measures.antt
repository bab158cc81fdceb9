-- Nodes are weighed by their operators: simplification makes no term heavier.
use Rattle.std.proofs.Common.{◌≡◌, ◌∙◌, ◌≤◌, ℕ, ◌+◌, List, [], ◌∷◌, length, Bool, true, false, refl, ap, sym, arith}
use Rattle.std.proofs.lemmas.Bool.{or_parts}
use Rattle.std.specs.Prelude.{◌||◌}
use Rattle.expr_syntax.specs.Mentioned.{all_mentions, count, either, mentions, nothing, of_operator}
use Rattle.expr_syntax.specs.Term.{Term, literal, node, Terms, no_terms, term, terms_of}
use Rattle.expr_syntax.specs.TermSize.{nodes, terms_nodes}
use Rattle.expr_syntax.specs.declared.expression.Operator.{Operator}
use Rattle.expr_syntax.specs.declared.expression.Operator.TheVariants.{All, Any, Case, Coalesce, Let}
use Rattle.expr_syntax.specs.declared.world_parts.Mentions.{Mentions}
use Rattle.simplify_laws.specs.MeaningLaw.{ReadsNoMore}

-- what may lose arguments
abbrev pub LosesArguments : Operator → Type 0
LosesArguments All = Unit {0}
LosesArguments Any = Unit {0}
LosesArguments Case = Unit {0}
LosesArguments Coalesce = Unit {0}
LosesArguments op = ⊥

-- what a literal weighs, and a node by its operator and the number of its arguments
pub record Weights : Type 0 where
  pub bare : ℕ
  pub weight : Operator → ℕ → ℕ
  pub least : (op : Operator) (m : ℕ) → bare ≤ weight op m
  pub steady : (op : Operator) → LosesArguments op → (m n : ℕ) → weight op m ≡ weight op n
  pub lets : (bs cs : List (List ℕ)) (m n : ℕ) → weight (Let bs) m ≡ weight (Let cs) n

abbrev mutual
  pub measure : Weights → Term → ℕ
  measure w (literal d) = w.bare
  measure w (node op ts) = w.weight op (count ts) + measures w ts

  pub measures : Weights → Terms → ℕ
  measures w no_terms = 0
  measures w (term t ts) = measure w t + measures w ts

pub not_below_bare : (w : Weights) (t : Term) → w.bare ≤ measure w t
not_below_bare w (literal d) = omega arith
not_below_bare w (node op ts) = let h = w.least op (count ts) in omega (arith, h)

same_count : (us vs : List Term) → length us ≡ length vs → count (terms_of us) ≡ count (terms_of vs)
same_count [] [] h = refl
same_count [] (v ∷ vs) h = absurd (omega (arith, h))
same_count (u ∷ us) [] h = absurd (omega (arith, h))
same_count (u ∷ us) (v ∷ vs) h = ap (λ n. n + 1) (same_count us vs (omega (arith, h)))

pub same_weight : (w : Weights) (op : Operator) (us vs : List Term) → length us ≡ length vs → w.weight op (count (terms_of us)) ≡ w.weight op (count (terms_of vs))
same_weight w op us vs h = ap (w.weight op) (same_count us vs h)

-- ---- how many nodes there are

abbrev pub node_weights : Weights
node_weights = record { bare = 1; weight = λ op m. 1; least = λ op m. omega arith; steady = λ op loses m n. refl; lets = λ bs cs m n. refl }

mutual
  pub measured_nodes : (t : Term) → measure node_weights t ≡ nodes t
  measured_nodes (literal d) = refl
  measured_nodes (node op ts) = ap (λ n. 1 + n) (all_measured ts)

  all_measured : (ts : Terms) → measures node_weights ts ≡ terms_nodes ts
  all_measured no_terms = refl
  all_measured (term t ts) = λ i. measured_nodes t i + all_measured ts i

-- ---- how many nodes read a part of the world

abbrev pub one_if : Bool → ℕ
one_if true = 1
one_if false = 0

-- a part of what is read
pub record Part : Type 0 where
  pub in_mentions : Mentions → Bool
  pub of_nothing : in_mentions nothing ≡ false
  pub of_either : (a b : Mentions) → in_mentions (either a b) ≡ (in_mentions a || in_mentions b)

pub loses_in_silence : (op : Operator) → LosesArguments op → (m : ℕ) → of_operator op m ≡ nothing
loses_in_silence All loses m = refl
loses_in_silence Any loses m = refl
loses_in_silence Case loses m = refl
loses_in_silence Coalesce loses m = refl
loses_in_silence op loses m = absurd loses

module _ (p : Part) where
  abbrev part_weights : Weights
  part_weights = record {
    bare = 0;
    weight = λ op m. one_if (p.in_mentions (of_operator op m));
    least = λ op m. omega arith;
    steady = λ op loses m n. ap (λ r. one_if (p.in_mentions r)) (loses_in_silence op loses m ∙ sym (loses_in_silence op loses n));
    lets = λ bs cs m n. refl;
  }

  one_if_none : (b : Bool) (n : ℕ) → one_if b + n ≡ 0 → (b ≡ false) × (n ≡ 0)
  one_if_none true n h = absurd (omega (arith, h))
  one_if_none false n h = (refl, omega (arith, h))

  mutual
    light : (t : Term) → p.in_mentions (mentions t) ≡ false → measure part_weights t ≡ 0
    light (literal d) h = refl
    light (node op ts) h =
        let (own, others) = or_parts (p.in_mentions (of_operator op (count ts))) (p.in_mentions (all_mentions ts)) (sym (p.of_either (of_operator op (count ts)) (all_mentions ts)) ∙ h) in
        λ i. one_if (own i) + all_light ts others i

    all_light : (ts : Terms) → p.in_mentions (all_mentions ts) ≡ false → measures part_weights ts ≡ 0
    all_light no_terms h = refl
    all_light (term t ts) h =
        let (own, others) = or_parts (p.in_mentions (mentions t)) (p.in_mentions (all_mentions ts)) (sym (p.of_either (mentions t) (all_mentions ts)) ∙ h) in
        λ i. light t own i + all_light ts others i

  mutual
    unread : (t : Term) → measure part_weights t ≡ 0 → p.in_mentions (mentions t) ≡ false
    unread (literal d) h = p.of_nothing
    unread (node op ts) h =
        let (own, others) = one_if_none (p.in_mentions (of_operator op (count ts))) (measures part_weights ts) h in
        p.of_either (of_operator op (count ts)) (all_mentions ts) ∙ (λ i. own i || all_unread ts others i)

    all_unread : (ts : Terms) → measures part_weights ts ≡ 0 → p.in_mentions (all_mentions ts) ≡ false
    all_unread no_terms h = p.of_nothing
    all_unread (term t ts) h =
        let own : measure part_weights t ≡ 0 = omega (arith, h) in
        let others : measures part_weights ts ≡ 0 = omega (arith, h) in
        p.of_either (mentions t) (all_mentions ts) ∙ (λ i. unread t own i || all_unread ts others i)

  -- what is no heavier reads the part only where the other does
  pub read_before : (new old : Term) → measure part_weights new ≤ measure part_weights old → p.in_mentions (mentions new) ≡ true → p.in_mentions (mentions old) ≡ true
  read_before new old less h = by (p.in_mentions (mentions old)) refl
    where
      by : (b : Bool) → p.in_mentions (mentions old) ≡ b → b ≡ true
      by true q = refl
      by false q =
          let none = light old q in
          let gone : measure part_weights new ≡ 0 = omega (arith, less, none) in
          sym (unread new gone) ∙ h

abbrev zoom_part : Part
zoom_part = record { in_mentions = λ (m : Mentions). m.zoom; of_nothing = refl; of_either = λ a b. refl }

abbrev feature_part : Part
feature_part = record { in_mentions = λ (m : Mentions). m.feature; of_nothing = refl; of_either = λ a b. refl }

abbrev state_part : Part
state_part = record { in_mentions = λ (m : Mentions). m.state; of_nothing = refl; of_either = λ a b. refl }

abbrev image_part : Part
image_part = record { in_mentions = λ (m : Mentions). m.image; of_nothing = refl; of_either = λ a b. refl }

pub reads_no_more : (new old : Term) → ((w : Weights) → measure w new ≤ measure w old) → ReadsNoMore (mentions new) (mentions old)
reads_no_more new old lighter = record {
  zoom = read_before zoom_part new old (lighter (part_weights zoom_part));
  feature = read_before feature_part new old (lighter (part_weights feature_part));
  state = read_before state_part new old (lighter (part_weights state_part));
  image = read_before image_part new old (lighter (part_weights image_part));
}
