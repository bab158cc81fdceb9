-- Elements of expressions, one after another.
use Rattle.std.proofs.Common.{◌≡◌, ℕ, zero, suc, ◌+◌, ◌-◌, ◌<◌, List, [], ◌∷◌, ◌++◌, length, take, drop, get_or, refl, ap, sym, ◌∙◌, arith, add-one}
use Rattle.std.specs.Prelude.{map, replicate, codes}
use Rattle.decimal_json.specs.Tree.{Tree, text, list, trees_of}
use Rattle.legacy_functions.specs.declared.function.NumberStop.{NumberStop}
use Rattle.legacy_functions.specs.declared.function.ZoomRule.{ZoomRule}
use Rattle.legacy_functions.specs.Function.{Way}
use Rattle.legacy_functions.specs.FunctionView.{branches_in}
use Rattle.legacy_functions.specs.Parts.{output_seen}
use Rattle.legacy_functions.specs.Tokens.{call}
use Rattle.legacy_functions.specs.ToExpression.{output_expression, branch_elements, step_expression, rule_expression, rule_branches}
use Rattle.legacy_functions.specs.View.{rule_seen, zoom_rule_seen}

pub one_more : {X : Type 0} (n : ℕ) (x : X) → replicate n x ++ x ∷ [] ≡ replicate (n + 1) x
one_more n x = after n ∙ ap (λ k. replicate k x) (sym (add-one n))
  where
    after : (n : ℕ) → replicate n x ++ x ∷ [] ≡ replicate (suc n) x
    after zero = refl
    after (suc n) = ap (λ xs. x ∷ xs) (after n)

-- one stop alone, and more
pub step_one : (x : Tree) (stops : List NumberStop) (d : NumberStop) → length stops ≡ 1 → output_expression (output_seen (get_or stops 0 d).output) ≡ step_expression x (branches_in stops)
step_one x [] d h = absurd (omega (arith, h))
step_one x (s ∷ []) d h = refl
step_one x (s ∷ t ∷ ss) d h = absurd (omega (arith, h))

pub step_more : (x : Tree) (stops : List NumberStop) (d : NumberStop) → 1 < length stops → call (codes "step") (x ∷ output_expression (output_seen (get_or stops 0 d).output) ∷ branch_elements (branches_in (drop 1 stops))) ≡ step_expression x (branches_in stops)
step_more x [] d h = absurd (omega arith)
step_more x (s ∷ []) d h = absurd (omega arith)
step_more x (s ∷ t ∷ ss) d h = refl

pub zoom_one : (x property default : Tree) (way : Way) (rules : List ZoomRule) (d : ZoomRule) → length rules ≡ 1 → rule_expression property default (rule_seen way (get_or rules 0 d).rule) ≡ step_expression x (rule_branches property default (map (zoom_rule_seen way) rules))
zoom_one x property default way [] d h = absurd (omega (arith, h))
zoom_one x property default way (r ∷ []) d h = refl
zoom_one x property default way (r ∷ s ∷ rs) d h = absurd (omega (arith, h))

pub zoom_more : (x property default : Tree) (way : Way) (rules : List ZoomRule) (d : ZoomRule) → 1 < length rules → call (codes "step") (x ∷ rule_expression property default (rule_seen way (get_or rules 0 d).rule) ∷ branch_elements (rule_branches property default (map (zoom_rule_seen way) (drop 1 rules)))) ≡ step_expression x (rule_branches property default (map (zoom_rule_seen way) rules))
zoom_more x property default way [] d h = absurd (omega arith)
zoom_more x property default way (r ∷ []) d h = absurd (omega arith)
zoom_more x property default way (r ∷ s ∷ rs) d h = refl

take_whole : (rs : List ZoomRule) → take (length rs) rs ≡ rs
take_whole [] = refl
take_whole (r ∷ rs) = ap (λ qs. r ∷ qs) (take_whole rs)

all_but_first : (rs : List ZoomRule) → take (length rs - 1) (drop 1 rs) ≡ drop 1 rs
all_but_first [] = refl
all_but_first (r ∷ rs) = ap (λ n. take n rs) less ∙ take_whole rs
  where
    less : length (r ∷ rs) - 1 ≡ length rs
    less = omega arith

-- the elements of a `step` over zooms, as they are pushed
pub zoom_pushed : (x property default : Tree) (way : Way) (rules : List ZoomRule) (r : ZoomRule) (zoom first : Tree) (items a b new : List Tree)
    → 1 < length rules
    → items ≡ text (codes "step") ∷ [] → a ≡ items ++ zoom ∷ [] → b ≡ a ++ first ∷ []
    → new ≡ b ++ branch_elements (rule_branches property default (map (zoom_rule_seen way) (take (length rules - 1) (drop 1 rules))))
    → zoom ≡ x → first ≡ rule_expression property default (rule_seen way (get_or rules 0 r).rule)
    → list (trees_of new) ≡ step_expression x (rule_branches property default (map (zoom_rule_seen way) rules))
zoom_pushed x property default way rules r zoom first items a b new more e1 e2 e3 e4 same_zoom same_first =
    let later = branch_elements (rule_branches property default (map (zoom_rule_seen way) (drop 1 rules))) in
    let rest : take (length rules - 1) (drop 1 rules) ≡ drop 1 rules = all_but_first rules in
    let whole : new ≡ text (codes "step") ∷ zoom ∷ first ∷ later =
    (e4 ∙ ap (λ (rs : List ZoomRule). b ++ branch_elements (rule_branches property default (map (zoom_rule_seen way) rs))) rest) ∙ ap (λ (es : List Tree). es ++ later) (e3 ∙ ap (λ (es : List Tree). es ++ first ∷ []) (e2 ∙ ap (λ (es : List Tree). es ++ zoom ∷ []) e1)) in
    ap (λ (es : List Tree). list (trees_of es)) whole
    ∙ ((λ i. call (codes "step") (same_zoom i ∷ same_first i ∷ later)) ∙ zoom_more x property default way rules r more)
