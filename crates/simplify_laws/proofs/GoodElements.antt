-- Simplified elements that mean what they meant, and what is known of them.
use Rattle.std.proofs.Common.{◌≡◌, ◌∙◌, ◌≤◌, ℕ, ◌+◌, suc, List, [], ◌∷◌, ◌++◌, length, map, Bool, true, false, Option, Some, None, refl, ap, sym, subst, arith}
use Rattle.std.proofs.lemmas.Bool.{and_parts, not-true, or_parts, or_left, or_right}
use Rattle.std.specs.Prelude.{not, ◌&&◌, if◌then◌else◌}
use Rattle.decimal_json.specs.Sound.{HasDistinctKeys}
use Rattle.decimal_json.specs.Tree.{Tree, object, Trees, no_trees, tree, trees_of, Fields, no_fields, field, members_of}
use Rattle.prop_values.specs.declared.kinds.Kind.{Kind}
use Rattle.prop_values.specs.declared.kinds.Want.{Want}
use Rattle.expr_syntax.specs.BoundNames.{is_among}
use Rattle.expr_syntax.specs.Elements.{taken}
use Rattle.expr_syntax.specs.Operators.{wanted_by, want_of}
use Rattle.expr_syntax.specs.Reading.{is_part}
use Rattle.expr_syntax.specs.Rows.{element_place, is_last}
use Rattle.expr_syntax.specs.Term.{Term, terms_of}
use Rattle.expr_syntax.specs.declared.expression.Operator.{Operator}
use Rattle.expr_syntax.specs.declared.expression.Operator.TheVariants.{Interpolate}
use Rattle.expr_syntax.specs.declared.rows.ElementLayout.{ElementLayout}
use Rattle.expr_syntax.specs.declared.rows.ElementPlace.{ElementPlace}
use Rattle.expr_syntax.specs.declared.rows.ElementPlace.TheVariants.{Part, Argument, Output}
use Rattle.expr_types.specs.Typing.{KindScope, argument_want, handed, own_named}
use Rattle.expr_types.specs.Visits.{standing_of}
use Rattle.expr_types.specs.declared.standing.Standing.{Standing}
use Rattle.eval_face.specs.Meaning.{mean, means}
use Rattle.eval_face.specs.Names.{BoundOutcomes, named}
use Rattle.eval_face.specs.World.{World}
use Rattle.style_simplify.specs.Choices.{NodeChoices, chosen, if_may, is_image, may_replace, same_found}
use Rattle.style_simplify.specs.Simple.{choices}
use Rattle.style_simplify.specs.SimpleElements.{SimpleElement, all_asks, and_kind, argument_kinds, is_reading, part, some_reads, tree_in}
use Rattle.simplify_laws.proofs.ParsedTrees.{Names, Values, HereOr, Parsed, ParsedArguments}
use Rattle.simplify_laws.proofs.Measures.{Weights, measure, measures}
use Rattle.simplify_laws.proofs.Alike.{AreAlike, given, given_want}
use Rattle.simplify_laws.proofs.TermKinds.{AllHave, AreTyped, HasKind, IsTyped}
use Rattle.simplify_laws.proofs.Strays.{all_strays, strays}
use Rattle.typing_laws.proofs.KindLaws.{kind_eq}

-- each asked name is among some
abbrev pub AreAmong : Names → Names → Type 0
AreAmong N [] = Unit {0}
AreAmong N (s ∷ ss) = (is_among N s ≡ true) × AreAmong N ss

-- each asked name represents the same
abbrev pub SameAt : Names → BoundOutcomes → BoundOutcomes → Type 0
SameAt [] names names' = Unit {0}
SameAt (s ∷ ss) names names' = (named names s ≡ named names' s) × SameAt ss names names'

-- each asked name has the same kind
abbrev pub SameKinds : Names → KindScope → KindScope → Type 0
SameKinds [] ks js = Unit {0}
SameKinds (s ∷ ss) ks js = (own_named ks s ≡ own_named js s) × SameKinds ss ks js

pub kinds_apart : (xs ys : Names) (ks js : KindScope) → SameKinds (xs ++ ys) ks js → SameKinds xs ks js × SameKinds ys ks js
kinds_apart [] ys ks js h = (tt, h)
kinds_apart (x ∷ xs) ys ks js h = let r = kinds_apart xs ys ks js h.1 in ((h.0, r.0), r.1)

pub same_kinds : (asks : Names) (ks : KindScope) → SameKinds asks ks ks
same_kinds [] ks = tt
same_kinds (s ∷ ss) ks = (refl, same_kinds ss ks)

pub among_parts : (N xs ys : Names) → AreAmong N (xs ++ ys) → AreAmong N xs × AreAmong N ys
among_parts N [] ys h = (tt, h)
among_parts N (x ∷ xs) ys h = let r = among_parts N xs ys h.1 in ((h.0, r.0), r.1)

pub among_both : (N xs ys : Names) → AreAmong N xs → AreAmong N ys → AreAmong N (xs ++ ys)
among_both N [] ys h k = k
among_both N (x ∷ xs) ys h k = (h.0, among_both N xs ys h.1 k)

pub same_parts : (xs ys : Names) (names names' : BoundOutcomes) → SameAt (xs ++ ys) names names' → SameAt xs names names' × SameAt ys names names'
same_parts [] ys names names' h = (tt, h)
same_parts (x ∷ xs) ys names names' h = let r = same_parts xs ys names names' h.1 in ((h.0, r.0), r.1)

pub handed_is : (op : Operator) (want : Want) → handed op want ≡ given op want
handed_is (Interpolate r) want = refl
handed_is op want = refl

pub want_is : (op : Operator) (m k : ℕ) (want : Want) → argument_want op m k want ≡ given_want op m k want
want_is op m k want = ap (want_of (wanted_by op m k)) (handed_is op want)

pub one_scope : (b : Bool) (N : Names) → (if b then N else N) ≡ N
one_scope true N = refl
one_scope false N = refl

pub both_kinds : (o : Option Kind) (p : Option (List Kind)) (ks : List Kind) → and_kind o p ≡ Some ks → (k : Kind) × (js : List Kind) × (o ≡ Some k) × (p ≡ Some js)
both_kinds (Some k) (Some js) ks h = (k, js, refl, refl)
both_kinds (Some k) None ks h = absurd (cc)
both_kinds None p ks h = absurd (cc)

-- and what they are together
pub kinds_whole : (o : Option Kind) (p : Option (List Kind)) (ks : List Kind) → and_kind o p ≡ Some ks → (k : Kind) × (js : List Kind) × (o ≡ Some k) × (p ≡ Some js) × (k ∷ js ≡ ks)
kinds_whole (Some k) (Some js) ks h = let is : k ∷ js ≡ ks = cc in (k, js, refl, refl, is)
kinds_whole (Some k) None ks h = absurd (cc)
kinds_whole None p ks h = absurd (cc)

found_is : (o : Option Kind) (k : Kind) → same_found o (Some k) ≡ true → o ≡ Some k
found_is (Some j) k h = ap Some (kind_eq j k h)
found_is None k h = absurd (cc)

-- in names of these kinds
module _ (g : Values) (scope : KindScope) where
  -- what is known of an element that has a kind
  pub record Known (want : Want) (f : Bool) (e : SimpleElement) (a b : Term) : Type 0 where
    pub names : (N : Names) → AreAmong N e.asks → Parsed g e.tree N f a b
    pub depends : (names names' : BoundOutcomes) (v w : World) → SameAt e.asks names names' → (e.reads ≡ true → v ≡ w) → mean b want names v ≡ mean b want names' w
    pub steady : e.reads ≡ false → a ≡ b
    pub typed : (ks : KindScope) → SameKinds e.asks scope ks → (k : Kind) → e.kind ≡ Some k → HasKind b want ks k

  -- an element that means under a want what a term means
  pub record Good (want : Want) (N : Names) (f : Bool) (t : Term) (e : SimpleElement) : Type 0 where
    pub first : Term
    pub second : Term
    pub parsed : Parsed g e.tree N f first second
    pub same : (names : BoundOutcomes) (world : World) → mean second want names world ≡ mean t want names world
    pub lighter : (w : Weights) → measure w second ≤ measure w t
    pub calmer : (s : Standing) → strays second s ≤ strays t s
    pub known : (k : Kind) → e.kind ≡ Some k → Known want f e first second
    pub asked : (k : Kind) → e.kind ≡ Some k → AreAmong N e.asks
    pub argument : e.is_part ≡ false

  -- an element that has the kind of what it was, where that has one
  abbrev pub Kept : Want → Term → SimpleElement → Type 0
  Kept want t e = (k : Kind) → IsTyped t want scope k → e.kind ≡ Some k

  pub record GoodChoices (want : Want) (N : Names) (f : Bool) (t : Term) (c : NodeChoices) : Type 0 where
    pub node : Good want N f t c.node
    pub kept : Kept want t c.node
    pub literal : (e : SimpleElement) → c.literal ≡ Some e → (k : Kind) → c.node.kind ≡ Some k → Good want N f t e
    pub shorter : (e : SimpleElement) → c.shorter ≡ Some e → (k : Kind) → c.node.kind ≡ Some k → Good want N f t e

  -- choices of a node at a tree; where no `format` may be, what is no `image` node stays none
  abbrev pub GoodNode : Want → Names → Bool → Tree → Term → NodeChoices → Type 0
  GoodNode want N f t b c = GoodChoices want N f b c × (f ≡ false → is_image t ≡ false → is_image c.node.tree ≡ false)

  some_kind : (o p : Option Kind) → same_found o p ≡ true → (k : Kind) × (p ≡ Some k)
  some_kind (Some k) (Some j) h = (j, refl)
  some_kind (Some k) None h = absurd (cc)
  some_kind None p h = absurd (cc)

  if_good : (want : Want) (N : Names) (f : Bool) (t : Term) (is_content : Bool) (whole : SimpleElement) (o : Option SimpleElement) (other : SimpleElement) →
      ((e : SimpleElement) → o ≡ Some e → (k : Kind) → whole.kind ≡ Some k → Good want N f t e) → Good want N f t other → Good want N f t (if_may is_content whole o other)
  if_good want N f t is_content whole None other h k = k
  if_good want N f t is_content whole (Some e) other h k = by (may_replace is_content e whole) refl
    where
      by : (b : Bool) → may_replace is_content e whole ≡ b → Good want N f t (if b then e else other)
      by false q = k
      by true q =
          let (kind, is) = some_kind e.kind whole.kind (and_parts (same_found e.kind whole.kind) (not (is_content && is_image e.tree)) q).0 in
          h e refl kind is

  pub chosen_good : (want : Want) (N : Names) (f : Bool) (t : Term) (is_content : Bool) (c : NodeChoices) → GoodChoices want N f t c → Good want N f t (chosen is_content c)
  chosen_good want N f t is_content c h =
      if_good want N f t is_content c.node c.literal (if_may is_content c.node c.shorter c.node) h.literal
      (if_good want N f t is_content c.node c.shorter c.node h.shorter h.node)

  if_kept : (want : Want) (t : Term) (is_content : Bool) (whole : SimpleElement) (o : Option SimpleElement) (other : SimpleElement) → Kept want t whole → Kept want t other → Kept want t (if_may is_content whole o other)
  if_kept want t is_content whole None other h k = k
  if_kept want t is_content whole (Some e) other h k = by (may_replace is_content e whole) refl
    where
      by : (b : Bool) → may_replace is_content e whole ≡ b → Kept want t (if b then e else other)
      by false q = k
      by true q = λ kind typed. found_is e.kind kind (sym (ap (same_found e.kind) (h kind typed)) ∙ (and_parts (same_found e.kind whole.kind) (not (is_content && is_image e.tree)) q).0)

  pub chosen_kept : (want : Want) (N : Names) (f : Bool) (t : Term) (is_content : Bool) (c : NodeChoices) → GoodChoices want N f t c → Kept want t (chosen is_content c)
  chosen_kept want N f t is_content c h =
      if_kept want t is_content c.node c.literal (if_may is_content c.node c.shorter c.node) h.kept (if_kept want t is_content c.node c.shorter c.node h.kept h.kept)

  -- a content of a `format` becomes no `image` node
  if_no_image : (whole : SimpleElement) (o : Option SimpleElement) (other : SimpleElement) → is_image other.tree ≡ false → is_image (if_may true whole o other).tree ≡ false
  if_no_image whole None other k = k
  if_no_image whole (Some e) other k = by (may_replace true e whole) refl
    where
      by : (b : Bool) → may_replace true e whole ≡ b → is_image (if b then e else other).tree ≡ false
      by false q = k
      by true q = not-true (is_image e.tree) (and_parts (same_found e.kind whole.kind) (not (is_image e.tree)) q).1

  pub chosen_no_image : (c : NodeChoices) → is_image c.node.tree ≡ false → is_image (chosen true c).tree ≡ false
  chosen_no_image c h = if_no_image c.node c.literal (if_may true c.node c.shorter c.node) (if_no_image c.node c.shorter c.node h)

-- ---- trees

module _ (g : Values) where
  abbrev pub GoodTree : Tree → Type 0
  GoodTree t = (N : Names) (f : Bool) (a b : Term) → Parsed g t N f a b → (want : Want) (scope : KindScope) → GoodNode g scope want N f t b (choices a t want scope)

  abbrev mutual
    -- each item, and each member of an item
    pub GoodTrees : Trees → Type 0
    GoodTrees no_trees = Unit {0}
    GoodTrees (tree t ts) = GoodTree t × GoodMembers t × GoodTrees ts

    pub GoodMembers : Tree → Type 0
    GoodMembers (object fs) = HasDistinctKeys (members_of fs) × GoodFields fs
    GoodMembers t = Unit {0}

    pub GoodFields : Fields → Type 0
    GoodFields no_fields = Unit {0}
    GoodFields (field k t fs) = GoodTree t × GoodFields fs

-- ---- the elements of a node

-- a part, or an argument
abbrev pub PartOr : Bool → Type 0 → Type 0 → Type 0
PartOr true A B = A
PartOr false A B = B

module _ (g : Values) (scope : KindScope) where
  -- arguments from the number k on, each of the kind of what it was
  abbrev pub AreKept : Operator → ℕ → ℕ → Want → List SimpleElement → List Term → Type 0
  AreKept op m k want [] vs = vs ≡ []
  AreKept op m k want (e ∷ es) vs =
      PartOr e.is_part (AreKept op m k want es vs)
      ((v : Term) × (ys : List Term) × (vs ≡ v ∷ ys) × Kept g scope (argument_want op m k want) v e × AreKept op m (k + 1) want es ys)

  pub kinds_kept : (op : Operator) (m k : ℕ) (want : Want) (es : List SimpleElement) (vs : List Term) (js : List Kind) → AreKept op m k want es vs → AreTyped op m k want scope vs js → argument_kinds es ≡ Some js
  kinds_kept op m k want [] vs js h typed = by js (subst (λ xs. AreTyped op m k want scope xs js) h typed)
    where
      by : (js : List Kind) → AreTyped op m k want scope [] js → Some [] ≡ Some js
      by [] t = refl
      by (j ∷ js) t = absurd t
  kinds_kept op m k want (e ∷ es) vs js h typed = by e.is_part h (λ q. kinds_kept op m k want es vs js q typed) (λ ys is q t. kinds_kept op m (k + 1) want es ys is q t)
    where
      one : (v : Term) (ys : List Term) (js : List Kind) → Kept g scope (argument_want op m k want) v e → AreTyped op m k want scope (v ∷ ys) js → ((is : List Kind) → AreTyped op m (k + 1) want scope ys is → argument_kinds es ≡ Some is) → and_kind e.kind (argument_kinds es) ≡ Some js
      one v ys [] kept t rest = absurd t
      one v ys (j ∷ js) kept t rest = λ i. and_kind (kept j t.0 i) (rest js t.1 i)

      by : (b : Bool) → PartOr b (AreKept op m k want es vs) ((v : Term) × (ys : List Term) × (vs ≡ v ∷ ys) × Kept g scope (argument_want op m k want) v e × AreKept op m (k + 1) want es ys) →
          (AreKept op m k want es vs → argument_kinds es ≡ Some js) → ((ys : List Term) (is : List Kind) → AreKept op m (k + 1) want es ys → AreTyped op m (k + 1) want scope ys is → argument_kinds es ≡ Some is) →
          (if b then argument_kinds es else and_kind e.kind (argument_kinds es)) ≡ Some js
      by true h skip go = skip h
      by false h skip go =
          let (v, ys, vs_is, kept, rest) = h in
          one v ys js kept (subst (λ xs. AreTyped op m k want scope xs js) vs_is typed) (λ is t. go ys is rest t)

  module _ (op : Operator) (m : ℕ) (want : Want) (l : ElementLayout) (n : ℕ) where
    -- beside the trees from place i on: parts as they are, and arguments from the number k on
    abbrev pub AreGood : Names → Bool → ℕ → ℕ → List Tree → List SimpleElement → List Term → Type 0
    AreGood N f i k [] [] vs = vs ≡ []
    AreGood N f i k [] (e ∷ es) vs = ⊥
    AreGood N f i k (t ∷ ts) [] vs = ⊥
    AreGood N f i k (t ∷ ts) (e ∷ es) vs =
        HereOr (element_place l n i) f ((e ≡ part t) × AreGood N f (i + 1) k ts es vs)
        (λ h. (v : Term) × (ys : List Term) × (vs ≡ v ∷ ys) × Good g scope (argument_want op m k want) N h v e × AreGood N f (i + 1) (k + 1) ts es ys)

    -- what is known of them where each has a kind
    pub record AreKnown (f : Bool) (i k : ℕ) (es : List SimpleElement) (firsts seconds : List Term) : Type 0 where
      pub names : (N : Names) → AreAmong N (all_asks es) → ParsedArguments g l n i (trees_of (map tree_in es)) N N f firsts seconds
      pub depends : (names names' : BoundOutcomes) (v w : World) → SameAt (all_asks es) names names' → (some_reads es ≡ true → v ≡ w) → AreAlike want names names' v w op m k (means (terms_of seconds)) (means (terms_of seconds))
      pub steady : some_reads es ≡ false → firsts ≡ seconds
      pub typed : (ks : KindScope) → SameKinds (all_asks es) scope ks → (js : List Kind) → argument_kinds es ≡ Some js → AllHave op m k want ks seconds js

    -- the arguments that they are
    pub record NewArguments (N : Names) (f : Bool) (i k : ℕ) (ts : List Tree) (es : List SimpleElement) (vs : List Term) : Type 0 where
      pub firsts : List Term
      pub seconds : List Term
      pub parsed : ParsedArguments g l n i (trees_of (map tree_in es)) N N f firsts seconds
      pub alike : (names : BoundOutcomes) (world : World) → AreAlike want names names world world op m k (means (terms_of seconds)) (means (terms_of vs))
      pub lighter : (w : Weights) → measures w (terms_of seconds) ≤ measures w (terms_of vs)
      pub calmer : (s : Standing) → all_strays (terms_of seconds) op m k s ≤ all_strays (terms_of vs) op m k s
      pub as_many : length seconds ≡ length vs
      pub counted : length es ≡ length ts
      pub taken : (test : ℕ → ℕ → Bool) → ((j : ℕ) → test n j ≡ true → is_part (element_place l n j) ≡ true) → taken test n i (trees_of (map tree_in es)) ≡ taken test n i (trees_of ts)
      pub known : (ks : List Kind) → argument_kinds es ≡ Some ks → AreKnown f i k es firsts seconds
      pub asked : (ks : List Kind) → argument_kinds es ≡ Some ks → AreAmong N (all_asks es)

    here_or : (place : ElementPlace) (f : Bool) (P : Type 0) (Q : Bool → Type 0) (R : Type 0) → HereOr place f P Q → (is_part place ≡ true → P → R) → ((h : Bool) → ((S : Type 0) (T : Bool → Type 0) → T h → HereOr place f S T) → is_part place ≡ false → Q h → R) → R
    here_or Part f P Q R h part argument = part refl h
    here_or Argument f P Q R h part argument = argument false (λ S T k. k) refl h
    here_or Output f P Q R h part argument = argument f (λ S T k. k) refl h

    part_place : (place : ElementPlace) (f : Bool) (S : Type 0) (T : Bool → Type 0) → is_part place ≡ true → S → HereOr place f S T
    part_place Part f S T e h = h
    part_place Argument f S T e h = absurd (cc)
    part_place Output f S T e h = absurd (cc)

    module _ (N : Names) (f : Bool) (i k : ℕ) (t : Tree) (ts : List Tree) (es : List SimpleElement) where
      part_more : (vs : List Term) → is_part (element_place l n i) ≡ true → NewArguments N f (i + 1) k ts es vs → NewArguments N f i k (t ∷ ts) (part t ∷ es) vs
      part_more vs here r = record {
        firsts = r.firsts;
        seconds = r.seconds;
        parsed = part_place (element_place l n i) f _ _ here r.parsed;
        alike = r.alike;
        lighter = r.lighter;
        calmer = r.calmer;
        as_many = r.as_many;
        counted = ap suc r.counted;
        taken = λ test h. by test (test n i) (r.taken test h);
        known = λ ks q. let s = r.known ks q in record {
          names = λ M a. part_place (element_place l n i) f _ _ here (s.names M a);
          depends = s.depends;
          steady = s.steady;
          typed = s.typed;
        };
        asked = r.asked;
      }
        where
          by : (test : ℕ → ℕ → Bool) (b : Bool) → taken test n (i + 1) (trees_of (map tree_in es)) ≡ taken test n (i + 1) (trees_of ts) →
              (if b then t ∷ taken test n (i + 1) (trees_of (map tree_in es)) else taken test n (i + 1) (trees_of (map tree_in es))) ≡ (if b then t ∷ taken test n (i + 1) (trees_of ts) else taken test n (i + 1) (trees_of ts))
          by test true q = ap (λ us. t ∷ us) q
          by test false q = q

      argument_more : (h : Bool) (v : Term) (e : SimpleElement) (vs ys : List Term) → ((S : Type 0) (T : Bool → Type 0) → T h → HereOr (element_place l n i) f S T) → is_part (element_place l n i) ≡ false → vs ≡ v ∷ ys →
          Good g scope (argument_want op m k want) N h v e → NewArguments N f (i + 1) (k + 1) ts es ys → NewArguments N f i k (t ∷ ts) (e ∷ es) vs
      argument_more h v e vs ys here apart vs_is one r =
          subst (NewArguments N f i k (t ∷ ts) (e ∷ es)) (sym vs_is) (record {
            firsts = one.first ∷ r.firsts;
            seconds = one.second ∷ r.seconds;
            parsed = here _ _ (one.first, one.second, r.firsts, r.seconds, refl, refl, (subst (λ M. Parsed g e.tree M h one.first one.second) (sym (one_scope (is_last n i) N)) one.parsed, r.parsed));
            alike = λ names world. (subst (λ u. mean one.second u names world ≡ mean v u names world) (want_is op m k want) (one.same names world), r.alike names world);
            lighter = λ w. let x = one.lighter w in let y = r.lighter w in omega (arith, x, y);
            calmer = λ s. let x = one.calmer (standing_of s op m k) in let y = r.calmer s in omega (arith, x, y);
            as_many = ap suc r.as_many;
            counted = ap suc r.counted;
            taken = λ test parts. by test (test n i) refl parts (r.taken test parts);
            known = λ ks q. known_more ks (kinds_are ks q);
            asked = λ ks q.
                let (own, others, own_is, others_are) = both_kinds e.kind (argument_kinds es) ks (kinds_are ks q) in
                among_both N e.asks (all_asks es) (one.asked own own_is) (r.asked others others_are);
          })
        where
          by : (test : ℕ → ℕ → Bool) (b : Bool) → test n i ≡ b → ((j : ℕ) → test n j ≡ true → is_part (element_place l n j) ≡ true) →
              taken test n (i + 1) (trees_of (map tree_in es)) ≡ taken test n (i + 1) (trees_of ts) →
              (if b then e.tree ∷ taken test n (i + 1) (trees_of (map tree_in es)) else taken test n (i + 1) (trees_of (map tree_in es))) ≡ (if b then t ∷ taken test n (i + 1) (trees_of ts) else taken test n (i + 1) (trees_of ts))
          by test false q parts rest = rest
          by test true q parts rest = absurd (let p = parts i q in cc)

          kinds_are : (ks : List Kind) → argument_kinds (e ∷ es) ≡ Some ks → and_kind e.kind (argument_kinds es) ≡ Some ks
          kinds_are ks q = sym (ap (λ b. if b then argument_kinds es else and_kind e.kind (argument_kinds es)) one.argument) ∙ q

          reading_is : is_reading e ≡ e.reads
          reading_is = ap (λ b. if b then false else e.reads) one.argument

          known_more : (ks : List Kind) → and_kind e.kind (argument_kinds es) ≡ Some ks → AreKnown f i k (e ∷ es) (one.first ∷ r.firsts) (one.second ∷ r.seconds)
          known_more ks q =
              let (own, others, own_is, others_are) = both_kinds e.kind (argument_kinds es) ks q in
              let s = one.known own own_is in
              let u = r.known others others_are in
              record {
                names = λ M a.
                    let (x, y) = among_parts M e.asks (all_asks es) a in
                    here _ _ (one.first, one.second, r.firsts, r.seconds, refl, refl, (subst (λ M. Parsed g e.tree M h one.first one.second) (sym (one_scope (is_last n i) M)) (s.names M x), u.names M y));
                depends = λ names names' v w a reads.
                    let (x, y) = same_parts e.asks (all_asks es) names names' a in (
                      subst (λ u. mean one.second u names v ≡ mean one.second u names' w) (want_is op m k want) (s.depends names names' v w x (λ z. reads (or_left (is_reading e) (some_reads es) (reading_is ∙ z)))),
                      u.depends names names' v w y (λ z. reads (or_right (is_reading e) (some_reads es) z)),
                    );
                steady = λ z.
                    let (x, y) = or_parts (is_reading e) (some_reads es) z in
                    (λ i. s.steady (sym reading_is ∙ x) i ∷ u.steady y i);
                typed = λ ks a js kinds.
                    let (x, y) = kinds_apart e.asks (all_asks es) scope ks a in
                    let (j, is, j_is, is_are, all) = kinds_whole e.kind (argument_kinds es) js (kinds_are js kinds) in
                    subst (AllHave op m k want ks (one.second ∷ r.seconds)) all (s.typed ks x j j_is, u.typed ks y is is_are);
              }

    pub new_arguments : (N : Names) (f : Bool) (i k : ℕ) (ts : List Tree) (es : List SimpleElement) (vs : List Term) → AreGood N f i k ts es vs → NewArguments N f i k ts es vs
    new_arguments N f i k [] [] vs h =
        subst (NewArguments N f i k [] []) (sym h) (record {
          firsts = [];
          seconds = [];
          parsed = (refl, refl);
          alike = λ names world. tt;
          lighter = λ w. omega arith;
          calmer = λ s. omega arith;
          as_many = refl;
          counted = refl;
          taken = λ test parts. refl;
          known = λ ks q. record { names = λ M a. (refl, refl); depends = λ names names' v w a reads. tt; steady = λ z. refl; typed = λ ks a js kinds. let none : [] ≡ js = cc in subst (AllHave op m k want ks []) none tt };
          asked = λ ks q. tt;
        })
    new_arguments N f i k [] (e ∷ es) vs h = absurd h
    new_arguments N f i k (t ∷ ts) [] vs h = absurd h
    new_arguments N f i k (t ∷ ts) (e ∷ es) vs h =
        here_or (element_place l n i) f _ _ (NewArguments N f i k (t ∷ ts) (e ∷ es) vs) h
        (λ here q. subst (λ x. NewArguments N f i k (t ∷ ts) (x ∷ es) vs) (sym q.0) (part_more N f i k t ts es vs here (new_arguments N f (i + 1) k ts es vs q.1)))
        (λ b here apart q.
        let (v, ys, vs_is, one, rest) = q in
        argument_more N f i k t ts es b v e vs ys here apart vs_is one (new_arguments N f (i + 1) (k + 1) ts es ys rest))
