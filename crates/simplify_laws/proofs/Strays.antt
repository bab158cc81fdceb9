-- The `zoom` nodes of a term that are no input, and what a term with few of these may be the value of.
use Rattle.std.proofs.Common.{◌≡◌, ◌∙◌, ◌≤◌, ℕ, ◌+◌, List, [], ◌∷◌, ◌++◌, length, Bool, true, false, Some, None, refl, ap, sym, subst, arith}
use Rattle.std.proofs.lemmas.Bool.{eq-eqb, ne_eqb}
use Rattle.std.specs.Prelude.{not, if◌then◌else◌}
use Rattle.decimal_json.specs.declared.paths.PathPart.{PathPart}
use Rattle.expr_syntax.specs.Mentioned.{count, of_operator}
use Rattle.expr_syntax.specs.Rows.{is_last}
use Rattle.expr_syntax.specs.Term.{Term, literal, node, Terms, no_terms, term, terms_of}
use Rattle.expr_syntax.specs.declared.expression.Operator.{Operator}
use Rattle.expr_syntax.specs.declared.expression.Operator.TheVariants as operators
use Rattle.expr_syntax.specs.declared.parts.FormatPiece.{FormatPiece}
use Rattle.expr_syntax.specs.declared.parts.Labelled.{Labelled}
use Rattle.expr_syntax.specs.declared.world_parts.Mentions.{Mentions}
use Rattle.expr_types.specs.Allowed.{Allowed, first_stray_zoom, first_unread, first_zoom_after, is_input}
use Rattle.expr_types.specs.ArgumentPaths.{argument_path}
use Rattle.expr_types.specs.Visits.{Visit, all_visits, standing_of, visits, visitings}
use Rattle.expr_types.specs.declared.standing.Standing.{Standing}
use Rattle.expr_types.specs.declared.standing.Standing.TheVariants.{Reached, Input, Elsewhere}
use Rattle.simplify_laws.proofs.Measures.{LosesArguments, Weights, loses_in_silence, measure, measures, one_if}

-- ---- what is counted of mentions

-- how many nodes read what is looked for; no operator that loses arguments reads anything
module _ (sought : Mentions → Bool) where
  abbrev pub sought_weights : Weights
  sought_weights = record {
    bare = 0;
    weight = λ op m. one_if (sought (of_operator op m));
    least = λ op m. omega arith;
    steady = λ op loses m n. ap (λ r. one_if (sought r)) (loses_in_silence op loses m ∙ sym (loses_in_silence op loses n));
    lets = λ bs cs m n. refl;
  }

  abbrev pub tally : List Visit → ℕ
  tally [] = 0
  tally (v ∷ vs) = one_if (sought v.reads) + tally vs

  tally_both : (vs ws : List Visit) → tally (vs ++ ws) ≡ tally vs + tally ws
  tally_both [] ws = omega arith
  tally_both (v ∷ vs) ws = let h = tally_both vs ws in omega (arith, h)

  mutual
    pub tallied : (t : Term) (s : Standing) (path : List PathPart) → tally (visits t s path) ≡ measure sought_weights t
    tallied (literal d) s path = refl
    tallied (node op ts) s path = ap (λ n. one_if (sought (of_operator op (count ts))) + n) (all_tallied op (count ts) 0 ts s path)

    all_tallied : (op : Operator) (m k : ℕ) (ts : Terms) (s : Standing) (path : List PathPart) → tally (all_visits op m k (visitings ts) s path) ≡ measures sought_weights ts
    all_tallied op m k no_terms s path = refl
    all_tallied op m k (term t ts) s path =
        tally_both (visits t (standing_of s op m k) (argument_path op m k path)) (all_visits op m (k + 1) (visitings ts) s path)
        ∙ (λ i. tallied t (standing_of s op m k) (argument_path op m k path) i + all_tallied op m (k + 1) ts s path i)

-- ---- what may not be read

abbrev pub is_unread : Allowed → Mentions → Bool
is_unread allows m = not (allows m)

pub unread_none : (allows : Allowed) (vs : List Visit) → tally (is_unread allows) vs ≡ 0 → first_unread allows vs ≡ None
unread_none allows [] h = refl
unread_none allows (v ∷ vs) h = by (allows v.reads) h (λ q. unread_none allows vs q)
  where
    by : (b : Bool) → one_if (not b) + tally (is_unread allows) vs ≡ 0 → (tally (is_unread allows) vs ≡ 0 → first_unread allows vs ≡ None) → (if b then first_unread allows vs else Some v.path) ≡ None
    by true h rest = rest (omega (arith, h))
    by false h rest = absurd (omega (arith, h))

pub none_unread : (allows : Allowed) (vs : List Visit) → first_unread allows vs ≡ None → tally (is_unread allows) vs ≡ 0
none_unread allows [] h = refl
none_unread allows (v ∷ vs) h = by (allows v.reads) h (λ q. none_unread allows vs q)
  where
    by : (b : Bool) → (if b then first_unread allows vs else Some v.path) ≡ None → (first_unread allows vs ≡ None → tally (is_unread allows) vs ≡ 0) → one_if (not b) + tally (is_unread allows) vs ≡ 0
    by true h rest = let later = rest h in omega (arith, later)
    by false h rest = absurd (cc)

-- ---- `zoom` nodes that are no input

abbrev pub reads_zoom : Mentions → Bool
reads_zoom m = m.zoom

abbrev pub zooms : Weights
zooms = sought_weights reads_zoom

abbrev pub stray_here : Bool → Standing → ℕ
stray_here zoom s = if is_input s then 0 else one_if zoom

abbrev mutual
  pub strays : Term → Standing → ℕ
  strays (literal d) = λ s. 0
  strays (node op ts) = λ s. stray_here (of_operator op (count ts)).zoom s + all_strays ts op (count ts) 0 s

  -- of arguments from place k on, of m arguments
  pub all_strays : Terms → Operator → ℕ → ℕ → Standing → ℕ
  all_strays no_terms = λ op m k s. 0
  all_strays (term t ts) = λ op m k s. strays t (standing_of s op m k) + all_strays ts op m (k + 1) s

abbrev stray_tally : List Visit → ℕ
stray_tally [] = 0
stray_tally (v ∷ vs) = stray_here v.reads.zoom v.standing + stray_tally vs

stray_both : (vs ws : List Visit) → stray_tally (vs ++ ws) ≡ stray_tally vs + stray_tally ws
stray_both [] ws = omega arith
stray_both (v ∷ vs) ws = let h = stray_both vs ws in omega (arith, h)

mutual
  pub strays_counted : (t : Term) (s : Standing) (path : List PathPart) → stray_tally (visits t s path) ≡ strays t s
  strays_counted (literal d) s path = refl
  strays_counted (node op ts) s path = ap (λ n. stray_here (of_operator op (count ts)).zoom s + n) (all_counted op (count ts) 0 ts s path)

  all_counted : (op : Operator) (m k : ℕ) (ts : Terms) (s : Standing) (path : List PathPart) → stray_tally (all_visits op m k (visitings ts) s path) ≡ all_strays ts op m k s
  all_counted op m k no_terms s path = refl
  all_counted op m k (term t ts) s path =
      stray_both (visits t (standing_of s op m k) (argument_path op m k path)) (all_visits op m (k + 1) (visitings ts) s path)
      ∙ (λ i. strays_counted t (standing_of s op m k) (argument_path op m k path) i + all_counted op m (k + 1) ts s path i)

none_after : (vs : List Visit) → tally reads_zoom vs ≡ 0 → first_zoom_after vs ≡ None
none_after [] h = refl
none_after (v ∷ vs) h = by v.reads.zoom h (λ q. none_after vs q)
  where
    by : (b : Bool) → one_if b + tally reads_zoom vs ≡ 0 → (tally reads_zoom vs ≡ 0 → first_zoom_after vs ≡ None) → (if b then Some v.path else first_zoom_after vs) ≡ None
    by true h rest = absurd (omega (arith, h))
    by false h rest = rest (omega (arith, h))

after_none : (vs : List Visit) → first_zoom_after vs ≡ None → (tally reads_zoom vs ≡ 0) × (stray_tally vs ≡ 0)
after_none [] h = (refl, refl)
after_none (v ∷ vs) h = by v.reads.zoom (is_input v.standing) h (λ q. after_none vs q)
  where
    by : (b c : Bool) → (if b then Some v.path else first_zoom_after vs) ≡ None → (first_zoom_after vs ≡ None → (tally reads_zoom vs ≡ 0) × (stray_tally vs ≡ 0)) →
        (one_if b + tally reads_zoom vs ≡ 0) × ((if c then 0 else one_if b) + stray_tally vs ≡ 0)
    by true c h rest = absurd (cc)
    by false true h rest = let later = rest h in (omega (arith, later.0), omega (arith, later.1))
    by false false h rest = let later = rest h in (omega (arith, later.0), omega (arith, later.1))

-- at most one `zoom`, and it is an input
placed_none : (vs : List Visit) → stray_tally vs ≡ 0 → tally reads_zoom vs ≤ 1 → first_stray_zoom vs ≡ None
placed_none [] h less = refl
placed_none (v ∷ vs) h less = by v.reads.zoom (is_input v.standing) h less (λ q l. placed_none vs q l)
  where
    by : (b c : Bool) → (if c then 0 else one_if b) + stray_tally vs ≡ 0 → one_if b + tally reads_zoom vs ≤ 1 → (stray_tally vs ≡ 0 → tally reads_zoom vs ≤ 1 → first_stray_zoom vs ≡ None) →
        (if b then (if c then first_zoom_after vs else Some v.path) else first_stray_zoom vs) ≡ None
    by true true h less rest = none_after vs (omega (arith, less))
    by true false h less rest = absurd (omega (arith, h))
    by false true h less rest = rest (omega (arith, h)) (omega (arith, less))
    by false false h less rest = rest (omega (arith, h)) (omega (arith, less))

none_placed : (vs : List Visit) → first_stray_zoom vs ≡ None → (stray_tally vs ≡ 0) × (tally reads_zoom vs ≤ 1)
none_placed [] h = (refl, omega arith)
none_placed (v ∷ vs) h = by v.reads.zoom (is_input v.standing) h (λ q. none_placed vs q)
  where
    by : (b c : Bool) → (if b then (if c then first_zoom_after vs else Some v.path) else first_stray_zoom vs) ≡ None → (first_stray_zoom vs ≡ None → (stray_tally vs ≡ 0) × (tally reads_zoom vs ≤ 1)) →
        ((if c then 0 else one_if b) + stray_tally vs ≡ 0) × (one_if b + tally reads_zoom vs ≤ 1)
    by true true h rest = let after = after_none vs h in (omega (arith, after.1), omega (arith, after.0))
    by true false h rest = absurd (cc)
    by false true h rest = let later = rest h in (omega (arith, later.0), omega (arith, later.1))
    by false false h rest = let later = rest h in (omega (arith, later.0), omega (arith, later.1))

pub zoom_placed : (t : Term) → strays t Reached ≡ 0 → measure zooms t ≤ 1 → first_stray_zoom (visits t Reached []) ≡ None
zoom_placed t none few =
    let counted = strays_counted t Reached [] in
    let all = tallied reads_zoom t Reached [] in
    placed_none (visits t Reached []) (counted ∙ none) (omega (arith, all, few))

pub placed_zoom : (t : Term) → first_stray_zoom (visits t Reached []) ≡ None → (strays t Reached ≡ 0) × (measure zooms t ≤ 1)
placed_zoom t h =
    let counted = strays_counted t Reached [] in
    let all = tallied reads_zoom t Reached [] in
    let both = none_placed (visits t Reached []) h in
    (sym counted ∙ both.0, omega (arith, all, both.1))

-- ---- elsewhere each `zoom` counts

mutual
  pub elsewhere_all : (t : Term) → strays t Elsewhere ≡ measure zooms t
  elsewhere_all (literal d) = refl
  elsewhere_all (node op ts) = ap (λ n. one_if (of_operator op (count ts)).zoom + n) (all_elsewhere ts op (count ts) 0)

  all_elsewhere : (ts : Terms) (op : Operator) (m k : ℕ) → all_strays ts op m k Elsewhere ≡ measures zooms ts
  all_elsewhere no_terms op m k = refl
  all_elsewhere (term t ts) op m k = λ i. elsewhere_all t i + all_elsewhere ts op m (k + 1) i

mutual
  pub no_more_strays : (t : Term) (s : Standing) → strays t s ≤ measure zooms t
  no_more_strays (literal d) s = omega arith
  no_more_strays (node op ts) s =
      let rest = all_no_more ts op (count ts) 0 s in
      let own = here (is_input s) (of_operator op (count ts)).zoom in
      omega (arith, rest, own)
    where
      here : (b c : Bool) → (if b then 0 else one_if c) ≤ one_if c
      here true c = omega arith
      here false c = omega arith

  all_no_more : (ts : Terms) (op : Operator) (m k : ℕ) (s : Standing) → all_strays ts op m k s ≤ measures zooms ts
  all_no_more no_terms op m k s = omega arith
  all_no_more (term t ts) op m k s =
      let one = no_more_strays t (standing_of s op m k) in
      let rest = all_no_more ts op m (k + 1) s in
      omega (arith, one, rest)

-- a node under which everything is elsewhere
abbrev pub HidesAll : Operator → Type 0
HidesAll op = (m k : ℕ) (s : Standing) → standing_of s op m k ≡ Elsewhere

all_hidden : (ts : Terms) (op : Operator) (m k : ℕ) (s : Standing) → HidesAll op → all_strays ts op m k s ≡ measures zooms ts
all_hidden no_terms op m k s hides = refl
all_hidden (term t ts) op m k s hides =
    (λ i. strays t (hides m k s i) + all_strays ts op m (k + 1) s) ∙ (λ i. elsewhere_all t i + all_hidden ts op m (k + 1) s hides i)

-- what has no more `zoom` than a node that hides all has no more that are no input
pub hidden_calmer : (op : Operator) (ts : Terms) (u : Term) → HidesAll op → (of_operator op (count ts)).zoom ≡ false → measure zooms u ≤ measure zooms (node op ts) → (s : Standing) → strays u s ≤ strays (node op ts) s
hidden_calmer op ts u hides silent less s =
    let most = no_more_strays u s in
    let below = all_hidden ts op (count ts) 0 s hides in
    let none : one_if (of_operator op (count ts)).zoom ≡ 0 = ap one_if silent in
    omega (arith, most, below, none, less)

-- where it counts most
pub elsewhere_most : (t : Term) (s : Standing) → strays t s ≤ strays t Elsewhere
elsewhere_most t s = let less = no_more_strays t s in let all = elsewhere_all t in omega (arith, less, all)

-- ---- nodes of as many arguments, and of fewer

pub count_terms : (ts : List Term) → count (terms_of ts) ≡ length ts
count_terms [] = refl
count_terms (t ∷ ts) = let h = count_terms ts in omega (arith, h)

pub node_calmer : (op : Operator) (us vs : List Term) → length us ≡ length vs → ((s : Standing) → all_strays (terms_of us) op (length vs) 0 s ≤ all_strays (terms_of vs) op (length vs) 0 s) →
    (s : Standing) → strays (node op (terms_of us)) s ≤ strays (node op (terms_of vs)) s
node_calmer op us vs same h s =
    let less = h s in
    subst (λ n. of_count n us ≤ of_count (count (terms_of vs)) vs) (sym (count_terms us ∙ same)) (subst (λ n. of_count (length vs) us ≤ of_count n vs) (sym (count_terms vs)) (omega (arith, less)))
  where
    of_count : ℕ → List Term → ℕ
    of_count n ts = stray_here (of_operator op n).zoom s + all_strays (terms_of ts) op n 0 s

-- each at the same place
abbrev pub spread_strays : List Term → Standing → ℕ
spread_strays [] s = 0
spread_strays (t ∷ ts) s = strays t s + spread_strays ts s

-- what loses arguments has all of them at one place
one_place : (op : Operator) → LosesArguments op → (m k : ℕ) (s : Standing) → standing_of s op m k ≡ standing_of s op 0 0
one_place operators.All loses m k Reached = refl
one_place operators.All loses m k Input = refl
one_place operators.All loses m k Elsewhere = refl
one_place operators.Any loses m k Reached = refl
one_place operators.Any loses m k Input = refl
one_place operators.Any loses m k Elsewhere = refl
one_place operators.Case loses m k Reached = refl
one_place operators.Case loses m k Input = refl
one_place operators.Case loses m k Elsewhere = refl
one_place operators.Coalesce loses m k Reached = refl
one_place operators.Coalesce loses m k Input = refl
one_place operators.Coalesce loses m k Elsewhere = refl
one_place op loses m k s = absurd loses

all_spread : (op : Operator) → LosesArguments op → (m k : ℕ) (ts : List Term) (s : Standing) → all_strays (terms_of ts) op m k s ≡ spread_strays ts (standing_of s op 0 0)
all_spread op loses m k [] s = refl
all_spread op loses m k (t ∷ ts) s = λ i. strays t (one_place op loses m k s i) + all_spread op loses m (k + 1) ts s i

pub loses_calmer : (op : Operator) → LosesArguments op → (us vs : List Term) → ((s : Standing) → spread_strays us s ≤ spread_strays vs s) → (s : Standing) → strays (node op (terms_of us)) s ≤ strays (node op (terms_of vs)) s
loses_calmer op loses us vs h s =
    let less = h (standing_of s op 0 0) in
    let one = all_spread op loses (count (terms_of us)) 0 us s in
    let two = all_spread op loses (count (terms_of vs)) 0 vs s in
    let own : stray_here (of_operator op (count (terms_of us))).zoom s ≡ stray_here (of_operator op (count (terms_of vs))).zoom s =
    ap (λ (r : Mentions). stray_here r.zoom s) (loses_in_silence op loses (count (terms_of us)) ∙ sym (loses_in_silence op loses (count (terms_of vs)))) in
    omega (arith, less, one, two, own)

pub case_hides : HidesAll operators.Case
case_hides m k Reached = refl
case_hides m k Input = refl
case_hides m k Elsewhere = refl

pub match_hides : (ls : List Labelled) → HidesAll (operators.Match ls)
match_hides ls m k Reached = refl
match_hides ls m k Input = refl
match_hides ls m k Elsewhere = refl

pub format_hides : (ps : List FormatPiece) → HidesAll (operators.Format ps)
format_hides ps m k Reached = refl
format_hides ps m k Input = refl
format_hides ps m k Elsewhere = refl

-- ---- a `let`: its bindings are elsewhere, and its body is where it is

-- where the body of a `let` is
abbrev pub body_standing : Standing → Standing
body_standing Reached = Reached
body_standing _ = Elsewhere

abbrev pub binding_zooms : List Term → ℕ
binding_zooms ts = measures zooms (terms_of ts)

body_is : (bs : List (List ℕ)) (m k : ℕ) (s : Standing) → is_last m k ≡ true → standing_of s (operators.Let bs) m k ≡ body_standing s
body_is bs m k Reached last = ap (λ b. if b then Reached else Elsewhere) last
body_is bs m k Input last = refl
body_is bs m k Elsewhere last = refl

binding_is : (bs : List (List ℕ)) (m k : ℕ) (s : Standing) → is_last m k ≡ false → standing_of s (operators.Let bs) m k ≡ Elsewhere
binding_is bs m k Reached more = ap (λ b. if b then Reached else Elsewhere) more
binding_is bs m k Input more = refl
binding_is bs m k Elsewhere more = refl

all_let : (bs : List (List ℕ)) (m k : ℕ) (us : List Term) (b : Term) (s : Standing) → k + length us + 1 ≡ m → all_strays (terms_of (us ++ b ∷ [])) (operators.Let bs) m k s ≡ binding_zooms us + strays b (body_standing s)
all_let bs m k [] b s all =
    let here : standing_of s (operators.Let bs) m k ≡ body_standing s = body_is bs m k s (eq-eqb (k + 1) m (omega (arith, all))) in
    let same : strays b (standing_of s (operators.Let bs) m k) ≡ strays b (body_standing s) = ap (strays b) here in
    omega (arith, same)
all_let bs m k (u ∷ us) b s all =
    let here : standing_of s (operators.Let bs) m k ≡ Elsewhere = binding_is bs m k s (ne_eqb (k + 1) m (λ e. omega (arith, all, e))) in
    let same : strays u (standing_of s (operators.Let bs) m k) ≡ measure zooms u = ap (strays u) here ∙ elsewhere_all u in
    let rest = all_let bs m (k + 1) us b s (omega (arith, all)) in
    omega (arith, same, rest)

pub length_ends : (us : List Term) (b : Term) → length (us ++ b ∷ []) ≡ length us + 1
length_ends [] b = omega arith
length_ends (u ∷ us) b = let h = length_ends us b in omega (arith, h)

pub let_strays : (bs : List (List ℕ)) (us : List Term) (b : Term) (s : Standing) → strays (node (operators.Let bs) (terms_of (us ++ b ∷ []))) s ≡ binding_zooms us + strays b (body_standing s)
let_strays bs us b s =
    let counted = count_terms (us ++ b ∷ []) in
    let long = length_ends us b in
    let rest = all_let bs (count (terms_of (us ++ b ∷ []))) 0 us b s (omega (arith, counted, long)) in
    let own : stray_here false s ≡ 0 = none (is_input s) in
    omega (arith, rest, own)
  where
    none : (c : Bool) → (if c then 0 else one_if false) ≡ 0
    none true = refl
    none false = refl

pub body_calmer : (t : Term) (s : Standing) → strays t s ≤ strays t (body_standing s)
body_calmer t Reached = omega arith
body_calmer t Input = elsewhere_most t Input
body_calmer t Elsewhere = omega arith
