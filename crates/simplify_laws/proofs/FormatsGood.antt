-- A `format` whose contents and options are simplified means what it meant.
use Rattle.std.proofs.Common.{◌≡◌, ◌≢◌, ◌∙◌, ◌≤◌, ◌<◌, ℕ, ◌+◌, ◌-◌, zero, suc, List, [], ◌∷◌, ◌++◌, length, Bool, true, false, Option, Some, None, refl, ap, sym, subst, append_assoc, arith, slice_get, slice_set, slice_index_or}
use Rattle.std.proofs.lemmas.Bool.{lt-ltb, or_parts, or_left, or_right}
use Rattle.std.specs.Prelude.{codes, nat_lt, if◌then◌else◌}
use Rattle.std.specs.Str.{bytes_eq}
use Rattle.decimal_json.specs.Editing.{replaced_members}
use Rattle.decimal_json.specs.Sound.{LacksKey, HasDistinctKeys}
use Rattle.decimal_json.specs.Tree.{Tree, null, boolean, number, text, list, object, Trees, no_trees, tree, trees_of, Fields, no_fields, field, fields_of, field_at, members_of}
use Rattle.prop_values.proofs.KeyLaws.{texts_same, same_texts, texts_differ}
use Rattle.prop_values.specs.declared.kinds.Kind.{Kind}
use Rattle.prop_values.specs.declared.kinds.Want.{Want}
use Rattle.prop_values.specs.declared.kinds.Want.TheVariants as wants
use Rattle.expr_syntax.specs.Elements.{head_name, option_named}
use Rattle.expr_syntax.specs.Names.{row}
use Rattle.expr_syntax.specs.Operators.{piece_wanted, role_want, want_of}
use Rattle.expr_syntax.specs.Rows.{allows}
use Rattle.expr_syntax.specs.Term.{Term, node, terms_of}
use Rattle.expr_syntax.specs.declared.expression.Operator.{Operator}
use Rattle.expr_syntax.specs.declared.expression.Operator.TheVariants as operators
use Rattle.expr_syntax.specs.declared.names.Name.TheVariants as named
use Rattle.expr_syntax.specs.declared.parts.FormatPiece.{FormatPiece}
use Rattle.expr_syntax.specs.declared.parts.Role.{Role}
use Rattle.expr_syntax.specs.declared.parts.Role.TheVariants.{Content, Scale, Font, Color}
use Rattle.expr_syntax.proofs.CountLaws.{count_trees}
use Rattle.expr_types.specs.ArgumentPaths.{role_key}
use Rattle.expr_types.specs.Typing.{KindScope}
use Rattle.eval_face.specs.Meaning.{mean, means}
use Rattle.eval_face.specs.Names.{BoundOutcomes}
use Rattle.eval_face.specs.World.{World}
use Rattle.style_simplify.proofs.PieceLaws.{members_again}
use Rattle.style_simplify.specs.Choices.{is_image}
use Rattle.style_simplify.specs.Simple.{choices, format_of, is_content, listed, piece_at, piece_element, piece_elements, piece_tree, put_in, put_piece, put_pieces, simple_element, simples, tree_of_option}
use Rattle.style_simplify.specs.SimpleElements.{SimpleElement, all_asks, and_kind, argument_kinds, is_reading, kind_by, some_reads}
use Rattle.simplify_laws.proofs.ParsedTrees.{Joined, MorePieces, MoreTerms, Names, Values, Parsed, ParsedOptions, ParsedSections, is_image_tree}
use Rattle.simplify_laws.proofs.TermKinds.{AllHave, AreTyped, HasKind, IsTyped, node_from, node_has}
use Rattle.simplify_laws.proofs.Measures.{Weights, measure, measures, same_weight}
use Rattle.simplify_laws.proofs.Strays.{format_hides, hidden_calmer, zooms}
use Rattle.simplify_laws.proofs.Alike.{AreAlike, node_alike}
use Rattle.simplify_laws.proofs.GoodElements.{AreAmong, Good, GoodFields, GoodTree, GoodTrees, Kept, Known, SameAt, SameKinds, among_both, among_parts, both_kinds, chosen_good, chosen_kept, chosen_no_image, kinds_apart, kinds_whole, same_parts}
use Rattle.simplify_laws.proofs.NodeGood.{listed_count}

abbrev Members : Type 0
Members = List (List ℕ × Tree)

-- ---- elements in their places

pub get_at : (before : List Tree) (i : ℕ) (t : Tree) (ts : List Tree) → length before ≡ i → slice_get (before ++ t ∷ ts) i ≡ Some t
get_at [] zero t ts h = refl
get_at [] (suc i) t ts h = absurd (omega (arith, h))
get_at (x ∷ before) zero t ts h = absurd (omega (arith, h))
get_at (x ∷ before) (suc i) t ts h = get_at before i t ts (omega (arith, h))

index_at : (before : List Tree) (i : ℕ) (t d : Tree) (ts : List Tree) → length before ≡ i → slice_index_or (before ++ t ∷ ts) i d ≡ t
index_at [] zero t d ts h = refl
index_at [] (suc i) t d ts h = absurd (omega (arith, h))
index_at (x ∷ before) zero t d ts h = absurd (omega (arith, h))
index_at (x ∷ before) (suc i) t d ts h = index_at before i t d ts (omega (arith, h))

set_at : (before : List Tree) (i : ℕ) (t u : Tree) (ts : List Tree) → length before ≡ i → slice_set (before ++ t ∷ ts) i u ≡ before ++ u ∷ ts
set_at [] zero t u ts h = refl
set_at [] (suc i) t u ts h = absurd (omega (arith, h))
set_at (x ∷ before) zero t u ts h = absurd (omega (arith, h))
set_at (x ∷ before) (suc i) t u ts h = ap (λ zs. x ∷ zs) (set_at before i t u ts (omega (arith, h)))

below_all : (before : List Tree) (t : Tree) (ts : List Tree) → length before < length (before ++ t ∷ ts)
below_all [] t ts = omega arith
below_all (x ∷ before) t ts = let h = below_all before t ts in omega (arith, h)

pub length_end : {A : Type 0} (xs : List A) (y : A) → length (xs ++ y ∷ []) ≡ length xs + 1
length_end [] y = omega arith
length_end (x ∷ xs) y = let h = length_end xs y in omega (arith, h)

put_there : (p : FormatPiece) (u t : Tree) (before ts : List Tree) → length before ≡ p.at → put_piece (Some p) u (before ++ t ∷ ts) ≡ before ++ put_in (role_key p.role) u t ∷ ts
put_there p u t before ts h =
    let less = below_all before t ts in
    let within : nat_lt p.at (length (before ++ t ∷ ts)) ≡ true = lt-ltb p.at (length (before ++ t ∷ ts)) (omega (arith, h, less)) in
    ap (λ b. if b then slice_set (before ++ t ∷ ts) p.at (put_in (role_key p.role) u (slice_index_or (before ++ t ∷ ts) p.at null)) else before ++ t ∷ ts) within
    ∙ (ap (λ x. slice_set (before ++ t ∷ ts) p.at (put_in (role_key p.role) u x)) (index_at before p.at t null ts h)
    ∙ set_at before p.at t (put_in (role_key p.role) u t) ts h)

-- ---- members in their places

pub fields_again : (fs : Fields) → fields_of (members_of fs) ≡ fs
fields_again no_fields = refl
fields_again (field k t fs) = ap (λ gs. field k t gs) (fields_again fs)

replaced_at : (key : List ℕ) (u t : Tree) (before ms : Members) → LacksKey key before → replaced_members key u (before ++ (key, t) ∷ ms) ≡ before ++ (key, u) ∷ ms
replaced_at key u t [] ms h = ap (λ b. if b then (key, u) ∷ ms else (key, t) ∷ replaced_members key u ms) (texts_same key key refl)
replaced_at key u t (m ∷ before) ms h =
    ap (λ b. if b then (m.0, u) ∷ (before ++ (key, t) ∷ ms) else m ∷ replaced_members key u (before ++ (key, t) ∷ ms)) (texts_differ m.0 key h.0)
    ∙ ap (λ ns. m ∷ ns) (replaced_at key u t before ms h.1)

member_at : (key : List ℕ) (t : Tree) (before ms : Members) → LacksKey key before → field_at key (fields_of (before ++ (key, t) ∷ ms)) ≡ Some t
member_at key t [] ms h = ap (λ b. if b then Some t else field_at key (fields_of ms)) (texts_same key key refl)
member_at key t (m ∷ before) ms h =
    ap (λ b. if b then Some m.1 else field_at key (fields_of (before ++ (key, t) ∷ ms))) (texts_differ m.0 key h.0) ∙ member_at key t before ms h.1

-- members before lack the key of each that follows
abbrev AreApart : Members → Members → Type 0
AreApart before [] = Unit {0}
AreApart before (m ∷ ms) = LacksKey m.0 before × AreApart before ms

lacks_push : (key : List ℕ) (before : Members) (m : List ℕ × Tree) → LacksKey key before → m.0 ≢ key → LacksKey key (before ++ m ∷ [])
lacks_push key [] m h k = (k, tt)
lacks_push key (x ∷ before) m h k = (h.0, lacks_push key before m h.1 k)

apart_push : (before : Members) (m : List ℕ × Tree) (ms : Members) → AreApart before ms → LacksKey m.0 ms → AreApart (before ++ m ∷ []) ms
apart_push before m [] h k = tt
apart_push before m (n ∷ ms) h k = (lacks_push n.0 before m h.0 (λ e. k.0 (sym e)), apart_push before m ms h.1 k.1)

apart_none : (ms : Members) → AreApart [] ms
apart_none [] = tt
apart_none (m ∷ ms) = (tt, apart_none ms)

-- ---- roles

role_of_key : (key : List ℕ) (role : Role) → option_named key ≡ Some role → role_key role ≡ Some key
role_of_key key role h = by (bytes_eq key (codes "font-scale")) (bytes_eq key (codes "text-font")) (bytes_eq key (codes "text-color")) refl refl refl h
  where
    is : (name : List ℕ) → bytes_eq key name ≡ true → Some name ≡ Some key
    is name e = ap Some (sym (same_texts key name e))

    by : (a b c : Bool) → bytes_eq key (codes "font-scale") ≡ a → bytes_eq key (codes "text-font") ≡ b → bytes_eq key (codes "text-color") ≡ c →
        (if a then Some Scale else if b then Some Font else if c then Some Color else None) ≡ Some role → role_key role ≡ Some key
    by true b c p q r h = let same : Scale ≡ role = cc in subst (λ x. role_key x ≡ Some key) same (is (codes "font-scale") p)
    by false true c p q r h = let same : Font ≡ role = cc in subst (λ x. role_key x ≡ Some key) same (is (codes "text-font") q)
    by false false true p q r h = let same : Color ≡ role = cc in subst (λ x. role_key x ≡ Some key) same (is (codes "text-color") r)
    by false false false p q r h = absurd (cc)

pub image_tests : (t : Tree) → is_image t ≡ is_image_tree t
image_tests null = refl
image_tests (boolean b) = refl
image_tests (number n) = refl
image_tests (text s) = refl
image_tests (object fs) = refl
image_tests (list no_trees) = refl
image_tests (list (tree null ts)) = refl
image_tests (list (tree (boolean b) ts)) = refl
image_tests (list (tree (number n) ts)) = refl
image_tests (list (tree (text s) ts)) = refl
image_tests (list (tree (list us) ts)) = refl
image_tests (list (tree (object fs) ts)) = refl

-- ---- pieces from number k on are these

abbrev AreFrom : List FormatPiece → ℕ → List FormatPiece → Type 0
AreFrom pieces k ps = (j : ℕ) → slice_get pieces (k + j) ≡ slice_get ps j

from_first : (pieces : List FormatPiece) → AreFrom pieces 0 pieces
from_first pieces j = let same : 0 + j ≡ j = omega arith in ap (slice_get pieces) same

from_next : (pieces : List FormatPiece) (k : ℕ) (p : FormatPiece) (ps : List FormatPiece) → AreFrom pieces k (p ∷ ps) → AreFrom pieces (k + 1) ps
from_next pieces k p ps h j = let same : k + 1 + j ≡ k + suc j = omega arith in ap (slice_get pieces) same ∙ h (suc j)

from_here : (pieces : List FormatPiece) (k : ℕ) (p : FormatPiece) (ps : List FormatPiece) → AreFrom pieces k (p ∷ ps) → slice_get pieces k ≡ Some p
from_here pieces k p ps h = let same : k ≡ k + 0 = omega arith in ap (slice_get pieces) same ∙ h 0

count_of : (ts : List Tree) → count_trees (trees_of ts) ≡ length ts
count_of [] = refl
count_of (t ∷ ts) = ap suc (count_of ts)

module _ (g : Values) where
  content_section : (u : Tree) (i : ℕ) (follows : Bool) (M : Names) (x y : Term) (ts : Trees) (qs : List FormatPiece) (xs ys : List Term) → is_image_tree u ≡ false → Parsed g u M false x y → ParsedSections g false (i + 1) true ts M qs xs ys →
      ParsedSections g false i follows (tree u ts) M (record { at = i; role = Content } ∷ qs) (x ∷ xs) (y ∷ ys)
  content_section null i follows M x y ts qs xs ys apart p rest = (apart, (qs, refl, (x, y, xs, ys, refl, refl, (p, rest))))
  content_section (boolean b) i follows M x y ts qs xs ys apart p rest = (apart, (qs, refl, (x, y, xs, ys, refl, refl, (p, rest))))
  content_section (number n) i follows M x y ts qs xs ys apart p rest = (apart, (qs, refl, (x, y, xs, ys, refl, refl, (p, rest))))
  content_section (text s) i follows M x y ts qs xs ys apart p rest = (apart, (qs, refl, (x, y, xs, ys, refl, refl, (p, rest))))
  content_section (list us) i follows M x y ts qs xs ys apart p rest = (apart, (qs, refl, (x, y, xs, ys, refl, refl, (p, rest))))
  content_section (object fs) i follows M x y ts qs xs ys apart p rest = absurd p

  module _ (pieces : List FormatPiece) (whole : List Tree) (want : Want) (N : Names) (ks : KindScope) where
    abbrev op : Operator
    op = operators.Format pieces

    abbrev made : ℕ → List Term → List SimpleElement
    made k us = piece_elements pieces k (simples (terms_of us)) whole ks

    -- what is read of them, in the names around them
    abbrev IsParsed : Type 1
    IsParsed = Names → List Term → List Term → Type 0

    record KnownPieces (k : ℕ) (es : List SimpleElement) (P : IsParsed) (firsts seconds : List Term) : Type 0 where
      pub names : (M : Names) → AreAmong M (all_asks es) → P M firsts seconds
      pub depends : (names names' : BoundOutcomes) (v w : World) → SameAt (all_asks es) names names' → (some_reads es ≡ true → v ≡ w) → (m : ℕ) → AreAlike want names names' v w op m k (means (terms_of seconds)) (means (terms_of seconds))
      pub steady : some_reads es ≡ false → firsts ≡ seconds
      pub typed : (scope : KindScope) → SameKinds (all_asks es) ks scope → (js : List Kind) → argument_kinds es ≡ Some js → (m : ℕ) → AllHave op m k want scope seconds js

    record PiecesGood (k : ℕ) (us vs : List Term) (P : IsParsed) : Type 0 where
      pub firsts : List Term
      pub seconds : List Term
      pub parsed : P N firsts seconds
      pub alike : (names : BoundOutcomes) (world : World) (m : ℕ) → AreAlike want names names world world op m k (means (terms_of seconds)) (means (terms_of vs))
      pub lighter : (w : Weights) → measures w (terms_of seconds) ≤ measures w (terms_of vs)
      pub as_many : length seconds ≡ length vs
      pub known : (js : List Kind) → argument_kinds (made k us) ≡ Some js → KnownPieces k (made k us) P firsts seconds
      pub asked : (js : List Kind) → argument_kinds (made k us) ≡ Some js → AreAmong N (all_asks (made k us))
      pub kept : (m : ℕ) (js : List Kind) → AreTyped op m k want ks vs js → argument_kinds (made k us) ≡ Some js

    pieces_as : (k : ℕ) (us vs : List Term) (P Q : IsParsed) → ((M : Names) (xs ys : List Term) → P M xs ys → Q M xs ys) → PiecesGood k us vs P → PiecesGood k us vs Q
    pieces_as k us vs P Q go r = record {
      firsts = r.firsts;
      seconds = r.seconds;
      parsed = go N r.firsts r.seconds r.parsed;
      alike = r.alike;
      lighter = r.lighter;
      as_many = r.as_many;
      known = λ js q. let s = r.known js q in record { names = λ M a. go M r.firsts r.seconds (s.names M a); depends = s.depends; steady = s.steady; typed = s.typed };
      asked = r.asked;
      kept = r.kept;
    }

    no_pieces : (k : ℕ) (P : IsParsed) → ((M : Names) → P M [] []) → PiecesGood k [] [] P
    no_pieces k P h = record {
      firsts = [];
      seconds = [];
      parsed = h N;
      alike = λ names world m. tt;
      lighter = λ w. omega arith;
      as_many = refl;
      known = λ js q. record {
        names = λ M a. h M;
        depends = λ names names' v w a reads m. tt;
        steady = λ z. refl;
        typed = λ scope a js kinds m. let none : [] ≡ js = cc in subst (AllHave op m k want scope []) none tt;
      };
      asked = λ js q. tt;
      kept = λ m js typed. no_kinds m js typed;
    }
      where
        no_kinds : (m : ℕ) (js : List Kind) → AreTyped op m k want ks [] js → Some [] ≡ Some js
        no_kinds m [] typed = refl
        no_kinds m (j ∷ js) typed = absurd typed

    -- a piece more
    piece_more : (k : ℕ) (p : FormatPiece) (u v : Term) (us vs : List Term) (P Q : IsParsed) → slice_get pieces k ≡ Some p →
        Good g ks (role_want p.role) N false v (piece_element (slice_get pieces k) (choices u) whole ks) → Kept g ks (role_want p.role) v (piece_element (slice_get pieces k) (choices u) whole ks) → PiecesGood (k + 1) us vs P →
        ((M : Names) (x y : Term) (xs ys : List Term) → Parsed g (piece_element (slice_get pieces k) (choices u) whole ks).tree M false x y → P M xs ys → Q M (x ∷ xs) (y ∷ ys)) →
        PiecesGood k (u ∷ us) (v ∷ vs) Q
    piece_more k p u v us vs P Q here one stays r put = record {
      firsts = one.first ∷ r.firsts;
      seconds = one.second ∷ r.seconds;
      parsed = put N one.first one.second r.firsts r.seconds one.parsed r.parsed;
      alike = λ names world m. (subst (λ z. mean one.second z names world ≡ mean v z names world) (sym want_here) (one.same names world), r.alike names world m);
      lighter = λ w. let x = one.lighter w in let y = r.lighter w in omega (arith, x, y);
      as_many = ap suc r.as_many;
      known = λ js q. known_more js (kinds_are js q);
      asked = λ js q.
          let (own, others, own_is, others_are) = both_kinds e.kind (argument_kinds es) js (kinds_are js q) in
          among_both N e.asks (all_asks es) (one.asked own own_is) (r.asked others others_are);
      kept = λ m js typed. kept_more m js typed;
    }
      where
        e : SimpleElement
        e = piece_element (slice_get pieces k) (choices u) whole ks

        es : List SimpleElement
        es = made (k + 1) us

        want_here : want_of (piece_wanted (slice_get pieces k)) want ≡ role_want p.role
        want_here = ap (λ o. want_of (piece_wanted o) want) here

        kinds_are : (js : List Kind) → argument_kinds (e ∷ es) ≡ Some js → and_kind e.kind (argument_kinds es) ≡ Some js
        kinds_are js q = sym (ap (λ b. if b then argument_kinds es else and_kind e.kind (argument_kinds es)) one.argument) ∙ q

        reading_is : is_reading e ≡ e.reads
        reading_is = ap (λ b. if b then false else e.reads) one.argument

        kept_more : (m : ℕ) (js : List Kind) → AreTyped op m k want ks (v ∷ vs) js → argument_kinds (e ∷ es) ≡ Some js
        kept_more m [] typed = absurd typed
        kept_more m (j ∷ js) typed =
            ap (λ b. if b then argument_kinds es else and_kind e.kind (argument_kinds es)) one.argument
            ∙ (λ i. and_kind (stays j (subst (λ w. IsTyped v w ks j) want_here typed.0) i) (r.kept m js typed.1 i))

        known_more : (js : List Kind) → and_kind e.kind (argument_kinds es) ≡ Some js → KnownPieces k (e ∷ es) Q (one.first ∷ r.firsts) (one.second ∷ r.seconds)
        known_more js q =
            let (own, others, own_is, others_are) = both_kinds e.kind (argument_kinds es) js q in
            let s = one.known own own_is in
            let z = r.known others others_are in
            record {
              names = λ M a. let (x, y) = among_parts M e.asks (all_asks es) a in put M one.first one.second r.firsts r.seconds (s.names M x) (z.names M y);
              depends = λ names names' v w a reads m.
                  let (x, y) = same_parts e.asks (all_asks es) names names' a in (
                    subst (λ c. mean one.second c names v ≡ mean one.second c names' w) (sym want_here) (s.depends names names' v w x (λ h. reads (or_left (is_reading e) (some_reads es) (reading_is ∙ h)))),
                    z.depends names names' v w y (λ h. reads (or_right (is_reading e) (some_reads es) h)) m,
                  );
              steady = λ h. let (x, y) = or_parts (is_reading e) (some_reads es) h in (λ i. s.steady (sym reading_is ∙ x) i ∷ z.steady y i);
              typed = λ scope a js kinds m.
                  let (x, y) = kinds_apart e.asks (all_asks es) ks scope a in
                  let (j, is, j_is, is_are, all) = kinds_whole e.kind (argument_kinds es) js (kinds_are js kinds) in
                  subst (AllHave op m k want scope (one.second ∷ r.seconds)) all (subst (λ c. HasKind one.second c scope j) (sym want_here) (s.typed scope x j j_is), z.typed scope y is is_are m);
            }

    -- ---- elements from place i on

    record SectionsGood (i k : ℕ) (follows : Bool) (ts : List Tree) (ps : List FormatPiece) (us vs : List Term) : Type 0 where
      pub news : List Tree
      pub put : (before : List Tree) → length before ≡ i → put_pieces pieces k (made k us) (before ++ ts) ≡ before ++ news
      pub counted : length news ≡ length ts
      pub good : PiecesGood k us vs (λ M xs ys. ParsedSections g false i follows (trees_of news) M ps xs ys)

    -- an object at place i, and the elements after it
    record ObjectGood (i k : ℕ) (ms : Members) (ts : List Tree) (ps : List FormatPiece) (us vs : List Term) : Type 0 where
      pub mems : Members
      pub news : List Tree
      pub put : (before : List Tree) (done : Members) → length before ≡ i → AreApart done ms → put_pieces pieces k (made k us) (before ++ object (fields_of (done ++ ms)) ∷ ts) ≡ before ++ object (fields_of (done ++ mems)) ∷ news
      pub counted : length news ≡ length ts
      pub good : PiecesGood k us vs (λ M xs ys. Joined ps xs ys (λ p u v. ParsedOptions g i (fields_of mems) M p u v) (λ q x y. ParsedSections g false (i + 1) false (trees_of news) M q x y))

    -- the element of a piece
    piece_is : (k : ℕ) (p : FormatPiece) (u : Term) (t : Tree) → slice_get pieces k ≡ Some p → piece_tree p whole ≡ Some t →
        piece_element (slice_get pieces k) (choices u) whole ks ≡ simple_element (is_content p.role) (choices u) t (role_want p.role) ks
    piece_is k p u t here there = ap (λ o. piece_element o (choices u) whole ks) here ∙ ap (λ o. piece_at p (choices u) o ks) there

    content_more : (i k : ℕ) (follows : Bool) (t : Tree) (ts before : List Tree) (u v : Term) (qs : List FormatPiece) (us vs : List Term) → whole ≡ before ++ t ∷ ts → length before ≡ i →
        slice_get pieces k ≡ Some (record { at = i; role = Content }) → is_image_tree t ≡ false → ((w : Want) → (Good g ks w N false v (simple_element true (choices u) t w ks)) × (is_image (choices u t w ks).node.tree ≡ false) × Kept g ks w v (simple_element true (choices u) t w ks)) →
        SectionsGood (i + 1) (k + 1) true ts qs us vs → SectionsGood i k follows (t ∷ ts) (record { at = i; role = Content } ∷ qs) (u ∷ us) (v ∷ vs)
    content_more i k follows t ts before u v qs us vs whole_is placed here no_image one r = record {
      news = e.tree ∷ r.news;
      put = λ ahead at.
          ap (λ o. put_pieces pieces (k + 1) (made (k + 1) us) (put_piece o e.tree (ahead ++ t ∷ ts))) here
          ∙ (ap (put_pieces pieces (k + 1) (made (k + 1) us)) (put_there p e.tree t ahead ts at ∙ sym (append_assoc ahead (e.tree ∷ []) ts))
          ∙ (r.put (ahead ++ e.tree ∷ []) (length_end ahead e.tree ∙ ap (λ n. n + 1) at) ∙ append_assoc ahead (e.tree ∷ []) r.news));
      counted = ap suc r.counted;
      good = piece_more k p u v us vs _ _ here (subst (Good g ks wants.Shown N false v) (sym e_is) (one wants.Shown).0) (subst (Kept g ks wants.Shown v) (sym e_is) (one wants.Shown).2) r.good
          (λ M x y xs ys parsed rest. content_section e.tree i follows M x y (trees_of r.news) qs xs ys still parsed rest);
    }
      where
        p : FormatPiece
        p = record { at = i; role = Content }

        e : SimpleElement
        e = piece_element (slice_get pieces k) (choices u) whole ks

        e_is : e ≡ simple_element true (choices u) t wants.Shown ks
        e_is = piece_is k p u t here (ap (λ z. slice_get z i) whole_is ∙ get_at before i t ts placed)

        still : is_image_tree e.tree ≡ false
        still = sym (image_tests e.tree) ∙ (ap (λ (x : SimpleElement). is_image x.tree) e_is ∙ chosen_no_image g ks (choices u t wants.Shown ks) (one wants.Shown).1)

    option_more : (i k : ℕ) (key : List ℕ) (role : Role) (t : Tree) (ms : Members) (ts before : List Tree) (done : Members) (u v : Term) (qs : List FormatPiece) (us vs : List Term) →
        whole ≡ before ++ object (fields_of (done ++ (key, t) ∷ ms)) ∷ ts → length before ≡ i → option_named key ≡ Some role → slice_get pieces k ≡ Some (record { at = i; role = role }) →
        LacksKey key done → LacksKey key ms → ((c : Bool) (w : Want) → Good g ks w N false v (simple_element c (choices u) t w ks) × Kept g ks w v (simple_element c (choices u) t w ks)) →
        ObjectGood i (k + 1) ms ts qs us vs → ObjectGood i k ((key, t) ∷ ms) ts (record { at = i; role = role } ∷ qs) (u ∷ us) (v ∷ vs)
    option_more i k key role t ms ts before done u v qs us vs whole_is placed option here apart distinct one r = record {
      mems = (key, e.tree) ∷ r.mems;
      news = r.news;
      put = λ ahead past at lacks.
          ap (λ o. put_pieces pieces (k + 1) (made (k + 1) us) (put_piece o e.tree (ahead ++ object (fields_of (past ++ (key, t) ∷ ms)) ∷ ts))) here
          ∙ (ap (put_pieces pieces (k + 1) (made (k + 1) us)) (put_there p e.tree (object (fields_of (past ++ (key, t) ∷ ms))) ahead ts at ∙ ap (λ x. ahead ++ x ∷ ts) (put_option past lacks.0))
          ∙ (r.put ahead (past ++ (key, e.tree) ∷ []) at (apart_push past (key, e.tree) ms lacks.1 distinct)
          ∙ ap (λ ns. ahead ++ object (fields_of ns) ∷ r.news) (append_assoc past ((key, e.tree) ∷ []) r.mems)));
      counted = r.counted;
      good = piece_more k p u v us vs _ _ here (subst (Good g ks (role_want role) N false v) (sym e_is) (one (is_content role) (role_want role)).0) (subst (Kept g ks (role_want role) v) (sym e_is) (one (is_content role) (role_want role)).1) r.good
          (λ M x y xs ys parsed rest.
          let (p1, p2, us1, us2, vs1, vs2, ps_is, us_is, vs_is, options, sections) = rest in (
            p ∷ p1,
            p2,
            x ∷ us1,
            us2,
            y ∷ vs1,
            vs2,
            ap (λ zs. p ∷ zs) ps_is,
            ap (λ zs. x ∷ zs) us_is,
            ap (λ zs. y ∷ zs) vs_is,
            (role, option, (p1, refl, (x, y, us1, vs1, refl, refl, (parsed, options)))),
            sections,
          ));
    }
      where
        p : FormatPiece
        p = record { at = i; role = role }

        e : SimpleElement
        e = piece_element (slice_get pieces k) (choices u) whole ks

        is_key : role_key role ≡ Some key
        is_key = role_of_key key role option

        e_is : e ≡ simple_element (is_content role) (choices u) t (role_want role) ks
        e_is = piece_is k p u t here
            (ap (λ o. tree_of_option o (slice_get whole i)) is_key
            ∙ (ap (tree_of_option (Some key)) (ap (λ z. slice_get z i) whole_is ∙ get_at before i (object (fields_of (done ++ (key, t) ∷ ms))) ts placed)
            ∙ member_at key t done ms apart))

        put_option : (past : Members) → LacksKey key past → put_in (role_key role) e.tree (object (fields_of (past ++ (key, t) ∷ ms))) ≡ object (fields_of ((past ++ (key, e.tree) ∷ []) ++ ms))
        put_option past lacks =
            ap (λ o. put_in o e.tree (object (fields_of (past ++ (key, t) ∷ ms)))) is_key
            ∙ (ap (λ ns. object (fields_of (replaced_members key e.tree ns))) (members_again (past ++ (key, t) ∷ ms))
            ∙ ap (λ ns. object (fields_of ns)) (replaced_at key e.tree t past ms lacks ∙ sym (append_assoc past ((key, e.tree) ∷ []) ms)))

    -- ---- trees that are good

    abbrev GoodSections : Trees → Type 0
    GoodSections ts = (i k : ℕ) (follows : Bool) (before : List Tree) (ps : List FormatPiece) (us vs : List Term) → whole ≡ before ++ listed ts → length before ≡ i → AreFrom pieces k ps →
        ParsedSections g false i follows ts N ps us vs → SectionsGood i k follows (listed ts) ps us vs

    object_ends : (i k : ℕ) (ts : List Tree) (ps : List FormatPiece) (us vs : List Term) → SectionsGood (i + 1) k false ts ps us vs → ObjectGood i k [] ts ps us vs
    object_ends i k ts ps us vs r = record {
      mems = [];
      news = r.news;
      put = λ ahead past at lacks.
          ap (put_pieces pieces k (made k us)) (sym (append_assoc ahead (object (fields_of (past ++ [])) ∷ []) ts))
          ∙ (r.put (ahead ++ object (fields_of (past ++ [])) ∷ []) (length_end ahead (object (fields_of (past ++ []))) ∙ ap (λ n. n + 1) at)
          ∙ append_assoc ahead (object (fields_of (past ++ [])) ∷ []) r.news);
      counted = r.counted;
      good = pieces_as k us vs _ _ (λ M xs ys h. ([], ps, [], xs, [], ys, refl, refl, refl, (refl, refl, refl), h)) r.good;
    }

    -- the members that are left of an object, and the elements after it
    object_good : (fs : Fields) → GoodFields g fs → HasDistinctKeys (members_of fs) → (ts : List Tree) (i k : ℕ) (before : List Tree) (done : Members) (p q : List FormatPiece) (u x v y : List Term) →
        whole ≡ before ++ object (fields_of (done ++ members_of fs)) ∷ ts → length before ≡ i → AreApart done (members_of fs) → AreFrom pieces k (p ++ q) → ParsedOptions g i fs N p u v →
        ((j : ℕ) → AreFrom pieces j q → SectionsGood (i + 1) j false ts q x y) → ObjectGood i k (members_of fs) ts (p ++ q) (u ++ x) (v ++ y)
    object_good no_fields good distinct ts i k before done p q u x v y whole_is placed apart from parsed rest =
        let from_q : AreFrom pieces k q = subst (λ zs. AreFrom pieces k (zs ++ q)) parsed.0 from in
        subst (λ zs. ObjectGood i k [] ts (zs ++ q) (u ++ x) (v ++ y)) (sym parsed.0)
        (subst (λ zs. ObjectGood i k [] ts q (zs ++ x) (v ++ y)) (sym parsed.1)
        (subst (λ zs. ObjectGood i k [] ts q x (zs ++ y)) (sym parsed.2) (object_ends i k ts q x y (rest k from_q))))
    object_good (field key t fs) good distinct ts i k before done p q u x v y whole_is placed apart from parsed rest =
        let (role, option, (p1, p_is, (u0, v0, us, vs, u_is, v_is, (here, later)))) = parsed in
        let piece : FormatPiece = record { at = i; role = role } in
        let from_p : AreFrom pieces k (piece ∷ (p1 ++ q)) = subst (λ zs. AreFrom pieces k (zs ++ q)) p_is from in
        let others : ObjectGood i (k + 1) (members_of fs) ts (p1 ++ q) (us ++ x) (vs ++ y) =
        object_good fs good.1 distinct.1 ts i (k + 1) before (done ++ (key, t) ∷ []) p1 q us x vs y
        (whole_is ∙ ap (λ ns. before ++ object (fields_of ns) ∷ ts) (sym (append_assoc done ((key, t) ∷ []) (members_of fs)))) placed (apart_push done (key, t) (members_of fs) apart.1 distinct.0)
        (from_next pieces k piece (p1 ++ q) from_p) later rest in
        subst (λ zs. ObjectGood i k ((key, t) ∷ members_of fs) ts (zs ++ q) (u ++ x) (v ++ y)) (sym p_is)
        (subst (λ zs. ObjectGood i k ((key, t) ∷ members_of fs) ts (piece ∷ (p1 ++ q)) (zs ++ x) (v ++ y)) (sym u_is)
        (subst (λ zs. ObjectGood i k ((key, t) ∷ members_of fs) ts (piece ∷ (p1 ++ q)) (u0 ∷ (us ++ x)) (zs ++ y)) (sym v_is)
        (option_more i k key role t (members_of fs) ts before done u0 v0 (p1 ++ q) (us ++ x) (vs ++ y) whole_is placed option (from_here pieces k piece (p1 ++ q) from_p) apart.0 distinct.0
        (λ c w. let made = (good.0 N false u0 v0 here w ks).0 in (chosen_good g ks w N false v0 c (choices u0 t w ks) made, chosen_kept g ks w N false v0 c (choices u0 t w ks) made)) others)))

    content_good : (t : Tree) (ts : Trees) → GoodTree g t → GoodSections ts → (i k : ℕ) (follows : Bool) (before : List Tree) (ps : List FormatPiece) (us vs : List Term) → whole ≡ before ++ t ∷ listed ts → length before ≡ i → AreFrom pieces k ps →
        is_image_tree t ≡ false → MorePieces ps (record { at = i; role = Content }) (λ qs. MoreTerms us vs (λ u v xs ys. Parsed g t N false u v × ParsedSections g false (i + 1) true ts N qs xs ys)) → SectionsGood i k follows (t ∷ listed ts) ps us vs
    content_good t ts one others i k follows before ps us vs whole_is placed from no_image h =
        let (qs, ps_is, (u, v, xs, ys, us_is, vs_is, (here, later))) = h in
        let piece : FormatPiece = record { at = i; role = Content } in
        let from_p : AreFrom pieces k (piece ∷ qs) = subst (AreFrom pieces k) ps_is from in
        let rest : SectionsGood (i + 1) (k + 1) true (listed ts) qs xs ys =
        others (i + 1) (k + 1) true (before ++ t ∷ []) qs xs ys (whole_is ∙ sym (append_assoc before (t ∷ []) (listed ts))) (length_end before t ∙ ap (λ n. n + 1) placed) (from_next pieces k piece qs from_p) later in
        subst (λ zs. SectionsGood i k follows (t ∷ listed ts) zs us vs) (sym ps_is)
        (subst (λ zs. SectionsGood i k follows (t ∷ listed ts) (piece ∷ qs) zs vs) (sym us_is)
        (subst (λ zs. SectionsGood i k follows (t ∷ listed ts) (piece ∷ qs) (u ∷ xs) zs) (sym vs_is)
        (content_more i k follows t (listed ts) before u v qs xs ys whole_is placed (from_here pieces k piece qs from_p) no_image
        (λ w. let c = one N false u v here w ks in (chosen_good g ks w N false v true (choices u t w ks) c.0, c.1 refl (image_tests t ∙ no_image), chosen_kept g ks w N false v true (choices u t w ks) c.0)) rest)))

    sections_good : (ts : Trees) → GoodTrees g ts → GoodSections ts
    sections_good no_trees good i k follows before ps us vs whole_is placed from h =
        subst (λ zs. SectionsGood i k follows [] zs us vs) (sym h.0)
        (subst (λ zs. SectionsGood i k follows [] [] zs vs) (sym h.1)
        (subst (λ zs. SectionsGood i k follows [] [] [] zs) (sym h.2)
        (record { news = []; put = λ ahead at. refl; counted = refl; good = no_pieces k _ (λ M. (refl, refl, refl)) })))
    sections_good (tree null ts) good i k follows before ps us vs whole_is placed from h = content_good null ts good.0 (sections_good ts good.2) i k follows before ps us vs whole_is placed from h.0 h.1
    sections_good (tree (boolean b) ts) good i k follows before ps us vs whole_is placed from h = content_good (boolean b) ts good.0 (sections_good ts good.2) i k follows before ps us vs whole_is placed from h.0 h.1
    sections_good (tree (number n) ts) good i k follows before ps us vs whole_is placed from h = content_good (number n) ts good.0 (sections_good ts good.2) i k follows before ps us vs whole_is placed from h.0 h.1
    sections_good (tree (text s) ts) good i k follows before ps us vs whole_is placed from h = content_good (text s) ts good.0 (sections_good ts good.2) i k follows before ps us vs whole_is placed from h.0 h.1
    sections_good (tree (list xs) ts) good i k follows before ps us vs whole_is placed from h = content_good (list xs) ts good.0 (sections_good ts good.2) i k follows before ps us vs whole_is placed from h.0 h.1
    sections_good (tree (object fs) ts) good i k follows before ps us vs whole_is placed from h =
        let (follow, (p, q, u, x, v, y, ps_is, us_is, vs_is, options, sections)) = h in
        let whole_at : whole ≡ before ++ object (fields_of (members_of fs)) ∷ listed ts = whole_is ∙ ap (λ gs. before ++ object gs ∷ listed ts) (sym (fields_again fs)) in
        let r : ObjectGood i k (members_of fs) (listed ts) (p ++ q) (u ++ x) (v ++ y) =
        object_good fs good.1.1 good.1.0 (listed ts) i k before [] p q u x v y whole_at placed (apart_none (members_of fs)) (subst (AreFrom pieces k) ps_is from) options
        (λ j from_j. sections_good ts good.2 (i + 1) j false (before ++ object fs ∷ []) q x y (whole_is ∙ sym (append_assoc before (object fs ∷ []) (listed ts))) (length_end before (object fs) ∙ ap (λ n. n + 1) placed) from_j sections) in
        subst (λ zs. SectionsGood i k follows (object fs ∷ listed ts) zs us vs) (sym ps_is)
        (subst (λ zs. SectionsGood i k follows (object fs ∷ listed ts) (p ++ q) zs vs) (sym us_is)
        (subst (λ zs. SectionsGood i k follows (object fs ∷ listed ts) (p ++ q) (u ++ x) zs) (sym vs_is)
        (record {
          news = object (fields_of r.mems) ∷ r.news;
          put = λ ahead at. ap (λ gs. put_pieces pieces k (made k (u ++ x)) (ahead ++ object gs ∷ listed ts)) (sym (fields_again fs)) ∙ r.put ahead [] at (apart_none (members_of fs));
          counted = ap suc r.counted;
          good = pieces_as k (u ++ x) (v ++ y) _ _ (λ M xs ys j. (follow, j)) r.good;
        })))

  -- ---- the node

  no_script : (ps : List FormatPiece) → operators.Format ps ≡ operators.IsSupportedScript → ⊥
  no_script ps e = absurd (cc)

  module _ (ps : List FormatPiece) (want : Want) (N : Names) (f : Bool) (ks : KindScope) (us vs : List Term) where
    abbrev whole_good : Trees → Type 0
    whole_good ts =
        let e : SimpleElement = format_of (operators.Format ps) ps want (listed ts) (piece_elements ps 0 (simples (terms_of us)) (listed ts) ks) in
        Good g ks want N f (node (operators.Format ps) (terms_of vs)) e × Kept g ks want (node (operators.Format ps) (terms_of vs)) e

    format_of_good : (t : Tree) (ts : Trees) → head_name (tree t no_trees) ≡ Some named.Format → allows (row named.Format).arity (count_trees (tree t ts) - 1) ≡ true → f ≡ true →
        SectionsGood ps (t ∷ listed ts) want N ks 1 0 false (listed ts) ps us vs → whole_good (tree t ts)
    format_of_good t ts head fits is r = (
      record {
        first = node (operators.Format ps) (terms_of r.good.firsts);
        second = node (operators.Format ps) (terms_of r.good.seconds);
        parsed = parsed_in N r.good.parsed;
        same = λ names world.
            node_alike want names names world world (operators.Format ps) (means (terms_of r.good.seconds)) (means (terms_of vs)) tt (λ z. refl) (λ z. refl) (r.good.alike names world (length (means (terms_of r.good.seconds))));
        lighter = less;
        calmer = hidden_calmer (operators.Format ps) (terms_of vs) (node (operators.Format ps) (terms_of r.good.seconds)) (format_hides ps) refl (less zooms);
        known = λ k q. known_by (argument_kinds es) refl k q;
        asked = λ k q. asked_by (argument_kinds es) refl k q;
        argument = refl;
      },
      λ k typed.
          let (js, are, kind) = node_from (operators.Format ps) tt want ks vs k typed in
          ap (kind_by (operators.Format ps) want) (r.good.kept (length vs) js are) ∙ kind,
    )
      where
        es : List SimpleElement
        es = piece_elements ps 0 (simples (terms_of us)) (t ∷ listed ts) ks

        less : (w : Weights) → measure w (node (operators.Format ps) (terms_of r.good.seconds)) ≤ measure w (node (operators.Format ps) (terms_of vs))
        less w = let x = r.good.lighter w in let same = same_weight w (operators.Format ps) r.good.seconds vs r.good.as_many in omega (arith, x, same)

        new_is : tree t (trees_of r.news) ≡ trees_of (put_pieces ps 0 es (t ∷ listed ts))
        new_is = ap trees_of (sym (r.put (t ∷ []) refl))

        counted : count_trees (trees_of r.news) ≡ count_trees ts
        counted = count_of r.news ∙ (r.counted ∙ listed_count ts)

        parsed_in : (M : Names) → ParsedSections g false 1 false (trees_of r.news) M ps r.good.firsts r.good.seconds →
            Parsed g (list (trees_of (put_pieces ps 0 es (t ∷ listed ts)))) M f (node (operators.Format ps) (terms_of r.good.firsts)) (node (operators.Format ps) (terms_of r.good.seconds))
        parsed_in M h =
            subst (λ xs. Parsed g (list xs) M f (node (operators.Format ps) (terms_of r.good.firsts)) (node (operators.Format ps) (terms_of r.good.seconds))) new_is
            (named.Format, head, refl, ap (λ n. allows (row named.Format).arity (suc n - 1)) counted ∙ fits, (ps, r.good.firsts, r.good.seconds, is, refl, refl, h))

        asked_by : (o : Option (List Kind)) → argument_kinds es ≡ o → (k : Kind) → kind_by (operators.Format ps) want o ≡ Some k → AreAmong N (all_asks es)
        asked_by None e k q = absurd (cc)
        asked_by (Some js) e k q = r.good.asked js e

        known_by : (o : Option (List Kind)) → argument_kinds es ≡ o → (k : Kind) → kind_by (operators.Format ps) want o ≡ Some k →
            Known g ks want f (format_of (operators.Format ps) ps want (t ∷ listed ts) es) (node (operators.Format ps) (terms_of r.good.firsts)) (node (operators.Format ps) (terms_of r.good.seconds))
        known_by None e k q = absurd (cc)
        known_by (Some js) e k q =
            let s = r.good.known js e in
            record {
              names = λ M a. parsed_in M (s.names M a);
              depends = λ names names' v w a given.
                  node_alike want names names' v w (operators.Format ps) (means (terms_of r.good.seconds)) (means (terms_of r.good.seconds)) tt (λ z. absurd (cc)) (λ z. absurd (no_script ps z))
                  (s.depends names names' v w a given (length (means (terms_of r.good.seconds))));
              steady = λ z. ap (λ xs. node (operators.Format ps) (terms_of xs)) (s.steady z);
              typed = λ scope a j kind.
                  node_has (operators.Format ps) tt want scope r.good.seconds j js (s.typed scope a js e (length r.good.seconds)) (sym (ap (kind_by (operators.Format ps) want) e) ∙ kind);
            }

    pub format_good : (ts : Trees) → GoodTrees g ts → head_name ts ≡ Some named.Format → allows (row named.Format).arity (count_trees ts - 1) ≡ true → f ≡ true → ParsedSections g true 0 false ts N ps us vs → whole_good ts
    format_good no_trees good head fits is h = absurd (cc)
    format_good (tree t ts) good head fits is h =
        format_of_good t ts head fits is (sections_good ps (t ∷ listed ts) want N ks ts good.2 1 0 false (t ∷ []) ps us vs refl refl (from_first ps) h)
