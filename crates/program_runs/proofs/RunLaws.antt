-- No run has two outcomes, by recursion over runs.
use Rattle.std.specs.Prelude.{◌≡◌, ℕ, ◌≤◌, List, [], ◌∷◌, ◌++◌, length, true, is_some, Option, Some, None, Result, Ok, Err}
use Rattle.std.proofs.Common.{refl, sym, ap, subst, ◌∙◌, inl, inr, arith}
use Rattle.outside_io.specs.Reading.{IsContent, IsLongerIfTold}
use Rattle.json_tokens.specs.Rules.{all_rules}
use Rattle.json_tokens.specs.declared.kind.JsonKind.{JsonKind}
use Rattle.decimal_json.proofs.OneFault.{one_fault}
use Rattle.decimal_json.proofs.OneTree.{one_tree}
use Rattle.decimal_json.specs.Parses.{IsPlace, IsKind}
use Rattle.decimal_json.specs.Tree.{Tree}
use Rattle.decimal_json.specs.declared.fault.JsonFault.{JsonFault}
use Rattle.program_runs.specs.Laws.{EachRunHasOneOutcome}
use Rattle.program_runs.specs.Refusals.{no_json}
use Rattle.program_runs.specs.Runs.{ends, says, counts, reads, may_read, parses, may_parse, explains, IsFileOrLonger, IsParsed, HasOutcome, after_counts, after_text}

one_refusal : (what text : List ℕ) (kind other : JsonKind) (at place : ℕ) → IsPlace text at → IsKind kind text at → IsPlace text place → IsKind other text place → no_json what kind at ≡ no_json what other place
one_refusal what text kind other at place at_first first at_second second =
    let same = one_fault text at place kind other at_first at_second first second in
    ap (λ n. no_json what kind n) same.0 ∙ ap (λ k. no_json what k place) same.1

-- a file with known contents is not both within the limit and longer
pub not_both : (file : Option (List ℕ)) (limit : ℕ) (bytes : List ℕ) → is_some file ≡ true → IsLongerIfTold file limit → IsContent file bytes → length bytes ≤ limit → ⊥
not_both None limit bytes told longer is within = cc
not_both (Some b) limit bytes told longer is within = let e = ap length is in omega arith

pub one_content : (file : Option (List ℕ)) (a b : List ℕ) → is_some file ≡ true → IsContent file a → IsContent file b → a ≡ b
one_content None a b told p q = absurd (cc)
one_content (Some c) a b told p q = p ∙ sym q

-- a file with known contents is read in one way
pub one_read : (files : List ℕ → Option (List ℕ)) (name : List ℕ) (limit : ℕ) (got other : Option (List ℕ)) → is_some (files name) ≡ true
    → IsFileOrLonger files name limit got → IsFileOrLonger files name limit other → got ≡ other
one_read files name limit None None told longer also = refl
one_read files name limit None (Some b) told longer is = absurd (not_both (files name) limit b told longer is.0 is.1)
one_read files name limit (Some b) None told is longer = absurd (not_both (files name) limit b told longer is.0 is.1)
one_read files name limit (Some b) (Some c) told is are = ap Some (one_content (files name) b c told is.0 are.0)

-- bytes are parsed in one way
pub one_parsed : (bytes : List ℕ) (parsed other : Result Tree JsonFault) → IsParsed bytes parsed → IsParsed bytes other → parsed ≡ other
one_parsed bytes (Ok s) (Ok t) spells also = ap Ok (one_tree all_rules bytes s t spells also)
one_parsed bytes (Ok s) (Err fault) spells (none, place, cause) = absurd (none (s, spells))
one_parsed bytes (Err fault) (Ok t) (none, place, cause) spells = absurd (none (t, spells))
one_parsed bytes (Err fault) (Err other) (none, place, cause) (neither, there, reason) =
    let same = one_fault bytes fault.at other.at fault.kind other.kind place there cause reason in
    ap (λ (n : ℕ). Err (record { kind = fault.kind; at = n })) same.0 ∙ ap (λ (k : JsonKind). Err (record { kind = k; at = other.at })) same.1

pub one_outcome : EachRunHasOneOutcome
one_outcome files (ends made) told x y z o p d e = (d.0 ∙ sym e.0, d.1 ∙ sym e.1)
one_outcome files (says text next) told x y z o p (q, d, made) (r, e, makes) =
    let same = one_outcome files next told x y z q r d e in (made ∙ (ap (after_text text) same.0 ∙ sym makes), same.1)
one_outcome files (counts least most next) told x y z o p (q, d, made) (r, e, makes) =
    let same = one_outcome files next told x y z q r d e in (made ∙ (ap (after_counts least most) same.0 ∙ sym makes), same.1)
one_outcome files (reads longer name limit after) told x y z o p (inl a) (inl b) = (a.1 ∙ sym b.1, a.2 ∙ sym b.2)
one_outcome files (reads longer name limit after) told x y z o p (inl a) (inr (bytes, is, e)) = absurd (not_both (files name) limit bytes told.0 a.0 is.0 is.1)
one_outcome files (reads longer name limit after) told x y z o p (inr (bytes, is, d)) (inl b) = absurd (not_both (files name) limit bytes told.0 b.0 is.0 is.1)
one_outcome files (reads longer name limit after) told x y z o p (inr (bytes, is, d)) (inr (others, are, e)) =
    one_outcome files (after bytes) (told.1 bytes is) (x ++ name ∷ []) y z o p d
    (subst (λ b. HasOutcome files (after b) (x ++ name ∷ []) z p) (one_content (files name) others bytes told.0 are.0 is.0) e)
one_outcome files (may_read name limit after) told x y z o p (got, is, d) (other, are, e) =
    one_outcome files (after got) (told.1 got is) (x ++ name ∷ []) y z o p d
    (subst (λ g. HasOutcome files (after g) (x ++ name ∷ []) z p) (one_read files name limit other got told.0 are is) e)
one_outcome files (parses what bytes after) told x y z o p (inl (s, spells, d)) (inl (t, also, e)) =
    one_outcome files (after s) (told s spells) x y z o p d (subst (λ u. HasOutcome files (after u) x z p) (one_tree all_rules bytes t s also spells) e)
one_outcome files (parses what bytes after) told x y z o p (inl (s, spells, d)) (inr (kind, at, none, place, cause, made, same)) = absurd (none (s, spells))
one_outcome files (parses what bytes after) told x y z o p (inr (kind, at, none, place, cause, made, same)) (inl (t, also, e)) = absurd (none (t, also))
one_outcome files (parses what bytes after) told x y z o p (inr (kind, at, none, place, cause, made, same)) (inr (other, there, neither, also, reason, makes, alike)) =
    (made ∙ (one_refusal what bytes kind other at there place cause also reason ∙ sym makes), same ∙ sym alike)
one_outcome files (may_parse bytes after) told x y z o p (inl (s, spells, d)) (inl (t, also, e)) =
    one_outcome files (after (Some s)) (told.0 s spells) x y z o p d (subst (λ u. HasOutcome files (after (Some u)) x z p) (one_tree all_rules bytes t s also spells) e)
one_outcome files (may_parse bytes after) told x y z o p (inl (s, spells, d)) (inr (none, e)) = absurd (none (s, spells))
one_outcome files (may_parse bytes after) told x y z o p (inr (none, d)) (inl (t, also, e)) = absurd (none (t, also))
one_outcome files (may_parse bytes after) told x y z o p (inr (none, d)) (inr (neither, e)) = one_outcome files (after None) (told.1 none) x y z o p d e
one_outcome files (explains bytes after) told x y z o p (parsed, is, d) (other, also, e) =
    one_outcome files (after parsed) (told parsed is) x y z o p d (subst (λ r. HasOutcome files (after r) x z p) (one_parsed bytes other parsed also is) e)
