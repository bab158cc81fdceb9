-- The members of a layer that were found one after the other are those of the layer.
use Rattle.std.specs.Prelude.{◌≡◌, ◌≢◌, ℕ, List, [], ◌∷◌, codes, Bool, true, false, ◌||◌, Option, Some, None, if◌then◌else◌}
use Rattle.std.specs.Str.{bytes_eq}
use Rattle.std.proofs.Common.{refl, sym, ap, subst, ◌∙◌, inl, inr}
use Rattle.std.proofs.lemmas.Bool.{cases_Bool}
use Rattle.std.proofs.lemmas.Slice.Eq.{bytes_eq-Decides}
use Rattle.decimal_json.specs.Tree.{Tree, object, fields_of, field_at}
use Rattle.decimal_json.specs.Sound.{LacksKey, HasDistinctKeys}
use Rattle.style_rules.specs.CodeView.{MemberTrees}
use Rattle.style_rules.specs.LayerParts.{parts_of, with_member}

-- with all of these, one after the other
abbrev pub with_members : MemberTrees → List (List ℕ × Tree) → MemberTrees
with_members p [] = p
with_members p (m ∷ ms) = with_members (with_member p m.0 m.1) ms

abbrev pub no_parts : MemberTrees
no_parts = record { id = None; layer_type = None; source = None; source_layer = None; has_ref = false }

-- what was found last, else what was found before
abbrev or_before : Option Tree → Option Tree → Option Tree
or_before (Some t) before = Some t
or_before None before = before

-- the members that come with what was found before
abbrev joined : MemberTrees → MemberTrees → MemberTrees
joined later p = record {
  id = or_before later.id p.id;
  layer_type = or_before later.layer_type p.layer_type;
  source = or_before later.source p.source;
  source_layer = or_before later.source_layer p.source_layer;
  has_ref = later.has_ref || p.has_ref;
}

or_none : (o : Option Tree) → or_before o None ≡ o
or_none (Some t) = refl
or_none None = refl

or_false : (b : Bool) → (b || false) ≡ b
or_false true = refl
or_false false = refl

joined_none : (p : MemberTrees) → joined p no_parts ≡ p
joined_none p = rw (or_none p.id, or_none p.layer_type, or_none p.source, or_none p.source_layer, or_false p.has_ref) refl

pub differs : (a b : List ℕ) → (a ≢ b) → bytes_eq a b ≡ false
differs a b ne = elim (cases_Bool (bytes_eq a b)) [ inl same ↦ absurd (ne ((bytes_eq-Decides a b).0 same)) | inr other ↦ other ]

lacking : (key : List ℕ) (ms : List (List ℕ × Tree)) → LacksKey key ms → field_at key (fields_of ms) ≡ None
lacking key [] lacks = refl
lacking key (m ∷ ms) lacks = ap (λ b. if b then Some m.1 else field_at key (fields_of ms)) (differs m.0 key lacks.0) ∙ lacking key ms lacks.1

-- one member before others
abbrev Moves : List ℕ → MemberTrees → Tree → List (List ℕ × Tree) → Type 0
Moves k p t ms = LacksKey k ms → joined (parts_of (object (fields_of ms))) (with_member p k t) ≡ joined (parts_of (object (fields_of ((k, t) ∷ ms)))) p

moves_id : (p : MemberTrees) (t : Tree) (ms : List (List ℕ × Tree)) → Moves (codes "id") p t ms
moves_id p t ms lacks = rw (lacking (codes "id") ms lacks) refl

moves_type : (p : MemberTrees) (t : Tree) (ms : List (List ℕ × Tree)) → Moves (codes "type") p t ms
moves_type p t ms lacks = rw (lacking (codes "type") ms lacks) refl

moves_source : (p : MemberTrees) (t : Tree) (ms : List (List ℕ × Tree)) → Moves (codes "source") p t ms
moves_source p t ms lacks = rw (lacking (codes "source") ms lacks) refl

moves_source_layer : (p : MemberTrees) (t : Tree) (ms : List (List ℕ × Tree)) → Moves (codes "source-layer") p t ms
moves_source_layer p t ms lacks = rw (lacking (codes "source-layer") ms lacks) refl

moves_ref : (p : MemberTrees) (t : Tree) (ms : List (List ℕ × Tree)) → Moves (codes "ref") p t ms
moves_ref p t ms lacks = rw (lacking (codes "ref") ms lacks) refl

moves_other : (k : List ℕ) (p : MemberTrees) (t : Tree) (ms : List (List ℕ × Tree)) → bytes_eq k (codes "id") ≡ false → bytes_eq k (codes "type") ≡ false → bytes_eq k (codes "source") ≡ false → bytes_eq k (codes "source-layer") ≡ false → bytes_eq k (codes "ref") ≡ false → Moves k p t ms
moves_other k p t ms a b c d e lacks = rw (a, b, c, d, e) refl

is_key : (k key : List ℕ) → bytes_eq k key ≡ true → key ≡ k
is_key k key h = sym ((bytes_eq-Decides k key).0 h)

moves : (k : List ℕ) (p : MemberTrees) (t : Tree) (ms : List (List ℕ × Tree)) → Moves k p t ms
moves k p t ms = elim (cases_Bool (bytes_eq k (codes "id"))) [
  | inl is ↦ subst (λ q. Moves q p t ms) (is_key k (codes "id") is) (moves_id p t ms)
  | inr a ↦ elim (cases_Bool (bytes_eq k (codes "type"))) [
    | inl is ↦ subst (λ q. Moves q p t ms) (is_key k (codes "type") is) (moves_type p t ms)
    | inr b ↦ elim (cases_Bool (bytes_eq k (codes "source"))) [
      | inl is ↦ subst (λ q. Moves q p t ms) (is_key k (codes "source") is) (moves_source p t ms)
      | inr c ↦ elim (cases_Bool (bytes_eq k (codes "source-layer"))) [
        | inl is ↦ subst (λ q. Moves q p t ms) (is_key k (codes "source-layer") is) (moves_source_layer p t ms)
        | inr d ↦ elim (cases_Bool (bytes_eq k (codes "ref"))) [
          | inl is ↦ subst (λ q. Moves q p t ms) (is_key k (codes "ref") is) (moves_ref p t ms)
          | inr e ↦ moves_other k p t ms a b c d e
        ]
      ]
    ]
  ]
]

with_all : (ms : List (List ℕ × Tree)) (p : MemberTrees) → HasDistinctKeys ms → with_members p ms ≡ joined (parts_of (object (fields_of ms))) p
with_all [] p distinct = refl
with_all (m ∷ ms) p distinct = with_all ms (with_member p m.0 m.1) distinct.1 ∙ moves m.0 p m.1 ms distinct.0

pub found_parts : (ms : List (List ℕ × Tree)) → HasDistinctKeys ms → with_members no_parts ms ≡ parts_of (object (fields_of ms))
found_parts ms distinct = with_all ms no_parts distinct ∙ joined_none (parts_of (object (fields_of ms)))
