-- The keys of a JSON object differ, and so do those of the map that it says.
use Rattle.std.proofs.Common.{◌≡◌, ◌≢◌, ℕ, ◌+◌, ◌<◌, List, [], ◌∷◌, ◌++◌, length, take, get_or, zero, suc, ap, sym, ◌∙◌, subst, arith}
use Rattle.std.proofs.lemmas.List.{map-append, take_more}
use Rattle.decimal_json.specs.declared.tree.Member.{Member}
use Rattle.decimal_json.specs.Sound as sound
use Rattle.decimal_json.specs.View.{member_view, members_view}
use Rattle.key_index.specs.Keys as index
use Rattle.prop_values.specs.Data.{Data}
use Rattle.prop_values.specs.Keys.{LacksKey, keys}

lacks_key : (key : List ℕ) (ps : List (List ℕ × Data)) → index.LacksKey key (keys ps) → LacksKey key ps
lacks_key key [] h = tt
lacks_key key (p ∷ ps) h = (h.0, lacks_key key ps h.1)

other_key : (key : List ℕ) (ms : List Member) (i : ℕ) (m : Member) → sound.LacksKey key (members_view ms) → i < length ms → m ≡ get_or ms i m → key ≢ m.key
other_key key [] i m h k p = absurd (omega arith)
other_key key (x ∷ ms) zero m h k p = λ e. h.0 (ap (λ (y : Member). y.key) (sym p) ∙ sym e)
other_key key (x ∷ ms) (suc i) m h k p = other_key key ms i m h.1 (omega arith) p

lacks_earlier : (ms : List Member) (i : ℕ) (m : Member) → sound.HasDistinctKeys (members_view ms) → i < length ms → m ≡ get_or ms i m → index.LacksKey m.key (keys (members_view (take i ms)))
lacks_earlier [] i m h k p = absurd (omega arith)
lacks_earlier (x ∷ ms) zero m h k p = tt
lacks_earlier (x ∷ ms) (suc i) m h k p = (other_key x.key ms i m h.0 (omega arith) p, lacks_earlier ms i m h.1 (omega arith) p)

lacks_by : (key : List ℕ) (ps : List (List ℕ × Data)) (ks : List (List ℕ)) → keys ps ≡ ks → index.LacksKey key ks → LacksKey key ps
lacks_by key ps ks e h = lacks_key key ps (subst (index.LacksKey key) (sym e) h)

-- The entries read from the members before a place lack the key there.
pub lacks_read : (ps : List (List ℕ × Data)) (ms : List Member) (i : ℕ) (m : Member) → keys ps ≡ keys (members_view (take i ms)) → sound.HasDistinctKeys (members_view ms) → i < length ms → m ≡ get_or ms i m → LacksKey m.key ps
lacks_read ps ms i m e h k p = lacks_by m.key ps (keys (members_view (take i ms))) e (lacks_earlier ms i m h k p)

keys_push : {X : Type 0} (ps : List (List ℕ × X)) (p : List ℕ × X) → keys (ps ++ p ∷ []) ≡ keys ps ++ p.0 ∷ []
keys_push {X} ps p = map-append (λ (q : List ℕ × X). q.0) ps (p ∷ [])

read_more : (ms : List Member) (i : ℕ) (m : Member) → i < length ms → m ≡ get_or ms i m → keys (members_view (take (i + 1) ms)) ≡ keys (members_view (take i ms)) ++ m.key ∷ []
read_more ms i m h p =
    ap (λ xs. keys (members_view xs)) (take_more ms i m h ∙ ap (λ x. take i ms ++ x ∷ []) (sym p)) ∙ (ap keys (map-append member_view (take i ms) (m ∷ [])) ∙ keys_push (members_view (take i ms)) (member_view m))

-- One more member is read.
pub keys_step : (ps new : List (List ℕ × Data)) (ms : List Member) (i : ℕ) (m : Member) (d : Data) → i < length ms → m ≡ get_or ms i m → new ≡ ps ++ (m.key, d) ∷ [] → keys ps ≡ keys (members_view (take i ms)) → keys new ≡ keys (members_view (take (i + 1) ms))
keys_step ps new ms i m d h p n w = ap keys n ∙ (keys_push ps (m.key, d) ∙ (ap (λ ks. ks ++ m.key ∷ []) w ∙ sym (read_more ms i m h p)))
