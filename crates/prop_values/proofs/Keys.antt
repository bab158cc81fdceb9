-- The keys of a map stay distinct.
use Rattle.std.proofs.Common.{◌≡◌, ◌≢◌, ℕ, ◌<◌, List, [], ◌∷◌, ◌++◌, length, take, get_or, zero, suc, ap, sym, ◌∙◌, subst, arith}
use Rattle.std.proofs.lemmas.List.{map-append}
use Rattle.prop_values.specs.declared.value.Entry.{Entry}
use Rattle.prop_values.specs.Data.{Data}
use Rattle.prop_values.specs.Keys.{LacksKey, HasDistinctKeys}
use Rattle.prop_values.specs.ViewParts.{entry_view, entries_view}

lacks-push : (key : List ℕ) (ps : List (List ℕ × Data)) (p : List ℕ × Data) → LacksKey key ps → p.0 ≢ key → LacksKey key (ps ++ p ∷ [])
lacks-push key [] p h k = (k, tt)
lacks-push key (x ∷ ps) p h k = (h.0, lacks-push key ps p h.1 k)

distinct-push : (ps : List (List ℕ × Data)) (p : List ℕ × Data) → HasDistinctKeys ps → LacksKey p.0 ps → HasDistinctKeys (ps ++ p ∷ [])
distinct-push [] p h k = (tt, tt)
distinct-push (x ∷ ps) p h k = (lacks-push x.0 ps p h.0 (λ e. k.0 (sym e)), distinct-push ps p h.1 k.1)

-- An entry whose key is not there may be added at the end.
pub entries_push : (es : List Entry) (e : Entry) → HasDistinctKeys (entries_view es) → LacksKey e.key (entries_view es) → HasDistinctKeys (entries_view (es ++ e ∷ []))
entries_push es e h k = subst HasDistinctKeys (sym (map-append entry_view es (e ∷ []))) (distinct-push (entries_view es) (entry_view e) h k)

lacks_at : (key : List ℕ) (es : List Entry) (i : ℕ) (e : Entry) → LacksKey key (entries_view es) → i < length es → e ≡ get_or es i e → key ≢ e.key
lacks_at key [] i e h k p = absurd (omega arith)
lacks_at key (x ∷ es) zero e h k p = λ q. h.0 (ap (λ (y : Entry). y.key) (sym p) ∙ sym q)
lacks_at key (x ∷ es) (suc i) e h k p = lacks_at key es i e h.1 (omega arith) p

-- The entries before a place lack the key there.
pub lacks_before : (es : List Entry) (i : ℕ) (e : Entry) → HasDistinctKeys (entries_view es) → i < length es → e ≡ get_or es i e → LacksKey e.key (entries_view (take i es))
lacks_before [] i e h k p = absurd (omega arith)
lacks_before (x ∷ es) zero e h k p = tt
lacks_before (x ∷ es) (suc i) e h k p = (lacks_at x.key es i e h.0 (omega arith) p, lacks_before es i e h.1 (omega arith) p)

lacks-take : (key : List ℕ) (n : ℕ) (ps : List (List ℕ × Data)) → LacksKey key ps → LacksKey key (take n ps)
lacks-take key zero ps h = tt
lacks-take key (suc n) [] h = tt
lacks-take key (suc n) (p ∷ ps) h = (h.0, lacks-take key n ps h.1)

-- The keys of the first entries differ.
pub distinct-take : (n : ℕ) (ps : List (List ℕ × Data)) → HasDistinctKeys ps → HasDistinctKeys (take n ps)
distinct-take zero ps h = tt
distinct-take (suc n) [] h = tt
distinct-take (suc n) (p ∷ ps) h = (lacks-take p.0 n ps h.0, distinct-take n ps h.1)
