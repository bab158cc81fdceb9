-- Items and members that are changed in place: what is at each place, and that keys stay distinct.
use Rattle.std.proofs.Common.{◌≡◌, ◌≢◌, ℕ, zero, suc, ◌+◌, List, [], ◌∷◌, ◌++◌, get_or, set, refl, ap, sym, ◌∙◌, arith, Bool, true, false}
use Rattle.std.specs.Prelude.{Option, Some, None, if◌then◌else◌, map, insert, remove}
use Rattle.std.specs.Str.{bytes_eq}
use Rattle.std.proofs.lemmas.Bool.{cond-false, true≢false}
use Rattle.std.proofs.lemmas.Slice.Eq.{bytes_eq-Decides}
use Rattle.key_index.specs.Keys.{place_from}
use Rattle.key_index.proofs.Keys.{none_first, not_below}
use Rattle.decimal_json.specs.declared.tree.Member.{Member}
use Rattle.decimal_json.specs.declared.tree.Json.{Json}
use Rattle.decimal_json.specs.Editing.{members_with, replaced_members, members_without}
use Rattle.decimal_json.specs.Tree.{Tree}
use Rattle.decimal_json.specs.Sound.{LacksKey, HasDistinctKeys}
use Rattle.decimal_json.specs.View.{tree_of, member_view, members_view, member_keys}

-- What a map makes of a list with one more element, with one less, and with another.
pub map_insert : {X Y : Type 0} (f : X → Y) (xs : List X) (i : ℕ) (x : X) → map f (insert xs i x) ≡ insert (map f xs) i (f x)
map_insert f [] zero x = refl
map_insert f [] (suc i) x = refl
map_insert f (y ∷ ys) zero x = refl
map_insert f (y ∷ ys) (suc i) x = ap (λ zs. f y ∷ zs) (map_insert f ys i x)

pub map_remove : {X Y : Type 0} (f : X → Y) (xs : List X) (i : ℕ) → map f (remove xs i) ≡ remove (map f xs) i
map_remove f [] zero = refl
map_remove f [] (suc i) = refl
map_remove f (y ∷ ys) zero = refl
map_remove f (y ∷ ys) (suc i) = ap (λ zs. f y ∷ zs) (map_remove f ys i)

-- the members with another value at a place
abbrev pub revalued : List Member → ℕ → Json → Member → List Member
revalued ms j v d = set ms j (record (get_or ms j d) { value = v })

replace_step : (i : ℕ) (q : List ℕ) (v : Json) (d m : Member) (ms : List Member) (same : Bool) → (j : ℕ) → (if same then Some i else place_from (i + 1) q (member_keys ms)) ≡ Some (i + j) → ((k : ℕ) → place_from (i + 1) q (member_keys ms) ≡ Some (i + 1 + k) → members_view (revalued ms k v d) ≡ replaced_members q (tree_of v) (members_view ms)) → members_view (revalued (m ∷ ms) j v d) ≡ (if same then (m.key, tree_of v) ∷ members_view ms else member_view m ∷ replaced_members q (tree_of v) (members_view ms))
replace_step i q v d m ms true zero p go = refl
replace_step i q v d m ms true (suc j) p go = absurd (let n : i ≡ i + suc j = cc in omega arith)
replace_step i q v d m ms false zero p go = absurd (not_below (i + 1) i q (member_keys ms) (omega arith) (p ∙ ap Some (omega arith)))
replace_step i q v d m ms false (suc j) p go = ap (λ xs. member_view m ∷ xs) (go j (p ∙ ap Some (omega arith)))

view_replaced_from : (i : ℕ) (q : List ℕ) (ms : List Member) (v : Json) (d : Member) (j : ℕ) → place_from i q (member_keys ms) ≡ Some (i + j) → members_view (revalued ms j v d) ≡ replaced_members q (tree_of v) (members_view ms)
view_replaced_from i q [] v d j p = absurd (cc)
view_replaced_from i q (m ∷ ms) v d j p = replace_step i q v d m ms (bytes_eq m.key q) j p (λ k f. view_replaced_from (i + 1) q ms v d k f)

-- Where a key is at a place, a new value there is the new tree at the key.
pub view_replaced : (q : List ℕ) (ms : List Member) (v : Json) (d : Member) (j : ℕ) → place_from 0 q (member_keys ms) ≡ Some j → members_view (revalued ms j v d) ≡ replaced_members q (tree_of v) (members_view ms)
view_replaced q ms v d j p = view_replaced_from 0 q ms v d j (p ∙ ap Some (omega arith))

remove_step : (i : ℕ) (q : List ℕ) (m : Member) (ms : List Member) (same : Bool) → (j : ℕ) → (if same then Some i else place_from (i + 1) q (member_keys ms)) ≡ Some (i + j) → ((k : ℕ) → place_from (i + 1) q (member_keys ms) ≡ Some (i + 1 + k) → members_view (remove ms k) ≡ members_without q (members_view ms)) → members_view (remove (m ∷ ms) j) ≡ (if same then members_view ms else member_view m ∷ members_without q (members_view ms))
remove_step i q m ms true zero p go = refl
remove_step i q m ms true (suc j) p go = absurd (let n : i ≡ i + suc j = cc in omega arith)
remove_step i q m ms false zero p go = absurd (not_below (i + 1) i q (member_keys ms) (omega arith) (p ∙ ap Some (omega arith)))
remove_step i q m ms false (suc j) p go = ap (λ xs. member_view m ∷ xs) (go j (p ∙ ap Some (omega arith)))

view_without_from : (i : ℕ) (q : List ℕ) (ms : List Member) (j : ℕ) → place_from i q (member_keys ms) ≡ Some (i + j) → members_view (remove ms j) ≡ members_without q (members_view ms)
view_without_from i q [] j p = absurd (cc)
view_without_from i q (m ∷ ms) j p = remove_step i q m ms (bytes_eq m.key q) j p (λ k f. view_without_from (i + 1) q ms k f)

-- Where a key is at a place, the members without that place are those without the key.
pub view_without : (q : List ℕ) (ms : List Member) (j : ℕ) → place_from 0 q (member_keys ms) ≡ Some j → members_view (remove ms j) ≡ members_without q (members_view ms)
view_without q ms j p = view_without_from 0 q ms j (p ∙ ap Some (omega arith))

-- Where the key is not there, nothing is replaced or removed, and a new member follows the others.
pub nothing_replaced : (i : ℕ) (q : List ℕ) (t : Tree) (ms : List Member) → place_from i q (member_keys ms) ≡ None → replaced_members q t (members_view ms) ≡ members_view ms
nothing_replaced i q t [] e = refl
nothing_replaced i q t (m ∷ ms) e =
    let parts = none_first i (place_from (i + 1) q (member_keys ms)) (bytes_eq m.key q) e in
    cond-false (bytes_eq m.key q) _ _ parts.0 ∙ ap (λ xs. member_view m ∷ xs) (nothing_replaced (i + 1) q t ms parts.1)

pub nothing_removed : (i : ℕ) (q : List ℕ) (ms : List Member) → place_from i q (member_keys ms) ≡ None → members_without q (members_view ms) ≡ members_view ms
nothing_removed i q [] e = refl
nothing_removed i q (m ∷ ms) e =
    let parts = none_first i (place_from (i + 1) q (member_keys ms)) (bytes_eq m.key q) e in
    cond-false (bytes_eq m.key q) _ _ parts.0 ∙ ap (λ xs. member_view m ∷ xs) (nothing_removed (i + 1) q ms parts.1)

pub put_last : (i : ℕ) (q : List ℕ) (t : Tree) (ms : List Member) → place_from i q (member_keys ms) ≡ None → members_with q t (members_view ms) ≡ members_view ms ++ (q, t) ∷ []
put_last i q t [] e = refl
put_last i q t (m ∷ ms) e =
    let parts = none_first i (place_from (i + 1) q (member_keys ms)) (bytes_eq m.key q) e in
    cond-false (bytes_eq m.key q) _ _ parts.0 ∙ ap (λ xs. member_view m ∷ xs) (put_last (i + 1) q t ms parts.1)

put_step : (i k : ℕ) (p : List ℕ × Tree) (t : Tree) (rest : Option ℕ) (ms xs ys : List (List ℕ × Tree)) (same : Bool) → (if same then Some i else rest) ≡ Some k → (rest ≡ Some k → xs ≡ ys) → (if same then (p.0, t) ∷ ms else p ∷ xs) ≡ (if same then (p.0, t) ∷ ms else p ∷ ys)
put_step i k p t rest ms xs ys true e h = refl
put_step i k p t rest ms xs ys false e h = ap (λ zs. p ∷ zs) (h e)

-- Where it is there, its tree is replaced.
pub put_there : (i k : ℕ) (q : List ℕ) (t : Tree) (ms : List Member) → place_from i q (member_keys ms) ≡ Some k → replaced_members q t (members_view ms) ≡ members_with q t (members_view ms)
put_there i k q t [] e = absurd (cc)
put_there i k q t (m ∷ ms) e = put_step i k (member_view m) t (place_from (i + 1) q (member_keys ms)) (members_view ms) _ _ (bytes_eq m.key q) e (λ f. put_there (i + 1) k q t ms f)

-- A key with no place is not there.
lacks_step : (i : ℕ) (m : Member) (q : List ℕ) (rest : Option ℕ) → (if bytes_eq m.key q then Some i else rest) ≡ None → m.key ≢ q
lacks_step i m q rest e = λ same. true≢false (sym ((bytes_eq-Decides m.key q).1 same) ∙ (none_first i rest (bytes_eq m.key q) e).0)

pub lacks_unplaced : (i : ℕ) (q : List ℕ) (ms : List Member) → place_from i q (member_keys ms) ≡ None → LacksKey q (members_view ms)
lacks_unplaced i q [] e = tt
lacks_unplaced i q (m ∷ ms) e = (lacks_step i m q (place_from (i + 1) q (member_keys ms)) e, lacks_unplaced (i + 1) q ms (none_first i (place_from (i + 1) q (member_keys ms)) (bytes_eq m.key q) e).1)

lacks_revalued : (k : List ℕ) (ms : List Member) (j : ℕ) (v : Json) (d : Member) → LacksKey k (members_view ms) → LacksKey k (members_view (revalued ms j v d))
lacks_revalued k [] j v d h = tt
lacks_revalued k (m ∷ ms) zero v d h = h
lacks_revalued k (m ∷ ms) (suc j) v d h = (h.0, lacks_revalued k ms j v d h.1)

pub distinct_revalued : (ms : List Member) (j : ℕ) (v : Json) (d : Member) → HasDistinctKeys (members_view ms) → HasDistinctKeys (members_view (revalued ms j v d))
distinct_revalued [] j v d h = tt
distinct_revalued (m ∷ ms) zero v d h = h
distinct_revalued (m ∷ ms) (suc j) v d h = (lacks_revalued m.key ms j v d h.0, distinct_revalued ms j v d h.1)

pub keys_revalued : (ms : List Member) (j : ℕ) (v : Json) (d : Member) → member_keys (revalued ms j v d) ≡ member_keys ms
keys_revalued [] j v d = refl
keys_revalued (m ∷ ms) zero v d = refl
keys_revalued (m ∷ ms) (suc j) v d = ap (λ ks. m.key ∷ ks) (keys_revalued ms j v d)

lacks_removed : (k : List ℕ) (ms : List Member) (j : ℕ) → LacksKey k (members_view ms) → LacksKey k (members_view (remove ms j))
lacks_removed k [] zero h = tt
lacks_removed k [] (suc j) h = tt
lacks_removed k (m ∷ ms) zero h = h.1
lacks_removed k (m ∷ ms) (suc j) h = (h.0, lacks_removed k ms j h.1)

pub distinct_removed : (ms : List Member) (j : ℕ) → HasDistinctKeys (members_view ms) → HasDistinctKeys (members_view (remove ms j))
distinct_removed [] zero h = tt
distinct_removed [] (suc j) h = tt
distinct_removed (m ∷ ms) zero h = h.1
distinct_removed (m ∷ ms) (suc j) h = (lacks_removed m.key ms j h.0, distinct_removed ms j h.1)

lacks_inserted : (k : List ℕ) (ms : List Member) (j : ℕ) (m : Member) → m.key ≢ k → LacksKey k (members_view ms) → LacksKey k (members_view (insert ms j m))
lacks_inserted k [] zero m other h = (other, tt)
lacks_inserted k [] (suc j) m other h = (other, tt)
lacks_inserted k (n ∷ ms) zero m other h = (other, h)
lacks_inserted k (n ∷ ms) (suc j) m other h = (h.0, lacks_inserted k ms j m other h.1)

pub distinct_inserted : (ms : List Member) (j : ℕ) (m : Member) → LacksKey m.key (members_view ms) → HasDistinctKeys (members_view ms) → HasDistinctKeys (members_view (insert ms j m))
distinct_inserted [] zero m lacks h = (tt, tt)
distinct_inserted [] (suc j) m lacks h = (tt, tt)
distinct_inserted (n ∷ ms) zero m lacks h = (lacks, h)
distinct_inserted (n ∷ ms) (suc j) m lacks h = (lacks_inserted n.key ms j m (λ same. lacks.0 (sym same)) h.0, distinct_inserted ms j m lacks.1 h.1)
