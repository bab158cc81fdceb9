-- How the values of a JSON array or object are read one by one.
use Rattle.std.proofs.Common.{◌≡◌, ℕ, ◌+◌, ◌<◌, ◌≤◌, List, [], ◌∷◌, ◌++◌, length, drop, get_or, refl, ap, sym, ◌∙◌}
use Rattle.std.specs.Prelude.{Result, Ok, Err}
use Rattle.std.proofs.lemmas.List.{drop_more, drop_all}
use Rattle.fixed_num.specs.declared.decimal.NumFault.{NumFault}
use Rattle.decimal_json.specs.declared.tree.Json.{Json}
use Rattle.decimal_json.specs.declared.tree.Member.{Member}
use Rattle.decimal_json.specs.Tree.{Tree, Trees, no_trees, tree, Fields, no_fields, field}
use Rattle.decimal_json.specs.View.{tree_of, trees, fields}
use Rattle.prop_values.specs.declared.value.Value.{Value}
use Rattle.prop_values.specs.View.{data_of}
use Rattle.prop_values.specs.Data.{Data, Items, no_items, item, Pairs, no_pairs, pair, items_of, pairs_of}
use Rattle.prop_values.specs.JsonData.{then_items, then_pairs, json_data, trees_data, fields_data}

-- items after those of a list
abbrev pub items_behind : List Data → Items → Items
items_behind [] more = more
items_behind (d ∷ ds) more = item d (items_behind ds more)

abbrev pub pairs_behind : List (List ℕ × Data) → Pairs → Pairs
pairs_behind [] more = more
pairs_behind (p ∷ ps) more = pair p.0 p.1 (pairs_behind ps more)

-- what is read, and then what the trees are read as
unfoldable pub items_then : List Data → Trees → Result Items NumFault
items_then ds ts = then_items (trees_data ts) (λ more. Ok (items_behind ds more))

unfoldable pub pairs_then : List (List ℕ × Data) → Fields → Result Pairs NumFault
pairs_then ps fs = then_pairs (fields_data fs) (λ more. Ok (pairs_behind ps more))

abbrev pub items_turn_by : List Data → Trees → Result Data NumFault → Result Items NumFault
items_turn_by ds ts (Ok d) = items_then (ds ++ d ∷ []) ts
items_turn_by ds ts (Err f) = Err f

abbrev pub pairs_turn_by : List (List ℕ × Data) → List ℕ → Fields → Result Data NumFault → Result Pairs NumFault
pairs_turn_by ps k fs (Ok d) = pairs_then (ps ++ (k, d) ∷ []) fs
pairs_turn_by ps k fs (Err f) = Err f

items_behind-push : (ds : List Data) (d : Data) (more : Items) → items_behind (ds ++ d ∷ []) more ≡ items_behind ds (item d more)
items_behind-push [] d more = refl
items_behind-push (x ∷ ds) d more = ap (item x) (items_behind-push ds d more)

pairs_behind-push : (ps : List (List ℕ × Data)) (k : List ℕ) (d : Data) (more : Pairs) → pairs_behind (ps ++ (k, d) ∷ []) more ≡ pairs_behind ps (pair k d more)
pairs_behind-push [] k d more = refl
pairs_behind-push (x ∷ ps) k d more = ap (pair x.0 x.1) (pairs_behind-push ps k d more)

items_more : (ds : List Data) (d : Data) (r : Result Items NumFault) → then_items (then_items r (λ ts. Ok (item d ts))) (λ more. Ok (items_behind ds more)) ≡ then_items r (λ more. Ok (items_behind (ds ++ d ∷ []) more))
items_more ds d (Ok more) = sym (ap Ok (items_behind-push ds d more))
items_more ds d (Err f) = refl

pairs_more : (ps : List (List ℕ × Data)) (k : List ℕ) (d : Data) (r : Result Pairs NumFault) → then_pairs (then_pairs r (λ qs. Ok (pair k d qs))) (λ more. Ok (pairs_behind ps more)) ≡ then_pairs r (λ more. Ok (pairs_behind (ps ++ (k, d) ∷ []) more))
pairs_more ps k d (Ok more) = sym (ap Ok (pairs_behind-push ps k d more))
pairs_more ps k d (Err f) = refl

items_turn_on : (ds : List Data) (ts : Trees) (r : Result Data NumFault) → then_items (then_items r (λ d. then_items (trees_data ts) (λ es. Ok (item d es)))) (λ more. Ok (items_behind ds more)) ≡ items_turn_by ds ts r
unfolding items_then
items_turn_on ds ts (Ok d) = items_more ds d (trees_data ts)
items_turn_on ds ts (Err f) = refl

pairs_turn_on : (ps : List (List ℕ × Data)) (k : List ℕ) (fs : Fields) (r : Result Data NumFault) → then_pairs (then_pairs r (λ d. then_pairs (fields_data fs) (λ qs. Ok (pair k d qs)))) (λ more. Ok (pairs_behind ps more)) ≡ pairs_turn_by ps k fs r
unfolding pairs_then
pairs_turn_on ps k fs (Ok d) = pairs_more ps k d (fields_data fs)
pairs_turn_on ps k fs (Err f) = refl

items_none : (r : Result Items NumFault) → then_items r (λ more. Ok more) ≡ r
items_none (Ok more) = refl
items_none (Err f) = refl

pairs_none : (r : Result Pairs NumFault) → then_pairs r (λ more. Ok more) ≡ r
pairs_none (Ok more) = refl
pairs_none (Err f) = refl

-- nothing is read yet
pub items_begin : (ts : Trees) → items_then [] ts ≡ trees_data ts
unfolding items_then
items_begin ts = items_none (trees_data ts)

pub pairs_begin : (fs : Fields) → pairs_then [] fs ≡ fields_data fs
unfolding pairs_then
pairs_begin fs = pairs_none (fields_data fs)

-- one more tree is read
pub items_turn : (ds : List Data) (t : Tree) (ts : Trees) → items_then ds (tree t ts) ≡ items_turn_by ds ts (json_data t)
unfolding items_then
items_turn ds t ts = items_turn_on ds ts (json_data t)

pub pairs_turn : (ps : List (List ℕ × Data)) (k : List ℕ) (t : Tree) (fs : Fields) → pairs_then ps (field k t fs) ≡ pairs_turn_by ps k fs (json_data t)
unfolding pairs_then
pairs_turn ps k t fs = pairs_turn_on ps k fs (json_data t)

items_behind_none : (ds : List Data) → items_behind ds no_items ≡ items_of ds
items_behind_none [] = refl
items_behind_none (d ∷ ds) = ap (item d) (items_behind_none ds)

pairs_behind_none : (ps : List (List ℕ × Data)) → pairs_behind ps no_pairs ≡ pairs_of ps
pairs_behind_none [] = refl
pairs_behind_none (p ∷ ps) = ap (pair p.0 p.1) (pairs_behind_none ps)

-- no tree is left
pub items_end : (ds : List Data) → items_then ds no_trees ≡ Ok (items_of ds)
unfolding items_then
items_end ds = ap Ok (items_behind_none ds)

pub pairs_end : (ps : List (List ℕ × Data)) → pairs_then ps no_fields ≡ Ok (pairs_of ps)
unfolding pairs_then
pairs_end ps = ap Ok (pairs_behind_none ps)

at_place : {X : Type 0} (xs : List X) (i : ℕ) (x : X) → i < length xs → x ≡ get_or xs i x → drop i xs ≡ x ∷ drop (i + 1) xs
at_place xs i x h p = drop_more xs i x h ∙ ap (λ y. y ∷ drop (i + 1) xs) (sym p)

-- The walk along the items of an array: a turn that reads one, a turn that fails, and the end.
pub items_step : (ds new : List Data) (js : List Json) (i : ℕ) (j : Json) (v : Value) (whole : Result Items NumFault) → i < length js → j ≡ get_or js i j → Ok (data_of v) ≡ json_data (tree_of j) → new ≡ ds ++ data_of v ∷ [] → items_then ds (trees (drop i js)) ≡ whole → items_then new (trees (drop (i + 1) js)) ≡ whole
items_step ds new js i j v whole h p r n w =
    let ts = trees (drop (i + 1) js) in
    ap (λ x. items_then x ts) n ∙ (ap (items_turn_by ds ts) r ∙ (sym (items_turn ds (tree_of j) ts) ∙ (ap (λ xs. items_then ds (trees xs)) (sym (at_place js i j h p)) ∙ w)))

pub items_fail : (ds : List Data) (js : List Json) (i : ℕ) (j : Json) (f : NumFault) (whole : Result Items NumFault) → i < length js → j ≡ get_or js i j → Err f ≡ json_data (tree_of j) → items_then ds (trees (drop i js)) ≡ whole → Err f ≡ whole
items_fail ds js i j f whole h p r w =
    let ts = trees (drop (i + 1) js) in
    ap (items_turn_by ds ts) r ∙ (sym (items_turn ds (tree_of j) ts) ∙ (ap (λ xs. items_then ds (trees xs)) (sym (at_place js i j h p)) ∙ w))

pub items_done : (ds : List Data) (js : List Json) (i : ℕ) (whole : Result Items NumFault) → length js ≤ i → items_then ds (trees (drop i js)) ≡ whole → Ok (items_of ds) ≡ whole
items_done ds js i whole h w = sym (items_end ds) ∙ (ap (λ xs. items_then ds (trees xs)) (sym (drop_all i js h)) ∙ w)

-- The same along the members of an object.
pub pairs_step : (ps new : List (List ℕ × Data)) (ms : List Member) (i : ℕ) (m : Member) (v : Value) (whole : Result Pairs NumFault) → i < length ms → m ≡ get_or ms i m → Ok (data_of v) ≡ json_data (tree_of m.value) → new ≡ ps ++ (m.key, data_of v) ∷ [] → pairs_then ps (fields (drop i ms)) ≡ whole → pairs_then new (fields (drop (i + 1) ms)) ≡ whole
pairs_step ps new ms i m v whole h p r n w =
    let fs = fields (drop (i + 1) ms) in
    ap (λ x. pairs_then x fs) n ∙ (ap (pairs_turn_by ps m.key fs) r ∙ (sym (pairs_turn ps m.key (tree_of m.value) fs) ∙ (ap (λ xs. pairs_then ps (fields xs)) (sym (at_place ms i m h p)) ∙ w)))

pub pairs_fail : (ps : List (List ℕ × Data)) (ms : List Member) (i : ℕ) (m : Member) (f : NumFault) (whole : Result Pairs NumFault) → i < length ms → m ≡ get_or ms i m → Err f ≡ json_data (tree_of m.value) → pairs_then ps (fields (drop i ms)) ≡ whole → Err f ≡ whole
pairs_fail ps ms i m f whole h p r w =
    let fs = fields (drop (i + 1) ms) in
    ap (pairs_turn_by ps m.key fs) r ∙ (sym (pairs_turn ps m.key (tree_of m.value) fs) ∙ (ap (λ xs. pairs_then ps (fields xs)) (sym (at_place ms i m h p)) ∙ w))

pub pairs_done : (ps : List (List ℕ × Data)) (ms : List Member) (i : ℕ) (whole : Result Pairs NumFault) → length ms ≤ i → pairs_then ps (fields (drop i ms)) ≡ whole → Ok (pairs_of ps) ≡ whole
pairs_done ps ms i whole h w = sym (pairs_end ps) ∙ (ap (λ xs. pairs_then ps (fields xs)) (sym (drop_all i ms h)) ∙ w)
