-- Sources stay what they are where expressions come, and what one call leaves and then another leaves both.
use Rattle.std.proofs.Common.{◌≡◌, ◌≢◌, ◌∙◌, ℕ, zero, suc, ◌+◌, ◌<◌, ◌≤◌, List, [], ◌∷◌, ◌++◌, length, refl, ap, sym, subst, inl, inr, arith, true, false}
use Rattle.std.specs.Prelude.{◌⊎◌, Bool, OnErr, OnOk, Option, Some, None, Ok, Err, Result, if◌then◌else◌}
use Rattle.std.specs.List.{slice_get}
use Rattle.std.proofs.lemmas.Bool.{false≢true, false_from_ne_true}
use Rattle.std.proofs.lemmas.List.{append-nil, append_assoc}
use Rattle.std.proofs.lemmas.Option.{slice_get_within}
use Rattle.expr_syntax.specs.Mentioned.{mentions}
use Rattle.expr_syntax.specs.declared.world_parts.Mentions.{Mentions}
use Rattle.expr_nodes.specs.Evaluators.{Sized, sized_term}
use Rattle.layer_buckets.proofs.ItemLaws.{is_item_same, is_item_true}
use Rattle.layer_buckets.specs.Cells.{is_item}
use Rattle.layer_buckets.specs.Seen.{evaluator_of, features_of, kept_at, source_of}
use Rattle.layer_buckets.specs.declared.buckets.Buckets.{Buckets}
use Rattle.layer_buckets.specs.declared.cell.Cell.{Cell}
use Rattle.layer_buckets.specs.declared.cell.CellItem.{CellItem}
use Rattle.layer_buckets.specs.declared.cell.CellItem.TheVariants as items
use Rattle.layer_buckets.specs.declared.cell.Source.{Source}
use Rattle.asked_cells.specs.Expressions.{CellExpression, HasExpressions, IsSourced, LayerExpressions}
use Rattle.cell_sources.specs.Sourced.{HasFirst, IsLonger, KeepsNoMore, LeavesOthers, SetsItem}

get_front : {A : Type 0} (xs ys : List A) (i : ℕ) → i < length xs → slice_get (xs ++ ys) i ≡ slice_get xs i
get_front [] ys i h = absurd (omega (arith, h))
get_front (x ∷ xs) ys zero h = refl
get_front (x ∷ xs) ys (suc i) h = get_front xs ys i (omega (arith, h))

pub get_new : {A : Type 0} (xs : List A) (y : A) → slice_get (xs ++ y ∷ []) (length xs) ≡ Some y
get_new [] y = refl
get_new (x ∷ xs) y = get_new xs y

abbrev pub number_of : ℕ → CellItem → ℕ
number_of other items.Filter = other
number_of other (items.Property n) = n

pub property_number : (m n : ℕ) → items.Property m ≡ items.Property n → m ≡ n
property_number m n same = ap (number_of m) same

pub below_or_past : (n count : ℕ) → (n < count) ⊎ (count ≤ n)
below_or_past n zero = inr (omega arith)
below_or_past zero (suc count) = inl (omega arith)
below_or_past (suc n) (suc count) = step (below_or_past n count) where
  step : (n < count) ⊎ (count ≤ n) → (suc n < suc count) ⊎ (suc count ≤ suc n)
  step (inl h) = inl (omega (arith, h))
  step (inr h) = inr (omega (arith, h))

pub below_or_last : (n count : ℕ) → n < count + 1 → (n ≡ count) ⊎ (n < count)
below_or_last n count h = step (below_or_past n count) where
  step : (n < count) ⊎ (count ≤ n) → (n ≡ count) ⊎ (n < count)
  step (inl less) = inr less
  step (inr more) = inl (omega (arith, h, more))

pub sourced_longer : (old new : List Sized) (item : CellItem) (e : Option CellExpression) (source : Option Source)
    → IsLonger old new → IsSourced old item e source → IsSourced new item e source
sourced_longer old new item None source longer is = is
sourced_longer old new item (Some e) source (more, same) (slot, is, at) =
    (slot, is, ap (λ slots. slice_get slots slot) same ∙ get_front old more slot (slice_get_within old slot _ at) ∙ at)

pub longer_itself : {A : Type 0} (xs : List A) → IsLonger xs xs
longer_itself xs = ([], sym (append-nil xs))

pub longer_again : {A : Type 0} (xs ys zs : List A) → IsLonger xs ys → IsLonger ys zs → IsLonger xs zs
longer_again xs ys zs (more, is) (others, also) = (more ++ others, also ∙ ap (λ l. l ++ others) is ∙ append_assoc xs more others)

pub keeps_more : {E : Type 0} (a b c : Buckets E) → KeepsNoMore a b → KeepsNoMore b c → KeepsNoMore a c
keeps_more a b c first more cell value is = first cell value (more cell value is)

module _ {E : Type 0} (slots : E → List Sized) (layer : ℕ) where
  pub others_themselves : (b : Buckets E) → LeavesOthers slots layer b b
  others_themselves b = record {
    features = λ l. refl;
    source = λ l item h. refl;
    kept = λ cell h. refl;
    expressions = longer_itself (slots (evaluator_of b));
  }

  pub others_again : (a b c : Buckets E) → LeavesOthers slots layer a b → LeavesOthers slots layer b c → LeavesOthers slots layer a c
  others_again a b c first more = record {
    features = λ l. more.features l ∙ first.features l;
    source = λ l item h. more.source l item h ∙ first.source l item h;
    kept = λ cell h. more.kept cell h ∙ first.kept cell h;
    expressions = longer_again (slots (evaluator_of a)) (slots (evaluator_of b)) (slots (evaluator_of c)) first.expressions more.expressions;
  }

  -- an item gets the source of an expression that was put after the others
  pub set_item : (item : CellItem) (e : CellExpression) (old mid new : Buckets E) (slot : ℕ) (found : Mentions) (made : Sized)
      → found ≡ mentions e.term → slot ≡ length (slots (evaluator_of old))
      → slots (evaluator_of mid) ≡ slots (evaluator_of old) ++ made ∷ [] → made ≡ sized_term e.term e.want
      → evaluator_of new ≡ evaluator_of mid
      → ((l : ℕ) (i : CellItem) → source_of mid l i ≡ source_of old l i)
      → ((l : ℕ) (i : CellItem) → source_of new l i ≡ (if is_item layer item l i
      then Some (record { item = item; slot = slot; mentions = found; paint = e.paint; globals = e.globals })
      else source_of mid l i))
      → SetsItem slots layer item (Some e) old new
  set_item item e old mid new slot found made mentioned counted put sized same left given = record {
    own = (
      slot,
      given layer item
          ∙ ap (λ b. if b then Some (record { item = item; slot = slot; mentions = found; paint = e.paint; globals = e.globals }) else source_of mid layer item)
          (is_item_same layer layer item item refl refl)
          ∙ ap (λ m. Some (record { item = item; slot = slot; mentions = m; paint = e.paint; globals = e.globals })) mentioned,
      ap (λ ev. slice_get (slots ev) slot) same ∙ ap (λ xs. slice_get xs slot) put
          ∙ ap (slice_get (slots (evaluator_of old) ++ made ∷ [])) counted ∙ get_new (slots (evaluator_of old)) made ∙ ap Some sized,
    );
    others = λ other apart.
        given layer other
        ∙ ap (λ b. if b then Some (record { item = item; slot = slot; mentions = found; paint = e.paint; globals = e.globals }) else source_of mid layer other)
        (false_from_ne_true (is_item layer item layer other) (λ h. apart ((is_item_true layer layer item other h).1)))
        ∙ left layer other;
  }

  -- something is put, and an item gets a source: all else of other layers stays
  module _ {X Y : Type 0} (r : Result X Y) (item : CellItem) (given : Source) (mid new : Buckets E) where
    off : (l : ℕ) (i : CellItem) → layer ≢ l → is_item layer item l i ≡ false
    off l i apart = false_from_ne_true (is_item layer item l i) (λ h. apart ((is_item_true layer l item i h).0))

    source_left : (s : Result X Y)
        → OnOk s ((l : ℕ) (i : CellItem) → source_of new l i ≡ (if is_item layer item l i then Some given else source_of mid l i))
        → OnErr s ((l : ℕ) (i : CellItem) → source_of new l i ≡ source_of mid l i)
        → (l : ℕ) (i : CellItem) → layer ≢ l → source_of new l i ≡ source_of mid l i
    source_left (Ok x) ok err l i apart = ok l i ∙ ap (λ b. if b then Some given else source_of mid l i) (off l i apart)
    source_left (Err y) ok err l i apart = err l i

    kept_left : (s : Result X Y)
        → OnOk s ((cell : Cell) → kept_at new cell ≡ (if is_item layer item cell.layer cell.item then None else kept_at mid cell))
        → OnErr s ((cell : Cell) → kept_at new cell ≡ kept_at mid cell)
        → (cell : Cell) → layer ≢ cell.layer → kept_at new cell ≡ kept_at mid cell
    kept_left (Ok x) ok err cell apart = ok cell ∙ ap (λ b. if b then None else kept_at mid cell) (off cell.layer cell.item apart)
    kept_left (Err y) ok err cell apart = err cell

    pub others_put : (old : Buckets E) (made : Sized) → ((l : ℕ) → features_of mid l ≡ features_of old l)
        → ((l : ℕ) (i : CellItem) → source_of mid l i ≡ source_of old l i) → ((cell : Cell) → kept_at mid cell ≡ kept_at old cell)
        → slots (evaluator_of mid) ≡ slots (evaluator_of old) ++ made ∷ [] → evaluator_of new ≡ evaluator_of mid
        → ((l : ℕ) → features_of new l ≡ features_of mid l)
        → OnOk r ((l : ℕ) (i : CellItem) → source_of new l i ≡ (if is_item layer item l i then Some given else source_of mid l i))
        → OnErr r ((l : ℕ) (i : CellItem) → source_of new l i ≡ source_of mid l i)
        → OnOk r ((cell : Cell) → kept_at new cell ≡ (if is_item layer item cell.layer cell.item then None else kept_at mid cell))
        → OnErr r ((cell : Cell) → kept_at new cell ≡ kept_at mid cell)
        → LeavesOthers slots layer old new
    others_put old made features source kept put same still ok err kept_ok kept_err = record {
      features = λ l. still l ∙ features l;
      source = λ l i apart. source_left r ok err l i apart ∙ source l i;
      kept = λ cell apart. kept_left r kept_ok kept_err cell apart ∙ kept cell;
      expressions = (made ∷ [], ap slots same ∙ put);
    }

  -- one property more, and the filter at last
  module _ (expression_of : LayerExpressions) where
    pub none_first : (b : Buckets E) → ((item : CellItem) → source_of b layer item ≡ None) → HasFirst slots layer 0 expression_of b
    none_first b bare = record {
      first = λ n h. absurd (omega (arith, h));
      later = λ n h. bare (items.Property n);
      filter = bare items.Filter;
    }

    one_more : (count n : ℕ) (a b : Buckets E) → HasFirst slots layer count expression_of a → LeavesOthers slots layer a b
        → SetsItem slots layer (items.Property count) (expression_of (items.Property count)) a b → n < count + 1
        → (n ≡ count) ⊎ (n < count)
        → IsSourced (slots (evaluator_of b)) (items.Property n) (expression_of (items.Property n)) (source_of b layer (items.Property n))
    one_more count n a b has left set h (inl same) =
        subst (λ k. IsSourced (slots (evaluator_of b)) (items.Property k) (expression_of (items.Property k)) (source_of b layer (items.Property k))) (sym same) set.own
    one_more count n a b has left set h (inr less) =
        subst (IsSourced (slots (evaluator_of b)) (items.Property n) (expression_of (items.Property n)))
        (sym (set.others (items.Property n) (λ same. let e = property_number count n same in absurd (omega (arith, e, less)))))
        (sourced_longer (slots (evaluator_of a)) (slots (evaluator_of b)) (items.Property n) (expression_of (items.Property n)) (source_of a layer (items.Property n))
        left.expressions (has.first n less))

    pub first_more : (count : ℕ) (a b : Buckets E) → HasFirst slots layer count expression_of a → LeavesOthers slots layer a b
        → SetsItem slots layer (items.Property count) (expression_of (items.Property count)) a b
        → HasFirst slots layer (count + 1) expression_of b
    first_more count a b has left set = record {
      first = λ n h. one_more count n a b has left set h (below_or_last n count h);
      later = λ n h. set.others (items.Property n) (λ same. let e = property_number count n same in absurd (omega (arith, e, h))) ∙ has.later n (omega (arith, h));
      filter = set.others items.Filter (λ same. absurd (cc)) ∙ has.filter;
    }

    pub all_sourced : (count : ℕ) (a b : Buckets E) → HasFirst slots layer count expression_of a → LeavesOthers slots layer a b
        → SetsItem slots layer items.Filter (expression_of items.Filter) a b
        → ((n : ℕ) → count ≤ n → expression_of (items.Property n) ≡ None)
        → HasExpressions slots layer expression_of b
    all_sourced count a b has left set past items.Filter = set.own
    all_sourced count a b has left set past (items.Property n) = by_place (below_or_past n count) where
      stays : source_of b layer (items.Property n) ≡ source_of a layer (items.Property n)
      stays = set.others (items.Property n) (λ same. absurd (cc))

      by_place : (n < count) ⊎ (count ≤ n) → IsSourced (slots (evaluator_of b)) (items.Property n) (expression_of (items.Property n)) (source_of b layer (items.Property n))
      by_place (inl below) = subst (IsSourced (slots (evaluator_of b)) (items.Property n) (expression_of (items.Property n))) (sym stays)
          (sourced_longer (slots (evaluator_of a)) (slots (evaluator_of b)) (items.Property n) (expression_of (items.Property n)) (source_of a layer (items.Property n))
          left.expressions (has.first n below))
      by_place (inr later) = subst (λ e. IsSourced (slots (evaluator_of b)) (items.Property n) e (source_of b layer (items.Property n))) (sym (past n later))
          (stays ∙ has.later n later)

  -- ---- expressions after an item of a layer got its source

  module _ (a b : Buckets E) (left : LeavesOthers slots layer a b) where
    -- of the layer, where no other item has another expression now
    pub expressions_after : (old new : LayerExpressions) (item : CellItem) → HasExpressions slots layer old a
        → SetsItem slots layer item (new item) a b → ((other : CellItem) → item ≢ other → new other ≡ old other)
        → HasExpressions slots layer new b
    expressions_after old new item had set same other = by (is_item layer item layer other) refl
      where
        by : (own : Bool) → is_item layer item layer other ≡ own → IsSourced (slots (evaluator_of b)) other (new other) (source_of b layer other)
        by true is =
            subst (λ i. IsSourced (slots (evaluator_of b)) i (new i) (source_of b layer i)) (is_item_true layer layer item other is).1 set.own
        by false is =
            let apart : item ≢ other = λ e. false≢true (sym is ∙ is_item_same layer layer item other refl e) in
            let before = subst (λ e. IsSourced (slots (evaluator_of a)) other e (source_of a layer other)) (sym (same other apart)) (had other) in
            subst (IsSourced (slots (evaluator_of b)) other (new other)) (sym (set.others other apart))
            (sourced_longer (slots (evaluator_of a)) (slots (evaluator_of b)) other (new other) (source_of a layer other) left.expressions before)

    -- of another layer
    pub others_after : (l : ℕ) (expressions : LayerExpressions) → layer ≢ l → HasExpressions slots l expressions a
        → HasExpressions slots l expressions b
    others_after l expressions apart had item =
        subst (IsSourced (slots (evaluator_of b)) item (expressions item)) (sym (left.source l item apart))
        (sourced_longer (slots (evaluator_of a)) (slots (evaluator_of b)) item (expressions item) (source_of a l item) left.expressions (had item))
