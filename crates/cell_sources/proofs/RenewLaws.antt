-- Sources whose expressions are put anew say of them what they said, and one item after another has its number.
use Rattle.std.proofs.Common.{◌≡◌, ◌∙◌, ℕ, ◌+◌, ◌<◌, ◌≤◌, List, [], ◌∷◌, ◌++◌, length, refl, ap, sym, subst, inl, inr, arith, true, false}
use Rattle.std.specs.Prelude.{◌⊎◌, Bool, Option, Some, None, option_map, if◌then◌else◌}
use Rattle.std.specs.List.{slice_get}
use Rattle.std.proofs.lemmas.Bool.{false_from_ne_true}
use Rattle.expr_nodes.specs.Evaluators.{Sized, sized_term}
use Rattle.layer_buckets.proofs.ItemLaws.{is_item_same, is_item_true}
use Rattle.layer_buckets.specs.Cells.{is_item}
use Rattle.layer_buckets.specs.Seen.{evaluator_of, features_of, kept_at, source_of}
use Rattle.layer_buckets.specs.Slotted.{slotted, slotted_at}
use Rattle.layer_buckets.specs.declared.buckets.Buckets.{Buckets}
use Rattle.layer_buckets.specs.declared.cell.Cell.{Cell}
use Rattle.layer_buckets.specs.declared.cell.CellItem.{CellItem}
use Rattle.layer_buckets.specs.declared.cell.CellItem.TheVariants as items
use Rattle.layer_buckets.specs.declared.cell.Source.{Source}
use Rattle.asked_cells.specs.Expressions.{CellExpression, HasExpressions, IsSourced, LayerExpressions, source_with}
use Rattle.cell_sources.proofs.SourcedLaws.{below_or_last, below_or_past, get_new, longer_again, longer_itself, property_number, sourced_longer}
use Rattle.cell_sources.specs.Sourced.{FirstAreRenewed, HasSources, IsSourceOf, KeepsNumbers, KeepsSources, RenewsItem, numberless}

-- ---- sources without their numbers

slotted_again : (m n : ℕ) (o : Option Source) → slotted m (slotted n o) ≡ slotted m o
slotted_again m n (Some s) = refl
slotted_again m n None = refl

numberless_if : (b : Bool) (n : ℕ) (o : Option Source) → numberless (if b then slotted n o else o) ≡ numberless o
numberless_if true n o = slotted_again 0 n o
numberless_if false n o = refl

pub no_source : (o : Option Source) → numberless o ≡ None → o ≡ None
no_source None is = refl
no_source (Some s) is = absurd (cc)

-- the source of an expression of the evaluator is that of the expression
pub is_source_of : (slots : List Sized) (item : CellItem) (e : Option CellExpression) (source : Option Source) → IsSourced slots item e source
    → IsSourceOf item e source
is_source_of slots item None source is = ap numberless is
is_source_of slots item (Some e) source (slot, is, at) = ap numberless is

-- ---- one call after another

module _ {E : Type 0} where
  pub sources_themselves : (b : Buckets E) → KeepsSources b b
  sources_themselves b = record {
    features = λ l. refl;
    kept = λ cell. refl;
    source = λ l item. refl;
  }

  pub sources_again : (a b c : Buckets E) → KeepsSources a b → KeepsSources b c → KeepsSources a c
  sources_again a b c first more = record {
    features = λ l. more.features l ∙ first.features l;
    kept = λ cell. more.kept cell ∙ first.kept cell;
    source = λ l item. more.source l item ∙ first.source l item;
  }

module _ {E : Type 0} (slots : E → List Sized) (layer : ℕ) where
  pub numbers_themselves : (b : Buckets E) → KeepsNumbers slots layer b b
  numbers_themselves b = record { source = λ l item apart. refl; expressions = longer_itself (slots (evaluator_of b)) }

  pub numbers_again : (a b c : Buckets E) → KeepsNumbers slots layer a b → KeepsNumbers slots layer b c → KeepsNumbers slots layer a c
  numbers_again a b c first more = record {
    source = λ l item apart. more.source l item apart ∙ first.source l item apart;
    expressions = longer_again (slots (evaluator_of a)) (slots (evaluator_of b)) (slots (evaluator_of c)) first.expressions more.expressions;
  }

  -- ---- one item

  pub none_renewed : (item : CellItem) (b : Buckets E) → RenewsItem slots layer item None b b
  none_renewed item b = record { own = λ had. no_source (source_of b layer item) had; others = λ other apart. refl }

  -- an expression is put, and the source of its item gets its number
  module _ (item : CellItem) (number : ℕ) (old mid new : Buckets E)
      (left : (l : ℕ) (i : CellItem) → source_of mid l i ≡ source_of old l i)
      (given : (l : ℕ) (i : CellItem) → source_of new l i ≡ slotted_at layer item number l i (source_of mid l i)) where
    pub put_keeps : ((l : ℕ) → features_of mid l ≡ features_of old l) → ((cell : Cell) → kept_at mid cell ≡ kept_at old cell)
        → ((l : ℕ) → features_of new l ≡ features_of mid l) → ((cell : Cell) → kept_at new cell ≡ kept_at mid cell) → KeepsSources old new
    put_keeps features kept features_too kept_too = record {
      features = λ l. features_too l ∙ features l;
      kept = λ cell. kept_too cell ∙ kept cell;
      source = λ l i. ap numberless (given l i) ∙ numberless_if (is_item layer item l i) number (source_of mid l i) ∙ ap numberless (left l i);
    }

    elsewhere : (l : ℕ) (i : CellItem) → is_item layer item l i ≡ false → source_of new l i ≡ source_of old l i
    elsewhere l i off = given l i ∙ ap (λ b. if b then slotted number (source_of mid l i) else source_of mid l i) off ∙ left l i

    pub put_numbers : (made : Sized) → slots (evaluator_of mid) ≡ slots (evaluator_of old) ++ made ∷ [] → evaluator_of new ≡ evaluator_of mid
        → KeepsNumbers slots layer old new
    put_numbers made put same = record {
      source = λ l i apart. elsewhere l i (false_from_ne_true (is_item layer item l i) (λ h. apart ((is_item_true layer l item i h).0)));
      expressions = (made ∷ [], ap slots same ∙ put);
    }

    pub put_renews : (e : CellExpression) (made : Sized) → number ≡ length (slots (evaluator_of old))
        → slots (evaluator_of mid) ≡ slots (evaluator_of old) ++ made ∷ [] → made ≡ sized_term e.term e.want → evaluator_of new ≡ evaluator_of mid
        → RenewsItem slots layer item (Some e) old new
    put_renews e made counted put sized same = record {
      own = λ had. (
        number,
        given layer item
            ∙ ap (λ b. if b then slotted number (source_of mid layer item) else source_of mid layer item) (is_item_same layer layer item item refl refl)
            ∙ ap (slotted number) (left layer item) ∙ sym (slotted_again number 0 (source_of old layer item)) ∙ ap (slotted number) had,
        ap (λ ev. slice_get (slots ev) number) same ∙ ap (λ xs. slice_get xs number) put
            ∙ ap (slice_get (slots (evaluator_of old) ++ made ∷ [])) counted ∙ get_new (slots (evaluator_of old)) made ∙ ap Some sized,
      );
      others = λ other apart.
          elsewhere layer other (false_from_ne_true (is_item layer item layer other) (λ h. apart ((is_item_true layer layer item other h).1)));
    }

  -- ---- one property after another, and the filter at last

  module _ (expressions : LayerExpressions) (old : Buckets E) where
    pub none_first : FirstAreRenewed slots layer 0 expressions old old
    none_first = λ had n h. absurd (omega (arith, h))

    module _ (count : ℕ) (a b : Buckets E) (first : FirstAreRenewed slots layer count expressions old a) (kept : KeepsSources old a)
        (numbers : KeepsNumbers slots layer a b) where
      stays : (n : ℕ) → source_of b layer (items.Property n) ≡ source_of a layer (items.Property n) → n < count → HasSources layer expressions old
          → IsSourced (slots (evaluator_of b)) (items.Property n) (expressions (items.Property n)) (source_of b layer (items.Property n))
      stays n same below had =
          subst (IsSourced (slots (evaluator_of b)) (items.Property n) (expressions (items.Property n))) (sym same)
          (sourced_longer (slots (evaluator_of a)) (slots (evaluator_of b)) (items.Property n) (expressions (items.Property n)) (source_of a layer (items.Property n))
          numbers.expressions (first had n below))

      pub first_renewed : RenewsItem slots layer (items.Property count) (expressions (items.Property count)) a b
          → FirstAreRenewed slots layer (count + 1) expressions old b
      first_renewed renews = λ had n h. by_place had n (below_or_last n count h) where
        by_place : HasSources layer expressions old → (n : ℕ) → (n ≡ count) ⊎ (n < count)
            → IsSourced (slots (evaluator_of b)) (items.Property n) (expressions (items.Property n)) (source_of b layer (items.Property n))
        by_place had n (inl same) =
            subst (λ k. IsSourced (slots (evaluator_of b)) (items.Property k) (expressions (items.Property k)) (source_of b layer (items.Property k))) (sym same)
            (renews.own (kept.source layer (items.Property count) ∙ had (items.Property count)))
        by_place had n (inr less) =
            stays n (renews.others (items.Property n) (λ same. let e = property_number count n same in absurd (omega (arith, e, less)))) less had

      pub all_renewed : RenewsItem slots layer items.Filter (expressions items.Filter) a b → KeepsSources a b
          → ((n : ℕ) → count ≤ n → expressions (items.Property n) ≡ None) → HasSources layer expressions old → HasExpressions slots layer expressions b
      all_renewed renews more past had items.Filter = renews.own (kept.source layer items.Filter ∙ had items.Filter)
      all_renewed renews more past had (items.Property n) = by_place (below_or_past n count) where
        by_place : (n < count) ⊎ (count ≤ n)
            → IsSourced (slots (evaluator_of b)) (items.Property n) (expressions (items.Property n)) (source_of b layer (items.Property n))
        by_place (inl below) = stays n (renews.others (items.Property n) (λ same. absurd (cc))) below had
        by_place (inr later) =
            subst (λ e. IsSourced (slots (evaluator_of b)) (items.Property n) e (source_of b layer (items.Property n))) (sym (past n later))
            (no_source (source_of b layer (items.Property n))
            (more.source layer (items.Property n) ∙ kept.source layer (items.Property n) ∙ had (items.Property n)
            ∙ ap (option_map (source_with 0 (items.Property n))) (past n later)))
