-- What the term of a filter mentions: the feature where the filter asks for it, and nothing else.
use Rattle.std.proofs.Common.{◌≡◌, ◌∙◌, ℕ, List, refl, ap, true, false}
use Rattle.std.specs.Prelude.{Bool, codes}
use Rattle.prop_values.specs.Data.{Data, number, text}
use Rattle.expr_syntax.specs.declared.world_parts.Mentions.{Mentions}
use Rattle.expr_syntax.specs.Mentioned.{nothing, either, mentions, all_mentions}
use Rattle.expr_syntax.specs.Term.{Term, terms_of}
use Rattle.legacy_filters.specs.declared.filter.Group.TheVariants as groups
use Rattle.legacy_filters.specs.declared.filter.Key.{Key}
use Rattle.legacy_filters.specs.declared.filter.Key.TheVariants.{Shape, Id, Property}
use Rattle.legacy_filters.specs.declared.filter.Order.{Order}
use Rattle.legacy_filters.specs.declared.filter.Order.TheVariants.{Below, AtMost, Above, AtLeast}
use Rattle.legacy_filters.specs.declared.filter.Test.{Test}
use Rattle.legacy_filters.specs.declared.filter.Test.TheVariants.{Has, HasNot, Equal, NotEqual, Ordered, Among, NotAmong}
use Rattle.legacy_filters.specs.declared.scalars.Scalar.{Scalar}
use Rattle.legacy_filters.specs.declared.scalars.Scalar.TheVariants.{Flag, Number, Text}
use Rattle.legacy_filters.specs.AskedParts.{may_be_missing, is_order_of, test_asks_feature, asks_feature, some_asks_feature}
use Rattle.legacy_filters.specs.Filter.{Filter, flag, test, group, Filters, no_filters, filter}
use Rattle.legacy_laws.proofs.FilterTerms.{value_term, has_term, guarded_term, order_term, test_term, filter_term, filter_terms}

abbrev seen : Bool → Mentions
seen feature = record nothing { feature = feature }

-- ---- tests

value_mentions : (key : Key) → mentions (value_term key) ≡ seen true
value_mentions Shape = refl
value_mentions Id = refl
value_mentions (Property name) = refl

has_mentions : (key : Key) → mentions (has_term key) ≡ seen (may_be_missing key)
has_mentions Shape = refl
has_mentions Id = refl
has_mentions (Property name) = refl

has_not_mentions : (key : Key) → mentions (test_term key HasNot) ≡ seen (may_be_missing key)
has_not_mentions Shape = refl
has_not_mentions Id = refl
has_not_mentions (Property name) = refl

-- what a node mentions of two arguments, of which the second is a literal
abbrev of_first : Mentions → Mentions
of_first m = either nothing (either m (either nothing nothing))

abbrev of_guarded : Mentions → Mentions
of_guarded m = either nothing (either (of_first (either nothing (either m nothing))) (either (of_first m) nothing))

guarded_mentions : (order : Order) (kind : List ℕ) (value : Term) (d : Data) → mentions value ≡ seen true
    → mentions (guarded_term order kind value d) ≡ seen true
guarded_mentions Below kind value d h = ap of_guarded h
guarded_mentions AtMost kind value d h = ap of_guarded h
guarded_mentions Above kind value d h = ap of_guarded h
guarded_mentions AtLeast kind value d h = ap of_guarded h

order_mentions : (order : Order) (key : Key) (v : Scalar) → mentions (order_term order key v) ≡ seen (is_order_of v)
order_mentions order key (Flag b) = refl
order_mentions order key (Number n z) = guarded_mentions order (codes "number") (value_term key) (number z) (value_mentions key)
order_mentions order key (Text s) = guarded_mentions order (codes "string") (value_term key) (text s) (value_mentions key)

test_mentions : (key : Key) (t : Test) → mentions (test_term key t) ≡ seen (test_asks_feature key t)
test_mentions key Has = has_mentions key
test_mentions key HasNot = has_not_mentions key
test_mentions key (Equal v) = ap of_first (value_mentions key)
test_mentions key (NotEqual v) = ap of_first (value_mentions key)
test_mentions key (Ordered order v) = order_mentions order key v
test_mentions key (Among vs) = ap of_first (value_mentions key)
test_mentions key (NotAmong vs) = ap (λ m. either nothing (either (of_first m) nothing)) (value_mentions key)

-- ---- groups

negated : (b : Bool) → either nothing (either (seen b) nothing) ≡ seen b
negated true = refl
negated false = refl

mutual
  pub filter_mentions : (f : Filter) → mentions (filter_term f) ≡ seen (asks_feature f)
  filter_mentions (flag b) = refl
  filter_mentions (test key t) = test_mentions key t
  filter_mentions (group groups.All fs) = all_mention fs
  filter_mentions (group groups.Any fs) = all_mention fs
  filter_mentions (group groups.None fs) =
      ap (λ m. either nothing (either m nothing)) (all_mention fs) ∙ negated (some_asks_feature fs)

  all_mention : (fs : Filters) → all_mentions (terms_of (filter_terms fs)) ≡ seen (some_asks_feature fs)
  all_mention no_filters = refl
  all_mention (filter f fs) = let one = filter_mentions f in let others = all_mention fs in λ i. either (one i) (others i)
