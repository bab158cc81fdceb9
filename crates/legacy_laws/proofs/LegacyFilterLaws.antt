-- The laws of the expressions of legacy filters.
use Rattle.std.proofs.Common.{◌≡◌, ◌∙◌, refl, sym, ap, subst, true, false}
use Rattle.std.specs.Prelude.{Bool, Some, Ok, Err, if◌then◌else◌}
use Rattle.decimal_json.specs.Tree.{Tree}
use Rattle.expr_syntax.specs.Mentioned.{nothing, mentions}
use Rattle.legacy_filters.specs.AskedParts.{asks_feature}
use Rattle.legacy_filters.specs.Form.{FilterRead, reading}
use Rattle.legacy_filters.specs.Laws.{NoExpressionIsLegacy}
use Rattle.legacy_filters.specs.Split.{is_legacy}
use Rattle.legacy_filters.specs.ToExpression.{expression}
use Rattle.legacy_laws.specs.LegacyFilterLaw.{SaysTheSame, ExpressionsMeanTheirFilters, MigratedFiltersAreTyped}
use Rattle.legacy_filters.specs.Migrated.{expression_or_itself, migrated_filter}
use Rattle.legacy_laws.specs.LegacyFilterLaw.{MigratedFiltersMentionTheFeature, MigratedFiltersUseNoGlobals}
use Rattle.legacy_laws.specs.LegacyFilterLaw.{MigratedFiltersStay, has_order}
use Rattle.legacy_laws.proofs.FilterTerms.{filter_term}
use Rattle.legacy_laws.proofs.SoundFilters.{read_is_sound}
use Rattle.legacy_laws.proofs.FilterReading.{filter_reading, globals_nowhere, read_filter}
use Rattle.legacy_laws.proofs.FilterMeaning.{filter_given}
use Rattle.legacy_laws.proofs.FilterTyping.{IsCheckedAs, filter_checked}
use Rattle.legacy_laws.proofs.FilterMentions.{filter_mentions}

pub expressions_mean : ExpressionsMeanTheirFilters
expressions_mean t f read =
    let says : SaysTheSame (filter_term f) f =
    λ zoom feature state images scripts. filter_given zoom feature state images scripts f in
    (filter_term f, filter_reading f (read_is_sound t f read), says)

pub migrated_filters : MigratedFiltersAreTyped
migrated_filters t f read e values is =
    let sound = read_is_sound t f read in
    let reads : Ok (Some (filter_term f)) ≡ Ok (Some e) = sym (filter_reading f sound values) ∙ is in
    let one : filter_term f ≡ e = cc in
    subst (IsCheckedAs (has_order f)) one (filter_checked f sound)

-- ---- what is read of the world

pub filters_mention : MigratedFiltersMentionTheFeature
filters_mention t f read e values is =
    let reads : Ok (Some (filter_term f)) ≡ Ok (Some e) = sym (filter_reading f (read_is_sound t f read) values) ∙ is in
    let one : filter_term f ≡ e = cc in
    subst (λ x. mentions x ≡ record nothing { feature = asks_feature f }) one (filter_mentions f)

pub filters_use_no_globals : MigratedFiltersUseNoGlobals
filters_use_no_globals t f read = globals_nowhere (expression f) (read_filter f (read_is_sound t f read)).inside

-- ---- migrating again

stays_where : NoExpressionIsLegacy → (t : Tree) (b : Bool) (r : FilterRead) → is_legacy t ≡ b → reading t ≡ r
    → migrated_filter (if b then expression_or_itself r t else t) ≡ (if b then expression_or_itself r t else t)
stays_where h t false r p q = ap (λ b. if b then expression_or_itself (reading t) t else t) p
stays_where h t true (Ok f) p q =
    let e = expression f in
    ap (λ b. if b then expression_or_itself (reading e) e else e) (h t f q)
stays_where h t true (Err fault) p q =
    ap (λ b. if b then expression_or_itself (reading t) t else t) p ∙ ap (λ r. expression_or_itself r t) q

pub migrated_filters_stay : NoExpressionIsLegacy → MigratedFiltersStay
migrated_filters_stay h t = stays_where h t (is_legacy t) (reading t) refl refl
