-- The laws of legacy functions, from what their terms mean.
use Rattle.std.proofs.Common.{◌≡◌, ◌∙◌, List, [], sym, subst}
use Rattle.std.specs.Prelude.{Some, None, Ok, Err}
use Rattle.property_tables.specs.Rows.{RowData}
use Rattle.expr_syntax.specs.Mentioned.{nothing, mentions}
use Rattle.expr_syntax.specs.Term.{Term}
use Rattle.expr_types.specs.Allowed.{row_allows, first_unread, first_stray_zoom}
use Rattle.expr_types.specs.Checked.{checked, allowed, unless_at}
use Rattle.expr_types.specs.Typing.{TypedNodes, Typed, typed}
use Rattle.expr_types.specs.Visits.{Visit, visits}
use Rattle.expr_types.specs.declared.fault.TypeCode.TheVariants as codes
use Rattle.expr_types.specs.declared.standing.Standing.TheVariants.{Reached}
use Rattle.legacy_functions.specs.Meaning.{value_of}
use Rattle.legacy_functions.specs.ToExpression.{function_expression}
use Rattle.legacy_functions.specs.Tokens.{has_tokens, token_expression}
use Rattle.legacy_functions.proofs.SoundFunctions.{read_is_sound}
use Rattle.legacy_laws.specs.LegacyFunctionLaw.{GivesAlways, ExpressionsMeanTheirFunctions, function_mentions}
use Rattle.legacy_laws.specs.LegacyFunctionLaw.{MigratedFunctionsAreTyped, MigratedTokenTextsAreTyped}
use Rattle.legacy_laws.specs.LegacyFunctionLaw.{MigratedFunctionsMentionTheSame, MigratedTokenTextsMentionTheFeature}
use Rattle.legacy_laws.specs.LegacyFunctionLaw.{MigratedFunctionsUseNoGlobals, MigratedTokenTextsUseNoGlobals}
use Rattle.legacy_laws.proofs.FilterReading.{globals_nowhere}
use Rattle.legacy_laws.proofs.FunctionTerms.{default_term, function_term, token_term}
use Rattle.legacy_laws.proofs.TableRows.{table_rows}
use Rattle.legacy_laws.proofs.TokenLaws.{reads_always, read_tokens}
use Rattle.legacy_laws.proofs.FunctionReads.{read_function}
use Rattle.legacy_laws.proofs.FunctionMeaning.{function_given}
use Rattle.legacy_laws.proofs.LiteralTyping.{IsOk, IsTypedUnder}
use Rattle.legacy_laws.proofs.NodeTyping.{text_wanted, tokens_typed}
use Rattle.legacy_laws.proofs.FunctionTyping.{body_typed}
use Rattle.legacy_laws.proofs.FunctionProperties.{read_goes}
use Rattle.legacy_laws.proofs.FunctionMentions.{default_still, tokens_mention, body_mentions}
use Rattle.legacy_laws.proofs.FunctionInputs.{IsAtRoot, default_calm, body_at_root, tokens_calm, calm_at_root}

pub expressions_mean : ExpressionsMeanTheirFunctions
expressions_mean row t f of_table read =
    let regular = table_rows row of_table in
    let sound = read_is_sound row t f read in
    let says : GivesAlways (function_term row f) row.want (value_of row f) =
    λ zoom feature state images scripts. function_given zoom feature state images scripts row regular f sound in
    (function_term row f, reads_always (function_expression row f) (function_term row f) (read_function row regular f sound), says)

-- ---- types

abbrev IsChecked : RowData → Term → Type 0
IsChecked row e = (found : TypedNodes) × (checked e row.want (Some row) ≡ Ok found)

checked_by : (row : RowData) (vs : List Visit) (r : Typed) → IsOk r → first_unread (row_allows row) vs ≡ None
    → first_stray_zoom vs ≡ None → (found : TypedNodes) × (allowed (Some row) vs r ≡ Ok found)
checked_by row vs (Ok found) h unread stray =
    (found, λ i. unless_at (unread i) codes.Input (unless_at (stray i) codes.ZoomPlace (Ok found)))
checked_by row vs (Err f) h unread stray = absurd h

checked_at_root : (row : RowData) (e : Term) → IsTypedUnder row.want e → IsAtRoot row e → IsChecked row e
checked_at_root row e h k =
    checked_by row (visits e Reached []) (typed e row.want [] []) (h [] []) (k.keeps Reached []) (k.stray [])

pub migrated_functions : MigratedFunctionsAreTyped
migrated_functions row t f of_table read allowed_on e values is =
    let regular = table_rows row of_table in
    let sound = read_is_sound row t f read in
    let x = function_term row f in
    let reads = reads_always (function_expression row f) x (read_function row regular f sound) values in
    let same_reading : Ok (Some x) ≡ Ok (Some e) = sym reads ∙ is in
    let same : x ≡ e = cc in
    let well = body_typed row regular f.property f.fallback sound.fallback f.body sound.body in
    let default = default_calm row regular.tokens f.fallback sound.fallback in
    let rooted = body_at_root row regular.tokens f.property (default_term f.fallback row) default allowed_on.feature f.body
    allowed_on.zoom sound.body in
    subst (IsChecked row) same (checked_at_root row x well rooted)

pub migrated_token_texts : MigratedTokenTextsAreTyped
migrated_token_texts row s of_table takes e values is =
    let regular = table_rows row of_table in
    let x = token_term s in
    let reads = reads_always (token_expression s) x (read_tokens s) values in
    let same_reading : Ok (Some x) ≡ Ok (Some e) = sym reads ∙ is in
    let same : x ≡ e = cc in
    let well = tokens_typed row.want s (text_wanted row.want (regular.texts takes)) in
    subst (IsChecked row) same
    (checked_at_root row x well (calm_at_root row x (tokens_calm row s (regular.tokens takes))))

-- ---- what is read of the world

pub functions_mention : MigratedFunctionsMentionTheSame
functions_mention row t f of_table read e values is =
    let sound = read_is_sound row t f read in
    let x = function_term row f in
    let reads = reads_always (function_expression row f) x (read_function row (table_rows row of_table) f sound) values in
    let same_reading : Ok (Some x) ≡ Ok (Some e) = sym reads ∙ is in
    let same : x ≡ e = cc in
    let default = default_still f.fallback row in
    subst (λ y. mentions y ≡ function_mentions row f) same
    (body_mentions (default_term f.fallback row) default row f.property f.body sound.body (read_goes row t f read))

pub token_texts_mention : MigratedTokenTextsMentionTheFeature
token_texts_mention s e values is =
    let x = token_term s in
    let reads = reads_always (token_expression s) x (read_tokens s) values in
    let same_reading : Ok (Some x) ≡ Ok (Some e) = sym reads ∙ is in
    let same : x ≡ e = cc in
    subst (λ y. mentions y ≡ record nothing { feature = has_tokens s }) same (tokens_mention s)

pub functions_use_no_globals : MigratedFunctionsUseNoGlobals
functions_use_no_globals row t f of_table read =
    globals_nowhere (function_expression row f) (read_function row (table_rows row of_table) f (read_is_sound row t f read)).inside

pub token_texts_use_no_globals : MigratedTokenTextsUseNoGlobals
token_texts_use_no_globals s = globals_nowhere (token_expression s) (read_tokens s).inside
