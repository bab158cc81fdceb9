-- A run of `value` that ends in Found gave a fault, which was listed.
use Rattle.std.specs.Prelude.{◌≡◌, ℕ, List, [], Bool, Option, Some, None, Result, Ok, Err}
use Rattle.std.proofs.Common.{refl, sym, ap, subst, ◌∙◌, inl, inr}
use Rattle.json_tokens.specs.Rules.{all_rules}
use Rattle.decimal_json.specs.Grammar.{Spells}
use Rattle.decimal_json.specs.Tree.{Tree}
use Rattle.prop_values.specs.Data.{Data}
use Rattle.prop_values.specs.declared.fault.EvalFault.{EvalFault}
use Rattle.prop_values.specs.declared.kinds.Want.TheVariants.{Any}
use Rattle.expr_syntax.proofs.ReadTermLaws.{read_terms_are_sound}
use Rattle.expr_syntax.specs.Reading.{Reading, reading}
use Rattle.expr_syntax.specs.Term.{Term}
use Rattle.expr_types.specs.Checked.{checked_free}
use Rattle.expr_types.specs.Typing.{Typed}
use Rattle.eval_face.specs.Meaning.{mean}
use Rattle.typing_laws.specs.TypingLaws.{EveryFaultIsListed}
use Rattle.program_runs.specs.declared.status.Status.{Status}
use Rattle.program_runs.specs.declared.status.Status.TheVariants as status
use Rattle.program_runs.specs.Ending.{status_of}
use Rattle.program_runs.specs.Outcome.{RunOutcome}
use Rattle.program_runs.specs.Runs.{HasOutcome}
use Rattle.style_program.specs.Commands.{asked_run}
use Rattle.style_program.specs.ListedFaults.{GivesListedFault, ListsItsFault}
use Rattle.style_program.specs.ValueRun.{value_world, value_outcome, typed_outcome, expression_outcome}
use Rattle.style_program.specs.Words as words

-- an outcome that ends in Found
abbrev EndsFound : RunOutcome → Type 0
EndsFound o = status_of o.ending ≡ status.Found

module _ (every_fault_is_listed : EveryFaultIsListed) (images scripts : List ℕ → Bool) (expression : List ℕ) (t : Tree) (spelled : Spells all_rules expression t) where
  abbrev Lists : Type 0
  Lists = GivesListedFault images scripts expression

  found_fault : (e : Term) → reading t ≡ Ok (Some e) → (typed : Typed) → checked_free e ≡ typed → EndsFound (typed_outcome images scripts e typed) → (given : Result Data EvalFault) → mean e Any [] (value_world images scripts) ≡ given → Lists
  found_fault e read (Err fault) is ends given gives = absurd (cc)
  found_fault e read (Ok found) is ends (Ok d) gives = absurd (let shown = ap (λ r. status_of (value_outcome r).ending) gives in cc)
  found_fault e read (Ok found) is ends (Err fault) gives = record {
    tree = t;
    spelled = spelled;
    term = e;
    read = read;
    found = found;
    typed = is;
    fault = fault;
    given = gives;
    listed = every_fault_is_listed e Any (value_world images scripts) found fault (read_terms_are_sound t [] e read, is) gives;
  }

  found_reading : (r : Reading) → reading t ≡ r → EndsFound (expression_outcome images scripts r) → Lists
  found_reading (Ok (Some e)) read ends = found_fault e read (checked_free e) refl ends (mean e Any [] (value_world images scripts)) refl
  found_reading (Ok None) read ends = absurd (cc)
  found_reading (Err fault) read ends = absurd (cc)

module _ (law : EveryFaultIsListed) (files : List ℕ → Option (List ℕ)) (images scripts : List ℕ → Bool) (can_change : Bool) where
  found_asked : (ask : words.Asked) (before after : List (List ℕ)) (o : RunOutcome) → HasOutcome files (asked_run images scripts can_change ask) before after o → EndsFound o → ListsItsFault images scripts ask
  found_asked (words.Value expression) before after o (inl (t, spelled, is)) ends = found_reading law images scripts expression t spelled (reading t) refl (sym (ap (λ p. status_of p.ending) is.0) ∙ ends)
  found_asked (words.Value expression) before after o (inr (kind, at, none, place, cause, is, same)) ends = absurd (let refused = ap (λ p. status_of p.ending) is in cc)
  found_asked (words.Validate style) before after o defined ends = tt
  found_asked (words.Lint form styles) before after o defined ends = tt
  found_asked (words.Migrate style) before after o defined ends = tt
  found_asked (words.Simplify style) before after o defined ends = tt
  found_asked (words.Eval w) before after o defined ends = tt
  found_asked (words.Script kind w) before after o defined ends = tt
  found_asked (words.Tile tile) before after o defined ends = tt
  found_asked (words.Generate features) before after o defined ends = tt
  found_asked words.Help before after o defined ends = tt
  found_asked words.Version before after o defined ends = tt
  found_asked words.Wrong before after o defined ends = tt

  -- of an answer to what the words ask for
  pub found_is_listed : (ws : List (List ℕ)) (ask : words.Asked) (before after : List (List ℕ)) (o : RunOutcome) (answer : Status) → ask ≡ words.asked ws → HasOutcome files (asked_run images scripts can_change ask) before after o → answer ≡ status_of o.ending → answer ≡ status.Found → ListsItsFault images scripts (words.asked ws)
  found_is_listed ws ask before after o answer of_words defined is ends = subst (λ a. ListsItsFault images scripts a) of_words (found_asked ask before after o defined (sym is ∙ ends))
