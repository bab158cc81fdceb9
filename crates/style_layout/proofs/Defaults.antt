-- The default of a name among those of a document.
use Rattle.std.proofs.Common.{◌≡◌, ℕ, List, [], ◌∷◌, refl, ap, sym, ◌∙◌, subst, Bool, true, false}
use Rattle.std.specs.Prelude.{Option, Some, None, if◌then◌else◌}
use Rattle.std.specs.Option.{option_and_then, option_or}
use Rattle.std.proofs.lemmas.Bool.{cond-false}
use Rattle.decimal_json.specs.Sound.{LacksKey, HasDistinctKeys}
use Rattle.decimal_json.specs.Tree.{Tree, fields_of, field_at}
use Rattle.prop_values.specs.Data.{Data, pairs_of}
use Rattle.prop_values.specs.Equality.{same_text, at_key}
use Rattle.prop_values.proofs.ChangeLaws.{at_member}
use Rattle.prop_values.proofs.KeyLaws.{same_texts, texts_differ}
use Rattle.style_layout.specs.Globals.{with_default, with_defaults, default_in}

or_none : (x : Option Data) → option_or x None ≡ x
or_none (Some d) = refl
or_none None = refl

either : (same : Bool) (x : Option Data) → x ≡ (if same then x else x)
either true x = refl
either false x = refl

at_default : (key : List ℕ) (o : Option Data) (ps : List (List ℕ × Data)) (q : List ℕ) → at_key q (pairs_of (with_default key o ps)) ≡ (if same_text key q then option_or o (at_key q (pairs_of ps)) else at_key q (pairs_of ps))
at_default key (Some d) ps q = at_member key d ps q
at_default key None ps q = either (same_text key q) (at_key q (pairs_of ps))

lacking_field : (q : List ℕ) (ms : List (List ℕ × Tree)) → LacksKey q ms → field_at q (fields_of ms) ≡ None
lacking_field q [] h = refl
lacking_field q (m ∷ ms) h = cond-false (same_text m.0 q) (Some m.1) (field_at q (fields_of ms)) (texts_differ m.0 q h.0) ∙ lacking_field q ms h.1

default_step : (t : Tree) (later : Option Tree) (old : Option Data) (same : Bool) → (same ≡ true → later ≡ None) → option_or (option_and_then default_in later) (if same then option_or (default_in t) old else old) ≡ option_or (option_and_then default_in (if same then Some t else later)) old
default_step t later old true h = ap (λ x. option_or (option_and_then default_in x) (option_or (default_in t) old)) (h refl)
default_step t later old false h = refl

default_at : (ps : List (List ℕ × Data)) (ms : List (List ℕ × Tree)) (q : List ℕ) → HasDistinctKeys ms → at_key q (pairs_of (with_defaults ps (fields_of ms))) ≡ option_or (option_and_then default_in (field_at q (fields_of ms))) (at_key q (pairs_of ps))
default_at ps [] q h = refl
default_at ps (m ∷ ms) q h =
    default_at (with_default m.0 (default_in m.1) ps) ms q h.1 ∙
    (ap (option_or (option_and_then default_in (field_at q (fields_of ms)))) (at_default m.0 (default_in m.1) ps q) ∙
    default_step m.1 (field_at q (fields_of ms)) (at_key q (pairs_of ps)) (same_text m.0 q) (λ e. lacking_field q ms (subst (λ k. LacksKey k ms) (same_texts m.0 q e) h.0)))

-- A name with a member has its default.
pub default_found : (ms : List (List ℕ × Tree)) (q : List ℕ) (t : Tree) → HasDistinctKeys ms → Some t ≡ field_at q (fields_of ms) → default_in t ≡ at_key q (pairs_of (with_defaults [] (fields_of ms)))
default_found ms q t h e = sym (default_at [] ms q h ∙ (or_none (option_and_then default_in (field_at q (fields_of ms))) ∙ ap (option_and_then default_in) (sym e)))

-- A name without one has none.
pub default_lacking : (ms : List (List ℕ × Tree)) (q : List ℕ) → HasDistinctKeys ms → None ≡ field_at q (fields_of ms) → None ≡ at_key q (pairs_of (with_defaults [] (fields_of ms)))
default_lacking ms q h e = sym (default_at [] ms q h ∙ (or_none (option_and_then default_in (field_at q (fields_of ms))) ∙ ap (option_and_then default_in) (sym e)))
