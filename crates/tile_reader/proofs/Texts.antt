-- Bytes are a text or are refused.
use Rattle.std.proofs.Common.{◌≡◌, ℕ, List, refl, sym, ap, ◌∙◌, Bool, true, false}
use Rattle.std.specs.Prelude.{Ok, Err, if◌then◌else◌}
use Rattle.std.specs.Str.{IsUtf8, is_utf8}
use Rattle.std.proofs.lemmas.Str.{is_utf8-from_IsUtf8, IsUtf8-from_is_utf8}
use Rattle.tile_reader.specs.declared.fault.TileKind.TheVariants.{Utf8}
use Rattle.tile_reader.specs.Read.{refused, text_of}

pub text_accepted : (at : ℕ) (b s : List ℕ) → s ≡ b → IsUtf8 b → text_of at b ≡ Ok s
text_accepted at b s same utf8 = ap (λ (t : Bool). if t then Ok b else refused Utf8 at) (is_utf8-from_IsUtf8 b utf8) ∙ ap Ok (sym same)

not_true : (t : Bool) → (t ≡ true → ⊥) → t ≡ false
not_true true untrue = absurd (untrue refl)
not_true false untrue = refl

pub text_refused : (at : ℕ) (b : List ℕ) → (IsUtf8 b → ⊥) → text_of at b ≡ Err (record { kind = Utf8; at = at })
text_refused at b untrue = ap (λ (t : Bool). if t then Ok b else refused Utf8 at) (not_true (is_utf8 b) (λ e. untrue (IsUtf8-from_is_utf8 b e)))
