-- Parts that are gone through in a loop, and bytes past the end.
use Rattle.std.proofs.Common.{◌≡◌, ℕ, zero, suc, ◌<◌, List, [], ◌∷◌, refl, drop, length, arith}
use Rattle.decimal_json.specs.View.{trees, fields}
use Rattle.decimal_json.specs.declared.tree.Json.{Json}
use Rattle.decimal_json.specs.declared.tree.Member.{Member}
use Rattle.text_places.specs.Skipping.{after_items, after_members, after_more_items, after_more_members}

pub some_items : (js : List Json) (b : List ℕ) → 0 < length js → after_items (trees js) b ≡ after_more_items (trees js) b
some_items [] b h = absurd (omega arith)
some_items (j ∷ js) b h = refl

pub some_members : (ms : List Member) (b : List ℕ) → 0 < length ms → after_members (fields ms) b ≡ after_more_members (fields ms) b
some_members [] b h = absurd (omega arith)
some_members (m ∷ ms) b h = refl

pub drop_past : (n : ℕ) (b : List ℕ) → length b < n → drop n b ≡ []
drop_past zero b h = absurd (omega arith)
drop_past (suc n) [] h = refl
drop_past (suc n) (c ∷ b) h = drop_past n b (omega (arith, h))
