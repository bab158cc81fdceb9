-- Simplification is done once: a second time may do more. Source: own.
use Rattle.std.specs.Prelude.{◌≡◌}
use Rattle.decimal_json.specs.Tree.{Tree}
use Rattle.style_simplify.specs.SimplifiedStyle.{simplified}

-- Some document is changed again when its simplified form is simplified.
abbrev pub SimplifyingTwiceMayDoMore : Type 0
SimplifyingTwiceMayDoMore = (document : Tree) × (simplified (simplified document) ≡ simplified document → ⊥)
