-- Two worlds that agree on what an expression mentions give it one meaning.
use Rattle.std.specs.Prelude.{◌≡◌, ℕ, List, true}
use Rattle.prop_values.specs.declared.kinds.Want.{Want}
use Rattle.expr_syntax.specs.declared.world_parts.Mentions.{Mentions}
use Rattle.expr_syntax.specs.Mentioned.{mentions}
use Rattle.expr_syntax.specs.Term.{Term}
use Rattle.eval_face.specs.Meaning.{mean}
use Rattle.eval_face.specs.Names.{BoundOutcomes}
use Rattle.eval_face.specs.World.{World}

-- The worlds agree on each part, where it is mentioned, and have one test of scripts. Source: own.
pub record AgreeOn (m : Mentions) (v w : World) : Type 0 where
  pub zoom : m.zoom ≡ true → v.zoom ≡ w.zoom
  pub feature : m.feature ≡ true → (v.shape ≡ w.shape) × (v.id ≡ w.id) × (v.properties ≡ w.properties)
  pub state : m.state ≡ true → v.state ≡ w.state
  pub image : m.image ≡ true → (s : List ℕ) → v.has_image s ≡ w.has_image s
  pub script : (s : List ℕ) → v.is_supported s ≡ w.is_supported s

abbrev pub AgreeingWorldsGiveOneMeaning : Type 0
AgreeingWorldsGiveOneMeaning =
    (t : Term) (want : Want) (names : BoundOutcomes) (v w : World) → AgreeOn (mentions t) v w →
    mean t want names v ≡ mean t want names w
