-- The zoom of a scene, as clauses see it.
use Rattle.std.proofs.Common.{◌≡◌, refl}
use Rattle.style_layout.specs.CodeView.{scene_seen}
use Rattle.style_layout.specs.Tests.{Tests}
use Rattle.style_layout.specs.declared.scene.Scene.{Scene}

pub scene_zoom : {V : Type 0} (tests : V → Tests) (s : Scene V) → (scene_seen tests s).zoom ≡ s.zoom
unfolding scene_seen
scene_zoom tests s = refl
