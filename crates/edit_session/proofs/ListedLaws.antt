-- A listing of a session, by what is kept.
use Rattle.std.proofs.Common.{◌≡◌, ◌∙◌, ℕ, ◌+◌, ◌≤◌, List, sym, subst, Bool}
use Rattle.decimal_json.specs.Tree.{Tree}
use Rattle.edit_script.specs.Edit.{list}
use Rattle.kept_layers.specs.Changes.{HaveListed, IsCounted}
use Rattle.kept_layers.specs.KeptLayers.{evaluations_of, kept_after, nodes_of}
use Rattle.kept_layers.specs.View.{AreNumbered, HoldsLayers, IsRightIn, globals_in, kept_seen, tiles_in, trees_in}
use Rattle.kept_layers.specs.declared.kept_layers.KeptLayers.{KeptLayers}
use Rattle.kept_layers.specs.declared.style_layers.StyleLayers.{StyleLayers}
use Rattle.prop_values.specs.Data.{Data}
use Rattle.style_edits.specs.Layers.{layer_list}
use Rattle.style_layout.specs.Shown.{SourceTile}
use Rattle.edit_session.specs.Applied.{least_steps, listed_after, most_steps}
use Rattle.edit_session.specs.SessionState.{SessionState, scene_of}
use Rattle.edit_session.specs.View.{IsKept, slots_of}

-- tiles, values of the global state and layers
abbrev pub Parts : Type 0
Parts = List SourceTile × (List (List ℕ × Data) × List Tree)

-- a style that is shown is that of a session
module _ (tiles : List SourceTile) (scripts : List ℕ → Bool) (p : SessionState) (style : StyleLayers)
    (layers : trees_in style ≡ layer_list p.document) (values : globals_in style ≡ p.globals)
    (over : tiles_in style ≡ tiles) where
  parts : ◌≡◌ {A = Parts} (tiles_in style, (globals_in style, trees_in style)) (tiles, (p.globals, layer_list p.document))
  parts = λ k. (over k, (values k, layers k))

  pub kept_in : (kept : KeptLayers) → IsKept tiles scripts p kept
      → HoldsLayers slots_of (tiles_in style) (globals_in style) (trees_in style) kept
      × IsRightIn slots_of (tiles_in style) (globals_in style) (scene_of scripts p) (trees_in style) kept
  kept_in kept k =
      subst (λ (x : Parts). HoldsLayers slots_of x.0 x.1.0 x.1.1 kept × IsRightIn slots_of x.0 x.1.0 (scene_of scripts p) x.1.1 kept)
      (sym parts) (k.holds, k.right)

  pub kept_from : (kept : KeptLayers) → AreNumbered kept
      → HoldsLayers slots_of (tiles_in style) (globals_in style) (trees_in style) kept
      → IsRightIn slots_of (tiles_in style) (globals_in style) (scene_of scripts p) (trees_in style) kept
      → IsKept tiles scripts p kept
  kept_from kept numbered holds right =
      let both = subst (λ (x : Parts). HoldsLayers slots_of x.0 x.1.0 x.1.1 kept × IsRightIn slots_of x.0 x.1.0 (scene_of scripts p) x.1.1 kept)
      parts (holds, right) in
      record { numbered = numbered; holds = both.0; right = both.1 }

  module _ (old new : KeptLayers) (seen : kept_seen old ≡ p.kept) where
    abbrev pub HasListed : Type 0
    HasListed = HaveListed slots_of (scene_of scripts p) (tiles_in style) (globals_in style) (trees_in style) old new

    abbrev pub Counted : (n before after : ℕ) → Type 0
    Counted = IsCounted (scene_of scripts p) (tiles_in style) (globals_in style) (trees_in style) (kept_seen old)

    pub listed_kept : HasListed → kept_seen new ≡ (listed_after tiles scripts p).kept
    listed_kept h =
        h.kept ∙ (λ k. kept_after (scene_of scripts p) (parts k).0 (parts k).1.0 (parts k).1.1 (seen k))

    pub listed_last : (n before after : ℕ) → Counted n before after → n ≡ (listed_after tiles scripts p).last
    listed_last n before after h =
        h.evaluated ∙ (λ k. evaluations_of (scene_of scripts p) (parts k).0 (parts k).1.0 (parts k).1.1 (seen k))

    pub listed_is_kept : HasListed → AreNumbered new → IsKept tiles scripts (listed_after tiles scripts p) new
    listed_is_kept h numbered =
        let kept = kept_from new numbered h.holds h.right in
        record { numbered = kept.numbered; holds = kept.holds; right = kept.right }

    pub least_listed : (n before after : ℕ) → Counted n before after → before + least_steps tiles scripts p list ≤ after
    least_listed n before after h = subst (λ m. before + m ≤ after) (listed_last n before after h) h.least

    pub most_listed : (before after : ℕ)
        → after ≤ before + nodes_of (scene_of scripts p) (tiles_in style) (globals_in style) (trees_in style) (kept_seen old)
        → after ≤ before + most_steps tiles scripts p list
    most_listed before after most =
        subst (λ m. after ≤ before + m)
        (λ k. nodes_of (scene_of scripts p) (parts k).0 (parts k).1.0 (parts k).1.1 (seen k)) most
