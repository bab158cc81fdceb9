-- What is reported of a layer, by the members that were found in it.
use Rattle.std.specs.Prelude.{◌≡◌, ℕ, List, [], ◌∷◌, Bool, true, false, ◌&&◌, ◌||◌, not, Option, Some, None, is_some, is_none, if◌then◌else◌}
use Rattle.std.proofs.Common.{refl, sym, ap, ◌∙◌}
use Rattle.std.proofs.lemmas.List.{append-nil}
use Rattle.decimal_json.specs.Tree.{Tree, object, Fields}
use Rattle.decimal_json.specs.declared.paths.PathPart.{PathPart}
use Rattle.style_rules.specs.CodeView.{MemberTrees}
use Rattle.style_rules.specs.Findings.{reports_or}
use Rattle.style_rules.specs.LayerContext.{LayerContext, context_of}
use Rattle.style_rules.specs.LayerParts.{parts_of, context_by_parts, layer_rule}
use Rattle.style_rules.specs.Levels.{fields_reports, member_reports, context_reports, layer_reports}
use Rattle.style_rules.specs.Places.{least_broken, layer_mark}
use Rattle.style_rules.specs.Rules.{is_on_vector}
use Rattle.style_rules.specs.declared.diagnostics.Mark.{Mark}
use Rattle.style_rules.specs.declared.diagnostics.Mark.TheVariants.{Nothing, Broken}
use Rattle.style_rules.specs.declared.diagnostics.Diagnostic.{Diagnostic}
use Rattle.style_rules.specs.declared.diagnostics.Diagnostic.TheVariants.{Finding}

abbrev rule_mark : Option ℕ → Mark
rule_mark (Some rule) = Broken [] rule
rule_mark None = Nothing

-- the least rule by tests of what is there and by tests of what is not
least : (id type source source_layer : Option Tree) (ref sources vector : Bool) →
    least_broken ((6, true) ∷ (7, is_some id) ∷ (9, is_some type && not ref) ∷ (10, not sources || is_some source) ∷ (12, not vector || is_some source_layer) ∷ [])
    ≡ rule_mark (if is_none id then Some 7 else if is_none type || ref then Some 9 else if sources && is_none source then Some 10 else if vector && is_none source_layer then Some 12 else None)
least None type source source_layer ref sources vector = refl
least (Some i) None source source_layer ref sources vector = refl
least (Some i) (Some t) source source_layer true sources vector = refl
least (Some i) (Some t) None source_layer false true vector = refl
least (Some i) (Some t) None None false false true = refl
least (Some i) (Some t) None (Some l) false false true = refl
least (Some i) (Some t) None source_layer false false false = refl
least (Some i) (Some t) (Some s) None false true true = refl
least (Some i) (Some t) (Some s) (Some l) false true true = refl
least (Some i) (Some t) (Some s) source_layer false true false = refl
least (Some i) (Some t) (Some s) None false false true = refl
least (Some i) (Some t) (Some s) (Some l) false false true = refl
least (Some i) (Some t) (Some s) source_layer false false false = refl

mark_by_parts : (context : LayerContext) (fs : Fields) → layer_mark context (object fs) ≡ rule_mark (layer_rule context (parts_of (object fs)))
mark_by_parts context fs =
    let p = parts_of (object fs) in
    least p.id p.layer_type p.source p.source_layer p.has_ref (is_some context.sources) (is_on_vector context)

module _ (sources : Option Fields) (used : List ℕ → Bool) (path : List PathPart) (fs : Fields) where
  abbrev by_rule : LayerContext → Option ℕ → List Diagnostic
  by_rule context rule = reports_or (rule_mark rule) path (fields_reports (member_reports context used path) fs)

  -- of a layer with this grounds and these parts, by the rule that was found
  reports_by_rule : (context : LayerContext) (p : MemberTrees) (rule : Option ℕ) → p ≡ parts_of (object fs) → context ≡ context_by_parts sources p → rule ≡ layer_rule context p → by_rule context rule ≡ layer_reports sources used path (object fs)
  reports_by_rule context p rule parts is found =
      let of_layer : context ≡ context_of sources (object fs) = is ∙ ap (context_by_parts sources) parts in
      ap (by_rule context) (found ∙ ap (layer_rule context) parts)
      ∙ (ap (λ m. reports_or m path (fields_reports (member_reports context used path) fs)) (sym (mark_by_parts context fs))
      ∙ ap (λ g. context_reports g used path (object fs)) of_layer)

  pub broken_layer : (context : LayerContext) (p : MemberTrees) (rule : ℕ) → p ≡ parts_of (object fs) → context ≡ context_by_parts sources p → Some rule ≡ layer_rule context p → Finding path rule ∷ [] ≡ layer_reports sources used path (object fs)
  broken_layer context p rule parts is found = ap (λ q. Finding q rule ∷ []) (sym (append-nil path)) ∙ reports_by_rule context p (Some rule) parts is found

  pub sound_layer : (context : LayerContext) (p : MemberTrees) → p ≡ parts_of (object fs) → context ≡ context_by_parts sources p → None ≡ layer_rule context p → fields_reports (member_reports context used path) fs ≡ layer_reports sources used path (object fs)
  sound_layer context p parts is found = reports_by_rule context p None parts is found
