use Rattle.std.proofs.Common.{◌∙◌, [], ◌∷◌, ◌++◌, sym, ap, rules}
use Rattle.decimal_json.specs.View.{tree_of}
use Rattle.expr_syntax.proofs.BindingLaws.{name_kept, name_skipped}
use Rattle.expr_syntax.proofs.values.binding_names.Goals.{then-is_binder+in-Text+in_ok-share-in-Text+in_ok-push-in-Text, else-is_binder}
use Rattle.expr_syntax.proofs.values.binding_names.Goals as goal

pub loop-i-preserved : goal.loop-i-preserved
loop-i-preserved c = elim c.if-is_binder.branch [
  | then-is_binder+in-Text+in_ok-share-in-Text+in_ok-push-in-Text w ↦
      name_kept c.args.items.now c.loop-i.i c.index-items-i.result c.loop-i.names.items c.if-is_binder.names.items w.in-Text.name _
      c.loop-i-test.true c.index-items-i.is (sym w.if-is_binder.ensures) (ap tree_of w.in-Text.is) (cc)
      (ap (λ names. names.items) w.names-is ∙ (w.in_ok-push-in-Text.ensures.items ∙ ap (λ s. c.loop-i.names.items ++ s ∷ []) w.in_ok-share-in-Text.ensures.same)) c.loop-i.invariant
  | else-is_binder w ↦
      name_skipped c.args.items.now c.loop-i.i c.index-items-i.result c.if-is_binder.names.items _
      c.loop-i-test.true c.index-items-i.is (sym w.if-is_binder.ensures) (search rules)
]
