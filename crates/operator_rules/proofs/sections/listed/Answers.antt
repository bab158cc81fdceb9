use Rattle.std.proofs.Common.{◌≡◌, ◌≤◌, ◌∙◌, ℕ, List, [], ◌∷◌, Ok, drop, length, refl, sym, ap}
use Rattle.std.proofs.Math.ListN.{drop_of_length-le}
use Rattle.prop_values.specs.Data.{Data, list, items_of}
use Rattle.prop_values.specs.ViewParts.{values_view}
use Rattle.prop_values.specs.declared.value.Value.{Value}
use Rattle.expr_syntax.specs.declared.parts.FormatPiece.{FormatPiece}
use Rattle.eval_face.specs.Sections.{Open, add_pieces, closed}
use Rattle.operator_rules.proofs.sections.listed.Goals.{then-loop-place-test+else-place-values, else-loop-place-test}
use Rattle.operator_rules.proofs.sections.listed.Goals as goal

no_values : (ps : List FormatPiece) (o : Open) → add_pieces ps [] o ≡ Ok o
no_values [] o = refl
no_values (p ∷ ps) o = refl

no_pieces : (ds : List Data) (o : Open) → add_pieces [] ds o ≡ Ok o
no_pieces [] o = refl
no_pieces (d ∷ ds) o = refl

values_done : (ps : List FormatPiece) (vs : List Value) (i : ℕ) (o : Open) → length vs ≤ i → add_pieces (drop i ps) (values_view (drop i vs)) o ≡ Ok o
values_done ps vs i o h = ap (λ xs. add_pieces (drop i ps) (values_view xs) o) (drop_of_length-le vs h) ∙ no_values (drop i ps) o

pieces_done : (ps : List FormatPiece) (vs : List Value) (i : ℕ) (o : Open) → length ps ≤ i → add_pieces (drop i ps) (values_view (drop i vs)) o ≡ Ok o
pieces_done ps vs i o h = ap (λ xs. add_pieces xs (values_view (drop i vs)) o) (drop_of_length-le ps h) ∙ no_pieces (values_view (drop i vs)) o

pub returns : goal.returns
returns c =
    let o : Open = (c.loop-place.sections, c.loop-place.current) in
    let done : add_pieces (drop c.loop-place.place c.args.pieces.now) (values_view (drop c.loop-place.place c.args.values.now)) o ≡ Ok o =
    elim c.loop-place-test.branch [
      | then-loop-place-test+else-place-values w ↦ values_done c.args.pieces.now c.args.values.now c.loop-place.place o w.if-place-values.false
      | else-loop-place-test w ↦ pieces_done c.args.pieces.now c.args.values.now c.loop-place.place o w.loop-place-test.false
    ]
    in
    ap closed (sym c.loop-place.invariant ∙ done) ∙ ap (λ xs. Ok (list (items_of xs))) (sym c.in_ok-push_section.ensures.ok)
