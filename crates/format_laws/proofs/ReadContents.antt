-- What is read from the text of a `format`.
use Rattle.std.proofs.Common.{◌≡◌, ◌∙◌, ℕ, ◌+◌, List, [], ◌∷◌, length, refl, ap, sym, subst}
use Rattle.std.specs.Prelude.{Option, Some, None, Result, Ok, Err}
use Rattle.std.specs.List.{slice_get}
use Rattle.prop_values.specs.Data.{Data, text}
use Rattle.prop_values.specs.ValueText.{shown_text}
use Rattle.prop_values.specs.declared.fault.EvalFault.{EvalFault}
use Rattle.prop_values.specs.declared.kinds.Want.{Want}
use Rattle.prop_values.specs.declared.kinds.Want.TheVariants as wants
use Rattle.property_tables.specs.Fitting.{fit}
use Rattle.expr_syntax.specs.Operators.{want_of, piece_wanted}
use Rattle.expr_syntax.specs.Term.{node}
use Rattle.expr_syntax.specs.declared.expression.Operator.TheVariants.{Format}
use Rattle.expr_syntax.specs.declared.parts.FormatPiece.{FormatPiece}
use Rattle.format_text.specs.ReadText.{AreSections, ReadsSections, EachTextIsOfOneList}
use Rattle.format_text.specs.SectionLists.{sections_text, plain_text}
use Rattle.format_text.specs.declared.formatted.Section.{Section}
use Rattle.operator_values.specs.Evaluated.{Evaluated, then_value}
use Rattle.eval_face.specs.JoinedContents.{FormatsJoinTheirContents}
use Rattle.eval_face.specs.Meaning.{mean, means}
use Rattle.eval_face.specs.Meanings.{Meaning, then_values, and_values, values_of}
use Rattle.eval_face.specs.Names.{BoundOutcomes}
use Rattle.eval_face.specs.Sections.{format_of}
use Rattle.eval_face.specs.World.{World}
use Rattle.format_laws.specs.FormatLaw.{IsReadAs, FormatsAreReadAsTheirContents}

-- what an argument is wanted as does not depend on what the `format` is
own_want : (o : Option FormatPiece) (w v : Want) → want_of (piece_wanted o) w ≡ want_of (piece_wanted o) v
own_want (Some piece) w v = refl
own_want None w v = refl

values_same : (ps : List FormatPiece) (m k : ℕ) (ms : List Meaning) (w v : Want) (names : BoundOutcomes) (world : World) →
    values_of (Format ps) m k ms w names world ≡ values_of (Format ps) m k ms v names world
values_same ps m k [] w v names world = refl
values_same ps m k (meaning ∷ ms) w v names world =
    let want = own_want (slice_get ps k) w v in
    let rest = values_same ps m (k + 1) ms w v names world in
    λ i. and_values (meaning (want i) names world) (rest i)

-- a value that was shown, as it is
shown : (r : Result (List Data) EvalFault) (go : List Data → Evaluated) (s : List ℕ) →
    then_values r (λ ds. then_value (go ds) (fit wants.Shown)) ≡ Ok (text s) →
    (d : Data) × (then_values r (λ ds. then_value (go ds) (fit wants.Any)) ≡ Ok d) × (shown_text d ≡ s)
shown (Ok ds) go s h = by (go ds) h
  where
    by : (r : Evaluated) → then_value r (fit wants.Shown) ≡ Ok (text s) → (d : Data) × (then_value r (fit wants.Any) ≡ Ok d) × (shown_text d ≡ s)
    by (Ok d) h = (d, refl, cc)
    by (Err fault) h = absurd (cc)
shown (Err fault) go s h = absurd (cc)

read_as : EachTextIsOfOneList → (meant : Evaluated) (s : List ℕ) (ss : List Section) → s ≡ sections_text ss → meant ≡ Ok (text (plain_text ss)) →
    AreSections ss → (read : Option (List Section)) → ReadsSections s read → IsReadAs meant read
read_as one meant s ss is joins sound (Some ts) reads = λ are.
    let same : ss ≡ ts = one ss ts sound are (sym is ∙ reads.0) in subst (λ xs. meant ≡ Ok (text (plain_text xs))) same joins
read_as one meant s ss is joins sound None reads = reads ss sound is

pub formats_are_read : FormatsJoinTheirContents → EachTextIsOfOneList → FormatsAreReadAsTheirContents
formats_are_read join one ps ts names world s h =
    let values = values_of (Format ps) (length (means ts)) 0 (means ts) wants.Shown names world in
    let (d, plainly, is) = shown values (format_of ps) s h in
    let same = values_same ps (length (means ts)) 0 (means ts) wants.Any wants.Shown names world in
    let meant : mean (node (Format ps) ts) wants.Any names world ≡ Ok d =
    ap (λ r. then_values r (λ ds. then_value (format_of ps ds) (fit wants.Any))) same ∙ plainly in
    let joined = join ps ts names world d meant in
    let text_is : s ≡ sections_text joined.sections = sym is ∙ ap shown_text joined.value in
    record {
      sections = joined.sections;
      text_of = text_is;
      is_read = read_as one _ s joined.sections text_is joined.plain;
    }
