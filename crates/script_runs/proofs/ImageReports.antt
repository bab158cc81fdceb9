-- The test of images, line by line: the reports to it, and what it answers.
use Rattle.std.proofs.Common.{◌≡◌, ◌∙◌, refl, sym, ap, subst, inl, inr, ℕ, List, [], ◌∷◌, ◌++◌, Bool, true, false, append-nil, append_assoc}
use Rattle.std.proofs.lemmas.Bool.{false≢true}
use Rattle.std.specs.Prelude.{Result, Ok, Err, OnOk, ◌⊎◌}
use Rattle.edit_script.specs.Edit as edits
use Rattle.edit_script.specs.Edit.{Edit}
use Rattle.edit_script.specs.Line.{AnswersLine}
use Rattle.edit_script.specs.declared.command.LineFault.{LineFault}
use Rattle.edit_session.proofs.AnswerLaws.{images_left}
use Rattle.edit_session.specs.Applied.{Reply, applied, presented_after, refusal, tell_count_after}
use Rattle.edit_session.specs.SessionState.{SessionState}
use Rattle.host_ops.specs.Change.{IsSameTest}
use Rattle.script_runs.specs.ImageReports.{GoesAlong, GoesPartway, ImageReportsOfLine, ImagesOfLine, image_reports_after, images_after, line_images_after}
use Rattle.script_runs.specs.LineAnswers.{LineGives}
use Rattle.script_runs.specs.ScriptRun.{LineOut, line_out}
use Rattle.style_layout.specs.Shown.{SourceTile}

-- a fact that holds in every case holds of an answer
pub at_answer : {T E P : Type 0} (r : Result T E) → P → OnOk r P
at_answer (Ok value) holds = holds
at_answer (Err fault) holds = tt

-- ---- what holds where no allocation of the session had failed

-- It answered, so it did not.
pub where_answered : {P : Type 0} (lacks : Bool) → (lacks ≡ true → false ≡ true) → (lacks ≡ false → P) → P
where_answered true memory holds = absurd (false≢true (memory refl))
where_answered false memory holds = holds refl

-- It did, or it did not.
pub where_failed : {P Q : Type 0} (lacks : Bool) → (lacks ≡ true → P) → (lacks ≡ false → Q) → P ⊎ Q
where_failed true silent holds = inl (silent refl)
where_failed false silent holds = inr (holds refl)

-- ---- a line

module _ (can_change : Bool) (line : List ℕ) (read : Result Edit LineFault) (answers : AnswersLine line read) (before after : ℕ) where
  pub command_reports : (edit : Edit) → read ≡ Ok edit → after ≡ tell_count_after can_change edit before
      → ImageReportsOfLine can_change line before after
  command_reports edit is counted =
      (read, answers, subst (λ (r : Result Edit LineFault). after ≡ image_reports_after can_change r before) (sym is) counted)

  pub fault_reports : (fault : LineFault) → read ≡ Err fault → after ≡ before → ImageReportsOfLine can_change line before after
  fault_reports fault is same =
      (read, answers, subst (λ (r : Result Edit LineFault). after ≡ image_reports_after can_change r before) (sym is) same)

-- ---- what a line makes of the answers of the test

module _ (tiles : List SourceTile) (scripts : List ℕ → Bool) (p : SessionState) where
  pub applied_images : (can_change : Bool) (edit : Edit)
      → (applied tiles scripts can_change p edit).0.has_image ≡ images_after can_change edit p.has_image
  applied_images true (edits.add_image name) = refl
  applied_images false (edits.add_image name) = refl
  applied_images true (edits.remove_image name) = refl
  applied_images false (edits.remove_image name) = refl
  applied_images can_change edits.list = refl
  applied_images can_change edits.stats = refl
  applied_images can_change edits.style = refl
  applied_images can_change edit = images_left (refusal tiles scripts can_change p edit) p (presented_after tiles p edit) refl

  pub command_images : (can_change : Bool) (line : List ℕ) (read : Result Edit LineFault) → AnswersLine line read
      → (edit : Edit) → read ≡ Ok edit → (after : SessionState) (reply : Reply)
      → (after, reply) ≡ applied tiles scripts can_change p edit → ImagesOfLine can_change line p.has_image after.has_image
  command_images can_change line read answers edit is after reply gives = (
    read,
    answers,
    subst (λ (r : Result Edit LineFault). after.has_image ≡ line_images_after can_change r p.has_image) (sym is)
        (ap (λ (a : SessionState × Reply). a.0.has_image) gives ∙ applied_images can_change edit),
  )

  read_images : (can_change : Bool) (number : ℕ) (read : Result Edit LineFault)
      → (line_out tiles scripts can_change number p read).after.has_image ≡ line_images_after can_change read p.has_image
  read_images can_change number (Ok edit) = applied_images can_change edit
  read_images can_change number (Err fault) = refl

  pub line_images : (steps_old steps_new : ℕ) (can_change : Bool) (number : ℕ) (line : List ℕ) (out : LineOut)
      → LineGives tiles scripts steps_old steps_new can_change number p line out
      → ImagesOfLine can_change line p.has_image out.after.has_image
  line_images steps_old steps_new can_change number line out (read, answers, is, rose) =
      (read, answers, ap (λ (o : LineOut). o.after.has_image) is ∙ read_images can_change number read)

-- Answers that are alike for each text are the same.
pub same_answers : (old new : List ℕ → Bool) → IsSameTest old new → new ≡ old
same_answers old new same = λ i text. same text i

-- ---- the lines of a script

module _ {A : Type 0} (goes : List ℕ → A → A → Type 0) where
  -- something went along the lines before the rest
  abbrev pub HasGone : (all rest : List (List ℕ)) → (before after : A) → Type 0
  HasGone all rest before after = (first : List (List ℕ)) × (all ≡ first ++ rest) × GoesAlong goes first before after

  joined : (first second : List (List ℕ)) (a b c : A) → GoesAlong goes first a b → GoesAlong goes second b c
      → GoesAlong goes (first ++ second) a c
  joined [] second a b c here there = subst (λ (n : A). GoesAlong goes second n c) here there
  joined (l ∷ ls) second a b c (between, one, here) there = (between, one, joined ls second between b c here there)

  -- at first
  pub none_gone : (all : List (List ℕ)) (n : A) → HasGone all all n n
  none_gone all n = ([], refl, refl)

  -- one line more
  one_gone : (all lines rest : List (List ℕ)) (line : List ℕ) (a b c : A) → lines ≡ line ∷ rest → goes line b c
      → HasGone all lines a b → HasGone all rest a c
  one_gone all lines rest line a b c cut one (first, is, here) = (
    first ++ line ∷ [],
    is ∙ (ap (λ (ls : List (List ℕ)). first ++ ls) cut ∙ sym (append_assoc first (line ∷ []) rest)),
    joined first (line ∷ []) a b c here (c, one, refl),
  )

  -- once no line is left
  pub all_gone : (all rest : List (List ℕ)) (a b : A) → rest ≡ [] → HasGone all rest a b → GoesAlong goes all a b
  all_gone all rest a b none (first, is, here) =
      subst (λ (ls : List (List ℕ)). GoesAlong goes ls a b)
      (sym (is ∙ (ap (λ (ls : List (List ℕ)). first ++ ls) none ∙ append-nil first))) here

  -- where lines may be left
  pub some_gone : (all rest : List (List ℕ)) (a b : A) → HasGone all rest a b → GoesPartway goes all a b
  some_gone all rest a b (first, is, here) = (first, rest, is, here)

  -- where none is left
  pub all_partway : (all : List (List ℕ)) (a b : A) → GoesAlong goes all a b → GoesPartway goes all a b
  all_partway all a b gone = (all, [], sym (append-nil all), gone)

-- the next line, where the code has its test of images by another name
module _ {A : Type 0} (goes : Bool → List ℕ → A → A → Type 0) (own can_change : Bool) (alike : own ≡ can_change) (all lines rest : List (List ℕ))
    (line : List ℕ) (cut : lines ≡ line ∷ rest) (a b c : A) where
  -- it was answered
  pub line_gone : goes own line b c → HasGone (goes can_change) all lines a b → HasGone (goes can_change) all rest a c
  line_gone one gone =
      one_gone (goes can_change) all lines rest line a b c cut (subst (λ (x : Bool). goes x line b c) alike one) gone

  -- it was not
  pub line_cut : (c ≡ b) ⊎ goes own line b c → HasGone (goes can_change) all lines a b → GoesPartway (goes can_change) all a c
  line_cut (inl same) gone =
      subst (λ (n : A). GoesPartway (goes can_change) all a n) (sym same) (some_gone (goes can_change) all lines a b gone)
  line_cut (inr one) gone = some_gone (goes can_change) all rest a c (line_gone one gone)
