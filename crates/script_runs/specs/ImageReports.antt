-- The test of images, line by line: how many reports it had, and what it answers. Source: own.
use Rattle.std.specs.Prelude.{◌≡◌, ℕ, List, [], ◌∷◌, ◌++◌, Bool, true, false, Result, Ok, Err, if◌then◌else◌}
use Rattle.edit_script.specs.Edit as edits
use Rattle.edit_script.specs.Edit.{Edit}
use Rattle.edit_script.specs.Line.{AnswersLine}
use Rattle.edit_script.specs.declared.command.LineFault.{LineFault}
use Rattle.edit_session.specs.Applied.{tell_count_after, with_image}

-- How many there were, once a line is answered: those of its command, and a line that is no command reports nothing.
-- `can_change` says whether the test of images can change. Source: own.
abbrev pub image_reports_after : (can_change : Bool) → Result Edit LineFault → ℕ → ℕ
image_reports_after can_change (Ok edit) n = tell_count_after can_change edit n
image_reports_after can_change (Err fault) n = n

-- The bytes of a line take their number from one to another.
abbrev pub ImageReportsOfLine : (can_change : Bool) → (line : List ℕ) → (before after : ℕ) → Type 0
ImageReportsOfLine can_change line before after =
    (read : Result Edit LineFault) × AnswersLine line read × (after ≡ image_reports_after can_change read before)

-- ---- what it answers

-- What it answers, once a command is answered: the image that is added is there, the one that is removed is not,
-- and for every other name it answers as before. Where it cannot change, all is as before. Source: own.
abbrev pub images_after : (can_change : Bool) → Edit → (List ℕ → Bool) → List ℕ → Bool
images_after can_change (edits.add_image name) has_image =
    if can_change then with_image name true has_image else has_image
images_after can_change (edits.remove_image name) has_image =
    if can_change then with_image name false has_image else has_image
images_after can_change edit has_image = has_image

-- What it answers, once a line is answered: a line that is no command changes nothing. Source: own.
abbrev pub line_images_after : (can_change : Bool) → Result Edit LineFault → (List ℕ → Bool) → List ℕ → Bool
line_images_after can_change (Ok edit) has_image = images_after can_change edit has_image
line_images_after can_change (Err fault) has_image = has_image

-- The bytes of a line take its answers from one to another.
abbrev pub ImagesOfLine : (can_change : Bool) → (line : List ℕ) → (before after : List ℕ → Bool) → Type 0
ImagesOfLine can_change line before after =
    (read : Result Edit LineFault) × AnswersLine line read × (after ≡ line_images_after can_change read before)

-- ---- what each line takes from one to another, a number or answers

module _ {A : Type 0} (goes : List ℕ → A → A → Type 0) where
  -- from the first line to the last
  abbrev pub GoesAlong : (lines : List (List ℕ)) → (before after : A) → Type 0
  GoesAlong [] before after = after ≡ before
  GoesAlong (l ∷ ls) before after = (between : A) × goes l before between × GoesAlong ls between after

  -- as far as some line
  abbrev pub GoesPartway : (lines : List (List ℕ)) → (before after : A) → Type 0
  GoesPartway lines before after =
      (first : List (List ℕ)) × (rest : List (List ℕ)) × (lines ≡ first ++ rest) × GoesAlong first before after
