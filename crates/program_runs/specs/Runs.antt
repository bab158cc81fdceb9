-- A run as data: what is read and written, in its order, and what comes of the bytes that were read.
use Rattle.std.specs.Prelude.{◌≡◌, ℕ, ◌+◌, ◌≤◌, List, [], ◌∷◌, ◌++◌, length, true, is_some, Option, Some, None, Result}
use Rattle.std.specs.Prelude.{Ok, Err, ◌⊎◌}
use Rattle.outside_io.specs.Reading.{IsContent, IsLongerIfTold}
use Rattle.json_tokens.specs.Rules.{all_rules}
use Rattle.json_tokens.specs.declared.kind.JsonKind.{JsonKind}
use Rattle.decimal_json.specs.Grammar.{Spells}
use Rattle.decimal_json.specs.Parses.{IsAccepted, IsPlace, IsKind}
use Rattle.decimal_json.specs.Tree.{Tree}
use Rattle.decimal_json.specs.declared.fault.JsonFault.{JsonFault}
use Rattle.program_runs.specs.Outcome.{RunOutcome}
use Rattle.program_runs.specs.Refusals.{no_json}

pub data Run : Type 0 where
  -- all is read, and this is the outcome
  ends : RunOutcome → Run
  -- the text is written on standard output, before what comes next
  says : (text : List ℕ) → (next : Run) → Run
  -- evaluations are made, in at least so many counted steps and at most so many, before what comes next
  counts : (least most : ℕ) → (next : Run) → Run
  -- the file of this name is read, of `count` bytes at most: a longer one is refused
  reads : (longer : RunOutcome) → (name : List ℕ) → (limit : ℕ) → (after : List ℕ → Run) → Run
  -- the file of this name is read, of `count` bytes at most: the run goes on with its bytes, or with none of a longer
  -- one
  may_read : (name : List ℕ) → (limit : ℕ) → (after : Option (List ℕ) → Run) → Run
  -- the bytes are a JSON text; a refusal says what it is
  parses : (what bytes : List ℕ) → (after : Tree → Run) → Run
  -- the bytes may be a JSON text: the run goes on with their tree, or with none
  may_parse : (bytes : List ℕ) → (after : Option Tree → Run) → Run
  -- the bytes may be a JSON text: the run goes on with their tree, or with their fault
  explains : (bytes : List ℕ) → (after : Result Tree JsonFault → Run) → Run

-- an outcome, where this text is written before
abbrev pub after_text : List ℕ → RunOutcome → RunOutcome
after_text text o = record o { out = text ++ o.out }

-- an outcome, where evaluations of so many steps are made before
abbrev pub after_counts : (least most : ℕ) → RunOutcome → RunOutcome
after_counts least most o = record o { least = least + o.least; most = most + o.most }

-- a text begins with another, or is that
abbrev pub IsFront : (front text : List ℕ) → Type 0
IsFront front text = (rest : List ℕ) × (text ≡ front ++ rest)

-- the bytes spell this tree, or they are no JSON text and have this fault
abbrev pub IsParsed : (bytes : List ℕ) → Result Tree JsonFault → Type 0
IsParsed bytes (Ok t) = Spells all_rules bytes t
IsParsed bytes (Err fault) =
    (IsAccepted all_rules bytes → ⊥) × IsPlace bytes fault.at × IsKind fault.kind bytes fault.at

module _ (files : List ℕ → Option (List ℕ)) where
  -- what the file of this name may be read as: its bytes, and any bytes where its contents are unknown
  abbrev pub IsFile : (name : List ℕ) (limit : ℕ) → List ℕ → Type 0
  IsFile name limit bytes = IsContent (files name) bytes × (length bytes ≤ limit)

  -- the same, or that it is longer; a file whose contents are unknown may be longer
  abbrev pub IsFileOrLonger : (name : List ℕ) (limit : ℕ) → Option (List ℕ) → Type 0
  IsFileOrLonger name limit None = IsLongerIfTold (files name) limit
  IsFileOrLonger name limit (Some bytes) = IsFile name limit bytes

  -- An outcome of the run by the known contents of files, from the names of the files that were read before it to those
  -- that were read after it, in their order. Of a file whose contents are unknown some bytes serve. Bytes that are no
  -- JSON text have one fault, which is reported.
  abbrev pub HasOutcome : Run → (before after : List (List ℕ)) → RunOutcome → Type 0
  HasOutcome (ends made) asked all o = (o ≡ made) × (all ≡ asked)
  HasOutcome (says text next) asked all o = (p : RunOutcome) × HasOutcome next asked all p × (o ≡ after_text text p)
  HasOutcome (counts least most next) asked all o =
      (p : RunOutcome) × HasOutcome next asked all p × (o ≡ after_counts least most p)
  HasOutcome (reads longer name limit after) asked all o =
      (IsLongerIfTold (files name) limit × (o ≡ longer) × (all ≡ asked ++ name ∷ []))
      ⊎ ((bytes : List ℕ) × IsFile name limit bytes × HasOutcome (after bytes) (asked ++ name ∷ []) all o)
  HasOutcome (may_read name limit after) asked all o =
      (got : Option (List ℕ)) × IsFileOrLonger name limit got × HasOutcome (after got) (asked ++ name ∷ []) all o
  HasOutcome (parses what bytes after) asked all o =
      ((t : Tree) × Spells all_rules bytes t × HasOutcome (after t) asked all o)
      ⊎ ((kind : JsonKind) × (at : ℕ) × (IsAccepted all_rules bytes → ⊥) × IsPlace bytes at × IsKind kind bytes at
      × (o ≡ no_json what kind at) × (all ≡ asked))
  HasOutcome (may_parse bytes after) asked all o =
      ((t : Tree) × Spells all_rules bytes t × HasOutcome (after (Some t)) asked all o)
      ⊎ ((IsAccepted all_rules bytes → ⊥) × HasOutcome (after None) asked all o)
  HasOutcome (explains bytes after) asked all o =
      (parsed : Result Tree JsonFault) × IsParsed bytes parsed × HasOutcome (after parsed) asked all o

  -- the run, which may have come to its end or not, has read the files of these names, in their order, after those
  -- before
  abbrev pub HasAsked : Run → (before now : List (List ℕ)) → Type 0
  HasAsked (ends made) asked now = now ≡ asked
  HasAsked (says text next) asked now = HasAsked next asked now
  HasAsked (counts least most next) asked now = HasAsked next asked now
  HasAsked (reads longer name limit after) asked now =
      (now ≡ asked) ⊎ ((now ≡ asked ++ name ∷ [])
      ⊎ ((bytes : List ℕ) × IsFile name limit bytes × HasAsked (after bytes) (asked ++ name ∷ []) now))
  HasAsked (may_read name limit after) asked now =
      (now ≡ asked)
      ⊎ ((now ≡ asked ++ name ∷ [])
      ⊎ ((got : Option (List ℕ)) × IsFileOrLonger name limit got × HasAsked (after got) (asked ++ name ∷ []) now))
  HasAsked (parses what bytes after) asked now =
      (now ≡ asked) ⊎ ((t : Tree) × Spells all_rules bytes t × HasAsked (after t) asked now)
  HasAsked (may_parse bytes after) asked now =
      (now ≡ asked)
      ⊎ (((t : Tree) × Spells all_rules bytes t × HasAsked (after (Some t)) asked now)
      ⊎ ((IsAccepted all_rules bytes → ⊥) × HasAsked (after None) asked now))
  HasAsked (explains bytes after) asked now =
      (now ≡ asked) ⊎ ((parsed : Result Tree JsonFault) × IsParsed bytes parsed × HasAsked (after parsed) asked now)

  -- The run has come to write this text on standard output, or one that begins with it, once it has read the files of
  -- these names, in their order, after those before. Of bytes that are no JSON text nothing is written there.
  abbrev pub HasSaid : Run → (before now : List (List ℕ)) → (text : List ℕ) → Type 0
  HasSaid (ends made) asked now text = (now ≡ asked) × IsFront text made.out
  HasSaid (says first next) asked now text =
      ((now ≡ asked) × IsFront text first) ⊎ ((more : List ℕ) × HasSaid next asked now more × (text ≡ first ++ more))
  HasSaid (counts least most next) asked now text = HasSaid next asked now text
  HasSaid (reads longer name limit after) asked now text =
      (IsLongerIfTold (files name) limit × (now ≡ asked ++ name ∷ []) × IsFront text longer.out)
      ⊎ ((bytes : List ℕ) × IsFile name limit bytes × HasSaid (after bytes) (asked ++ name ∷ []) now text)
  HasSaid (may_read name limit after) asked now text =
      (got : Option (List ℕ)) × IsFileOrLonger name limit got × HasSaid (after got) (asked ++ name ∷ []) now text
  HasSaid (parses what bytes after) asked now text =
      ((t : Tree) × Spells all_rules bytes t × HasSaid (after t) asked now text)
      ⊎ ((IsAccepted all_rules bytes → ⊥) × (now ≡ asked) × (text ≡ []))
  HasSaid (may_parse bytes after) asked now text =
      ((t : Tree) × Spells all_rules bytes t × HasSaid (after (Some t)) asked now text)
      ⊎ ((IsAccepted all_rules bytes → ⊥) × HasSaid (after None) asked now text)
  HasSaid (explains bytes after) asked now text =
      (parsed : Result Tree JsonFault) × IsParsed bytes parsed × HasSaid (after parsed) asked now text

  -- The run may have counted so many steps, once it has read the files of these names, in their order, after those
  -- before: no more than the evaluations count to which it has come by then.
  abbrev pub HasCounted : Run → (before now : List (List ℕ)) → (steps : ℕ) → Type 0
  HasCounted (ends made) asked now steps = (now ≡ asked) × (steps ≤ made.most)
  HasCounted (says text next) asked now steps = HasCounted next asked now steps
  HasCounted (counts least most next) asked now steps =
      (more : ℕ) × HasCounted next asked now more × (steps ≤ most + more)
  HasCounted (reads longer name limit after) asked now steps =
      (HasAsked (reads longer name limit after) asked now × (steps ≡ 0))
      ⊎ ((IsLongerIfTold (files name) limit × (now ≡ asked ++ name ∷ []) × (steps ≤ longer.most))
      ⊎ ((bytes : List ℕ) × IsFile name limit bytes × HasCounted (after bytes) (asked ++ name ∷ []) now steps))
  HasCounted (may_read name limit after) asked now steps =
      (HasAsked (may_read name limit after) asked now × (steps ≡ 0))
      ⊎ ((got : Option (List ℕ)) × IsFileOrLonger name limit got
      × HasCounted (after got) (asked ++ name ∷ []) now steps)
  HasCounted (parses what bytes after) asked now steps =
      (HasAsked (parses what bytes after) asked now × (steps ≡ 0))
      ⊎ ((t : Tree) × Spells all_rules bytes t × HasCounted (after t) asked now steps)
  HasCounted (may_parse bytes after) asked now steps =
      (HasAsked (may_parse bytes after) asked now × (steps ≡ 0))
      ⊎ (((t : Tree) × Spells all_rules bytes t × HasCounted (after (Some t)) asked now steps)
      ⊎ ((IsAccepted all_rules bytes → ⊥) × HasCounted (after None) asked now steps))
  HasCounted (explains bytes after) asked now steps =
      (HasAsked (explains bytes after) asked now × (steps ≡ 0))
      ⊎ ((parsed : Result Tree JsonFault) × IsParsed bytes parsed × HasCounted (after parsed) asked now steps)

  -- the contents of every file that the run comes to read are known
  abbrev pub AreTold : Run → Type 0
  AreTold (ends made) = Unit {0}
  AreTold (says text next) = AreTold next
  AreTold (counts least most next) = AreTold next
  AreTold (reads longer name limit after) =
      (is_some (files name) ≡ true) × ((bytes : List ℕ) → IsFile name limit bytes → AreTold (after bytes))
  AreTold (may_read name limit after) =
      (is_some (files name) ≡ true) × ((got : Option (List ℕ)) → IsFileOrLonger name limit got → AreTold (after got))
  AreTold (parses what bytes after) = (t : Tree) → Spells all_rules bytes t → AreTold (after t)
  AreTold (may_parse bytes after) =
      ((t : Tree) → Spells all_rules bytes t → AreTold (after (Some t)))
      × ((IsAccepted all_rules bytes → ⊥) → AreTold (after None))
  AreTold (explains bytes after) = (parsed : Result Tree JsonFault) → IsParsed bytes parsed → AreTold (after parsed)

-- the run reads no file
abbrev pub IsFileless : Run → Type 0
IsFileless (ends made) = Unit {0}
IsFileless (says text next) = IsFileless next
IsFileless (counts least most next) = IsFileless next
IsFileless (reads longer name limit after) = ⊥
IsFileless (may_read name limit after) = ⊥
IsFileless (parses what bytes after) = (t : Tree) → IsFileless (after t)
IsFileless (may_parse bytes after) = (o : Option Tree) → IsFileless (after o)
IsFileless (explains bytes after) = (parsed : Result Tree JsonFault) → IsFileless (after parsed)
