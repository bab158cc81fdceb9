-- What holds of every expression that was read: at each node the number of elements is one that its row
-- allows, the parts are of their form, and each `var` names a name of a `let` around it. Source: own, from
-- the table of operators. Source: MapLibre style specification, version 8, expressions.
use Rattle.std.specs.Prelude.{◌≡◌, ℕ, ◌+◌, ◌-◌, ◌<◌, List, [], ◌∷◌, ◌++◌, length, Bool, true, false, ◌||◌, nat_eq, Some}
use Rattle.std.specs.Prelude.{None, Ok}
use Rattle.std.specs.List.{list_all}
use Rattle.decimal_json.specs.Tree.{Tree}
use Rattle.prop_values.specs.Data.{Data}
use Rattle.interpolate_fixed.specs.PlaceFacts.{IsAscending, HasPositiveBase}
use Rattle.expr_syntax.specs.declared.parts.Labelled.{Labelled}
use Rattle.expr_syntax.specs.declared.parts.FormatPiece.{FormatPiece}
use Rattle.expr_syntax.specs.declared.parts.Role.TheVariants.{Content}
use Rattle.expr_syntax.specs.declared.expression.Operator.{Operator}
use Rattle.expr_syntax.specs.declared.expression.Operator.TheVariants.{Array, Match, Step, Interpolate, Let, Var}
use Rattle.expr_syntax.specs.declared.expression.Operator.TheVariants.{Format}
use Rattle.expr_syntax.specs.BoundNames.{is_among}
use Rattle.expr_syntax.specs.Mentioned.{count}
use Rattle.expr_syntax.specs.Names.{row}
use Rattle.expr_syntax.specs.Operators.{operator_name}
use Rattle.expr_syntax.specs.LabelLists.{is_number, is_text, repeats}
use Rattle.expr_syntax.specs.Parts.{is_binding_name}
use Rattle.expr_syntax.specs.Reading.{reading_with}
use Rattle.expr_syntax.specs.Rows.{allows}
use Rattle.expr_syntax.specs.Term.{Term, literal, node, Terms, no_terms, term}

-- How many elements follow the name of a node of m arguments: those, and the parts. Of the arguments of
-- `match` each but the input and the last has an element of labels; of `format` the elements that are options
-- are not counted.
abbrev pub elements_behind : Operator → ℕ → ℕ
elements_behind (Array None count) m = m
elements_behind (Array (Some item) None) m = m + 1
elements_behind (Array (Some item) (Some count)) m = m + 2
elements_behind (Match labels) m = m + (m - 2)
elements_behind (Step inputs) m = m + length inputs
elements_behind (Interpolate ramp) m = m + length ramp.1 + 1
elements_behind (Let bound) m = m + length bound
elements_behind (Var name) m = m + 1
elements_behind op m = m

-- Each label names one of so many outputs.
abbrev pub NameOutputs : ℕ → List Labelled → Type 0
NameOutputs outputs [] = Unit {0}
NameOutputs outputs (l ∷ ls) = (l.output < outputs) × NameOutputs outputs ls

-- whether a label names this output
abbrev pub is_named : List Labelled → ℕ → Bool
is_named [] output = false
is_named (l ∷ ls) output = nat_eq l.output output || is_named ls output

-- Each of so many outputs has a label.
abbrev pub NameEachOutput : ℕ → List Labelled → Type 0
NameEachOutput outputs labels = (k : ℕ) → k < outputs → is_named labels k ≡ true

-- The first argument of a `format` is a content.
abbrev pub BeginsWithContent : List FormatPiece → Type 0
BeginsWithContent [] = ⊥
BeginsWithContent (p ∷ ps) = p.role ≡ Content

-- The parts of an operator of m arguments, inside of some names, are of their form.
abbrev pub HasSoundParts : List (List ℕ) → Operator → ℕ → Type 0
HasSoundParts names (Array None None) m = m ≡ 1
HasSoundParts names (Array None (Some count)) m = ⊥
HasSoundParts names (Array (Some item) count) m = m ≡ 1
HasSoundParts names (Match labels) m =
    ((list_all is_number labels || list_all is_text labels) ≡ true)
    × (repeats (λ l. false) labels ≡ false)
    × NameOutputs (m - 2) labels
    × NameEachOutput (m - 2) labels
HasSoundParts names (Step inputs) m = IsAscending inputs × (m ≡ length inputs + 2)
HasSoundParts names (Interpolate ramp) m = HasPositiveBase ramp.0 × IsAscending ramp.1 × (m ≡ length ramp.1 + 1)
HasSoundParts names (Let bound) m = (list_all is_binding_name bound ≡ true) × (m ≡ length bound + 1)
HasSoundParts names (Var name) m = (is_among names name ≡ true) × (m ≡ 0)
HasSoundParts names (Format pieces) m = BeginsWithContent pieces × (m ≡ length pieces)
HasSoundParts names op m = Unit {0}

-- the names around the last argument of a node, by those around the node
abbrev pub names_within : Operator → List (List ℕ) → List (List ℕ)
names_within (Let bound) names = bound ++ names
names_within op names = names

-- A term as it is read inside of some names.
abbrev mutual
  pub IsRead : List (List ℕ) → Term → Type 0
  IsRead names (literal d) = Unit {0}
  IsRead names (node op ts) =
      (allows (row (operator_name op)).arity (elements_behind op (count ts)) ≡ true)
      × HasSoundParts names op (count ts)
      × AreRead names (names_within op names) ts

  -- Arguments, the last inside of names of its own.
  pub AreRead : List (List ℕ) → List (List ℕ) → Terms → Type 0
  AreRead names inner no_terms = Unit {0}
  AreRead names inner (term t no_terms) = IsRead inner t
  AreRead names inner (term t (term u ts)) = IsRead names t × AreRead names inner (term u ts)

-- What a tree reads as, whatever the values of the global state, is sound at each node.
abbrev pub ReadTermsAreSound : Type 0
ReadTermsAreSound =
    (t : Tree) (values : List (List ℕ × Data)) (e : Term) → reading_with t values ≡ Ok (Some e) → IsRead [] e
