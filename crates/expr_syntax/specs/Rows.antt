-- What a row of the table of operators says.
use Rattle.std.specs.Prelude.{ℕ, ◌+◌, ◌%◌, List, Bool, true, false, not, ◌&&◌, ◌||◌, nat_eq, nat_le, Option, None}
use Rattle.std.specs.Prelude.{if◌then◌else◌}
use Rattle.prop_values.specs.declared.kinds.Want.TheVariants as wants
use Rattle.expr_syntax.specs.declared.rows.Arity.{Arity}
use Rattle.expr_syntax.specs.declared.rows.Arity.TheVariants.{Exactly, Between, AtLeast, OddFrom, EvenFrom}
use Rattle.expr_syntax.specs.declared.rows.ElementLayout.{ElementLayout}
use Rattle.expr_syntax.specs.declared.rows.ElementLayout.TheVariants.{Arguments, Choices, Value, Items, Cases, Labels}
use Rattle.expr_syntax.specs.declared.rows.ElementLayout.TheVariants.{Stops, Ramp, Bindings, Variable, Global, Sections}
use Rattle.expr_syntax.specs.declared.rows.ElementPlace.{ElementPlace}
use Rattle.expr_syntax.specs.declared.rows.ElementPlace.TheVariants.{Part, Argument, Output}
use Rattle.expr_syntax.specs.declared.rows.Wants.{Wants}
use Rattle.expr_syntax.specs.declared.rows.Wants.TheVariants as wanting
use Rattle.expr_syntax.specs.declared.rows.Wanted.{Wanted}
use Rattle.expr_syntax.specs.declared.rows.Wanted.TheVariants.{Own, OfNode}
use Rattle.expr_syntax.specs.declared.rows.Manner.{Manner}
use Rattle.expr_syntax.specs.declared.rows.Manner.TheVariants as manners
use Rattle.expr_syntax.specs.declared.rows.Reads.{Reads}
use Rattle.expr_syntax.specs.declared.rows.Reads.TheVariants as reading

-- A row of the table: the fields of the program's own.
pub record OperatorRow : Type 0 where
  pub text : List ℕ
  pub is_outside : Bool
  pub arity : Arity
  pub layout : ElementLayout
  pub wants : Wants
  pub sequence : Option ℕ
  pub manner : Manner
  pub reads : Reads

-- an operator all of whose elements are arguments, which are all evaluated and are all that it reads
abbrev pub plain : List ℕ → Arity → Wants → OperatorRow
plain text arity wants = record {
  text = text;
  is_outside = false;
  arity = arity;
  layout = Arguments;
  wants = wants;
  sequence = None;
  manner = manners.Each;
  reads = reading.Nothing;
}

abbrev pub outside : List ℕ → OperatorRow
outside text = record (plain text (AtLeast 0) (wanting.Each wants.Any)) { is_outside = true }

-- whether so many elements may follow the name
abbrev pub allows : Arity → ℕ → Bool
allows (Exactly k) n = nat_eq n k
allows (Between least most) n = nat_le least n && nat_le n most
allows (AtLeast least) n = nat_le least n
allows (OddFrom least) n = nat_le least n && nat_eq (n % 2) 1
allows (EvenFrom least) n = nat_le least n && nat_eq (n % 2) 0

-- Places are counted from the name, which has place 0; n is the number of all elements.
abbrev pub is_last : ℕ → ℕ → Bool
is_last n i = nat_eq (i + 1) n

abbrev pub is_even : ℕ → Bool
is_even i = nat_eq (i % 2) 0

-- the inputs of stops are at 3, 5, ..
abbrev pub is_input : ℕ → Bool
is_input i = nat_le 3 i && not (is_even i)

-- the labels of outputs are at 2, 4, .., but not at the end
abbrev pub is_label : ℕ → ℕ → Bool
is_label n i = nat_le 2 i && (is_even i && not (is_last n i))

-- the names of bindings are at 1, 3, .., but not at the end
abbrev pub is_binder : ℕ → ℕ → Bool
is_binder n i = not (is_even i) && not (is_last n i)

-- what an element after the name is
abbrev pub place : ElementLayout → ℕ → ℕ → ElementPlace
place Arguments n i = Argument
place Choices n i = Output
place Value n i = Part
place Items n i = if is_last n i then Argument else Part
place Cases n i = if is_last n i || is_even i then Output else Argument
place Labels n i = if nat_eq i 1 then Argument else if is_label n i then Part else Output
place Stops n i = if nat_eq i 1 then Argument else if is_input i then Part else Output
place Ramp n i = if is_even i then Argument else Part
place Bindings n i = if is_last n i then Output else if is_even i then Argument else Part
place Variable n i = Part
place Global n i = Part
place Sections n i = Argument

-- what an element is, the name counted as a part
abbrev pub element_place : ElementLayout → ℕ → ℕ → ElementPlace
element_place layout n i = if nat_eq i 0 then Part else place layout n i

-- what the argument k of m arguments is wanted as
abbrev pub wanted : Wants → ℕ → ℕ → Wanted
wanted (wanting.Each w) m k = Own w
wanted (wanting.Then w v) m k = if nat_eq k 0 then Own w else Own v
wanted (wanting.Third w v u) m k = if nat_eq k 0 then Own w else if nat_eq k 1 then Own v else Own u
wanted wanting.Conditions m k = if is_last m k || not (is_even k) then OfNode else Own wants.Boolean
wanted (wanting.Input w) m k = if nat_eq k 0 then Own w else OfNode
wanted wanting.Bindings m k = if is_last m k then OfNode else Own wants.Any
