-- What typing says of outcomes, for any set of faults that has those of the expression: a fault is in the
-- set, and a value is of the
-- kind and of the kind that is wanted.
use Rattle.std.proofs.Common.{◌≡◌, ℕ, List, Bool, true, false, ◌&&◌, Option, Some, None, Ok, Err, if◌then◌else◌, refl}
use Rattle.std.proofs.lemmas.Bool.{and_parts, and_from}
use Rattle.fixed_num.specs.declared.color.Color.{Color}
use Rattle.color_values.specs.ColorOf.{color_of}
use Rattle.decimal_json.specs.declared.paths.PathPart.{PathPart}
use Rattle.prop_values.specs.Choices.{choice_holds}
use Rattle.prop_values.specs.Data.{Data, null, boolean, number, text, color, list, map, Items}
use Rattle.prop_values.specs.Faults.{holds, no_faults, union}
use Rattle.prop_values.specs.declared.choice.Choice.{Choice}
use Rattle.prop_values.specs.declared.fault.EvalFault.TheVariants as faults
use Rattle.prop_values.specs.declared.fault.FaultSet.{FaultSet}
use Rattle.prop_values.specs.declared.kinds.Item.{Item}
use Rattle.prop_values.specs.declared.kinds.Item.TheVariants as items
use Rattle.prop_values.specs.declared.kinds.Kind.{Kind}
use Rattle.prop_values.specs.declared.kinds.Kind.TheVariants as kinds
use Rattle.prop_values.specs.declared.kinds.Want.{Want}
use Rattle.prop_values.specs.declared.kinds.Want.TheVariants as wants
use Rattle.property_tables.specs.Fitting.{fit, read_as_color, are_items, are_choices, has_count}
use Rattle.expr_types.specs.Fits.{list_fit, fits, is_always, wanted_kind, list_under, kind_under, branch_kind, fit_faults}
use Rattle.expr_types.specs.Literals.{is_value, literal_kind, surely_fits}
use Rattle.expr_types.specs.Own.{owns}
use Rattle.expr_types.specs.Typing.{Typed, Node, kinded, unless_code, fit_or, fitted, branched, literal_node, with_below}
use Rattle.expr_types.specs.declared.fault.TypeCode.{TypeCode}
use Rattle.expr_types.specs.declared.fits.Fit.{Fit}
use Rattle.expr_types.specs.declared.fits.Fit.TheVariants.{Always, Maybe, Never}
use Rattle.expr_types.specs.declared.own.Own.{Own}
use Rattle.expr_types.specs.declared.placed.Placed.{Placed}
use Rattle.expr_types.specs.declared.placed.Kinded.{Kinded}
use Rattle.operator_values.specs.Evaluated.{Evaluated, then_value}
use Rattle.typing_laws.specs.OfKind.{is_of}
use Rattle.typing_laws.proofs.Sets.{Within, within_left, within_right}
use Rattle.typing_laws.proofs.KindLaws.{item_wide, count_wide, literal_is}

-- ---- what is said of an outcome, of a node and of what is known of an expression

abbrev pub OutcomeOf : FaultSet → Want → Kind → Evaluated → Type 0
OutcomeOf S w k (Ok d) = (is_of (wanted_kind w) d ≡ true) × (is_of k d ≡ true)
OutcomeOf S w k (Err f) = holds S f ≡ true

abbrev pub NodeOf : FaultSet → Want → Node → Evaluated → Type 0
NodeOf S w (Ok k) o = Within S k.may → OutcomeOf S w k.kind o
NodeOf S w (Err e) o = Unit {0}

abbrev pub ResultOf : FaultSet → Want → Typed → Evaluated → Type 0
ResultOf S w (Ok found) o = Within S found.node.may → OutcomeOf S w found.node.kind o
ResultOf S w (Err e) o = Unit {0}

-- what a node has of its own, under a want
abbrev pub OwnIn : FaultSet → Want → Own → Evaluated → Type 0
OwnIn S w own o = own.code ≡ None → Within S own.faults → OutcomeOf S w own.kind o

-- the same of an operator that hands its want to its outputs
abbrev pub BranchIn : FaultSet → Want → Own → Evaluated → Type 0
BranchIn S w own o = own.code ≡ None → Within S own.faults → OutcomeOf S w (branch_kind w own.kind) o

pub below_ok : (S : FaultSet) (w : Want) (below : List Placed) (n : Node) (o : Evaluated) → NodeOf S w n o →
    ResultOf S w (with_below below n) o
below_ok S w below (Ok k) o h = h
below_ok S w below (Err e) o h = tt

-- ---- fitting

abbrev pub FitIn : FaultSet → Fit → Want → Kind → Evaluated → Type 0
FitIn S Never w k o = Unit {0}
FitIn S f w k o = Within S (fit_faults f w k) → OutcomeOf S w (kind_under w k) o

-- two kinds of lists, where more is known of neither
list_under_is : (b : Item) (m : Option ℕ) (a : Item) (n : Option ℕ) (ds : Items) →
    is_of (kinds.List a n) (list ds) ≡ true → is_of (kinds.List b m) (list ds) ≡ true →
    is_of (list_under b m a n) (list ds) ≡ true
list_under_is items.Any None a n ds h k = h
list_under_is items.Any (Some c) a n ds h k = k
list_under_is items.Boolean m a n ds h k = k
list_under_is items.Number m a n ds h k = k
list_under_is items.Text m a n ds h k = k

always_is : (x y : Bool) → (if x then Always else if y then Maybe else Never) ≡ Always → x ≡ true
always_is true y h = refl
always_is false true h = absurd (cc)
always_is false false h = absurd (cc)

module _ (S : FaultSet) where
  if_of : (w : Want) (k : Kind) (t : Bool) (x y : Evaluated) → (t ≡ true → OutcomeOf S w k x) →
      (t ≡ false → OutcomeOf S w k y) → OutcomeOf S w k (if t then x else y)
  if_of w k true x y h g = h refl
  if_of w k false x y h g = g refl

  boolean_ok : (k : Kind) (d : Data) → is_of k d ≡ true →
      FitIn S (fits k wants.Boolean) wants.Boolean k (fit wants.Boolean d)
  boolean_ok kinds.Boolean (boolean b) h = λ w. (refl, refl)
  boolean_ok kinds.Boolean _ h = absurd (cc)
  boolean_ok kinds.Any (boolean b) h = λ w. (refl, refl)
  boolean_ok kinds.Any _ h = λ w. w faults.WrongType refl
  boolean_ok _ _ h = tt

  number_ok : (k : Kind) (d : Data) → is_of k d ≡ true →
      FitIn S (fits k wants.Number) wants.Number k (fit wants.Number d)
  number_ok kinds.Number (number b) h = λ w. (refl, refl)
  number_ok kinds.Number _ h = absurd (cc)
  number_ok kinds.Any (number b) h = λ w. (refl, refl)
  number_ok kinds.Any _ h = λ w. w faults.WrongType refl
  number_ok _ _ h = tt

  object_ok : (k : Kind) (d : Data) → is_of k d ≡ true →
      FitIn S (fits k wants.Object) wants.Object k (fit wants.Object d)
  object_ok kinds.Object (map ps) h = λ w. (refl, refl)
  object_ok kinds.Object _ h = absurd (cc)
  object_ok kinds.Any (map ps) h = λ w. (refl, refl)
  object_ok kinds.Any _ h = λ w. w faults.WrongType refl
  object_ok _ _ h = tt

  text_ok : (k : Kind) (d : Data) → is_of k d ≡ true →
      FitIn S (fits k wants.Text) wants.Text k (fit wants.Text d)
  text_ok kinds.Text (text s) h = λ w. (refl, refl)
  text_ok kinds.Text _ h = absurd (cc)
  text_ok kinds.Any (text s) h = λ w. (refl, refl)
  text_ok kinds.Any _ h = λ w. w faults.WrongType refl
  text_ok kinds.Image (text s) h = λ w. (refl, refl)
  text_ok kinds.Image _ h = λ w. w faults.WrongType refl
  text_ok _ _ h = tt

  image_ok : (k : Kind) (d : Data) → is_of k d ≡ true →
      FitIn S (fits k wants.Image) wants.Image k (fit wants.Image d)
  image_ok kinds.Image (text s) h = λ w. (refl, refl)
  image_ok kinds.Image null h = λ w. (refl, refl)
  image_ok kinds.Image _ h = absurd (cc)
  image_ok kinds.Text (text s) h = λ w. (refl, refl)
  image_ok kinds.Text _ h = absurd (cc)
  image_ok kinds.Any (text s) h = λ w. (refl, refl)
  image_ok kinds.Any null h = λ w. (refl, refl)
  image_ok kinds.Any _ h = λ w. w faults.WrongType refl
  image_ok _ _ h = tt

  read_ok : (c : Option Color) → holds S faults.NotColor ≡ true →
      OutcomeOf S wants.Color kinds.Color (read_as_color c)
  read_ok (Some c) h = (refl, refl)
  read_ok None h = h

  color_ok : (k : Kind) (d : Data) → is_of k d ≡ true →
      FitIn S (fits k wants.Color) wants.Color k (fit wants.Color d)
  color_ok kinds.Color (color c) h = λ w. (refl, refl)
  color_ok kinds.Color _ h = absurd (cc)
  color_ok kinds.Text (text s) h = λ w. read_ok (color_of s) (w faults.NotColor refl)
  color_ok kinds.Text _ h = absurd (cc)
  color_ok kinds.Any (color c) h = λ w. (refl, refl)
  color_ok kinds.Any (text s) h = λ w. read_ok (color_of s) (w faults.NotColor refl)
  color_ok kinds.Any _ h = λ w. w faults.WrongType refl
  color_ok kinds.Image (color c) h = absurd (cc)
  color_ok kinds.Image (text s) h = λ w. read_ok (color_of s) (w faults.NotColor refl)
  color_ok kinds.Image _ h = λ w. w faults.WrongType refl
  color_ok _ _ h = tt

  choice_by : (c : Choice) (s : List ℕ) → holds S faults.NotInEnum ≡ true →
      OutcomeOf S (wants.Enum c) kinds.Text (fit (wants.Enum c) (text s))
  choice_by c s h = if_of (wants.Enum c) kinds.Text (choice_holds c s) (Ok (text s)) (Err faults.NotInEnum)
      (λ q. (refl, refl)) (λ q. h)

  choice_ok : (c : Choice) (k : Kind) (d : Data) → is_of k d ≡ true →
      FitIn S (fits k (wants.Enum c)) (wants.Enum c) k (fit (wants.Enum c) d)
  choice_ok c kinds.Text (text s) h = λ w. choice_by c s (w faults.NotInEnum refl)
  choice_ok c kinds.Text _ h = absurd (cc)
  choice_ok c kinds.Any (text s) h = λ w. choice_by c s (w faults.NotInEnum refl)
  choice_ok c kinds.Any _ h = λ w. w faults.WrongType refl
  choice_ok c kinds.Image (text s) h = λ w. choice_by c s (w faults.NotInEnum refl)
  choice_ok c kinds.Image _ h = λ w. w faults.WrongType refl
  choice_ok c _ _ h = tt

  choices_by : (c : Choice) (ds : Items) → holds S faults.NotInEnum ≡ true →
      (are_items items.Text ds ≡ false → holds S faults.WrongType ≡ true) →
      OutcomeOf S (wants.EnumList c) (kinds.List items.Text None) (fit (wants.EnumList c) (list ds))
  choices_by c ds h g =
      if_of (wants.EnumList c) (kinds.List items.Text None) (are_items items.Text ds)
      (if are_choices c ds then Ok (list ds) else Err faults.NotInEnum) (Err faults.WrongType)
      (λ q. if_of (wants.EnumList c) (kinds.List items.Text None) (are_choices c ds) (Ok (list ds))
      (Err faults.NotInEnum) (λ r. (q, q)) (λ r. h))
      g

  texts_clash : (n : Option ℕ) (ds : Items) (P : Type 0) → is_of (kinds.List items.Text n) (list ds) ≡ true →
      are_items items.Text ds ≡ false → P
  texts_clash n ds P h q = let r = (and_parts (has_count n ds) (are_items items.Text ds) h).1 in absurd (cc)

  choices_ok : (c : Choice) (k : Kind) (d : Data) → is_of k d ≡ true →
      FitIn S (fits k (wants.EnumList c)) (wants.EnumList c) k (fit (wants.EnumList c) d)
  choices_ok c (kinds.List items.Text n) (list ds) h = λ w. choices_by c ds (w faults.NotInEnum refl)
      (λ q. texts_clash n ds _ h q)
  choices_ok c (kinds.List items.Any n) (list ds) h = λ w. choices_by c ds (w faults.NotInEnum refl)
      (λ q. w faults.WrongType refl)
  choices_ok c (kinds.List items.Boolean n) (list ds) h = tt
  choices_ok c (kinds.List items.Number n) (list ds) h = tt
  choices_ok c (kinds.List i n) _ h = absurd (cc)
  choices_ok c kinds.Any (list ds) h = λ w. choices_by c ds (w faults.NotInEnum refl)
      (λ q. w faults.WrongType refl)
  choices_ok c kinds.Any _ h = λ w. w faults.WrongType refl
  choices_ok c _ _ h = tt

  list_by : (f : Fit) (a : Item) (n : Option ℕ) (b : Item) (m : Option ℕ) (ds : Items) →
      is_of (kinds.List a n) (list ds) ≡ true → (f ≡ Always → is_of (kinds.List b m) (list ds) ≡ true) →
      FitIn S f (wants.List b m) (kinds.List a n) (fit (wants.List b m) (list ds))
  list_by Never a n b m ds h g = tt
  list_by Maybe a n b m ds h g = λ w. if_of (wants.List b m) (list_under b m a n)
      (has_count m ds && are_items b ds) (Ok (list ds)) (Err faults.WrongType)
      (λ q. (q, list_under_is b m a n ds h q)) (λ q. w faults.WrongType refl)
  list_by Always a n b m ds h g = λ w. if_of (wants.List b m) (list_under b m a n)
      (has_count m ds && are_items b ds) (Ok (list ds)) (Err faults.WrongType)
      (λ q. (q, list_under_is b m a n ds h q)) (λ q. absurd (let e = g refl in cc))

  list_ok : (b : Item) (m : Option ℕ) (k : Kind) (d : Data) → is_of k d ≡ true →
      FitIn S (fits k (wants.List b m)) (wants.List b m) k (fit (wants.List b m) d)
  list_ok b m (kinds.List a n) (list ds) h =
      list_by (list_fit a n b m) a n b m ds h
      (λ q. let x = always_is _ _ q in and_from _ _
      (count_wide n m ds ((and_parts _ _ x).1) ((and_parts _ _ h).0))
      (item_wide a b ds ((and_parts _ _ x).0) ((and_parts _ _ h).1)))
  list_ok b m (kinds.List a n) _ h = absurd (cc)
  list_ok b m kinds.Any (list ds) h = λ w. if_of (wants.List b m) (kinds.List b m)
      (has_count m ds && are_items b ds) (Ok (list ds)) (Err faults.WrongType) (λ q. (q, q))
      (λ q. w faults.WrongType refl)
  list_ok b m kinds.Any _ h = λ w. w faults.WrongType refl
  list_ok b m _ _ h = tt

  pub fit_ok : (w : Want) (k : Kind) (d : Data) → is_of k d ≡ true → FitIn S (fits k w) w k (fit w d)
  fit_ok wants.Any k d h = λ w. (refl, h)
  fit_ok wants.Shown k d h = λ w. (refl, refl)
  fit_ok wants.Boolean k d h = boolean_ok k d h
  fit_ok wants.Number k d h = number_ok k d h
  fit_ok wants.Text k d h = text_ok k d h
  fit_ok wants.Color k d h = color_ok k d h
  fit_ok wants.Object k d h = object_ok k d h
  fit_ok wants.Image k d h = image_ok k d h
  fit_ok (wants.List b m) k d h = list_ok b m k d h
  fit_ok (wants.Enum c) k d h = choice_ok c k d h
  fit_ok (wants.EnumList c) k d h = choices_ok c k d h

  -- ---- a node's own kind, fitted

  then_fit : (w : Want) (k j : Kind) (o : Evaluated) → OutcomeOf S wants.Any k o →
      ((d : Data) → is_of k d ≡ true → OutcomeOf S w j (fit w d)) → OutcomeOf S w j (then_value o (fit w))
  then_fit w k j (Ok d) h go = go d h.1
  then_fit w k j (Err f) h go = h

  unless_ok : (w : Want) (c : Option TypeCode) (k : Kinded) (path : List PathPart) (o : Evaluated) →
      (c ≡ None → Within S k.may → OutcomeOf S w k.kind o) → NodeOf S w (unless_code c k path) o
  unless_ok w None k path o h = h refl
  unless_ok w (Some c) k path o h = tt

  finish_by : (f : Fit) (w : Want) (own : Own) (may : FaultSet) (path : List PathPart) (o : Evaluated) →
      ((d : Data) → is_of own.kind d ≡ true → FitIn S f w own.kind (fit w d)) →
      (Within S may → OwnIn S wants.Any own o) → NodeOf S w (fit_or f w own may path) (then_value o (fit w))
  finish_by Never w own may path o law h = tt
  finish_by Always w own may path o law h =
      unless_ok w own.code (kinded w (kind_under w own.kind)
      (union may (union own.faults (fit_faults Always w own.kind))) (is_always Always)) path
      (then_value o (fit w)) (λ none all.
      then_fit w own.kind (kind_under w own.kind) o (h
      (within_left S may (union own.faults (fit_faults Always w own.kind)) all) none (within_left S
      own.faults (fit_faults Always w own.kind) (within_right S may
      (union own.faults (fit_faults Always w own.kind)) all)))
      (λ d q. law d q (within_right S own.faults (fit_faults Always w own.kind) (within_right S may
      (union own.faults (fit_faults Always w own.kind)) all))))
  finish_by Maybe w own may path o law h =
      unless_ok w own.code (kinded w (kind_under w own.kind)
      (union may (union own.faults (fit_faults Maybe w own.kind))) (is_always Maybe)) path
      (then_value o (fit w)) (λ none all.
      then_fit w own.kind (kind_under w own.kind) o (h
      (within_left S may (union own.faults (fit_faults Maybe w own.kind)) all) none (within_left S
      own.faults (fit_faults Maybe w own.kind) (within_right S may
      (union own.faults (fit_faults Maybe w own.kind)) all)))
      (λ d q. law d q (within_right S own.faults (fit_faults Maybe w own.kind) (within_right S may
      (union own.faults (fit_faults Maybe w own.kind)) all))))

  pub finish_ok : (w : Want) (own : Own) (may : FaultSet) (path : List PathPart) (o : Evaluated) →
      (Within S may → OwnIn S wants.Any own o) → NodeOf S w (fitted w own may path) (then_value o (fit w))
  finish_ok w own may path o h = finish_by (fits own.kind w) w own may path o (λ d q. fit_ok w own.kind d q) h

  -- a value that is of the want's kind and of its own is of that of a node with branches
  under_branch : (w : Want) (k : Kind) (d : Data) → is_of (wanted_kind w) d ≡ true → is_of k d ≡ true →
      is_of (branch_kind w k) d ≡ true
  under_branch wants.Any k d h g = g
  under_branch _ k d h g = h

  pub branch_ok : (w : Want) (k : Kind) (o : Evaluated) → OutcomeOf S w k o →
      OutcomeOf S w (branch_kind w k) o
  branch_ok w k (Ok d) h = (h.0, under_branch w k d h.0 h.1)
  branch_ok w k (Err f) h = h

  pub branched_ok : (w : Want) (own : Own) (may : FaultSet) (path : List PathPart) (o : Evaluated) →
      (Within S may → BranchIn S w own o) → NodeOf S w (branched w own may path) o
  branched_ok w own may path o h = unless_ok w own.code _ path o
      (λ none all. h (within_left S may _ all) none (within_right S may _ all))

  -- ---- literals

  color_surely : (c : Option Color) → is_value (read_as_color c) ≡ true →
      OutcomeOf S wants.Color kinds.Color (read_as_color c)
  color_surely (Some c) h = (refl, refl)
  color_surely None h = absurd (cc)

  choice_surely : (c : Choice) (s : List ℕ) (b : Bool) →
      is_value (if b then Ok (text s) else Err faults.NotInEnum) ≡ true →
      OutcomeOf S (wants.Enum c) kinds.Text (if b then Ok (text s) else Err faults.NotInEnum)
  choice_surely c s true h = (refl, refl)
  choice_surely c s false h = absurd (cc)

  choices_surely : (c : Choice) (ds : Items) (a b : Bool) → (a ≡ true → are_items items.Text ds ≡ true) →
      is_value (if a then (if b then Ok (list ds) else Err faults.NotInEnum) else Err faults.WrongType) ≡ true
      → OutcomeOf S (wants.EnumList c) (kinds.List items.Text None)
      (if a then (if b then Ok (list ds) else Err faults.NotInEnum) else Err faults.WrongType)
  choices_surely c ds true true g h = (g refl, g refl)
  choices_surely c ds true false g h = absurd (cc)
  choices_surely c ds false b g h = absurd (cc)

  surely_ok : (w : Want) (d : Data) → surely_fits w d ≡ true →
      OutcomeOf S w (kind_under w (literal_kind d)) (fit w d)
  surely_ok wants.Color (text s) h = color_surely (color_of s) h
  surely_ok (wants.Enum c) (text s) h = choice_surely c s (choice_holds c s) h
  surely_ok (wants.EnumList c) (list ds) h = choices_surely c ds (are_items items.Text ds) (are_choices c ds)
      (λ q. q) h
  surely_ok _ _ h = absurd (cc)

  pub literal_ok : (w : Want) (d : Data) (path : List PathPart) → NodeOf S w (literal_node d w path) (fit w d)
  literal_ok w d path = pick (surely_fits w d) refl
    where
      pick : (b : Bool) → surely_fits w d ≡ b → NodeOf S w (if b then Ok
          (kinded w (kind_under w (literal_kind d)) no_faults (is_always (fits (literal_kind d) w))) else
          fitted w (owns (literal_kind d) no_faults) no_faults path) (fit w d)
      pick true q = λ all. surely_ok w d q
      pick false q = finish_ok w (owns (literal_kind d) no_faults) no_faults path (Ok d)
          (λ a n b. (refl, literal_is d))
