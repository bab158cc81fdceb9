-- A view of a desk, projected: each line changes it as the replay of its own script does.
use Rattle.std.proofs.Common.{◌≡◌, ◌∙◌, sym, refl, ap, subst, ℕ, ◌+◌, ℤ, pos, List, [], ◌∷◌, ◌++◌, length, Bool, true, false, not, Option, Some, None, is_some, Result, Ok, Err, if◌then◌else◌}
use Rattle.std.specs.Bool.{then_some}
use Rattle.std.specs.Str.{bytes_eq}
use Rattle.decimal_json.specs.Tree.{Tree}
use Rattle.edit_script.specs.Edit.{Edit}
use Rattle.edit_script.specs.declared.command.LineFault.{LineFault}
use Rattle.edit_session.specs.Applied.{Reply, applied, is_of_view}
use Rattle.edit_session.specs.OpenViews.{OpenView, after_edit, fresh_view, in_each, shown_in, view_left}
use Rattle.edit_session.specs.SessionState.{SessionState, opened}
use Rattle.key_index.proofs.Keys.{same_bytes, bytes_same}
use Rattle.style_edits.specs.Causes.{first_cause}
use Rattle.style_layout.specs.Shown.{SourceTile}
use Rattle.view_desk.specs.DeskLines.{DeskEdit, open_view, close_view, in_view, of_style}
use Rattle.view_desk.specs.DeskRun.{desk_answered, desk_line}
use Rattle.view_desk.specs.DeskState.{DeskState, DeskReply, view_named, with_view, without_view, opening_refusal, opened_unless, closed_if, done_if, desk_limit, desk_over}
use Rattle.view_desk.specs.declared.answers.DeskRefusal.{DeskRefusal}
use Rattle.view_desk.specs.declared.answers.DeskRefusal.TheVariants.{ViewTaken, ZoomRange, ViewLimit}
use Rattle.view_laws.specs.ViewLaw.{closes, of_one, desk_after, view_replies, style_command, style_commands, command_in, commands_until_closed, replayed, EachViewIsAReplay}
use Rattle.view_desk.proofs.LineKinds.{has_kind, line_kind}
use Rattle.view_laws.proofs.ViewEdits.{fresh_stays, style_shown, view_shown}

-- ---- names

self_named : (x : List ℕ) → bytes_eq x x ≡ true
self_named x = bytes_same x x refl

apart : (x y z : List ℕ) → bytes_eq y z ≡ false → bytes_eq x y ≡ true → bytes_eq x z ≡ false
apart x y z h q = subst (λ (w : List ℕ). bytes_eq w z ≡ false) (sym (same_bytes x y q)) h

-- ---- what a change of the views leaves at a name

named_here : (b : Bool) (u v : OpenView) (name : List ℕ) (us : List OpenView) → bytes_eq u.name name ≡ b → (view_named name us ≡ Some v → bytes_eq v.name name ≡ true) →
    (if b then Some u else view_named name us) ≡ Some v → bytes_eq v.name name ≡ true
named_here true u v name us e h q = let same : u ≡ v = cc in subst (λ (w : OpenView). bytes_eq w.name name ≡ true) same e
named_here false u v name us e h q = h q

has_name : (name : List ℕ) (vs : List OpenView) (v : OpenView) → view_named name vs ≡ Some v → bytes_eq v.name name ≡ true
has_name name [] v h = absurd (cc)
has_name name (u ∷ us) v h = named_here (bytes_eq u.name name) u v name us refl (has_name name us v) h

put_here : (b : Bool) (p v : OpenView) (name : List ℕ) (ps : List OpenView) (u : OpenView) → bytes_eq v.name name ≡ true → bytes_eq p.name name ≡ b → (view_named name ps ≡ Some u → view_named name (with_view name v ps) ≡ Some v) →
    (if b then Some p else view_named name ps) ≡ Some u → view_named name (if b then v ∷ ps else p ∷ with_view name v ps) ≡ Some v
put_here true p v name ps u n e h q = ap (λ (c : Bool). if c then Some v else view_named name ps) n
put_here false p v name ps u n e h q = ap (λ (c : Bool). if c then Some p else view_named name (with_view name v ps)) e ∙ h q

-- a view that is put at its name is found there, and the others stay
put_at : (name : List ℕ) (u v : OpenView) (ps : List OpenView) → bytes_eq v.name name ≡ true → view_named name ps ≡ Some u → view_named name (with_view name v ps) ≡ Some v
put_at name u v [] n h = absurd (cc)
put_at name u v (p ∷ ps) n h = put_here (bytes_eq p.name name) p v name ps u n refl (put_at name u v ps n) h

put_other : (b : Bool) (p : OpenView) (other name : List ℕ) (v : OpenView) (ps : List OpenView) → bytes_eq other name ≡ false → bytes_eq v.name other ≡ true → bytes_eq p.name other ≡ b → view_named name (with_view other v ps) ≡ view_named name ps →
    view_named name (if b then v ∷ ps else p ∷ with_view other v ps) ≡ view_named name (p ∷ ps)
put_other true p other name v ps h n e k =
    ap (λ (c : Bool). if c then Some v else view_named name ps) (apart v.name other name h n)
    ∙ sym (ap (λ (c : Bool). if c then Some p else view_named name ps) (apart p.name other name h e))
put_other false p other name v ps h n e k = ap (λ o. if bytes_eq p.name name then Some p else o) k

put_apart : (other name : List ℕ) (v : OpenView) (ps : List OpenView) → bytes_eq other name ≡ false → bytes_eq v.name other ≡ true → view_named name (with_view other v ps) ≡ view_named name ps
put_apart other name v [] h n = refl
put_apart other name v (p ∷ ps) h n = put_other (bytes_eq p.name other) p other name v ps h n refl (put_apart other name v ps h n)

-- a view that is taken away leaves the others
gone_other : (b : Bool) (p : OpenView) (other name : List ℕ) (ps : List OpenView) → bytes_eq other name ≡ false → bytes_eq p.name other ≡ b → view_named name (without_view other ps) ≡ view_named name ps →
    view_named name (if b then ps else p ∷ without_view other ps) ≡ view_named name (p ∷ ps)
gone_other true p other name ps h e k = sym (ap (λ (c : Bool). if c then Some p else view_named name ps) (apart p.name other name h e))
gone_other false p other name ps h e k = ap (λ o. if bytes_eq p.name name then Some p else o) k

gone_apart : (other name : List ℕ) (ps : List OpenView) → bytes_eq other name ≡ false → view_named name (without_view other ps) ≡ view_named name ps
gone_apart other name [] h = refl
gone_apart other name (p ∷ ps) h = gone_other (bytes_eq p.name other) p other name ps h refl (gone_apart other name ps h)

-- a view that is put after the others
some_if : (b : Bool) (x v : OpenView) (o p : Option OpenView) → (o ≡ Some v → p ≡ Some v) → (if b then Some x else o) ≡ Some v → (if b then Some x else p) ≡ Some v
some_if true x v o p h q = q
some_if false x v o p h q = h q

still_there : (name : List ℕ) (v : OpenView) (ps qs : List OpenView) → view_named name ps ≡ Some v → view_named name (ps ++ qs) ≡ Some v
still_there name v [] qs h = absurd (cc)
still_there name v (p ∷ ps) qs h = some_if (bytes_eq p.name name) p v (view_named name ps) (view_named name (ps ++ qs)) (still_there name v ps qs) h

none_if : (b : Bool) (x v : OpenView) (o p : Option OpenView) → (is_some o ≡ false → p ≡ Some v) → is_some (if b then Some x else o) ≡ false → (if b then Some x else p) ≡ Some v
none_if true x v o p h q = absurd (cc)
none_if false x v o p h q = h q

found_last : (name : List ℕ) (v : OpenView) (ps : List OpenView) → bytes_eq v.name name ≡ true → is_some (view_named name ps) ≡ false → view_named name (ps ++ v ∷ []) ≡ Some v
found_last name v [] n h = ap (λ (b : Bool). if b then Some v else None) n
found_last name v (p ∷ ps) n h = none_if (bytes_eq p.name name) p v (view_named name ps) (view_named name (ps ++ v ∷ [])) (found_last name v ps n) h

-- ---- openings

opened_views : (o : Option DeskRefusal) (d : DeskState) (v : OpenView) (other : List ℕ) (zoom : ℤ) (name : List ℕ) → view_named name d.views ≡ Some v → view_named name (opened_unless o d other zoom).0.views ≡ Some v
opened_views None d v other zoom name h = still_there name v d.views (fresh_view d.style other zoom ∷ []) h
opened_views (Some r) d v other zoom name h = h

opened_style : (o : Option DeskRefusal) (d : DeskState) (other : List ℕ) (zoom : ℤ) → (opened_unless o d other zoom).0.style ≡ d.style
opened_style None d other zoom = refl
opened_style (Some r) d other zoom = refl

opened_out : (number : ℕ) (name : List ℕ) (o : Option DeskRefusal) (d : DeskState) (other : List ℕ) (zoom : ℤ) → of_one number name (opened_unless o d other zoom).1 ≡ []
opened_out number name None d other zoom = refl
opened_out number name (Some r) d other zoom = refl

closed_style : (d : DeskState) (name : List ℕ) (o : Option OpenView) → (closed_if d name o).0.style ≡ d.style
closed_style d name (Some v) = refl
closed_style d name None = refl

not_taken : (a b c : Bool) → first_cause (then_some a ViewTaken ∷ then_some b ZoomRange ∷ then_some c ViewLimit ∷ []) ≡ None → a ≡ false
not_taken false b c h = refl
not_taken true b c h = absurd (cc)

-- over tiles, with the test on texts that can be shown; `can_change` says whether the test of images can change
module _ (tiles : List SourceTile) (scripts : List ℕ → Bool) (can_change : Bool) where
  abbrev gives : SessionState → Edit → SessionState × Reply
  gives p edit = applied tiles scripts can_change p edit

  abbrev after : DeskState → Result DeskEdit LineFault → DeskState × DeskReply
  after d read = desk_answered tiles scripts can_change d read

  abbrev leaves : SessionState → Edit → OpenView → OpenView
  leaves p edit v = after_edit tiles scripts can_change p edit v

  -- an edit of the style, at the name of a view
  left_if : (b : Bool) (p : SessionState) (edit : Edit) (u v : OpenView) (o q : Option OpenView) → (o ≡ Some v → q ≡ Some (leaves p edit v))
      → (if b then Some u else o) ≡ Some v → (if b then Some (leaves p edit u) else q) ≡ Some (leaves p edit v)
  left_if true p edit u v o q h is = let same : u ≡ v = cc in ap (λ (w : OpenView). Some (leaves p edit w)) same
  left_if false p edit u v o q h is = h is

  left_named : (name : List ℕ) (p : SessionState) (edit : Edit) (vs : List OpenView) (v : OpenView) → view_named name vs ≡ Some v
      → view_named name (in_each tiles scripts can_change p edit vs) ≡ Some (leaves p edit v)
  left_named name p edit [] v h = absurd (cc)
  left_named name p edit (u ∷ us) v h =
      left_if (bytes_eq u.name name) p edit u v (view_named name us) (view_named name (in_each tiles scripts can_change p edit us))
      (left_named name p edit us v) h

  -- ---- the lines after the one that opens a view

  -- what later lines give, wherever the view is as it is here
  abbrev GoesOn : ℕ → List ℕ → List (Option Tree) → Type 0
  GoesOn number name ts = (d : DeskState) (v : OpenView) → view_named name d.views ≡ Some v →
      view_replies tiles scripts can_change number name d ts ≡ replayed tiles scripts can_change (shown_in d.style v) (commands_until_closed number name ts)

  abbrev rest_replies : ℕ → List ℕ → DeskState → List (Option Tree) → List (ℕ × Reply)
  rest_replies number name d ts = view_replies tiles scripts can_change (number + 1) name d ts

  abbrev rest_replayed : ℕ → List ℕ → SessionState → List (Option Tree) → List (ℕ × Reply)
  rest_replayed number name p ts = replayed tiles scripts can_change p (commands_until_closed (number + 1) name ts)

  -- a line, and the later ones
  abbrev LineGoesOn : ℕ → List ℕ → List (Option Tree) → Result DeskEdit LineFault → Type 0
  LineGoesOn number name ts read = (d : DeskState) (v : OpenView) → view_named name d.views ≡ Some v →
      (if closes name read then [] else of_one number name (after d read).1 ++ rest_replies number name (after d read).0 ts)
      ≡ replayed tiles scripts can_change (shown_in d.style v) (if closes name read then [] else command_in number name read ++ commands_until_closed (number + 1) name ts)

  close_if : (b : Bool) (number : ℕ) (name other : List ℕ) (ts : List (Option Tree)) (d : DeskState) (v : OpenView) (o : Option OpenView) → bytes_eq other name ≡ b → view_named name d.views ≡ Some v → GoesOn (number + 1) name ts →
      (if b then [] else of_one number name (closed_if d other o).1 ++ rest_replies number name (closed_if d other o).0 ts)
      ≡ replayed tiles scripts can_change (shown_in d.style v) (if b then [] else commands_until_closed (number + 1) name ts)
  close_if true number name other ts d v o e h k = refl
  close_if false number name other ts d v (Some u) e h k = k (record d { views = without_view other d.views }) v (gone_apart other name d.views e ∙ h)
  close_if false number name other ts d v None e h k = k d v h

  is_false : (b : Bool) → not b ≡ true → b ≡ false
  is_false true q = absurd (cc)
  is_false false q = refl

  style_goes_on : (number : ℕ) (name : List ℕ) (ts : List (Option Tree)) (edit : Edit) → not (is_of_view edit) ≡ true → GoesOn (number + 1) name ts → LineGoesOn number name ts (Ok (of_style edit))
  style_goes_on number name ts edit c k d v h =
      let next = (after d (Ok (of_style edit))).0 in
      k next (leaves d.style edit v) (left_named name d.style edit d.views v h)
      ∙ (ap (λ (p : SessionState). rest_replayed number name p ts) (style_shown tiles scripts can_change d.style v edit c)
      ∙ ap (λ (b : Bool). (if b then (number, (gives (shown_in d.style v) edit).1) ∷ [] else []) ++ rest_replayed number name (gives (shown_in d.style v) edit).0 ts) (sym (is_false (is_of_view edit) c)))

  view_if : (b : Bool) (number : ℕ) (name other : List ℕ) (edit : Edit) (ts : List (Option Tree)) (d : DeskState) (v : OpenView) (o : Option OpenView) → is_of_view edit ≡ true → bytes_eq other name ≡ b → view_named other d.views ≡ o → view_named name d.views ≡ Some v → GoesOn (number + 1) name ts →
      of_one number name (done_if tiles scripts can_change d other edit o).1 ++ rest_replies number name (done_if tiles scripts can_change d other edit o).0 ts
      ≡ replayed tiles scripts can_change (shown_in d.style v) ((if b then (number, edit) ∷ [] else []) ++ commands_until_closed (number + 1) name ts)
  view_if true number name other edit ts d v None c e f h k =
      let q : Some v ≡ None = sym h ∙ (ap (λ (x : List ℕ). view_named x d.views) (sym (same_bytes other name e)) ∙ f) in absurd (cc)
  view_if true number name other edit ts d v (Some u) c e f h k =
      let n = same_bytes other name e in
      let q : Some u ≡ Some v = sym f ∙ (ap (λ (x : List ℕ). view_named x d.views) n ∙ h) in
      let same : u ≡ v = cc in
      let a = gives (shown_in d.style u) edit in
      let w = leaves d.style edit u in
      let named : bytes_eq w.name name ≡ true = subst (λ (x : List ℕ). bytes_eq u.name x ≡ true) n (has_name other d.views u f) in
      let there : view_named name (with_view other w d.views) ≡ Some w =
      subst (λ (x : List ℕ). view_named name (with_view x w d.views) ≡ Some w) (sym n) (put_at name v w d.views named h) in
      let next = (done_if tiles scripts can_change d other edit (Some u)).0 in
      let shows : shown_in d.style w ≡ a.0 = view_shown tiles scripts can_change d.style u edit c in
      ap (λ (t : Bool). (if t then (number, a.1) ∷ [] else []) ++ rest_replies number name next ts) e
      ∙ (ap (λ (rest : List (ℕ × Reply)). (number, a.1) ∷ rest) (k next w there ∙ ap (λ (p : SessionState). rest_replayed number name p ts) shows)
      ∙ (ap (λ (t : Bool). (if t then (number, a.1) ∷ [] else []) ++ rest_replayed number name a.0 ts) (sym c)
      ∙ ap (λ (x : OpenView). replayed tiles scripts can_change (shown_in d.style x) ((number, edit) ∷ commands_until_closed (number + 1) name ts)) same))
  view_if false number name other edit ts d v None c e f h k = k d v h
  view_if false number name other edit ts d v (Some u) c e f h k =
      let a = gives (shown_in d.style u) edit in
      let w = leaves d.style edit u in
      let next = (done_if tiles scripts can_change d other edit (Some u)).0 in
      ap (λ (t : Bool). (if t then (number, a.1) ∷ [] else []) ++ rest_replies number name next ts) e
      ∙ k next v (put_apart other name w d.views e (has_name other d.views u f) ∙ h)

  line_goes_on : (number : ℕ) (name : List ℕ) (ts : List (Option Tree)) (read : Result DeskEdit LineFault) → has_kind read ≡ true → GoesOn (number + 1) name ts → LineGoesOn number name ts read
  line_goes_on number name ts (Ok (open_view other zoom)) c k d v h =
      let o = opening_refusal d other zoom in
      ap (λ (outs : List (ℕ × Reply)). outs ++ rest_replies number name (opened_unless o d other zoom).0 ts) (opened_out number name o d other zoom)
      ∙ (k (opened_unless o d other zoom).0 v (opened_views o d v other zoom name h)
      ∙ ap (λ (p : SessionState). rest_replayed number name (shown_in p v) ts) (opened_style o d other zoom))
  line_goes_on number name ts (Ok (close_view other)) c k d v h = close_if (bytes_eq other name) number name other ts d v (view_named other d.views) refl h k
  line_goes_on number name ts (Ok (in_view other edit)) c k d v h = view_if (bytes_eq other name) number name other edit ts d v (view_named other d.views) c refl refl h k
  line_goes_on number name ts (Ok (of_style edit)) c k d v h = style_goes_on number name ts edit c k d v h
  line_goes_on number name ts (Err fault) c k d v h = k d v h

  goes_on : (number : ℕ) (name : List ℕ) (ts : List (Option Tree)) → GoesOn number name ts
  goes_on number name [] d v h = refl
  goes_on number name (t ∷ ts) d v h = line_goes_on number name ts (desk_line t) (line_kind t) (goes_on (number + 1) name ts) d v h

  -- ---- the lines before it: nothing was done in the view

  module _ (name : List ℕ) (zoom : ℤ) where
    abbrev from : SessionState → List (ℕ × Edit) → List (ℕ × Reply)
    from p cs = replayed tiles scripts can_change (shown_in p (fresh_view p name zoom)) cs

    abbrev UpTo : ℕ → List (Option Tree) → Type 0
    UpTo number ts = (d : DeskState) (rest : List (ℕ × Edit)) →
        from (desk_after tiles scripts can_change d ts).style rest ≡ from d.style (style_commands number ts ++ rest)

    abbrev LineUpTo : ℕ → List (Option Tree) → Result DeskEdit LineFault → Type 0
    LineUpTo number ts read = (d : DeskState) (rest : List (ℕ × Edit)) →
        from (after d read).0.style (style_commands (number + 1) ts ++ rest) ≡ from d.style ((style_command number read ++ style_commands (number + 1) ts) ++ rest)

    same_start : (p q : SessionState) (cs : List (ℕ × Edit)) → p ≡ q → from p cs ≡ from q cs
    same_start p q cs e = ap (λ (x : SessionState). from x cs) e

    done_style : (d : DeskState) (other : List ℕ) (edit : Edit) (o : Option OpenView) → (done_if tiles scripts can_change d other edit o).0.style ≡ d.style
    done_style d other edit (Some u) = refl
    done_style d other edit None = refl

    style_up_to : (number : ℕ) (ts : List (Option Tree)) (edit : Edit) → not (is_of_view edit) ≡ true → LineUpTo number ts (Ok (of_style edit))
    style_up_to number ts edit c d rest =
        let cs = style_commands (number + 1) ts ++ rest in
        let v = fresh_view d.style name zoom in
        let style = (gives d.style edit).0 in
        let shows : shown_in style (fresh_view style name zoom) ≡ (gives (shown_in d.style v) edit).0 =
        ap (λ (u : OpenView). shown_in style u) (sym (fresh_stays tiles scripts can_change d.style name zoom edit c))
        ∙ style_shown tiles scripts can_change d.style v edit c in
        ap (λ (p : SessionState). replayed tiles scripts can_change p cs) shows
        ∙ ap (λ (b : Bool). (if b then (number, (gives (shown_in d.style v) edit).1) ∷ [] else []) ++ replayed tiles scripts can_change (gives (shown_in d.style v) edit).0 cs) (sym (is_false (is_of_view edit) c))

    line_up_to : (number : ℕ) (ts : List (Option Tree)) (read : Result DeskEdit LineFault) → has_kind read ≡ true → LineUpTo number ts read
    line_up_to number ts (Ok (open_view other height)) c d rest = same_start _ _ (style_commands (number + 1) ts ++ rest) (opened_style (opening_refusal d other height) d other height)
    line_up_to number ts (Ok (close_view other)) c d rest = same_start _ _ (style_commands (number + 1) ts ++ rest) (closed_style d other (view_named other d.views))
    line_up_to number ts (Ok (in_view other edit)) c d rest = same_start _ _ (style_commands (number + 1) ts ++ rest) (done_style d other edit (view_named other d.views))
    line_up_to number ts (Ok (of_style edit)) c d rest = style_up_to number ts edit c d rest
    line_up_to number ts (Err fault) c d rest = refl

    up_to : (number : ℕ) (ts : List (Option Tree)) → UpTo number ts
    up_to number [] d rest = refl
    up_to number (t ∷ ts) d rest = up_to (number + 1) ts (after d (desk_line t)).0 rest ∙ line_up_to number ts (desk_line t) (line_kind t) d rest

  -- ---- both

  after_more : (d : DeskState) (ts : List (Option Tree)) (t : Option Tree) →
      desk_after tiles scripts can_change d (ts ++ t ∷ []) ≡ (after (desk_after tiles scripts can_change d ts) (desk_line t)).0
  after_more d [] t = refl
  after_more d (u ∷ us) t = after_more (after d (desk_line u)).0 us t

pub each_view : EachViewIsAReplay
each_view tiles scripts has_image can_change document before after line name zoom l h =
    let start = desk_over (opened desk_limit document (pos 0) has_image) in
    let d = desk_after tiles scripts can_change start before in
    let v = fresh_view d.style name zoom in
    let next : DeskState = record d { views = d.views ++ v ∷ [] } in
    let number = length before + 2 in
    let opens : (desk_answered tiles scripts can_change d (desk_line line)).0 ≡ next =
    ap (λ (read : Result DeskEdit LineFault). (desk_answered tiles scripts can_change d read).0) l
    ∙ ap (λ (o : Option DeskRefusal). (opened_unless o d name zoom).0) h in
    ap (λ (x : DeskState). view_replies tiles scripts can_change number name x after) (after_more tiles scripts can_change start before line ∙ opens)
    ∙ (goes_on tiles scripts can_change number name after next v (found_last name v d.views (self_named name) (not_taken _ _ _ h))
    ∙ up_to tiles scripts can_change name zoom 1 before start (commands_until_closed number name after))
