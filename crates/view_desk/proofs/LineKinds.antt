-- A line of a view is one by its name, and so is a line of the style.
use Rattle.std.proofs.Common.{◌≡◌, sym, refl, ap, subst, ℕ, ℤ, List, [], ◌∷◌, codes, Bool, true, false, not, ◌||◌, Option, Some, None, Result, Ok, Err, option_map, option_and_then, if◌then◌else◌}
use Rattle.std.proofs.lemmas.Slice.Eq.{bytes_eq-Decides}
use Rattle.std.specs.Str.{bytes_eq}
use Rattle.fixed_num.specs.Decimal.{read_text}
use Rattle.decimal_json.specs.Tree.{Tree, null, number, text, list, object, Trees}
use Rattle.prop_values.specs.JsonData.{json_data, fields_data}
use Rattle.edit_script.specs.Command.{in_bound, then_edit, limit_of, id_of, edit_or_fault, command_of}
use Rattle.edit_script.specs.Edit as edits
use Rattle.edit_script.specs.Edit.{Edit}
use Rattle.edit_script.specs.Form.{LineForm, plain, range, removal, text_or_null, number_or_null, property_form, filter_form, range_form, addition_form, move_form, zoom_form, state_form, removal_form, global_form, text_form, bare_form, elements_of, form_named, array_form}
use Rattle.edit_script.specs.declared.command.LineFault.{LineFault}
use Rattle.edit_script.specs.declared.command.LineFault.TheVariants.{Form}
use Rattle.edit_session.specs.Applied.{is_of_view}
use Rattle.view_desk.specs.DeskLines.{DeskEdit, in_view, of_style, is_view_name, begins_a_view_line, is_view_line, nested_command, opened_at, open_form, close_form, done_in, view_form, style_edit, command_named, array_command, desk_command}
use Rattle.view_desk.specs.DeskRun.{desk_line}

-- whether an edit, where one was read, belongs to a view as it should
abbrev is_kind : Bool → Result Edit LineFault → Bool
is_kind true (Ok edit) = is_of_view edit
is_kind false (Ok edit) = not (is_of_view edit)
is_kind b (Err fault) = true

abbrev pub has_kind : Result DeskEdit LineFault → Bool
has_kind (Ok (in_view name edit)) = is_of_view edit
has_kind (Ok (of_style edit)) = not (is_of_view edit)
has_kind read = true

fault_kind : (b : Bool) (fault : LineFault) → is_kind b (Err fault) ≡ true
fault_kind true fault = refl
fault_kind false fault = refl

then_kind : {A : Type 0} (b : Bool) (r : Result A LineFault) (go : A → Result Edit LineFault) → ((a : A) → is_kind b (go a) ≡ true) → is_kind b (then_edit r go) ≡ true
then_kind b (Ok a) go h = h a
then_kind b (Err fault) go h = fault_kind b fault

-- ---- lines of the style

abbrev OfStyle : Option LineForm → Type 0
OfStyle o = is_kind false (edit_or_fault o) ≡ true

property_style : (edit : List ℕ → List ℕ → Tree → Edit) (h : (l n : List ℕ) (v : Tree) → is_of_view (edit l n v) ≡ false) (es : List Tree) → OfStyle (property_form edit es)
property_style edit h [] = refl
property_style edit h (text l ∷ text n ∷ v ∷ []) = ap not (h l n v)
property_style edit h _ = refl

filter_style : (es : List Tree) → OfStyle (filter_form es)
filter_style [] = refl
filter_style (text l ∷ f ∷ []) = refl
filter_style _ = refl

ranges_style : (layer : List ℕ) (a b : Option (Option (List ℕ))) → OfStyle (option_and_then (λ least. option_map (range layer least) b) a)
ranges_style layer None b = refl
ranges_style layer (Some a) None = refl
ranges_style layer (Some a) (Some b) = then_kind false (limit_of a) _ (λ x. then_kind false (limit_of b) _ (λ y. refl))

range_style : (es : List Tree) → OfStyle (range_form es)
range_style [] = refl
range_style (text l ∷ min ∷ max ∷ []) = ranges_style l (number_or_null min) (number_or_null max)
range_style _ = refl

added_style : (layer : Tree) (o : Option (Option (List ℕ))) → OfStyle (option_map (λ id. plain (edits.add_layer layer id)) o)
added_style layer None = refl
added_style layer (Some id) = refl

addition_style : (es : List Tree) → OfStyle (addition_form es)
addition_style [] = refl
addition_style (layer ∷ before ∷ []) = added_style layer (text_or_null before)
addition_style _ = refl

moved_style : (layer : List ℕ) (o : Option (Option (List ℕ))) → OfStyle (option_map (λ id. plain (edits.move_layer layer id)) o)
moved_style layer None = refl
moved_style layer (Some id) = refl

move_style : (es : List Tree) → OfStyle (move_form es)
move_style [] = refl
move_style (text l ∷ before ∷ []) = moved_style l (text_or_null before)
move_style _ = refl

text_style : (edit : List ℕ → Edit) (h : (s : List ℕ) → is_of_view (edit s) ≡ false) (es : List Tree) → OfStyle (text_form edit es)
text_style edit h [] = refl
text_style edit h (text s ∷ []) = ap not (h s)
text_style edit h _ = refl

global_style : (es : List Tree) → OfStyle (global_form es)
global_style [] = refl
global_style (text n ∷ v ∷ []) = then_kind false (in_bound (json_data v)) _ (λ x. refl)
global_style _ = refl

style_style : (es : List Tree) → OfStyle (bare_form edits.style es)
style_style [] = refl
style_style _ = refl

-- ---- lines of a view

abbrev OfView : Option LineForm → Type 0
OfView o = is_kind true (edit_or_fault o) ≡ true

zoom_view : (es : List Tree) → OfView (zoom_form es)
zoom_view [] = refl
zoom_view (number z ∷ []) = then_kind true (in_bound (read_text z)) _ (λ x. refl)
zoom_view _ = refl

state_view : (es : List Tree) → OfView (state_form es)
state_view [] = refl
state_view (text s ∷ text l ∷ number id ∷ object ms ∷ []) = then_kind true (id_of (read_text id)) _ (λ i. then_kind true (in_bound (fields_data ms)) _ (λ x. refl))
state_view _ = refl

removed_view : (source layer id : List ℕ) (o : Option (Option (List ℕ))) → OfView (option_map (removal source layer id) o)
removed_view source layer id None = refl
removed_view source layer id (Some key) = then_kind true (id_of (read_text id)) _ (λ i. refl)

removal_view : (es : List Tree) → OfView (removal_form es)
removal_view [] = refl
removal_view (text s ∷ text l ∷ number id ∷ key ∷ []) = removed_view s l id (text_or_null key)
removal_view _ = refl

list_view : (es : List Tree) → OfView (bare_form edits.list es)
list_view [] = refl
list_view _ = refl

stats_view : (es : List Tree) → OfView (bare_form edits.stats es)
stats_view [] = refl
stats_view _ = refl

-- ---- by the name

abbrev Forms : Type 0
Forms = Option (List Tree → Option LineForm)

abbrev given : Forms → List Tree → Option LineForm
given o es = option_and_then (λ form. form es) o

pick : (b : Bool) (f : List Tree → Option LineForm) (o : Forms) (es : List Tree) → OfStyle (f es) → OfStyle (given o es) → OfStyle (given (if b then Some f else o) es)
pick true f o es h k = h
pick false f o es h k = k

pass : (b : Bool) (f : List Tree → Option LineForm) (o : Forms) (es : List Tree) → b ≡ false → OfStyle (given o es) → OfStyle (given (if b then Some f else o) es)
pass true f o es e k = absurd (cc)
pass false f o es e k = k

-- none of five tests holds where one of them does not
or_left : (a b : Bool) → (a || b) ≡ false → a ≡ false
or_left true b h = absurd (cc)
or_left false b h = refl

or_right : (a b : Bool) → (a || b) ≡ false → b ≡ false
or_right true b h = absurd (cc)
or_right false b h = h

style_named : (name : List ℕ) (es : List Tree) → is_view_name name ≡ false → OfStyle (form_named name es)
style_named name es h =
    let zooms = or_left _ _ h in
    let h1 = or_right _ _ h in
    let states = or_left _ _ h1 in
    let h2 = or_right _ _ h1 in
    let removals = or_left _ _ h2 in
    let h3 = or_right _ _ h2 in
    let lists = or_left _ _ h3 in
    let counts = or_right _ _ h3 in
    pick (bytes_eq name (codes "set-paint")) _ _ es (property_style edits.set_paint (λ l n v. refl) es)
    (pick (bytes_eq name (codes "set-layout")) _ _ es (property_style edits.set_layout (λ l n v. refl) es)
    (pick (bytes_eq name (codes "set-filter")) _ _ es (filter_style es)
    (pick (bytes_eq name (codes "set-range")) _ _ es (range_style es)
    (pick (bytes_eq name (codes "add-layer")) _ _ es (addition_style es)
    (pick (bytes_eq name (codes "remove-layer")) _ _ es (text_style edits.remove_layer (λ s. refl) es)
    (pick (bytes_eq name (codes "move-layer")) _ _ es (move_style es)
    (pass (bytes_eq name (codes "set-zoom")) _ _ es zooms
    (pass (bytes_eq name (codes "set-state")) _ _ es states
    (pass (bytes_eq name (codes "remove-state")) _ _ es removals
    (pick (bytes_eq name (codes "add-image")) _ _ es (text_style edits.add_image (λ s. refl) es)
    (pick (bytes_eq name (codes "remove-image")) _ _ es (text_style edits.remove_image (λ s. refl) es)
    (pick (bytes_eq name (codes "set-global")) _ _ es (global_style es)
    (pass (bytes_eq name (codes "list")) _ _ es lists
    (pass (bytes_eq name (codes "stats")) _ _ es counts
    (pick (bytes_eq name (codes "style")) _ _ es (style_style es) refl)))))))))))))))

abbrev ViewAt : List Tree → List ℕ → Type 0
ViewAt es name = OfView (form_named name es)

either : (a b : Bool) (name : List ℕ) (es : List Tree) → (a || b) ≡ true → (a ≡ true → ViewAt es name) → (b ≡ true → ViewAt es name) → ViewAt es name
either true b name es h f g = f refl
either false b name es h f g = g h

named_so : (name word : List ℕ) (es : List Tree) → ViewAt es word → bytes_eq name word ≡ true → ViewAt es name
named_so name word es h e = subst (λ (n : List ℕ). ViewAt es n) (sym ((bytes_eq-Decides name word).0 e)) h

view_named_so : (name : List ℕ) (es : List Tree) → is_view_name name ≡ true → ViewAt es name
view_named_so name es h =
    either (bytes_eq name (codes "set-zoom")) _ name es h (named_so name (codes "set-zoom") es (zoom_view es)) (λ h1.
    either (bytes_eq name (codes "set-state")) _ name es h1 (named_so name (codes "set-state") es (state_view es)) (λ h2.
    either (bytes_eq name (codes "remove-state")) _ name es h2 (named_so name (codes "remove-state") es (removal_view es)) (λ h3.
    either (bytes_eq name (codes "list")) (bytes_eq name (codes "stats")) name es h3 (named_so name (codes "list") es (list_view es))
    (named_so name (codes "stats") es (stats_view es)))))

-- ---- lines

view_begins : (es : List Tree) → begins_a_view_line es ≡ true → is_kind true (edit_or_fault (array_form es)) ≡ true
view_begins [] h = refl
view_begins (text name ∷ es) h = view_named_so name es h
view_begins _ h = refl

view_line_kind : (t : Tree) → is_view_line t ≡ true → is_kind true (command_of t) ≡ true
view_line_kind null h = refl
view_line_kind (list ts) h = view_begins (elements_of ts) h
view_line_kind _ h = refl

nested_if : (b : Bool) (t : Tree) → is_view_line t ≡ b → is_kind true (if b then command_of t else Err Form) ≡ true
nested_if true t h = view_line_kind t h
nested_if false t h = refl

done_kind : (name : List ℕ) (r : Result Edit LineFault) → is_kind true r ≡ true → has_kind (done_in name r) ≡ true
done_kind name (Ok edit) h = h
done_kind name (Err fault) h = refl

view_form_kind : (es : List Tree) → has_kind (view_form es) ≡ true
view_form_kind [] = refl
view_form_kind (text name ∷ line ∷ []) = done_kind name (nested_command line) (nested_if (is_view_line line) line refl)
view_form_kind _ = refl

opened_kind : (name : List ℕ) (r : Result ℤ LineFault) → has_kind (opened_at name r) ≡ true
opened_kind name (Ok z) = refl
opened_kind name (Err fault) = refl

open_kind : (es : List Tree) → has_kind (open_form es) ≡ true
open_kind [] = refl
open_kind (text name ∷ number z ∷ []) = opened_kind name (in_bound (read_text z))
open_kind _ = refl

close_kind : (es : List Tree) → has_kind (close_form es) ≡ true
close_kind [] = refl
close_kind (text name ∷ []) = refl
close_kind _ = refl

style_edit_kind : (r : Result Edit LineFault) → is_kind false r ≡ true → has_kind (style_edit r) ≡ true
style_edit_kind (Ok edit) h = h
style_edit_kind (Err fault) h = refl

choose : (b : Bool) (r s : Result DeskEdit LineFault) → has_kind r ≡ true → (b ≡ false → has_kind s ≡ true) → has_kind (if b then r else s) ≡ true
choose true r s h k = h
choose false r s h k = k refl

named_kind : (ts : Trees) (name : List ℕ) (es : List Tree) → elements_of ts ≡ text name ∷ es → has_kind (command_named (list ts) name es) ≡ true
named_kind ts name es e =
    choose (bytes_eq name (codes "open-view")) _ _ (open_kind es) (λ a.
    choose (bytes_eq name (codes "close-view")) _ _ (close_kind es) (λ b.
    choose (bytes_eq name (codes "view")) _ _ (view_form_kind es) (λ c.
    choose (is_view_name name) (Err Form) _ refl (λ h.
    style_edit_kind (command_of (list ts)) (subst (λ (xs : List Tree). is_kind false (edit_or_fault (array_form xs)) ≡ true) (sym e) (style_named name es h))))))

array_kind : (ts : Trees) (es : List Tree) → elements_of ts ≡ es → has_kind (array_command (list ts) es) ≡ true
array_kind ts [] e = refl
array_kind ts (text name ∷ es) e = named_kind ts name es e
array_kind ts _ e = refl

tree_kind : (t : Tree) → has_kind (desk_command t) ≡ true
tree_kind null = refl
tree_kind (list ts) = array_kind ts (elements_of ts) refl
tree_kind _ = refl

-- what is done in a view belongs to a view, and what is done to the style does not
pub line_kind : (line : Option Tree) → has_kind (desk_line line) ≡ true
line_kind (Some t) = tree_kind t
line_kind None = refl
