-- Documents whose layers are taken out and put back.
use Rattle.std.proofs.Common.{◌≡◌, List, ap, sym, ◌∙◌, subst}
use Rattle.std.specs.Prelude.{codes, Some, Result, Ok, Err, IfOk, OnOk, OnErr}
use Rattle.decimal_json.specs.Accessors.{member, trees_in}
use Rattle.decimal_json.specs.Tree.{Tree, null, list, trees_of}
use Rattle.decimal_json.specs.View.{items_view, trees}
use Rattle.decimal_json.specs.declared.tree.Json.{Json}
use Rattle.edit_script.specs.Form.{elements_of}
use Rattle.edit_script.proofs.Elements.{elements_made}
use Rattle.style_edits.specs.Layers.{layer_list, with_list, with_changed, with_layers}
use Rattle.style_edits.specs.Taking.{HasLayers, TakesLayers}
use Rattle.style_edits.specs.Undone.{undone_layers, IsWithin, IsUndo}
use Rattle.style_edits.specs.declared.undo.Undo.{Undo}
use Rattle.style_parts.specs.Parts.{layers_of}
use Rattle.style_edits.proofs.ObjectLaws.{object_replaced_again, member_replaced, object_itself}

-- the layers of a document of the program, as a list
pub layers_listed : (document : Tree) (js : List Json) → trees js ≡ layers_of document → items_view js ≡ layer_list document
layers_listed document js h = sym (elements_made (items_view js)) ∙ ap elements_of h

-- the layers are there after they were put
layers_put : (before after : Tree) (ts ls : List Tree) → HasLayers before ts → after ≡ with_list ls before → HasLayers after ls
layers_put before after ts ls h e =
    ap (member (codes "layers")) e ∙ member_replaced (codes "layers") (list (trees_of ts)) (list (trees_of ls)) before h

pub listed : (document : Tree) (ts : List Tree) → HasLayers document ts → layer_list document ≡ ts
listed document ts h = ap (λ o. elements_of (trees_in o)) h ∙ elements_made ts

changed_with : (document : Tree) (ts : List Tree) (change : List Tree → List Tree) → HasLayers document ts
    → with_layers change document ≡ with_list (change ts) document
changed_with document ts change h =
    ap (λ o. with_changed change o document) h ∙ ap (λ xs. with_list (change xs) document) (elements_made ts)

put_itself : (document : Tree) (ts : List Tree) → HasLayers document ts → with_list ts document ≡ document
put_itself document ts h = object_itself (codes "layers") (list (trees_of ts)) document h

put_again : (document : Tree) (ts ls : List Tree) → with_list ls (with_list ts document) ≡ with_list ls document
put_again document ts ls = object_replaced_again (codes "layers") (list (trees_of ts)) (list (trees_of ls)) document

pub taken_list : (before hole : Tree) (ts : List Tree) → TakesLayers before (Some ts) hole → layer_list before ≡ ts
taken_list before hole ts taken = listed before ts taken.0

-- layers that were taken out of a document, and others that were put back
module _ (before hole after : Tree) (ts ls : List Tree) (taken : TakesLayers before (Some ts) hole) (put : after ≡ with_list ls hole) where
  put_over : after ≡ with_list ls before
  put_over = put ∙ (ap (with_list ls) taken.1 ∙ object_replaced_again (codes "layers") null (list (trees_of ls)) before)

  pub put_changed : (change : List Tree → List Tree) → ls ≡ change ts → after ≡ with_layers change before
  put_changed change h = put_over ∙ (ap (λ xs. with_list xs before) h ∙ sym (changed_with before ts change taken.0))

  pub put_same : ls ≡ ts → after ≡ before
  put_same h = put_over ∙ (ap (λ xs. with_list xs before) h ∙ put_itself before ts taken.0)

  pub undo_put : (undo : Undo) → IsWithin undo ls → undone_layers undo ls ≡ ts → IsUndo undo before after
  undo_put undo within back =
      let there = layers_put before after ts ls taken.0 put_over in (
        subst (IsWithin undo) (sym (listed after ls there)) within,
        changed_with after ls (undone_layers undo) there
            ∙ (ap (with_list (undone_layers undo ls)) put_over
            ∙ (put_again before ls (undone_layers undo ls)
            ∙ (ap (λ xs. with_list xs before) back ∙ put_itself before ts taken.0))),
      )

-- ---- what holds where a call succeeded, or failed

module _ {A E : Type 0} where
  pub on_ok : (r : Result A E) (P Q : Type 0) → (P → Q) → OnOk r P → OnOk r Q
  on_ok (Ok a) P Q f h = f h
  on_ok (Err e) P Q f h = h

  pub on_err : (r : Result A E) (P Q : Type 0) → (P → Q) → OnErr r P → OnErr r Q
  on_err (Ok a) P Q f h = h
  on_err (Err e) P Q f h = f h

  pub if_ok : (r : Result A E) (P Q R : A → Type 0) → ((a : A) → P a → Q a → R a) → IfOk r P → IfOk r Q → IfOk r R
  if_ok (Ok a) P Q R f h k = f a h k
  if_ok (Err e) P Q R f h k = h
