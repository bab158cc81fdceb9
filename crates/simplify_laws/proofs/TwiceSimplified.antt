-- A `let` without its first binding is constant.
use Rattle.std.proofs.Common.{◌≡◌, ◌∙◌, refl, ap, sym}
use Rattle.std.specs.Prelude.{codes, true}
use Rattle.decimal_json.specs.Tree.{Tree, boolean, text, list, object, tree, no_trees, field, no_fields}
use Rattle.style_simplify.specs.SimplifiedStyle.{simplified}
use Rattle.simplify_laws.specs.TwiceLaw.{SimplifyingTwiceMayDoMore}

-- a document of one layer with a filter
abbrev with_filter : Tree → Tree
with_filter filter = object (field (codes "layers") (list (tree (object (field (codes "filter") filter no_fields)) no_trees)) no_fields)

abbrev once : Tree
once = list (tree (text (codes "let")) (tree (text (codes "b")) (tree (boolean true) (tree (list (tree (text (codes "var")) (tree (text (codes "b")) no_trees))) no_trees))))

abbrev asked : Tree
asked = list (tree (text (codes "has")) (tree (text (codes "r")) no_trees))

abbrev whole : Tree
whole = list (tree (text (codes "let")) (tree (text (codes "a")) (tree asked (tree (text (codes "b")) (tree (boolean true) (tree (list (tree (text (codes "var")) (tree (text (codes "b")) no_trees))) no_trees))))))

first : simplified (with_filter whole) ≡ with_filter once
first = refl

second : simplified (with_filter once) ≡ with_filter (boolean true)
second = refl

apart : with_filter (boolean true) ≡ with_filter once → ⊥
apart h = absurd (cc)

pub twice : SimplifyingTwiceMayDoMore
twice = (with_filter whole, λ h. apart (sym second ∙ (sym (ap simplified first) ∙ (h ∙ first))))
