-- The files of a map of names and bytes.
use Rattle.std.proofs.Common.{◌≡◌, ◌≢◌, ℕ, List, [], ◌∷◌, map, string_bytes, refl, sym, ap, ◌∙◌}
use Rattle.std.specs.Prelude.{Option, Some, None, String, Bool, true, false, cond}
use Rattle.std.specs.Option.{option_map}
use Rattle.std.specs.Global.{Global, Vec}
use Rattle.std.specs.Ordering.{nat_cmp, is_eq, eq_by_cmp}
use Rattle.std.specs.Cmp.{eq_by_cmp_equiv}
use Rattle.std.specs.Str.{bytes_eq}
use Rattle.std.specs.Cmp.Lexicographic.{slice_cmp, nat_list_cmp_total}
use Rattle.std.specs.BTreeMap.{BTreeMap, get_by_text, is_at, UpdatesBy}
use Rattle.std.specs.String.{string_cmp}
use Rattle.std.specs.Map.{lookup}
use Rattle.std.specs.FinMap as finite
use Rattle.std.proofs.lemmas.Map.Text.{btree_map_updates_text, is_eq-slice_cmp}
use Rattle.std.proofs.lemmas.Bool.{false_from_ne_true}
use Rattle.std.proofs.lemmas.Slice.Eq.{bytes_eq-Decides}
use Rattle.outside_io.specs.Contents.{Contents, bytes_of, with_file, no_files, named, contents}

chosen : {A B : Type 0} (f : A → B) (b : Bool) (x : A) (o : Option A) → cond b (Some (f x)) (option_map f o) ≡ option_map f (cond b (Some x) o)
chosen f true x o = refl
chosen f false x o = refl

found : (name : List ℕ) (es : List (String Global × Vec ℕ))
    → finite.find (slice_cmp nat_cmp) name (map named es) ≡ option_map (λ v. v.items) (lookup (is_at (λ k. slice_cmp nat_cmp name (string_bytes k))) es)
found name [] = refl
found name (e ∷ es) = ap (cond (is_eq (slice_cmp nat_cmp name (string_bytes e.0))) (Some e.1.items)) (found name es) ∙ chosen (λ v. v.items) (is_eq (slice_cmp nat_cmp name (string_bytes e.0))) e.1 _

-- what the files have under a name is what the map has
pub bytes_of-contents : (files : BTreeMap (String Global) (Vec ℕ)) (name : List ℕ) → bytes_of (contents files) name ≡ option_map (λ v. v.items) (get_by_text files name)
bytes_of-contents files name = finite.get-from_entries nat_list_cmp_total (map named files.entries) name ∙ found name files.entries

-- the tests of two maps agree, whichever of the two names comes first
same_test : (name other : List ℕ) → bytes_eq name other ≡ eq_by_cmp (slice_cmp nat_cmp) other name
same_test name other = sym (is_eq-slice_cmp name other) ∙ (eq_by_cmp_equiv nat_list_cmp_total).symm name other

-- a map that changed at one name has that file, and the others as before
pub contents-updated : (old new : BTreeMap (String Global) (Vec ℕ)) (name : List ℕ) (file : Vec ℕ)
    → UpdatesBy string_cmp (λ k. slice_cmp nat_cmp name (string_bytes k)) old new (Some file) → contents new ≡ with_file (contents old) name file.items
contents-updated old new name file updates =
    finite.same_map nat_list_cmp_total (finite.slice_cmp-IsAntisymmetric finite.nat_cmp-IsAntisymmetric) (contents new) (with_file (contents old) name file.items)
    (λ other.
    bytes_of-contents new other
    ∙ ap (option_map (λ v. v.items)) (btree_map_updates_text name old new (Some file) updates other)
    ∙ sym (chosen (λ v. v.items) (bytes_eq name other) file (get_by_text old other))
    ∙ ap (λ b. cond b (Some file.items) (option_map (λ v. v.items) (get_by_text old other))) (same_test name other)
    ∙ ap (cond (eq_by_cmp (slice_cmp nat_cmp) other name) (Some file.items)) (sym (bytes_of-contents old other))
    ∙ sym (finite.get-insert nat_list_cmp_total (contents old) name file.items other))

pub no_files-told : (name : List ℕ) → bytes_of no_files name ≡ None
no_files-told name = finite.get-empty (slice_cmp nat_cmp) name

pub with_file-told : (files : Contents) (name bytes : List ℕ) → bytes_of (with_file files name bytes) name ≡ Some bytes
with_file-told files name bytes =
    finite.get-insert nat_list_cmp_total files name bytes name
    ∙ ap (λ b. cond b (Some bytes) (bytes_of files name)) ((eq_by_cmp_equiv nat_list_cmp_total).refl name)

pub with_file-others : (files : Contents) (name bytes other : List ℕ) → other ≢ name → bytes_of (with_file files name bytes) other ≡ bytes_of files other
with_file-others files name bytes other differs =
    finite.get-insert nat_list_cmp_total files name bytes other
    ∙ ap (λ b. cond b (Some bytes) (bytes_of files other)) (is_eq-slice_cmp other name ∙ false_from_ne_true (bytes_eq other name) (λ same. differs ((bytes_eq-Decides other name).0 same)))
