-- Members and items that are replaced by sound trees are sound: keys stay, so they are UTF-8, and none occurs
-- twice.
use Rattle.std.proofs.Common.{ℕ, suc, List}
use Rattle.decimal_json.specs.Tree.{members_of, Tree, null, boolean, number, text, list, object, Trees, no_trees, tree, Fields, no_fields, field}
use Rattle.decimal_json.specs.Sound.{IsSound, AreSound, HasSoundMembers, LacksKey, HasDistinctKeys}
use Rattle.style_migrate.specs.Migrated.{mapped_fields, mapped_items, with_values, with_items}

-- each sound tree at this place is replaced by a sound tree
abbrev pub KeepsSound : ℕ → (Tree → Tree) → Type 0
KeepsSound k change = (t : Tree) → IsSound k t → IsSound k (change t)

-- each sound member at this place, whatever its key
abbrev pub KeepsSoundMembers : ℕ → (List ℕ → Tree → Tree) → Type 0
KeepsSoundMembers k change = (key : List ℕ) → KeepsSound k (change key)

lacking_kept : (change : List ℕ → Tree → Tree) (key : List ℕ) (fs : Fields) → LacksKey key (members_of fs)
    → LacksKey key (members_of (mapped_fields change fs))
lacking_kept change key no_fields lacks = tt
lacking_kept change key (field k t fs) lacks = (lacks.0, lacking_kept change key fs lacks.1)

distinct_kept : (change : List ℕ → Tree → Tree) (fs : Fields) → HasDistinctKeys (members_of fs)
    → HasDistinctKeys (members_of (mapped_fields change fs))
distinct_kept change no_fields distinct = tt
distinct_kept change (field k t fs) distinct =
    (lacking_kept change k fs distinct.0, distinct_kept change fs distinct.1)

pub fields_stay_sound : (change : List ℕ → Tree → Tree) (k : ℕ) (fs : Fields) → KeepsSoundMembers k change
    → HasSoundMembers k fs → HasSoundMembers k (mapped_fields change fs)
fields_stay_sound change k no_fields keeps h = tt
fields_stay_sound change k (field key t fs) keeps h =
    (h.0, keeps key t h.1, fields_stay_sound change k fs keeps h.2)

pub items_stay_sound : (change : Tree → Tree) (k : ℕ) (ts : Trees) → KeepsSound k change → AreSound k ts
    → AreSound k (mapped_items change ts)
items_stay_sound change k no_trees keeps h = tt
items_stay_sound change k (tree t ts) keeps h = (keeps t h.0, items_stay_sound change k ts keeps h.1)

-- An object whose values are replaced.
pub values_stay_sound : (change : List ℕ → Tree → Tree) (k : ℕ) (t : Tree) → KeepsSoundMembers (suc k) change
    → IsSound k t → IsSound k (with_values change t)
values_stay_sound change k null keeps h = tt
values_stay_sound change k (boolean b) keeps h = tt
values_stay_sound change k (number n) keeps h = h
values_stay_sound change k (text s) keeps h = h
values_stay_sound change k (list ts) keeps h = h
values_stay_sound change k (object fs) keeps h =
    (h.0, distinct_kept change fs h.1, fields_stay_sound change (suc k) fs keeps h.2)

-- An array whose items are replaced.
pub array_stays_sound : (change : Tree → Tree) (k : ℕ) (t : Tree) → KeepsSound (suc k) change → IsSound k t
    → IsSound k (with_items change t)
array_stays_sound change k null keeps h = tt
array_stays_sound change k (boolean b) keeps h = tt
array_stays_sound change k (number n) keeps h = h
array_stays_sound change k (text s) keeps h = h
array_stays_sound change k (list ts) keeps h = (h.0, items_stay_sound change (suc k) ts keeps h.1)
array_stays_sound change k (object fs) keeps h = h
