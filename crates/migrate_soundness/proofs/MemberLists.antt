-- The members of an object as a list, and back.
use Rattle.std.proofs.Common.{◌≡◌, ℕ, List, refl, ap}
use Rattle.decimal_json.specs.Tree.{members_of, Tree, Fields, no_fields, field, fields_of}
use Rattle.decimal_json.specs.Sound.{LacksKey, HasDistinctKeys}
use Rattle.style_migrate.specs.Migrated.{mapped_fields}

pub members_back : (fs : Fields) → fields_of (members_of fs) ≡ fs
members_back no_fields = refl
members_back (field k t fs) = ap (field k t) (members_back fs)

lacking_kept : (change : List ℕ → Tree → Tree) (key : List ℕ) (fs : Fields) → LacksKey key (members_of fs)
    → LacksKey key (members_of (mapped_fields change fs))
lacking_kept change key no_fields lacks = tt
lacking_kept change key (field k t fs) lacks = (lacks.0, lacking_kept change key fs lacks.1)

-- members that are replaced keep their keys
pub distinct_kept : (change : List ℕ → Tree → Tree) (fs : Fields) → HasDistinctKeys (members_of fs)
    → HasDistinctKeys (members_of (mapped_fields change fs))
distinct_kept change no_fields distinct = tt
distinct_kept change (field k t fs) distinct =
    (lacking_kept change k fs distinct.0, distinct_kept change fs distinct.1)
