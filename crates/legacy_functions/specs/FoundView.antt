-- What clauses see of the members that were found.
use Rattle.std.specs.Prelude.{Bool, true, false, codes, Option, Some, None, option_map, is_some, unwrap_or}
use Rattle.std.specs.Prelude.{if◌then◌else◌}
use Rattle.decimal_json.specs.Tree.{Fields, field_at}
use Rattle.legacy_functions.specs.declared.function.FunctionType.{FunctionType}
use Rattle.legacy_functions.specs.declared.function.FunctionType.TheVariants.{Exponential, Interval, Categorical}
use Rattle.legacy_functions.specs.declared.function.FunctionType.TheVariants.{Identity}
use Rattle.legacy_functions.specs.declared.members.FoundMembers.{FoundMembers}
use Rattle.legacy_functions.specs.Function.{Spelled, Way, stepped}
use Rattle.legacy_functions.specs.Form.{FunctionMembers, way_by, is_outside_way}
use Rattle.legacy_functions.specs.Parts.{spelled_seen, output_seen}

-- the members, of which two are in the object alone
abbrev pub members_seen : Fields → FoundMembers → FunctionMembers
members_seen fs found = record {
  kind = found.kind;
  base = option_map spelled_seen found.base;
  property = found.property;
  fallback = option_map output_seen found.fallback;
  stops = field_at (codes "stops") fs;
  has_space = is_some (field_at (codes "colorSpace") fs);
}

abbrev pub way_read : FoundMembers → Option Way
way_read found = way_by found.kind (option_map spelled_seen found.base)

-- the way that a function keeps: any one where it has no stops over numbers
abbrev pub way_kept : FunctionType → Option Spelled → Way
way_kept kind base = unwrap_or (way_by kind base) stepped

abbrev pub way_seen_for : FoundMembers → Way
way_seen_for found = way_kept found.kind (option_map spelled_seen found.base)

abbrev pub is_over_numbers : FunctionType → Bool
is_over_numbers Exponential = true
is_over_numbers Interval = true
is_over_numbers Categorical = false
is_over_numbers Identity = false

-- the way of a function that is inside
abbrev pub way_inside : FunctionType → Option Spelled → Bool → Option Way
way_inside kind base over_zooms =
    if is_outside_way (way_by kind base) over_zooms then None else Some (way_kept kind base)
