use Rattle.std.proofs.Common.{◌≡◌, take}
use Rattle.decimal_json.specs.View.{members_view}
use Rattle.style_migrate.specs.Mapped.{mapped_pairs}
use Rattle.style_migrate.specs.Migrated.{migrated_property}
use Rattle.style_migrate.proofs.properties.migrate_each.Given as goal

-- what was made are the members so far
abbrev pub invariant-loop-member : goal.invariant-loop-member
invariant-loop-member l = l.made ≡ mapped_pairs (migrated_property l.layer_type l.place) (members_view (take l.member-index l.member-items))
