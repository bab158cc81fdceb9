-- What a walk over the nodes has found so far: the first that reads what it may not, and the first `zoom`
-- that is misplaced.
use Rattle.std.specs.Prelude.{ℕ, List, [], ◌∷◌, Bool, false, not, ◌&&◌, ◌||◌, Option, Some, None, if◌then◌else◌}
use Rattle.decimal_json.specs.declared.paths.PathPart.{PathPart}
use Rattle.expr_types.specs.Allowed.{Allowed, is_input}
use Rattle.expr_types.specs.Visits.{Visit}
use Rattle.expr_types.specs.declared.misplaced_reads.MisplacedReads.{MisplacedReads}

abbrev pub first_path : Option (List PathPart) → Option (List PathPart) → Option (List PathPart)
first_path (Some path) later = Some path
first_path None later = later

abbrev pub path_if : Bool → List PathPart → Option (List PathPart)
path_if b path = if b then Some path else None

abbrev pub noted_if : Bool → Visit → MisplacedReads → MisplacedReads
noted_if allowed v s = record {
  unread = first_path s.unread (path_if (not allowed) v.path);
  zoom = first_path s.zoom (path_if (v.reads.zoom && (s.has_zoom || not (is_input v.standing))) v.path);
  has_zoom = s.has_zoom || v.reads.zoom;
}

abbrev pub all_noted : Allowed → List Visit → MisplacedReads → MisplacedReads
all_noted allows [] s = s
all_noted allows (v ∷ vs) s = all_noted allows vs (noted_if (allows v.reads) v s)

abbrev pub none_noted : MisplacedReads
none_noted = record { unread = None; zoom = None; has_zoom = false }
