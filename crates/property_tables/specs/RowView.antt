-- What contracts see of rows and of the entries of the table.
use Rattle.std.specs.Prelude.{ℕ, List, map}
use Rattle.property_tables.specs.Rows.{RowData, Limits, Default, numbered, absent, flag, amount, word, zeros, fonts}
use Rattle.property_tables.specs.declared.entry.TableEntry.{TableEntry}
use Rattle.property_tables.specs.declared.entry.Given.{Given}
use Rattle.property_tables.specs.declared.entry.Given.TheVariants as given
use Rattle.property_tables.specs.declared.property_row.Fallback.{Fallback}
use Rattle.property_tables.specs.declared.property_row.Fallback.TheVariants as fallbacks
use Rattle.property_tables.specs.declared.property_row.Row.{Row}

abbrev pub names_of : List TableEntry → List (List ℕ)
names_of es = map (λ e. e.name.now) es

abbrev pub given_seen : Given → Default
given_seen given.Absent = absent
given_seen (given.Flag b) = flag b
given_seen (given.Amount n) = amount n
given_seen (given.Word s) = word s.now
given_seen (given.Zeros n) = zeros n
given_seen given.Fonts = fonts

-- an entry has no number yet
abbrev pub entry_seen : TableEntry → RowData
entry_seen e = record {
  number = 0;
  name = e.name.now;
  place = e.place;
  want = e.want;
  fallback = given_seen e.given;
  limits = record { least = e.limits.least; most = e.limits.most };
  reads = record { zoom = e.reads.zoom; feature = e.reads.feature; state = e.reads.state; ramps = e.reads.ramps };
  takes_tokens = e.takes_tokens;
}

abbrev pub rows_seen : List TableEntry → List RowData
rows_seen es = numbered 0 (map entry_seen es)

abbrev pub fallback_seen : Fallback → Default
fallback_seen fallbacks.Absent = absent
fallback_seen (fallbacks.Flag b) = flag b
fallback_seen (fallbacks.Number n) = amount n
fallback_seen (fallbacks.Word s) = word s.now
fallback_seen (fallbacks.Zeros n) = zeros n
fallback_seen fallbacks.Fonts = fonts

abbrev pub limits_seen : Row → Limits
limits_seen r = record { least = r.least; most = r.most }

-- what the table has of a row
abbrev pub row_seen : Row → RowData
row_seen r = record {
  number = r.number;
  name = r.name.now;
  place = r.place;
  want = r.want;
  fallback = fallback_seen r.fallback;
  limits = limits_seen r;
  reads = record { zoom = r.zoom; feature = r.feature; state = r.state; ramps = r.ramps };
  takes_tokens = r.takes_tokens;
}

-- a row with its number
abbrev pub numbered_seen : Row → ℕ × RowData
numbered_seen r = (r.number, row_seen r)
