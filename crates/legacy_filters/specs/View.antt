-- Which filter a value of the program is.
use Rattle.std.specs.Prelude.{List, map, Result, Ok, Err}
use Rattle.legacy_filters.specs.declared.filter.FilterFault.{FilterFault}
use Rattle.legacy_filters.specs.declared.filter.LegacyFilter.{LegacyFilter}
use Rattle.legacy_filters.specs.declared.filter.Part.{Part, fold-Part}
use Rattle.legacy_filters.specs.declared.filter.Part.TheOpen.{Part-F}
use Rattle.legacy_filters.specs.Filter.{Filter, flag, test, group, Filters, filters_of}
use Rattle.legacy_filters.specs.Form.{FilterRead}

-- one level, with each part inside already seen as its filter
abbrev pub part_step : Part-F Filter → Filter
part_step (Part-F.Flag b) = flag b
part_step (Part-F.Test key t) = test key t
part_step (Part-F.Group g parts) = group g (filters_of parts.items)

abbrev pub part_filter : Part → Filter
part_filter = fold-Part Filter part_step

abbrev pub part_filters : List Part → Filters
part_filters parts = filters_of (map part_filter parts)

-- The filter of a value: each variant is the form of its name. Source: own.
abbrev pub filter_of : LegacyFilter → Filter
filter_of f = part_filter f.whole

-- what was read, as definitions see it
abbrev pub read_of : Result LegacyFilter FilterFault → FilterRead
read_of (Ok f) = Ok (filter_of f)
read_of (Err fault) = Err fault

abbrev pub part_read : Result Part FilterFault → FilterRead
part_read (Ok part) = Ok (part_filter part)
part_read (Err fault) = Err fault
