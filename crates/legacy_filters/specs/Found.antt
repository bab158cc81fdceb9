-- What the program finds at a key.
use Rattle.prop_values.specs.Data.{Data, number, text}
use Rattle.prop_values.specs.View.{data_of}
use Rattle.legacy_filters.specs.declared.found.TestedValue.{TestedValue}
use Rattle.legacy_filters.specs.declared.found.TestedValue.TheVariants.{Shape, Id, Property}

abbrev pub found_data : TestedValue → Data
found_data (Shape name) = text name.now
found_data (Id id) = number id
found_data (Property value) = data_of value.now
