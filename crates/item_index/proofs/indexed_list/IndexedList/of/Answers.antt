use Rattle.std.proofs.Common.{subst, refl, List}
use Rattle.prop_values.specs.Data.{Data}
use Rattle.item_index.specs.Indexed.{IsItemIndex}
use Rattle.item_index.proofs.indexed_list.IndexedList.of.Goals as goal

pub invariant_of-result : goal.invariant_of-result
invariant_of-result c =
    let P : List Data → Type 0 = λ ds. IsItemIndex c.in_ok-index.index ds in
    record {
      listed = refl;
      items = subst P c.as_slice.ensures c.in_ok-index.ensures;
    }
