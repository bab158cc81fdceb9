-- The style and the script of the generator. Source: own.
use Rattle.std.specs.Prelude.{ℕ, zero, suc, List, [], ◌∷◌, ◌++◌, codes, decimal}

-- circles whose size grows with the zoom by the rank, and whose opacity is a state's; of the features of a rank below
-- 50
abbrev pub generated_style : List ℕ
generated_style = codes
    "{\"version\":8,\"sources\":{\"t\":{\"type\":\"vector\"}},\"layers\":[{\"id\":\"p\",\"type\":\"circle\",\"source\":\"t\",\"source-layer\":\"p\",\"filter\":[\"<\",[\"number\",[\"get\",\"r\"]],50],\"paint\":{\"circle-radius\":[\"interpolate\",[\"linear\"],[\"zoom\"],0,1,10,[\"number\",[\"get\",\"r\"]]],\"circle-opacity\":[\"number\",[\"feature-state\",\"o\"],1]}}]}"

abbrev pub list_line : List ℕ
list_line = codes "[\"list\"]"

abbrev pub zoom_line : List ℕ
zoom_line = codes "[\"set-zoom\",5]"

-- the feature of this id gets a state
abbrev pub state_line : ℕ → List ℕ
state_line id = codes "[\"set-state\",\"t\",\"p\"," ++ (decimal id ++ codes ",{\"o\":0.5}]")

-- of so many features, from this id on
abbrev pub state_lines : (count id : ℕ) → List (List ℕ)
state_lines zero id = []
state_lines (suc count) id = state_line id ∷ state_lines count (suc id)

-- The lines of the script: a listing, one at another zoom, and one after each feature has a state.
abbrev pub generated_lines : ℕ → List (List ℕ)
generated_lines count = list_line ∷ zoom_line ∷ list_line ∷ (state_lines count 1 ++ list_line ∷ [])
