-- One turn of the loop that looks tags up.
use Rattle.std.proofs.Common.{◌≡◌, ℕ, ◌<◌, ◌≤◌, inl, inr, List, [], ◌∷◌, refl, sym, ap, ◌∙◌, arith, length}
use Rattle.std.specs.Prelude.{◌⊎◌, Option, Some, None, option_map, slice_index, slice_index_or, slice_get}
use Rattle.std.proofs.lemmas.Option.{slice_get-get_or, slice_get_past}
use Rattle.prop_values.specs.Data.{Data}
use Rattle.prop_values.specs.Data as held
use Rattle.tile_reader.specs.Lookup.{AreFirsts, AreInside, put_pair, pair_seen, pairs_seen}
use Rattle.tile_reader.specs.Properties.{pair_before, named, put, put_all}
use Rattle.tile_reader.proofs.TextPlaces.{first_again}
use Rattle.tile_reader.proofs.Pairs.{put_seen}

-- what tags make of the pairs so far
abbrev pub after_pairs : List (List ℕ) → List Data → List (List ℕ × Data) → List ℕ → Option (List (List ℕ × Data))
after_pairs keys values earlier tags = option_map (put_all earlier) (named keys values tags)

put_first : (pair : List ℕ × Data) (earlier : List (List ℕ × Data)) (others : Option (List (List ℕ × Data))) → option_map (put_all earlier) (pair_before (Some pair.0) (Some pair.1) others) ≡ option_map (put_all (put pair earlier)) others
put_first pair earlier None = refl
put_first pair earlier (Some pairs) = refl

-- a pair more,
pub chosen_more : (firsts : List ℕ) (keys : List (List ℕ)) (values : List Data) (pairs : List (ℕ × ℕ)) (n key value : ℕ) (rest others : List ℕ) (whole : Option (List (List ℕ × Data))) → AreFirsts firsts keys → key < length keys → value < length values → AreInside firsts n pairs → rest ≡ key ∷ (value ∷ others) → after_pairs keys values (pairs_seen keys values pairs) rest ≡ whole → after_pairs keys values (pairs_seen keys values (put_pair (slice_index firsts key, value) pairs)) others ≡ whole
chosen_more firsts keys values pairs n key value rest others whole are key_below value_below inside front so_far =
    let (first_below, same_text, again) = first_again firsts keys key are key_below in
    let pair : List ℕ × Data = (slice_index_or keys key [], slice_index_or values value held.null) in
    let seen : ◌≡◌ {A = List ℕ × Data} (pair_seen keys values (slice_index firsts key, value)) pair = ap (λ (text : List ℕ). (text, slice_index_or values value held.null)) same_text in
    let is_put = put_seen firsts keys values (slice_index firsts key, value) pairs n are first_below again inside in
    sym (ap (after_pairs keys values (pairs_seen keys values pairs)) front
    ∙ ap (λ (k : Option (List ℕ)). option_map (put_all (pairs_seen keys values pairs)) (pair_before k (slice_get values value) (named keys values others))) (slice_get-get_or keys key [] key_below)
    ∙ ap (λ (v : Option Data). option_map (put_all (pairs_seen keys values pairs)) (pair_before (Some (slice_index_or keys key [])) v (named keys values others))) (slice_get-get_or values value held.null value_below)
    ∙ put_first pair (pairs_seen keys values pairs) (named keys values others)
    ∙ ap (λ (p : List ℕ × Data). after_pairs keys values (put p (pairs_seen keys values pairs)) others) (sym seen)
    ∙ ap (λ (ps : List (List ℕ × Data)). after_pairs keys values ps others) is_put) ∙ so_far

no_value : (earlier : List (List ℕ × Data)) (key : Option (List ℕ)) (others : Option (List (List ℕ × Data))) → option_map (put_all earlier) (pair_before key None others) ≡ None
no_value earlier None others = refl
no_value earlier (Some key) others = refl

-- a tag without a key or value,
pub chosen_none : (keys : List (List ℕ)) (values : List Data) (earlier : List (List ℕ × Data)) (key value : ℕ) (rest others : List ℕ) (whole : Option (List (List ℕ × Data))) → (length keys ≤ key) ⊎ (length values ≤ value) → rest ≡ key ∷ (value ∷ others) → after_pairs keys values earlier rest ≡ whole → whole ≡ None
chosen_none keys values earlier key value rest others whole (inl past) front so_far =
    sym so_far ∙ ap (after_pairs keys values earlier) front ∙ ap (λ (k : Option (List ℕ)). option_map (put_all earlier) (pair_before k (slice_get values value) (named keys values others))) (slice_get_past keys key past)
chosen_none keys values earlier key value rest others whole (inr past) front so_far =
    sym so_far ∙ ap (after_pairs keys values earlier) front ∙ ap (λ (v : Option Data). option_map (put_all earlier) (pair_before (slice_get keys key) v (named keys values others))) (slice_get_past values value past)
    ∙ no_value earlier (slice_get keys key) (named keys values others)

-- and the end
pub chosen_done : (keys : List (List ℕ)) (values : List Data) (earlier : List (List ℕ × Data)) (rest : List ℕ) (whole : Option (List (List ℕ × Data))) → length rest < 2 → after_pairs keys values earlier rest ≡ whole → whole ≡ Some earlier
chosen_done keys values earlier [] whole short so_far = sym so_far
chosen_done keys values earlier (tag ∷ []) whole short so_far = sym so_far
chosen_done keys values earlier (tag ∷ (other ∷ rest)) whole short so_far = absurd (omega arith)
