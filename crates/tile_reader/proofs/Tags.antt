-- Features whose tags are one after the other in one list.
use Rattle.std.proofs.Common.{◌≡◌, ℕ, suc, ◌+◌, ◌<◌, ◌≤◌, List, [], ◌∷◌, ◌++◌, refl, sym, ap, ◌∙◌, arith, length, take, drop, get_or, drop-cons, add-one}
use Rattle.std.proofs.lemmas.List.{take-append-le, drop-append-le, length-drop, take-append-drop}
use Rattle.std.proofs.Math.Seq.{take-length}
use Rattle.tile_reader.specs.declared.feature.TaggedFeature.{TaggedFeature}
use Rattle.tile_reader.specs.Feature.{Tagged}
use Rattle.tile_reader.specs.View.{tagged_seen, tagged_all, count_of_tags, HasAllTags}

-- no tags after all
pub drop_all : (tags : List ℕ) → drop (length tags) tags ≡ []
drop_all [] = refl
drop_all (tag ∷ tags) = drop_all tags

nothing : (tags : List ℕ) → length tags ≡ 0 → tags ≡ []
nothing [] e = refl
nothing (tag ∷ tags) e = absurd (omega arith)

-- one more feature, whose tags go after the others'
pub count_more : (features : List TaggedFeature) (feature : TaggedFeature) → count_of_tags (features ++ feature ∷ []) ≡ count_of_tags features + feature.count
count_more [] feature = omega arith
count_more (first ∷ features) feature = let later = count_more features feature in omega arith

more_at : (features : List TaggedFeature) (feature : TaggedFeature) (tags own : List ℕ) → count_of_tags features ≡ length tags → length own ≡ feature.count → tagged_all (features ++ feature ∷ []) (tags ++ own) ≡ tagged_all features tags ++ tagged_seen feature own ∷ []
more_at [] feature tags own all long =
    let none : tags ≡ [] = nothing tags (omega arith) in
    ap (λ (ts : List ℕ). tagged_seen feature (take feature.count (ts ++ own)) ∷ []) none
    ∙ ap (λ (n : ℕ). tagged_seen feature (take n own) ∷ []) (sym long) ∙ ap (λ (ts : List ℕ). tagged_seen feature ts ∷ []) (take-length own)
more_at (first ∷ features) feature tags own all long =
    let inside : first.count ≤ length tags = omega arith in
    let rest = length-drop first.count tags in
    ap (λ (ts : List ℕ). tagged_seen first ts ∷ tagged_all (features ++ feature ∷ []) (drop first.count (tags ++ own))) (take-append-le first.count tags own inside)
    ∙ ap (λ (ts : List ℕ). tagged_seen first (take first.count tags) ∷ tagged_all (features ++ feature ∷ []) ts) (drop-append-le first.count tags own inside)
    ∙ ap (λ (fs : List Tagged). tagged_seen first (take first.count tags) ∷ fs) (more_at features feature (drop first.count tags) own (omega arith) long)

pub tagged_more : (features : List TaggedFeature) (feature : TaggedFeature) (before after : List ℕ) → HasAllTags features before → take (length before) after ≡ before → length before + feature.count ≡ length after → tagged_all (features ++ feature ∷ []) after ≡ tagged_all features before ++ tagged_seen feature (drop (length before) after) ∷ []
tagged_more features feature before after all same long =
    let whole : before ++ drop (length before) after ≡ after = ap (λ (ts : List ℕ). ts ++ drop (length before) after) (sym same) ∙ take-append-drop (length before) after in
    let own = length-drop (length before) after in
    ap (tagged_all (features ++ feature ∷ [])) (sym whole) ∙ more_at features feature before (drop (length before) after) all (omega arith)

pub has_more : (features : List TaggedFeature) (feature : TaggedFeature) (before after : List ℕ) → HasAllTags features before → length before + feature.count ≡ length after → HasAllTags (features ++ feature ∷ []) after
has_more features feature before after all long = let more = count_more features feature in omega arith

-- the features that are left from a place on, with the tags that are left
pub left_from : (all : List TaggedFeature) (i : ℕ) (feature : TaggedFeature) → i < length all → feature ≡ get_or all i feature → drop i all ≡ feature ∷ drop (i + 1) all
left_from all i feature below is =
    drop-cons all i feature below ∙ ap (λ (f : TaggedFeature). f ∷ drop (suc i) all) (sym is) ∙ ap (λ (n : ℕ). feature ∷ drop n all) (sym (add-one i))

pub front_inside : (all : List TaggedFeature) (i : ℕ) (feature : TaggedFeature) (rest : List ℕ) → i < length all → feature ≡ get_or all i feature → HasAllTags (drop i all) rest → feature.count ≤ length rest
front_inside all i feature rest below is has =
    let split : count_of_tags (drop i all) ≡ feature.count + count_of_tags (drop (i + 1) all) = ap count_of_tags (left_from all i feature below is) in omega arith

pub has_left : (all : List TaggedFeature) (i : ℕ) (feature : TaggedFeature) (rest others : List ℕ) → i < length all → feature ≡ get_or all i feature → HasAllTags (drop i all) rest → others ≡ drop feature.count rest → HasAllTags (drop (i + 1) all) others
has_left all i feature rest others below is has left =
    let split : count_of_tags (drop i all) ≡ feature.count + count_of_tags (drop (i + 1) all) = ap count_of_tags (left_from all i feature below is) in
    let rest_long = length-drop feature.count rest in
    let others_long : length others ≡ length (drop feature.count rest) = ap length left in
    omega arith
