-- What is seen of nodes after each call.
use Rattle.std.proofs.Common.{◌≡◌, ℕ, ◌+◌, ◌-◌, ◌<◌, ◌≤◌, List, [], ◌++◌, map, length, sym, ap, subst, ◌∙◌, arith, append-nil}
use Rattle.std.specs.Prelude.{Result, Ok, Err, OnOk, OnErr, replicate}
use Rattle.std.specs.List.{slice_index_or}
use Rattle.index_lists.specs.declared.nodes.Nodes.{Nodes}
use Rattle.index_lists.specs.Nodes.{slot_count, list_count, after, before, IsNode, next_out, prev_out, next_into, prev_into, KeepsLinks, AddsRounds}
use Rattle.index_lists.specs.Rounds.{head, Keeps, lists_of, seen, KeepsLists}
use Rattle.index_lists.specs.SlotLists.{times, without, placed, AreDisjoint, after_grow}
use Rattle.index_lists.proofs.Times.{pushed}
use Rattle.index_lists.proofs.Chains.{last_holds}
use Rattle.index_lists.proofs.Turns.{rounds_prev, rounds_next, times_in_list}
use Rattle.index_lists.proofs.Kept.{read, same_links, list_round, unlinked, inserted, pushed_last, grown}

-- these nodes keep these lists
abbrev pub AreKept : Nodes → List (List ℕ) → Type 0
AreKept nodes lists = Keeps (after nodes) (before nodes) (slot_count nodes) (list_count nodes) lists

-- then these are the lists that are seen
pub seen_lists : (nodes : Nodes) (lists : List (List ℕ)) → AreKept nodes lists → lists_of nodes ≡ lists
seen_lists nodes lists k = read (after nodes) (before nodes) (slot_count nodes) (list_count nodes) lists k

pub sound : (nodes : Nodes) (lists : List (List ℕ)) → AreKept nodes lists → KeepsLists nodes
sound nodes lists k = subst (AreKept nodes) (sym (seen_lists nodes lists k)) k

pub seen_as : (nodes : Nodes) (lists : List (List ℕ)) (slots : ℕ) → AreKept nodes lists → slot_count nodes ≡ slots → seen nodes ≡ record { slots = slots; lists = lists }
seen_as nodes lists slots k e = let l = seen_lists nodes lists k in λ i. record { slots = e i; lists = l i }

-- nodes whose links are these
linked : (old new : Nodes) (f g : ℕ → ℕ) (lists : List (List ℕ)) → slot_count new ≡ slot_count old → list_count new ≡ list_count old → ((k : ℕ) → after new k ≡ f k) → ((k : ℕ) → before new k ≡ g k)
    → Keeps f g (slot_count old) (list_count old) lists → AreKept new lists
linked old new f g lists s l a b k =
    subst (λ c. Keeps (after new) (before new) (slot_count new) c lists) (sym l)
    (subst (λ c. Keeps (after new) (before new) c (list_count old) lists) (sym s) (same_links f g (after new) (before new) (slot_count old) (list_count old) lists a b k))

-- the heads and the slots are nodes

head_node : (slots count list : ℕ) → slots + count ≤ 4294967296 → list < count → IsNode slots count (head list)
head_node slots count list fits h = λ beyond. omega (arith, fits, h)

slot_node : (slots count slot : ℕ) → slot < slots → IsNode slots count slot
slot_node slots count slot h = λ beyond. absurd (omega (arith, h, beyond))

module _ (nodes : Nodes) (k : KeepsLists nodes) where
  pub before_slot : (slot : ℕ) → 0 < times slot (lists_of nodes) → IsNode (slot_count nodes) (list_count nodes) (before nodes slot)
  before_slot slot t =
      rounds_prev (IsNode (slot_count nodes) (list_count nodes)) (after nodes) (before nodes) slot 0 (lists_of nodes) k.rounds
      (λ m h. head_node (slot_count nodes) (list_count nodes) m k.fits (omega (arith, h, k.counted)))
      (λ y u. slot_node (slot_count nodes) (list_count nodes) y (k.within y u)) t

  pub after_slot : (slot : ℕ) → 0 < times slot (lists_of nodes) → IsNode (slot_count nodes) (list_count nodes) (after nodes slot)
  after_slot slot t =
      rounds_next (IsNode (slot_count nodes) (list_count nodes)) (after nodes) (before nodes) slot 0 (lists_of nodes) k.rounds
      (λ m h. head_node (slot_count nodes) (list_count nodes) m k.fits (omega (arith, h, k.counted)))
      (λ y u. slot_node (slot_count nodes) (list_count nodes) y (k.within y u)) t

  pub before_list : (list : ℕ) → list < list_count nodes → IsNode (slot_count nodes) (list_count nodes) (before nodes (head list))
  before_list list h =
      last_holds (IsNode (slot_count nodes) (list_count nodes)) (after nodes) (before nodes) (head list) (slice_index_or (lists_of nodes) list []) (head list)
      (list_round (after nodes) (before nodes) (slot_count nodes) (list_count nodes) (lists_of nodes) k list h)
      (head_node (slot_count nodes) (list_count nodes) list k.fits h)
      (λ y u. slot_node (slot_count nodes) (list_count nodes) y (k.within y (omega (arith, u, times_in_list y list (lists_of nodes)))))

  pub disjoint : AreDisjoint (seen nodes)
  disjoint = record { once = k.once; within = k.within }

module _ (old new : Nodes) (k : KeepsLists old) (s : slot_count new ≡ slot_count old) (l : list_count new ≡ list_count old) where
  pub after_unlinking : (slot : ℕ) → 0 < times slot (lists_of old) → ((y : ℕ) → after new y ≡ next_out (after old) (before old) slot y) → ((y : ℕ) → before new y ≡ prev_out (after old) (before old) slot y)
      → AreKept new (map (without slot) (lists_of old))
  after_unlinking slot t a b =
      linked old new (next_out (after old) (before old) slot) (prev_out (after old) (before old) slot) (map (without slot) (lists_of old)) s l a b
      (unlinked (after old) (before old) (slot_count old) (list_count old) (lists_of old) k slot t)

  pub after_inserting : (slot other : ℕ) → slot < slot_count old → times slot (lists_of old) ≡ 0 → 0 < times other (lists_of old)
      → ((y : ℕ) → after new y ≡ next_into (after old) (before old) other slot y) → ((y : ℕ) → before new y ≡ prev_into (after old) (before old) other slot y)
      → AreKept new (map (placed slot other) (lists_of old))
  after_inserting slot other h m t a b =
      linked old new (next_into (after old) (before old) other slot) (prev_into (after old) (before old) other slot) (map (placed slot other) (lists_of old)) s l a b
      (inserted (after old) (before old) (slot_count old) (list_count old) (lists_of old) k slot other h m t)

  pub after_pushing : (list slot : ℕ) → list < list_count old → slot < slot_count old → times slot (lists_of old) ≡ 0
      → ((y : ℕ) → after new y ≡ next_into (after old) (before old) (head list) slot y) → ((y : ℕ) → before new y ≡ prev_into (after old) (before old) (head list) slot y)
      → AreKept new (pushed list slot (lists_of old))
  after_pushing list slot hl h m a b =
      linked old new (next_into (after old) (before old) (head list) slot) (prev_into (after old) (before old) (head list) slot) (pushed list slot (lists_of old)) s l a b
      (pushed_last (after old) (before old) (slot_count old) (list_count old) (lists_of old) k list slot hl h m)

  -- where nothing is added, the links stay
  pub after_nothing : KeepsLinks old new → AreKept new (lists_of old)
  after_nothing links = subst (AreKept new) all (grown (after old) (before old) (after new) (before new) (slot_count old) (list_count old) (slot_count new) (list_count new) new.fits
      (omega (arith, s)) (omega (arith, l))
      (λ y h. (links.slots_after y h, links.slots_before y h)) (λ m h. (links.lists_after m h, links.lists_before m h))
      (λ y a b. absurd (omega (arith, s, a, b))) (λ m a b. absurd (omega (arith, l, a, b))) (lists_of old) k)
    where
      none : list_count new - list_count old ≡ 0
      none = omega (arith, l)

      all : lists_of old ++ replicate (list_count new - list_count old) [] ≡ lists_of old
      all = ap (λ more. lists_of old ++ replicate more []) none ∙ append-nil (lists_of old)

-- more slots and lists
pub after_growing : (old new : Nodes) → KeepsLists old → slot_count old ≤ slot_count new → list_count old ≤ list_count new → KeepsLinks old new → AddsRounds old new
    → AreKept new (lists_of old ++ replicate (list_count new - list_count old) [])
after_growing old new k s l links added =
    grown (after old) (before old) (after new) (before new) (slot_count old) (list_count old) (slot_count new) (list_count new) new.fits s l
    (λ y h. (links.slots_after y h, links.slots_before y h)) (λ m h. (links.lists_after m h, links.lists_before m h))
    (λ y a b. (added.slots_after y a b, added.slots_before y a b)) (λ m a b. (added.lists_after m a b, added.lists_before m a b)) (lists_of old) k

-- nodes from nothing
pub after_starting : (old new : Nodes) → slot_count old ≡ 0 → list_count old ≡ 0 → KeepsLinks old new → AddsRounds old new → AreKept new (replicate (list_count new) [])
after_starting old new s l links added =
    let none : AreKept old [] = record {
      counted = sym l;
      fits = omega (arith, s, l);
      rounds = tt;
      once = λ y. omega arith;
      within = λ y t. absurd (omega (arith, t));
      free_next = λ y h t. absurd (omega (arith, s, h));
      free_prev = λ y h t. absurd (omega (arith, s, h));
    } in
    let P : List (List ℕ) → Type 0 = λ lists. AreKept new (lists ++ replicate (list_count new - list_count old) []) in
    let more : list_count new - list_count old ≡ list_count new = omega (arith, l) in
    subst (λ m. AreKept new (replicate m [])) more
    (subst P (seen_lists old [] none) (after_growing old new (sound old [] none) (omega (arith, s)) (omega (arith, l)) links added))

-- a call that grows, by its answer
module _ (old new : Nodes) (slots lists : ℕ) (k : KeepsLists old) (s : slot_count old ≤ slots) (l : list_count old ≤ lists) (links : KeepsLinks old new) where
  grows : (slot_count new ≡ slots) × (list_count new ≡ lists) → AddsRounds old new → AreKept new (lists_of old ++ replicate (list_count new - list_count old) [])
  grows is added = after_growing old new k (omega (arith, s, is.0)) (omega (arith, l, is.1)) links added

  pub growing_sound : {T E : Type 0} (r : Result T E) → OnOk r ((slot_count new ≡ slots) × (list_count new ≡ lists)) → OnOk r (AddsRounds old new)
      → OnErr r ((slot_count new ≡ slot_count old) × (list_count new ≡ list_count old)) → KeepsLists new
  growing_sound (Ok done) is added same = sound new (lists_of old ++ replicate (list_count new - list_count old) []) (grows is added)
  growing_sound (Err lack) is added same = sound new (lists_of old) (after_nothing old new k same.0 same.1 links)

  pub growing_ok : {T E : Type 0} (r : Result T E) → OnOk r ((slot_count new ≡ slots) × (list_count new ≡ lists)) → OnOk r (AddsRounds old new)
      → OnOk r (seen new ≡ after_grow (seen old) slots lists)
  growing_ok (Ok done) is added =
      let more : list_count new - list_count old ≡ lists - length (lists_of old) = omega (arith, is.1, k.counted) in
      seen_as new (lists_of old ++ replicate (list_count new - list_count old) []) slots (grows is added) is.0
      ∙ ap (λ m. record { slots = slots; lists = lists_of old ++ replicate m [] }) more
  growing_ok (Err lack) is added = tt

  pub growing_err : {T E : Type 0} (r : Result T E) → OnErr r ((slot_count new ≡ slot_count old) × (list_count new ≡ list_count old)) → OnErr r (seen new ≡ seen old)
  growing_err (Ok done) same = tt
  growing_err (Err lack) same = seen_as new (lists_of old) (slot_count old) (after_nothing old new k same.0 same.1 links) same.0
