-- The four kinds of lists, by the lists of each slot.
use Rattle.std.proofs.Common.{◌≡◌, ℕ, ◌<◌, ◌≤◌, List, length, true, false, Option, Some, None, is_some, refl, sym, ap, ◌∙◌, subst, arith}
use Rattle.std.specs.Prelude.{IfSome, slice_get, OnOk, OnErr, Ok, Err, Result, replicate, ◌++◌, ◌-◌, [], ◌∷◌}
use Rattle.std.specs.List.{slice_index_or}
use Rattle.std.proofs.Common.{zero, suc, ◌+◌, length-append}
use Rattle.std.proofs.lemmas.List.{length-replicate}
use Rattle.index_lists.specs.SlotLists.{SlotLists, after_grow}
use Rattle.index_lists.specs.Holds.{MovesSlot}
use Rattle.index_lists.proofs.Holding.{free_of, listed_of, holds_same, holds_more, first_some, first_none, unmoved}
use Rattle.layer_buckets.specs.Listing.{no_lists, is_in, list_named, IsThere, AreThere, HoldAll, IsUnlisted, IsListedIn, MovesNumbers, Alike, AreAlike, HaveSlots, AreCounted, Grows, Widens, AreWider}
use Rattle.layer_buckets.specs.declared.lists.CauseLists.{CauseLists}
use Rattle.layer_buckets.specs.declared.lists.ListName.{ListName}
use Rattle.layer_buckets.specs.declared.lists.ListName.TheVariants.{Item, Zoom, Image, State}
use Rattle.layer_buckets.specs.declared.lists.ListNumbers.{ListNumbers}

pub not_some : (o : Option ℕ) → ((x : ℕ) → o ≡ Some x → ⊥) → o ≡ None
not_some None d = refl
not_some (Some x) d = absurd (d x refl)

pub unlisted : (lists : CauseLists) (h : ℕ → ListNumbers) (slot : ℕ) → HoldAll lists h → h slot ≡ no_lists → IsUnlisted lists slot
unlisted lists h slot k e = record {
  items = free_of lists.items (λ s. (h s).item) slot k.items (ap (λ (n : ListNumbers). n.item) e);
  zooms = free_of lists.zooms (λ s. (h s).zoom) slot k.zooms (ap (λ (n : ListNumbers). n.zoom) e);
  images = free_of lists.images (λ s. (h s).image) slot k.images (ap (λ (n : ListNumbers). n.image) e);
  states = free_of lists.states (λ s. (h s).state) slot k.states (ap (λ (n : ListNumbers). n.state) e);
}

pub listed_in : (lists : CauseLists) (h : ℕ → ListNumbers) (slot : ℕ) (n : ListNumbers) → HoldAll lists h → h slot ≡ n → IsListedIn lists n slot
listed_in lists h slot n k e = record {
  items = λ t. listed_of lists.items (λ s. (h s).item) slot k.items (ap (λ (m : ListNumbers). is_some m.item) e ∙ t);
  zooms = λ t. listed_of lists.zooms (λ s. (h s).zoom) slot k.zooms (ap (λ (m : ListNumbers). is_some m.zoom) e ∙ t);
  images = λ t. listed_of lists.images (λ s. (h s).image) slot k.images (ap (λ (m : ListNumbers). is_some m.image) e ∙ t);
  states = λ t. listed_of lists.states (λ s. (h s).state) slot k.states (ap (λ (m : ListNumbers). is_some m.state) e ∙ t);
}

pub moves_part : (part : ListNumbers → Option ℕ) (slot : ℕ) (n : ListNumbers) (h g : ℕ → ListNumbers) → MovesNumbers slot n h g → MovesSlot slot (part n) (λ s. part (h s)) (λ s. part (g s))
moves_part part slot n h g m = record { here = ap part m.here; others = λ x d. ap part (m.others x d) }

-- a slot that is in no list of a kind, and is put in none, is as it was
pub part_same : (part : ListNumbers → Option ℕ) (slot : ℕ) (n : ListNumbers) (h g : ℕ → ListNumbers) → part (h slot) ≡ None → part n ≡ None → MovesNumbers slot n h g → (x : ℕ) → part (g x) ≡ part (h x)
part_same part slot n h g before after m = unmoved slot None (λ s. part (h s)) (λ s. part (g s)) before (subst (λ o. MovesSlot slot o (λ s. part (h s)) (λ s. part (g s))) after (moves_part part slot n h g m))

pub hold_same : (lists : CauseLists) (h g : ℕ → ListNumbers) → HoldAll lists h → ((x : ℕ) → g x ≡ h x) → HoldAll lists g
hold_same lists h g k e = record {
  items = holds_same lists.items (λ s. (h s).item) (λ s. (g s).item) k.items (λ x. ap (λ (n : ListNumbers). n.item) (e x));
  zooms = holds_same lists.zooms (λ s. (h s).zoom) (λ s. (g s).zoom) k.zooms (λ x. ap (λ (n : ListNumbers). n.zoom) (e x));
  images = holds_same lists.images (λ s. (h s).image) (λ s. (g s).image) k.images (λ x. ap (λ (n : ListNumbers). n.image) (e x));
  states = holds_same lists.states (λ s. (h s).state) (λ s. (g s).state) k.states (λ x. ap (λ (n : ListNumbers). n.state) (e x));
}

-- ---- the first slot of a list

pub first_in : (lists : CauseLists) (h : ℕ → ListNumbers) (name : ListName) (slot : ℕ) → HoldAll lists h → slice_get (list_named lists name) 0 ≡ Some slot → is_in name (h slot) ≡ true
first_in lists h (Item l) slot k e = first_some lists.items (λ s. (h s).item) l slot k.items e
first_in lists h (Zoom l) slot k e = first_some lists.zooms (λ s. (h s).zoom) l slot k.zooms e
first_in lists h (Image l) slot k e = first_some lists.images (λ s. (h s).image) l slot k.images e
first_in lists h (State l) slot k e = first_some lists.states (λ s. (h s).state) l slot k.states e

pub none_in : (lists : CauseLists) (h : ℕ → ListNumbers) (name : ListName) → HoldAll lists h → slice_get (list_named lists name) 0 ≡ None → (slot : ℕ) → is_in name (h slot) ≡ false
none_in lists h (Item l) k e = first_none lists.items (λ s. (h s).item) l k.items e
none_in lists h (Zoom l) k e = first_none lists.zooms (λ s. (h s).zoom) l k.zooms e
none_in lists h (Image l) k e = first_none lists.images (λ s. (h s).image) l k.images e
none_in lists h (State l) k e = first_none lists.states (λ s. (h s).state) l k.states e

pub in_none : (name : ListName) → is_in name no_lists ≡ false
in_none (Item l) = refl
in_none (Zoom l) = refl
in_none (Image l) = refl
in_none (State l) = refl

-- ---- as many slots and lists

pub there_alike : (a b : CauseLists) (n : ListNumbers) → AreAlike a b → AreThere a n → AreThere b n
there_alike a b n e t = record {
  item = subst (λ c. IfSome n.item (λ l. l < c)) (sym e.items.lists) t.item;
  zoom = subst (λ c. IfSome n.zoom (λ l. l < c)) (sym e.zooms.lists) t.zoom;
  image = subst (λ c. IfSome n.image (λ l. l < c)) (sym e.images.lists) t.image;
  state = subst (λ c. IfSome n.state (λ l. l < c)) (sym e.states.lists) t.state;
}

pub have_alike : (a b : CauseLists) (count : ℕ) → AreAlike a b → HaveSlots a count → HaveSlots b count
have_alike a b count e h = record {
  items = subst (λ c. count ≤ c) (sym e.items.slots) h.items;
  zooms = subst (λ c. count ≤ c) (sym e.zooms.slots) h.zooms;
  images = subst (λ c. count ≤ c) (sym e.images.slots) h.images;
  states = subst (λ c. count ≤ c) (sym e.states.slots) h.states;
}

pub counted_alike : (a b : CauseLists) → AreAlike a b → AreCounted a → AreCounted b
counted_alike a b e k = record {
  items = record { slots = omega (arith, e.items.slots, e.slots, k.items.slots); lists = e.items.lists ∙ (k.items.lists ∙ sym e.item_lists) };
  zooms = record { slots = omega (arith, e.zooms.slots, e.slots, k.zooms.slots); lists = e.zooms.lists ∙ k.zooms.lists };
  images = record { slots = omega (arith, e.images.slots, e.slots, k.images.slots); lists = e.images.lists ∙ k.images.lists };
  states = record { slots = omega (arith, e.states.slots, e.slots, k.states.slots); lists = e.states.lists ∙ (k.states.lists ∙ sym e.state_lists) };
}

pub there_named : (a b : CauseLists) (name : ListName) → AreAlike a b → IsThere a name → IsThere b name
there_named a b (Item l) e t = subst (λ c. l < c) (sym e.items.lists) t
there_named a b (Zoom l) e t = subst (λ c. l < c) (sym e.zooms.lists) t
there_named a b (Image l) e t = subst (λ c. l < c) (sym e.images.lists) t
there_named a b (State l) e t = subst (λ c. l < c) (sym e.states.lists) t

alike_link : (r s t : SlotLists) → Alike r s → Alike s t → Alike r t
alike_link r s t a b = record { slots = b.slots ∙ a.slots; lists = b.lists ∙ a.lists }

pub alike_then : (a b d : CauseLists) → AreAlike a b → AreAlike b d → AreAlike a d
alike_then a b d e f = record {
  items = alike_link a.items b.items d.items e.items f.items;
  zooms = alike_link a.zooms b.zooms d.zooms e.zooms f.zooms;
  images = alike_link a.images b.images d.images e.images f.images;
  states = alike_link a.states b.states d.states e.states f.states;
  slots = f.slots ∙ e.slots;
  item_lists = f.item_lists ∙ e.item_lists;
  state_lists = f.state_lists ∙ e.state_lists;
}

alike_link_self : (s : SlotLists) → Alike s s
alike_link_self s = record { slots = refl; lists = refl }

pub alike_self : (a : CauseLists) → AreAlike a a
alike_self a = record {
  items = alike_link_self a.items;
  zooms = alike_link_self a.zooms;
  images = alike_link_self a.images;
  states = alike_link_self a.states;
  slots = refl;
  item_lists = refl;
  state_lists = refl;
}

-- ---- more slots

no_more : (xs : List (List ℕ)) (n l : ℕ) → slice_index_or (xs ++ replicate n []) l [] ≡ slice_index_or xs l []
no_more [] zero l = refl
no_more [] (suc n) zero = refl
no_more [] (suc n) (suc l) = no_more [] n l
no_more (x ∷ xs) n zero = refl
no_more (x ∷ xs) n (suc l) = no_more xs n l

length_none : (xs : List (List ℕ)) (n : ℕ) → n ≡ 0 → length (xs ++ replicate n []) ≡ length xs
length_none xs n e = ap (λ m. length (xs ++ replicate m [])) e ∙ ap length (append_none xs)
  where
    append_none : (xs : List (List ℕ)) → xs ++ [] ≡ xs
    append_none [] = refl
    append_none (x ∷ xs) = ap (λ ys. x ∷ ys) (append_none xs)

-- by what `grow` answers
pub grows : {A E : Type 0} (s t : SlotLists) (slots lists : ℕ) (r : Result A E) → s.slots ≤ slots → length s.lists ≡ lists → OnOk r (t ≡ after_grow s slots lists) → OnErr r (t ≡ s) → Grows s t slots
grows s t slots lists (Ok u) h l e f = subst (λ x. Grows s x slots) (sym e) (record {
  hold = λ list_of k. holds_more s (after_grow s slots lists) list_of (no_more s.lists (lists - length s.lists)) k;
  lists = length_none s.lists (lists - length s.lists) (omega (arith, l));
  more = h;
  most = omega arith;
})
grows s t slots lists (Err x) h l e f = subst (λ x. Grows s x slots) (sym f) (record { hold = λ list_of k. k; lists = refl; more = omega arith; most = h })

-- ---- more lists

longer_lists : (xs : List (List ℕ)) (n : ℕ) → length xs ≤ n → length (xs ++ replicate (n - length xs) []) ≡ n
longer_lists xs n h = length-append xs (replicate (n - length xs) []) ∙ (ap (λ m. length xs + m) (length-replicate (n - length xs) []) ∙ omega arith)

pub widens : {A E : Type 0} (s t : SlotLists) (slots lists : ℕ) (r : Result A E) → s.slots ≤ slots → length s.lists ≤ lists → OnOk r (t ≡ after_grow s slots lists) → OnErr r (t ≡ s) → Widens s t slots × OnOk r (length t.lists ≡ lists) × OnErr r (length t.lists ≡ length s.lists)
widens s t slots lists (Ok u) h l e f =
    let count = longer_lists s.lists lists l in (
      subst (λ x. Widens s x slots) (sym e) (record {
        hold = λ list_of k. holds_more s (after_grow s slots lists) list_of (no_more s.lists (lists - length s.lists)) k;
        lists = omega arith;
        more = h;
        most = omega arith;
      }),
      ap (λ (x : SlotLists). length x.lists) e ∙ count,
      tt,
    )
widens s t slots lists (Err x) h l e f = (subst (λ x. Widens s x slots) (sym f) (record { hold = λ list_of k. k; lists = omega arith; more = omega arith; most = h }), tt, ap (λ (x : SlotLists). length x.lists) f)

more_there : (o : Option ℕ) (m n : ℕ) → m ≤ n → IfSome o (λ l. l < m) → IfSome o (λ l. l < n)
more_there None m n h t = tt
more_there (Some l) m n h t = omega arith

pub wider_items : (a : CauseLists) (items : SlotLists) (n : ℕ) → Widens a.items items a.slots → AreWider a (record a { items = items; item_lists = n })
wider_items a items n w = record {
  hold = λ numbers k. record { items = w.hold (λ s. (numbers s).item) k.items; zooms = k.zooms; images = k.images; states = k.states };
  there = λ m t. record { item = more_there m.item (length a.items.lists) (length items.lists) w.lists t.item; zoom = t.zoom; image = t.image; state = t.state };
  have = λ count h. record { items = omega (arith, h.items, w.more); zooms = h.zooms; images = h.images; states = h.states };
}

pub counted_items : (a : CauseLists) (items : SlotLists) (n : ℕ) → AreCounted a → Widens a.items items a.slots → length items.lists ≡ n → AreCounted (record a { items = items; item_lists = n })
counted_items a items n k w e = record { items = record { slots = w.most; lists = e }; zooms = k.zooms; images = k.images; states = k.states }

pub wider_states : (a : CauseLists) (states : SlotLists) (n : ℕ) → Widens a.states states a.slots → AreWider a (record a { states = states; state_lists = n })
wider_states a states n w = record {
  hold = λ numbers k. record { items = k.items; zooms = k.zooms; images = k.images; states = w.hold (λ s. (numbers s).state) k.states };
  there = λ m t. record { item = t.item; zoom = t.zoom; image = t.image; state = more_there m.state (length a.states.lists) (length states.lists) w.lists t.state };
  have = λ count h. record { items = h.items; zooms = h.zooms; images = h.images; states = omega (arith, h.states, w.more) };
}

pub counted_states : (a : CauseLists) (states : SlotLists) (n : ℕ) → AreCounted a → Widens a.states states a.slots → length states.lists ≡ n → AreCounted (record a { states = states; state_lists = n })
counted_states a states n k w e = record { items = k.items; zooms = k.zooms; images = k.images; states = record { slots = w.most; lists = e } }

pub wider_self : (a : CauseLists) → AreWider a a
wider_self a = record { hold = λ numbers k. k; there = λ n t. t; have = λ count h. h }
