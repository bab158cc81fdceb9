-- Packed numbers one after the other, and the tags that a loop over them has added.
use Rattle.std.proofs.Common.{◌≡◌, ℕ, zero, suc, ◌<◌, ◌≤◌, List, [], ◌∷◌, ◌++◌, refl, sym, ap, ◌∙◌, arith, length, append_assoc}
use Rattle.std.specs.Prelude.{Result, Ok, Err}
use Rattle.std.proofs.lemmas.List.{length-append, append-nil}
use Rattle.proto_wire.specs.declared.wire.WireKind.{WireKind}
use Rattle.proto_wire.specs.Varint.{varint_at}
use Rattle.proto_wire.proofs.VarintLaws.{varint_front}
use Rattle.tile_reader.specs.declared.fault.TileKind.TheVariants.{Wire}
use Rattle.tile_reader.specs.declared.fault.TileFault.{TileFault}
use Rattle.tile_reader.specs.Read.{◌then◌}
use Rattle.tile_reader.specs.Feature.{number_before, number_after, numbers_within, packed, placed}

-- a varint takes a byte at least
varint_takes : (b : List ℕ) (n : ℕ) (rest : List ℕ) → varint_at b ≡ Ok (n, rest) → length rest < length b
varint_takes b n rest e =
    let (front, cut, some) = varint_front b n rest e in
    let long : length b ≡ length (front ++ rest) = ap length cut in
    let both = length-append front rest in
    omega (arith, long, both)

same_numbers : (b : List ℕ) (F G : List ℕ → Result (List ℕ) WireKind) (read : Result (ℕ × List ℕ) WireKind) → varint_at b ≡ read → ((rest : List ℕ) → length rest < length b → F rest ≡ G rest) → number_before read F ≡ number_before read G
same_numbers b F G (Err kind) e same = refl
same_numbers b F G (Ok (n, rest)) e same = ap (number_after n) (same rest (varint_takes b n rest e))

enough : (n m : ℕ) (b : List ℕ) → length b ≤ n → length b ≤ m → numbers_within n b ≡ numbers_within m b
enough zero zero [] p q = refl
enough zero (suc m) [] p q = refl
enough (suc n) zero [] p q = refl
enough (suc n) (suc m) [] p q = refl
enough zero m (c ∷ b) p q = absurd (omega arith)
enough (suc n) zero (c ∷ b) p q = absurd (omega arith)
enough (suc n) (suc m) (c ∷ b) p q = same_numbers (c ∷ b) (numbers_within n) (numbers_within m) (varint_at (c ∷ b)) refl (λ rest fewer. enough n m rest (omega arith) (omega arith))

pub packed_end : (b : List ℕ) → b ≡ [] → packed b ≡ Ok []
unfolding packed
packed_end [] e = refl
packed_end (c ∷ b) e = absurd (cc)

pub packed_front : (b : List ℕ) → 0 < length b → packed b ≡ number_before (varint_at b) packed
unfolding packed
packed_front [] some = absurd (omega arith)
packed_front (c ∷ b) some = same_numbers (c ∷ b) (numbers_within (length b)) (λ rest. numbers_within (length rest) rest) (varint_at (c ∷ b)) refl (λ rest fewer. enough (length b) (length rest) rest (omega arith) (omega arith))

-- what packed numbers add to tags
abbrev pub added : ℕ → List ℕ → Result (List ℕ) WireKind → Result (List ℕ) TileFault
added at tags numbers = placed at numbers then λ more. Ok (tags ++ more)

one_more : (at tag : ℕ) (tags : List ℕ) (numbers : Result (List ℕ) WireKind) → added at tags (number_after tag numbers) ≡ added at (tags ++ tag ∷ []) numbers
one_more at tag tags (Ok ns) = ap Ok (sym (append_assoc tags (tag ∷ []) ns))
one_more at tag tags (Err kind) = refl

-- One turn of the loop, where `whole` is what all numbers add: one more number,
pub packed_more : (at tag : ℕ) (b rest tags : List ℕ) (whole : Result (List ℕ) TileFault) → 0 < length b → varint_at b ≡ Ok (tag, rest) → added at tags (packed b) ≡ whole → added at (tags ++ tag ∷ []) (packed rest) ≡ whole
packed_more at tag b rest tags whole some e is =
    sym (one_more at tag tags (packed rest)) ∙ sym (ap (added at tags) (packed_front b some ∙ ap (λ (r : Result (ℕ × List ℕ) WireKind). number_before r packed) e)) ∙ is

-- the end,
pub packed_done : (at : ℕ) (b tags : List ℕ) (whole : Result (List ℕ) TileFault) → b ≡ [] → added at tags (packed b) ≡ whole → whole ≡ Ok tags
packed_done at b tags whole none is = sym is ∙ ap (added at tags) (packed_end b none) ∙ ap Ok (append-nil tags)

-- and a number that is broken
pub packed_broken : (at : ℕ) (b tags : List ℕ) (kind : WireKind) (whole : Result (List ℕ) TileFault) → 0 < length b → varint_at b ≡ Err kind → added at tags (packed b) ≡ whole → whole ≡ Err (record { kind = Wire kind; at = at })
packed_broken at b tags kind whole some e is = sym is ∙ ap (added at tags) (packed_front b some ∙ ap (λ (r : Result (ℕ × List ℕ) WireKind). number_before r packed) e)

-- no bytes are left
pub nothing_left : (b : List ℕ) → length b ≡ 0 → b ≡ []
nothing_left [] e = refl
nothing_left (c ∷ b) e = absurd (omega arith)
