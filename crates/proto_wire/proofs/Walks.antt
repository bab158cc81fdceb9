-- For a loop over `next`: the fields so far, one more, and the whole list at the end or at a fault.
use Rattle.std.proofs.Common.{◌≡◌, ℕ, ◌<◌, inl, inr, false, List, [], ◌∷◌, ◌++◌, refl, sym, ap, ◌∙◌, subst, length}
use Rattle.std.specs.Prelude.{Ok, Err, Option, Some, None}
use Rattle.std.proofs.lemmas.List.{append-nil}
use Rattle.proto_wire.specs.declared.field.WireFault.{WireFault}
use Rattle.proto_wire.specs.Message.{WireField, field_at}
use Rattle.proto_wire.specs.Reading.{AreFields, ReadsFields, ReaderState, IsOver}

pub leads_nowhere : (at : ℕ) (b : List ℕ) → ReadsFields at b [] at b
leads_nowhere at b = (refl, refl)

pub leads_further : (at : ℕ) (b : List ℕ) (done : List WireField) (left_at : ℕ) (left : List ℕ) (field : WireField) (rest : List ℕ) → ReadsFields at b done left_at left → field_at left_at left ≡ Ok (field, rest) → ReadsFields at b (done ++ field ∷ []) field.end rest
leads_further at b [] left_at left field rest (same_at, same) e = (rest, ap (λ n. field_at n b) (sym same_at) ∙ ap (field_at left_at) (sym same) ∙ e, (refl, refl))
leads_further at b (first ∷ done) left_at left field rest (after, first_is, leads) e = (after, first_is, leads_further first.end after done left_at left field rest leads e)

-- the fields that are left make the list whole
pub leads_to_fields : (at : ℕ) (b : List ℕ) (done : List WireField) (left_at : ℕ) (left : List ℕ) (more : List WireField) (fault : Option WireFault) → ReadsFields at b done left_at left → AreFields left_at left more fault → AreFields at b (done ++ more) fault
leads_to_fields at b [] left_at left more fault (same_at, same) are =
    subst (λ (n : ℕ). AreFields n b more fault) same_at (subst (λ (x : List ℕ). AreFields left_at x more fault) same are)
leads_to_fields at b (first ∷ done) left_at left more fault (after, first_is, leads) are = (after, first_is, leads_to_fields first.end after done left_at left more fault leads are)

pub leads_to_end : (at : ℕ) (b : List ℕ) (done : List WireField) (left_at : ℕ) (left : List ℕ) → ReadsFields at b done left_at left → left ≡ [] → AreFields at b done None
leads_to_end at b done left_at left leads none =
    subst (λ (fields : List WireField). AreFields at b fields None) (append-nil done) (leads_to_fields at b done left_at left [] None leads (inl (none, refl)))

pub leads_to_fault : (at : ℕ) (b : List ℕ) (done : List WireField) (left_at : ℕ) (left : List ℕ) (fault : WireFault) → ReadsFields at b done left_at left → 0 < length left → field_at left_at left ≡ Err fault.kind → fault.at ≡ left_at → AreFields at b done (Some fault)
leads_to_fault at b done left_at left fault leads some e place =
    subst (λ (fields : List WireField). AreFields at b fields (Some fault)) (append-nil done)
    (leads_to_fields at b done left_at left [] (Some fault) leads (inr (fault.kind, some, e, ap (λ n. Some (record { kind = fault.kind; at = n })) place)))

-- where no fault came before, `None` says that nothing is left
pub over_at_end : (reading : ReaderState) → reading.failed ≡ false → IsOver reading → reading.bytes ≡ []
over_at_end reading going (inl failed) = absurd (cc (going, failed))
over_at_end reading going (inr none) = none
