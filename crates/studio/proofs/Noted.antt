-- A fault of an output that standard error shows.
use Rattle.std.proofs.Common.{◌≡◌, ◌≤◌, ℕ, List, Result, Ok, Err, OnOk, OnErr, codes}
use Rattle.std.proofs.Common.{refl, sym, subst, arith, inl, inr}
use Rattle.std.specs.Io.KnownBytes.{Appends}
use Rattle.structure_commands.specs.text_rules.Outside.{HasRisen, AppendsFront, last_count}
use Rattle.structure_commands.specs.text_rules.State.{SinkState, OutputsState}
use Rattle.structure_commands.specs.studio_rules.Lines.{line}
use Rattle.structure_commands.specs.studio_rules.Ending.{Ends, Finishes, HasFault, TakesFault}
use Rattle.structure_commands.specs.studio_rules.declared.status.Status.{Status}
use Rattle.structure_commands.specs.studio_rules.declared.status.Status.TheVariants.{WriteFault}
use Rattle.studio.specs.Noted.{ShowsFault, IsNoted}

-- a count that rose and did not fall rose
still_risen : (before mid after : ℕ) → HasRisen before mid → mid ≤ after → after ≤ last_count
    → HasRisen before after
still_risen before mid after (inl rose) later few = inl (omega (arith, rose, later))
still_risen before mid after (inr last) later few = inr (omega (arith, last, later, few))

fault_shown : (before mid after : OutputsState) → ShowsFault mid after → HasFault before mid
    → HasFault before after
fault_shown before mid after shown (inl rose) =
    inl (subst (λ (s : SinkState). HasRisen before.out.faults s.faults) (sym shown.quiet) rose)
fault_shown before mid after shown (inr rose) =
    inr (still_risen before.err.faults mid.err.faults after.err.faults rose shown.later shown.few)

pub still_fault : (before mid after : OutputsState) (status : Status) → IsNoted status mid after
    → HasFault before mid → HasFault before after
still_fault before mid after WriteFault shown fault = fault_shown before mid after shown fault
still_fault before mid after status same fault =
    subst (λ (o : OutputsState). HasFault before o) (sym same) fault

pub finished_as : (P : Status → List ℕ → Type 0) (before mid after : OutputsState)
    (status : Status) → Ends P before mid status → IsNoted status mid after
    → Finishes P before after status
finished_as P before mid after WriteFault ends shown = (mid, ends, shown.quiet, shown.taken)
finished_as P before mid after status ends same =
    subst (λ (o : OutputsState). Ends P before o status) (sym same) ends

-- the line was put, or standard error failed
pub taken_of : {A E : Type 0} (old new : SinkState) (r : Result A E)
    → OnOk r (Appends old.written new.written (line (codes "write fault")))
    → OnErr r (HasRisen old.faults new.faults)
    → OnErr r (AppendsFront old.written new.written (line (codes "write fault")))
    → TakesFault old new
taken_of old new (Ok u) ok cause err = inl ok
taken_of old new (Err e) ok cause err = inr (cause, err)

pub noted_shown : (status : Status) (old new : OutputsState) → status ≡ WriteFault
    → ShowsFault old new → IsNoted status old new
noted_shown status old new is shown =
    subst (λ (s : Status). IsNoted s old new) (sym is) shown

pub noted_same : (status : Status) (o : OutputsState) → (status ≡ WriteFault → ⊥)
    → IsNoted status o o
noted_same WriteFault o other = absurd (other refl)
noted_same status o other = refl
