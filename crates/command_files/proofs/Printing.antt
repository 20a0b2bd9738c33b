-- What was put after lines of a tree text were printed.
use Rattle.std.proofs.Common.{◌≡◌, ◌≤◌, ◌++◌, ◌∷◌, [], ℕ, List, Ok, Err, refl, sym, ap, ◌∙◌, subst}
use Rattle.std.proofs.Common.{inl, inr, append-nil, codes}
use Rattle.std.specs.Io.KnownBytes.{Appends}
use Rattle.pns_text.specs.text_rules.Outside.{AppendsFront}
use Rattle.pns_text.specs.text_rules.State.{OutputsState}
use Rattle.pns_text.specs.text_rules.Canonical.{joined}
use Rattle.tree_reading.specs.tree_text_rules.Line.{Token}
use Rattle.tree_reading.specs.tree_text_rules.Spelling as trees
use Rattle.tree_text.specs.Prints.{Prints}
pub use Rattle.tree_text.proofs.Printed.{two_printed, part_failed}
use Rattle.tree_text.specs.declared.fault.PrintFault.TheVariants as faults
use Rattle.studio_words.specs.studio_rules.Lines.{line, text_of}
use Rattle.studio_words.specs.studio_rules.Printed.{spelled, OneAnswer}
use Rattle.studio_words.specs.studio_rules.Ending.{Ends, Tells, Only, IsOneOf}
use Rattle.studio_words.specs.studio_rules.declared.status.Status.{Status}
use Rattle.studio_words.specs.studio_rules.declared.status.Status.TheVariants.{Done, Past, Spent}
use Rattle.studio_words.specs.studio_rules.declared.status.Status.TheVariants.{Memory}
use Rattle.studio_words.specs.studio_rules.declared.status.Status.TheVariants.{WriteFault}
use Rattle.command_files.proofs.Ending.{Ends-after, GoesOut, only_in}
use Rattle.command_files.proofs.Put.{IsText, Ends-whole, Ends-stopped}

pub spelled_text : (ls : List (List Token)) → trees.text_of ls ≡ text_of (spelled ls)
spelled_text [] = refl
spelled_text (l ∷ ls) = ap (λ (t : List ℕ). trees.line_text l ++ t) (spelled_text ls)

spelled-append : (xs ys : List (List Token)) → spelled (xs ++ ys) ≡ spelled xs ++ spelled ys
spelled-append [] ys = refl
spelled-append (x ∷ xs) ys = ap (λ (ls : List (List ℕ)). joined 32 x ∷ ls) (spelled-append xs ys)

-- the statuses with which lines of a tree text are printed
abbrev pub IsPrinting : Status → Type 0
IsPrinting = IsOneOf (Done ∷ Past ∷ Spent ∷ [])

by_status : (Q : Status → Type 0) (status : Status) → Q Done → Q Past → Q Spent → IsPrinting status
    → Q status
by_status Q status done past spent (inl e) = subst Q (sym e) done
by_status Q status done past spent (inr (inl e)) = subst Q (sym e) past
by_status Q status done past spent (inr (inr (inl e))) = subst Q (sym e) spent
by_status Q status done past spent (inr (inr (inr e))) = absurd e

pub printing_text : (status : Status) → IsPrinting status → IsText status
printing_text status = by_status IsText status tt tt tt

pub tells_all : (status : Status) (lines : List (List Token)) → IsPrinting status
    → Tells (OneAnswer status lines) status (text_of (spelled lines))
tells_all status lines =
    by_status (λ (s : Status). Tells (OneAnswer s lines) s (text_of (spelled lines))) status
    (spelled lines, (refl, refl), refl) (spelled lines, (refl, refl), refl)
    (spelled lines, (refl, refl), refl)

-- all lines are printed, and nothing more is said
pub printed_whole : (lines : List (List Token)) (old new : OutputsState) (status : Status)
    → IsText status → new.err ≡ old.err
    → Tells (OneAnswer status lines) status (text_of (spelled lines))
    → Prints lines old.out new.out (Ok tt) → Ends (Tells (OneAnswer status lines)) old new status
printed_whole lines old new status is quiet tells out =
    Ends-whole (Tells (OneAnswer status lines)) old new status is (text_of (spelled lines)) tells
    (subst (Appends old.out.written new.out.written) (spelled_text lines) out.outcome) quiet

-- standard output failed
pub printed_front : (lines : List (List Token)) (old new : OutputsState) (status : Status)
    → IsText status → new.err ≡ old.err
    → Tells (OneAnswer status lines) status (text_of (spelled lines))
    → Prints lines old.out new.out (Err faults.WriteFault)
    → Ends (Tells (OneAnswer status lines)) old new WriteFault
printed_front lines old new status is quiet tells out =
    Ends-stopped (Tells (OneAnswer status lines)) old new status is (text_of (spelled lines)) tells
    out.outcome.0
    (subst (AppendsFront old.out.written new.out.written) (spelled_text lines) out.outcome.1)
    quiet

-- all lines are printed, and second lines say that they are not all there is
nothing_told : (status : Status) (lines : List (List Token)) → GoesOut status
    → Tells (OneAnswer status lines) status (text_of (spelled lines)) → (s : Status) (t : List ℕ)
    → Only status [] s t
    → GoesOut s × Tells (OneAnswer status lines) s (text_of (spelled lines) ++ t)
nothing_told status lines goes tells s t o =
    only_in (λ s t. GoesOut s × Tells (OneAnswer status lines) s (text_of (spelled lines) ++ t))
    status [] (
      goes,
      subst (λ (whole : List ℕ). Tells (OneAnswer status lines) status whole)
          (sym (append-nil (text_of (spelled lines)))) tells,
    ) s t o

pub printed_unfinished : (lines : List (List Token)) (old mid new : OutputsState)
    (status s : Status) → GoesOut status → mid.err ≡ old.err → old.out.faults ≤ mid.out.faults
    → Tells (OneAnswer status lines) status (text_of (spelled lines))
    → Prints lines old.out mid.out (Ok tt) → Ends (Only status []) mid new s
    → Ends (Tells (OneAnswer status lines)) old new s
printed_unfinished lines old mid new status s goes quiet later tells out ends =
    Ends-after (Only status []) (Tells (OneAnswer status lines)) old mid new s
    (text_of (spelled lines))
    (subst (Appends old.out.written mid.out.written) (spelled_text lines) out.outcome) quiet
    (nothing_told status lines goes tells) later ends

front_told : (status : Status) (lines front rest : List (List Token)) → lines ≡ front ++ rest
    → (s : Status) (t : List ℕ) → Only Memory (line (codes "memory")) s t → GoesOut s
    × Tells (OneAnswer status lines) s (text_of (spelled front) ++ t)
front_told status lines front rest e s t o =
    only_in (λ s t. GoesOut s × Tells (OneAnswer status lines) s (text_of (spelled front) ++ t))
    Memory (line (codes "memory")) (
      tt,
      (
        spelled front,
        inr (
          status,
          spelled lines,
          spelled rest,
          (refl, refl),
          ap spelled e
              ∙ spelled-append front rest,
        ),
        refl,
      ),
    ) s t o

-- the first lines are printed, and then memory was refused
pub printed_first : (status : Status) (lines : List (List Token)) (old mid new : OutputsState)
    (s : Status) → mid.err ≡ old.err → old.out.faults ≤ mid.out.faults
    → Prints lines old.out mid.out (Err faults.Memory)
    → Ends (Only Memory (line (codes "memory"))) mid new s
    → Ends (Tells (OneAnswer status lines)) old new s
printed_first status lines old mid new s quiet le out ends =
    Ends-after (Only Memory (line (codes "memory"))) (Tells (OneAnswer status lines)) old mid new s
    (text_of (spelled out.outcome.0))
    (subst (Appends old.out.written mid.out.written) (spelled_text out.outcome.0) out.outcome.3)
    quiet (front_told status lines out.outcome.0 out.outcome.1 out.outcome.2) le ends
