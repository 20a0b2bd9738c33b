-- What has gone to the outputs, and how a call then ends.
use Rattle.std.proofs.Common.{◌≡◌, ◌++◌, ◌∷◌, [], length, arith, ℕ, List, Option, refl, sym, ap}
use Rattle.std.proofs.Common.{subst, ◌∙◌, inl, inr, append_assoc, append-nil, codes}
use Rattle.std.specs.Io.KnownBytes.{Appends}
use Rattle.std.proofs.KnownBytes.{Appends-nil, Appends-trans}
use Rattle.pns_text.specs.text_rules.Outside.{HasRisen, AppendsFront}
use Rattle.pns_text.specs.text_rules.State.{SinkState, OutputsState}
use Rattle.studio_words.specs.studio_rules.Lines.{line}
use Rattle.studio_words.specs.studio_rules.Seconds.{AreSeconds}
use Rattle.studio_words.specs.studio_rules.Ending.{Ends, Only, IsShared, Writes, IsAnswer}
use Rattle.studio_words.specs.studio_rules.Ending.{IsUnfinished}
use Rattle.studio_words.specs.studio_rules.Ending.{IsRefusal}
use Rattle.studio_words.specs.studio_rules.declared.status.Status.{Status}
use Rattle.studio_words.specs.studio_rules.declared.status.Status.TheVariants.{Done, Refused}
use Rattle.studio_words.specs.studio_rules.declared.status.Status.TheVariants.{NotBest, Past}
use Rattle.studio_words.specs.studio_rules.declared.status.Status.TheVariants.{Spent, WriteFault}
use Rattle.studio_words.specs.studio_rules.declared.status.Status.TheVariants.{Memory}
use Rattle.command_files.proofs.Ending.{GoesOut}

-- what was put is the text up to the rest
pub record IsPut (text rest : List ℕ) (old new : Option (List ℕ)) : Type 0 where
  pub front : List ℕ
  pub cut : text ≡ front ++ rest
  pub out : Appends old new front

pub put_none : (text : List ℕ) (old : Option (List ℕ)) → IsPut text text old old
put_none text old = record { front = []; cut = refl; out = Appends-nil old }

module _ (text rest line behind : List ℕ) (old mid new : Option (List ℕ))
    (put : IsPut text rest old mid) (cut : rest ≡ line ++ behind) where
  pub put_more : Appends mid new line → IsPut text behind old new
  put_more out = record {
    front = put.front ++ line;
    cut = put.cut ∙ (ap (λ t. put.front ++ t) cut ∙ sym (append_assoc put.front line behind));
    out = Appends-trans old mid new put.front line put.out out;
  }

  pub put_stopped : AppendsFront mid new line → AppendsFront old new text
  put_stopped (front, left, is, out) = (
    put.front ++ front,
    left ++ behind,
    put.cut
        ∙ (ap (λ t. put.front ++ t)
        (cut ∙ (ap (λ l. l ++ behind) is ∙ append_assoc front left behind))
        ∙ sym (append_assoc put.front front (left ++ behind))),
    Appends-trans old mid new put.front front put.out out,
  )

pub put_whole : (text rest : List ℕ) (old new : Option (List ℕ)) → IsPut text rest old new
    → length rest ≡ 0 → Appends old new text
put_whole text [] old new put none =
    subst (Appends old new) (sym (put.cut ∙ append-nil put.front)) put.out
put_whole text (c ∷ cs) old new put none = absurd (omega (arith, none))

-- ---- what has gone to the outputs, as the end of a call

-- the statuses whose whole text goes to standard output
abbrev pub IsText : Status → Type 0
IsText Done = Unit {0}
IsText Refused = Unit {0}
IsText NotBest = Unit {0}
IsText Past = Unit {0}
IsText Spent = Unit {0}
IsText status = ⊥

pub no_seconds : AreSeconds []
no_seconds = ([], tt, refl)

shared_text : (status : Status) (text : List ℕ) → IsText status → IsShared status text text []
shared_text Done text is = (refl, refl)
shared_text Refused text is = (refl, refl)
shared_text NotBest text is = (refl, refl)
shared_text Past text is = (refl, no_seconds)
shared_text Spent text is = (refl, no_seconds)
shared_text status text is = absurd is

pub answer_text : (status : Status) → IsAnswer status → IsText status
answer_text Done is = tt
answer_text Refused is = tt
answer_text NotBest is = tt
answer_text status is = absurd is

pub answer_goes : (status : Status) → IsAnswer status → GoesOut status
answer_goes Done is = tt
answer_goes Refused is = tt
answer_goes NotBest is = tt
answer_goes status is = absurd is

nothing_out : (sink : SinkState) → Appends sink.written sink.written []
nothing_out sink = Appends-nil sink.written

text_ended : (P : Status → List ℕ → Type 0) (old new : OutputsState) (status : Status)
    → IsText status → (text : List ℕ) × P status text × Writes old new status text
    → Ends P old new status
text_ended P old new WriteFault is e = absurd is
text_ended P old new status is e = e

-- the whole text is on standard output
pub Ends-whole : (P : Status → List ℕ → Type 0) (old new : OutputsState) (status : Status)
    → IsText status → (text : List ℕ) → P status text → Appends old.out.written new.out.written text
    → new.err ≡ old.err → Ends P old new status
Ends-whole P old new status is text holds out quiet = text_ended P old new status is (
  text,
  holds,
  (
    text,
    [],
    shared_text status text is,
    out,
    subst (λ (e : SinkState). Appends old.err.written e.written []) (sym quiet)
        (nothing_out old.err),
  ),
)

-- standard output failed after a front of the text
pub Ends-stopped : (P : Status → List ℕ → Type 0) (old new : OutputsState) (status : Status)
    → IsText status → (text : List ℕ) → P status text
    → HasRisen old.out.faults new.out.faults → AppendsFront old.out.written new.out.written text
    → new.err ≡ old.err → Ends P old new WriteFault
Ends-stopped P old new status is text holds risen out quiet = (
  inl risen,
  status,
  text,
  holds,
  (
    text,
    [],
    shared_text status text is,
    out,
    (
      [],
      [],
      refl,
      subst (λ (e : SinkState). Appends old.err.written e.written []) (sym quiet)
          (nothing_out old.err),
    ),
  ),
)

-- what standard output took of a text that goes there whole
pub text_out : (old new : OutputsState) (status : Status) (text : List ℕ) → IsText status
    → Writes old new status text → Appends old.out.written new.out.written text
text_out old new Done text is w =
    subst (λ (t : List ℕ). Appends old.out.written new.out.written t) w.2.0 w.3
text_out old new Refused text is w =
    subst (λ (t : List ℕ). Appends old.out.written new.out.written t) w.2.0 w.3
text_out old new NotBest text is w =
    subst (λ (t : List ℕ). Appends old.out.written new.out.written t) w.2.0 w.3
text_out old new Past text is w =
    subst (λ (t : List ℕ). Appends old.out.written new.out.written t) w.2.0 w.3
text_out old new Spent text is w =
    subst (λ (t : List ℕ). Appends old.out.written new.out.written t) w.2.0 w.3
text_out old new status text is w = absurd is

-- ---- what goes to standard error

shared_refusal : (status : Status) (text seconds : List ℕ) → IsRefusal status → AreSeconds seconds
    → IsShared status text [] (text ++ seconds)
shared_refusal Done text seconds is are = absurd is
shared_refusal Refused text seconds is are = absurd is
shared_refusal NotBest text seconds is are = absurd is
shared_refusal Past text seconds is are = absurd is
shared_refusal Spent text seconds is are = absurd is
shared_refusal Memory text seconds is are = absurd is
shared_refusal WriteFault text seconds is are = absurd is
shared_refusal status text seconds is are = (refl, (seconds, are, refl))

refusal_ended : (P : Status → List ℕ → Type 0) (old new : OutputsState) (status : Status)
    → IsRefusal status → (text : List ℕ) × P status text × Writes old new status text
    → Ends P old new status
refusal_ended P old new WriteFault is e = absurd is
refusal_ended P old new status is e = e

module _ (old new : OutputsState) (quiet : new.out ≡ old.out) where
  still : Appends old.out.written new.out.written []
  still =
      subst (λ (o : SinkState). Appends old.out.written o.written []) (sym quiet)
      (nothing_out old.out)

  -- a line that says why there is no answer, and its second lines
  pub told_whole : (status : Status) → IsRefusal status → (text seconds : List ℕ)
      → AreSeconds seconds → Appends old.err.written new.err.written (text ++ seconds)
      → Ends (Only status text) old new status
  told_whole status is text seconds are out =
      refusal_ended (Only status text) old new status is (
        text,
        (refl, refl),
        ([], text ++ seconds, shared_refusal status text seconds is are, still, out),
      )

  pub told_stopped : (status : Status) → IsRefusal status → (text seconds : List ℕ)
      → AreSeconds seconds → HasRisen old.err.faults new.err.faults
      → AppendsFront old.err.written new.err.written (text ++ seconds)
      → Ends (Only status text) old new WriteFault
  told_stopped status is text seconds are risen out = (
    inr risen,
    status,
    text,
    (refl, refl),
    (
      [],
      text ++ seconds,
      shared_refusal status text seconds is are,
      ([], [], refl, still),
      out,
    ),
  )

  -- the line `memory`
  pub memory_whole : Appends old.err.written new.err.written (line (codes "memory"))
      → Ends (Only Memory (line (codes "memory"))) old new Memory
  memory_whole out =
      (line (codes "memory"), (refl, refl), ([], line (codes "memory"), (refl, refl), still, out))

  pub memory_stopped : HasRisen old.err.faults new.err.faults
      → AppendsFront old.err.written new.err.written (line (codes "memory"))
      → Ends (Only Memory (line (codes "memory"))) old new WriteFault
  memory_stopped risen out = (
    inr risen,
    Memory,
    line (codes "memory"),
    (refl, refl),
    ([], line (codes "memory"), (refl, refl), ([], [], refl, still), out),
  )

  -- second lines after a text that is not finished
  pub unfinished_whole : (status : Status) → IsUnfinished status → (seconds : List ℕ)
      → AreSeconds seconds → Appends old.err.written new.err.written seconds
      → Ends (Only status []) old new status
  unfinished_whole Past is seconds are out =
      ([], (refl, refl), ([], seconds, (refl, are), still, out))
  unfinished_whole Spent is seconds are out =
      ([], (refl, refl), ([], seconds, (refl, are), still, out))
  unfinished_whole status is seconds are out = absurd is

  pub unfinished_stopped : (status : Status) → IsUnfinished status → (seconds : List ℕ)
      → AreSeconds seconds → HasRisen old.err.faults new.err.faults
      → AppendsFront old.err.written new.err.written seconds
      → Ends (Only status []) old new WriteFault
  unfinished_stopped Past is seconds are risen out =
      (inr risen, Past, [], (refl, refl), ([], seconds, (refl, are), ([], [], refl, still), out))
  unfinished_stopped Spent is seconds are risen out =
      (inr risen, Spent, [], (refl, refl), ([], seconds, (refl, are), ([], [], refl, still), out))
  unfinished_stopped status is seconds are risen out = absurd is
