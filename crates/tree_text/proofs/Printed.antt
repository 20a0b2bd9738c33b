-- Lines that are printed one after another.
use Rattle.std.proofs.Common.{◌≡◌, ◌≤◌, ◌<◌, ◌+◌, ◌++◌, ℕ, length, drop, get_or, List, [], ◌∷◌}
use Rattle.std.proofs.Common.{Option, Result, Ok, Err, sym, ap, subst, ◌∙◌, arith, inl, inr}
use Rattle.std.proofs.Common.{append_assoc}
use Rattle.std.proofs.lemmas.Grind.{flat_map-append}
use Rattle.std.proofs.lemmas.List.{drop_more}
use Rattle.std.proofs.lemmas.Result.{err_from_is_err_and}
use Rattle.std.specs.Result.{IsErrAnd}
use Rattle.std.specs.Io.KnownBytes.{Appends}
use Rattle.std.proofs.KnownBytes.{Appends-nil, Appends-trans}
use Rattle.tree_text_rules.specs.text_rules.Outside.{HasRisen}
use Rattle.tree_text_rules.specs.text_rules.State.{SinkState}
use Rattle.tree_text_rules.specs.Line.{Token}
use Rattle.tree_text_rules.specs.Spelling.{text_of, line_text}
use Rattle.tree_text.specs.declared.fault.PrintFault.{PrintFault}
use Rattle.tree_text.specs.declared.fault.PrintFault.TheVariants.{WriteFault, Memory}
use Rattle.tree_text.specs.Prints.{Prints, Puts}

-- lines that are printed, and then more of them
both_out : (some behind : List (List Token)) (old mid new : Option (List ℕ))
    → Appends old mid (text_of some) → Appends mid new (text_of behind)
    → Appends old new (text_of (some ++ behind))
both_out some behind old mid new first second =
    subst (Appends old new) (sym (flat_map-append line_text some behind))
    (Appends-trans old mid new (text_of some) (text_of behind) first second)

-- a count that rose in a later part of a call
risen_later : (a b c : ℕ) → a ≤ b → HasRisen b c → HasRisen a c
risen_later a b c le (inl lt) = inl (omega arith)
risen_later a b c le (inr e) = inr e

-- the same lines in other words
pub printed_as : (xs ys : List (List Token)) (old new : SinkState)
    (r : Result (Unit {0}) PrintFault) → xs ≡ ys → Prints xs old new r → Prints ys old new r
printed_as xs ys old new r e out = subst (λ (ls : List (List Token)). Prints ls old new r) e out

-- a part of what is printed failed
pub part_failed : (some behind : List (List Token)) (old new : SinkState) (fault : PrintFault)
    → Prints some old new (Err fault) → Prints (some ++ behind) old new (Err fault)
part_failed some behind old new WriteFault out =
    let w = out.outcome.1 in
    record {
      outcome = (
        out.outcome.0,
        (
          w.0,
          w.1 ++ text_of behind,
          flat_map-append line_text some behind
              ∙ ap (λ (t : List ℕ). t ++ text_of behind) w.2
              ∙ append_assoc w.0 w.1 (text_of behind),
          w.3,
        ),
      );
    }
part_failed some behind old new Memory out =
    let w = out.outcome in
    record {
      outcome = (
        w.0,
        w.1 ++ behind,
        ap (λ (ls : List (List Token)). ls ++ behind) w.2
            ∙ append_assoc w.0 w.1 behind,
        w.3,
      );
    }

-- one part and then another
pub two_printed : (some behind : List (List Token)) (old mid new : SinkState)
    (r : Result (Unit {0}) PrintFault) → old.faults ≤ mid.faults → Prints some old mid (Ok tt)
    → Prints behind mid new r → Prints (some ++ behind) old new r
two_printed some behind old mid new (Ok done) le first second =
    record {
      outcome =
          both_out some behind old.written mid.written new.written first.outcome second.outcome;
    }
two_printed some behind old mid new (Err WriteFault) le first second =
    let w = second.outcome.1 in
    record {
      outcome = (
        risen_later old.faults mid.faults new.faults le second.outcome.0,
        (
          text_of some ++ w.0,
          w.1,
          flat_map-append line_text some behind ∙ ap (λ (t : List ℕ). text_of some ++ t) w.2
              ∙ sym (append_assoc (text_of some) w.0 w.1),
          Appends-trans old.written mid.written new.written (text_of some) w.0 first.outcome w.3,
        ),
      );
    }
two_printed some behind old mid new (Err Memory) le first second =
    let w = second.outcome in
    record {
      outcome = (
        some ++ w.0,
        w.1,
        ap (λ (ls : List (List Token)). some ++ ls) w.2
            ∙ sym (append_assoc some w.0 w.1),
        both_out some w.0 old.written mid.written new.written first.outcome w.3,
      );
    }

-- all lines but the rest are printed
pub record ArePrinted (lines rest : List (List Token)) (old new : SinkState) : Type 0 where
  pub front : List (List Token)
  pub cut : lines ≡ front ++ rest
  pub out : Appends old.written new.written (text_of front)

-- some lines were printed, or printing them failed
module _ (lines rest some behind : List (List Token)) (old mid new : SinkState)
    (printed : ArePrinted lines rest old mid) (cut : rest ≡ some ++ behind) where
  cut_so : lines ≡ printed.front ++ (some ++ behind)
  cut_so = printed.cut ∙ ap (λ (ls : List (List Token)). printed.front ++ ls) cut

  pub then_printed : Prints some mid new (Ok tt) → ArePrinted lines behind old new
  then_printed out = record {
    front = printed.front ++ some;
    cut = cut_so ∙ sym (append_assoc printed.front some behind);
    out = both_out printed.front some old.written mid.written new.written printed.out out.outcome;
  }

  pub then_failed : (fault : PrintFault) → old.faults ≤ mid.faults
      → Prints some mid new (Err fault)
      → Prints lines old new (Err fault)
  then_failed fault le out =
      printed_as _ _ old new _ (sym cut_so)
      (two_printed printed.front (some ++ behind) old mid new (Err fault) le
      (record { outcome = printed.out }) (part_failed some behind mid new fault out))

-- ---- what calls that print one after another leave

pub none_put : (state : SinkState) (done : Unit {0}) → Puts [] state state (Ok done)
none_put state done =
    record { prints = record { outcome = Appends-nil state.written }; later = omega arith }

-- the first lines, and then those that follow
pub both_put : {lines some behind : List (List Token)} {old mid new : SinkState} {done : Unit {0}}
    {r : Result (Unit {0}) PrintFault}
    → Puts some old mid (Ok done) → Puts behind mid new r → lines ≡ some ++ behind
    → Puts lines old new r
both_put {lines} {some} {behind} {old} {mid} {new} {done} {r} first second is = record {
  prints =
      printed_as _ _ old new r (sym is)
      (two_printed some behind old mid new r first.later first.prints second.prints);
  later = omega (arith, first.later, second.later);
}

-- the first lines failed
pub first_failed : {lines some : List (List Token)} (behind : List (List Token))
    {old new : SinkState} {fault : PrintFault} {r : Result (Unit {0}) PrintFault}
    → Puts some old new (Err fault) → IsErrAnd r (λ told. told ≡ fault) → lines ≡ some ++ behind
    → Puts lines old new r
first_failed {lines} {some} behind {old} {new} {fault} {r} first told is =
    let e = err_from_is_err_and r told in
    rw (e.1, e.2)
    (record {
      prints =
          printed_as _ _ old new _ (sym is) (part_failed some behind old new fault first.prints);
      later = first.later;
    })

-- with the lines that are left, all lines are printed since the old state
abbrev pub Finishes : List (List Token) → List (List Token) → SinkState → SinkState → Type 0
Finishes left lines old now = (last : SinkState) (r : Result (Unit {0}) PrintFault)
    → Puts left now last r → Puts lines old last r

-- ---- lists

-- an item and the rest of a list
pub item_ahead : {X : Type 0} (xs : List X) (i : ℕ) (x : X) → i < length xs → x ≡ get_or xs i x
    → drop i xs ≡ x ∷ drop (i + 1) xs
item_ahead xs i x lt is = drop_more xs i x lt ∙ ap (λ y. y ∷ drop (i + 1) xs) (sym is)
