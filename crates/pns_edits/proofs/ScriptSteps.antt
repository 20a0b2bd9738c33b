-- A script that is applied edit by edit: the edits that remain, and what was done.
use Rattle.std.proofs.Common.{◌≡◌, ◌<◌, ◌≤◌, ◌+◌, ℕ, suc, Option, Some, None, List, [], ◌∷◌, ◌++◌}
use Rattle.std.proofs.Common.{length, map, reverse, drop, get_or, refl, sym, ap, ◌∙◌, subst, arith}
use Rattle.std.specs.Prelude.{option_map}
use Rattle.std.proofs.lemmas.List.{append-nil, append_assoc, drop_more, reverse-append}
use Rattle.std.proofs.lemmas.List.{reverse-reverse, length-append, length-reverse}
use Rattle.edit_laws.specs.problem_rules.Problem.{Problem}
use Rattle.edit_laws.specs.problem_rules.Each.{Each}
use Rattle.edit_laws.specs.problem_rules.Validity.{IsValid}
use Rattle.edit_laws.specs.edit_rules.Edit.{Edit}
use Rattle.edit_laws.specs.edit_rules.Effect.{effect}
use Rattle.edit_laws.specs.edit_rules.Fault.{Fault, fault_of, AreClear, checks}
use Rattle.edit_laws.specs.edit_rules.Formed.{IsFormed}
use Rattle.edit_laws.specs.edit_rules.Inverse.{inverse}
use Rattle.edit_laws.specs.edit_rules.Script.{applied, undoing, CanApply, IsFirstFault}
use Rattle.edit_laws.proofs.Cited.{edit_keeps_valid}
use Rattle.edit_scripts.specs.declared.edit.Edit as scripts
use Rattle.edit_scripts.specs.View.{edit_of}
use Rattle.edit_laws.specs.edit_rules.declared.EditKind.{EditKind}
use Rattle.edit_laws.specs.edit_rules.Meaning.{kind_of}
use Rattle.pns_edits.specs.Answer.{IsEdited}
use Rattle.pns_edits.specs.Inverse.{edits_of, listed_of}
use Rattle.pns_edits.specs.declared.inverse.Inverse.{Inverse}

-- the first edits, as many as `passed`, lead from p to q, and `back` read from its end undoes them
pub record IsAppliedTo (p q : Problem) (es rest back : List Edit) (passed : ℕ) : Type 0 where
  pub valid : IsValid q
  pub formed : Each IsFormed rest
  pub goal : applied q rest ≡ applied p es
  pub can : CanApply q rest → CanApply p es
  pub fault : (k : ℕ) (f : Fault) → IsFirstFault q rest k f → IsFirstFault p es (passed + k) f
  pub undone : undoing q rest ++ reverse back ≡ undoing p es
  pub few : length back ≤ passed + passed

pub begin : (p : Problem) (es : List Edit) → IsValid p → Each IsFormed es
    → IsAppliedTo p p es es [] 0
begin p es v f = record {
  valid = v;
  formed = f;
  goal = refl;
  can = λ c. c;
  fault = λ k g h. let same : k ≡ 0 + k = omega arith in subst (λ j. IsFirstFault p es j g) same h;
  undone = append-nil (undoing p es);
  few = omega arith;
}

-- the same of the first i edits of a list
abbrev pub IsAppliedAt : Problem → Problem → List scripts.Edit → List scripts.Edit → ℕ → Type 0
IsAppliedAt p q edits back i =
    IsAppliedTo p q (map edit_of edits) (map edit_of (drop i edits)) (map edit_of back) i

at_item : (p q : Problem) (edits back : List scripts.Edit) (i : ℕ) (item : scripts.Edit)
    → i < length edits → item ≡ get_or edits i item → IsAppliedAt p q edits back i
    → IsAppliedTo p q (map edit_of edits) (edit_of item ∷ map edit_of (drop (i + 1) edits))
    (map edit_of back) i
at_item p q edits back i item less is a =
    subst (λ (rest : List Edit). IsAppliedTo p q (map edit_of edits) rest (map edit_of back) i)
    (ap (map edit_of) (drop_more edits i item less)
    ∙ ap (λ x. edit_of x ∷ map edit_of (drop (i + 1) edits)) (sym is)) a

next_at : (p q : Problem) (es rest back inv : List Edit) (e : Edit) (passed : ℕ)
    → IsAppliedTo p q es (e ∷ rest) back passed → AreClear (checks q e) → inv ≡ inverse q e
    → length inv ≤ 2
    → IsAppliedTo p (effect q e) es rest (back ++ reverse inv) (passed + 1)
next_at p q es rest back inv e passed a clear inv_is two =
    let u = undoing (effect q e) rest in
    let long = length-append back (reverse inv) in
    let turned = length-reverse inv in
    let few = a.few in
    record {
      valid = edit_keeps_valid q a.valid e a.formed.0 clear;
      formed = a.formed.1;
      goal = a.goal;
      can = λ c. a.can (clear, c);
      fault = λ k f h. let same : passed + suc k ≡ passed + 1 + k =
          omega arith in subst (λ j. IsFirstFault p es j f) same (a.fault (suc k) f (clear, h));
      undone =
          ap (λ z. u ++ z) (reverse-append back (reverse inv)
          ∙ ap (λ z. z ++ reverse back) (reverse-reverse inv))
          ∙ (sym (append_assoc u inv (reverse back))
          ∙ (ap (λ z. u ++ z ++ reverse back) inv_is ∙ a.undone));
      few = omega arith;
    }

listed_short : (o : Option scripts.Edit) → length (listed_of o) ≤ 1
listed_short None = omega arith
listed_short (Some e) = omega arith

pub next : (p q r : Problem) (edits back more : List scripts.Edit) (i : ℕ) (item : scripts.Edit)
    (inv : Inverse) → i < length edits → item ≡ get_or edits i item → IsAppliedAt p q edits back i
    → IsEdited q (edit_of item) r (edits_of inv)
    → map edit_of more ≡ map edit_of back ++ reverse (edits_of inv)
    → IsAppliedAt p r edits more (i + 1)
next p q r edits back more i item inv less is a edited pushed =
    let rest = map edit_of (drop (i + 1) edits) in
    let short = listed_short inv.investment in
    subst (λ (m : List Edit). IsAppliedTo p r (map edit_of edits) rest m (i + 1)) (sym pushed)
    (subst
    (λ (x : Problem). IsAppliedTo p x (map edit_of edits) rest
    (map edit_of back ++ reverse (edits_of inv)) (i + 1)) (sym edited.done)
    (next_at p q (map edit_of edits) rest (map edit_of back) (edits_of inv) (edit_of item) i
    (at_item p q edits back i item less is a) edited.clear edited.back_is (omega arith)))

pub stop : (p q : Problem) (edits back : List scripts.Edit) (i : ℕ) (item : scripts.Edit)
    (f : Fault) → i < length edits → item ≡ get_or edits i item → IsAppliedAt p q edits back i
    → fault_of q (edit_of item) ≡ Some f → IsFirstFault p (map edit_of edits) i f
stop p q edits back i item f less is a h =
    let same : i + 0 ≡ i = omega arith in
    subst (λ j. IsFirstFault p (map edit_of edits) j f) same
    ((at_item p q edits back i item less is a).fault 0 f h)

pub record IsToldAs (o : Option Fault) (told : EditKind) : Type 0 where
  pub fault : Fault
  pub is : o ≡ Some fault
  pub kind_is : told ≡ kind_of fault

pub told_as : (o : Option Fault) (told : EditKind) → option_map kind_of o ≡ Some told
    → IsToldAs o told
told_as None told e = cc
told_as (Some f) told e =
    record { fault = f; is = refl; kind_is = let h : kind_of f ≡ told = cc in sym h }
