-- Items judged in order: each one is good, and their names differ.
use Rattle.std.proofs.Common.{◌≡◌, ℕ, zero, suc, ◌+◌, ◌<◌, false, Option, None, List, [], ◌∷◌, ◌++◌}
use Rattle.std.proofs.Common.{length, map, refl, ◌∙◌, arith}
use Rattle.std.specs.Prelude.{slice_index_or}
use Rattle.std.specs.Str.{bytes_eq}
use Rattle.std.proofs.lemmas.Bool.{or_parts, or_from}
use Rattle.std.proofs.lemmas.Cmp.{nat_list_eq_equiv}
use Rattle.problem_rules.specs.Names.{is_among, has_double}
use Rattle.problem_rules.specs.Each.{Each}
use Rattle.problem_rules.specs.Validity.{Refusal, items_fault}
use Rattle.problem_rules.proofs.RefusalLemmas.{or_else_parts, or_else_none}

pub Each-at : {X : Type 0} (P : X → Type 0) (xs : List X) (k : ℕ) (other : X) → k < length xs
    → Each P xs → P (slice_index_or xs k other)
Each-at P [] k other less h = absurd (omega arith)
Each-at P (x ∷ xs) zero other less h = h.0
Each-at P (x ∷ xs) (suc k) other less h = Each-at P xs k other (omega arith) h.1

pub bytes_eq-sym : (xs ys : List ℕ) → bytes_eq xs ys ≡ bytes_eq ys xs
bytes_eq-sym xs ys = nat_list_eq_equiv.symm xs ys

among-push : (n x : List ℕ) (before : List (List ℕ)) → is_among (before ++ x ∷ []) n ≡ false
    → (is_among before n ≡ false) × (bytes_eq x n ≡ false)
among-push n x [] e = (refl, (or_parts (bytes_eq x n) false e).0)
among-push n x (y ∷ before) e =
    let p = or_parts (bytes_eq y n) (is_among (before ++ x ∷ []) n) e in
    let q = among-push n x before p.1 in
    (or_from (bytes_eq y n) (is_among before n) p.0 q.0, q.1)

push-among : (n x : List ℕ) (before : List (List ℕ)) → is_among before n ≡ false
    → bytes_eq x n ≡ false → is_among (before ++ x ∷ []) n ≡ false
push-among n x [] e h = or_from (bytes_eq x n) false h refl
push-among n x (y ∷ before) e h =
    let p = or_parts (bytes_eq y n) (is_among before n) e in
    or_from (bytes_eq y n) (is_among (before ++ x ∷ []) n) p.0 (push-among n x before p.1 h)

-- no name of the list is among those before
abbrev pub AreNew : List (List ℕ) → List (List ℕ) → Type 0
AreNew before names = Each (λ n. is_among before n ≡ false) names

new_after : (x : List ℕ) (before names : List (List ℕ)) → AreNew (before ++ x ∷ []) names
    → (is_among names x ≡ false) × AreNew before names
new_after x before [] h = (refl, tt)
new_after x before (n ∷ names) h =
    let p = among-push n x before h.0 in
    let q = new_after x before names h.1 in
    (or_from (bytes_eq n x) (is_among names x) (bytes_eq-sym n x ∙ p.1) q.0, (p.0, q.1))

after_new : (x : List ℕ) (before names : List (List ℕ)) → is_among names x ≡ false
    → AreNew before names → AreNew (before ++ x ∷ []) names
after_new x before [] e h = tt
after_new x before (n ∷ names) e h =
    let p = or_parts (bytes_eq n x) (is_among names x) e in
    (push-among n x before h.0 (bytes_eq-sym x n ∙ p.0), after_new x before names p.1 h.1)

pub all_new : (names : List (List ℕ)) → AreNew [] names
all_new [] = tt
all_new (n ∷ names) = (refl, all_new names)

pub record AreItems {X : Type 0} (name : X → List ℕ) (Good : X → Type 0) (before : List (List ℕ))
    (xs : List X) : Type 0 where
  pub good : Each Good xs
  pub apart : has_double (map name xs) ≡ false
  pub new : AreNew before (map name xs)

module _ {X : Type 0} (name : X → List ℕ) (judge : List (List ℕ) → ℕ → X → Option Refusal)
    (Good : X → Type 0)
    (good : (before : List (List ℕ)) (at : ℕ) (x : X) → judge before at x ≡ None
    → (is_among before (name x) ≡ false) × Good x)
    (back : (before : List (List ℕ)) (at : ℕ) (x : X) → is_among before (name x) ≡ false → Good x
    → judge before at x ≡ None) where
  pub items_clear : (before : List (List ℕ)) (at : ℕ) (xs : List X)
      → items_fault name judge before at xs ≡ None → AreItems name Good before xs
  items_clear before at [] e = record { good = tt; apart = refl; new = tt }
  items_clear before at (x ∷ xs) e =
      let p =
      or_else_parts (judge before at x)
      (items_fault name judge (before ++ name x ∷ []) (at + 1) xs) e in
      let g = good before at x p.0 in
      let r = items_clear (before ++ name x ∷ []) (at + 1) xs p.1 in
      let n = new_after (name x) before (map name xs) r.new in
      record {
        good = (g.1, r.good);
        apart =
            or_from (is_among (map name xs) (name x)) (has_double (map name xs)) n.0 r.apart;
        new =
            (g.0, n.1);
      }

  pub items_none : (before : List (List ℕ)) (at : ℕ) (xs : List X) → AreItems name Good before xs
      → items_fault name judge before at xs ≡ None
  items_none before at [] h = refl
  items_none before at (x ∷ xs) h =
      let p = or_parts (is_among (map name xs) (name x)) (has_double (map name xs)) h.apart in
      or_else_none (judge before at x) (items_fault name judge (before ++ name x ∷ []) (at + 1) xs)
      (back before at x h.new.0 h.good.0)
      (items_none (before ++ name x ∷ []) (at + 1) xs
      (record {
        good = h.good.1;
        apart = p.1;
        new =
            after_new (name x) before (map name xs) p.0 h.new.1;
      }))
