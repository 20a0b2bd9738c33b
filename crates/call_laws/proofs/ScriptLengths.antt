-- The script of one edit of a number is short.
use Rattle.std.proofs.Common.{◌≡◌, ℕ, zero, suc, ◌+◌, ◌/◌, ◌%◌, ◌==◌, ◌≤◌, ◌++◌, cond, List, []}
use Rattle.std.proofs.Common.{◌∷◌, length, ℤ, pos, refl, arith}
use Rattle.std.specs.Prelude.{int_lt, decimal, unsigned_abs, codes}
use Rattle.std.proofs.lemmas.Bool.{cond_both}
use Rattle.std.proofs.lemmas.Bool.Decides.{nat_tests}
use Rattle.std.proofs.lemmas.Fmt.{length-decimal-le}
use Rattle.std.proofs.lemmas.List.{length-append}
use Rattle.studio.specs.text_rules.Printed.{digits, places, amount_bytes}
use Rattle.studio.specs.problem_rules.WellFormed.{IsInRange}
use Rattle.studio.specs.edit_rules.Formed.{IsName, IsFormed}
use Rattle.studio.specs.edit_rules.Printed.{edit_line, script_text}
use Rattle.studio.specs.report_rules.declared.spot.SpotKind.{SpotKind}
use Rattle.studio.specs.report_rules.declared.spot.SpotKind.TheVariants.{Price, Fix, Proportional}
use Rattle.studio.specs.studio_rules.Reading.{file_limit}
use Rattle.call_laws.specs.Ranges.{setting}

digits-length : (k n : ℕ) → length (digits k n) ≡ k
digits-length zero n = refl
digits-length (suc k) n =
    let l = length-append (digits k (n / 10)) ((48 + n % 10) ∷ []) in
    let e = digits-length k (n / 10) in
    omega (arith, l, e)

places-le : (k n : ℕ) → length (places k n) ≤ k
places-le zero n = omega arith
places-le (suc k) n =
    cond_both (n % 10 == 0) (places k (n / 10)) (digits (suc k) n)
    (λ (t : List ℕ). length t ≤ suc k)
    (λ e. let l = places-le k (n / 10) in omega (arith, l))
    (λ e. let l = digits-length (suc k) n in omega (arith, l))

-- a sign, ten digits, and a point before six more
amount-le : (z : ℤ) → IsInRange z → length (amount_bytes z) ≤ 18
amount-le z range =
    let n = unsigned_abs z in
    let sign =
    cond_both (int_lt z (pos 0)) (45 ∷ []) [] (λ (t : List ℕ). length t ≤ 1) (λ e. omega arith)
    (λ e. omega arith) in
    let fine =
    cond_both (n % 1000000 == 0) [] (46 ∷ places 6 (n % 1000000)) (λ (t : List ℕ). length t ≤ 7)
    (λ e. omega arith) (λ e. let l = places-le 6 (n % 1000000) in omega (arith, l)) in
    let whole =
    length-decimal-le 10 (n / 1000000) (omega arith) (omega (arith, range))
    (omega (arith, range)) in
    let front = cond (int_lt z (pos 0)) (45 ∷ []) [] in
    let back = cond (n % 1000000 == 0) [] (46 ∷ places 6 (n % 1000000)) in
    let a = length-append (front ++ decimal (n / 1000000)) back in
    let b = length-append front (decimal (n / 1000000)) in
    let c = length-append front (decimal (n / 1000000) ++ back) in
    let d = length-append (decimal (n / 1000000)) back in
    omega (arith, sign, fine, whole, c, d)

name-le : (name : List ℕ) → IsName name → length name ≤ 64
name-le name is = grind (arith, nat_tests)

-- a word, a name and an amount
line-le : (word name amount : List ℕ) → length word ≤ 12 → length name ≤ 64 → length amount ≤ 18
    → length (word ++ 32 ∷ (name ++ 32 ∷ amount)) ≤ 100
line-le word name amount w n a =
    let l = length-append word (32 ∷ (name ++ 32 ∷ amount)) in
    let k = length-append name (32 ∷ amount) in
    omega (arith, l, k, w, n, a)

setting-le : (kind : SpotKind) (name : List ℕ) (v : ℤ) → length name ≤ 64
    → length (amount_bytes v) ≤ 18 → length (edit_line (setting kind name v)) ≤ 100
setting-le Price name v n a = line-le (codes "price") name (amount_bytes v) (omega arith) n a
setting-le Fix name v n a = line-le (codes "fix") name (amount_bytes v) (omega arith) n a
setting-le Proportional name v n a =
    line-le (codes "proportional") name (amount_bytes v) (omega arith) n a

amount_of : (kind : SpotKind) (name : List ℕ) (v : ℤ) → IsFormed (setting kind name v) → IsInRange v
amount_of Price name v formed = formed.1
amount_of Fix name v formed = formed.1.in_range
amount_of Proportional name v formed = formed.1

name_of : (kind : SpotKind) (name : List ℕ) (v : ℤ) → IsFormed (setting kind name v) → IsName name
name_of Price name v formed = formed.0
name_of Fix name v formed = formed.0
name_of Proportional name v formed = formed.0

pub script-le : (kind : SpotKind) (name : List ℕ) (v : ℤ) → IsFormed (setting kind name v)
    → length (script_text (setting kind name v ∷ [])) ≤ file_limit
script-le kind name v formed =
    let e =
    setting-le kind name v (name-le name (name_of kind name v formed))
    (amount-le v (amount_of kind name v formed)) in
    let l = length-append (edit_line (setting kind name v)) (10 ∷ []) in
    let k = length-append (edit_line (setting kind name v) ++ 10 ∷ []) [] in
    omega (arith, e, l, k)
