-- Second lines that grow.
use Rattle.std.proofs.Common.{◌≡◌, ◌≤◌, ◌++◌, ◌∷◌, [], ℕ, List, Bool, true, false, if◌then◌else◌}
use Rattle.std.proofs.Common.{refl, sym, ap, subst, ◌∙◌, append-nil}
use Rattle.std.proofs.lemmas.Grind.{flat_map-append}
use Rattle.studio_rules.specs.problem_rules.Each.{Each}
use Rattle.studio_rules.specs.Lines.{line, text_of}
use Rattle.studio_rules.specs.Seconds.{IsSecond, AreSeconds}

each-push : {X : Type 0} (P : X → Type 0) (xs : List X) (y : X) → Each P xs → P y
    → Each P (xs ++ y ∷ [])
each-push P [] y all p = (p, tt)
each-push P (x ∷ xs) y all p = (all.0, each-push P xs y all.1 p)

pub second-push : (bytes : List ℕ) (byte : ℕ) → IsSecond bytes → 32 ≤ byte → byte ≤ 126
    → IsSecond (bytes ++ byte ∷ [])
second-push bytes byte s from to = (
  s.0 ++ byte ∷ [],
  ap (λ (b : List ℕ). b ++ byte ∷ []) s.1,
  each-push (λ b. (32 ≤ b) × (b ≤ 126)) s.0 byte s.2 (from, to),
)

pub second-blank : IsSecond (32 ∷ 32 ∷ [])
second-blank = ([], refl, tt)

pub seconds-none : AreSeconds []
seconds-none = ([], tt, refl)

seconds-append : (text bytes : List ℕ) → AreSeconds text → IsSecond bytes
    → AreSeconds (text ++ (bytes ++ 10 ∷ []))
seconds-append text bytes s p = (
  s.0 ++ bytes ∷ [],
  each-push IsSecond s.0 bytes s.1 p,
  ap (λ (t : List ℕ). t ++ (bytes ++ 10 ∷ [])) s.2
      ∙ ap (λ (t : List ℕ). text_of s.0 ++ t) (sym (append-nil (bytes ++ 10 ∷ [])))
      ∙ sym (flat_map-append line s.0 (bytes ∷ [])),
)

-- whether or not there was memory for one more line
pub seconds-kept : (ok : Bool) (text bytes more : List ℕ) → AreSeconds text → IsSecond bytes
    → more ≡ bytes ++ 10 ∷ [] → AreSeconds (if ok then text ++ more else text)
seconds-kept true text bytes more s p is =
    subst (λ (m : List ℕ). AreSeconds (text ++ m)) (sym is) (seconds-append text bytes s p)
seconds-kept false text bytes more s p is = s
