-- Whole scripts: the inverses lead back.
use Rattle.std.proofs.Common.{◌≡◌, List, [], ◌∷◌, ◌++◌, refl, sym, ap, ◌∙◌, subst}
use Rattle.edit_rules.specs.problem_rules.Problem.{Problem}
use Rattle.edit_rules.specs.Edit.{Edit}
use Rattle.edit_rules.specs.Effect.{effect}
use Rattle.edit_rules.specs.Inverse.{inverse}
use Rattle.edit_rules.specs.Script.{applied, CanApply, undoing, LeadsTo}
use Rattle.edit_laws.proofs.Soundness.{IsSound}
use Rattle.edit_laws.proofs.UndoLemmas.{edit_is_undone}
use Rattle.edit_laws.proofs.SoundLemmas.{stays_sound}

pub applied-append : (p : Problem) (xs ys : List Edit)
    → applied p (xs ++ ys) ≡ applied (applied p xs) ys
applied-append p [] ys = refl
applied-append p (x ∷ xs) ys = applied-append (effect p x) xs ys

pub CanApply-append : (p : Problem) (xs ys : List Edit) → CanApply p xs → CanApply (applied p xs) ys
    → CanApply p (xs ++ ys)
CanApply-append p [] ys h g = g
CanApply-append p (x ∷ xs) ys h g = (h.0, CanApply-append (effect p x) xs ys h.1 g)

pub leads_through : (a b c : Problem) (xs ys : List Edit) → LeadsTo a xs b → LeadsTo b ys c
    → LeadsTo a (xs ++ ys) c
leads_through a b c xs ys h g = record {
  can = CanApply-append a xs ys h.can (subst (λ q. CanApply q ys) (sym h.same) g.can);
  same = applied-append a xs ys ∙ (ap (λ q. applied q ys) h.same ∙ g.same);
}

pub script_is_undone : (p : Problem) → IsSound p → (es : List Edit) → CanApply p es
    → LeadsTo (applied p es) (undoing p es) p
script_is_undone p s [] h = record { can = tt; same = refl }
script_is_undone p s (e ∷ es) h =
    leads_through (applied (effect p e) es) (effect p e) p (undoing (effect p e) es) (inverse p e)
    (script_is_undone (effect p e) (stays_sound p s e h.0) es h.1)
    (edit_is_undone p s e h.0)
