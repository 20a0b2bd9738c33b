-- The one fault of tokens of which each has that fault or none.
use Rattle.std.proofs.Common.{◌≡◌, List, [], ◌∷◌, Option, Some, None, Result, Ok, Err, IfErr, sym}
use Rattle.std.proofs.Common.{ap, refl, ◌∙◌}
use Rattle.text_lines.specs.Tells.{TellsLine}
use Rattle.text_lines.specs.declared.fault.LineFault.{LineFault}
use Rattle.text_lines.specs.declared.fault.LineFault.TheVariants as line
use Rattle.tree_text_rules.specs.Line.{Token}
use Rattle.tree_text_rules.specs.Token.{lesser, both, mapped, each, told}
use Rattle.tree_text_rules.specs.declared.TreeKind.{TreeKind}
use Rattle.tree_reading.specs.Joined.{joined}

module _ {A : Type 0} (read : Token → Option A) (kind : TreeKind)
    (same : lesser kind kind ≡ kind) where
  -- the others fail as the kind says, or not at all
  one_only : (o : Option A) (rest : Result (List A) TreeKind) → IfErr rest (λ k. k ≡ kind)
      → IfErr (mapped (λ found. found.0 ∷ found.1) (both (told kind o) rest)) (λ k. k ≡ kind)
  one_only None (Ok vs) only = refl
  one_only None (Err k) only = ap (lesser kind) only ∙ same
  one_only (Some a) (Ok vs) only = tt
  one_only (Some a) (Err k) only = only

  each_only : (tokens : List Token) → IfErr (each (λ t. told kind (read t)) tokens) (λ k. k ≡ kind)
  each_only [] = tt
  each_only (token ∷ tokens) =
      one_only (read token) (each (λ t. told kind (read t)) tokens) (each_only tokens)

  first_fails : (k : TreeKind) (o : Option A) (rest : Result (List A) TreeKind)
      → IfErr rest (λ k. k ≡ kind) → told kind o ≡ Err k
      → mapped (λ found. found.0 ∷ found.1) (both (told kind o) rest) ≡ Err k
  first_fails k None (Ok vs) only e = cc
  first_fails k None (Err l) only e = ap (λ (x : TreeKind). Err x) (ap (lesser kind) only ∙ same)
      ∙ (let q : kind ≡ k = cc in ap (λ (x : TreeKind). Err x) q)
  first_fails k (Some a) rest only e = absurd cc

  -- the first fault is the one that is given
  pub fails_at : (k : TreeKind) (front : List A) (token : Token) (tokens all : List Token)
      (whole : Result (List A) TreeKind)
      → told kind (read token) ≡ Err k → all ≡ token ∷ tokens
      → joined (Ok front) (each (λ t. told kind (read t)) all) ≡ whole → whole ≡ Err k
  fails_at k front token tokens all whole found cut before =
      sym before
      ∙ ap (λ ts. joined (Ok front) (each (λ t. told kind (read t)) ts)) cut
      ∙ ap (joined (Ok front))
      (first_fails k (read token) (each (λ t. told kind (read t)) tokens) (each_only tokens)
      found)

  pub line_fails : (fault : LineFault TreeKind) (front : List A) (token : Token)
      (tokens all : List Token) (whole : Result (List A) TreeKind)
      → TellsLine (told kind (read token)) fault → all ≡ token ∷ tokens
      → joined (Ok front) (each (λ t. told kind (read t)) all) ≡ whole → TellsLine whole fault
  line_fails line.Memory front token tokens all whole found cut before = tt
  line_fails (line.Kind k) front token tokens all whole found cut before =
      fails_at k front token tokens all whole found cut before
