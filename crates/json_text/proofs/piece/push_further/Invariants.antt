use Rattle.std.proofs.Common.{◌≡◌, ◌++◌, ◌∷◌, drop}
use Rattle.std.specs.Prelude.{flat_map}
use Rattle.json_text.proofs.piece.push_further.Given as goal

-- the text so far and the pieces that are left give the whole text
abbrev pub invariant-parting : goal.invariant-parting
invariant-parting l = l.text.items ++ flat_map (λ next. 44 ∷ 32
    ∷ next) (drop l.piece-index l.pieces) ≡ l.fn.text.items
    ++ flat_map (λ next. 44 ∷ 32 ∷ next) l.pieces
