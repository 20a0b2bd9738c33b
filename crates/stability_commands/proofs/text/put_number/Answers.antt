use Rattle.std.proofs.Common.{◌≡◌, ◌++◌, ◌∷◌, [], ◌∙◌, ℤ, string_bytes, subst, SFits, rules}
use Rattle.std.specs.Fmt.{signed_decimal}
use Rattle.std.specs.Int.{w64}
use Rattle.std.proofs.lemmas.Int.{to_z-of_z}
use Rattle.stability_commands.proofs.text.put_number.Goals as goal

pub returns-in-Ok-clause-prints : goal.returns-in-Ok-clause-prints
returns-in-Ok-clause-prints g c =
    let r : SFits w64 c.args.number = search rules in
    c.put.ensures.prints (c.args.head.now ∷ signed_decimal c.args.number ∷ [])
    (c.as_bytes.ensures.value
    ∙ subst (λ (z : ℤ). string_bytes c.in-Ok.line ≡ c.args.head.now ++ 32 ∷ signed_decimal z ++ 10
    ∷ []) (to_z-of_z w64 c.args.number r) c.in-Ok.ensures)
