use Rattle.std.proofs.Common.{◌∷◌, [], refl, codes}
use Rattle.command_files.proofs.EndingsSeconds.{printable_line}
use Rattle.command_files.proofs.say.not_finished.Goals as goal

pub returns-in-Spent : goal.returns-in-Spent
returns-in-Spent c = (
  codes "  not finished: all nodes of the budget are spent"
      ∷ codes "  call again with a greater BUDGET, up to 1M" ∷ [],
  (
    (
      codes "not finished: all nodes of the budget are spent",
      refl,
      printable_line (codes "not finished: all nodes of the budget are spent") refl,
    ),
    (
      (
        codes "call again with a greater BUDGET, up to 1M",
        refl,
        printable_line (codes "call again with a greater BUDGET, up to 1M") refl,
      ),
      tt,
    ),
  ),
  refl,
)

pub returns-in_default : goal.returns-in_default
returns-in_default c = (
  codes "  not finished: a number overflows 128 bits"
      ∷ codes "  write rates and costs with fewer digits, or tighter bounds" ∷ [],
  (
    (
      codes "not finished: a number overflows 128 bits",
      refl,
      printable_line (codes "not finished: a number overflows 128 bits") refl,
    ),
    (
      (
        codes "write rates and costs with fewer digits, or tighter bounds",
        refl,
        printable_line (codes "write rates and costs with fewer digits, or tighter bounds") refl,
      ),
      tt,
    ),
  ),
  refl,
)
