-- A list of values that is read token by token: what was read, and what is read of the tokens that
-- follow.
use Rattle.std.specs.Prelude.{List, ◌++◌, Option, Some, None, Result, Ok, Err}
use Rattle.tree_text_rules.specs.Token.{both, mapped}
use Rattle.tree_text_rules.specs.declared.TreeKind.{TreeKind}

-- the values that were read, or the fault that was met
abbrev pub so_far : {A : Type 0} → Option TreeKind → List A → Result (List A) TreeKind
so_far None values = Ok values
so_far (Some kind) values = Err kind

abbrev pub joined : {A : Type 0} → Result (List A) TreeKind → Result (List A) TreeKind
    → Result (List A) TreeKind
joined front rest = mapped (λ found. found.0 ++ found.1) (both front rest)
