-- What follows from what is known of an option, or of an error.
use Rattle.std.specs.Prelude.{Option, Some, None, IfSome, IfNone, Result, Ok, Err, IfErr}

pub map_some : {T : Type 0} {P Q : T → Type 0} (o : Option T) → ((x : T) → P x → Q x) → IfSome o P
    → IfSome o Q
map_some None f h = h
map_some (Some x) f h = f x h

pub map_none : {T : Type 0} {P Q : Type 0} (o : Option T) → (P → Q) → IfNone o P → IfNone o Q
map_none None f h = f h
map_none (Some x) f h = h

pub map_err : {T E : Type 0} {P Q : E → Type 0} (r : Result T E) → ((e : E) → P e → Q e) → IfErr r P
    → IfErr r Q
map_err (Ok x) f h = h
map_err (Err e) f h = f e h
