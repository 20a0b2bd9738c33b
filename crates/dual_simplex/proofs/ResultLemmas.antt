-- What follows from what is known of an answer.
use Rattle.std.specs.Prelude.{OnOk, IfErr}
use Rattle.std.specs.declared.result.Result.{Result}
use Rattle.std.specs.declared.result.Result.TheVariants.{Ok, Err}

pub map_ok : {T E P Q : Type 0} (r : Result T E) → (P → Q) → OnOk r P → OnOk r Q
map_ok (Ok x) f h = f h
map_ok (Err e) f h = h

pub map_err : {T E : Type 0} {P Q : E → Type 0} (r : Result T E) → ((e : E) → P e → Q e) → IfErr r P
    → IfErr r Q
map_err (Ok x) f h = h
map_err (Err e) f h = f e h
