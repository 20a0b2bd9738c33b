-- What the commands on a file say, from what is said of the file and of its problem.
use Rattle.std.proofs.Common.{◌≡◌, ◌<◌, ℕ, List, Some, None, length, refl, arith, inl, inr, suc}
use Rattle.std.proofs.Common.{replicate, Bool, true, false, Option, Result, Ok, ◌+◌}
use Rattle.std.specs.Prelude.{if◌then◌else◌}
use Rattle.std.proofs.lemmas.List.{length-replicate}
use Rattle.pns_text.specs.text_rules.declared.TextKind.TheVariants.{FileType}
use Rattle.pns_text.specs.text_rules.Fault.{Fault, seen_none, first_fault, first_is_type}
use Rattle.pns_text.specs.text_rules.Line.{lines_of, body_of, meant_of}
use Rattle.pns_text.specs.text_rules.Outside.{Told, IfTold}
use Rattle.pns_text.specs.text_rules.Value.{or_first, meaning_at}
use Rattle.pns_text.specs.text_rules.State.{ShelfState}
use Rattle.pns_text.specs.problem_rules.Problem.{Problem}
use Rattle.studio_words.specs.studio_rules.Ending.{Tells, Says}
use Rattle.studio_words.specs.studio_rules.declared.status.Status.{Status}
use Rattle.studio_words.specs.studio_rules.Reading.{AreHeld, FileFaults, GivesProblem, OnFile}
use Rattle.studio_words.specs.studio_rules.Reading.{OnText, FileSays}
use Rattle.studio_words.specs.studio_rules.Reading.{TextSays}
use Rattle.command_files.proofs.Ending.{Says-map, Says-told}

-- a file that is too long, also if the shelf knows nothing of it
pub long_file : (held : Told) (limit : ℕ) → IfTold held (λ file. limit < length file)
    → (file : List ℕ) × AreHeld held file × (limit < length file)
long_file None limit h =
    (replicate (suc limit) 0, tt, omega (arith, length-replicate {A = ℕ} (suc limit) 0))
long_file (Some None) limit h = absurd h
long_file (Some (Some file)) limit h = (file, refl, h)

typed : (b : Bool) (fault : Option Fault) (rest : Result Problem Fault) (p : Problem)
    → or_first (if b then fault else Some (1, FileType)) rest ≡ Ok p → b ≡ true
typed true fault rest p e = refl
typed false fault rest p e = cc

-- a text that gives a problem begins with the type of the file
pub has_type : (file : List ℕ) (p : Problem) → GivesProblem file p
    → first_is_type (lines_of file) ≡ true
has_type file p given =
    let texts = lines_of file in
    typed (first_is_type texts) (first_fault seen_none (body_of texts))
    (meaning_at (meant_of texts) (length texts + 1)) p given.reads

-- a command on a file says what its file says if that gives no problem
pub on_file-faults : (work : Problem → Status → List (List ℕ) → Type 0) (old new : ShelfState)
    (name : List ℕ) (s : Status) (t : List ℕ)
    → Says (FileFaults old.held name) (λ other. other ≡ name) old new s t
    → FileSays work name old new s t
on_file-faults work old new name =
    Says-map (FileFaults old.held name) (OnFile work old.held name) (λ other. other ≡ name)
    (λ other. other ≡ name) old new
    (λ s lines h. (h.0, h.1, inl h.2)) (λ other e. e)

-- and else what its work on the problem says
pub on_file-work : (work : Problem → Status → List (List ℕ) → Type 0) (old new : ShelfState)
    (name : List ℕ) (p : Problem) → (file : List ℕ) × AreHeld (old.held name) file
    × GivesProblem file p → (s : Status) (t : List ℕ) → Tells (work p) s t
    → FileSays work name old new s t
on_file-work work old new name p given =
    Says-told (work p) (OnFile work old.held name) (λ other. other ≡ name) old new
    (λ s lines h. (given.0, given.1, inr (p, given.2, h)))

-- the same of a command whose work also goes by the bytes of its file
pub on_text-faults : (work : List ℕ → Problem → Status → List (List ℕ) → Type 0)
    (old new : ShelfState) (name : List ℕ) (s : Status) (t : List ℕ)
    → Says (FileFaults old.held name) (λ other. other ≡ name) old new s t
    → TextSays work name old new s t
on_text-faults work old new name =
    Says-map (FileFaults old.held name) (OnText work old.held name) (λ other. other ≡ name)
    (λ other. other ≡ name) old new
    (λ s lines h. (h.0, h.1, inl h.2)) (λ other e. e)

pub on_text-work : (work : List ℕ → Problem → Status → List (List ℕ) → Type 0)
    (old new : ShelfState) (name file : List ℕ) (p : Problem) → AreHeld (old.held name) file
    → GivesProblem file p → (s : Status) (t : List ℕ) → Tells (work file p) s t
    → TextSays work name old new s t
on_text-work work old new name file p is given =
    Says-told (work file p) (OnText work old.held name) (λ other. other ≡ name) old new
    (λ s lines h. (file, is, inr (p, given, h)))
