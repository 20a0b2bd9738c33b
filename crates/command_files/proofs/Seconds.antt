-- What the commands on a file and a second file say, from what is said of each.
use Rattle.std.proofs.Common.{◌≡◌, ◌≤◌, ◌⊎◌, ℕ, List, inl, inr, subst, sym}
use Rattle.pns_text.specs.text_rules.Outside.{Told}
use Rattle.pns_text.specs.text_rules.State.{ShelfState}
use Rattle.pns_text.specs.problem_rules.Problem.{Problem}
use Rattle.studio_words.specs.studio_rules.Reading.{AreHeld, LongFile, IsLong, FileFaults}
use Rattle.studio_words.specs.studio_rules.Reading.{GivesProblem, OnFile}
use Rattle.studio_words.specs.studio_rules.Reading.{OnSecond, OnText, TwoFilesSay, TwoTextsSay}
use Rattle.studio_words.specs.studio_rules.Ending.{Says}
use Rattle.studio_words.specs.studio_rules.declared.status.Status.{Status}
use Rattle.studio_words.specs.studio_rules.declared.status.Status.TheVariants.{TooLong}
use Rattle.command_files.proofs.Ending.{Says-map, Says-over}

-- a file above its limit is one of the faults of its text
pub long-faults : (fault : List ℕ → Status → List (List ℕ) → Type 0) (old new : ShelfState)
    (name : List ℕ) (limit : ℕ)
    → ((file : List ℕ) (lines : List (List ℕ)) → IsLong name limit file lines
    → fault file TooLong lines) → (s : Status) (t : List ℕ)
    → Says (LongFile old.held name limit) (λ other. other ≡ name) old new s t
    → Says (λ status lines. (file : List ℕ) × AreHeld (old.held name) file
    × fault file status lines) (λ other. other ≡ name) old new s t
long-faults fault old new name limit is =
    Says-map (LongFile old.held name limit)
    (λ status lines. (file : List ℕ) × AreHeld (old.held name) file × fault file status lines)
    (λ other. other ≡ name) (λ other. other ≡ name) old new
    (λ s lines h. subst (λ (status : Status). (file : List ℕ) × AreHeld (old.held name) file
    × fault file status lines) (sym h.0) (h.1.0, h.1.1, is h.1.0 lines h.1.2)) (λ other e. e)

module _ (judged : Problem → List ℕ → Status → List (List ℕ) → Type 0) where
  -- the second file has a fault
  pub on_second-faults : (fault : List ℕ → Status → List (List ℕ) → Type 0) (old new : ShelfState)
      (name : List ℕ) (p : Problem)
      → ((file : List ℕ) (s : Status) (lines : List (List ℕ)) → fault file s lines
      → judged p file s lines) → (s : Status) (t : List ℕ)
      → Says (λ status lines. (file : List ℕ) × AreHeld (old.held name) file
      × fault file status lines) (λ other. other ≡ name) old new s t
      → Says (OnSecond judged old.held name p) (λ other. other ≡ name) old new s t
  on_second-faults fault old new name p is =
      Says-map (λ status lines. (file : List ℕ) × AreHeld (old.held name) file
      × fault file status lines) (OnSecond judged old.held name p) (λ other. other ≡ name)
      (λ other. other ≡ name) old new
      (λ s lines h. (h.0, h.1, is h.0 s lines h.2)) (λ other e. e)

  module _ (file name : List ℕ) where
    -- a file that gives no problem
    pub on_both-faults : (old new : ShelfState) (s : Status) (t : List ℕ)
        → Says (FileFaults old.held file) (λ other. other ≡ file) old new s t
        → TwoFilesSay (OnSecond judged) file name old new s t
    on_both-faults old new =
        Says-map (FileFaults old.held file) (OnFile (OnSecond judged old.held name) old.held file)
        (λ other. other ≡ file) (λ other. (other ≡ file) ⊎ (other ≡ name)) old new
        (λ s lines h. (h.0, h.1, inl h.2)) (λ other e. inl e)

    -- a problem, and then what is said of the second file over the shelf as it was left
    pub on_both-work : (old mid new : ShelfState) (p : Problem) → (bytes : List ℕ)
        × AreHeld (old.held file) bytes × GivesProblem bytes p → mid.held name ≡ old.held name
        → ((other : List ℕ) → old.faults other ≤ mid.faults other) → (s : Status) (t : List ℕ)
        → Says (OnSecond judged mid.held name p) (λ other. other ≡ name) mid new s t
        → TwoFilesSay (OnSecond judged) file name old new s t
    on_both-work old mid new p given held later =
        Says-over (OnSecond judged mid.held name p)
        (OnFile (OnSecond judged old.held name) old.held file) (λ other. other ≡ name)
        (λ other. (other ≡ file) ⊎ (other ≡ name)) old mid new
        (λ s lines h. (
          given.0,
          given.1,
          inr (p, given.2, (h.0, subst (λ (o : Told). AreHeld o h.0) held h.1, h.2)),
        ))
        (λ other e. inr e) later

-- the same of a command whose work on the second file also goes by the bytes of the first
module _ (judged : List ℕ → Problem → List ℕ → Status → List (List ℕ) → Type 0)
    (file name : List ℕ) where
  abbrev pub Judged : (List ℕ → Told) → List ℕ → List ℕ → Problem → Status → List (List ℕ) → Type 0
  Judged held second bytes = OnSecond (judged bytes) held second

  pub on_texts-faults : (old new : ShelfState) (s : Status) (t : List ℕ)
      → Says (FileFaults old.held file) (λ other. other ≡ file) old new s t
      → TwoTextsSay Judged file name old new s t
  on_texts-faults old new =
      Says-map (FileFaults old.held file) (OnText (Judged old.held name) old.held file)
      (λ other. other ≡ file) (λ other. (other ≡ file) ⊎ (other ≡ name)) old new
      (λ s lines h. (h.0, h.1, inl h.2)) (λ other e. inl e)

  pub on_texts-work : (old mid new : ShelfState) (p : Problem) (bytes : List ℕ)
      → AreHeld (old.held file) bytes → GivesProblem bytes p → mid.held name ≡ old.held name
      → ((other : List ℕ) → old.faults other ≤ mid.faults other) → (s : Status) (t : List ℕ)
      → Says (OnSecond (judged bytes) mid.held name p) (λ other. other ≡ name) mid new s t
      → TwoTextsSay Judged file name old new s t
  on_texts-work old mid new p bytes is gives held later =
      Says-over (OnSecond (judged bytes) mid.held name p)
      (OnText (Judged old.held name) old.held file) (λ other. other ≡ name)
      (λ other. (other ≡ file) ⊎ (other ≡ name)) old mid new
      (λ s lines h. (
        bytes,
        is,
        inr (p, gives, (h.0, subst (λ (o : Told). AreHeld o h.0) held h.1, h.2)),
      ))
      (λ other e. inr e) later
