-- What is printed of TREE after FILE is read, over the shelf as it was left.
use Rattle.std.proofs.Common.{◌≡◌, ◌≤◌, ◌⊎◌, ℕ, List, inl, inr, subst}
use Rattle.network_commands.specs.text_rules.Outside.{Told}
use Rattle.network_commands.specs.text_rules.State.{ShelfState}
use Rattle.network_commands.specs.problem_rules.Problem.{Problem}
use Rattle.network_commands.specs.studio_rules.Reading.{AreHeld, FileFaults, GivesProblem, OnFile}
use Rattle.network_commands.specs.studio_rules.Part.{AgainstWork}
use Rattle.network_commands.specs.studio_rules.Ending.{Says}
use Rattle.network_commands.specs.studio_rules.declared.status.Status.{Status}
use Rattle.network_commands.proofs.command_files.Cited.{Says-map, Says-over}

module _ (budget : ℕ) (file tree word other : List ℕ) where
  abbrev AllSay : (List ℕ → Told) → Status → List (List ℕ) → Type 0
  AllSay held = OnFile (AgainstWork budget held tree word other) held file

  -- a file that gives no problem
  pub file_faults : (old new : ShelfState) (s : Status) (t : List ℕ)
      → Says (FileFaults old.held file) (λ name. name ≡ file) old new s t
      → Says (AllSay old.held) (λ name. (name ≡ file) ⊎ (name ≡ tree)) old new s t
  file_faults old new =
      Says-map (FileFaults old.held file) (AllSay old.held) (λ name. name ≡ file)
      (λ name. (name ≡ file) ⊎ (name ≡ tree)) old new
      (λ s lines h. (h.0, h.1, inl h.2)) (λ name e. inl e)

  -- a problem, and then what is printed of it
  pub file_work : (old mid new : ShelfState) (p : Problem) → (bytes : List ℕ)
      × AreHeld (old.held file) bytes × GivesProblem bytes p
      → ((name : List ℕ) → mid.held name ≡ old.held name)
      → ((name : List ℕ) → old.faults name ≤ mid.faults name)
      → (s : Status) (t : List ℕ)
      → Says (AgainstWork budget mid.held tree word other p) (λ name. name ≡ tree) mid new s t
      → Says (AllSay old.held) (λ name. (name ≡ file) ⊎ (name ≡ tree)) old new s t
  file_work old mid new p given keeps later =
      let same : mid.held ≡ old.held = λ i name. keeps name i in
      Says-over (AgainstWork budget mid.held tree word other p) (AllSay old.held)
      (λ name. name ≡ tree) (λ name. (name ≡ file) ⊎ (name ≡ tree)) old mid new
      (λ s lines h. (
        given.0,
        given.1,
        inr (
          p,
          given.2,
          subst (λ (held : List ℕ → Told). AgainstWork budget held tree word other p s lines) same
              h,
        ),
      ))
      (λ name e. inr e) later
