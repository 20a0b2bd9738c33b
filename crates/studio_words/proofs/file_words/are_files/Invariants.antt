use Rattle.std.proofs.Common.{◌≡◌, map, drop, string_bytes}
use Rattle.studio_rules.specs.Command.{are_files, are_files_where}
use Rattle.studio_words.proofs.file_words.are_files.Given as goal

-- The words before the index may be those of files. Standard input is taken if it is among them.
abbrev pub invariant-words : goal.invariant-words
invariant-words l = are_files_where l.taken (map string_bytes
    (drop l.word-index l.words)) ≡ are_files (map string_bytes l.words)
