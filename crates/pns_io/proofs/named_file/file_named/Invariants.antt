use Rattle.std.proofs.Common.{◌≡◌, drop}
use Rattle.pns_io.specs.NamedFiles.{file_of, file_views}
use Rattle.pns_io.proofs.named_file.file_named.Given as goal

-- the files before the index have other names
abbrev pub invariant-loop-file : goal.invariant-loop-file
invariant-loop-file l = file_of (file_views
    (drop l.file-index l.files)) l.name ≡ file_of (file_views l.fn.files) l.name
