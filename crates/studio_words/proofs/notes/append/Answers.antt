use Rattle.std.proofs.Common.{sym, subst, ◌∙◌, is_ok}
use Rattle.studio_rules.specs.Seconds.{AreSeconds}
use Rattle.studio_words.proofs.Seconds.{seconds-kept}
use Rattle.studio_words.proofs.notes.append.Goals as goal

pub returns : goal.returns
returns c =
    subst AreSeconds (sym c.extend_from_slice.ensures.items)
    (seconds-kept (is_ok c.extend_from_slice.result) c.args.bytes.now.items c.args.line.now.items _
    c.requires.before c.requires.line (c.deref.ensures.value ∙ c.in_ok-push.ensures.items))
