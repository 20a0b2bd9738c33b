use Rattle.std.proofs.Common.{refl, sym, ◌∙◌, arith, length}
use Rattle.std.proofs.lemmas.Bool.{eqb-true}
use Rattle.studio_words.specs.studio_rules.Ending.{Only}
use Rattle.command_files.proofs.Ending.{HasRisen-later}
use Rattle.command_files.proofs.Put.{put_more, put_stopped, put_whole, answer_text, Ends-whole}
use Rattle.command_files.proofs.Put.{Ends-stopped}
use Rattle.command_files.proofs.say.say_text.Goals as goal

pub loop-rest-preserved : goal.loop-rest-preserved
loop-rest-preserved g c = record {
  put =
      put_more c.args.text.now c.loop-rest.rest.now c.cut_line.result.0.now c.cut_line.result.1.now
      _ _ _ c.loop-rest.invariant.put c.cut_line.ensures.cut c.in-Ok.ensures.ok;
  later = let more = c.put_answer.ensures.later in let before =
      c.loop-rest.invariant.later in omega (arith, more, before);
  quiet = c.put_answer.ensures.quiet ∙ c.loop-rest.invariant.quiet;
}

pub returns-in_default : goal.returns-in_default
returns-in_default g c =
    Ends-stopped (Only c.args.status c.args.text.now) c.args.out.now _ c.args.status
    (answer_text c.args.status c.requires) c.args.text.now (refl, refl)
    (HasRisen-later _ _ _ c.loop-rest.invariant.later c.in_default.ensures.cause)
    (put_stopped c.args.text.now c.loop-rest.rest.now c.cut_line.result.0.now
    c.cut_line.result.1.now _ _ _ c.loop-rest.invariant.put c.cut_line.ensures.cut
    c.in_default.ensures.err)
    (c.put_answer.ensures.quiet ∙ c.loop-rest.invariant.quiet)

pub returns : goal.returns
returns g c =
    Ends-whole (Only c.args.status c.args.text.now) c.args.out.now c.loop-rest.out c.args.status
    (answer_text c.args.status c.requires) c.args.text.now (refl, refl)
    (put_whole c.args.text.now c.loop-rest.rest.now _ _ c.loop-rest.invariant.put
    (eqb-true (length c.loop-rest.rest.now) 0 (sym c.loop-rest-test.ensures)))
    c.loop-rest.invariant.quiet
