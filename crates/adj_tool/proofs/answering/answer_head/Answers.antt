use Rattle.adj_tree.specs.View.{procedures_of}
use Rattle.law_kernel.specs.Sound.{IsAccepted}
use Rattle.adj_tool.specs.Views.{request_of}
use Rattle.adj_tool.proofs.Heads.{head_there, head_transforms}
use Rattle.adj_tool.proofs.answering.answer_head.Goals as goal

pub written-requires-clause-accepted : goal.written-requires-clause-accepted
written-requires-clause-accepted c = record { written = c.requires.written; sound = c.requires.sound }

pub written-requires-clause-there : goal.written-requires-clause-there
written-requires-clause-there c = let r = request_of c.args.request.now in head_there (procedures_of c.args.program.program) r.head r.vars r.outvars c.requires.sound_head

pub returns-clause-transformed : goal.returns-clause-transformed
returns-clause-transformed c =
    let ps = procedures_of c.args.program.program in
    let accepted : IsAccepted ps = record { written = c.requires.written; sound = c.requires.sound } in
    λ bytes few marked reads given done.
    head_transforms (request_of c.args.request.now) ps c.args.head c.requires.sound_head c.requires.head accepted c.emitted_law.ensures.reversed_runnable c.limits_law.ensures.runnable c.reading_law.ensures.program c.args.wanted c.args.splits.now c.in_ok-answer.answer.text.items
    (c.in_ok-answer.ensures.reads_back done) bytes few marked reads given
