use Rattle.std.proofs.Common.{ap, sym, ◌∙◌}
use Rattle.adj_io.specs.Bytes.{extended_by}
use Rattle.adj_tool.proofs.Headline.{comparison, emitted, headline, tangent}
use Rattle.adj_tool.proofs.top.tool.Goals as goal

pub returns-in-Ok-write_all-clause-headline : goal.returns-in-Ok-write_all-clause-headline
returns-in-Ok-write_all-clause-headline g c = λ z. headline _ _ _ _ _ c.in-Ok.answer.text.items (c.in-Ok.ensures.written (sym c.number.ensures.value ∙ z)) (c.in-Ok-write_all.ensures.bytes ∙ ap (λ t. extended_by (g.K.Sink.taken c.args.output.now) t) c.as_slice.ensures.value)

pub returns-in-Ok-write_all-clause-compared : goal.returns-in-Ok-write_all-clause-compared
returns-in-Ok-write_all-clause-compared g c = λ z. comparison _ _ _ _ _ c.in-Ok.answer.text.items (c.in-Ok.ensures.compared (sym c.number.ensures.value ∙ z)) (c.in-Ok-write_all.ensures.bytes ∙ ap (λ t. extended_by (g.K.Sink.taken c.args.output.now) t) c.as_slice.ensures.value)

pub returns-in-Ok-write_all-clause-tangent : goal.returns-in-Ok-write_all-clause-tangent
returns-in-Ok-write_all-clause-tangent g c = λ z. tangent _ _ _ _ _ c.in-Ok.answer.text.items (c.in-Ok.ensures.written (sym c.number.ensures.value ∙ z)) (c.in-Ok-write_all.ensures.bytes ∙ ap (λ t. extended_by (g.K.Sink.taken c.args.output.now) t) c.as_slice.ensures.value)

pub returns-in-Ok-write_all-clause-emitted : goal.returns-in-Ok-write_all-clause-emitted
returns-in-Ok-write_all-clause-emitted g c = λ z. emitted _ _ _ _ _ c.in-Ok.answer.text.items (c.in-Ok.ensures.written (sym c.number.ensures.value ∙ z)) (c.in-Ok-write_all.ensures.bytes ∙ ap (λ t. extended_by (g.K.Sink.taken c.args.output.now) t) c.as_slice.ensures.value)
