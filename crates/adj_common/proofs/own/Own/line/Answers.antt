use Rattle.std.proofs.Common.{length, refl, sym, ap, ◌∙◌}
use Rattle.std.specs.Prelude.{unwrap_or}
use Rattle.std.proofs.lemmas.Option.{slice_get_read}
use Rattle.adj_common.specs.Tables.{beside}
use Rattle.adj_common.proofs.Walked.{beside_placed, beside_past, beside_nothing}
use Rattle.adj_common.proofs.own.Own.line.Goals as goal

pub returns-in-Some-get : goal.returns-in-Some-get
returns-in-Some-get c =
    let o = c.args.self.now in
    let b = c.args.block.now in
    let at = c.in-Some.at in
    let l = c.deref.result.now in
    let v = c.in-Some-get.last.now in
    let found = c.in-Some-get.ensures.lookup in
    record { line = ap (λ z. unwrap_or z c.args.line) (sym (ap (λ z. beside o.table.names z b) (sym c.deref.ensures.value) ∙ beside_placed o.table.names l b at v c.in-Some.ensures.place (slice_get_read l (length l) at v refl found.3.0 found.1))) }

pub returns-in-None-get : goal.returns-in-None-get
returns-in-None-get c =
    let o = c.args.self.now in
    let b = c.args.block.now in
    let l = c.deref.result.now in
    record { line = ap (λ z. unwrap_or z c.args.line) (sym (ap (λ z. beside o.table.names z b) (sym c.deref.ensures.value) ∙ beside_past o.table.names l b c.in-Some.at c.in-Some.ensures.place c.in-None-get.ensures.lookup.3)) }

pub returns-in-None : goal.returns-in-None
returns-in-None c =
    let o = c.args.self.now in
    record { line = ap (λ z. unwrap_or z c.args.line) (sym (beside_nothing o.table.names o.lines.items c.args.block.now c.in-None.ensures.place)) }
