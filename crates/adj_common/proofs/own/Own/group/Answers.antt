use Rattle.std.proofs.Common.{◌≤◌, Some, length, map, Vec, Global, refl, sym, ap, ◌∙◌, subst}
use Rattle.std.proofs.lemmas.List.{length-map}
use Rattle.std.proofs.lemmas.Option.{slice_get_read}
use Rattle.adj_common.specs.Tables.{beside}
use Rattle.adj_common.specs.Views.{entry_of}
use Rattle.adj_common.specs.declared.members.Member.{Member}
use Rattle.adj_common.proofs.Blocked.{image, get_image}
use Rattle.adj_common.proofs.Walked.{beside_placed, beside_past, beside_nothing}
use Rattle.adj_common.proofs.own.Own.group.Goals as goal

pub returns-in-Some-get : goal.returns-in-Some-get
returns-in-Some-get c =
    let o = c.args.self.now in
    let b = c.args.block.now in
    let at = c.in-Some.at in
    let l = c.deref.result.now in
    let v = c.in-Some-get.group.now in
    let f = λ (g : Vec Member Global). map entry_of g.items in
    let found = c.in-Some-get.ensures.lookup in
    record {
      group =
          ap (λ z. beside o.table.names (map f z) b) (sym c.deref.ensures.value)
          ∙ beside_placed o.table.names (map f l) b at (f v) c.in-Some.ensures.place (get_image f l at ∙ ap (image f) (slice_get_read l (length l) at v refl found.3.0 found.1))
          ∙ ap (λ z. Some (map entry_of z)) (sym c.as_slice.ensures.value);
    }

pub returns-in-None-get : goal.returns-in-None-get
returns-in-None-get c =
    let o = c.args.self.now in
    let b = c.args.block.now in
    let at = c.in-Some.at in
    let l = c.deref.result.now in
    let f = λ (g : Vec Member Global). map entry_of g.items in
    record {
      group =
          ap (λ z. beside o.table.names (map f z) b) (sym c.deref.ensures.value)
          ∙ beside_past o.table.names (map f l) b at c.in-Some.ensures.place (subst (λ n. n ≤ at) (sym (length-map l f)) c.in-None-get.ensures.lookup.3);
    }

pub returns-in-None : goal.returns-in-None
returns-in-None c =
    let o = c.args.self.now in
    let f = λ (g : Vec Member Global). map entry_of g.items in
    record { group = beside_nothing o.table.names (map f o.groups.items) c.args.block.now c.in-None.ensures.place }
