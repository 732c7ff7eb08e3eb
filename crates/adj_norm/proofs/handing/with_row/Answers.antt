use Rattle.std.proofs.Common.{◌≡◌, ◌+◌, ◌++◌, ◌∷◌, [], true, false, length, ap, sym, ◌∙◌, arith, length-append}
use Rattle.def_meaning.specs.Apart.{has_name}
use Rattle.adj_sets.specs.Sets.{with_added}
use Rattle.adj_norm.specs.Rows.{at_name}
use Rattle.adj_norm.proofs.Adding.{added_there, added_behind}
use Rattle.adj_norm.proofs.Rows.{at_more, at_same}
use Rattle.adj_norm.proofs.handing.with_row.Goals as goal

pub returns-then-has : goal.returns-then-has
returns-then-has c =
    let t = c.args.table in
    let name = c.args.name.now in
    let there : has_name name t.units ≡ true = ap (λ z. has_name z t.units) (sym c.bytes.ensures.bytes) ∙ sym c.has.ensures.found ∙ c.if-has.true in
    record { alike = c.requires.alike; names = sym (added_there name t.units there); rows = λ x. at_same t.units t.rows.items name c.args.row.now x there }

pub returns : goal.returns
returns c =
    let t = c.args.table in
    let name = c.args.name.now in
    let row = c.args.row.now in
    let absent : has_name name t.units ≡ false = ap (λ z. has_name z t.units) (sym c.bytes.ensures.bytes) ∙ sym c.has.ensures.found ∙ c.if-has.false in
    let added : c.add.new.self ≡ with_added name t.units = c.in_ok-add.ensures.added ∙ ap (λ z. with_added z t.units) c.bytes-2.ensures.bytes in
    let units : c.add.new.self ≡ t.units ++ name ∷ [] = added ∙ added_behind name t.units absent in
    let rows : c.push.new.self.items ≡ t.rows.items ++ row ∷ [] = c.in_ok-push.ensures.items ∙ ap (λ z. t.rows.items ++ z ∷ []) (c.new.ensures.members ∙ c.in_ok-same.ensures.items_if_clones_equal (λ a b e. e)) in
    record {
      alike =
          let one : length c.add.new.self ≡ length t.units + 1 = ap length units ∙ length-append t.units (name ∷ []) in
          let other : length c.push.new.self.items ≡ length t.rows.items + 1 = ap length rows ∙ length-append t.rows.items (row ∷ []) in
          omega (arith, one, other, c.requires.alike);
      names = added;
      rows = λ x. (λ i. at_name (units i) (rows i) x) ∙ at_more t.units t.rows.items name row x c.requires.alike;
    }
