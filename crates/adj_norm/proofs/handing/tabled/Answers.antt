use Rattle.std.proofs.Common.{◌≡◌, ◌+◌, ◌++◌, ◌∷◌, [], length, map, take, get_or, ap, sym, ◌∙◌, arith, if◌then◌else◌}
use Rattle.std.specs.Prelude.{◌||◌}
use Rattle.std.proofs.lemmas.List.{take_more, take_all, map_push, length-map, length-take-le}
use Rattle.adj_tree.specs.Code.{name_eq}
use Rattle.adj_tree.specs.View.{procedure_of}
use Rattle.adj_tree.specs.declared.unit.Unit.{Unit}
use Rattle.adj_sets.specs.Sets.{with_added}
use Rattle.def_meaning.specs.LeastSet.{row_of}
use Rattle.def_meaning.specs.Apart.{has_name}
use Rattle.def_kernel.specs.Kernel.{unit_name}
use Rattle.adj_norm_statement.specs.Handed.{flags_of}
use Rattle.adj_norm.proofs.Adding.{has_added}
use Rattle.adj_norm.specs.Rows.{at_name}
use Rattle.adj_norm.proofs.Rows.{row_found, rows_more, names_more}
use Rattle.adj_norm.proofs.handing.tabled.Goals as goal

pub loop-place-init : goal.loop-place-init
loop-place-init c =
    let units = c.in_ok-known.ensures.empty in
    let rows = c.new-2.ensures.items in
    record {
      alike = ap length units ∙ sym (ap length rows);
      names = λ x. ap (has_name x) units;
      rows = λ x. (λ i. at_name (units i) (rows i) x);
    }

pub loop-place-preserved : goal.loop-place-preserved
loop-place-preserved c =
    let l = c.loop-place in
    let items = c.args.units.now in
    let rows = c.args.rows.now in
    let i = l.place in
    let unit = c.index-units-place.result in
    let u = procedure_of unit in
    let passed = map procedure_of (take i items) in
    let within = c.loop-place-test.true in
    let now : map procedure_of (take (i + 1) items) ≡ passed ++ u ∷ [] = ap (map procedure_of) (take_more items i unit within ∙ ap (λ z. take i items ++ z ∷ []) (sym c.index-units-place.is)) ∙ map_push procedure_of (take i items) unit in
    let many : length passed ≡ i = length-map (take i items) procedure_of ∙ length-take-le i items (omega (arith, within)) in
    let p = c.in_ok-table.ensures in
    let stands : (get_or items i unit).name ≡ unit.name = ap (λ (z : Unit). z.name) (sym c.index-units-place.is) in
    let row : c.row_at.result.now ≡ flags_of rows (length passed) = c.row_at.ensures.row ∙ ap (flags_of rows) (sym many) in
    record {
      alike = p.alike;
      names = λ x.
          ap (has_name x) p.names ∙ ap (λ z. has_name x (with_added z l.table.units)) stands ∙ has_added x unit.name l.table.units ∙ ap (λ b. b || name_eq x unit.name) (l.invariant.names x) ∙ sym (names_more passed u x)
          ∙ ap (λ z. has_name x (map unit_name z)) (sym now);
      rows = λ x.
          p.rows x ∙ ap (λ z. if has_name x l.table.units then at_name l.table.units l.table.rows.items x else (if name_eq x z then c.row_at.result.now else [])) stands ∙ (λ j. if l.invariant.names x j then l.invariant.rows x j else (if name_eq x unit.name then row j else [])) ∙ sym (rows_more passed u rows x)
          ∙ ap (λ z. row_of z rows x) (sym now);
    }

pub returns : goal.returns
returns c =
    let l = c.loop-place in
    let items = c.args.units.now in
    let all : take l.place items ≡ items = take_all l.place items (omega arith) in
    record { table = λ x. row_found x l.table.units l.table.rows.items ∙ l.invariant.rows x ∙ ap (λ z. row_of (map procedure_of z) c.args.rows.now x) all }
