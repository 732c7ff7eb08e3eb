use Rattle.std.proofs.Common.{◌≡◌, true, false, length, sym, ap, ◌∙◌}
use Rattle.std.specs.Prelude.{◌==◌, ◌&&◌, not}
use Rattle.std.proofs.lemmas.List.{length-map}
use Rattle.adj_tree.specs.Code.{Declaration}
use Rattle.adj_tree.specs.View.{extent_of}
use Rattle.def_names.specs.Variables.{is_integer_name}
use Rattle.def_sweep.specs.Declared.{declaration}
use Rattle.adj_common.specs.Views.{entry_of, firsts_of}
use Rattle.adj_common.proofs.Gained.{declared_there, gains_again, gains_first, both, first_fails, first_holds, last_counts, third_fails, second_fails}
use Rattle.adj_common.proofs.lowering.gets_declared.Goals as goal
use Rattle.adj_common.proofs.lowering.gets_declared.Goals.{then-item, else-item, then-item-2, else-item-2}

pub returns-after-item : goal.returns-after-item
returns-after-item c =
    let t = c.args.declared.now in
    let ds = firsts_of t in
    let m = c.args.member.now in
    let e = entry_of m in
    let there = declared_there t m.name c.bytes.result.now c.has.result c.bytes.ensures.bytes c.has.ensures.found ∙ c.if-has.true in
    let empty : c.is_empty-item.result ≡ (length e.item == 0) = c.is_empty-item.ensures ∙ ap (λ n. n == 0) (ap length c.as_slice.ensures.members ∙ sym (length-map m.item extent_of)) in
    let found = declaration 0 ds m.name in
    let all = sym (gains_again ds c.args.none e there) in
    elim c.if-item.branch [
      | then-item w ↦
          let again : not w.is_empty.result ≡ not (length found.extents == 0) =
          ap not (w.is_empty.ensures ∙ ap (λ n. n == 0) (ap length w.as_slice-then-item.ensures.members ∙ sym (length-map c.in_ok-found.found.extents extent_of)) ∙ ap (λ (d : Declaration). length d.extents == 0) c.in_ok-found.ensures.declaration) in
          record { gets = w.result-is ∙ again ∙ both (not (length e.item == 0)) (not (length found.extents == 0)) (ap not (sym empty ∙ w.if-item.true)) ∙ all }
      | else-item w ↦
          record { gets = w.result-is ∙ ap not empty ∙ first_fails (not (length e.item == 0)) (not (length found.extents == 0)) (ap not (sym empty ∙ w.if-item.false)) ∙ all }
    ]

pub returns-then-not-member : goal.returns-then-not-member
returns-then-not-member c =
    let t = c.args.declared.now in
    let ds = firsts_of t in
    let m = c.args.member.now in
    let e = entry_of m in
    let there = declared_there t m.name c.bytes.result.now c.has.result c.bytes.ensures.bytes c.has.ensures.found ∙ c.if-has.false in
    record { gets = first_holds (not m.own) (not (length e.item == 0) && (is_integer_name m.name && not c.args.none)) (ap not c.if-not-member.true) ∙ sym (gains_first ds c.args.none e there) }

pub returns-then-is_integer_name : goal.returns-then-is_integer_name
returns-then-is_integer_name c =
    let t = c.args.declared.now in
    let ds = firsts_of t in
    let m = c.args.member.now in
    let e = entry_of m in
    let there = declared_there t m.name c.bytes.result.now c.has.result c.bytes.ensures.bytes c.has.ensures.found ∙ c.if-has.false in
    let empty : c.is_empty-item.result ≡ (length e.item == 0) = c.is_empty-item.ensures ∙ ap (λ n. n == 0) (ap length c.as_slice.ensures.members ∙ sym (length-map m.item extent_of)) in
    let all = sym (gains_first ds c.args.none e there) in
    elim c.if-item-2.branch [
      | then-item-2 w ↦
          let integer : is_integer_name m.name ≡ true = ap is_integer_name (sym w.bytes-then-item-2.ensures.bytes) ∙ sym w.is_integer_name.ensures.integer ∙ sym w.value-is ∙ c.if-is_integer_name.true in
          record { gets = last_counts (not m.own) (not (length e.item == 0)) (is_integer_name m.name) (not c.args.none) (ap not c.if-not-member.false) (ap not (sym empty ∙ w.if-item-2.true)) integer ∙ all }
      | else-item-2 w ↦ absurd (let no : true ≡ false = sym c.if-is_integer_name.true ∙ w.value-is ∙ ap not w.if-item-2.false in cc)
    ]

pub returns-else-is_integer_name : goal.returns-else-is_integer_name
returns-else-is_integer_name c =
    let t = c.args.declared.now in
    let ds = firsts_of t in
    let m = c.args.member.now in
    let e = entry_of m in
    let there = declared_there t m.name c.bytes.result.now c.has.result c.bytes.ensures.bytes c.has.ensures.found ∙ c.if-has.false in
    let empty : c.is_empty-item.result ≡ (length e.item == 0) = c.is_empty-item.ensures ∙ ap (λ n. n == 0) (ap length c.as_slice.ensures.members ∙ sym (length-map m.item extent_of)) in
    let all = sym (gains_first ds c.args.none e there) in
    elim c.if-item-2.branch [
      | then-item-2 w ↦
          let is : is_integer_name m.name ≡ c.if-item-2.value = ap is_integer_name (sym w.bytes-then-item-2.ensures.bytes) ∙ sym w.is_integer_name.ensures.integer ∙ sym w.value-is in
          record { gets = sym is ∙ third_fails (not m.own) (not (length e.item == 0)) (is_integer_name m.name) (not c.args.none) (ap not c.if-not-member.false) (ap not (sym empty ∙ w.if-item-2.true)) (is ∙ c.if-is_integer_name.false) ∙ all }
      | else-item-2 w ↦
          record { gets = w.value-is ∙ ap not empty ∙ second_fails (not m.own) (not (length e.item == 0)) (is_integer_name m.name && not c.args.none) (ap not c.if-not-member.false) (ap not (sym empty ∙ w.if-item-2.false)) ∙ all }
    ]
