use Rattle.std.proofs.Common.{◌≡◌, ◌+◌, ◌++◌, ◌∷◌, [], drop, ap, sym, ◌∙◌, append-nil, append_assoc, if◌then◌else◌, arith}
use Rattle.std.specs.Prelude.{◌||◌}
use Rattle.std.proofs.lemmas.List.{drop_all}
use Rattle.def_meaning.specs.Apart.{has_name}
use Rattle.adj_naming.proofs.Places.{from_here}
use Rattle.adj_norm.specs.Source.{kept_among}
use Rattle.adj_norm.proofs.source.kept.Goals as goal

pub loop-variable-init : goal.loop-variable-init
loop-variable-init c = record { kept = ap (λ z. z ++ kept_among c.args.used.now c.args.extents.now c.args.variables.now) c.new-made.ensures.items }

pub loop-variable-preserved : goal.loop-variable-preserved
loop-variable-preserved c =
    let l = c.loop-variable in
    let items = c.args.variables.now in
    let x = c.variable-item.result in
    let used = c.args.used.now in
    let extents = c.args.extents.now in
    let others = kept_among used extents (drop (l.variable-index + 1) items) in
    let here = if has_name x used || has_name x extents then x ∷ [] else [] in
    record {
      kept =
          ap (λ z. z ++ others) c.in_ok-add_where.ensures.added ∙ append_assoc l.made.items here others
          ∙ ap (λ z. l.made.items ++ kept_among used extents z) (sym (from_here items l.variable-index x c.loop-variable-test.true c.variable-item.is)) ∙ l.invariant.kept;
    }

pub returns : goal.returns
returns c =
    let l = c.loop-variable in
    let items = c.args.variables.now in
    let none_left : drop l.variable-index items ≡ [] = drop_all l.variable-index items (omega arith) in
    record { kept = sym (append-nil l.made.items) ∙ ap (λ z. l.made.items ++ kept_among c.args.used.now c.args.extents.now z) (sym none_left) ∙ l.invariant.kept }
