use Rattle.std.proofs.Common.{rules, FitsSigned, ◌≡◌, w64, to_z, of_z, ◌-◌, suc, ◌++◌, ◌∷◌, [], length, ap, sym, ◌∙◌, arith}
use Rattle.std.proofs.lemmas.Int.{to_z-of_z}
use Rattle.std.proofs.Math.Seq.{map-set_same}
use Rattle.adj_data.specs.Items.{number_of_item}
use Rattle.adj_data.specs.Entries.{with_number}
use Rattle.adj_data.specs.Faults.{in_range}
use Rattle.adj_data.specs.declared.entries.Entry.{Entry}
use Rattle.adj_data.proofs.Found.{with_last, number_kept}
use Rattle.adj_data.proofs.entries.Entries.go_on.Goals as goal

pub invariant_of-self : goal.invariant_of-self
invariant_of-self c =
    let r = c.index_mut.result.now in
    c.self.invariant ∙ sym (map-set_same (λ e. e.name.items) c.self.inside.entries.items (c.len-count.result - 1) (record r { numbers = c.push.new.self }) r (ap (λ e. e.name.items) c.index_mut.ensures.value))

pub invariant_of-self-2 : goal.invariant_of-self-2
invariant_of-self-2 c =
    let r = c.index_mut.result.now in
    c.self.invariant ∙ sym (map-set_same (λ e. e.name.items) c.self.inside.entries.items (c.len-count.result - 1) (record r { numbers = c.push.new.self }) r (ap (λ e. e.name.items) c.index_mut.ensures.value))

pub returns-clause-entries : goal.returns-clause-entries
returns-clause-entries c =
    let r = c.index_mut.result.now in
    let es = c.self.inside.entries.items in
    let i = c.len-count.result - 1 in
    let z = number_of_item c.args.item.now in
    let len : length es ≡ suc i = omega (arith, c.len-count.ensures, c.if-count-eq0.false) in
    let number = number_kept z c.in-Some.number (in_range z) c.in-Some.ensures in
    let fits : FitsSigned w64 c.in-Some.number = search rules in
    let cast : to_z w64 (of_z w64 c.in-Some.number) ≡ c.in-Some.number = to_z-of_z w64 c.in-Some.number fits in
    let numbers : c.push.new.self.items ≡ r.numbers.items ++ (z ∷ []) = c.in_ok-push.ensures.items ∙ ap (λ n. r.numbers.items ++ (n ∷ [])) (cast ∙ number) in
    with_last z es i r (record r { numbers = c.push.new.self }) len
    ((λ j. record { name = r.name.items; line = r.line; numbers = numbers j }) ∙ ap (λ (e : Entry). record { name = e.name.items; line = e.line; numbers = e.numbers.items ++ (z ∷ []) }) c.index_mut.ensures.value)
    ∙ ap (with_number z) c.self.view_is
