use Rattle.std.proofs.Common.{◌≡◌, ℕ, ◌<◌, ◌≤◌, ◌+◌, ◌++◌, ◌∷◌, [], length, map, drop, get_or, append-nil, append_assoc, ap, sym, ◌∙◌, subst}
use Rattle.std.proofs.lemmas.List.{drop_all, map-append}
use Rattle.adj_tree.specs.View.{procedure_of, procedures_of}
use Rattle.adj_naming.proofs.Places.{get_or_any}
use Rattle.adj_sweep.specs.declared.callees.Callee.{Callee}
use Rattle.adj_weave.specs.Orders.{Names, names_of, dummies_said, said, said_of}
use Rattle.adj_weave.proofs.Facts.{writes_each, reads_each}
use Rattle.adj_weave.proofs.Known.{said_names, names_on, said_on}
use Rattle.adj_weave.proofs.called.known_units.Goals as goal

pub writes-requires : goal.writes-requires
writes-requires c =
    let many = ap length c.units_of-units.ensures.units ∙ sym (writes_each c.args.checked.now c.units_of-units.ensures.facts) in
    record { unit = subst (λ n. c.loop-k.k < n) many c.loop-k-test.true }

pub reads-requires : goal.reads-requires
reads-requires c =
    let many = ap length c.units_of-units.ensures.units ∙ sym (reads_each c.args.checked.now c.units_of-units.ensures.facts) in
    record { unit = subst (λ n. c.loop-k.k < n) many c.loop-k-test.true }

pub bounds-adjoints-k : goal.bounds-adjoints-k
bounds-adjoints-k c = subst (λ n. c.loop-k.k < n) (ap length c.units_of-units.ensures.units ∙ sym (ap length c.as_slice-adjoints.ensures.value ∙ c.requires.named)) c.loop-k-test.true

pub bounds-forths-k : goal.bounds-forths-k
bounds-forths-k c = subst (λ n. c.loop-k.k < n) (ap length c.units_of-units.ensures.units ∙ sym (ap length c.as_slice-forths.ensures.value ∙ c.requires.forths)) c.loop-k-test.true

pub bounds-backs-k : goal.bounds-backs-k
bounds-backs-k c = subst (λ n. c.loop-k.k < n) (ap length c.units_of-units.ensures.units ∙ sym (ap length c.as_slice-backs.ensures.value ∙ c.requires.backs)) c.loop-k-test.true

pub loop-k-init : goal.loop-k-init
loop-k-init c =
    let k = c.args.checked.now in
    let adjoints = c.as_slice-adjoints.result.now in
    let forths = c.as_slice-forths.result.now in
    let backs = c.as_slice-backs.result.now in
    λ i. map said (c.new-made.ensures.items i) ++ said_of c.args.marked.now 0 (map procedure_of (c.units_of-units.ensures.units i)) (names_of adjoints forths backs) k.writes k.reads

pub loop-k-preserved : goal.loop-k-preserved
loop-k-preserved c =
    let m = c.args.marked.now in
    let known = c.args.checked.now in
    let facts = c.units_of-units.ensures.facts in
    let many = c.units_of-units.ensures.units in
    let us = c.units_of-units.result.now in
    let adjoints = c.as_slice-adjoints.result.now in
    let forths = c.as_slice-forths.result.now in
    let backs = c.as_slice-backs.result.now in
    let ws = known.writes in
    let rs = known.reads in
    let k = c.loop-k.k in
    let lt : k < length us = c.loop-k-test.true in
    let within = λ (n : ℕ) (same : n ≡ length known.program.units). subst (λ z. k < z) (ap length many ∙ sym same) lt in
    let written : k < length ws = subst (λ n. k < n) (ap length many ∙ sym (writes_each known facts)) lt in
    let read : k < length rs = subst (λ n. k < n) (ap length many ∙ sym (reads_each known facts)) lt in
    let u = c.index-units-k.result in
    let w = get_or ws k [] in
    let r = get_or rs k [] in
    let first : Names = record { adjoint = c.index-adjoints-k.result; forth = c.index-forths-k.result; back = c.index-backs-k.result } in
    let own : Callee = record { adjoint = c.in_ok-copy.field-0; forth = c.in_ok-copy-2.field-0; back = c.in_ok-copy-3.field-0; dummies = c.in_ok-dummies.dummies } in
    let made = map said c.loop-k.made.items in
    let left = names_of (drop (k + 1) adjoints) (drop (k + 1) forths) (drop (k + 1) backs) in
    let rest = said_of m (k + 1) (map procedure_of (drop (k + 1) us)) left (drop (k + 1) ws) (drop (k + 1) rs) in
    let dummies = c.in_ok-dummies.ensures.dummies
    ∙ (λ i. dummies_said m k (c.as_slice-own.ensures.members i) ((c.as_slice-written.ensures.members ∙ c.writes.ensures.writes) i) ((c.as_slice-read.ensures.members ∙ c.reads.ensures.reads) i)) in
    let names_are : said_names own ≡ first = λ i. record { adjoint = c.in_ok-copy.ensures.same i; forth = c.in_ok-copy-2.ensures.same i; back = c.in_ok-copy-3.ensures.same i } in
    let begin = names_on k adjoints forths backs first.adjoint first.forth first.back
    (within (length adjoints) (ap length c.as_slice-adjoints.ensures.value ∙ c.requires.named)) c.index-adjoints-k.is (within (length forths) (ap length c.as_slice-forths.ensures.value ∙ c.requires.forths)) c.index-forths-k.is (within (length backs) (ap length c.as_slice-backs.ensures.value ∙ c.requires.backs)) c.index-backs-k.is in
    ap (λ z. map said z ++ rest) c.in_ok-push.ensures.items
    ∙ ap (λ z. z ++ rest) (map-append said c.loop-k.made.items (own ∷ []))
    ∙ append_assoc made (said own ∷ []) rest
    ∙ (λ i. made ++ (names_are i, dummies i) ∷ rest)
    ∙ ap (λ z. made ++ z) (sym (said_on m k us (names_of (drop k adjoints) (drop k forths) (drop k backs)) left ws rs u first w r lt c.index-units-k.is begin written (get_or_any ws k [] w written) read (get_or_any rs k [] r read)))
    ∙ c.loop-k.invariant

pub returns : goal.returns
returns c =
    let m = c.args.marked.now in
    let known = c.args.checked.now in
    let facts = c.units_of-units.ensures.facts in
    let us = c.units_of-units.result.now in
    let adjoints = c.as_slice-adjoints.result.now in
    let forths = c.as_slice-forths.result.now in
    let backs = c.as_slice-backs.result.now in
    let k = c.loop-k.k in
    let made = map said c.loop-k.made.items in
    let past : length us ≤ k = c.loop-k-test.false in
    let left = names_of (drop k adjoints) (drop k forths) (drop k backs) in
    record {
      known = sym (ap (λ z. made ++ said_of m k (map procedure_of z) left (drop k known.writes) (drop k known.reads)) (drop_all k us past) ∙ append-nil made)
          ∙ c.loop-k.invariant
          ∙ (λ i. said_of m 0 (procedures_of known.program) (names_of (c.as_slice-adjoints.ensures.value i) (c.as_slice-forths.ensures.value i) (c.as_slice-backs.ensures.value i)) (facts.writes i) (facts.reads i));
    }
