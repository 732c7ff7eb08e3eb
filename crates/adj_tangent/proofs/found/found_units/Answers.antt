use Rattle.std.proofs.Common.{◌≡◌, ◌∷◌, [], ◌<◌, ℕ, List, Bool, true, false, map, length, refl, ap, sym, subst, ◌∙◌}
use Rattle.std.specs.Prelude.{◌↔◌, IsTrue}
use Rattle.std.specs.List.{All}
use Rattle.std.proofs.lemmas.List.{length-map}
use Rattle.adj_tree.specs.View.{procedure_of}
use Rattle.adj_tree.specs.declared.unit.Unit.{Unit}
use Rattle.def_meaning.specs.Apart.{AreApart}
use Rattle.def_sweep.specs.Declared.{unit_name}
use Rattle.adj_reach.specs.Edges.{Edges, AreBelow, ReachedFrom, flag}
use Rattle.adj_weave_units.specs.Calls.{listed_from, edges_of, ends_of}
use Rattle.adj_weave_units.proofs.Reached.{edges_below, ends_below}
use Rattle.adj_tangent.specs.Known.{leading}
use Rattle.adj_tangent.proofs.Reached.{leading_below, made_are, stays_are}
use Rattle.adj_tangent.proofs.found.found_units.Goals as goal

-- the same nodes are met along the same edges
same_paths : (es fs : Edges) (start begun : List ℕ) (flags : List Bool) → es ≡ fs → start ≡ begun → ((x : ℕ) → IsTrue (flag flags x) ↔ ReachedFrom es start x) → (x : ℕ) → IsTrue (flag flags x) ↔ ReachedFrom fs begun x
same_paths es fs start begun flags e s h x =
    let r = h x in
    (λ t. subst (λ z. ReachedFrom z begun x) e (subst (λ z. ReachedFrom es z x) s (r.0 t)), λ t. r.1 (subst (λ z. ReachedFrom es z x) (sym s) (subst (λ z. ReachedFrom z begun x) (sym e) t)))

-- all calls of some units
abbrev all_calls : List Unit → Edges
all_calls us = edges_of (λ i turns. true) (listed_from (map unit_name (map procedure_of us)) 0 0 (map procedure_of us))

-- they are between these units
calls_below : (us : List Unit) → AreApart (map unit_name (map procedure_of us)) → AreBelow (length us) (all_calls us)
calls_below us apart = subst (λ k. AreBelow k (all_calls us)) (length-map us procedure_of) (edges_below (map procedure_of us) apart (λ i turns. true))

pub reach-requires-clause-edges : goal.reach-requires-clause-edges
reach-requires-clause-edges c =
    let us = c.args.units.now in
    let ps = map procedure_of us in
    let takes = c.args.flags.now in
    let apart : AreApart (map unit_name ps) = subst AreApart c.requires.names c.requires.apart in
    let es = c.as_slice-edges.ensures.value ∙ c.in_ok-calls.ensures.edges ∙ ap (edges_of (λ i turns. true)) (c.as_slice.ensures.value ∙ c.in_ok-listed.ensures.calls ∙ ap (λ ns. listed_from ns 0 0 ps) c.requires.names) in
    let taking = c.as_slice-2.ensures.value ∙ c.in_ok-taking.ensures.edges ∙ ap (leading takes true) es in
    subst (λ xs. AreBelow (length us) xs) (sym taking) (leading_below (length us) takes true (all_calls us) (calls_below us apart))

pub reach-requires-2-clause-edges : goal.reach-requires-2-clause-edges
reach-requires-2-clause-edges c =
    let us = c.args.units.now in
    let ps = map procedure_of us in
    let apart : AreApart (map unit_name ps) = subst AreApart c.requires.names c.requires.apart in
    let es = c.as_slice-edges.ensures.value ∙ c.in_ok-calls.ensures.edges ∙ ap (edges_of (λ i turns. true)) (c.as_slice.ensures.value ∙ c.in_ok-listed.ensures.calls ∙ ap (λ ns. listed_from ns 0 0 ps) c.requires.names) in
    subst (λ xs. AreBelow (length us) xs) (sym es) (calls_below us apart)

pub reach-requires-2-clause-start : goal.reach-requires-2-clause-start
reach-requires-2-clause-start c =
    let us = c.args.units.now in
    let ps = map procedure_of us in
    let takes = c.args.flags.now in
    let apart : AreApart (map unit_name ps) = subst AreApart c.requires.names c.requires.apart in
    let es = c.as_slice-edges.ensures.value ∙ c.in_ok-calls.ensures.edges ∙ ap (edges_of (λ i turns. true)) (c.as_slice.ensures.value ∙ c.in_ok-listed.ensures.calls ∙ ap (λ ns. listed_from ns 0 0 ps) c.requires.names) in
    let others = c.as_slice-4.ensures.value ∙ c.in_ok-others.ensures.edges ∙ ap (leading takes false) es in
    let called = c.as_slice-5.ensures.value ∙ c.in_ok-called.ensures.ends in
    let below : AreBelow (length us) c.as_slice-4.result.now = subst (λ xs. AreBelow (length us) xs) (sym others) (leading_below (length us) takes false (all_calls us) (calls_below us apart)) in
    subst (λ xs. All (λ x. x < length us) xs) (sym called) (ends_below (length us) c.as_slice-3.result.now c.as_slice-4.result.now below)

pub returns-clause-made : goal.returns-clause-made
returns-clause-made c k h told at =
    let us = c.args.units.now in
    let ps = map procedure_of us in
    let takes = c.args.flags.now in
    let n : length ps ≡ length us = length-map us procedure_of in
    let apart : AreApart (map unit_name ps) = subst AreApart c.requires.names c.requires.apart in
    let es = c.as_slice-edges.ensures.value ∙ c.in_ok-calls.ensures.edges ∙ ap (edges_of (λ i turns. true)) (c.as_slice.ensures.value ∙ c.in_ok-listed.ensures.calls ∙ ap (λ ns. listed_from ns 0 0 ps) c.requires.names) in
    let taking = c.as_slice-2.ensures.value ∙ c.in_ok-taking.ensures.edges ∙ ap (leading takes true) es in
    let start = c.args.head ∷ [] in
    made_are ps apart k takes told c.args.head h at c.in_ok-made.made (c.in_ok-made.ensures.count ∙ sym n)
    (same_paths c.as_slice-2.result.now (leading takes true (all_calls us)) start start c.in_ok-made.made taking refl c.in_ok-made.ensures.exact)

pub returns-clause-stays : goal.returns-clause-stays
returns-clause-stays c k h told at =
    let us = c.args.units.now in
    let ps = map procedure_of us in
    let takes = c.args.flags.now in
    let n : length ps ≡ length us = length-map us procedure_of in
    let apart : AreApart (map unit_name ps) = subst AreApart c.requires.names c.requires.apart in
    let es = c.as_slice-edges.ensures.value ∙ c.in_ok-calls.ensures.edges ∙ ap (edges_of (λ i turns. true)) (c.as_slice.ensures.value ∙ c.in_ok-listed.ensures.calls ∙ ap (λ ns. listed_from ns 0 0 ps) c.requires.names) in
    let others = c.as_slice-4.ensures.value ∙ c.in_ok-others.ensures.edges ∙ ap (leading takes false) es in
    let called = c.as_slice-5.ensures.value ∙ c.in_ok-called.ensures.ends ∙ (λ i. ends_of (c.as_slice-3.ensures.members i) (others i)) in
    stays_are ps apart k takes told c.args.head h at c.in_ok-made.made c.in_ok-stays.stays (returns-clause-made c k h told at) (c.in_ok-stays.ensures.count ∙ sym n)
    (same_paths c.as_slice-edges.result.now (all_calls us) c.as_slice-5.result.now (ends_of c.in_ok-made.made (leading takes false (all_calls us))) c.in_ok-stays.stays es called c.in_ok-stays.ensures.exact)
