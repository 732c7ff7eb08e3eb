use Rattle.std.proofs.Common.{◌≡◌, ◌∙◌, map, length, ap, subst}
use Rattle.std.proofs.lemmas.List.{length-map}
use Rattle.adj_tree.specs.View.{procedure_of, procedures_of}
use Rattle.def_meaning.specs.Apart.{AreApart}
use Rattle.def_sweep.specs.Declared.{unit_name}
use Rattle.def_meaning.specs.Read.{is_read}
use Rattle.def_meaning.specs.Written.{is_written}
use Rattle.def_sweep.specs.Names.{adjoint_name, forth_name, back_name}
use Rattle.adj_sets.specs.Sets.{all_added}
use Rattle.adj_naming.proofs.Added.{all_once}
use Rattle.adj_sweep.specs.declared.callees.Callee.{Callee}
use Rattle.adj_sweep.specs.declared.callees.Callees.{Callees}
use Rattle.adj_weave.specs.Orders.{names_of, said_of}
use Rattle.adj_weave.proofs.Known.{all_known, knows_has, said_names, none_made, names_made, rows_written, rows_read}
use Rattle.adj_weave.proofs.called.known_callees.Goals as goal

pub known_units-requires : goal.known_units-requires
known_units-requires c =
    let us = c.args.checked.now.program.units in
    let ps = map procedure_of us in
    let made = c.requires.made in
    record {
      units = knows_has c.args.marked.now us c.requires.units;
      named = ap length made.adjoints ∙ length-map ps (adjoint_name ps) ∙ length-map us procedure_of;
      forths = ap length made.forths ∙ length-map ps (forth_name ps) ∙ length-map us procedure_of;
      backs = ap length made.backs ∙ length-map ps (back_name ps) ∙ length-map us procedure_of;
    }

pub returns : goal.returns
returns c =
    let ps = procedures_of c.args.checked.now.program in
    let set : c.add_names.new.set ≡ map unit_name ps =
    c.in_ok-add_names.ensures.added ∙ ap (λ s. all_added s c.args.names.now) c.in_ok-set.ensures.empty ∙ all_once c.args.names.now c.requires.apart ∙ c.requires.names in
    let m = c.args.marked.now in
    let made = c.requires.made in
    let none : Callee = record { adjoint = c.in_ok-from_slice.field-0; forth = c.in_ok-from_slice-2.field-0; back = c.in_ok-from_slice-3.field-0; dummies = c.new-2.result } in
    let all : Callees = record { names = c.add_names.new.set; known = c.in_ok-known.known; other = none } in
    let unnamed : said_names none ≡ none_made = λ i. record { adjoint = c.in_ok-from_slice.ensures.bytes i; forth = c.in_ok-from_slice-2.ensures.bytes i; back = c.in_ok-from_slice-3.ensures.bytes i } in
    record {
      known = all_known m ps c.requires.units (subst AreApart c.requires.names c.requires.apart) all set
          (c.in_ok-known.ensures.known
          ∙ (λ i. said_of m 0 ps (names_of (made.adjoints i) (made.forths i) (made.backs i)) (rows_written ps i) (rows_read ps i))
          ∙ ap (λ ns. said_of m 0 ps ns (map (λ u. map (is_written ps u) u.dummies) ps) (map (λ u. map (is_read ps u) u.dummies) ps)) (names_made ps ps))
          unnamed c.new-2.ensures.items;
    }
