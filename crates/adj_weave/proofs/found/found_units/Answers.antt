use Rattle.std.proofs.Common.{length, map, refl, ◌∙◌}
use Rattle.adj_tree.specs.View.{procedure_of}
use Rattle.adj_weave.specs.declared.found.Search.{Search}
use Rattle.adj_weave.proofs.Searched.{searched_units}
use Rattle.adj_weave.proofs.found.found_units.Goals as goal

pub returns-clause-adjointed : goal.returns-clause-adjointed
returns-clause-adjointed c = λ h at.
    let us = c.args.units.now in
    let s : Search = record { marked = c.args.marked; calls = c.as_slice.result; count = length us } in
    let is = searched_units s us c.args.names.now (c.as_slice.ensures.value ∙ c.in_ok-listed.ensures.calls) refl c.requires.names c.requires.apart in
    let ps = map procedure_of us in
    let taking = c.as_slice-2.ensures.members ∙ c.in_ok-taking.ensures.taking ps h is at in
    c.in_ok-adjointed.ensures.adjointed ps h is at taking

pub returns-clause-paired : goal.returns-clause-paired
returns-clause-paired c = λ h at.
    let us = c.args.units.now in
    let s : Search = record { marked = c.args.marked; calls = c.as_slice.result; count = length us } in
    let is = searched_units s us c.args.names.now (c.as_slice.ensures.value ∙ c.in_ok-listed.ensures.calls) refl c.requires.names c.requires.apart in
    let ps = map procedure_of us in
    let taking = c.as_slice-3.ensures.members ∙ c.in_ok-taking.ensures.taking ps h is at in
    c.in_ok-paired.ensures.paired ps h is taking

pub returns-clause-carried : goal.returns-clause-carried
returns-clause-carried c = λ h at.
    let us = c.args.units.now in
    let s : Search = record { marked = c.args.marked; calls = c.as_slice.result; count = length us } in
    let is = searched_units s us c.args.names.now (c.as_slice.ensures.value ∙ c.in_ok-listed.ensures.calls) refl c.requires.names c.requires.apart in
    let ps = map procedure_of us in
    let adjointed = c.as_slice-4.ensures.members ∙ returns-clause-adjointed c h at in
    let paired = c.as_slice-5.ensures.members ∙ returns-clause-paired c h at in
    c.in_ok-carried.ensures.carried ps h is adjointed paired
