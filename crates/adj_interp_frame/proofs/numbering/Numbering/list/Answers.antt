use Rattle.std.proofs.Common.{sym, ap, subst, ◌∙◌}
use Rattle.std.proofs.lemmas.List.{take_all}
use Rattle.def_meaning.specs.Apart.{AreApart}
use Rattle.adj_interp_frame.proofs.Numberings.{names_of, distinct_apart}
use Rattle.adj_interp_frame.proofs.numbering.Numbering.list.Goals as goal

pub returns-clause-apart : goal.returns-clause-apart
returns-clause-apart c =
    let s = c.as_slice-name-items in
    let same = c.new.ensures.members ∙ c.loop-name.invariant ∙ ap names_of (take_all c.loop-name.name-index s.result.now c.loop-name-test.false ∙ s.ensures.keys) in
    subst AreApart (sym same) (distinct_apart c.self.inside.names.keys s.ensures.unique)
