-- What is written for a program that keeps the limits of a run reads in Run mode.
use Rattle.std.proofs.Common.{◌≡◌, inl, inr, List, [], ◌∷◌, map, refl, sym, ap, subst, ◌∙◌, true}
use Rattle.adj_tree.specs.Code.{Procedure}
use Rattle.adj_tree.specs.Size.{IsNested}
use Rattle.adj_tree.specs.Common.{without_commons}
use Rattle.def_common.specs.Source.{without_blocks}
use Rattle.def_common.proofs.WithoutBlocks.{without_same}
use Rattle.def_text.specs.Refused.{◌>>=◌}
use Rattle.def_text.specs.Text.{text_of}
use Rattle.def_text.specs.declared.mode.Mode.TheVariants.{Run}
use Rattle.def_text.proofs.Cut.{text_forms}
use Rattle.def_text.proofs.WrittenBack.{written_reads_back}
use Rattle.adj_parse.specs.Trees.{start, trees_of}
use Rattle.adj_parse.proofs.UnitsComplete.{units_run}
use Rattle.law_limits.specs.Kept.{short_names, shallow}
use Rattle.law_limits.specs.Reading.{KeptReads}
use Rattle.law_limits.proofs.Keeping.{units_in, all_keep, units_keep}
use Rattle.law_limits.proofs.FittingTerms.{fitting}
use Rattle.law_limits.proofs.SaidForms.{Laws}
use Rattle.law_limits.proofs.ShortStatements.{statements_kept}
use Rattle.law_limits.proofs.Unlined.{keeps_alike, nested_alike}
use Rattle.law_limits.proofs.WrittenFits.{written_fits}
use Rattle.law_limits.proofs.Chain.{chain_goes}

units_alone : (ps : List Procedure) → units_in (map without_commons ps) ≡ ps
units_alone [] = refl
units_alone (p ∷ ps) = ap (λ qs. p ∷ qs) (units_alone ps)

pub kept_reads : Laws → KeptReads
kept_reads laws p written kept =
    let back = written_reads_back p written in
    let found = back.0 in
    let r = back.1 in
    let same = back.2 in
    let short : all_keep (short_names 63) r.statements ≡ true = units_keep (short_names 63) found r.units_derive ∙ keeps_alike (short_names 63) found p same ∙ kept.names in
    let deep : all_keep (shallow 120) r.statements ≡ true = units_keep (shallow 120) found r.units_derive ∙ keeps_alike (shallow 120) found p same ∙ kept.depths in
    let fit : all_keep fitting r.statements ≡ true = units_keep fitting found r.units_derive ∙ keeps_alike fitting found p same ∙ written_fits p written in
    let nested = nested_alike 45 p found (sym same) kept.nested in
    let stated = statements_kept (text_of p) r.stated r.statements (text_forms (text_of p) r.stated r.lines_form) r.lexemes_derive short in
    elim (chain_goes laws r.lexemes_derive (start Run) (map without_commons found) (units_run r.units_derive) (subst (IsNested 45) (sym (units_alone found)) nested) deep fit) [
      | inl e ↦ inl (found, ap (λ s. s >>= without_blocks) (ap (λ s. s >>= trees_of Run) stated ∙ e) ∙ without_same found, same)
      | inr (line, e) ↦ inr (line, ap (λ s. s >>= without_blocks) (ap (λ s. s >>= trees_of Run) stated ∙ e))
    ]
