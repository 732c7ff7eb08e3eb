-- Units under their names: their numbers, first statements and points are those of both crates.
use Rattle.std.proofs.Common.{◌≡◌, ℕ, suc, ◌+◌, ◌*◌, List, [], ◌∷◌, Bool, true, false, refl, sym, ap, ◌∙◌, arith, if◌then◌else◌}
use Rattle.std.specs.Prelude.{Some}
use Rattle.adj_tree.specs.Code.{name_eq, Procedure}
use Rattle.def_meaning.specs.Written.{find_unit}
use Rattle.def_names.specs.Numbers.{behind}
use Rattle.def_sweep.specs.Marking.{first_from, first_statement, statements_from, place_from, entry_point, end_point}
use Rattle.def_flow.specs.Parts.{Part, part, parts_from, parts, find_part}
use Rattle.def_names.specs.StatementsIn.{statements_in}

pub same_statements : (i : ℕ) (ps : List Procedure) → statements_from i ps ≡ statements_in i ps
same_statements i [] = refl
same_statements i (u ∷ us) = same_statements (behind i u.body) us

-- what a part that is found says
pub record Numbered (t u i : ℕ) (ps : List Procedure) (name : List ℕ) (g : Part) : Type 0 where
  pub found : find_unit ps name ≡ Some g.unit
  pub number : g.number ≡ place_from u ps name
  pub first : g.first ≡ first_from i ps name
  pub entry : g.entry ≡ 3 * t + 2 * place_from u ps name
  pub end : g.end ≡ 3 * t + 2 * place_from u ps name + 1

numbered : (t u i : ℕ) (ps : List Procedure) (name : List ℕ) (g : Part) → find_part (parts_from t u i ps) name ≡ Some g → Numbered t u i ps name g
numbered t u i [] name g h = absurd cc
numbered t u i (p ∷ ps) name g h = go (name_eq p.name name) refl h (numbered t (suc u) (behind i p.body) ps name g)
  where
    go : (b : Bool) → name_eq p.name name ≡ b → (if b then Some (part t u i p) else find_part (parts_from t (suc u) (behind i p.body) ps) name) ≡ Some g → (find_part (parts_from t (suc u) (behind i p.body) ps) name ≡ Some g → Numbered t (suc u) (behind i p.body) ps name g) → Numbered t u i (p ∷ ps) name g
    go true e h ih =
        let same : part t u i p ≡ g = cc in
        let place : u ≡ place_from u (p ∷ ps) name = sym (ap (λ b. if b then u else place_from (suc u) ps name) e) in
        record {
          found = ap (λ b. if b then Some p else find_unit ps name) e ∙ ap (λ z. Some z.unit) same;
          number = sym (ap (λ z. z.number) same) ∙ place;
          first = sym (ap (λ z. z.first) same) ∙ sym (ap (λ b. if b then i else first_from (behind i p.body) ps name) e);
          entry = sym (ap (λ z. z.entry) same) ∙ ap (λ n. 3 * t + 2 * n) place;
          end = sym (ap (λ z. z.end) same) ∙ ap (λ n. 3 * t + 2 * n + 1) place;
        }
    go false e h ih =
        let r = ih h in
        let place : place_from (suc u) ps name ≡ place_from u (p ∷ ps) name = sym (ap (λ b. if b then u else place_from (suc u) ps name) e) in
        record {
          found = ap (λ b. if b then Some p else find_unit ps name) e ∙ r.found;
          number = r.number ∙ place;
          first = r.first ∙ sym (ap (λ b. if b then i else first_from (behind i p.body) ps name) e);
          entry = r.entry ∙ ap (λ n. 3 * t + 2 * n) place;
          end = r.end ∙ ap (λ n. 3 * t + 2 * n + 1) place;
        }

-- a unit that is found has a part that is
pub has_part : (t u i : ℕ) (ps : List Procedure) (name : List ℕ) (p : Procedure) → find_unit ps name ≡ Some p → (g : Part) × (find_part (parts_from t u i ps) name ≡ Some g)
has_part t u i [] name p h = absurd cc
has_part t u i (q ∷ ps) name p h = go (name_eq q.name name) h (has_part t (suc u) (behind i q.body) ps name p)
  where
    go : (b : Bool) → (if b then Some q else find_unit ps name) ≡ Some p → (find_unit ps name ≡ Some p → (g : Part) × (find_part (parts_from t (suc u) (behind i q.body) ps) name ≡ Some g)) → (g : Part) × ((if b then Some (part t u i q) else find_part (parts_from t (suc u) (behind i q.body) ps) name) ≡ Some g)
    go true h ih = (part t u i q, refl)
    go false h ih = ih h

-- the same for a whole program
pub record Placed (ps : List Procedure) (name : List ℕ) (g : Part) : Type 0 where
  pub found : find_unit ps name ≡ Some g.unit
  pub number : g.number ≡ place_from 0 ps name
  pub first : g.first ≡ first_statement ps name
  pub entry : g.entry ≡ entry_point ps name
  pub end : g.end ≡ end_point ps name

pub placed : (ps : List Procedure) (name : List ℕ) (g : Part) → find_part (parts ps) name ≡ Some g → Placed ps name g
placed ps name g h =
    let r = numbered (statements_in 0 ps) 0 0 ps name g h in
    let t = sym (same_statements 0 ps) in
    let last : 3 * statements_from 0 ps + 2 * place_from 0 ps name + 1 ≡ end_point ps name = omega arith in
    record {
      found = r.found;
      number = r.number;
      first = r.first;
      entry = r.entry ∙ ap (λ n. 3 * n + 2 * place_from 0 ps name) t;
      end = r.end ∙ (ap (λ n. 3 * n + 2 * place_from 0 ps name + 1) t ∙ last);
    }
