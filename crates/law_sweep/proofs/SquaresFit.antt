-- The units of the worked program, as the theorem on whole programs asks, whatever facts their sweeps go by.
use Rattle.std.proofs.Common.{◌≡◌, ℕ, Bool, true, false, List, [], ◌∷◌, refl, ap, ◌∙◌, subst, if◌then◌else◌, codes}
use Rattle.std.specs.Prelude.{◌||◌, Some, None}
use Rattle.adj_tree.specs.Code.{plain, shadow, helper, name_eq, times, var, elem, bin, Procedure}
use Rattle.adj_tree.proofs.Names.{name_same}
use Rattle.def_meaning.specs.Written.{find_unit, handed_back}
use Rattle.def_meaning.specs.Read.{reads_term, reads_terms, is_extent}
use Rattle.def_meaning.specs.Units.{declared}
use Rattle.law_meaning.specs.Common.{CallsInside}
use Rattle.def_names.specs.Numbers.{Vars}
use Rattle.def_meaning.specs.Apart.{has_name, AreApart}
use Rattle.def_names.specs.Variables.{variables}
use Rattle.def_sweep.specs.Facts.{In}
use Rattle.def_sweep.specs.Marks.{Marks}
use Rattle.def_sweep.specs.Plan.{names_of, actuals_named}
use Rattle.def_sweep.specs.Callees.{CalleeFacts, is_plain}
use Rattle.law_sweep.specs.Laws.{UnitLaws}
use Rattle.law_sweep.specs.Kernel.{AllText, CallFits, IsThere, FitsList}
use Rattle.law_sweep.specs.Environment.{UnitFits, PairFits}
use Rattle.def_sweep.specs.Marking.{ProgramFacts, arrays_of, callee_facts, first_statement}
use Rattle.def_sweep.specs.Program.{has_adjoint, has_pair, is_carried}
use Rattle.def_sweep.specs.Program as program
use Rattle.law_sweep.specs.Source.{CallUnits, SourceFits}
use Rattle.def_sweep.specs.Naming.{AreInside}
use Rattle.law_sweep.specs.Examples.{one_of, squares, twice}
use Rattle.law_sweep.proofs.CallSweeps.{names_are}
use Rattle.law_sweep.proofs.Declared.{no_extents}

abbrev pub both : List Procedure
both = squares ∷ twice ∷ []

abbrev unit_of : List ℕ → Procedure
unit_of name = if name_eq (codes "S") name then squares else twice

abbrev pub vars : List ℕ → List (List ℕ)
vars name = variables (unit_of name)

abbrev pub arrays : List ℕ → Vars
arrays name = arrays_of (unit_of name)

-- what holds of both units
by_name : (P : List ℕ → Procedure → Type 0) → P (codes "S") squares → P (codes "T") twice → (name : List ℕ) (u : Procedure) → find_unit both name ≡ Some u → P name u
by_name P s t name u h = go (name_eq (codes "S") name) refl (name_eq (codes "T") name) refl h
  where
    go : (a : Bool) → name_eq (codes "S") name ≡ a → (b : Bool) → name_eq (codes "T") name ≡ b → (if a then Some squares else (if b then Some twice else None)) ≡ Some u → P name u
    go true e b f h = let same : squares ≡ u = cc in subst (P name) same (subst (λ z. P z squares) (name_same (codes "S") name e) s)
    go false e true f h = let same : twice ≡ u = cc in subst (P name) same (subst (λ z. P z twice) (name_same (codes "T") name f) t)
    go false e false f h = absurd cc

-- terms of the text
last_text : AllText (λ v. reads_term v (var (plain (codes "N"))))
last_text (plain x) h = refl
last_text (shadow x) h = absurd cc
last_text (helper r k) h = absurd cc

side_text : AllText (λ v. reads_term v (bin times (elem (plain (codes "A")) (one_of (plain (codes "I")))) (elem (plain (codes "A")) (one_of (plain (codes "I"))))))
side_text (plain x) h = refl
side_text (shadow x) h = absurd cc
side_text (helper r k) h = absurd cc

subscript_text : AllText (λ v. reads_terms v (one_of (plain (codes "I"))))
subscript_text (plain x) h = refl
subscript_text (shadow x) h = absurd cc
subscript_text (helper r k) h = absurd cc

calls_known : CallUnits both both
calls_known = (((tt, tt), tt), ((refl, tt), tt))

-- ---- by some facts

module _ (w : ProgramFacts) where
  abbrev g : List ℕ → CalleeFacts
  g = callee_facts w both

  -- what is asked of the code of S, by any marks
  pub squares_code : (answers paired carried : List ℕ → Bool) (present : Bool) (m : Marks) (i : ℕ) → FitsList (λ line. None) both g answers paired carried present m (vars (codes "S")) (arrays (codes "S")) (handed_back both) i squares.body
  squares_code answers paired carried present m i = (
    (
      record { told = λ h. refl; variable = refl; scalar = refl; spares = refl; text_first = λ v h. absurd cc; text_last = last_text; text_step = λ v h. absurd cc },
      (
        record { variable = refl; rank = λ h. absurd cc; apart = refl; text = side_text; subs_text = subscript_text; treated = (tt, tt); known = λ y h. known (name_eq y (codes "A")) (name_eq y (codes "N")) (name_eq y (codes "I")) h },
        tt,
      ),
    ),
    tt,
  )
    where
      known : (a n i : Bool) → ((a || (i || false)) || (a || (i || false))) ≡ true → (a || (n || (i || false))) ≡ true
      known true n i h = refl
      known false true i h = refl
      known false false true h = refl
      known false false false h = absurd cc

  -- S fits, where the facts about it meet its laws
  pub squares_fit : (there answers paired carried : List ℕ → Bool) → ((g (codes "S")).plain_unit ≡ true → is_plain (g (codes "S")).facts.marks (first_statement both (codes "S")) squares.body ≡ true) → UnitLaws g (g (codes "S")) 0 squares.body → ((d : List ℕ) → is_extent d squares.declarations ≡ true → In (plain d) (g (codes "S")).callee.members) →
      (paired (codes "S") ≡ true → PairFits None (λ line. None) both g answers paired carried (codes "S") squares (first_statement both (codes "S")) (vars (codes "S")) (arrays (codes "S"))) → UnitFits (λ line. None) both g there answers paired carried (codes "S") squares (first_statement both (codes "S")) (vars (codes "S")) (arrays (codes "S"))
  squares_fit there answers paired carried inert laws extents pair = record {
    dummies = refl;
    dummies_apart = (refl, (refl, tt));
    vars_apart = (refl, (refl, (refl, tt)));
    dummies_among = λ d h. among (name_eq d (codes "A")) (name_eq d (codes "N")) (name_eq d (codes "I")) h;
    scalars = λ x h. no_extents (declared squares.declarations (plain x)) h;
    wrote = λ d. refl;
    reads = λ d. refl;
    shadowed = λ v. refl;
    inert = inert;
    laws = laws;
    extents = extents;
    pair = pair;
    code = squares_code answers paired carried (there (codes "S")) (g (codes "S")).facts.marks (first_statement both (codes "S"));
  }
    where
      among : (a n i : Bool) → (a || (n || false)) ≡ true → (a || (n || (i || false))) ≡ true
      among true n i h = refl
      among false true i h = refl
      among false false i h = absurd cc

  -- the call in T
  call_fits : (given : List (List ℕ)) → actuals_named (codes "X" ∷ codes "M" ∷ []) ≡ actuals_named given → CallFits both (vars (codes "T")) (arrays (codes "T")) (g (codes "S")) (codes "S") given
  call_fits given h =
      let same : codes "X" ∷ codes "M" ∷ [] ≡ given = ap names_of h ∙ names_are given in
      subst (λ l. CallFits both (vars (codes "T")) (arrays (codes "T")) (g (codes "S")) (codes "S") l) same (record {
        unit = squares;
        found = refl;
        apart = (refl, (refl, tt));
        many = tt;
        variables = λ a h. h;
        ranks = λ d a b none. ranks d a (name_eq d (codes "A")) refl (name_eq d (codes "N")) refl b none;
      })
    where
      ranks : (d a : List ℕ) (x : Bool) → name_eq d (codes "A") ≡ x → (y : Bool) → name_eq d (codes "N") ≡ y → (if x then Some (codes "X") else (if y then Some (codes "M") else None)) ≡ Some a → declared squares.declarations (plain d) ≡ [] → arrays (codes "T") (plain a) ≡ false
      ranks d a true e y f b none = absurd (let p : declared squares.declarations (plain (codes "A")) ≡ [] = subst (λ z. declared squares.declarations (plain z) ≡ []) (name_same d (codes "A") e) none in cc)
      ranks d a false e true f b none = let same : codes "M" ≡ a = cc in subst (λ z. arrays (codes "T") (plain z) ≡ false) same refl
      ranks d a false e false f b none = absurd cc

  -- T fits, where the facts about it meet its laws, and what its call needs is there
  pub twice_fit : (there answers paired carried : List ℕ → Bool) → ((g (codes "T")).plain_unit ≡ true → is_plain (g (codes "T")).facts.marks (first_statement both (codes "T")) twice.body ≡ true) → UnitLaws g (g (codes "T")) 2 twice.body → ((d : List ℕ) → is_extent d twice.declarations ≡ true → In (plain d) (g (codes "T")).callee.members) →
      (paired (codes "T") ≡ true → PairFits None (λ line. None) both g answers paired carried (codes "T") twice (first_statement both (codes "T")) (vars (codes "T")) (arrays (codes "T"))) →
      (let m = (g (codes "T")).facts.marks in IsThere (m.split 2) (answers (codes "S")) (paired (codes "S")) (carried (codes "S")) (there (codes "T")) (m.adjointed 2) (m.kept 2)) → UnitFits (λ line. None) both g there answers paired carried (codes "T") twice (first_statement both (codes "T")) (vars (codes "T")) (arrays (codes "T"))
  twice_fit there answers paired carried inert laws extents pair called = record {
    dummies = refl;
    dummies_apart = (refl, (refl, tt));
    vars_apart = (refl, (refl, tt));
    dummies_among = λ d h. h;
    scalars = λ x h. no_extents (declared twice.declarations (plain x)) h;
    wrote = λ d. refl;
    reads = λ d. refl;
    shadowed = λ v. refl;
    inert = inert;
    laws = laws;
    extents = extents;
    pair = pair;
    code = ((call_fits, called), tt);
  }

  abbrev FitsIn : List ℕ → Procedure → Type 0
  FitsIn name u = UnitFits (λ line. None) both g (has_adjoint w.marks both twice) (program.answers w.marks both twice) (has_pair w.marks both twice) (is_carried w.marks both twice) name u (first_statement both name) (variables u) (arrays_of u)

  -- the source is as the theorem on whole programs asks, where both fit and nothing calls T
  pub both_fit : FitsIn (codes "S") squares → FitsIn (codes "T") twice → program.answers w.marks both twice twice.name ≡ false → SourceFits (λ line. None) w both twice
  both_fit s t uncalled = record {
    reached = λ name. true;
    head_reached = refl;
    closed = λ name u f c. by_name (λ name u. CallsInside (λ name. true) u.body) ((tt, tt), tt) (refl, tt) name u f;
    units = λ name u f c. by_name FitsIn s t name u f;
    apart = by_name (λ name u. AreApart u.dummies) (refl, (refl, tt)) (refl, (refl, tt));
    inside = by_name (λ name u. AreInside (variables u)) (refl, (refl, (refl, tt))) (refl, (refl, tt));
    extents = by_name (λ name u. (d : List ℕ) → is_extent d u.declarations ≡ true → has_name d u.dummies ≡ true) (λ d h. of_squares (name_eq d (codes "A")) (name_eq d (codes "N")) h) (λ d h. of_squares (name_eq d (codes "X")) (name_eq d (codes "M")) h);
    known = calls_known;
    there = refl;
    uncalled = uncalled;
  }
    where
      of_squares : (a n : Bool) → ((n || false) || false) ≡ true → (a || (n || false)) ≡ true
      of_squares true n h = refl
      of_squares false true h = refl
      of_squares false false h = absurd cc
