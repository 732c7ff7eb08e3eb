-- What the machine makes of statements as units is derived by the grammar.
use Rattle.std.proofs.Common.{◌≡◌, ℕ, Bool, true, false, List, [], ◌∷◌, ◌++◌, length, map, Some, refl, sym, ap, subst, ◌∙◌, arith}
use Rattle.std.proofs.lemmas.Bool.{eqb-true}
use Rattle.std.proofs.lemmas.List.{append_assoc, append-nil}
use Rattle.std.specs.Prelude.{◌==◌, ◌&&◌, ◌||◌, not}
use Rattle.adj_tree.specs.Code.{Declaration}
use Rattle.adj_tree.specs.Common.{Common, Shared}
use Rattle.adj_tree.specs.Listed.{code_listed}
use Rattle.def_text.specs.Block.{ReadsBody}
use Rattle.def_text.specs.Form.{Form, subroutine, implicit_none, integers, common, simple, logical, opens_do, opens_while, end_do, go_on, opens_if, otherwise, otherwise_if, end_if, leaves, ends, Statement, at}
use Rattle.def_text.specs.Statement.{Item}
use Rattle.def_text.specs.Unit as units
use Rattle.def_text.specs.Unit.{ReadsImplicit, declaration_of, common_of, ReadsDeclarations, ReadsEnd, ReadsUnit, ReadsUnits}
use Rattle.def_text.specs.declared.stated.Kind.{Kind}
use Rattle.adj_parse.specs.declared.phase.Phase.{Phase}
use Rattle.adj_parse.specs.declared.phase.Phase.TheVariants.{Heading, Declaring, Acting, Leaving}
use Rattle.adj_parse.specs.Blocks.{Acts, Block, Nest, no_blocks, acted}
use Rattle.adj_parse.specs.Order.{is_bare, is_early, is_left, may_follow, suits, leaves_loop, breaks_loop}
use Rattle.adj_parse.specs.Unit.{Current, headed, finished, forbidding, declaring, sharing, followed}
use Rattle.adj_parse.proofs.Machine.{picked, kind_of, stands, run}
use Rattle.adj_parse.proofs.BlocksComplete.{is_executable}
use Rattle.adj_parse.proofs.BlocksSound.{Holds, at_start, whole_body, steps}
use Rattle.adj_parse.proofs.UnitsComplete.{some_same, in_phase, between, nothing}

-- units, whatever follows
record Ahead (all rest : List Statement) (done : List Shared) : Type 0 where
  follow : (qs : List Shared) → ReadsUnits rest qs → ReadsUnits all (done ++ qs)

-- the tests that a statement of a unit has passed
record Passed (kind : Kind) (l : ℕ) (p : Phase) (bs : List Block) : Type 0 where
  follows : may_follow kind p ≡ true
  suits_it : suits kind bs ≡ true
  breaks : breaks_loop kind l bs ≡ false

tests : (m s v r : Bool) → (not (not (m && (s || v))) && not (v || r)) ≡ true → (m ≡ true) × (s ≡ true) × ((v || r) ≡ false)
tests false s v r h = absurd cc
tests true true true r h = absurd cc
tests true true false true h = absurd cc
tests true true false false h = (refl, refl, refl)
tests true false true r h = absurd cc
tests true false false r h = absurd cc

passed : (kind : Kind) (l : ℕ) (c : Current) → stands kind l (Some c) ≡ true → Passed kind l c.phase c.nest.blocks
passed kind l c h = let t = tests (may_follow kind c.phase) (suits kind c.nest.blocks) (leaves_loop kind c.nest.blocks) _ h in record { follows = t.0; suits_it = t.1; breaks = t.2 }

-- behind the SUBROUTINE of a unit
module _ (n : ℕ) (x : List ℕ) (dummies : List (List ℕ)) (ts : List Statement) where
  abbrev having : Bool → List Declaration → List Common → Shared
  having is_none ds cs = record { unit = record (headed n x dummies).unit { is_none = is_none; declarations = ds }; commons = cs }

  -- what a unit has before its executable statements
  record Declared (unit : Shared) (rest : List Statement) : Type 0 where
    is_none : Bool
    ds : List Declaration
    cs : List Common
    unit_is : unit ≡ having is_none ds cs
    us : List Statement
    implicit : ReadsImplicit ts us is_none
    follow : (vs : List Statement) (es : List Declaration) (bs : List Common) → ReadsDeclarations rest vs es bs → ReadsDeclarations us vs (ds ++ es) (cs ++ bs)

  -- what is known before each statement of a unit
  abbrev Read : Phase → Shared → Nest → List Statement → Type 0
  Read Heading unit nest rest = (nest ≡ no_blocks) × (unit ≡ headed n x dummies) × (rest ≡ ts)
  Read Declaring unit nest rest = (nest ≡ no_blocks) × Declared unit rest
  Read Acting unit nest rest = (vs : List Statement) × Declared unit vs × Holds vs nest rest
  Read Leaving unit nest rest = (vs : List Statement) × (m : ℕ) × (k : ℕ) × Declared unit vs × ReadsBody [] vs (at m k leaves ∷ rest) (code_listed nest.acts)

  bare : (unit : Shared) → unit ≡ headed n x dummies → Declared unit ts
  bare unit e = record { is_none = false; ds = []; cs = []; unit_is = e; us = ts; implicit = units.ReadsImplicit.absent; follow = λ vs es bs d. d }

  -- no executable statement came yet
  early : (p : Phase) (unit : Shared) (nest : Nest) (rest : List Statement) → is_early p ≡ true → Read p unit nest rest → (nest ≡ no_blocks) × Declared unit rest
  early Heading unit nest rest h r = (r.0, subst (Declared unit) (sym r.2) (bare unit r.1))
  early Declaring unit nest rest h r = (r.0, r.1)
  early Acting unit nest rest h r = absurd cc
  early Leaving unit nest rest h r = absurd cc

  acting : (p : Phase) (unit : Shared) (nest : Nest) (rest : List Statement) → not (is_left p) ≡ true → Read p unit nest rest → Read Acting unit nest rest
  acting Heading unit nest rest h r = let e = early Heading unit nest rest refl r in (rest, e.1, subst (λ (m : Nest). Holds rest m rest) (sym e.0) (at_start rest))
  acting Declaring unit nest rest h r = (rest, r.1, subst (λ (m : Nest). Holds rest m rest) (sym r.0) (at_start rest))
  acting Acting unit nest rest h r = r
  acting Leaving unit nest rest h r = absurd cc

  acts : (p : Phase) (unit : Shared) (nest : Nest) (m l : ℕ) (f : Form) (rest : List Statement) → is_executable f ≡ true → not (is_left p) ≡ true → Passed (kind_of f) l p nest.blocks → Read p unit nest (at m l f ∷ rest) → Read Acting unit (acted nest m l f) rest
  acts p unit nest m l f rest y h t r = let a = acting p unit nest (at m l f ∷ rest) h r in (a.0, a.1, steps a.0 f nest.blocks nest.acts m l rest y t.suits_it t.breaks a.2)

  declares : (p : Phase) (unit : Shared) (nest : Nest) (m l : ℕ) (is : List Item) (rest : List Statement) → is_early p ≡ true → Read p unit nest (at m l (integers is) ∷ rest) → Read Declaring (declaring unit (map (declaration_of m) is)) nest rest
  declares p unit nest m l is rest h r =
      let e = early p unit nest (at m l (integers is) ∷ rest) h r in
      let d = e.1 in
      let new : List Declaration = map (declaration_of m) is in (
        e.0,
        record {
          is_none = d.is_none;
          ds = d.ds ++ new;
          cs = d.cs;
          unit_is = ap (λ (s : Shared). declaring s new) d.unit_is;
          us = d.us;
          implicit = d.implicit;
          follow = λ vs es bs q. subst (λ all. ReadsDeclarations d.us vs all (d.cs ++ bs)) (sym (append_assoc d.ds new es)) (d.follow vs (new ++ es) bs (units.ReadsDeclarations.more q refl));
        },
      )

  shares : (p : Phase) (unit : Shared) (nest : Nest) (m l : ℕ) (b : List ℕ) (is : List Item) (rest : List Statement) → is_early p ≡ true → Read p unit nest (at m l (common b is) ∷ rest) → Read Declaring (sharing unit (common_of m b is)) nest rest
  shares p unit nest m l b is rest h r =
      let e = early p unit nest (at m l (common b is) ∷ rest) h r in
      let d = e.1 in
      let new : Common = common_of m b is in (
        e.0,
        record {
          is_none = d.is_none;
          ds = d.ds;
          cs = d.cs ++ new ∷ [];
          unit_is = ap (λ (s : Shared). sharing s new) d.unit_is;
          us = d.us;
          implicit = d.implicit;
          follow = λ vs es bs q. subst (ReadsDeclarations d.us vs (d.ds ++ es)) (sym (append_assoc d.cs (new ∷ []) bs)) (d.follow vs es (new ∷ bs) (units.ReadsDeclarations.shared q));
        },
      )

  forbids : (p : Phase) (unit : Shared) (nest : Nest) (m l : ℕ) (rest : List Statement) → is_bare p ≡ true → Read p unit nest (at m l implicit_none ∷ rest) → Read Declaring (forbidding unit) nest rest
  forbids Heading unit nest m l rest h r = (
    r.0,
    record {
      is_none = true;
      ds = [];
      cs = [];
      unit_is = ap (λ (s : Shared). forbidding s) r.1;
      us = rest;
      implicit = subst (λ us. ReadsImplicit us rest true) r.2 units.ReadsImplicit.present;
      follow = λ vs es bs q. q;
    },
  )
  forbids Declaring unit nest m l rest h r = absurd cc
  forbids Acting unit nest m l rest h r = absurd cc
  forbids Leaving unit nest m l rest h r = absurd cc

  no_block : {vs rest : List Statement} (bs : List Block) (acts : Acts) → (length bs == 0) ≡ true → Holds vs (record { blocks = bs; acts = acts }) rest → ReadsBody [] vs rest (code_listed acts)
  no_block [] xs e h = whole_body h
  no_block (b ∷ bs) xs e h = let z : length (b ∷ bs) ≡ 0 = eqb-true (length (b ∷ bs)) 0 e in absurd (omega arith)

  returns : (p : Phase) (unit : Shared) (nest : Nest) (m l : ℕ) (rest : List Statement) → not (is_left p) ≡ true → (length nest.blocks == 0) ≡ true → Read p unit nest (at m l leaves ∷ rest) → Read Leaving unit nest rest
  returns p unit nest m l rest h e r = let a = acting p unit nest (at m l leaves ∷ rest) h r in (a.0, m, l, a.1, no_block nest.blocks nest.acts e a.2)

  unit_read : {unit : Shared} {vs ws rest : List Statement} (p : Phase) (nest : Nest) (k : ℕ) → Declared unit vs → ReadsBody [] vs ws (code_listed nest.acts) → ReadsEnd ws rest → ReadsUnit (at n k (subroutine x dummies) ∷ ts) rest (finished (record { unit = unit; phase = p; nest = nest }))
  unit_read {vs = vs} {rest = rest} p nest k d b e =
      subst (λ (s : Shared). ReadsUnit (at n k (subroutine x dummies) ∷ ts) rest (finished (record { unit = s; phase = p; nest = nest }))) (sym d.unit_is)
      (units.ReadsUnit.unit d.implicit (subst (ReadsDeclarations d.us vs d.ds) (append-nil d.cs) (subst (λ all. ReadsDeclarations d.us vs all (d.cs ++ [])) (append-nil d.ds) (d.follow vs [] [] units.ReadsDeclarations.none))) b e)

  ends_unit : (k : ℕ) (p : Phase) (unit : Shared) (nest : Nest) (m l : ℕ) (rest : List Statement) → (length nest.blocks == 0) ≡ true → Read p unit nest (at m l ends ∷ rest) → ReadsUnit (at n k (subroutine x dummies) ∷ ts) rest (finished (record { unit = unit; phase = p; nest = nest }))
  ends_unit k Heading unit nest m l rest e r = let a = acting Heading unit nest (at m l ends ∷ rest) refl r in unit_read Heading nest k a.1 (no_block nest.blocks nest.acts e a.2) units.ReadsEnd.ended
  ends_unit k Declaring unit nest m l rest e r = let a = acting Declaring unit nest (at m l ends ∷ rest) refl r in unit_read Declaring nest k a.1 (no_block nest.blocks nest.acts e a.2) units.ReadsEnd.ended
  ends_unit k Acting unit nest m l rest e r = unit_read Acting nest k r.1 (no_block nest.blocks nest.acts e r.2) units.ReadsEnd.ended
  ends_unit k Leaving unit nest m l rest e r = unit_read Leaving nest k r.3 r.4 units.ReadsEnd.returned

one_more : {all rest us : List Statement} {done : List Shared} {p : Shared} → Ahead all us done → ReadsUnit us rest p → Ahead all rest (done ++ p ∷ [])
one_more {all = all} {done = done} {p = p} a u = record { follow = λ qs r. subst (ReadsUnits all) (sym (append_assoc done (p ∷ []) qs)) (a.follow (p ∷ qs) (units.ReadsUnits.more u r)) }

-- a statement of a unit that didn't stop the machine
first : {ps : List Shared} (done : List Shared) (p : Phase) (unit : Shared) (nest : Nest) (m l : ℕ) (f : Form) (rest : List Statement) → run (in_phase done p unit nest) (at m l f ∷ rest) ≡ Some ps →
    Passed (kind_of f) l p nest.blocks × (run (followed done (Some (record { unit = unit; phase = p; nest = nest })) m l f) rest ≡ Some ps)
unfolding run
first done p unit nest m l f rest h =
    let c : Current = record { unit = unit; phase = p; nest = nest } in
    let t = picked (stands (kind_of f) l (Some c)) (run (followed done (Some c) m l f) rest) h in
    (passed (kind_of f) l c t.0, t.1)

module _ (all : List Statement) (ps : List Shared) where
  mutual
    unfolding run

    outside : (rest : List Statement) (done : List Shared) → Ahead all rest done → run (between done) rest ≡ Some ps → ReadsUnits all ps
    outside [] done a h = subst (ReadsUnits all) (append-nil done ∙ some_same done ps h) (a.follow [] units.ReadsUnits.none)
    outside (at n k (subroutine x dummies) ∷ ts) done a h = within ts n x dummies ts k done Heading (headed n x dummies) no_blocks a (refl, refl, refl) h
    outside (at n k f ∷ ts) done a h = absurd cc

    within : (rest : List Statement) (n : ℕ) (x : List ℕ) (dummies : List (List ℕ)) (ts : List Statement) (k : ℕ) (done : List Shared) (p : Phase) (unit : Shared) (nest : Nest) → Ahead all (at n k (subroutine x dummies) ∷ ts) done → Read n x dummies ts p unit nest rest → run (in_phase done p unit nest) rest ≡ Some ps → ReadsUnits all ps
    within [] n x dummies ts k done p unit nest a r h = absurd cc
    within (at m l (simple b) ∷ rest) n x dummies ts k done p unit nest a r h =
        let t = first done p unit nest m l (simple b) rest h in
        within rest n x dummies ts k done Acting unit (acted nest m l (simple b)) a (acts n x dummies ts p unit nest m l (simple b) rest refl t.0.follows t.0 r) t.1
    within (at m l (logical c b) ∷ rest) n x dummies ts k done p unit nest a r h =
        let t = first done p unit nest m l (logical c b) rest h in
        within rest n x dummies ts k done Acting unit (acted nest m l (logical c b)) a (acts n x dummies ts p unit nest m l (logical c b) rest refl t.0.follows t.0 r) t.1
    within (at m l (opens_do q v s) ∷ rest) n x dummies ts k done p unit nest a r h =
        let t = first done p unit nest m l (opens_do q v s) rest h in
        within rest n x dummies ts k done Acting unit (acted nest m l (opens_do q v s)) a (acts n x dummies ts p unit nest m l (opens_do q v s) rest refl t.0.follows t.0 r) t.1
    within (at m l (opens_while c) ∷ rest) n x dummies ts k done p unit nest a r h =
        let t = first done p unit nest m l (opens_while c) rest h in
        within rest n x dummies ts k done Acting unit (acted nest m l (opens_while c)) a (acts n x dummies ts p unit nest m l (opens_while c) rest refl t.0.follows t.0 r) t.1
    within (at m l end_do ∷ rest) n x dummies ts k done p unit nest a r h =
        let t = first done p unit nest m l end_do rest h in
        within rest n x dummies ts k done Acting unit (acted nest m l end_do) a (acts n x dummies ts p unit nest m l end_do rest refl t.0.follows t.0 r) t.1
    within (at m l go_on ∷ rest) n x dummies ts k done p unit nest a r h =
        let t = first done p unit nest m l go_on rest h in
        within rest n x dummies ts k done Acting unit (acted nest m l go_on) a (acts n x dummies ts p unit nest m l go_on rest refl t.0.follows t.0 r) t.1
    within (at m l (opens_if c) ∷ rest) n x dummies ts k done p unit nest a r h =
        let t = first done p unit nest m l (opens_if c) rest h in
        within rest n x dummies ts k done Acting unit (acted nest m l (opens_if c)) a (acts n x dummies ts p unit nest m l (opens_if c) rest refl t.0.follows t.0 r) t.1
    within (at m l otherwise ∷ rest) n x dummies ts k done p unit nest a r h =
        let t = first done p unit nest m l otherwise rest h in
        within rest n x dummies ts k done Acting unit (acted nest m l otherwise) a (acts n x dummies ts p unit nest m l otherwise rest refl t.0.follows t.0 r) t.1
    within (at m l (otherwise_if c) ∷ rest) n x dummies ts k done p unit nest a r h =
        let t = first done p unit nest m l (otherwise_if c) rest h in
        within rest n x dummies ts k done Acting unit (acted nest m l (otherwise_if c)) a (acts n x dummies ts p unit nest m l (otherwise_if c) rest refl t.0.follows t.0 r) t.1
    within (at m l end_if ∷ rest) n x dummies ts k done p unit nest a r h =
        let t = first done p unit nest m l end_if rest h in
        within rest n x dummies ts k done Acting unit (acted nest m l end_if) a (acts n x dummies ts p unit nest m l end_if rest refl t.0.follows t.0 r) t.1
    within (at m l (subroutine y others) ∷ rest) n x dummies ts k done p unit nest a r h =
        let t = first done p unit nest m l (subroutine y others) rest h in
        let never : false ≡ true = t.0.follows in
        absurd cc
    within (at m l implicit_none ∷ rest) n x dummies ts k done p unit nest a r h =
        let t = first done p unit nest m l implicit_none rest h in
        within rest n x dummies ts k done Declaring _ nest a (forbids n x dummies ts p unit nest m l rest t.0.follows r) t.1
    within (at m l (integers is) ∷ rest) n x dummies ts k done p unit nest a r h =
        let t = first done p unit nest m l (integers is) rest h in
        within rest n x dummies ts k done Declaring _ nest a (declares n x dummies ts p unit nest m l is rest t.0.follows r) t.1
    within (at m l (common b is) ∷ rest) n x dummies ts k done p unit nest a r h =
        let t = first done p unit nest m l (common b is) rest h in
        within rest n x dummies ts k done Declaring _ nest a (shares n x dummies ts p unit nest m l b is rest t.0.follows r) t.1
    within (at m l leaves ∷ rest) n x dummies ts k done p unit nest a r h =
        let t = first done p unit nest m l leaves rest h in
        within rest n x dummies ts k done Leaving unit nest a (returns n x dummies ts p unit nest m l rest t.0.follows t.0.suits_it r) t.1
    within (at m l ends ∷ rest) n x dummies ts k done p unit nest a r h =
        let t = first done p unit nest m l ends rest h in
        outside rest (done ++ finished (record { unit = unit; phase = p; nest = nest }) ∷ []) (one_more a (ends_unit n x dummies ts k p unit nest m l rest t.0.suits_it r)) t.1

-- the units that the machine answers are derived
pub run_reads : (ts : List Statement) (ps : List Shared) → run nothing ts ≡ Some ps → ReadsUnits ts ps
run_reads ts ps h = outside ts ps ts [] (record { follow = λ qs r. r }) h
