-- What the grammar derives as units is what the machine makes of the statements, and nothing else.
use Rattle.std.proofs.Common.{◌≡◌, ℕ, Bool, true, false, List, [], ◌∷◌, ◌++◌, map, Some, None, refl, sym, ap, ◌∙◌}
use Rattle.std.proofs.lemmas.List.{append_assoc, append-nil}
use Rattle.adj_tree.specs.Code.{Act, Code, Declaration}
use Rattle.adj_tree.specs.Common.{Common, Shared}
use Rattle.def_text.specs.Block as blocks
use Rattle.def_text.specs.Block.{ReadsBody, ReadsAct}
use Rattle.def_text.specs.Form.{Form, integers, common, Statement, at}
use Rattle.def_text.specs.Unit as units
use Rattle.def_text.specs.Unit.{ReadsImplicit, declaration_of, common_of, ReadsDeclarations, ReadsEnd, ReadsUnit, ReadsUnits}
use Rattle.adj_parse.specs.declared.phase.Phase.{Phase}
use Rattle.adj_parse.specs.declared.phase.Phase.TheVariants.{Heading, Declaring, Acting, Leaving}
use Rattle.adj_parse.specs.Blocks.{Acts, Nest, no_blocks}
use Rattle.adj_parse.specs.Order.{is_early, is_left}
use Rattle.adj_parse.specs.Unit.{Units, headed, finished}
use Rattle.adj_parse.proofs.Machine.{run, at_bottom, acts_of, listed_back}
use Rattle.adj_parse.proofs.BlocksComplete.{body}

module _ (done : List Shared) where
  -- in a phase of a unit
  abbrev pub in_phase : Phase → Shared → Nest → Units
  in_phase p unit nest = record { done = done; current = Some (record { unit = unit; phase = p; nest = nest }) }

  abbrev pub between : Units
  between = record { done = done; current = None }

  -- a unit with other declarations and COMMON statements
  abbrev with_declarations : Shared → List Declaration → List Common → Shared
  with_declarations s ds cs = record { unit = record s.unit { declarations = ds }; commons = cs }

  -- a unit before its declarations
  abbrev bare_unit : ℕ → List ℕ → List (List ℕ) → Bool → Shared
  bare_unit n x dummies is_none = record { unit = record (headed n x dummies).unit { is_none = is_none }; commons = [] }

  not_left : (p : Phase) → is_early p ≡ true → is_left p ≡ false
  not_left Heading h = refl
  not_left Declaring h = refl
  not_left Acting h = absurd cc
  not_left Leaving h = absurd cc

  -- before the first executable statement, it doesn't matter whether some came
  act_early : {ls : List ℕ} {n : ℕ} {f : Form} {ts us : List Statement} {a : Act} → ReadsAct ls n f ts us a → (p : Phase) (unit : Shared) (l : ℕ) → is_early p ≡ true → run (in_phase p unit no_blocks) (at n l f ∷ ts) ≡ run (in_phase Acting unit no_blocks) (at n l f ∷ ts)
  unfolding run
  act_early blocks.ReadsAct.simply p unit l h = rw (not_left p h) refl
  act_early blocks.ReadsAct.guarded p unit l h = rw (not_left p h) refl
  act_early (blocks.ReadsAct.branch r q) p unit l h = rw (not_left p h) refl
  act_early (blocks.ReadsAct.unlabelled r g) p unit l h = rw (not_left p h) refl
  act_early (blocks.ReadsAct.repeated r g) p unit l h = rw (not_left p h) refl
  act_early (blocks.ReadsAct.labelled some other r) p unit l h = rw (not_left p h) refl
  act_early (blocks.ReadsAct.shared some same r) p unit l h = rw (not_left p h) refl

  end_early : {ts rest : List Statement} → ReadsEnd ts rest → (p : Phase) (unit : Shared) → is_early p ≡ true → run (in_phase p unit no_blocks) ts ≡ run (in_phase Acting unit no_blocks) ts
  unfolding run
  end_early units.ReadsEnd.ended p unit h = refl
  end_early units.ReadsEnd.returned p unit h = rw (not_left p h) refl

  body_early : {ts us rest : List Statement} {k : Code} → ReadsBody [] ts us k → ReadsEnd us rest → (p : Phase) (unit : Shared) → is_early p ≡ true → run (in_phase p unit no_blocks) ts ≡ run (in_phase Acting unit no_blocks) ts
  unfolding run
  body_early blocks.ReadsBody.empty e p unit h = end_early e p unit h
  body_early (blocks.ReadsBody.more {l = l} g a r) e p unit h = act_early a p unit l h
  body_early (blocks.ReadsBody.skipped g r) e p unit h = rw (not_left p h) refl

  declarations : {ts rest : List Statement} {ds : List Declaration} {cs : List Common} → ReadsDeclarations ts rest ds cs → (p : Phase) (unit : Shared) → is_early p ≡ true → (q : Phase) × (is_early q ≡ true) × (run (in_phase p unit no_blocks) ts ≡ run (in_phase q (with_declarations unit (unit.unit.declarations ++ ds) (unit.commons ++ cs)) no_blocks) rest)
  unfolding run
  declarations {rest = rest} units.ReadsDeclarations.none p unit h =
      let same : unit ≡ with_declarations unit (unit.unit.declarations ++ []) (unit.commons ++ []) = rw (append-nil unit.unit.declarations, append-nil unit.commons) refl in
      (p, h, ap (λ u. run (in_phase p u no_blocks) rest) same)
  declarations {rest = rest} (units.ReadsDeclarations.more {ts = ts} {n = n} {l = l} {is = is} {ds = ds} {cs = cs} r e) p unit h =
      let now : List Declaration = unit.unit.declarations ++ map (declaration_of n) is in
      let later = declarations r Declaring (with_declarations unit now unit.commons) refl in
      let here : run (in_phase p unit no_blocks) (at n l (integers is) ∷ ts) ≡ run (in_phase Declaring (with_declarations unit now unit.commons) no_blocks) ts = rw h refl in
      (later.0, later.1, here ∙ later.2 ∙ ap (λ all. run (in_phase later.0 (with_declarations unit all (unit.commons ++ cs)) no_blocks) rest) (append_assoc unit.unit.declarations (map (declaration_of n) is) ds ∙ ap (λ all. unit.unit.declarations ++ all) (sym e)))
  declarations {rest = rest} (units.ReadsDeclarations.shared {ts = ts} {n = n} {l = l} {b = b} {is = is} {ds = ds} {cs = cs} r) p unit h =
      let now : List Common = unit.commons ++ common_of n b is ∷ [] in
      let later = declarations r Declaring (with_declarations unit unit.unit.declarations now) refl in
      let here : run (in_phase p unit no_blocks) (at n l (common b is) ∷ ts) ≡ run (in_phase Declaring (with_declarations unit unit.unit.declarations now) no_blocks) ts = rw h refl in
      (later.0, later.1, here ∙ later.2 ∙ ap (λ all. run (in_phase later.0 (with_declarations unit (unit.unit.declarations ++ ds) all) no_blocks) rest) (append_assoc unit.commons (common_of n b is ∷ []) cs))

  implicit : {ts rest : List Statement} {is_none : Bool} → ReadsImplicit ts rest is_none → (n : ℕ) (x : List ℕ) (dummies : List (List ℕ)) → (q : Phase) × (is_early q ≡ true) × (run (in_phase Heading (headed n x dummies) no_blocks) ts ≡ run (in_phase q (bare_unit n x dummies is_none) no_blocks) rest)
  unfolding run
  implicit units.ReadsImplicit.absent n x dummies = (Heading, refl, refl)
  implicit units.ReadsImplicit.present n x dummies = (Declaring, refl, refl)

  ending : {ts rest : List Statement} → ReadsEnd ts rest → (unit : Shared) (acts : Acts) → run (in_phase Acting unit (record { blocks = []; acts = acts })) ts ≡ run (record { done = done ++ finished (record { unit = unit; phase = Acting; nest = record { blocks = []; acts = acts } }) ∷ []; current = None }) rest
  unfolding run
  ending units.ReadsEnd.ended unit acts = refl
  ending units.ReadsEnd.returned unit acts = refl

  unit_done : {ts rest : List Statement} {s : Shared} → ReadsUnit ts rest s → run between ts ≡ run (record { done = done ++ s ∷ []; current = None }) rest
  unfolding run
  unit_done {rest = rest} (units.ReadsUnit.unit {us = us} {vs = vs} {ws = ws} {n = n} {x = x} {dummies = dummies} {is_none = is_none} {ds = ds} {cs = cs} {body = k} i d b e) =
      let first = implicit i n x dummies in
      let bare : Shared = bare_unit n x dummies is_none in
      let second = declarations d first.0 bare first.1 in
      let unit : Shared = with_declarations bare ds cs in
      first.2 ∙ second.2 ∙ body_early b e second.0 unit second.1 ∙ body done unit b [] [] at_bottom refl ∙ ending e unit (acts_of k)
      ∙ ap (λ code. run (record { done = done ++ record { unit = record { line = n; name = x; dummies = dummies; is_none = is_none; declarations = ds; body = code }; commons = cs } ∷ []; current = None }) rest) (listed_back k)

units_follow : {ts : List Statement} {ps : List Shared} → ReadsUnits ts ps → (done : List Shared) → run (record { done = done; current = None }) ts ≡ Some (done ++ ps)
unfolding run
units_follow units.ReadsUnits.none done = ap Some (sym (append-nil done))
units_follow (units.ReadsUnits.more {s = s} {ss = ss} u r) done = unit_done done u ∙ units_follow r (done ++ s ∷ []) ∙ ap Some (append_assoc done (s ∷ []) ss)

abbrev pub nothing : Units
nothing = record { done = []; current = None }

-- the units that are derived are the machine's answer
pub units_run : {ts : List Statement} {ps : List Shared} → ReadsUnits ts ps → run nothing ts ≡ Some ps
units_run r = units_follow r []

pub some_same : (a b : List Shared) → Some a ≡ Some b → a ≡ b
some_same a b h = cc

pub one_units : {ts : List Statement} {ps qs : List Shared} → ReadsUnits ts ps → ReadsUnits ts qs → ps ≡ qs
one_units {ps = ps} {qs = qs} r q = some_same ps qs (sym (units_run r) ∙ units_run q)
