-- Loops whose variable no statement in them may write, and units that don't write their extents.
use Rattle.std.proofs.Common.{◌≡◌, ℕ, Bool, true, false, List, [], ◌∷◌, ◌++◌, map, refl, sym, ap, ◌∙◌}
use Rattle.std.specs.Prelude.{◌&&◌, ◌||◌}
use Rattle.std.specs.List.{list_any}
use Rattle.adj_tree.specs.Code.{plain, Act, assign, choose, loop, during, call, runtime, Code, stop, step, Declaration, Procedure}
use Rattle.adj_tree.proofs.Names.{name_same}
use Rattle.def_meaning.specs.LeastSet.{Dummies}
use Rattle.def_meaning.specs.Written.{writes, handed_back}
use Rattle.def_meaning.specs.Read.{names_extent, is_extent}
use Rattle.def_names.specs.Statements.{At, statements}
use Rattle.def_names.specs.Variables.{is_dummy}
use Rattle.def_names.specs.Fault.{fault, faults_if}
use Rattle.def_names.specs.WriteFaults.{may_write, writes_of_variable, written_variables, written_extents}
use Rattle.law_kernel.specs.Apart.{ActInside, CodeInside, EachCall', EachCall}
use Rattle.law_kernel.specs.Fits.{is_of, PlainCode, IsFitCall, IsFit}
use Rattle.def_kernel.specs.Kernel.{local_in, scalar_at, lowered_unit, lowered_program}
use Rattle.law_kernel.proofs.Faultless.{Each, each_more, each_swap, none_each, none_flat, if_none, any_none, none_any, and_none}
use Rattle.def_names.proofs.Faultless.{none_if}
use Rattle.law_kernel.proofs.Locals.{own_body, own_dummies}
use Rattle.law_kernel.proofs.SameWritten.{statements_same}
use Rattle.law_kernel.proofs.SoundExtents.{unwritten, spared}
use Rattle.law_kernel.proofs.Holding.{HoldsIn, Holds, listed, holding, lowered_holds}

-- ---- loops

-- a loop whose body doesn't write its variable
abbrev pub Spares : Dummies → Act → Type 0
Spares handed (assign x subs e) = Unit {0}
Spares handed (choose c a b) = Unit {0}
Spares handed (loop x first last by body m) = writes handed x body ≡ false
Spares handed (during c body) = Unit {0}
Spares handed (call name args) = Unit {0}
Spares handed (runtime r) = Unit {0}

-- each loop of a list is so
abbrev pub AreSpared : Dummies → Code → Type 0
AreSpared handed c = Holds (λ line a. Spares handed a) c

module _ (handed : Dummies) where
  -- that is that no statement in it has a fault
  spares_of : (a : Act) → writes_of_variable handed a ≡ [] → Spares handed a
  spares_of (assign x subs e) h = tt
  spares_of (choose c a b) h = tt
  spares_of (loop x first last by body m) h =
      unwritten handed x body (each_more (λ s. faults_if (may_write handed x s.1) (fault 11 s.0) ≡ []) (λ s. may_write handed x s.1 ≡ false) (λ s k. none_if (may_write handed x s.1) (fault 11 s.0) k) (statements body)
      (none_each (λ s. faults_if (may_write handed x s.1) (fault 11 s.0)) (statements body) h))
  spares_of (during c body) h = tt
  spares_of (call name args) h = tt
  spares_of (runtime r) h = tt

  -- and the other way
  of_spares : (a : Act) → Spares handed a → writes_of_variable handed a ≡ []
  of_spares (assign x subs e) h = refl
  of_spares (choose c a b) h = refl
  of_spares (loop x first last by body m) h =
      none_flat (λ (s : At Act). faults_if (may_write handed x s.1) (fault 11 s.0)) (statements body)
      (each_more (λ (s : At Act). may_write handed x s.1 ≡ false) (λ s. faults_if (may_write handed x s.1) (fault 11 s.0) ≡ []) (λ s k. if_none (may_write handed x s.1) (fault 11 s.0) k) (statements body) (spared handed x body h))
  of_spares (during c body) h = refl
  of_spares (call name args) h = refl
  of_spares (runtime r) h = refl

  -- a unit without that fault
  pub spared_of : (u : Procedure) → written_variables handed u ≡ [] → AreSpared handed u.body
  spared_of u h = holding (λ line a. Spares handed a) u.body (each_more (λ (s : At Act). writes_of_variable handed s.1 ≡ []) (λ s. Spares handed s.1) (λ s k. spares_of s.1 k) (statements u.body) (none_each (λ s. writes_of_variable handed s.1) (statements u.body) h))

  -- and the other way
  pub of_spared : (u : Procedure) → AreSpared handed u.body → written_variables handed u ≡ []
  of_spared u h = none_flat (λ (s : At Act). writes_of_variable handed s.1) (statements u.body) (each_more (λ (s : At Act). Spares handed s.1) (λ s. writes_of_variable handed s.1 ≡ []) (λ s k. of_spares s.1 k) (statements u.body) (listed (λ line a. Spares handed a) u.body h))

  -- ---- extents

  -- the unit doesn't write its dummies that are extents
  abbrev pub KeepsExtents : Procedure → Type 0
  KeepsExtents u = (d : List ℕ) → is_dummy u d ≡ true → is_extent d u.declarations ≡ true → writes handed (plain d) u.body ≡ false

  -- a unit without that fault
  pub kept_of : (u : Procedure) → written_extents handed u ≡ [] → KeepsExtents u
  kept_of u h d k e =
      unwritten handed (plain d) u.body
      (each_more (λ s. faults_if (list_any (λ d. is_extent d u.declarations && may_write handed (plain d) s.1) u.dummies) (fault 13 s.0) ≡ []) (λ s. may_write handed (plain d) s.1 ≡ false)
      (λ s g.
      ap (λ b. b && may_write handed (plain d) s.1) (sym e)
      ∙ any_none (λ d. is_extent d u.declarations && may_write handed (plain d) s.1) u.dummies (none_if (list_any (λ d. is_extent d u.declarations && may_write handed (plain d) s.1) u.dummies) (fault 13 s.0) g) d k
      (λ y q. ap (λ z. is_extent z u.declarations && may_write handed (plain z) s.1) (sym (name_same d y q))))
      (statements u.body) (none_each (λ s. faults_if (list_any (λ d. is_extent d u.declarations && may_write handed (plain d) s.1) u.dummies) (fault 13 s.0)) (statements u.body) h))

  -- and the other way
  pub of_kept : (u : Procedure) → KeepsExtents u → written_extents handed u ≡ []
  of_kept u h =
      none_flat (λ (s : At Act). faults_if (list_any (λ d. is_extent d u.declarations && may_write handed (plain d) s.1) u.dummies) (fault 13 s.0)) (statements u.body)
      (each_more (λ (s : At Act). (d : List ℕ) → (is_dummy u d ≡ true → (is_extent d u.declarations && may_write handed (plain d) s.1) ≡ false)) (λ s. faults_if (list_any (λ d. is_extent d u.declarations && may_write handed (plain d) s.1) u.dummies) (fault 13 s.0) ≡ [])
      (λ s k. if_none (list_any (λ d. is_extent d u.declarations && may_write handed (plain d) s.1) u.dummies) (fault 13 s.0) (none_any (λ d. is_extent d u.declarations && may_write handed (plain d) s.1) u.dummies k)) (statements u.body)
      (each_swap (λ d (s : At Act). is_dummy u d ≡ true → (is_extent d u.declarations && may_write handed (plain d) s.1) ≡ false) (statements u.body) (λ d. one d)))
    where
      always : (d : List ℕ) (ss : List (At Act)) → is_extent d u.declarations ≡ false → Each (λ (s : At Act). is_dummy u d ≡ true → (is_extent d u.declarations && may_write handed (plain d) s.1) ≡ false) ss
      always d [] e = tt
      always d (s ∷ ss) e = ((λ k. ap (λ b. b && may_write handed (plain d) s.1) e), always d ss e)

      never : (d : List ℕ) (ss : List (At Act)) → is_dummy u d ≡ false → Each (λ (s : At Act). is_dummy u d ≡ true → (is_extent d u.declarations && may_write handed (plain d) s.1) ≡ false) ss
      never d [] e = tt
      never d (s ∷ ss) e = ((λ k. absurd (let z : true ≡ false = sym k ∙ e in cc)), never d ss e)

      one : (d : List ℕ) → Each (λ (s : At Act). is_dummy u d ≡ true → (is_extent d u.declarations && may_write handed (plain d) s.1) ≡ false) (statements u.body)
      one d = by (is_extent d u.declarations) (is_dummy u d) refl refl
        where
          by : (a b : Bool) → is_extent d u.declarations ≡ a → is_dummy u d ≡ b → Each (λ (s : At Act). is_dummy u d ≡ true → (is_extent d u.declarations && may_write handed (plain d) s.1) ≡ false) (statements u.body)
          by true true e k =
              each_more (λ (s : At Act). may_write handed (plain d) s.1 ≡ false) (λ s. is_dummy u d ≡ true → (is_extent d u.declarations && may_write handed (plain d) s.1) ≡ false) (λ s g q. ap (λ b. is_extent d u.declarations && b) g ∙ and_none (is_extent d u.declarations)) (statements u.body)
              (spared handed (plain d) u.body (h d k e))
          by true false e k = never d (statements u.body) k
          by false b e k = always d (statements u.body) e

-- ---- lowered units

-- scalars have no extents
extents_behind : (d : List ℕ) (ds : List Declaration) (line : ℕ) (xs : List (List ℕ)) → is_extent d (ds ++ map (scalar_at line) xs) ≡ is_extent d ds
extents_behind d [] line [] = refl
extents_behind d [] line (x ∷ xs) = extents_behind d [] line xs
extents_behind d (e ∷ ds) line xs = ap (λ b. names_extent d e.extents || b) (extents_behind d ds line xs)

module _ (units : List Procedure) (fit : IsFit units) (u : Procedure) where
  -- what is known of each statement of the unit
  abbrev pub Known : ℕ → Act → Type 0
  Known line a = Spares (handed_back units) a × (ActInside (is_of u) a × EachCall' (IsFitCall units u) a)

  mutual
    known_in : (a : Act) → HoldsIn (λ line a. Spares (handed_back units) a) a → ActInside (is_of u) a → EachCall' (IsFitCall units u) a → HoldsIn Known a
    known_in (assign x subs e) s i f = tt
    known_in (choose c a b) s i f = (known a s.0 i.1.0 f.0, known b s.1 i.1.1 f.1)
    known_in (loop x first last by body m) s i f = known body s i.1.1 f
    known_in (during c body) s i f = known body s i.1 f
    known_in (call name args) s i f = tt
    known_in (runtime r) s i f = tt

    -- of a list
    known : (c : Code) → AreSpared (handed_back units) c → CodeInside (is_of u) c → EachCall (IsFitCall units u) c → Holds Known c
    known stop s i f = tt
    known (step line a rest) s i f = ((s.0, (i.0, f.0)), (known_in a s.1.0 i.0 f.0, known rest s.1.1 i.1 f.1))

  -- loops of the lowered unit are so where those of the unit are
  pub spared_lowered : PlainCode u.body → EachCall (IsFitCall units u) u.body → AreSpared (handed_back units) u.body → AreSpared (handed_back (lowered_program units)) (lowered_unit units u).body
  spared_lowered pl f s =
      lowered_holds (local_in units u) Known (λ line a. Spares (handed_back (lowered_program units)) a) (λ line x subs e. tt) (λ line c a b. tt) (handed_back units) (λ line c body. tt)
      (λ line x first last by body m k. statements_same units fit u x k.1.0.0 body k.1.0.1.1 k.1.1 ∙ k.0) (λ line name args k. tt) (λ line r k. tt) u.body (known u.body s (own_body u pl) f)

  -- and so are its extents
  pub kept_lowered : PlainCode u.body → EachCall (IsFitCall units u) u.body → KeepsExtents (handed_back units) u → KeepsExtents (handed_back (lowered_program units)) (lowered_unit units u)
  kept_lowered pl f h d k e =
      statements_same units fit u (plain d) (own_dummies u d k) u.body (own_body u pl) f
      ∙ h d k (sym (extents_behind d u.declarations u.line _) ∙ e)
