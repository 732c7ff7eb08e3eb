-- What is asked of a program with blocks, so that the program without them does the same.
use Rattle.std.specs.Prelude.{◌≡◌, ℕ, ℤ, pos, List, [], ◌∷◌, ◌++◌, map, length, true, false, ◌||◌, ◌==◌, Option, Some, None}
use Rattle.adj_tree.specs.Code.{Var, plain, Term, lit, var, elem, neg, bin, pow, power_of, abs, Terms, none, more, Test, compare, negation, conjunction, disjunction, Runtime, push_word, pop_word, push_array, pop_array, push_control, pop_control, zero_array, begin_reversal, count_actions, give_action, end_reversal, Mark, unmarked, with_count, count_from, Act, assign, choose, loop, during, call, runtime, Code, stop, step, Extent, fixed, given, Procedure}
use Rattle.def_meaning.specs.Apart.{has_name, AreApart}
use Rattle.def_meaning.specs.Written.{find_unit, is_handed_back, handed_back}
use Rattle.def_meaning.specs.Units.{declared, shape_of, shape_fits}
use Rattle.def_meaning.specs.Rename.{rename}
use Rattle.def_names.specs.Standing.{count_of}
use Rattle.adj_tree.specs.Common.{Shared}
use Rattle.def_common.specs.Blocks.{find_shared, used_blocks}
use Rattle.def_common.specs.Members.{names_of_blocks, is_slot, member_names, member_slots, block_members, slots_for, members, owned, swapped, swap, swapped_declaration}
use Rattle.def_common.specs.Slots.{slot_declarations, shared_units}
use Rattle.law_common.specs.Passing.{EachCall}
use Rattle.def_common.specs.Lowering.{lowered_unit}

abbrev pub Each : {A : Type 0} → (A → Type 0) → List A → Type 0
Each P [] = Unit {0}
Each P (a ∷ l) = P a × Each P l

-- ---- a property of each variable in code

abbrev mutual
  pub EachInTerm : (Var → Type 0) → Term → Type 0
  EachInTerm P (lit z) = Unit {0}
  EachInTerm P (var x) = P x
  EachInTerm P (elem x subs) = P x × EachInTerms P subs
  EachInTerm P (neg a) = EachInTerm P a
  EachInTerm P (bin op a b) = EachInTerm P a × EachInTerm P b
  EachInTerm P (pow a k) = EachInTerm P a
  EachInTerm P (power_of a b) = EachInTerm P a × EachInTerm P b
  EachInTerm P (abs a) = EachInTerm P a

  pub EachInTerms : (Var → Type 0) → Terms → Type 0
  EachInTerms P none = Unit {0}
  EachInTerms P (more e es) = EachInTerm P e × EachInTerms P es

abbrev pub EachInTest : (Var → Type 0) → Test → Type 0
EachInTest P (compare o a b) = EachInTerm P a × EachInTerm P b
EachInTest P (negation c) = EachInTest P c
EachInTest P (conjunction c d) = EachInTest P c × EachInTest P d
EachInTest P (disjunction c d) = EachInTest P c × EachInTest P d

abbrev pub EachInRuntime : (Var → Type 0) → Runtime → Type 0
EachInRuntime P (push_word x subs) = P x × EachInTerms P subs
EachInRuntime P (pop_word x subs) = P x × EachInTerms P subs
EachInRuntime P (push_array x) = P x
EachInRuntime P (pop_array x) = P x
EachInRuntime P (push_control e) = EachInTerm P e
EachInRuntime P (pop_control x) = P x
EachInRuntime P (zero_array x) = P x
EachInRuntime P (begin_reversal l m) = EachInTerm P l × EachInTerm P m
EachInRuntime P (count_actions l m x) = EachInTerm P l × (EachInTerm P m × P x)
EachInRuntime P (give_action l m e x y z) = EachInTerm P l × (EachInTerm P m × (EachInTerm P e × (P x × (P y × P z))))
EachInRuntime P end_reversal = Unit {0}

abbrev pub EachInMark : (Var → Type 0) → Mark → Type 0
EachInMark P unmarked = Unit {0}
EachInMark P (with_count m) = Unit {0}
EachInMark P (count_from x) = P x

abbrev mutual
  pub EachInAct : (Var → Type 0) → Act → Type 0
  EachInAct P (assign x subs e) = P x × (EachInTerms P subs × EachInTerm P e)
  EachInAct P (choose c a b) = EachInTest P c × (EachIn P a × EachIn P b)
  EachInAct P (loop x first last by body m) = P x × (EachInTerm P first × (EachInTerm P last × (EachInTerm P by × (EachIn P body × EachInMark P m))))
  EachInAct P (during c body) = EachInTest P c × EachIn P body
  EachInAct P (call name args) = EachInTerms P args
  EachInAct P (runtime r) = EachInRuntime P r

  pub EachIn : (Var → Type 0) → Code → Type 0
  EachIn P stop = Unit {0}
  EachIn P (step line a rest) = EachInAct P a × EachIn P rest

-- ---- a unit

-- the literals among extents
abbrev pub literals : List Extent → List ℤ
literals [] = []
literals (fixed z ∷ es) = z ∷ literals es
literals (given x ∷ es) = pos 0 ∷ literals es

-- literal extents that an array may have
abbrev pub IsLaidOut : List Extent → Type 0
IsLaidOut es = (es ≡ map fixed (literals es)) × ((length (literals es) == 0 || shape_fits (literals es) (shape_of (literals es))) ≡ true)

abbrev pub found_dummies : Option Shared → List (List ℕ)
found_dummies None = []
found_dummies (Some s) = s.unit.dummies

-- the own dummies of the unit of a name
abbrev pub own_dummies : List Shared → List ℕ → List (List ℕ)
own_dummies ps name = found_dummies (find_shared ps name)

-- a call of a unit that is there has an actual for each of its own dummies; it has no slots but the caller's, and none of them is an actual of
-- a dummy that it writes
abbrev pub FoundFits : List Shared → List (List ℕ) → List ℕ → Terms → Option Procedure → Type 0
FoundFits ps slots name args None = Unit {0}
FoundFits ps slots name args (Some u) =
    (count_of args ≡ length (own_dummies ps name))
    × Each (λ x. (has_name x slots ≡ true) × (is_handed_back (plain x) (handed_back (shared_units ps) name) args ≡ false)) (slots_for ps name)

abbrev pub CallChecks : List Shared → List (List ℕ) → List ℕ → Terms → Type 0
CallChecks ps slots name args = FoundFits ps slots name args (find_unit (shared_units ps) name)

abbrev pub FoundCounts : List Shared → List ℕ → Terms → Option Procedure → Type 0
FoundCounts ps name args None = Unit {0}
FoundCounts ps name args (Some u) = count_of args ≡ length (own_dummies ps name)

-- the same of the number of actuals alone
abbrev pub CallCounted : List Shared → List ℕ → Terms → Type 0
CallCounted ps name args = FoundCounts ps name args (find_unit (shared_units ps) name)

-- the unit with slots is the lowered one under other names, and calls in it have actuals for own dummies
pub record RenamesUnit (ps : List Shared) (s : Shared) : Type 0 where
  -- members have names of their own
  pub apart : AreApart (member_names (members ps s) ++ member_slots (members ps s))
  -- there is one for each slot
  pub slots : member_slots (members ps s) ≡ slots_for ps s.unit.name
  -- no dummy is a member or a slot
  pub dummies : Each (λ d. (swapped (members ps s) d ≡ d) × (is_slot (plain d) ≡ false)) s.unit.dummies
  -- no name in the unit's text is that of a member that it passes through
  pub body : EachIn (λ x. swap (owned (members ps s)) x ≡ swap (members ps s) x) s.unit.body
  pub declarations : Each (λ d. swapped_declaration (owned (members ps s)) d ≡ swapped_declaration (members ps s) d) s.unit.declarations
  -- its blocks are laid out by literals, and members in the lowered unit as their slots
  pub layout : Each (λ m. IsLaidOut m.extents) (block_members ps (used_blocks ps s.unit.name))
  pub placed : Each (λ m. declared (lowered_unit ps s).declarations (plain m.name) ≡ declared (slot_declarations ps s.unit.name) (plain m.slot)) (members ps s)
  pub counts : EachCall (CallCounted ps) (rename (swap (owned (members ps s))) s.unit.body)
  -- calls pass for blocks the members that stand for the called unit's slots
  pub handed : EachCall (λ name args. names_of_blocks (members ps s) (used_blocks ps name) ≡ map (swapped (members ps s)) (slots_for ps name)) s.unit.body

-- besides calls fit
pub record LowersUnit (ps : List Shared) (s : Shared) : Type 0 where
  pub renames : RenamesUnit ps s
  pub calls : EachCall (CallChecks ps (slots_for ps s.unit.name)) (rename (swap (owned (members ps s))) s.unit.body)

-- each unit is so
abbrev pub Renames : List Shared → Type 0
Renames ps = Each (RenamesUnit ps) ps

abbrev pub Lowers : List Shared → Type 0
Lowers ps = Each (LowersUnit ps) ps
