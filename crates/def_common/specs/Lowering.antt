-- The lowered program, which has no blocks: members become dummies, after the unit's own.
use Rattle.std.specs.Prelude.{ℕ, List, [], ◌∷◌, ◌++◌, map, length, Bool, not, ◌||◌, ◌&&◌, ◌==◌, if◌then◌else◌}
use Rattle.adj_tree.specs.Code.{plain, name_eq, var, Terms, none, more, Act, assign, choose, loop, during, call, runtime, Code, stop, step, Extent, Declaration, Procedure}
use Rattle.def_meaning.specs.Units.{declared}
use Rattle.def_meaning.specs.Apart.{has_name}
use Rattle.def_names.specs.Variables.{is_integer_name}
use Rattle.adj_tree.specs.Common.{Shared}
use Rattle.def_common.specs.Blocks.{used_blocks}
use Rattle.def_common.specs.Members.{Member, member_names, names_of_blocks, members}

-- ---- declarations

-- a declaration without extents takes those of the unit's item
abbrev pub item_extents : List Member → List ℕ → List Extent
item_extents [] x = []
item_extents (m ∷ ms) x = if name_eq m.name x then m.item else item_extents ms x

abbrev pub with_extents : List Member → Declaration → Declaration
with_extents ms d = if length d.extents == 0 then record d { extents = item_extents ms d.name } else d

abbrev declared_there : List Declaration → List ℕ → Bool
declared_there ds x = has_name x (map (λ d. d.name) ds)

-- the item of a member with a declaration is a second one where both give extents (a fault of names). A member without one gets one where it is
-- passed through, or where it has extents, an integer name and the unit no IMPLICIT NONE
abbrev pub is_declared_so : Procedure → Member → Bool
is_declared_so u m =
    if declared_there u.declarations m.name
    then not (length m.item == 0) && not (length (declared u.declarations (plain m.name)) == 0)
    else not m.own || (not (length m.item == 0) && (is_integer_name m.name && not u.is_none))

abbrev pub new_declarations : Procedure → List Member → List Declaration
new_declarations u [] = []
new_declarations u (m ∷ ms) =
    if is_declared_so u m
    then record { line = m.line; name = m.name; extents = if m.own then m.item else m.extents } ∷ new_declarations u ms else new_declarations u ms

-- ---- calls

-- variables after actuals
abbrev pub behind : Terms → List (List ℕ) → Terms
behind none [] = none
behind none (x ∷ xs) = more (var (plain x)) (behind none xs)
behind (more e es) xs = more e (behind es xs)

abbrev mutual
  pub lowered_act : List Shared → List Member → Act → Act
  lowered_act ps ms (assign x subs e) = assign x subs e
  lowered_act ps ms (choose c a b) = choose c (lowered ps ms a) (lowered ps ms b)
  lowered_act ps ms (loop x first last by body m) = loop x first last by (lowered ps ms body) m
  lowered_act ps ms (during c body) = during c (lowered ps ms body)
  lowered_act ps ms (call name args) = call name (behind args (names_of_blocks ms (used_blocks ps name)))
  lowered_act ps ms (runtime r) = runtime r

  -- each call passes the caller's members of the blocks that the unit uses which it calls
  pub lowered : List Shared → List Member → Code → Code
  lowered ps ms stop = stop
  lowered ps ms (step line a rest) = step line (lowered_act ps ms a) (lowered ps ms rest)

-- ---- the program

abbrev pub lowered_unit : List Shared → Shared → Procedure
lowered_unit ps s =
    let ms = members ps s in
    record s.unit {
      dummies = s.unit.dummies ++ member_names ms;
      declarations = map (with_extents ms) s.unit.declarations ++ new_declarations s.unit ms;
      body = lowered ps ms s.unit.body;
    }

abbrev pub lowered_program : List Shared → List Procedure
lowered_program ps = map (lowered_unit ps) ps
