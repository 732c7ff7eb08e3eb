-- Statements and programs, and their kernels worked out by hand. (docs/KERNEL.md)
use Rattle.std.specs.Prelude.{◌≡◌, ℕ, pos, List, [], ◌∷◌, ◌++◌, None, codes}
use Rattle.adj_tree.specs.Code.{plain, abs, bin, pow, power_of, plus, minus, times, quot, modulo, none, more, Test, compare, is_less, is_greater, unmarked, count_from, Act, choose, loop, during, call, Code, stop, step, Extent, fixed, given, Declaration, Procedure}
use Rattle.def_names.specs.Fault.{source_rules, run_rules}
use Rattle.def_names.specs.Check.{first_fault}
use Rattle.def_kernel.specs.Stepped.{kernel_of}
use Rattle.law_kernel.specs.Samples.{number, the, at, at_two, larger, smaller, adv, sets, sets_at, sets_at_two, calls, listed, greatest, least, positive, Becomes, declares, unit_at}

abbrev a : List ℕ
a = codes "A"

abbrev b : List ℕ
b = codes "B"

abbrev i : List ℕ
i = codes "I"

abbrev j : List ℕ
j = codes "J"

abbrev n : List ℕ
n = codes "N"

abbrev w : List ℕ
w = codes "W"

abbrev x : List ℕ
x = codes "X"

abbrev y : List ℕ
y = codes "Y"

abbrev z : List ℕ
z = codes "Z"

-- ---- MAX, MIN and ABS

-- Y=MAX(X,Z), Y=MIN(X,Z) and Y=ABS(X)
abbrev pub OneEach : Type 0
OneEach =
    Becomes (sets y (larger (the x) (the z))) (greatest 1 2 (the x) (the z) (sets y (the (adv 1)) ∷ []))
    × (Becomes (sets y (smaller (the x) (the z))) (least 1 2 (the x) (the z) (sets y (the (adv 1)) ∷ []))
    × Becomes (sets y (abs (the x))) (positive 1 (the x) (sets y (the (adv 1)) ∷ [])))

-- MAX in MAX, first and second operand: inner ones come first. Y=MAX(MAX(X,Z),W) and Y=MAX(X,MAX(Z,W))
abbrev pub MaximumInMaximum : Type 0
MaximumInMaximum =
    Becomes (sets y (larger (larger (the x) (the z)) (the w))) (greatest 1 2 (the x) (the z) (greatest 3 4 (the (adv 1)) (the w) (sets y (the (adv 3)) ∷ [])))
    × Becomes (sets y (larger (the x) (larger (the z) (the w)))) (greatest 1 2 (the z) (the w) (greatest 3 4 (the x) (the (adv 1)) (sets y (the (adv 3)) ∷ [])))

-- ABS of a product in a product, and two of them in a sum. Y=Z*ABS(X*W) and Y=MAX(X,Z)-ABS(W)
abbrev pub InOperations : Type 0
InOperations =
    Becomes (sets y (bin times (the z) (abs (bin times (the x) (the w))))) (positive 1 (bin times (the x) (the w)) (sets y (bin times (the z) (the (adv 1))) ∷ []))
    × Becomes (sets y (bin minus (larger (the x) (the z)) (abs (the w)))) (greatest 1 2 (the x) (the z) (positive 3 (the w) (sets y (bin minus (the (adv 1)) (the (adv 3))) ∷ [])))

-- a statement that stays as it is
abbrev Stays : Act → Type 0
Stays s = Becomes s (s ∷ [])

-- where no derivative goes they stay: in a subscript, a quotient, MOD and the base of power 0; of a target's subscript too
abbrev pub LeftAlone : Type 0
LeftAlone =
    Stays (sets y (at a (smaller (the i) (the j))))
    × (Stays (sets y (bin quot (abs (the x)) (larger (the z) (number 2))))
    × (Stays (sets y (bin modulo (abs (the x)) (number 3)))
    × (Stays (sets y (pow (larger (the x) (the z)) 0))
    × Stays (sets_at a (smaller (the i) (the j)) (the x)))))

-- a power, by a literal and by an expression: the base is lowered, the exponent stays. Y=MAX(X,Z)**2 and Y=MAX(X,Z)**MAX(I,J)
abbrev pub InPowers : Type 0
InPowers =
    Becomes (sets y (pow (larger (the x) (the z)) 2)) (greatest 1 2 (the x) (the z) (sets y (pow (the (adv 1)) 2) ∷ []))
    × Becomes (sets y (power_of (larger (the x) (the z)) (larger (the i) (the j)))) (greatest 1 2 (the x) (the z) (sets y (power_of (the (adv 1)) (larger (the i) (the j))) ∷ []))

-- ---- targets

-- A(A(I))=A(J), A(MAX(A(I),J))=ABS(A(J)) and B(I,B(J,I))=B(I,J): a subscript that mentions the array becomes a local; those come
-- first, then the ones in them, then those of the right side
abbrev pub TargetsApart : Type 0
TargetsApart =
    Becomes (sets_at a (at a (the i)) (at a (the j))) (sets (adv 1) (at a (the i)) ∷ sets_at a (the (adv 1)) (at a (the j)) ∷ [])
    × (Becomes (sets_at a (larger (at a (the i)) (the j)) (abs (at a (the j))))
    (greatest 2 3 (at a (the i)) (the j) (sets (adv 1) (the (adv 2)) ∷ positive 4 (at a (the j)) (sets_at a (the (adv 1)) (the (adv 4)) ∷ [])))
    × Becomes (sets_at_two b (the i) (at_two b (the j) (the i)) (at_two b (the i) (the j))) (sets (adv 1) (at_two b (the j) (the i)) ∷ sets_at_two b (the i) (the (adv 1)) (at_two b (the i) (the j)) ∷ []))

-- ---- calls, of G that writes its first dummy alone and of H that writes none

-- CALL G(X,Z) stays; in CALL G(X,X) the second X is passed by its value; in CALL H(I+1,I) the name I doesn't stand earlier
abbrev pub NamesOfCalls : Type 0
NamesOfCalls =
    Stays (calls (codes "G") (the x) (the z))
    × (Becomes (calls (codes "G") (the x) (the x)) (sets (adv 1) (the x) ∷ calls (codes "G") (the x) (the (adv 1)) ∷ [])
    × Becomes (calls (codes "H") (bin plus (the i) (number 1)) (the i)) (sets (adv 1) (bin plus (the i) (number 1)) ∷ calls (codes "H") (the (adv 1)) (the i) ∷ []))

-- CALL G(A(I),A(J)): the element of a dummy that is written is put back, the other is passed by its value. In CALL G(A(MAX(I,J)),3)
-- the local of the subscript is taken before those in it
abbrev pub ElementsOfCalls : Type 0
ElementsOfCalls =
    Becomes (calls (codes "G") (at a (the i)) (at a (the j)))
    (sets (adv 1) (the i) ∷ sets (adv 2) (at a (the (adv 1))) ∷ sets (adv 3) (at a (the j)) ∷ calls (codes "G") (the (adv 2)) (the (adv 3)) ∷ sets_at a (the (adv 1)) (the (adv 2)) ∷ [])
    × Becomes (calls (codes "G") (at a (larger (the i) (the j))) (number 3))
    (greatest 2 3 (the i) (the j)
    (sets (adv 1) (the (adv 2)) ∷ sets (adv 4) (at a (the (adv 1))) ∷ sets (adv 5) (number 3) ∷ calls (codes "G") (the (adv 4)) (the (adv 5)) ∷ sets_at a (the (adv 1)) (the (adv 4)) ∷ []))

-- CALL H(MAX(X,Z),X) and CALL H(X*ABS(Z),A): MAX, MIN and ABS of all actuals come first, and what is then a name stays
abbrev pub ValuesOfCalls : Type 0
ValuesOfCalls =
    Becomes (calls (codes "H") (larger (the x) (the z)) (the x)) (greatest 1 2 (the x) (the z) (calls (codes "H") (the (adv 1)) (the x) ∷ []))
    × Becomes (calls (codes "H") (bin times (the x) (abs (the z))) (the a)) (positive 1 (the z) (sets (adv 2) (bin times (the x) (the (adv 1))) ∷ calls (codes "H") (the (adv 2)) (the a) ∷ []))

-- ---- conditions, bounds and bodies

-- Y=ABS(X), at line 5, and what it becomes
abbrev body_before : Code
body_before = listed 5 (sets y (abs (the x)) ∷ [])

abbrev body_after : Code
body_after = listed 5 (positive 1 (the x) (sets y (the (adv 1)) ∷ []))

-- a condition with MAX in it
abbrev some_test : Test
some_test = compare is_greater (larger (the x) (the z)) (number 0)

-- the conditions of IF and DO WHILE and the bounds of DO stay, and bodies are lowered
abbrev pub BodiesLowered : Type 0
BodiesLowered =
    Becomes (choose some_test body_before stop) (choose some_test body_after stop ∷ [])
    × (Becomes (during some_test body_before) (during some_test body_after ∷ [])
    × Becomes (loop (plain i) (smaller (the j) (the n)) (larger (the j) (the n)) (number 1) body_before unmarked) (loop (plain i) (smaller (the j) (the n)) (larger (the j) (the n)) (number 1) body_after unmarked ∷ []))

-- ---- units

-- Locals begin at ADV1 again in each statement, and get other names where these are taken; they are declared behind the unit's
-- own declarations with the line of the SUBROUTINE: SUBROUTINE P(X,ADV2), INTEGER*8 X,ADV2, X=MAX(X,ADV2), X=ABS(X)
abbrev pub LocalsNamed : Type 0
LocalsNamed =
    let second = codes "ADV2_1" in
    kernel_of (unit_at 1 (codes "P") (x ∷ adv 2 ∷ []) (declares 2 x [] ∷ declares 2 (adv 2) [] ∷ []) (step 5 (sets x (larger (the x) (the (adv 2)))) (step 5 (sets x (abs (the x))) stop)) ∷ [])
    ≡ unit_at 1 (codes "P") (x ∷ adv 2 ∷ []) (declares 2 x [] ∷ declares 2 (adv 2) [] ∷ declares 1 (adv 1) [] ∷ declares 1 second [] ∷ [])
    (listed 5 (sets (adv 1) (the x) ∷ sets second (the (adv 2)) ∷ choose (compare is_less (the (adv 1)) (the second)) (listed 5 (sets (adv 1) (the second) ∷ [])) stop ∷ sets x (the (adv 1)) ∷ positive 1 (the x) (sets x (the (adv 1)) ∷ [])))
    ∷ []

-- The example of docs/KERNEL.md, where G is a unit of the program that assigns its first dummy
abbrev doubles : Procedure
doubles = unit_at 6 (codes "G") (x ∷ z ∷ []) (declares 7 x [] ∷ declares 7 z [] ∷ []) (step 8 (sets x (bin plus (the x) (the z))) stop)

abbrev nine : List Extent
nine = fixed (pos 9) ∷ []

abbrev own_declarations : List Declaration
own_declarations = declares 2 i [] ∷ declares 2 j [] ∷ declares 2 a nine ∷ declares 2 y [] ∷ []

abbrev locals_declared : List Declaration
locals_declared = declares 1 (adv 1) [] ∷ declares 1 (adv 2) [] ∷ declares 1 (adv 3) [] ∷ declares 1 (adv 4) [] ∷ []

abbrev pub WorkedExample : Type 0
WorkedExample =
    kernel_of (unit_at 1 (codes "P") (i ∷ j ∷ a ∷ y ∷ []) own_declarations (listed 5 (sets_at a (at a (the i)) (bin times (the y) (abs (at a (the j)))) ∷ calls (codes "G") (at a (larger (the i) (the j))) (the y) ∷ [])) ∷ doubles ∷ [])
    ≡ unit_at 1 (codes "P") (i ∷ j ∷ a ∷ y ∷ []) (own_declarations ++ locals_declared)
    (listed 5 (sets (adv 1) (at a (the i)) ∷ positive 2 (at a (the j))
    (sets_at a (the (adv 1)) (bin times (the y) (the (adv 2))) ∷ greatest 2 3 (the i) (the j)
    (sets (adv 1) (the (adv 2)) ∷ sets (adv 4) (at a (the (adv 1))) ∷ calls (codes "G") (the (adv 4)) (the y) ∷ sets_at a (the (adv 1)) (the (adv 4)) ∷ []))))
    ∷ doubles ∷ []

-- A marked loop in a marked loop, each with a number of snapshots that a variable says:
--     SUBROUTINE P(N,U,S)                        SUBROUTINE P_S1(N,U,S,W,M,K,I)      SUBROUTINE P_S2(S,W,I)
--     INTEGER*8 N,U(N),S,W(3),L,M                (each declared, U(N) and W(3))      (each declared, W(3))
--     (L snapshots)                              W(1)=U(K)                           S=S+W(I)
--     DO K=1,N                                   (M snapshots)
--       W(1)=U(K)                                DO I=1,3
--       (M snapshots)                              CALL P_S2(S,W,I)
--       DO I=1,3
--         S=S+W(I)
-- L stays at the outer loop and stands in no step unit; M is a dummy of the step unit whose body has the inner loop.
abbrev u : List ℕ
u = codes "U"

abbrev s : List ℕ
s = codes "S"

abbrev k : List ℕ
k = codes "K"

abbrev l : List ℕ
l = codes "L"

abbrev m : List ℕ
m = codes "M"

-- the extents of U and of W
abbrev by_n : List Extent
by_n = given n ∷ []

abbrev three : List Extent
three = fixed (pos 3) ∷ []

abbrev inner_body : Code
inner_body = listed 8 (sets s (bin plus (the s) (at w (the i))) ∷ [])

abbrev outer_body : Code → Code
outer_body inner = step 5 (sets_at w (number 1) (at u (the k))) (step 7 (loop (plain i) (number 1) (number 3) (number 1) inner (count_from (plain m))) stop)

abbrev outer_loop : Code → Code
outer_loop outer = step 4 (loop (plain k) (number 1) (the n) (number 1) outer (count_from (plain l))) stop

abbrev sums : Code → Procedure
sums body = unit_at 1 (codes "P") (n ∷ u ∷ s ∷ []) (declares 2 n [] ∷ declares 2 u by_n ∷ declares 2 s [] ∷ declares 2 w three ∷ declares 2 l [] ∷ declares 2 m [] ∷ []) body

abbrev pub StepUnits : Type 0
StepUnits =
    let first_call = call (codes "P_S1") (more (the n) (more (the u) (more (the s) (more (the w) (more (the m) (more (the k) (more (the i) none))))))) in
    let second_call = call (codes "P_S2") (more (the s) (more (the w) (more (the i) none))) in
    kernel_of (sums (outer_loop (outer_body inner_body)) ∷ [])
    ≡ sums (outer_loop (listed 4 (first_call ∷ [])))
    ∷ unit_at 4 (codes "P_S1") (n ∷ u ∷ s ∷ w ∷ m ∷ k ∷ i ∷ [])
    (declares 4 n [] ∷ declares 4 u by_n ∷ declares 4 s [] ∷ declares 4 w three ∷ declares 4 m [] ∷ declares 4 k [] ∷ declares 4 i [] ∷ []) (outer_body (listed 7 (second_call ∷ [])))
    ∷ unit_at 7 (codes "P_S2") (s ∷ w ∷ i ∷ []) (declares 7 s [] ∷ declares 7 w three ∷ declares 7 i [] ∷ []) inner_body
    ∷ []

-- it is accepted as a text of a user, and its kernel as a text that is run
abbrev pub StepUnitsAccepted : Type 0
StepUnitsAccepted =
    let program = sums (outer_loop (outer_body inner_body)) ∷ [] in
    (first_fault source_rules program ≡ None) × (first_fault run_rules (kernel_of program) ≡ None)
