-- Programs and their tangents, written out.
use Rattle.std.specs.Prelude.{ℕ, ℤ, pos, List, [], ◌∷◌, false, ◌||◌, ◌&&◌, codes}
use Rattle.adj_tree.specs.Code.{plain, name_eq, var_eq, Term, lit, var, elem, neg, bin, pow, power_of, plus, minus, times, greater, none, more, compare, is_greater, is_less, assign, choose, loop, during, call, runtime, zero_array, unmarked, stop, step, fixed, Declaration, Procedure}
use Rattle.def_names.specs.Numbers.{Vars}
use Rattle.def_tangent.specs.Program.{Carried}

abbrev v : List ℕ → Term
v x = var (plain x)

abbrev set : List ℕ → Term → Rattle.adj_tree.specs.Code.Act
set x e = assign (plain x) none e

abbrev scalar : ℕ → List ℕ → Declaration
scalar line x = record { line = line; name = x; extents = [] }

abbrev among : List (List ℕ) → Vars
among [] x = false
among (a ∷ as_) x = var_eq x (plain a) || among as_ x

-- SUBROUTINE P(X,Y); INTEGER*8 X,Y; Y=X*X; END
abbrev pub square : Procedure
square = record {
  line = 1;
  name = codes "P";
  dummies = codes "X" ∷ codes "Y" ∷ [];
  is_none = false;
  declarations = scalar 2 (codes "X") ∷ scalar 2 (codes "Y") ∷ [];
  body = step 3 (set (codes "Y") (bin times (v (codes "X")) (v (codes "X")))) stop;
}

abbrev pub square_carried : Carried
square_carried name = among (codes "X" ∷ codes "Y" ∷ [])

abbrev pub square_tangent : Procedure
square_tangent = record {
  line = 1;
  name = codes "P_D";
  dummies = codes "X" ∷ codes "XD" ∷ codes "Y" ∷ codes "YD" ∷ [];
  is_none = false;
  declarations = scalar 2 (codes "X") ∷ scalar 2 (codes "XD") ∷ scalar 2 (codes "Y") ∷ scalar 2 (codes "YD") ∷ scalar 1 (codes "ADY1") ∷ [];
  body =
      step 1 (set (codes "YD") (lit (pos 0)))
      (step 3 (set (codes "ADY1") (bin plus (bin times (v (codes "XD")) (v (codes "X"))) (bin times (v (codes "X")) (v (codes "XD")))))
      (step 3 (set (codes "YD") (v (codes "ADY1")))
      (step 3 (set (codes "Y") (bin times (v (codes "X")) (v (codes "X")))) stop)));
}

-- SUBROUTINE P(N,X,R); INTEGER*8 N,X,R; R=1; DO I=1,N; R=R*X; END DO; END
abbrev pub powers : Procedure
powers = record {
  line = 1;
  name = codes "P";
  dummies = codes "N" ∷ codes "X" ∷ codes "R" ∷ [];
  is_none = false;
  declarations = scalar 2 (codes "N") ∷ scalar 2 (codes "X") ∷ scalar 2 (codes "R") ∷ [];
  body = step 3 (set (codes "R") (lit (pos 1))) (step 4 (loop (plain (codes "I")) (lit (pos 1)) (v (codes "N")) (lit (pos 1)) (step 5 (set (codes "R") (bin times (v (codes "R")) (v (codes "X")))) stop) unmarked) stop);
}

abbrev pub powers_carried : Carried
powers_carried name = among (codes "X" ∷ codes "R" ∷ [])

abbrev pub powers_tangent : Procedure
powers_tangent = record {
  line = 1;
  name = codes "P_D";
  dummies = codes "N" ∷ codes "X" ∷ codes "XD" ∷ codes "R" ∷ codes "RD" ∷ [];
  is_none = false;
  declarations = scalar 2 (codes "N") ∷ scalar 2 (codes "X") ∷ scalar 2 (codes "XD") ∷ scalar 2 (codes "R") ∷ scalar 2 (codes "RD") ∷ scalar 1 (codes "I") ∷ scalar 1 (codes "ADY1") ∷ [];
  body =
      step 1 (set (codes "RD") (lit (pos 0)))
      (step 3 (set (codes "RD") (lit (pos 0)))
      (step 3 (set (codes "R") (lit (pos 1)))
      (step 4 (loop (plain (codes "I")) (lit (pos 1)) (v (codes "N")) (lit (pos 1))
      (step 5 (set (codes "ADY1") (bin plus (bin times (v (codes "RD")) (v (codes "X"))) (bin times (v (codes "R")) (v (codes "XD")))))
      (step 5 (set (codes "RD") (v (codes "ADY1")))
      (step 5 (set (codes "R") (bin times (v (codes "R")) (v (codes "X")))) stop))) unmarked) stop)));
}

-- SUBROUTINE Q(A,B,K); INTEGER*8 A,B,K; CALL S(A,K); CALL T(K); B=A; END, with S(U,W): U=U*W and T(Z): Z=Z+1
abbrev pub caller : Procedure
caller = record {
  line = 1;
  name = codes "Q";
  dummies = codes "A" ∷ codes "B" ∷ codes "K" ∷ [];
  is_none = false;
  declarations = scalar 2 (codes "A") ∷ scalar 2 (codes "B") ∷ scalar 2 (codes "K") ∷ [];
  body =
      step 3 (call (codes "S") (more (v (codes "A")) (more (v (codes "K")) none)))
      (step 4 (call (codes "T") (more (v (codes "K")) none))
      (step 5 (set (codes "B") (v (codes "A"))) stop));
}

abbrev pub scales : Procedure
scales = record {
  line = 7;
  name = codes "S";
  dummies = codes "U" ∷ codes "W" ∷ [];
  is_none = false;
  declarations = scalar 8 (codes "U") ∷ scalar 8 (codes "W") ∷ [];
  body = step 9 (set (codes "U") (bin times (v (codes "U")) (v (codes "W")))) stop;
}

abbrev pub counts : Procedure
counts = record {
  line = 11;
  name = codes "T";
  dummies = codes "Z" ∷ [];
  is_none = false;
  declarations = scalar 12 (codes "Z") ∷ [];
  body = step 13 (set (codes "Z") (bin plus (v (codes "Z")) (lit (pos 1)))) stop;
}

abbrev pub caller_carried : Carried
caller_carried name x = (name_eq name (codes "Q") && among (codes "A" ∷ codes "B" ∷ []) x) || (name_eq name (codes "S") && among (codes "U" ∷ []) x)

abbrev pub caller_tangent : Procedure
caller_tangent = record {
  line = 1;
  name = codes "Q_D";
  dummies = codes "A" ∷ codes "AD" ∷ codes "B" ∷ codes "BD" ∷ codes "K" ∷ [];
  is_none = false;
  declarations = scalar 2 (codes "A") ∷ scalar 2 (codes "AD") ∷ scalar 2 (codes "B") ∷ scalar 2 (codes "BD") ∷ scalar 2 (codes "K") ∷ [];
  body =
      step 1 (set (codes "BD") (lit (pos 0)))
      (step 3 (call (codes "S_D") (more (v (codes "A")) (more (v (codes "AD")) (more (v (codes "K")) none))))
      (step 4 (call (codes "T") (more (v (codes "K")) none))
      (step 5 (set (codes "BD") (v (codes "AD")))
      (step 5 (set (codes "B") (v (codes "A"))) stop))));
}

abbrev pub scales_tangent : Procedure
scales_tangent = record {
  line = 7;
  name = codes "S_D";
  dummies = codes "U" ∷ codes "UD" ∷ codes "W" ∷ [];
  is_none = false;
  declarations = scalar 8 (codes "U") ∷ scalar 8 (codes "UD") ∷ scalar 8 (codes "W") ∷ scalar 7 (codes "ADY1") ∷ [];
  body =
      step 9 (set (codes "ADY1") (bin times (v (codes "UD")) (v (codes "W"))))
      (step 9 (set (codes "UD") (v (codes "ADY1")))
      (step 9 (set (codes "U") (bin times (v (codes "U")) (v (codes "W")))) stop));
}

-- ---- helpers that a branch needs

-- SUBROUTINE H(X,Y); INTEGER*8 X,Y; IF (X.GT.0) THEN; Y=X**2; ELSE; DO WHILE (Y.LT.0); Y=(X+1)*(X-1); END DO; END IF; END
abbrev pub branches : Procedure
branches = record {
  line = 1;
  name = codes "H";
  dummies = codes "X" ∷ codes "Y" ∷ [];
  is_none = false;
  declarations = scalar 2 (codes "X") ∷ scalar 2 (codes "Y") ∷ [];
  body =
      step 3 (choose (compare is_greater (v (codes "X")) (lit (pos 0)))
      (step 4 (set (codes "Y") (pow (v (codes "X")) 2)) stop)
      (step 5 (during (compare is_less (v (codes "Y")) (lit (pos 0)))
      (step 6 (set (codes "Y") (bin times (bin plus (v (codes "X")) (lit (pos 1))) (bin minus (v (codes "X")) (lit (pos 1))))) stop)) stop)) stop;
}

abbrev pub branches_carried : Carried
branches_carried name = among (codes "X" ∷ codes "Y" ∷ [])

-- X is independent
abbrev pub branches_tangent : Procedure
branches_tangent = record {
  line = 1;
  name = codes "H_D";
  dummies = codes "X" ∷ codes "XD" ∷ codes "Y" ∷ codes "YD" ∷ [];
  is_none = false;
  declarations =
      scalar 2 (codes "X") ∷ scalar 2 (codes "XD") ∷ scalar 2 (codes "Y") ∷ scalar 2 (codes "YD") ∷ scalar 1 (codes "ADY1") ∷ scalar 1 (codes "ADY2") ∷ scalar 1 (codes "ADY3") ∷ scalar 1 (codes "ADZ1") ∷ scalar 1 (codes "ADZ2") ∷ [];
  body =
      step 1 (set (codes "YD") (lit (pos 0)))
      (step 3 (choose (compare is_greater (v (codes "X")) (lit (pos 0)))
      (step 4 (set (codes "ADY1") (bin times (bin times (lit (pos 2)) (pow (v (codes "X")) 1)) (v (codes "XD"))))
      (step 4 (set (codes "YD") (v (codes "ADY1")))
      (step 4 (set (codes "Y") (pow (v (codes "X")) 2)) stop)))
      (step 5 (during (compare is_less (v (codes "Y")) (lit (pos 0)))
      (step 6 (set (codes "ADZ1") (bin plus (v (codes "X")) (lit (pos 1))))
      (step 6 (set (codes "ADZ2") (bin minus (v (codes "X")) (lit (pos 1))))
      (step 6 (set (codes "ADY1") (v (codes "XD")))
      (step 6 (set (codes "ADY2") (v (codes "XD")))
      (step 6 (set (codes "ADY3") (bin plus (bin times (v (codes "ADY1")) (v (codes "ADZ2"))) (bin times (v (codes "ADZ1")) (v (codes "ADY2")))))
      (step 6 (set (codes "YD") (v (codes "ADY3")))
      (step 6 (set (codes "Y") (bin times (bin plus (v (codes "X")) (lit (pos 1))) (bin minus (v (codes "X")) (lit (pos 1))))) stop)))))))) stop)) stop);
}

-- ---- statements and expressions of every kind

abbrev n : ℤ → Term
n k = lit k

abbrev at_n : List ℕ → Term
at_n x = elem (plain x) (more (v (codes "N")) none)

-- SUBROUTINE F(X,Y,V,N,L); INTEGER*8 X,Y,V(3),N,L
--   V(N)=X**3-Y; Y=-X**1+N*V(N); N=N+1
--   IF (Y.GT.0) THEN; X=X**N; ELSE; X=2; END IF
--   DO WHILE (X.LT.0); X=(X+1)*(Y-2); END DO
--   DO L=1,N; Y=Y+L; END DO
abbrev pub forms : Procedure
forms = record {
  line = 1;
  name = codes "F";
  dummies = codes "X" ∷ codes "Y" ∷ codes "V" ∷ codes "N" ∷ codes "L" ∷ [];
  is_none = false;
  declarations = scalar 2 (codes "X") ∷ scalar 2 (codes "Y") ∷ record { line = 2; name = codes "V"; extents = fixed (pos 3) ∷ [] } ∷ scalar 2 (codes "N") ∷ scalar 2 (codes "L") ∷ [];
  body =
      step 3 (assign (plain (codes "V")) (more (v (codes "N")) none) (bin minus (pow (v (codes "X")) 3) (v (codes "Y"))))
      (step 4 (set (codes "Y") (bin plus (neg (pow (v (codes "X")) 1)) (bin times (v (codes "N")) (at_n (codes "V")))))
      (step 5 (set (codes "N") (bin plus (v (codes "N")) (n (pos 1))))
      (step 6 (choose (compare is_greater (v (codes "Y")) (n (pos 0))) (step 7 (set (codes "X") (power_of (v (codes "X")) (v (codes "N")))) stop) (step 8 (set (codes "X") (n (pos 2))) stop))
      (step 9 (during (compare is_less (v (codes "X")) (n (pos 0))) (step 10 (set (codes "X") (bin times (bin plus (v (codes "X")) (n (pos 1))) (bin minus (v (codes "Y")) (n (pos 2))))) stop))
      (step 11 (loop (plain (codes "L")) (n (pos 1)) (v (codes "N")) (n (pos 1)) (step 12 (set (codes "Y") (bin plus (v (codes "Y")) (v (codes "L")))) stop) unmarked) stop)))));
}

-- all but N, the counts
abbrev pub forms_carried : Carried
forms_carried name = among (codes "X" ∷ codes "Y" ∷ codes "V" ∷ codes "L" ∷ [])

-- X is independent. A power to an expression has a guard, MAX(N-1,0); the operands of a product that are expressions have temporaries.
abbrev pub forms_tangent : Procedure
forms_tangent = record {
  line = 1;
  name = codes "F_D";
  dummies = codes "X" ∷ codes "XD" ∷ codes "Y" ∷ codes "YD" ∷ codes "V" ∷ codes "VD" ∷ codes "N" ∷ codes "L" ∷ codes "LD" ∷ [];
  is_none = false;
  declarations =
      scalar 2 (codes "X") ∷ scalar 2 (codes "XD") ∷ scalar 2 (codes "Y") ∷ scalar 2 (codes "YD") ∷ record { line = 2; name = codes "V"; extents = fixed (pos 3) ∷ [] } ∷ record { line = 2; name = codes "VD"; extents = fixed (pos 3) ∷ [] }
      ∷ scalar 2 (codes "N") ∷ scalar 2 (codes "L") ∷ scalar 2 (codes "LD") ∷ scalar 1 (codes "ADY1") ∷ scalar 1 (codes "ADY2") ∷ scalar 1 (codes "ADY3") ∷ scalar 1 (codes "ADY4") ∷ scalar 1 (codes "ADZ1") ∷ scalar 1 (codes "ADZ2") ∷ [];
  body =
      step 1 (set (codes "YD") (n (pos 0)))
      (step 1 (runtime (zero_array (plain (codes "VD"))))
      (step 1 (set (codes "LD") (n (pos 0)))
      (step 3 (set (codes "ADY1") (bin times (bin times (n (pos 3)) (pow (v (codes "X")) 2)) (v (codes "XD"))))
      (step 3 (set (codes "ADY2") (bin minus (v (codes "ADY1")) (v (codes "YD"))))
      (step 3 (assign (plain (codes "VD")) (more (v (codes "N")) none) (v (codes "ADY2")))
      (step 3 (assign (plain (codes "V")) (more (v (codes "N")) none) (bin minus (pow (v (codes "X")) 3) (v (codes "Y"))))
      (step 4 (set (codes "ADY1") (v (codes "XD")))
      (step 4 (set (codes "ADY2") (neg (v (codes "ADY1"))))
      (step 4 (set (codes "ADY3") (bin times (v (codes "N")) (at_n (codes "VD"))))
      (step 4 (set (codes "ADY4") (bin plus (v (codes "ADY2")) (v (codes "ADY3"))))
      (step 4 (set (codes "YD") (v (codes "ADY4")))
      (step 4 (set (codes "Y") (bin plus (neg (pow (v (codes "X")) 1)) (bin times (v (codes "N")) (at_n (codes "V")))))
      (step 5 (set (codes "N") (bin plus (v (codes "N")) (n (pos 1))))
      (step 6 (choose (compare is_greater (v (codes "Y")) (n (pos 0)))
      (step 7 (set (codes "ADY1") (bin times (bin times (v (codes "N")) (power_of (v (codes "X")) (bin greater (bin minus (v (codes "N")) (n (pos 1))) (n (pos 0))))) (v (codes "XD"))))
      (step 7 (set (codes "XD") (v (codes "ADY1")))
      (step 7 (set (codes "X") (power_of (v (codes "X")) (v (codes "N")))) stop)))
      (step 8 (set (codes "XD") (n (pos 0)))
      (step 8 (set (codes "X") (n (pos 2))) stop)))
      (step 9 (during (compare is_less (v (codes "X")) (n (pos 0)))
      (step 10 (set (codes "ADZ1") (bin plus (v (codes "X")) (n (pos 1))))
      (step 10 (set (codes "ADZ2") (bin minus (v (codes "Y")) (n (pos 2))))
      (step 10 (set (codes "ADY1") (v (codes "XD")))
      (step 10 (set (codes "ADY2") (v (codes "YD")))
      (step 10 (set (codes "ADY3") (bin plus (bin times (v (codes "ADY1")) (v (codes "ADZ2"))) (bin times (v (codes "ADZ1")) (v (codes "ADY2")))))
      (step 10 (set (codes "XD") (v (codes "ADY3")))
      (step 10 (set (codes "X") (bin times (bin plus (v (codes "X")) (n (pos 1))) (bin minus (v (codes "Y")) (n (pos 2))))) stop))))))))
      (step 11 (set (codes "LD") (n (pos 0)))
      (step 11 (loop (plain (codes "L")) (n (pos 1)) (v (codes "N")) (n (pos 1))
      (step 12 (set (codes "ADY1") (bin plus (v (codes "YD")) (v (codes "LD"))))
      (step 12 (set (codes "YD") (v (codes "ADY1")))
      (step 12 (set (codes "Y") (bin plus (v (codes "Y")) (v (codes "L")))) stop))) unmarked) stop)))))))))))))))));
}
