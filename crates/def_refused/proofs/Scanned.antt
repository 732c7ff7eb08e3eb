-- Scanned: the scan meets just the first fault of a text.
use Rattle.std.proofs.Common.{◌≡◌, ℕ, List, [], ◌∷◌, map, inl, inr, Result, Ok, ap, subst, ◌∙◌}
use Rattle.adj_tree.specs.declared.fault.Refusal.{Refusal}
use Rattle.def_text.specs.Forming.{lines_in, FormStatements, AreStated}
use Rattle.def_text.specs.Limits.{Limits, no_limits, limits_of}
use Rattle.def_text.specs.Lined.{Lines, lines_of}
use Rattle.def_text.specs.Refused.{◌>>=◌}
use Rattle.def_text.specs.Stated.{all_stated}
use Rattle.def_text.specs.declared.mode.Mode.{Mode}
use Rattle.def_text.proofs.Cut.{are_stated, stated_are}
use Rattle.def_text.proofs.Forming.{lines_formed, formed_lines}
use Rattle.def_text.proofs.LinesMarked.{bind_ok}
use Rattle.def_text.proofs.Unlimited.{freed, lines_follow, all_follow}
use Rattle.def_refused.specs.First.{HasNone, AreFaultless, IsFirst, IsAnswer}
use Rattle.def_refused.specs.LineFaults.{LineFault}
use Rattle.def_refused.specs.Scanned.{FirstScanned, in_lines, in_statements, in_trees}
use Rattle.def_refused.specs.StatementFaults.{StatementFault, unknown, empty, unmatched, untold, long_name, long_mark}
use Rattle.def_refused.specs.TextFaults.{FirstOfText, of_lines, of_statements, of_trees}
use Rattle.def_refused.proofs.LineTests.{lines_answer, lines_accepted}
use Rattle.def_refused.proofs.StatementTests.{statements_answer, statements_accepted}

-- ---- how many lines a statement may still have is no concern of its faults

module _ (limits : Limits) where
  freed_fault : (before after others behind : List Lines) (s : Lines) (r : Refusal) → StatementFault limits before s after r → StatementFault limits others (freed s) behind r
  freed_fault before after others behind s _ (unknown h g) = unknown h g
  freed_fault before after others behind s _ (empty h) = empty h
  freed_fault before after others behind s _ (unmatched h) = unmatched h
  freed_fault before after others behind s _ (untold kind h g) = untold kind h g
  freed_fault before after others behind s _ (long_name kind tokens h g k) = long_name kind tokens h g k
  freed_fault before after others behind s _ (long_mark kind h g) = long_mark kind h g

  bound_fault : (before after others behind : List Lines) (s : Lines) (r : Refusal) → StatementFault limits others (freed s) behind r → StatementFault limits before s after r
  bound_fault before after others behind s _ (unknown h g) = unknown h g
  bound_fault before after others behind s _ (empty h) = empty h
  bound_fault before after others behind s _ (unmatched h) = unmatched h
  bound_fault before after others behind s _ (untold kind h g) = untold kind h g
  bound_fault before after others behind s _ (long_name kind tokens h g k) = long_name kind tokens h g k
  bound_fault before after others behind s _ (long_mark kind h g) = long_mark kind h g

  freed_none : (before after others behind : List Lines) (s : Lines) → HasNone (StatementFault limits before s after) → HasNone (StatementFault limits others (freed s) behind)
  freed_none before after others behind s h r f = h r (bound_fault before after others behind s r f)

  bound_none : (before after others behind : List Lines) (s : Lines) → HasNone (StatementFault limits others (freed s) behind) → HasNone (StatementFault limits before s after)
  bound_none before after others behind s h r f = h r (freed_fault before after others behind s r f)

  freed_faultless : (before others ss : List Lines) → AreFaultless (StatementFault limits) before ss → AreFaultless (StatementFault limits) others (map freed ss)
  freed_faultless before others [] h = tt
  freed_faultless before others (s ∷ ss) h = (freed_none before ss others (map freed ss) s h.0, freed_faultless (s ∷ before) (freed s ∷ others) ss h.1)

  bound_faultless : (before others ss : List Lines) → AreFaultless (StatementFault limits) others (map freed ss) → AreFaultless (StatementFault limits) before ss
  bound_faultless before others [] h = tt
  bound_faultless before others (s ∷ ss) h = (bound_none before ss others (map freed ss) s h.0, bound_faultless (s ∷ before) (freed s ∷ others) ss h.1)

  freed_first : (before others ss : List Lines) (r : Refusal) → IsFirst (StatementFault limits) before ss r → IsFirst (StatementFault limits) others (map freed ss) r
  freed_first before others [] r h = absurd h
  freed_first before others (s ∷ ss) r (inl h) =
      inl (record { stands = freed_fault before ss others (map freed ss) s r h.stands; least = λ q f. h.least q (bound_fault before ss others (map freed ss) s q f) })
  freed_first before others (s ∷ ss) r (inr h) = inr (freed_none before ss others (map freed ss) s h.0, freed_first (s ∷ before) (freed s ∷ others) ss r h.1)

  bound_first : (before others ss : List Lines) (r : Refusal) → IsFirst (StatementFault limits) others (map freed ss) r → IsFirst (StatementFault limits) before ss r
  bound_first before others [] r h = absurd h
  bound_first before others (s ∷ ss) r (inl h) =
      inl (record { stands = bound_fault before ss others (map freed ss) s r h.stands; least = λ q f. h.least q (freed_fault before ss others (map freed ss) s q f) })
  bound_first before others (s ∷ ss) r (inr h) = inr (bound_none before ss others (map freed ss) s h.0, bound_first (s ∷ before) (freed s ∷ others) ss r h.1)

-- ---- lines within limits

ok_same : {A : Type 0} (x y : A) (found : Result A Refusal) → found ≡ Ok x → found ≡ Ok y → x ≡ y
ok_same x y found e f = cc

-- lines that the scan gives within limits have no fault, and form the same statements
lines_are : (limits : Limits) (bytes : List ℕ) (ss : List Lines) → lines_of limits bytes ≡ Ok ss → AreFaultless (LineFault limits) [] (lines_in bytes) × FormStatements (lines_in bytes) (map freed ss)
lines_are limits bytes ss e =
    (subst (IsAnswer (LineFault limits) [] (lines_in bytes)) e (lines_answer limits bytes), lines_formed bytes (map freed ss) (rw e at (lines_follow limits bytes)))

-- lines without a fault that form statements, the scan gives
record Scanned (limits : Limits) (bytes : List ℕ) (ss : List Lines) : Type 0 where
  lines : List Lines
  gives : lines_of limits bytes ≡ Ok lines
  same : ss ≡ map freed lines

scan_of : (limits : Limits) (bytes : List ℕ) (ss : List Lines) → AreFaultless (LineFault limits) [] (lines_in bytes) → FormStatements (lines_in bytes) ss → Scanned limits bytes ss
scan_of limits bytes ss none form =
    let found = lines_accepted limits bytes none in
    record { lines = found.0; gives = found.1; same = ok_same ss (map freed found.0) (lines_of no_limits bytes) (formed_lines bytes ss form) (rw found.1 at (lines_follow limits bytes)) }

-- ---- texts

module _ (mode : Mode) (bytes : List ℕ) (r : Refusal) where
  abbrev limits : Limits
  limits = limits_of mode

  pub first_scanned : FirstOfText mode bytes r → FirstScanned mode bytes r
  first_scanned (of_lines f) = in_lines f
  first_scanned (of_statements none ss form f) =
      let s = scan_of limits bytes ss none form in
      in_statements s.lines s.gives (bound_first limits [] [] s.lines r (subst (λ ts. IsFirst (StatementFault limits) [] ts r) s.same f))
  first_scanned (of_trees none stated form clear f) =
      let s = scan_of limits bytes form.lines none form.form in
      let sound = bound_faultless limits [] [] s.lines (subst (AreFaultless (StatementFault limits) []) s.same clear) in
      let found = statements_accepted limits s.lines sound in
      let same : found.0 ≡ stated =
      ok_same found.0 stated (all_stated no_limits (map freed s.lines)) (rw found.1 at (all_follow limits s.lines)) (stated_are (map freed s.lines) stated (subst (λ ts. AreStated ts stated) s.same form.are)) in
      in_trees stated (ap (λ ls. ls >>= all_stated limits) s.gives ∙ (found.1 ∙ ap Ok same)) f

  pub scanned_first : FirstScanned mode bytes r → FirstOfText mode bytes r
  scanned_first (in_lines f) = of_lines f
  scanned_first (in_statements ss e f) = let l = lines_are limits bytes ss e in of_statements l.0 (map freed ss) l.1 (freed_first limits [] [] ss r f)
  scanned_first (in_trees stated e f) =
      let a = bind_ok (lines_of limits bytes) (all_stated limits) stated e in
      let l = lines_are limits bytes a.0 a.1 in
      let clear : AreFaultless (StatementFault limits) [] a.0 = subst (IsAnswer (StatementFault limits) [] a.0) a.2 (statements_answer limits a.0) in
      of_trees l.0 stated
      (record { lines = map freed a.0; form = l.1; are = are_stated (map freed a.0) stated (rw a.2 at (all_follow limits a.0)) })
      (freed_faultless limits [] [] a.0 clear) f
