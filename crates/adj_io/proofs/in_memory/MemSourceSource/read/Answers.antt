-- What was copied and what is left then make what was left before.
use Rattle.std.proofs.Common.{◌-◌, ◌≤◌, Some, arith, take, drop, length, ap, ◌∙◌, sym}
use Rattle.adj_io.proofs.Pieces.{copied, slice_rest}
use Rattle.adj_io.proofs.in_memory.MemSourceSource.read.Goals as goal

pub returns-clause-bytes : goal.returns-clause-bytes
returns-clause-bytes c =
    let bytes = c.self.inside.bytes.items in
    let given = c.self.inside.given in
    let rest = ap (λ l. take (length l - given) (drop given l)) c.deref.ensures.value ∙ slice_rest bytes given in
    let copy = c.copy_from_slice.ensures.after ∙ ap (take c.min-count.result) rest in
    let within : c.min-count.result ≤ length (drop given bytes) = omega (arith, c.min-count.ensures, ap length rest) in
    ap Some (sym (ap (λ s. s.left) c.self.view_is) ∙ copied bytes c.copy_from_slice.new.self _ given c.min-count.result copy within)
