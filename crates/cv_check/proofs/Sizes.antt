-- The buffers of a written program have at most 2147483647 bytes.
use Rattle.std.proofs.Common.{◌≡◌, sym, subst, ℕ, ◌<◌, ◌≤◌, ◌^◌, List, [], ◌∷◌, length, Option, Some, arith, slice_index_or}
use Rattle.std.proofs.lemmas.List.Elements.{All-head, All-tail}
use Rattle.std.specs.List.{All}
use Rattle.cv_core.specs.Grammar.{IsProc, IsLocal, IsBody}
use Rattle.cv_core.specs.declared.program.Proc.{Proc}
use Rattle.cv_core.specs.declared.program.ProcBody.{ProcBody}
use Rattle.cv_core.specs.declared.program.Local.{Local}
use Rattle.cv_core.specs.declared.program.LocalBody.{LocalBody}
use Rattle.cv_core.specs.declared.program.LocalBody.TheVariants as local
use Rattle.cv_core.specs.Grammar.{IsLocalBody}
use Rattle.cv_check.specs.Accepted.{size_among}

first_small : (b : LocalBody) (rest : ℕ) → IsLocalBody b → rest < 2 ^ 31 → elim b [ local.Buffer n ↦ n | _ ↦ rest ] < 2 ^ 31
first_small (local.Buffer n) rest h k = h.1
first_small b rest h k = k

size_small : (ls : List Local) → All IsLocal ls → size_among ls < 2 ^ 31
size_small [] h = omega arith
size_small (l ∷ ls) h = first_small l.body (size_among ls) (All-head IsLocal l ls h).1 (size_small ls (All-tail IsLocal l ls h))

pub main_small : (procs : List Proc) (main d : Proc) (b : ProcBody) (n : ℕ) → All IsProc procs → 1 ≤ length procs → main ≡ slice_index_or procs 0 d →
    main.body ≡ Some b → n ≡ size_among b.locals → n < 2 ^ 31
main_small [] main d b n h le is has e = absurd (omega arith)
main_small (f ∷ fs) main d b n h le is has e =
    let B : Option ProcBody → Type 0 = IsBody in
    let M : Proc → Type 0 = λ m. IsBody m.body in
    let body : IsBody (Some b) = subst B has (subst M (sym is) (All-head IsProc f fs h).body) in
    let L : ℕ → Type 0 = λ k. k < 2 ^ 31 in
    subst L (sym e) (size_small b.locals body.0)

pub slice_small : (procs slice : List Proc) (main d : Proc) (b : ProcBody) (n : ℕ) → All IsProc procs → slice ≡ procs → 1 ≤ length slice → main ≡ slice_index_or slice 0 d →
    main.body ≡ Some b → n ≡ size_among b.locals → n < 2 ^ 31
slice_small procs slice main d b n h same le is has e =
    let P : List Proc → Type 0 = All IsProc in main_small slice main d b n (subst P (sym same) h) le is has e
