-- The memory at the start, object by object.
use Rattle.std.proofs.Common.{◌≡◌, refl, ap, ◌∙◌, ℕ, zero, suc, ◌+◌, List, [], ◌∷◌, ◌++◌, append_assoc, length, replicate, arith, ℤ, true}
use Rattle.std.proofs.lemmas.List.{length-append}
use Rattle.cv_core.specs.declared.program.Program.{Program}
use Rattle.cv_core.specs.declared.program.GlobalDecl.{GlobalDecl}
use Rattle.cv_core.specs.declared.program.Literal.{Literal}
use Rattle.cv_meaning.specs.declared.ends.Arg.{Arg}
use Rattle.cv_meaning.specs.declared.ends.Arg.TheVariants as arg
use Rattle.cv_meaning.specs.declared.memory.Object.{Object}
use Rattle.cv_meaning.specs.declared.memory.Body.TheVariants.{Buffer}
use Rattle.cv_meaning.specs.declared.memory.Ptr.TheVariants.{At}
use Rattle.cv_meaning.specs.declared.memory.Value.{Value}
use Rattle.cv_meaning.specs.declared.memory.Value.TheVariants as value
use Rattle.cv_meaning.specs.Clean.{literal_objects}
use Rattle.cv_meaning.specs.Memory.{Memory}
use Rattle.cv_interp.specs.Start.{arg_values, global_body, global_objects, out_objects}

pub replicate_more : (n x : ℕ) → replicate (n + 1) x ≡ replicate n x ++ x ∷ []
replicate_more zero x = refl
replicate_more (suc n) x = let e : suc n + 1 ≡ suc (n + 1) = omega arith in ap (λ k. replicate k x) e ∙ ap (λ ys. x ∷ ys) (replicate_more n x)

pub more_globals : (old new : Memory) (site : ℕ) (g : GlobalDecl) (gs : List GlobalDecl) → new ≡ old ++ record { site = site; live = true; body = global_body g.body } ∷ [] →
    new ++ global_objects (site + 1) gs ≡ old ++ global_objects site (g ∷ gs)
more_globals old new site g gs e =
    ap (λ m. m ++ global_objects (site + 1) gs) e ∙ append_assoc old (record { site = site; live = true; body = global_body g.body } ∷ []) (global_objects (site + 1) gs)

pub more_literals : (old new : Memory) (site : ℕ) (l : Literal) (ls : List Literal) → new ≡ old ++ record { site = site; live = true; body = Buffer (l.bytes ++ 0 ∷ []) } ∷ [] →
    new ++ literal_objects (site + 1) ls ≡ old ++ literal_objects site (l ∷ ls)
more_literals old new site l ls e =
    ap (λ m. m ++ literal_objects (site + 1) ls) e ∙ append_assoc old (record { site = site; live = true; body = Buffer (l.bytes ++ 0 ∷ []) } ∷ []) (literal_objects (site + 1) ls)

pub more_outs : (old new : Memory) (bytes : List ℕ) (args : List Arg) → new ≡ old ++ record { site = 0; live = true; body = Buffer (bytes ++ 0 ∷ []) } ∷ [] →
    new ++ out_objects args ≡ old ++ out_objects (arg.Text bytes ∷ args)
more_outs old new bytes args e =
    ap (λ m. m ++ out_objects args) e ∙ append_assoc old (record { site = 0; live = true; body = Buffer (bytes ++ 0 ∷ []) } ∷ []) (out_objects args)

pub first_outs : (old new : Memory) (x : Object) → new ≡ old ++ x ∷ [] → length new ≡ length old + 1
first_outs old new x e = ap length e ∙ length-append old (x ∷ [])

pub more_int : (old new : List Value) (n : ℕ) (z : ℤ) (args : List Arg) → new ≡ old ++ value.Int z ∷ [] → new ++ arg_values n args ≡ old ++ arg_values n (arg.Int z ∷ args)
more_int old new n z args e = ap (λ vs. vs ++ arg_values n args) e ∙ append_assoc old (value.Int z ∷ []) (arg_values n args)

pub more_text : (old new : List Value) (n k : ℕ) (bytes : List ℕ) (args : List Arg) → new ≡ old ++ value.Ptr (At n 0) ∷ [] → k ≡ n + 1 →
    new ++ arg_values k args ≡ old ++ arg_values n (arg.Text bytes ∷ args)
more_text old new n k bytes args e next =
    ap (λ vs. vs ++ arg_values k args) e ∙ ap (λ j. (old ++ value.Ptr (At n 0) ∷ []) ++ arg_values j args) next
    ∙ append_assoc old (value.Ptr (At n 0) ∷ []) (arg_values (n + 1) args)

globals_length : (site : ℕ) (gs : List GlobalDecl) → length (global_objects site gs) ≡ length gs
globals_length site [] = refl
globals_length site (g ∷ gs) = ap suc (globals_length (site + 1) gs)

literals_length : (site : ℕ) (ls : List Literal) → length (literal_objects site ls) ≡ length ls
literals_length site [] = refl
literals_length site (l ∷ ls) = ap suc (literals_length (site + 1) ls)

pub start_length : (P : Program) (m : Memory) (site : ℕ) → m ≡ global_objects 1 P.globals ++ literal_objects site P.literals → length m ≡ length P.globals + length P.literals
start_length P m site e =
    ap length e ∙ length-append (global_objects 1 P.globals) (literal_objects site P.literals)
    ∙ ap (λ n. n + length (literal_objects site P.literals)) (globals_length 1 P.globals) ∙ ap (λ n. length P.globals + n) (literals_length site P.literals)
